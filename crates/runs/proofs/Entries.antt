-- The journal of a run, entry by entry. Assumes nothing.
use Rattle.std.specs.Prelude.{◌≡◌, refl, List, [], ◌∷◌, ◌++◌, ℕ, zero, suc, ◌+◌, ◌*◌, ◌^◌, ◌<◌, ◌≤◌, length, get_or, take, drop}
use Rattle.std.proofs.Common.{sym, ap, ap₂, ◌∙◌, zero-add, arith, length-drop}
use Rattle.std.proofs.lemmas.List.{take-append-le, drop-append-le}
use Rattle.std.proofs.Math.Seq.{drop-append_seam, drop-append-add}
use Rattle.meaning.specs.States.{Frame}
use Rattle.meaning.specs.Bytes.{number_at, spell, put}
use Rattle.meaning.specs.Drain.{End, start, run, journal_kind, entry, entry_for}
use Rattle.laws.specs.Bytes.{num-spell}
use Rattle.laws.specs.Put.{put-start}
use Rattle.runs.specs.Cutting.{Cut, Cuts, begin, cut_by, entries, All, end_at, nothing_cut}
use Rattle.runs.proofs.Runs.{Roomy, length-entries, run-cut, cut_fits}

-- entry i is that of record i
pub entry-at : (judge : List ℕ → ℕ) (cs : List Cut) (i : ℕ) (d : Cut) → i < length cs
    → take 16 (drop (16 * i) (entries judge cs)) ≡ entry_for judge (get_or cs i d).record-bytes (get_or cs i d).tail
unfolding entries entry spell
entry-at judge [] i d h = absurd (omega arith)
entry-at judge (c ∷ cs) zero d h = refl
entry-at judge (c ∷ cs) (suc i) d h =
    let e : 16 * suc i ≡ 16 + 16 * i = omega arith in
    ap (λ (k : ℕ). take 16 (drop k (entry_for judge c.record-bytes c.tail ++ entries judge cs))) e
    ∙ ap (take 16) (drop-append-add (entry_for judge c.record-bytes c.tail) (entries judge cs) (16 * i))
    ∙ entry-at judge cs i d (omega arith)

-- the same of a journal that they were put into; what follows them is unchanged
module _ (judge : List ℕ → ℕ) (cs : List Cut) (journal : List ℕ) (fits : 16 * length cs ≤ length journal) where
  pub journal-entry : (i : ℕ) (d : Cut) → i < length cs
      → take 16 (drop (16 * i) (put journal 0 (entries judge cs))) ≡ entry_for judge (get_or cs i d).record-bytes (get_or cs i d).tail
  journal-entry i d h =
      let es : List ℕ = entries judge cs in
      let l : length es ≡ 16 * length cs = length-entries judge cs in
      ap (λ (x : List ℕ). take 16 (drop (16 * i) x)) (put-start journal es (omega arith))
      ∙ ap (take 16) (drop-append-le (16 * i) es (drop (length es) journal) (omega arith))
      ∙ take-append-le 16 (drop (16 * i) es) (drop (length es) journal) (omega (arith, length-drop (16 * i) es))
      ∙ entry-at judge cs i d h

  pub journal-rest : drop (16 * length cs) (put journal 0 (entries judge cs)) ≡ drop (16 * length cs) journal
  journal-rest =
      let es : List ℕ = entries judge cs in
      let l : length es ≡ 16 * length cs = length-entries judge cs in
      ap (λ (x : List ℕ). drop (16 * length cs) x) (put-start journal es (omega arith))
      ∙ ap (λ (k : ℕ). drop k (es ++ drop (length es) journal)) (sym l)
      ∙ drop-append_seam es (drop (length es) journal)
      ∙ ap (λ (k : ℕ). drop k journal) l

-- an entry's answer reads back; its other fourteen bytes do not depend on it
pub answer_back : (kind answer tail : ℕ) → answer < 2 ^ 16 → number_at 2 (entry kind answer tail) 6 ≡ answer
unfolding entry spell
answer_back kind answer tail h = num-spell 2 answer h

pub before-answer : (kind x y tail : ℕ) → take 6 (entry kind x tail) ≡ take 6 (entry kind y tail)
unfolding entry spell
before-answer kind x y tail = refl

pub after-answer : (kind x y tail : ℕ) → drop 8 (entry kind x tail) ≡ drop 8 (entry kind y tail)
unfolding entry spell
after-answer kind x y tail = refl

-- ---- of a run: "For each record taken it writes one journal entry"; "Journal bytes after the last entry are unchanged"
module _ (frame : ℕ → ℕ → ℕ → ℕ → Frame) (roomy : Roomy frame) (judge : List ℕ → ℕ) (ring : List ℕ) (tail budget : ℕ) (journal scratch : List ℕ) where
  abbrev end : End
  end = run frame judge ring budget (start tail journal scratch)

  abbrev cuts : Cuts
  cuts = cut_by frame ring budget (begin tail (length journal) scratch)

  pub run-count : end.state.taken ≡ length cuts.records
  run-count = ap (λ (x : End). x.state.taken) (run-cut frame roomy ring tail budget journal scratch judge) ∙ zero-add (length cuts.records)

  -- entry i has the type, the answer and the tail of record i
  pub run-entry : (i : ℕ) → i < end.state.taken
      → take 16 (drop (16 * i) end.state.journal) ≡ entry_for judge (get_or cuts.records i nothing_cut).record-bytes (get_or cuts.records i nothing_cut).tail
  run-entry i h =
      ap (λ (x : End). take 16 (drop (16 * i) x.state.journal)) (run-cut frame roomy ring tail budget journal scratch judge)
      ∙ journal-entry judge cuts.records journal (cut_fits frame roomy ring tail budget journal scratch) i nothing_cut (omega (arith, h, run-count))

  pub run-rest : drop (16 * end.state.taken) end.state.journal ≡ drop (16 * end.state.taken) journal
  run-rest =
      ap (λ (k : ℕ). drop (16 * k) end.state.journal) run-count
      ∙ ap (λ (x : End). drop (16 * length cuts.records) x.state.journal) (run-cut frame roomy ring tail budget journal scratch judge)
      ∙ journal-rest judge cuts.records journal (cut_fits frame roomy ring tail budget journal scratch)
      ∙ ap (λ (k : ℕ). drop (16 * k) journal) (sym run-count)

-- ---- of all records, and of one
pub all_map : (P Q : Cut → Type 0) → ((c : Cut) → P c → Q c) → (cs : List Cut) → All P cs → All Q cs
all_map P Q f [] h = tt
all_map P Q f (c ∷ cs) h = (f c h.0, all_map P Q f cs h.1)

pub all_of : (P : Cut → Type 0) → ((c : Cut) → P c) → (cs : List Cut) → All P cs
all_of P h [] = tt
all_of P h (c ∷ cs) = (h c, all_of P h cs)

pub all-at : (P : Cut → Type 0) (cs : List Cut) (i : ℕ) → All P cs → i < length cs → P (get_or cs i nothing_cut)
all-at P [] i a h = absurd (omega arith)
all-at P (c ∷ cs) zero a h = a.0
all-at P (c ∷ cs) (suc i) a h = all-at P cs i a.1 (omega arith)

-- ---- judges that agree on the records of a ring
entries-same : (j₁ j₂ : List ℕ → ℕ) (cs : List Cut) → All (λ (c : Cut). j₁ c.record-bytes ≡ j₂ c.record-bytes) cs → entries j₁ cs ≡ entries j₂ cs
unfolding entries
entries-same j₁ j₂ [] h = refl
entries-same j₁ j₂ (c ∷ cs) h = ap₂ (λ (n : ℕ) (l : List ℕ). entry (journal_kind c.record-bytes) n c.tail ++ l) h.0 (entries-same j₁ j₂ cs h.1)

module _ (frame : ℕ → ℕ → ℕ → ℕ → Frame) (roomy : Roomy frame) (ring : List ℕ) (tail budget : ℕ) (journal scratch : List ℕ) where
  abbrev found : Cuts
  found = cut_by frame ring budget (begin tail (length journal) scratch)

  -- end alike
  pub runs_same : (j₁ j₂ : List ℕ → ℕ) → All (λ (c : Cut). j₁ c.record-bytes ≡ j₂ c.record-bytes) found.records
      → run frame j₁ ring budget (start tail journal scratch) ≡ run frame j₂ ring budget (start tail journal scratch)
  runs_same j₁ j₂ h =
      run-cut frame roomy ring tail budget journal scratch j₁
      ∙ ap (λ (l : List ℕ). end_at found (0 + length found.records) (put journal (16 * 0) l)) (entries-same j₁ j₂ found.records h)
      ∙ sym (run-cut frame roomy ring tail budget journal scratch j₂)
