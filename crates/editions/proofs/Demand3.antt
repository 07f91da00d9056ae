-- Demand 3, once over all pairs of editions: for whole drains, and entry by entry. Assumes nothing.
use Rattle.std.specs.Prelude.{◌≡◌, List, Bool, true, ℕ, ◌+◌, ◌*◌, ◌<◌, ◌≤◌, length, get_or, take, drop}
use Rattle.std.proofs.Common.{sym, ap, ◌∙◌, arith}
use Rattle.meaning.specs.declared.Attributes.{Attributes}
use Rattle.meaning.specs.declared.Known.{Known}
use Rattle.meaning.specs.Bytes.{num, number_at, put}
use Rattle.meaning.specs.Editions.{allowed, known, outside}
use Rattle.meaning.specs.Records.{layout, judge}
use Rattle.meaning.specs.Ring.{asking, frame}
use Rattle.meaning.specs.Drain.{End, journal_kind, entry, entry_for, start, run, drain}
use Rattle.editions.specs.Fairness.{rising, Words, depends_of, Fair}
use Rattle.runs.specs.Cutting.{Cuts, cutting, entries, nothing_cut, record_of}
use Rattle.runs.proofs.Runs.{Beside, runs-beside}
use Rattle.runs.proofs.Entries.{journal-entry, answer_back, before-answer, after-answer, all_of}
use Rattle.runs.proofs.Forward.{frame-roomy}
use Rattle.editions.specs.Promise.{Demand3, EntryFair}
use Rattle.editions.proofs.InTable.{judge-small}
use Rattle.editions.proofs.OneRecord.{record-fair}
use Rattle.laws.specs.Put.{part_of}

-- of an edition that is one, the frames take just that
pub drain-allowed : (rows : List Known) (e : ℕ) → allowed rows e ≡ true → (a : Attributes) (ring : List ℕ) (head tail budget : ℕ) (journal scratch : List ℕ)
    → drain rows e a ring head tail budget journal scratch
    ≡ run (frame (asking true) ring head) (judge (layout (known rows e) a)) ring budget (start tail journal scratch)
drain-allowed rows e h a ring head tail budget journal scratch =
    ap (λ (b : Bool). run (frame (asking b) ring head) (judge (layout (known rows e) a)) ring budget (start tail journal scratch)) h

pub demand3 : (rows : List Known) → rising rows ≡ true → (e₁ e₂ : ℕ) → e₁ ≤ e₂ → allowed rows e₁ ≡ true → allowed rows e₂ ≡ true
    → (a : Attributes) → Words a
    → (ring : List ℕ) (head tail budget : ℕ) (journal scratch : List ℕ) → Demand3 rows e₁ e₂ a ring head tail budget journal scratch
demand3 rows u e₁ e₂ g h₁ h₂ a ws ring head tail budget journal scratch =
    let p = drain-allowed rows e₁ h₁ a ring head tail budget journal scratch in
    let q = drain-allowed rows e₂ h₂ a ring head tail budget journal scratch in
    let j₁ : List ℕ → ℕ = judge (layout (known rows e₁) a) in
    let j₂ : List ℕ → ℕ = judge (layout (known rows e₂) a) in
    record {
      beside = rw (p, q) (runs-beside (frame (asking true) ring head) (frame-roomy (asking true) ring head) ring tail budget journal scratch j₁ j₂);
      fair = all_of _ (λ c. record-fair rows u e₁ e₂ g h₂ a ws c.record-bytes) (cutting ring head tail budget (length journal) scratch).records;
    }

-- ---- entry by entry, on the bytes of the two journals

-- a part of entry i is that part of the journal
in_entry : (journal e : List ℕ) (i m n : ℕ) → m + n ≤ 16 → take 16 (drop (16 * i) journal) ≡ e → take n (drop (16 * i + m) journal) ≡ take n (drop m e)
in_entry journal e i m n h q = sym (part_of (16 * i) m n 16 journal h) ∙ ap (λ (l : List ℕ). take n (drop m l)) q

-- its answer
pub answer-in : (judge : List ℕ → ℕ) (journal r : List ℕ) (i tail : ℕ) → judge r < 65536 → take 16 (drop (16 * i) journal) ≡ entry_for judge r tail → number_at 2 journal (16 * i + 6) ≡ judge r
answer-in judge journal r i tail b p = ap num (in_entry journal (entry_for judge r tail) i 6 2 (omega arith) p) ∙ answer_back (journal_kind r) (judge r) tail b

pub entry-fair : (older newer r : List ℕ) (i tail : ℕ) (judge₁ judge₂ : List ℕ → ℕ) (out : Bool)
    → judge₁ r < 65536 → judge₂ r < 65536 → Fair (judge₁ r) (judge₂ r) out
    → take 16 (drop (16 * i) older) ≡ entry_for judge₁ r tail → take 16 (drop (16 * i) newer) ≡ entry_for judge₂ r tail
    → EntryFair older newer i out
unfolding entry
entry-fair older newer r i tail judge₁ judge₂ out b₁ b₂ f p q =
    let x : List ℕ = entry_for judge₁ r tail in
    let y : List ℕ = entry_for judge₂ r tail in
    let z : 16 * i + 0 ≡ 16 * i = omega arith in
    record {
      before = ap (λ (k : ℕ). take 6 (drop k older)) (sym z) ∙ in_entry older x i 0 6 (omega arith) p ∙ before-answer (journal_kind r) (judge₁ r) (judge₂ r) tail
          ∙ sym (in_entry newer y i 0 6 (omega arith) q) ∙ ap (λ (k : ℕ). take 6 (drop k newer)) z;
      fair = rw (answer-in judge₁ older r i tail b₁ p, answer-in judge₂ newer r i tail b₂ q) f;
      after = in_entry older x i 8 8 (omega arith) p ∙ ap (take 8) (after-answer (journal_kind r) (judge₁ r) (judge₂ r) tail) ∙ sym (in_entry newer y i 8 8 (omega arith) q);
    }

-- of any two runs over the records of one cutting, by judges that are fair record by record
pub entries-fair : (w : Cuts) (j₁ j₂ : List ℕ → ℕ) (out : List ℕ → Bool) (journal : List ℕ) (older newer : End) → Beside w j₁ j₂ journal older newer
    → ((r : List ℕ) → j₁ r < 65536) → ((r : List ℕ) → j₂ r < 65536) → ((r : List ℕ) → Fair (j₁ r) (j₂ r) (out r))
    → (i : ℕ) → i < older.state.taken → EntryFair older.state.journal newer.state.journal i (out (record_of w i))
entries-fair w j₁ j₂ out journal older newer d small₁ small₂ fair i l =
    let r : List ℕ = record_of w i in
    let m : i < length w.records = omega (arith, l, d.count) in
    rw (d.older-journal, d.newer-journal)
    (entry-fair (put journal 0 (entries j₁ w.records)) (put journal 0 (entries j₂ w.records)) r i (get_or w.records i nothing_cut).tail j₁ j₂ _
    (small₁ r) (small₂ r) (fair r)
    (journal-entry j₁ w.records journal d.fits i nothing_cut m) (journal-entry j₂ w.records journal d.fits i nothing_cut m))

pub demand3-entry : (rows : List Known) → rising rows ≡ true → (e₁ e₂ : ℕ) → e₁ ≤ e₂ → allowed rows e₁ ≡ true → allowed rows e₂ ≡ true
    → (a : Attributes) → Words a
    → (ring : List ℕ) (head tail budget : ℕ) (journal scratch : List ℕ) (i : ℕ) → i < (drain rows e₁ a ring head tail budget journal scratch).state.taken
    → EntryFair (drain rows e₁ a ring head tail budget journal scratch).state.journal (drain rows e₂ a ring head tail budget journal scratch).state.journal i
    (outside (known rows e₁) (depends_of a (record_of (cutting ring head tail budget (length journal) scratch) i)))
demand3-entry rows u e₁ e₂ g h₁ h₂ a ws ring head tail budget journal scratch =
    entries-fair (cutting ring head tail budget (length journal) scratch) (judge (layout (known rows e₁) a)) (judge (layout (known rows e₂) a))
    (λ (r : List ℕ). outside (known rows e₁) (depends_of a r)) journal _ _ (demand3 rows u e₁ e₂ g h₁ h₂ a ws ring head tail budget journal scratch).beside
    (judge-small (known rows e₁) a) (judge-small (known rows e₂) a) (record-fair rows u e₁ e₂ g h₂ a ws)
