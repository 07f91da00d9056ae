-- M-111, "Salvage of damaged images", in its own words: of the result and the two buffers that `ollskuvan_salvage` is proved equal to, `salvage_told`, `salvage_out`
-- and `salvage_list`. Assumes nothing.
use Rattle.std.specs.Prelude.{◌≡◌, true, false, List, ◌⊎◌, ℕ, ◌+◌, ◌*◌, ◌^◌, ◌<◌, ◌≤◌, length, take, drop}
use Rattle.std.proofs.Common.{sym, ap, ◌∙◌, subst, arith}
use Rattle.meaning.specs.declared.Event.{Event}
use Rattle.meaning.specs.Editions.{editions, allowed}
use Rattle.meaning.specs.Events.{sound}
use Rattle.runs.proofs.Streams.{joined}
use Rattle.salvage.specs.declared.Salvaged.{Salvaged}
use Rattle.salvage.specs.Salvage.{pieces, kept_records, output, holes, dropped, changes, salvage_answer, tells, table_unready, table_judge, salvage_told, salvage_out, salvage_list}
use Rattle.salvage.proofs.Steps.{AllAccepted}
use Rattle.salvage.proofs.Holes.{Spaced, without}
use Rattle.salvage.proofs.Cover as cover
use Rattle.salvage.proofs.Promises as laws
use Rattle.salvage.proofs.Turns.{unready-2, unready-11, unready-0, answer-before, answer-54, answer-0}

module _ (limit e : ℕ) (es : List Event) (xs : List ℕ) where
  abbrev judge : List ℕ → ℕ
  judge = table_judge editions e es

  abbrev told : List ℕ → List ℕ → Salvaged
  told = salvage_told limit editions e es xs

  abbrev out_then : List ℕ → List ℕ → List ℕ
  out_then = salvage_out limit editions e es xs

  abbrev list_then : List ℕ → List ℕ → List ℕ
  list_then = salvage_list limit editions e es xs

  -- ---- "At each place: .. keep the record; otherwise drop 8 bytes"

  -- every byte of the input is in exactly one record that is kept or one run that is dropped
  pub each-byte-once : (p : ℕ) → p < length xs → cover.covering p (cover.places judge xs) + cover.covering p (holes judge xs) ≡ 1
  each-byte-once = cover.each-byte-once judge xs

  -- the records that are kept are the input's bytes at those places, each framed and accepted, and the output is they, end to end
  pub records-there : (cover.bytes_at xs (cover.places judge xs) ≡ kept_records judge xs) × AllAccepted judge (kept_records judge xs) × (output judge xs ≡ joined (kept_records judge xs))
  records-there = (cover.records-there judge xs, laws.kept-are-accepted judge xs, λ i. output judge xs)

  -- "one M-103 entry of kind 32 for each longest dropped run": runs ascend, lie inside the input and never touch; the byte before one and the byte after it are not
  -- dropped; and the output is the input without them
  pub runs-apart : Spaced 0 (holes judge xs) (length xs)
  runs-apart = laws.holes-spaced judge xs

  pub runs-longest : cover.AllRuns (cover.Longest (holes judge xs)) (holes judge xs)
  runs-longest = cover.longest (length xs) (holes judge xs) (laws.holes-spaced judge xs)

  pub output-is-rest : output judge xs ≡ without 0 (holes judge xs) xs
  output-is-rest = laws.output-is-rest judge xs

  -- a pass tries one place for each 8 bytes at most, whatever the headers claim
  pub tries : 8 * length (pieces judge (length xs) xs) ≤ length xs + 7
  tries = cover.tries judge xs

  -- ---- the answers: "refusals 2, then 11", then 54
  module _ (out list : List ℕ) where
    answer : (told out list).answer ≡ salvage_answer (table_unready limit editions e es) judge xs (length out) (length list)
    answer = laws.told-answer (table_unready limit editions e es) judge xs (length out) (length list)

    pub no-edition : allowed editions e ≡ false → (told out list).answer ≡ 2
    no-edition h =
        answer ∙ answer-before (table_unready limit editions e es) judge xs (length out) (length list) 2 (omega arith) (unready-2 (allowed editions e) (sound limit es) h)

    pub no_table : allowed editions e ≡ true → sound limit es ≡ false → (told out list).answer ≡ 11
    no_table h k =
        answer ∙ answer-before (table_unready limit editions e es) judge xs (length out) (length list) 11 (omega arith) (unready-11 (allowed editions e) (sound limit es) h k)

    -- "No room in either buffer is 54"; exact room suffices
    module _ (h : allowed editions e ≡ true) (k : sound limit es ≡ true) where
      pub no_room : (length out < length (output judge xs)) ⊎ (length list < 22 * length (holes judge xs)) → (told out list).answer ≡ 54
      no_room r =
          answer
          ∙ answer-54 (table_unready limit editions e es) judge xs (length out) (length list) (unready-0 (allowed editions e) (sound limit es) h k)
          (subst (λ (n : ℕ). (length out < length (output judge xs)) ⊎ (length list < n)) (sym (laws.changes-length (holes judge xs))) r)

      pub room-suffices : length (output judge xs) ≤ length out → 22 * length (holes judge xs) ≤ length list → (told out list).answer ≡ 0
      room-suffices p q =
          answer
          ∙ answer-0 (table_unready limit editions e es) judge xs (length out) (length list) (unready-0 (allowed editions e) (sound limit es) h k) p
          (omega (arith, laws.changes-length (holes judge xs)))

    -- ---- "found before anything is written": refused, the answer alone is told, and both buffers are as they were
    pub record Refused : Type 0 where
      pub zeros : told out list ≡ tells 0 0 0 (told out list).answer
      pub out-same : out_then out list ≡ out
      pub list_same : list_then out list ≡ list

    pub refused : ((told out list).answer ≡ 0 → ⊥) → Refused
    refused h =
        let r : salvage_answer (table_unready limit editions e es) judge xs (length out) (length list) ≡ 0 → ⊥ = λ z. h (answer ∙ z) in
        let u = laws.refused-untouched (table_unready limit editions e es) judge xs out list r in
        record {
          zeros = laws.told-refused (table_unready limit editions e es) judge xs (length out) (length list) r ∙ ap (tells 0 0 0) (sym answer);
          out-same = u.out-same;
          list_same = u.list_same;
        }

    -- ---- accepted: what was told was written, and past it both buffers are as they were. "Bytes kept and bytes dropped add up to the input, each summed from the
    -- output and the list": the output's length, and the lengths that the list's entries hold in the buffer
    pub record Accepted : Type 0 where
      pub out-there : take (told out list).kept (out_then out list) ≡ output judge xs
      pub out-rest : drop (told out list).kept (out_then out list) ≡ drop (told out list).kept out
      pub list-there : take (told out list).changes (list_then out list) ≡ changes (holes judge xs)
      pub list-rest : drop (told out list).changes (list_then out list) ≡ drop (told out list).changes list
      pub kept-sum : (told out list).kept ≡ length (output judge xs)
      pub dropped-sum : length xs < 256 ^ 8 → (told out list).dropped ≡ laws.told_dropped (length (holes judge xs)) (list_then out list)
      pub entries : (told out list).changes ≡ 22 * length (holes judge xs)
      pub sum : (told out list).kept + (told out list).dropped ≡ length xs

    pub accepted : (told out list).answer ≡ 0 → Accepted
    accepted h =
        let z : salvage_answer (table_unready limit editions e es) judge xs (length out) (length list) ≡ 0 = sym answer ∙ h in
        let t = laws.told-accepted (table_unready limit editions e es) judge xs (length out) (length list) z in
        let w = laws.accepted-written (table_unready limit editions e es) judge xs out list z in
        let k : (told out list).kept ≡ length (output judge xs) = ap (λ (x : Salvaged). x.kept) t in
        let d : (told out list).dropped ≡ dropped (holes judge xs) = ap (λ (x : Salvaged). x.dropped) t in
        let n : (told out list).changes ≡ 22 * length (holes judge xs) = ap (λ (x : Salvaged). x.changes) t ∙ laws.changes-length (holes judge xs) in
        record {
          out-there = ap (λ (m : ℕ). take m (out_then out list)) k ∙ w.out-there;
          out-rest = ap (λ (m : ℕ). drop m (out_then out list)) k ∙ w.out-rest ∙ ap (λ (m : ℕ). drop m out) (sym k);
          list-there = ap (λ (m : ℕ). take m (list_then out list)) n ∙ w.list-there;
          list-rest = ap (λ (m : ℕ). drop m (list_then out list)) n ∙ w.list-rest ∙ ap (λ (m : ℕ). drop m list) (sym n);
          kept-sum = k;
          dropped-sum = λ (b : length xs < 256 ^ 8). omega (arith, d, w.sum b, laws.kept-and-dropped judge xs);
          entries = n;
          sum = omega (arith, k, d, laws.kept-and-dropped judge xs);
        }

    -- "salvaging the result again changes nothing": the bytes that were kept, in buffers with room for them
    pub salvaged-again : (told out list).answer ≡ 0 → (out₂ list₂ : List ℕ) → (told out list).kept ≤ length out₂
        → laws.Back (table_unready limit editions e es) judge (take (told out list).kept (out_then out list)) out₂ list₂
    salvaged-again h out₂ list₂ r =
        let a = accepted h in
        let f = laws.accepted-fits (table_unready limit editions e es) judge xs (length out) (length list) (sym answer ∙ h) in
        subst (λ (ys : List ℕ). laws.Back (table_unready limit editions e es) judge ys out₂ list₂) (sym a.out-there)
        (laws.comes_back (table_unready limit editions e es) judge (output judge xs) out₂ list₂ f.ready (laws.salvage-again judge xs) (omega (arith, a.kept-sum)))

-- "A stream of accepted records from end to end comes back byte for byte with an empty list"
pub accepted-stream : (limit e : ℕ) (es : List Event) → allowed editions e ≡ true → sound limit es ≡ true
    → (rs : List (List ℕ)) → AllAccepted (table_judge editions e es) rs → (out list : List ℕ) → length (joined rs) ≤ length out
    → laws.Back (table_unready limit editions e es) (table_judge editions e es) (joined rs) out list
accepted-stream limit e es h k rs a out list r =
    laws.comes_back (table_unready limit editions e es) (table_judge editions e es) (joined rs) out list (unready-0 (allowed editions e) (sound limit es) h k)
    (laws.accepted-stream (table_judge editions e es) rs a) r
