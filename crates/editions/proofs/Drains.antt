-- The laws of a run, at the drain of a table of editions: its judge is the layout's. Assumes nothing.
use Rattle.std.specs.Prelude.{◌≡◌, true, List, ℕ, ◌*◌, ◌^◌, ◌<◌, length, get_or, take, drop}
use Rattle.meaning.specs.declared.Attributes.{Attributes}
use Rattle.meaning.specs.declared.Known.{Known}
use Rattle.meaning.specs.Editions.{allowed, known}
use Rattle.meaning.specs.Records.{layout, judge, check}
use Rattle.meaning.specs.Ring.{asked_of, frame}
use Rattle.meaning.specs.Drain.{start, drain, entry_for}
use Rattle.runs.specs.Cutting.{Cut, cutting_by, All, end_of, nothing_cut, framed}
use Rattle.runs.proofs.Runs.{run-cut}
use Rattle.runs.proofs.Entries.{run-entry, run-rest, all_map}
use Rattle.runs.proofs.Forward.{Counted, frame-roomy, run-counted}
use Rattle.editions.proofs.OneRecord.{check-framed}

module _ (rows : List Known) (e : ℕ) (a : Attributes) (ring : List ℕ) (head tail budget : ℕ) (journal scratch : List ℕ) where
  pub drain-cutting : drain rows e a ring head tail budget journal scratch
      ≡ end_of (judge (layout (known rows e) a)) (start tail journal scratch) (cutting_by (asked_of rows e) ring head tail budget (length journal) scratch)
  drain-cutting = run-cut (frame (asked_of rows e) ring head) (frame-roomy (asked_of rows e) ring head) ring tail budget journal scratch (judge (layout (known rows e) a))

  -- entry i has the type, the answer and the tail of record i
  pub drain-entry : (i : ℕ) → i < (drain rows e a ring head tail budget journal scratch).state.taken
      → take 16 (drop (16 * i) (drain rows e a ring head tail budget journal scratch).state.journal)
      ≡ entry_for (judge (layout (known rows e) a))
      (get_or (cutting_by (asked_of rows e) ring head tail budget (length journal) scratch).records i nothing_cut).record-bytes
      (get_or (cutting_by (asked_of rows e) ring head tail budget (length journal) scratch).records i nothing_cut).tail
  drain-entry = run-entry (frame (asked_of rows e) ring head) (frame-roomy (asked_of rows e) ring head) (judge (layout (known rows e) a)) ring tail budget journal scratch

  pub drain_rest : drop (16 * (drain rows e a ring head tail budget journal scratch).state.taken) (drain rows e a ring head tail budget journal scratch).state.journal
      ≡ drop (16 * (drain rows e a ring head tail budget journal scratch).state.taken) journal
  drain_rest = run-rest (frame (asked_of rows e) ring head) (frame-roomy (asked_of rows e) ring head) (judge (layout (known rows e) a)) ring tail budget journal scratch

  pub drain-counted : head < 2 ^ 64 → tail < 2 ^ 64
      → Counted (asked_of rows e) ring head tail budget journal scratch (cutting_by (asked_of rows e) ring head tail budget (length journal) scratch)
      (drain rows e a ring head tail budget journal scratch)
  drain-counted = run-counted (asked_of rows e) (judge (layout (known rows e) a)) ring head tail budget journal scratch

  -- every answer that a drain writes is the record check's for those bytes
  pub drain-checked : allowed rows e ≡ true → head < 2 ^ 64 → tail < 2 ^ 64
      → All (λ (c : Cut). check rows e a c.record-bytes ≡ judge (layout (known rows e) a) c.record-bytes)
      (cutting_by (asked_of rows e) ring head tail budget (length journal) scratch).records
  drain-checked h hd tl =
      all_map (λ (c : Cut). framed c.record-bytes ≡ true) _ (λ c f. check-framed rows e h a c.record-bytes f)
      (cutting_by (asked_of rows e) ring head tail budget (length journal) scratch).records (drain-counted hd tl).shaped
