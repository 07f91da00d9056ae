-- Demand 1: "A stop moves no tail past the record it stopped at; a record refused for its body is passed over; both change only the buffers that
-- 01 names." And every stop and answer of a drain and of the reader of one record is a number of the table. Assumes nothing.
use Rattle.std.specs.Prelude.{◌≡◌, refl, List, Bool, true, false, cond, ℕ, suc, ◌+◌, ◌-◌, ◌*◌, ◌%◌, ◌^◌, length}
use Rattle.std.proofs.Math.Path.{ap}
use Rattle.std.proofs.Common.{◌∙◌, arith, ne_eqb}
use Rattle.meaning.specs.declared.Attributes.{Attributes}
use Rattle.meaning.specs.States.{Frame, One}
use Rattle.meaning.specs.declared.Known.{Known}
use Rattle.meaning.specs.Bytes.{zeros}
use Rattle.meaning.specs.Editions.{allowed, known, is_in}
use Rattle.meaning.specs.Records.{layout, judge}
use Rattle.meaning.specs.Values.{read_answered}
use Rattle.meaning.specs.Ring.{asked_of, frame, record_at, scratch_after, one_frame, taken, not_taken, read_one, one_scratch}
use Rattle.meaning.specs.Drain.{start, ended, frame_at, after, run, drain}
use Rattle.editions.specs.Numbers.{record_numbers, stop_numbers}
use Rattle.editions.proofs.InTable.{judge-in, frame-in}
use Rattle.laws.specs.Rings.{run-go, run-stop}
use Rattle.runs.proofs.Runs.{run_in}

-- ---- a drain

-- a stop moves nothing: tail, counts, journal and scratch are the caller's
pub drain-stop : (rows : List Known) (e : ℕ) (a : Attributes) (ring : List ℕ) (head tail budget : ℕ) (journal scratch : List ℕ)
    → (frame (asked_of rows e) ring head tail budget (length journal) (length scratch)).go ≡ false
    → drain rows e a ring head tail budget journal scratch
    ≡ ended (start tail journal scratch) (frame (asked_of rows e) ring head tail budget (length journal) (length scratch))
drain-stop rows e a ring head tail budget journal scratch g =
    let z : length journal - 16 * 0 ≡ length journal = omega arith in
    let q : frame_at (frame (asked_of rows e) ring head) budget (start tail journal scratch) ≡ frame (asked_of rows e) ring head tail budget (length journal) (length scratch) =
    ap (λ (k : ℕ). frame (asked_of rows e) ring head tail budget k (length scratch)) z in
    run-stop (frame (asked_of rows e) ring head) (judge (layout (known rows e) a)) ring budget (start tail journal scratch) (ap (λ (f : Frame). f.go) q ∙ g)
    ∙ ap (ended (start tail journal scratch)) q

-- a record that is taken moves the tail by its size, whatever its answer is; then the drain goes on with one less of the budget
pub drain-go : (rows : List Known) (e : ℕ) (a : Attributes) (ring : List ℕ) (head tail budget : ℕ) (journal scratch : List ℕ)
    → (frame_at (frame (asked_of rows e) ring head) (suc budget) (start tail journal scratch)).go ≡ true
    → drain rows e a ring head tail (suc budget) journal scratch
    ≡ run (frame (asked_of rows e) ring head) (judge (layout (known rows e) a)) ring budget
    (after (judge (layout (known rows e) a)) ring (start tail journal scratch) (frame_at (frame (asked_of rows e) ring head) (suc budget) (start tail journal scratch)))
drain-go rows e a ring head tail budget journal scratch g =
    run-go (frame (asked_of rows e) ring head) (judge (layout (known rows e) a)) ring budget (start tail journal scratch) g

pub drain-in : (rows : List Known) (e : ℕ) (a : Attributes) (ring : List ℕ) (head tail budget : ℕ) (journal scratch : List ℕ)
    → is_in (drain rows e a ring head tail budget journal scratch).stop stop_numbers ≡ true
drain-in rows e a ring head tail budget journal scratch =
    run_in stop_numbers (frame (asked_of rows e) ring head) (judge (layout (known rows e) a)) ring (frame-in (allowed rows e) ring head) budget (start tail journal scratch)

-- ---- the reader of one record
module _ (rows : List Known) (e : ℕ) (a : Attributes) (ring : List ℕ) (head tail : ℕ) (scratch : List ℕ) where
  pub one-frame : (read_one rows e a ring head tail scratch).frame ≡ one_frame rows e ring head tail scratch
  unfolding read_one taken not_taken
  one-frame = by (one_frame rows e ring head tail scratch).go
    where
      f : Frame
      f = one_frame rows e ring head tail scratch

      by : (b : Bool) → (cond b (taken (layout (known rows e) a) f (record_at ring f.place f.size) tail) (not_taken f tail)).frame ≡ f
      by true = refl
      by false = refl

  -- a stop moves nothing, and shows no value
  pub one-stop : (one_frame rows e ring head tail scratch).go ≡ false
      → (read_one rows e a ring head tail scratch ≡ not_taken (one_frame rows e ring head tail scratch) tail) × (one_scratch rows e ring head tail scratch ≡ scratch)
  unfolding read_one one_scratch
  one-stop g = (rw g, rw g)

  pub one-stop-tail : (one_frame rows e ring head tail scratch).go ≡ false → (read_one rows e a ring head tail scratch).tail ≡ tail
  unfolding not_taken
  one-stop-tail g = ap (λ (x : One). x.tail) (one-stop g).0

  -- a record that is taken moves the tail by its size, whatever its answer is
  pub one-taken : (one_frame rows e ring head tail scratch).go ≡ true
      → (read_one rows e a ring head tail scratch
      ≡ taken (layout (known rows e) a) (one_frame rows e ring head tail scratch)
      (record_at ring (one_frame rows e ring head tail scratch).place (one_frame rows e ring head tail scratch).size) tail)
      × (one_scratch rows e ring head tail scratch
      ≡ scratch_after ring (one_frame rows e ring head tail scratch).place (one_frame rows e ring head tail scratch).size scratch)
  unfolding read_one one_scratch
  one-taken g = (rw g, rw g)

  pub one-taken-tail : (one_frame rows e ring head tail scratch).go ≡ true
      → (read_one rows e a ring head tail scratch).tail ≡ (tail + (one_frame rows e ring head tail scratch).size) % 2 ^ 64
  unfolding taken
  one-taken-tail g = ap (λ (x : One). x.tail) (one-taken g).0

  -- the stop is a number of the table, and so is the answer
  pub one-stop-in : is_in (read_one rows e a ring head tail scratch).frame.stop stop_numbers ≡ true
  one-stop-in = rw one-frame (frame-in (allowed rows e) ring head tail 1 16 (length scratch))

  pub one_in : is_in (read_one rows e a ring head tail scratch).answer record_numbers ≡ true
  unfolding read_one taken not_taken
  one_in = by (one_frame rows e ring head tail scratch).go
    where
      f : Frame
      f = one_frame rows e ring head tail scratch

      by : (b : Bool)
          → is_in (cond b (taken (layout (known rows e) a) f (record_at ring f.place f.size) tail) (not_taken f tail)).answer record_numbers ≡ true
      by true = judge-in (known rows e) a (record_at ring f.place f.size)
      by false = refl

  -- "A body refusal carries its number and no value"
  pub one-refused : ((read_one rows e a ring head tail scratch).answer ≡ 0 → ⊥) → (read_one rows e a ring head tail scratch).words ≡ zeros 56
  unfolding read_one taken not_taken read_answered
  one-refused = by (one_frame rows e ring head tail scratch).go
    where
      f : Frame
      f = one_frame rows e ring head tail scratch

      by : (b : Bool) → ((cond b (taken (layout (known rows e) a) f (record_at ring f.place f.size) tail) (not_taken f tail)).answer ≡ 0 → ⊥)
          → (cond b (taken (layout (known rows e) a) f (record_at ring f.place f.size) tail) (not_taken f tail)).words ≡ zeros 56
      by true h = rw (ne_eqb (judge (layout (known rows e) a) (record_at ring f.place f.size)) 0 h)
      by false h = refl
