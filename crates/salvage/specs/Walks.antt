-- The salvage as it is walked, in two passes: the first measures, the second writes. Assumes nothing: these are definitions.
use Rattle.std.specs.Prelude.{◌≡◌, ℕ, ◌+◌, ◌-◌, ◌*◌, ◌≤◌, cond, List, ltb, eqb, length, take, drop, Option, Some, None}
use Rattle.meaning.specs.Bytes.{put}
use Rattle.runs.proofs.Streams.{joined}
use Rattle.salvage.specs.declared.Walk.{Walk}
use Rattle.salvage.specs.Salvage.{Piece, pieces, kept_in, output, Run, run, join, holes_in, holes, hole_bytes, changes}

abbrev pub walk : ℕ → ℕ → ℕ → ℕ → Walk
walk at start kept holes = record { at = at; start = start; kept = kept; holes = holes }

-- the holes once that is closed that ends at the place, if one does
abbrev pub closed : Walk → ℕ
closed w = cond (ltb w.start w.at) (w.holes + 1) w.holes

-- a step: `size` bytes are kept, or 8 dropped where it is 0, or the `left` bytes if fewer
unfoldable pub advanced : Walk → ℕ → ℕ → Walk
advanced w size left =
    cond (eqb size 0)
    (walk (w.at + cond (ltb left 8) left 8) w.start w.kept w.holes)
    (walk (w.at + size) (w.at + size) (w.kept + size) (closed w))

-- the same by the record that is kept, if one is
abbrev pub advanced_by : Walk → Option ℕ → ℕ → Walk
advanced_by w None left = advanced w 0 left
advanced_by w (Some size) left = walk (w.at + size) (w.at + size) (w.kept + size) (closed w)

-- what a step writes: the record, and the hole that ends there
unfoldable pub out_next : List ℕ → Walk → ℕ → List ℕ → List ℕ
out_next xs w size out = cond (eqb size 0) out (put out w.kept (take size (drop w.at xs)))

unfoldable pub list_closed : Walk → List ℕ → List ℕ
list_closed w list = cond (ltb w.start w.at) (put list (22 * w.holes) (hole_bytes (run w.start (w.at - w.start)))) list

unfoldable pub list_next : Walk → ℕ → List ℕ → List ℕ
list_next w size list = cond (eqb size 0) list (list_closed w list)

abbrev pub out_by : List ℕ → Walk → Option ℕ → List ℕ → List ℕ
out_by xs w None out = out
out_by xs w (Some size) out = put out w.kept (take size (drop w.at xs))

abbrev pub list_by : Walk → Option ℕ → List ℕ → List ℕ
list_by w None list = list
list_by w (Some size) list = list_closed w list

-- ---- what holds between two steps: what is still to come is the whole

-- the steps from a place on
abbrev pub from : (List ℕ → ℕ) → List ℕ → List Piece
from judge left = pieces judge (length left) left

-- the holes from a place on, with the one that ends there
unfoldable pub pending : ℕ → ℕ → List Piece → List Run
pending start at ps = cond (ltb start at) (join start (at - start) (holes_in at ps)) (holes_in at ps)

pub record SalvageStands (judge : List ℕ → ℕ) (xs : List ℕ) (w : Walk) : Type 0 where
  pub inside : w.at ≤ length xs
  pub before : w.start ≤ w.at
  pub kept_in_lem : w.kept ≤ length (output judge xs)
  pub holes_in_lem : w.holes ≤ length (holes judge xs)
  pub out-rest : drop w.kept (output judge xs) ≡ joined (kept_in (from judge (drop w.at xs)))
  pub holes-rest : drop w.holes (holes judge xs) ≡ pending w.start w.at (from judge (drop w.at xs))

-- both buffers are long enough
pub record Room (judge : List ℕ → ℕ) (xs out list : List ℕ) : Type 0 where
  pub out-fits : length (output judge xs) ≤ length out
  pub list-fits : length (changes (holes judge xs)) ≤ length list

-- what the second pass has written so far: the first of each
pub record Wrote (judge : List ℕ → ℕ) (xs out₀ list₀ : List ℕ) (w : Walk) (out list : List ℕ) : Type 0 where
  pub stands : SalvageStands judge xs w
  pub out-is : out ≡ put out₀ 0 (take w.kept (output judge xs))
  pub list-is : list ≡ put list₀ 0 (take (22 * w.holes) (changes (holes judge xs)))
