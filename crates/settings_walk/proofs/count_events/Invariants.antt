use mathlib.Core.Path.{◌≡◌, refl, sym, ap, ◌∙◌}
use mathlib.Core.Bool.{true}
use Prim.Native.Nat.{ℕ, ◌+◌, ◌-◌, ◌≤◌}
use native.Mathlib.Omega.{arith}
use lib.ListN.{length}
use Rattle.settings.specs.Versions.{row_of, row_length, place_of}
use Rattle.settings.specs.Reading.{in_turn, turns_from, count_of}
use Rattle.settings.proofs.Back.{place-most, turns-end}
use Rattle.settings.proofs.Steps.{turns_more, turn-room, place-next}
use Rattle.settings_walk.proofs.count_events.Tie as tie
use Rattle.settings_walk.proofs.count_events.Given as goal

abbrev pub invariant-loop-v : goal.invariant-loop-v
invariant-loop-v l = (turns_from (row_of l.v) l.bytes (length l.bytes - l.n) l.n ≡ count_of (row_of l.v) l.bytes) × (l.at ≡ place_of (row_of l.v) l.n) × (l.size ≡ l.v.width + 54)

abbrev pub decreases-loop-v : goal.decreases-loop-v
decreases-loop-v l = length l.bytes - l.n
