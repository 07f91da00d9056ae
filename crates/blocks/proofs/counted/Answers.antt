-- Not selected, nothing is passed; selected, it is a count with nothing between it and its elements.
use mathlib.Core.Path.{refl}
use mathlib.Core.Bool.{Bool, true, false}
use mathlib.Core.List.{List, []}
use native.Mathlib.Omega.{arith}
use Prim.Native.Nat.{ℕ}
use Rattle.blocks.specs.Seen.{going, as-known}
use Rattle.blocks.specs.Steady.{steady, total}
use Rattle.blocks.specs.Blocks.{counted_list, two-off, counted-ends}
use Rattle.blocks.proofs.counted.Goals as goal

pub returns-then-not-on : goal.returns-then-not-on
returns-then-not-on c =
    let a = c.args in
    let xs : List ℕ = a.s.now in
    as-known (λ (t : Bool). counted_list t a.unit) xs a.at _ false a.on c.if-not-on.true (going xs _ a.at a.at (omega arith) (two-off xs _ _ a.at))

pub returns : goal.returns
unfolding steady total
returns c =
    let a = c.args in
    as-known (λ (t : Bool). counted_list t a.unit) a.s.now a.at _ true a.on c.if-not-on.false
    (counted-ends a.s.now a.at 8 a.unit [] refl refl c.requires.at_in_bounds _ c.elements.ensures)
