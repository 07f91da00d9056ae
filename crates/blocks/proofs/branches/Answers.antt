-- Not selected, nothing is passed; selected, it is a count with at most the hardware index between it and its entries.
use mathlib.Core.Path.{◌≡◌, sym, ap, ◌∙◌}
use mathlib.Core.Bool.{Bool, true, false}
use mathlib.Core.List.{List}
use native.Mathlib.Omega.{arith}
use Prim.Native.Nat.{ℕ}
use Rattle.blocks.specs.Seen.{going, as-known}
use Rattle.blocks.specs.Blocks.{branch_list, branch_fixed, counted_place, three-off, branch-ends}
use Rattle.blocks.proofs.branches.Goals as goal
use Rattle.blocks.proofs.branches.Goals.{then-index, else-index}

pub returns-then-not-on : goal.returns-then-not-on
returns-then-not-on c =
    let a = c.args in
    let xs : List ℕ = a.s.now in
    as-known (λ (t : Bool). branch_list t a.index) xs a.at _ false a.on c.if-not-on.true (going xs _ a.at a.at (omega arith) (three-off xs _ _ _ a.at))

pub returns : goal.returns
returns c =
    let a = c.args in
    let xs : List ℕ = a.s.now in
    let e : c.if-index.fixed ≡ branch_fixed a.index =
    elim c.if-index.branch [
      | then-index w ↦ w.fixed-is ∙ sym (ap branch_fixed w.if-index.true)
      | else-index w ↦ w.fixed-is ∙ sym (ap branch_fixed w.if-index.false)
    ]
    in
    as-known (λ (t : Bool). branch_list t a.index) xs a.at _ true a.on c.if-not-on.false
    (branch-ends xs a.index a.at c.requires.at_in_bounds _ (c.elements.ensures ∙ ap (λ (k : ℕ). counted_place xs a.at k 24) e))
