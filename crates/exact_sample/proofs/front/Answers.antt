-- One sum, with the read values where they are no group; else the sum of the fields before them, and the group as a count with its elements.
use mathlib.Core.Path.{◌≡◌, refl, sym, ap, ap₂, ◌∙◌}
use mathlib.Core.Bool.{Bool, true, false, ◌&&◌}
use mathlib.Core.List.{List}
use Prim.Native.Nat.{ℕ}
use native.Mathlib.Omega.{arith}
use Rattle.meaning.specs.Bytes.{bit}
use Rattle.std.proofs.lemmas.Result.{err_from_is_err_and}
use Rattle.laws.specs.Reasons.{number-some}
use Rattle.blocks.specs.Blocks.{counted_place}
use Rattle.exact.specs.Stretches.{groups, group_fixed, group-bound, unit-bound, front-stuck, front-plain, front-group}
use Rattle.exact_sample.proofs.front.Goals as goal
use Rattle.exact_sample.proofs.front.Goals.{else-has_bit-via-then-has_bit+else-has_bit-2, else-has_bit-via-else-has_bit}

pub returns-in_err-at : goal.returns-in_err-at
returns-in_err-at c =
    let p = err_from_is_err_and c.from_residual.result c.from_residual.ensures.1 in
    rw (p.1, p.2)
    (front-stuck c.args.s.now c.args.w.a _ c.args.w.right.first _ (λ is f e. (c.in_err-at.ensures.leaves is f e, c.in_err-at.ensures.at_in_bounds)) (number-some _))

pub elements-requires : goal.elements-requires
elements-requires c =
    let u = c.group_bytes-unit.ensures.value in
    let b = unit-bound c.args.w.a.format in
    let g = c.args.w.right.group in
    let h = group-bound c.args.w.a.format in record { at_in_bounds = c.in_ok-at.ensures.at_in_bounds refl; s_len_bound = c.requires.s_len_bound; le_fixed = omega (arith, g, h.0); fixed_le_size_bound = omega (arith, g, h.1); le_unit = omega (arith, u, b.0); unit_bound = omega (arith, u, b.1) }

pub returns-then-has_bit-2 : goal.returns-then-has_bit-2
returns-then-has_bit-2 c =
    let xs : List ℕ = c.args.s.now in
    let f = c.args.w.a.format in
    let at : ℕ = c.in_ok-at.at in
    let g : groups c.args.w.a ≡ true = ap₂ ◌&&◌ (sym c.has_bit.ensures ∙ c.if-has_bit.true) (sym c.has_bit-then-has_bit.ensures ∙ c.if-has_bit-2.true) in
    front-group xs c.args.w.a _ c.args.w.right.first _ (λ is f e. (c.in_ok-at.ensures.leaves is f e, c.in_ok-at.ensures.at_in_bounds)) g refl _
    (c.elements.ensures ∙ ap (λ (k : ℕ). counted_place xs at k c.group_bytes-unit.result) c.args.w.right.group ∙ ap (counted_place xs at (group_fixed f)) c.group_bytes-unit.ensures.value)

pub returns : goal.returns
returns c =
    let g : groups c.args.w.a ≡ false = elim c.else-has_bit.branch [
      | else-has_bit-via-then-has_bit+else-has_bit-2 w ↦ ap₂ ◌&&◌ (sym c.has_bit.ensures ∙ w.if-has_bit.true) (sym w.has_bit-then-has_bit.ensures ∙ w.if-has_bit-2.false)
      | else-has_bit-via-else-has_bit w ↦ ap (λ (x : Bool). x && bit c.args.w.a.format 3) (sym c.has_bit.ensures ∙ w.if-has_bit.false)
    ] in
    front-plain c.args.s.now c.args.w.a _ c.args.w.right.first _ (λ is f e. (c.in_ok-at.ensures.leaves is f e, c.in_ok-at.ensures.at_in_bounds)) g
