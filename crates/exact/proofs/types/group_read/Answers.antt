-- Eight bytes, then a count with its times and elements, and what is left over after them.
use mathlib.Core.Path.{sym, ap, ◌∙◌, subst}
use mathlib.Core.List.{List}
use Prim.Native.Nat.{ℕ}
use native.Mathlib.Omega.{arith}
use Rattle.blocks.specs.Seen.{Closes}
use Rattle.blocks.specs.Blocks.{counted_place}
use Rattle.exact.specs.Stretches.{group_fixed, group-bound, unit-bound}
use Rattle.exact.specs.Types.{group_read, group-short, group-closed}
use Rattle.exact.proofs.types.group_read.Goals as goal

pub returns-then-f-lt16 : goal.returns-then-f-lt16
returns-then-f-lt16 c = group-short c.args.f.bytes.now c.args.format c.args.f.headed c.if-f-lt16.true

pub elements-requires : goal.elements-requires
elements-requires c =
    let u = c.group_bytes-unit.ensures.value in
    let b = unit-bound c.args.format in
    let g = c.requires in
    let h = group-bound c.args.format in record { at_in_bounds = c.if-f-lt16.false; s_len_bound = c.args.f.bounded; le_fixed = omega (arith, g, h.0); fixed_le_size_bound = omega (arith, g, h.1); le_unit = omega (arith, u, b.0); unit_bound = omega (arith, u, b.1) }

pub returns : goal.returns
returns c =
    let xs : List ℕ = c.args.f.bytes.now in
    subst (Closes xs (group_read c.args.format) 8) (sym c.ended.ensures)
    (group-closed xs c.args.format c.if-f-lt16.false _
    (c.elements.ensures ∙ ap (λ (k : ℕ). counted_place xs 16 k c.group_bytes-unit.result) c.requires ∙ ap (counted_place xs 16 (group_fixed c.args.format)) c.group_bytes-unit.ensures.value))
