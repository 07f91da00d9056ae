-- Eight bytes, then a count with its elements, and what is left over after them.
use mathlib.Core.Path.{sym, subst}
use mathlib.Core.List.{List}
use Prim.Native.Nat.{ℕ}
use native.Mathlib.Omega.{arith}
use Rattle.blocks.specs.Seen.{Closes}
use Rattle.exact.specs.Types.{namespaces, namespaces-short, namespaces-closed}
use Rattle.exact.proofs.types.namespaces.Goals as goal

pub returns-then-f-lt16 : goal.returns-then-f-lt16
returns-then-f-lt16 c = namespaces-short c.args.f.bytes.now c.args.f.headed c.if-f-lt16.true

pub elements-requires : goal.elements-requires
elements-requires c = record { at_in_bounds = c.if-f-lt16.false; s_len_bound = c.args.f.bounded; le_fixed = omega arith; fixed_le_size_bound = omega arith; le_unit = omega arith; unit_bound = omega arith }

pub returns : goal.returns
returns c =
    let xs : List ℕ = c.args.f.bytes.now in
    subst (Closes xs namespaces 8) (sym c.ended.ensures) (namespaces-closed xs c.if-f-lt16.false _ c.elements.ensures)
