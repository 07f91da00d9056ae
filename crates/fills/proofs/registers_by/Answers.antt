-- `fills::registers_by` meets its contract: an abi of 0 has no registers, and else they are the ones of the mask. Assumes nothing.
use mathlib.Core.Path.{refl, ◌∙◌, sym}
use borrow.Author.Tests.{eq-eqb, ne_eqb}
use Rattle.fills.proofs.registers_by.Goals as goal

pub returns-then-abi-eq0 : goal.returns-then-abi-eq0
returns-then-abi-eq0 c = rw (eq-eqb _ 0 c.if-abi-eq0.true) refl

pub returns : goal.returns
returns c = c.count_ones.ensures.0 ∙ sym (rw (ne_eqb _ 0 c.if-abi-eq0.false) refl)
