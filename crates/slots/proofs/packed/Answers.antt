-- Each of the four is 16 bits, so none reaches into the next.
use native.Mathlib.Omega.{arith}
use borrow.Author.Rules.{rules}
use Rattle.slots.specs.Slots.{Four}
use Rattle.slots.proofs.packed.Goals as goal

pub returns : goal.returns
unfolding Four
returns c =
    let p = c.requires in
    let a = p.0 in
    let b = p.1 in
    let d = p.2 in
    let e = p.3 in
    (omega (arith, a, b, d, e), omega (arith, a, b, d, e), omega (arith, a, b, d, e), omega (arith, a, b, d, e))
