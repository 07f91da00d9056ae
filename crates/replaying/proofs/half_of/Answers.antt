-- An odd length has no half: the definition's test, by its remainder.
use Prim.Native.Nat.{◌%◌}
use borrow.Author.Tests.{eq-eqb, ne_eqb}
use Rattle.replaying.proofs.half_of.Goals as goal

pub returns-then-n-ne0 : goal.returns-then-n-ne0
returns-then-n-ne0 c = simp (ne_eqb (c.args.n % 2) 0 c.if-n-ne0.true)

pub returns : goal.returns
returns c = simp (eq-eqb (c.args.n % 2) 0 c.if-n-ne0.false)
