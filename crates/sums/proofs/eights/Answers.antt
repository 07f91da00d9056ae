-- Nothing under the mask counts nothing; else eight times the count.
use mathlib.Core.Path.{sym}
use native.Mathlib.Omega.{arith}
use borrow.Author.Rules.{rules}
use Rattle.sums.specs.Sums.{sum-none}
use Rattle.sums.proofs.eights.Goals as goal

pub returns-then-y-eq0 : goal.returns-then-y-eq0
returns-then-y-eq0 c = (sym (sum-none c.args.x c.args.mask c.if-y-eq0.true), omega arith)

pub returns : goal.returns
returns c = let e = c.count_ones.ensures in let x = e.0 in let y = e.1 in (omega (arith, x), omega (arith, y))
