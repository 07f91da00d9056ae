-- The three cases of a comparison.
use mathlib.Core.Path.{sym}
use native.Mathlib.Omega.{arith}
use Rattle.blocks.specs.Steady.{sizes-same, sizes-less, sizes-more}
use Rattle.exact.proofs.sized.Goals as goal

pub returns-then-left-want : goal.returns-then-left-want
returns-then-left-want c = sym (sizes-same _ _ c.if-left-want.true)

pub returns-then-left-want-2 : goal.returns-then-left-want-2
returns-then-left-want-2 c = sym (sizes-less _ _ c.if-left-want-2.true)

pub returns : goal.returns
returns c = sym (sizes-more c.args.left c.args.want (omega (arith, c.if-left-want.false, c.if-left-want-2.false)))
