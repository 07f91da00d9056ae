-- `wire::count_ones` meets its contract: the machine's count is the definition's. Assumes nothing.
use native.Mathlib.Omega.{arith}
use lib.Count.{ones-le}
use Rattle.wire.proofs.Laws.{ones_is}
use Rattle.wire.proofs.count_ones.Goals as goal

pub overflow_cast-result : goal.overflow_cast-result
overflow_cast-result c = omega (arith, ones-le 64 c.args.x c.ranges.x.fits)

pub returns : goal.returns
returns c = (ones_is 64 c.args.x c.ranges.x.fits, ones-le 64 c.args.x c.ranges.x.fits)
