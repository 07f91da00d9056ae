-- `fast_writer::all_zero` meets its contract: zero so far, and the rest decides, turn by turn. Assumes nothing.
use mathlib.Core.Path.{refl}
use native.Mathlib.Omega.{arith}
use Rattle.fast_writer.proofs.Laws.{zero-next, zero-all}
use Rattle.fast_writer.proofs.all_zero.Goals as goal

pub loop-word-init : goal.loop-word-init
loop-word-init c = (omega arith, refl)

pub loop-word-preserved : goal.loop-word-preserved
loop-word-preserved c =
    (omega (arith, c.loop-word-test.true), zero-next c.args.ws.now c.loop-word.word-index c.loop-word.zero _ c.loop-word.invariant.1 c.loop-word-test.true refl)

pub returns : goal.returns
returns c = zero-all c.args.ws.now c.loop-word.word-index c.loop-word.zero c.loop-word.invariant.1 (omega (arith, c.loop-word-test.false))
