-- `wire::u8_at` meets its contract: a number of one byte is the byte. Assumes nothing.
use native.Mathlib.Omega.{arith}
use Rattle.wire.proofs.Laws.{number-one}
use Rattle.wire.proofs.u8_at.Goals as goal

pub returns : goal.returns
returns c = let a = c.args in omega (arith, number-one a.s.now a.at)
