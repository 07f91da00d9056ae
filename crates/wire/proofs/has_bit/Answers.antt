-- `wire::has_bit` meets its contract: a shift and a mask take the bit. Assumes nothing.
use Rattle.wire.proofs.Laws.{bit_is}
use Rattle.wire.proofs.has_bit.Goals as goal

pub returns : goal.returns
returns c = bit_is c.args.x c.args.b
