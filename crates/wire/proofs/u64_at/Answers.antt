-- The bytes at the place, as the machine's number.
use Rattle.std.proofs.Common.{◌∙◌}
use Rattle.wire.proofs.Laws.{number-of}
use Rattle.wire.proofs.u64_at.Goals as goal

pub returns : goal.returns
returns c = c.from_le_bytes.ensures ∙ number-of 7 c.args.s.now c.args.at _ c.bytes_at.ensures
