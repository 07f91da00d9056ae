-- The bytes at the place, as the machine's number.
use Rattle.std.proofs.Common.{rules, ◌∙◌}
use Rattle.wire.proofs.Laws.{number-of}
use Rattle.wire.proofs.u16_at.Goals as goal

pub returns : goal.returns
returns c = (c.from_le_bytes.ensures ∙ number-of 1 c.args.s.now c.args.at _ c.bytes_at.ensures, search rules)
