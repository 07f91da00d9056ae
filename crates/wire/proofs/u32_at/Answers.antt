-- The bytes at the place, as the machine's number.
use Rattle.std.proofs.Common.{rules, ◌∙◌}
use Rattle.wire.proofs.Laws.{number-of}
use Rattle.wire.proofs.u32_at.Goals as goal

pub returns : goal.returns
returns c = (c.from_le_bytes.ensures ∙ number-of 3 c.args.s.now c.args.at _ c.bytes_at.ensures, search rules)
