use Rattle.std.proofs.Common.{◌+◌}
use Rattle.meaning.specs.Reasons.{cursor_of}
use Rattle.writer_parts.proofs.Putting.{Putting}
use Rattle.writer_parts.proofs.put_all.Given as goal

-- the bytes that are still to come, put where the state says, make the whole
abbrev pub invariant-loop-row : goal.invariant-loop-row
invariant-loop-row l = Putting l.source l.ws l.p l.initial.t (cursor_of l.initial.c) l.initial.buffer (l.p.from + l.row-index) l.t (cursor_of l.c) l.buffer
