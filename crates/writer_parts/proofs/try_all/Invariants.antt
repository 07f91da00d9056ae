use Rattle.std.proofs.Common.{◌+◌}
use Rattle.meaning.specs.Reasons.{cursor_of}
use Rattle.writer_parts.specs.Turns.{Trying}
use Rattle.writer_parts.proofs.try_all.Given as goal

-- the walk over what is still to come is the whole
abbrev pub invariant-loop-row : goal.invariant-loop-row
invariant-loop-row l = Trying l.source l.ws l.p l.initial.t (cursor_of l.initial.c) (l.p.from + l.row-index) l.t (cursor_of l.c)
