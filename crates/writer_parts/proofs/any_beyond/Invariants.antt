use Rattle.std.proofs.Common.{◌+◌}
use Rattle.writer_parts.specs.Turns.{Looking}
use Rattle.writer_parts.proofs.any_beyond.Given as goal

-- what is still to come decides
abbrev pub invariant-loop-row : goal.invariant-loop-row
invariant-loop-row l = Looking l.source l.ws l.p l.initial.t (l.p.from + l.row-index) l.t
