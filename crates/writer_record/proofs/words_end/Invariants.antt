use Rattle.std.proofs.Common.{◌+◌}
use Rattle.writer_record.specs.Spare.{Summing}
use Rattle.writer_record.proofs.words_end.Given as goal

-- words so far and words still to come are the part's
abbrev pub invariant-loop-row : goal.invariant-loop-row
invariant-loop-row l = Summing l.p l.first (l.p.from + l.row-index) l.end
