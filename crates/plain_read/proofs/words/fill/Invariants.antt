use Rattle.meaning.specs.Reasons.{cursor_of}
use Rattle.table.specs.Rows.{item_of}
use Rattle.plain_read.proofs.Filling.{Filling}
use Rattle.plain_read.proofs.words.fill.Given as goal

abbrev pub invariant-loop-row : goal.invariant-loop-row
invariant-loop-row l = Filling (item_of l.a l.misc l.kind) l.s l.own (cursor_of l.initial.spot) l.initial.out l.start l.out (cursor_of l.spot) l.row-index l.at
