-- It has the contract of `walk_back::walk_events`, at this edition and 1,024 events at the most.
use borrow.Author.Rules.{rules}
use Rattle.ollskuvan_table.proofs.ollskuvan_walk_back_events.Goals as goal

pub returns : goal.returns
returns c = record { value = c.walk_events.ensures.value; journal_after = c.walk_events.ensures.journal_after; scratch_after = c.walk_events.ensures.scratch_after }
