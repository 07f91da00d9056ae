-- It has the contract of `event_one::read_one_events`, at this edition and 1,024 events at the most.
use borrow.Author.Rules.{rules}
use Rattle.ollskuvan_events.proofs.ollskuvan_read_one_events.Goals as goal

pub returns : goal.returns
returns c = record { value = c.read_one_events.ensures.value; scratch_after = c.read_one_events.ensures.scratch_after; fields_after = c.read_one_events.ensures.words_after }
