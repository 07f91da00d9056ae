-- It has the contract of `event_read::read_events`, at this edition and 1,024 events at the most.
use borrow.Author.Rules.{rules}
use Rattle.ollskuvan_events.proofs.ollskuvan_read_events.Goals as goal

pub returns : goal.returns
returns c = record { value = c.read_events.ensures.value; fields_after = c.read_events.ensures.words_after }
