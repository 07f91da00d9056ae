-- It has the contract of `event_check::check_events`, at this edition and 1,024 events at the most.
use borrow.Author.Rules.{rules}
use Rattle.ollskuvan_events.proofs.ollskuvan_check_events.Goals as goal

pub returns : goal.returns
returns c = c.check_events.ensures
