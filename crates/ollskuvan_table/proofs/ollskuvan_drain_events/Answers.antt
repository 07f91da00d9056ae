-- It has the contract of `fast_event_drain::drain_events`, at this edition and 1,024 events at the most.
use borrow.Author.Rules.{rules}
use Rattle.ollskuvan_table.proofs.ollskuvan_drain_events.Goals as goal

pub returns : goal.returns
returns c = record { value = c.drain_events.ensures.value; journal_after = c.drain_events.ensures.journal_after; scratch_after = c.drain_events.ensures.scratch_after }
