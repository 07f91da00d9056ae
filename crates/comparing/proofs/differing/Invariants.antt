use Rattle.meaning.specs.Editions.{editions, known}
use Rattle.compare.specs.Fields.{fields}
use Rattle.compare.specs.Compared.{alike, agree, event_reads}
use Rattle.pair_fields.specs.Inner.{FieldsStand, to_go}
use Rattle.pair_fields.specs.States.{state_of}
use Rattle.comparing.proofs.differing.Given as goal

abbrev pub invariant-loop-state : goal.invariant-loop-state
invariant-loop-state l =
    FieldsStand (alike (fields (event_reads (known editions l.e) l.events) l.x) (fields (event_reads (known editions l.e) l.events) l.y))
    (agree (fields (event_reads (known editions l.e) l.events) l.x) (fields (event_reads (known editions l.e) l.events) l.y)) l.x l.y (state_of l.state)

abbrev pub decreases-loop-state : goal.decreases-loop-state
decreases-loop-state l = to_go (state_of l.state)
