use Rattle.std.proofs.Common.{◌-◌, length}
use Rattle.meaning.specs.Editions.{editions, known}
use Rattle.meaning.specs.Events.{asked_events}
use Rattle.compare.specs.Compared.{event_reads}
use Rattle.compare.proofs.Here.{Here}
use Rattle.comparing.proofs.compare_rings.Given as goal

abbrev pub invariant-loop-pair : goal.invariant-loop-pair
invariant-loop-pair l = Here (event_reads (known editions l.e) l.events) (asked_events l.limit editions l.e l.events) l.left l.right l.lhead l.rhead l.ltail l.rtail l.initial.lscratch l.initial.rscratch l.n l.tl l.tr l.lscratch l.rscratch

abbrev pub decreases-loop-pair : goal.decreases-loop-pair
decreases-loop-pair l = length l.left - l.n
