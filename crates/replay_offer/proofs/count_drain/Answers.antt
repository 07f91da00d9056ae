-- The tail is the drain's; what lies between tail and head is taken of it.
use Rattle.std.proofs.Common.{ℕ, ◌+◌, ap, rules}
use Rattle.meaning.specs.declared.Drained.{Drained}
use Rattle.replay.specs.declared.Replayed.{Replayed}
use Rattle.replay_offer.proofs.count_drain.Goals as goal

-- the counts after a drain that leaves so many bytes held
after : Replayed → Drained → ℕ → Replayed
after s d held =
    record {
      entries = s.entries + 1;
      offered_bytes = s.offered_bytes;
      drained_bytes = s.drained_bytes + d.bytes;
      dropped_bytes = s.dropped_bytes;
      held_bytes = held;
      taken = s.taken + d.taken;
      dropped = s.dropped;
      head = s.head;
      tail = d.tail;
      answer = s.answer;
    }

pub returns : goal.returns
unfolding after
returns c = let a = c.args in ap (after a.s a.d) c.distance.ensures
