-- The head moves on by the record's size, wrapping; what lies between tail and head is taken of the new head.
use Rattle.std.proofs.Common.{ℕ, ◌+◌, ap, ◌∙◌, rules}
use Rattle.meaning.specs.Ring.{distance}
use Rattle.replay.specs.declared.Replayed.{Replayed}
use Rattle.replay_offer.proofs.count_in.Goals as goal

-- the counts after n bytes that go in, with that head and so many bytes held
after : Replayed → ℕ → ℕ → ℕ → Replayed
after s n head held =
    record {
      entries = s.entries + 1;
      offered_bytes = s.offered_bytes + n;
      drained_bytes = s.drained_bytes;
      dropped_bytes = s.dropped_bytes;
      held_bytes = held;
      taken = s.taken;
      dropped = s.dropped;
      head = head;
      tail = s.tail;
      answer = s.answer;
    }

pub returns : goal.returns
unfolding after
returns c =
    let a = c.args in
    let w = c.wrapping_add_u64-head in
    ap (after a.s a.n w.result) c.distance.ensures ∙ ap (λ (k : ℕ). after a.s a.n k (distance k a.s.tail)) w.ensures.value
