-- What an entry does to a bench, by what it asks for. Assumes nothing: these are definitions.
use Rattle.std.specs.Prelude.{ℕ, ◌+◌, ◌*◌, ◌^◌, ◌<◌, ◌≤◌, List, length}
use Rattle.meaning.specs.Ring.{distance}
use Rattle.replay.specs.Steps.{Lent, offered, drained_off}
use Rattle.replay_entries.specs.declared.Step.{Step}
use Rattle.replay_entries.specs.declared.Step.TheVariants.{Offer, Drain}
use Rattle.replay_offer.specs.declared.Bench.{Bench}

-- an offer, or a drain
abbrev pub asked_for : (List ℕ → ℕ) → ℕ → Step → Lent → Lent
asked_for judge h (Offer r) x = offered h x r.now
asked_for judge h (Drain budget) x = drained_off judge h x budget

-- no sum of an entry with a body of n bytes wraps, and the ring and the journal have room for what the counts say of them
pub record Within (b : Bench) (n : ℕ) : Type 0 where
  pub entries : b.counts.entries + 1 < 2 ^ 64
  pub offered : b.counts.offered_bytes + n < 2 ^ 64
  pub lost-bytes : b.counts.dropped_bytes + n < 2 ^ 64
  pub lost : b.counts.dropped + 1 < 2 ^ 64
  pub drained : b.counts.drained_bytes + distance b.counts.head b.counts.tail < 2 ^ 64
  pub held : b.counts.held_bytes ≤ b.half
  pub head : b.counts.head < 2 ^ 64
  pub tail : b.counts.tail < 2 ^ 64
  pub taken : 16 * b.counts.taken ≤ length b.journal.now
