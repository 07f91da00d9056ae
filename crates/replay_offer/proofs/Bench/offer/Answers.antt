-- A record longer than the free room is dropped; any other is put from the head's place on, into the first half.
use Rattle.std.proofs.Common.{◌≡◌, refl, ℕ, ◌-◌, ◌%◌, Bool, cond, List, ◌++◌, length, take, drop, sym, ap, ◌∙◌, arith, length-take-le, length-append, rules, le-leb}
use borrow.Author.Tests.{lt-leb}
use Rattle.replay.specs.declared.Replayed.{Replayed}
use Rattle.replay.specs.Replay.{put_round}
use Rattle.replay.specs.Steps.{Lent, lent, count_in, count_by, offered}
use Rattle.replay_offer.specs.declared.Bench.{Bench}
use Rattle.replay_offer.proofs.Bench.offer.Goals as goal

-- the two ways
abbrev inside : Bench → List ℕ → Lent
inside b r = lent (put_round (take b.half b.rooms.now) (b.counts.head % b.half) r ++ drop b.half b.rooms.now) b.journal.now (count_in b.counts (length r))

abbrev beside : Bench → List ℕ → Lent
beside b r = lent b.rooms.now b.journal.now (count_by b.counts (length r))

pub returns-then-free-n : goal.returns-then-free-n
unfolding offered
returns-then-free-n c =
    let b : Bench = c.args.self.now in
    let r : List ℕ = c.args.r.now in
    let t = lt-leb (length r) (b.half - b.counts.held_bytes) c.if-free-n.true in
    record {
      lent_after = ap (λ (s : Replayed). lent b.rooms.now b.journal.now s) c.count_by-self.ensures ∙ sym (ap (λ (u : Bool). cond u (inside b r) (beside b r)) t);
      same = (refl, (refl, refl, refl), (refl, refl, refl));
    }

pub slice_bounds-put_round-end : goal.slice_bounds-put_round-end
slice_bounds-put_round-end c = c.requires.half_in_bounds

pub returns : goal.returns
unfolding offered
returns c =
    let b : Bench = c.args.self.now in
    let r : List ℕ = c.args.r.now in
    let t = le-leb (length r) (b.half - b.counts.held_bytes) c.if-free-n.false in
    let l : length (take b.half b.rooms.now) ≡ b.half = length-take-le _ _ c.requires.half_in_bounds in
    record {
      lent_after = (λ i. lent (c.put_round.ensures i ++ drop b.half b.rooms.now) b.journal.now (c.count_in-self.ensures i)) ∙ sym (ap (λ (u : Bool). cond u (inside b r) (beside b r)) t);
      same = (refl, (refl, refl, omega (arith, c.put_round.auto.ring, l, length-append c.put_round.new.ring (drop b.half b.rooms.now))), (refl, refl, refl));
    }
