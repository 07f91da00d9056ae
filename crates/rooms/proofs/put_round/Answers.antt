-- Three ways: past the ring, before its end, across it; the definition has no case, and each is one of its laws.
use Rattle.std.proofs.Common.{ℕ, ◌-◌, List, length, take, drop, sym, ap, ◌∙◌, arith, length-drop, length-take-le, take_all}
use Rattle.meaning.specs.Bytes.{put}
use Rattle.replay.specs.Replay.{put_round}
use Rattle.replay.proofs.Round.{round-past, round_whole}
use Rattle.rooms.proofs.put_round.Goals as goal

pub returns-then-ring-place : goal.returns-then-ring-place
returns-then-ring-place c = let a = c.args in c.copy_at.ensures ∙ sym (round-past a.ring.now a.place a.r.now c.if-ring-place.true)

pub returns-then-r-n : goal.returns-then-r-n
returns-then-r-n c = let a = c.args in c.copy_at-then-r-n.ensures ∙ sym (round_whole a.ring.now a.place a.r.now (omega (arith, c.if-r-n.true, c.if-ring-place.false)))

pub slice_bounds-copy_at-end : goal.slice_bounds-copy_at-end
slice_bounds-copy_at-end c = sym (length-take-le _ _ (omega arith))

pub returns : goal.returns
unfolding put_round
returns c =
    let a = c.args in
    let n : ℕ = length a.ring.now - a.place in
    let r : List ℕ = a.r.now in
    c.copy_at-3.ensures
    ∙ ap (λ (l : List ℕ). put l 0 (take (length r - n) (drop n r))) c.copy_at-2.ensures
    ∙ ap (λ (l : List ℕ). put (put a.ring.now a.place (take n r)) 0 l) (take_all (length r - n) (drop n r) (omega (arith, length-drop n r)))
