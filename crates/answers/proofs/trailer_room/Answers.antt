-- `answers::trailer_room` meets its contract: 8 times the ones of the masked sample type is the trailer's room, and without a trailer it is 0. Assumes nothing.
use native.Mathlib.Omega.{arith}
use Rattle.answers.proofs.Laws.{room-on, room-off, room_most}
use borrow.Author.Rules.{rules}
use Rattle.answers.proofs.trailer_room.Goals as goal

pub returns-then-not-has : goal.returns-then-not-has
returns-then-not-has c = let a = c.args in (room-off a.kind a.a c.if-not-has.true, search rules)

pub returns : goal.returns
returns c =
    let a = c.args in
    let n = c.count_ones.ensures.0 in
    let e = room-on a.kind a.a c.if-not-has.false in
    let l = room_most a.a.sample in
    (omega (arith, n, e), omega (arith, n, l))
