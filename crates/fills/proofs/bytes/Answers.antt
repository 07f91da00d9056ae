-- `fills::bytes` meets its contract: not selected nothing changes; else the two words are the place and the length of the tag, which is passed. Assumes nothing.
use mathlib.Core.Path.{refl}
use native.Mathlib.Omega.{arith}
use lib.ListN.{length-set}
use Rattle.meaning.specs.Items.{span, part, holds, counted, before}
use Rattle.meaning.specs.Values.{tell, slot_shape}
use Rattle.fills.proofs.Shapes.{off, has, room, two-words}
use Rattle.fills.proofs.bytes.Goals as goal

pub returns-then-not-on : goal.returns-then-not-on
returns-then-not-on c = off c.requires c.if-not-on.true

pub bounds-out-at : goal.bounds-out-at
unfolding tell
bounds-out-at c = let r = room c.requires c.if-not-on.false refl in omega (arith, r)

pub bounds-out-at-2 : goal.bounds-out-at-2
unfolding tell
bounds-out-at-2 c =
    let a = c.args in
    let r = room c.requires c.if-not-on.false refl in
    omega (arith, r, length-set a.out.now a.at a.c.at)

pub past-requires : goal.past-requires
unfolding span
past-requires c = let h = has c.requires c.if-not-on.false refl (omega arith) in omega (arith, h)

pub returns : goal.returns
unfolding span part tell slot_shape holds counted before
returns c = two-words c.requires c.if-not-on.false refl refl refl c.past.ensures refl refl
