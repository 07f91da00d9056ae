-- `fills::listed` meets its contract: not selected nothing changes; else the one word is the place, and the bytes of a build id are passed whole. Assumes nothing.
use mathlib.Core.Path.{refl}
use native.Mathlib.Omega.{arith}
use Rattle.meaning.specs.Items.{span, part, holds, counted, before}
use Rattle.meaning.specs.Values.{tell, slot_shape}
use Rattle.fills.proofs.Shapes.{off, has, room, one_word}
use Rattle.fills.proofs.listed.Goals as goal

pub returns-then-not-on : goal.returns-then-not-on
returns-then-not-on c = off c.requires c.if-not-on.true

pub bounds-out-at : goal.bounds-out-at
unfolding tell
bounds-out-at c = let r = room c.requires c.if-not-on.false refl in omega (arith, r)

pub past-requires : goal.past-requires
unfolding span
past-requires c = let h = has c.requires c.if-not-on.false refl (omega arith) in omega (arith, h)

pub returns : goal.returns
unfolding span part tell slot_shape holds counted before
returns c = one_word c.requires c.if-not-on.false refl refl refl c.past.ensures refl refl
