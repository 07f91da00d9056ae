-- `fills::earlier` meets its contract: not selected nothing changes; else the one word is the place, and as many bytes as the count before the last one says are passed. Assumes nothing.
use mathlib.Core.Path.{◌≡◌, refl}
use Prim.Native.Nat.{◌*◌}
use native.Mathlib.Omega.{arith}
use lib.ListN.{length-drop}
use Rattle.meaning.specs.Items.{span, part, holds, counted, before}
use Rattle.meaning.specs.Values.{tell, slot_shape}
use Rattle.fills.proofs.Shapes.{off, took, room, one_word}
use Rattle.fills.proofs.earlier.Goals as goal

pub returns-then-not-on : goal.returns-then-not-on
returns-then-not-on c = off c.requires c.if-not-on.true

pub bounds-out-at : goal.bounds-out-at
unfolding tell
bounds-out-at c = let r = room c.requires c.if-not-on.false refl in omega (arith, r)

pub past-requires : goal.past-requires
unfolding span
past-requires c =
    let t = (took c.requires c.if-not-on.false).there in
    let l = length-drop c.args.c.at c.args.s.now in
    let q = c.well_formed in
    omega (arith, t, l, q)

pub returns : goal.returns
unfolding span part tell slot_shape holds counted before
returns c = let e : c.args.c.old ≡ c.args.c.old * 1 = omega arith in one_word c.requires c.if-not-on.false e refl refl c.past.ensures refl refl
