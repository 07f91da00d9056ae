-- `fills::registers` meets its contract: not selected nothing changes; else the two words are the place and the last count, and as many registers are passed. Assumes nothing.
use mathlib.Core.Path.{refl}
use native.Mathlib.Omega.{arith}
use lib.ListN.{length-drop, length-set}
use Rattle.meaning.specs.Items.{span, part, holds, counted, before}
use Rattle.meaning.specs.Values.{tell, slot_shape}
use Rattle.fills.proofs.Shapes.{off, took, room, two-words}
use Rattle.fills.proofs.registers.Goals as goal

pub returns-then-not-on : goal.returns-then-not-on
returns-then-not-on c = off c.requires c.if-not-on.true

pub bounds-out-at : goal.bounds-out-at
unfolding tell
bounds-out-at c = let r = room c.requires c.if-not-on.false refl in omega (arith, r)

pub bounds-out-at-2 : goal.bounds-out-at-2
unfolding tell
bounds-out-at-2 c =
    let a = c.args in
    let r = room c.requires c.if-not-on.false refl in
    omega (arith, r, length-set a.out.now a.at a.c.at)

pub overflow_mul-c : goal.overflow_mul-c
unfolding span
overflow_mul-c c =
    let t = (took c.requires c.if-not-on.false).there in
    let l = length-drop c.args.c.at c.args.s.now in
    omega (arith, t, l)

pub past-requires : goal.past-requires
unfolding span
past-requires c =
    let t = (took c.requires c.if-not-on.false).there in
    let l = length-drop c.args.c.at c.args.s.now in
    let q = c.well_formed in
    omega (arith, t, l, q)

pub returns : goal.returns
unfolding span part tell slot_shape holds counted before
returns c = two-words c.requires c.if-not-on.false refl refl refl c.past.ensures refl refl
