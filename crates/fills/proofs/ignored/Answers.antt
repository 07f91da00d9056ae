-- `fills::ignored` meets its contract: not selected nothing changes; else there is no word, and the bytes are passed. Assumes nothing.
use mathlib.Core.Path.{refl}
use native.Mathlib.Omega.{arith}
use lib.ListN.{length-drop}
use Rattle.meaning.specs.Items.{span, part, holds, counted, before}
use Rattle.meaning.specs.Values.{tell, slot_shape}
use Rattle.fills.proofs.Shapes.{off, took, no_word}
use Rattle.fills.proofs.ignored.Goals as goal

pub returns-then-not-on : goal.returns-then-not-on
returns-then-not-on c = off c.requires c.if-not-on.true

pub past-requires : goal.past-requires
unfolding span
past-requires c =
    let t = (took c.requires c.if-not-on.false).there in
    let l = length-drop c.args.c.at c.args.s.now in
    let q = c.well_formed in
    omega (arith, t, l, q)

pub returns : goal.returns
unfolding span part tell slot_shape holds counted before
returns c = no_word c.requires c.if-not-on.false refl refl refl c.past.ensures refl refl
