-- `fills::number` meets its contract: not selected nothing changes; else the one word is the number of the width's bytes at the place. Assumes nothing.
use mathlib.Core.Path.{refl, sym, ap}
use mathlib.Core.List.{[], ◌∷◌}
use Prim.Native.Nat.{ℕ}
use native.Mathlib.Omega.{arith}
use Rattle.meaning.specs.Items.{span, part, holds, counted, before}
use Rattle.meaning.specs.Values.{tell, slot_shape}
use Rattle.fills.proofs.Shapes.{off, has, room, one_word}
use Rattle.fills.proofs.number.Goals as goal

pub returns-then-not-on : goal.returns-then-not-on
returns-then-not-on c = off c.requires c.if-not-on.true

pub word_at-requires : goal.word_at-requires
unfolding span
word_at-requires c =
    let e = c.bytes-many.ensures in
    has c.requires c.if-not-on.false refl (omega (arith, e.0, e.1))

pub bounds-out-at : goal.bounds-out-at
unfolding tell
bounds-out-at c = let r = room c.requires c.if-not-on.false refl in omega (arith, r)

pub past-requires : goal.past-requires
unfolding span
past-requires c =
    let e = c.bytes-many.ensures in
    let h = has c.requires c.if-not-on.false refl (omega (arith, e.0, e.1)) in
    omega (arith, h, e.0)

pub returns : goal.returns
unfolding span part tell slot_shape holds counted before
returns c = one_word c.requires c.if-not-on.false c.bytes-many.ensures.0 refl refl c.past.ensures refl (ap (λ (v : ℕ). v ∷ []) (sym c.word_at.ensures))
