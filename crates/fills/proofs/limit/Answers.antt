-- `fills::limit` meets its contract: not selected nothing changes; else the one word is the byte at the cursor, which is the count from here on. Assumes nothing.
use mathlib.Core.Path.{refl, sym, ap}
use mathlib.Core.List.{[], ◌∷◌}
use Prim.Native.Nat.{ℕ}
use native.Mathlib.Omega.{arith}
use Rattle.meaning.specs.Items.{span, part, holds, counted, before}
use Rattle.meaning.specs.Values.{tell, slot_shape}
use Rattle.fills.proofs.Shapes.{off, has, room, one_word}
use Rattle.fills.proofs.limit.Goals as goal

pub returns-then-not-on : goal.returns-then-not-on
returns-then-not-on c = off c.requires c.if-not-on.true

pub u8_at-v-requires : goal.u8_at-v-requires
unfolding span
u8_at-v-requires c = has c.requires c.if-not-on.false refl (omega arith)

pub bounds-out-at : goal.bounds-out-at
unfolding tell
bounds-out-at c = let r = room c.requires c.if-not-on.false refl in omega (arith, r)

pub overflow_add-result : goal.overflow_add-result
unfolding span
overflow_add-result c = let h = has c.requires c.if-not-on.false refl (omega arith) in omega (arith, h)

pub returns : goal.returns
unfolding span part tell slot_shape holds counted before
returns c = one_word c.requires c.if-not-on.false refl c.u8_at-v.ensures.0 refl refl refl (ap (λ (v : ℕ). v ∷ []) (sym c.u8_at-v.ensures.0))
