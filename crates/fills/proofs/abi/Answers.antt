-- `fills::abi` meets its contract: not selected nothing changes; else the one word is the number at the cursor, and the count from here on is the registers that it and the mask give. Assumes nothing.
use mathlib.Core.Path.{refl, sym, ap, ◌∙◌}
use mathlib.Core.List.{[], ◌∷◌}
use Prim.Native.Nat.{ℕ}
use native.Mathlib.Omega.{arith}
use lib.Dec.{eqb}
use mathlib.Core.Bool.{cond}
use Rattle.meaning.specs.Bytes.{ones}
use Rattle.meaning.specs.Items.{span, part, holds, counted, before}
use Rattle.meaning.specs.Values.{tell, slot_shape}
use Rattle.fills.proofs.Shapes.{off, has, room, one_word}
use Rattle.fills.proofs.abi.Goals as goal

pub returns-then-not-on : goal.returns-then-not-on
returns-then-not-on c = off c.requires c.if-not-on.true

pub u64_at-v-requires : goal.u64_at-v-requires
unfolding span
u64_at-v-requires c = has c.requires c.if-not-on.false refl (omega arith)

pub bounds-out-at : goal.bounds-out-at
unfolding tell
bounds-out-at c = let r = room c.requires c.if-not-on.false refl in omega (arith, r)

pub overflow_add-result : goal.overflow_add-result
unfolding span
overflow_add-result c = let h = has c.requires c.if-not-on.false refl (omega arith) in omega (arith, h)

pub returns : goal.returns
unfolding span part tell slot_shape holds counted before
returns c =
    let a = c.args in
    one_word c.requires c.if-not-on.false refl (c.registers_by.ensures ∙ ap (λ (v : ℕ). cond (eqb v 0) 0 (ones 64 a.mask)) c.u64_at-v.ensures) refl refl refl (ap (λ (v : ℕ). v ∷ []) (sym c.u64_at-v.ensures))
