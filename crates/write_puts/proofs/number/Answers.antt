-- `write_puts::number` meets its contract: the bytes of a number. Assumes nothing.
use mathlib.Core.Path.{refl, ap, ◌∙◌}
use Prim.Native.Nat.{ℕ}
use native.Mathlib.Omega.{arith}
use Rattle.meaning.specs.Values.{slot, slot_told, last_told, before_told}
use Rattle.writer_forms.specs.Forms.{shape_form}
use Rattle.laws.specs.Numbers.{small_of}
use Rattle.write_fits.specs.Items.{stay, word_at}
use Rattle.write_puts.proofs.Shapes.{off, number-room, number-most, number_put}
use Rattle.write_puts.proofs.number.Goals as goal

pub returns-then-not-on : goal.returns-then-not-on
returns-then-not-on c = off (small_of _ c.type_inv.source) (λ k. (c.type_inv.ws k).fits) c.requires.0 c.if-not-on.true

pub store-requires : goal.store-requires
unfolding shape_form slot_told last_told before_told
store-requires c = number-room (small_of _ c.type_inv.source) (λ k. (c.type_inv.ws k).fits) c.requires.0 c.if-not-on.false refl (ap (λ (v : ℕ). slot v 0 0) (word_at c.args.ws.now c.args.w))

pub past-requires : goal.past-requires
unfolding shape_form slot_told last_told before_told
past-requires c = let h = number-most (small_of _ c.type_inv.source) (λ k. (c.type_inv.ws k).fits) c.requires.0 c.if-not-on.false refl (ap (λ (v : ℕ). slot v 0 0) (word_at c.args.ws.now c.args.w)) in let k = c.bytes.ensures.0 in omega (arith, h, k)

pub returns : goal.returns
unfolding shape_form slot_told last_told before_told
returns c = number_put (small_of _ c.type_inv.source) (λ k. (c.type_inv.ws k).fits) c.requires.0 c.if-not-on.false refl (ap (λ (v : ℕ). slot v 0 0) (word_at c.args.ws.now c.args.w)) refl refl c.store.ensures (c.past.ensures ∙ ap (λ (k : ℕ). stay k c.args.c) c.bytes.ensures.0)
