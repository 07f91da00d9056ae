-- `write_puts::registers` meets its contract: the bytes of a list. Assumes nothing.
use mathlib.Core.Path.{refl, ap₂}
use Prim.Native.Nat.{ℕ}
use native.Mathlib.Omega.{arith}
use Rattle.meaning.specs.Values.{slot, slot_told, last_told, before_told}
use Rattle.writer_forms.specs.Forms.{shape_form}
use Rattle.laws.specs.Numbers.{small_of}
use Rattle.write_fits.specs.Items.{word_at, word_after}
use Rattle.write_puts.proofs.Shapes.{off, list_inside, bare-most, bare-put}
use Rattle.write_puts.proofs.registers.Goals as goal

pub returns-then-not-on : goal.returns-then-not-on
returns-then-not-on c = off (small_of _ c.type_inv.source) (λ k. (c.type_inv.ws k).fits) c.requires.0 c.if-not-on.true

pub overflow_mul-many : goal.overflow_mul-many
unfolding shape_form slot_told last_told before_told
overflow_mul-many c = let h = bare-most (small_of _ c.type_inv.source) (λ k. (c.type_inv.ws k).fits) c.requires.0 c.if-not-on.false refl (ap₂ (λ (v k : ℕ). slot 0 v k) (word_at c.args.ws.now c.args.w) (word_after c.args.ws.now c.args.w)) in omega (arith, h)

pub copy-requires : goal.copy-requires
unfolding shape_form slot_told last_told before_told
copy-requires c = list_inside (small_of _ c.type_inv.source) (λ k. (c.type_inv.ws k).fits) c.requires.0 c.if-not-on.false refl (ap₂ (λ (v k : ℕ). slot 0 v k) (word_at c.args.ws.now c.args.w) (word_after c.args.ws.now c.args.w))

pub past-requires : goal.past-requires
unfolding shape_form slot_told last_told before_told
past-requires c = bare-most (small_of _ c.type_inv.source) (λ k. (c.type_inv.ws k).fits) c.requires.0 c.if-not-on.false refl (ap₂ (λ (v k : ℕ). slot 0 v k) (word_at c.args.ws.now c.args.w) (word_after c.args.ws.now c.args.w))

pub returns : goal.returns
unfolding shape_form slot_told last_told before_told
returns c = bare-put (small_of _ c.type_inv.source) (λ k. (c.type_inv.ws k).fits) c.requires.0 c.if-not-on.false refl (ap₂ (λ (v k : ℕ). slot 0 v k) (word_at c.args.ws.now c.args.w) (word_after c.args.ws.now c.args.w)) refl refl c.copy.ensures c.past.ensures
