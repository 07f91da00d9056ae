-- `write_fits::bytes` meets its contract: a list by its own count. Assumes nothing.
use mathlib.Core.Path.{refl, ap₂}
use Prim.Native.Nat.{ℕ}
use Rattle.meaning.specs.Values.{slot, slot_told, last_told, before_told}
use Rattle.writer_forms.specs.Forms.{shape_form}
use Rattle.laws.specs.Numbers.{small_of}
use Rattle.write_fits.specs.Items.{by-list, off-counted, word_at, word_after}
use Rattle.write_fits.proofs.bytes.Goals as goal

pub returns-then-not-on : goal.returns-then-not-on
unfolding slot_told
returns-then-not-on c = off-counted (small_of _ c.type_inv.source) (λ k. (c.type_inv.ws k).fits) c.requires.0 c.if-not-on.true (ap₂ (λ (v k : ℕ). slot 0 v k) (word_at c.args.ws.now c.args.w) (word_after c.args.ws.now c.args.w)) c.none.ensures

pub returns : goal.returns
unfolding shape_form slot_told last_told before_told
returns c = by-list (small_of _ c.type_inv.source) (λ k. (c.type_inv.ws k).fits) c.requires.0 c.if-not-on.false refl (ap₂ (λ (v k : ℕ). slot 0 v k) (word_at c.args.ws.now c.args.w) (word_after c.args.ws.now c.args.w)) refl refl c.list.ensures
