-- `write_fits::times` meets its contract: a list by the last count. Assumes nothing.
use mathlib.Core.Path.{refl, ap}
use Prim.Native.Nat.{ℕ}
use Rattle.meaning.specs.Values.{slot, slot_told, last_told, before_told}
use Rattle.writer_forms.specs.Forms.{shape_form}
use Rattle.laws.specs.Numbers.{small_of}
use Rattle.write_fits.specs.Items.{by-list, off-free, word_at}
use Rattle.write_fits.proofs.times.Goals as goal

pub returns-then-not-on : goal.returns-then-not-on
unfolding slot_told
returns-then-not-on c = off-free (small_of _ c.type_inv.source) (λ k. (c.type_inv.ws k).fits) c.requires.0 c.if-not-on.true refl refl

pub returns : goal.returns
unfolding shape_form slot_told last_told before_told
returns c = by-list (small_of _ c.type_inv.source) (λ k. (c.type_inv.ws k).fits) c.requires.0 c.if-not-on.false refl (ap (λ (v : ℕ). slot 0 v c.args.c.told) (word_at c.args.ws.now c.args.w)) refl refl c.list.ensures
