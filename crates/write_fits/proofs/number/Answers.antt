-- `write_fits::number` meets its contract: a number of the width, or none. Assumes nothing.
use mathlib.Core.Path.{refl, ap}
use Prim.Native.Nat.{ℕ}
use Rattle.meaning.specs.Values.{slot, slot_told, last_told, before_told}
use Rattle.writer_forms.specs.Forms.{shape_form}
use Rattle.laws.specs.Numbers.{small_of}
use Rattle.write_fits.specs.Items.{by-plain, off-number, word_at}
use Rattle.write_fits.proofs.number.Goals as goal

pub returns-then-not-on : goal.returns-then-not-on
unfolding slot_told
returns-then-not-on c = off-number (small_of _ c.type_inv.source) (λ k. (c.type_inv.ws k).fits) c.requires.0 c.if-not-on.true (ap (λ (v : ℕ). slot v 0 0) (word_at c.args.ws.now c.args.w)) c.none.ensures

pub returns : goal.returns
unfolding shape_form slot_told last_told before_told
returns c =
    by-plain (small_of _ c.type_inv.source) (λ k. (c.type_inv.ws k).fits) c.requires.0 c.if-not-on.false refl (ap (λ (v : ℕ). slot v 0 0) (word_at c.args.ws.now c.args.w)) refl refl c.largest.ensures c.bytes.ensures.0 c.over.ensures
