-- `write_fits::pad` meets its contract: zero bytes up to a multiple of 8. Assumes nothing.
use mathlib.Core.Path.{refl}
use Rattle.meaning.specs.Values.{slot_told, last_told, before_told}
use Rattle.writer_forms.specs.Forms.{shape_form}
use Rattle.laws.specs.Numbers.{small_of}
use Rattle.write_fits.specs.Items.{by-blank, off-free}
use Rattle.write_fits.proofs.pad.Goals as goal

pub returns-then-not-on : goal.returns-then-not-on
unfolding slot_told
returns-then-not-on c = off-free (small_of _ c.type_inv.source) (λ k. (c.type_inv.ws k).fits) c.requires c.if-not-on.true refl refl

pub returns : goal.returns
unfolding shape_form slot_told last_told before_told
returns c = by-blank (small_of _ c.type_inv.source) (λ k. (c.type_inv.ws k).fits) c.requires c.if-not-on.false refl refl refl refl c.over.ensures
