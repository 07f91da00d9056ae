-- `write_fits::ignored` meets its contract: so many zero bytes. Assumes nothing.
use mathlib.Core.Path.{refl}
use Rattle.meaning.specs.Values.{slot_told, last_told, before_told}
use Rattle.writer_forms.specs.Forms.{shape_form}
use Rattle.laws.specs.Numbers.{small_of}
use Rattle.write_fits.specs.Items.{by-blank, off-free}
use Rattle.write_fits.proofs.ignored.Goals as goal

pub returns-then-not-on : goal.returns-then-not-on
unfolding slot_told
returns-then-not-on c = off-free (small_of _ c.type_inv.source) (λ k. (c.type_inv.ws k).fits) c.requires.0 c.if-not-on.true refl refl

pub returns : goal.returns
unfolding shape_form slot_told last_told before_told
returns c = by-blank (small_of _ c.type_inv.source) (λ k. (c.type_inv.ws k).fits) c.requires.0 c.if-not-on.false refl refl refl refl c.over.ensures
