-- `write_puts::ignored` meets its contract: zero bytes. Assumes nothing.
use mathlib.Core.Path.{refl}
use Rattle.meaning.specs.Values.{slot_told, last_told, before_told}
use Rattle.writer_forms.specs.Forms.{shape_form}
use Rattle.laws.specs.Numbers.{small_of}
use Rattle.write_puts.proofs.Shapes.{off, blank-most, blank-put}
use Rattle.write_puts.proofs.ignored.Goals as goal

pub returns-then-not-on : goal.returns-then-not-on
returns-then-not-on c = off (small_of _ c.type_inv.source) (λ k. (c.type_inv.ws k).fits) c.requires c.if-not-on.true

pub past-requires : goal.past-requires
unfolding shape_form slot_told last_told before_told
past-requires c = blank-most (small_of _ c.type_inv.source) (λ k. (c.type_inv.ws k).fits) c.requires c.if-not-on.false refl refl

pub returns : goal.returns
unfolding shape_form slot_told last_told before_told
returns c = blank-put (small_of _ c.type_inv.source) (λ k. (c.type_inv.ws k).fits) c.requires c.if-not-on.false refl refl refl refl c.zero_at.ensures c.past.ensures
