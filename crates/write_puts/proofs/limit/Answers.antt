-- `write_puts::limit` meets its contract: one byte. Assumes nothing.
use mathlib.Core.Path.{refl, ap}
use mathlib.Core.Bool.{false}
use Prim.Native.Nat.{ℕ}
use lib.ListN.{get_or}
use Rattle.meaning.specs.Values.{slot, slot_told, last_told, before_told}
use Rattle.writer_forms.specs.Forms.{shape_form, number_form}
use Rattle.laws.specs.Numbers.{small_of}
use Rattle.write_fits.specs.declared.Walked.{Walked}
use Rattle.write_fits.specs.Steps.{walked}
use Rattle.write_fits.specs.Items.{word_at}
use Rattle.write_puts.proofs.Shapes.{off, number-room, number-most, number_put}
use Rattle.write_puts.proofs.limit.Goals as goal

pub returns-then-not-on : goal.returns-then-not-on
returns-then-not-on c = off (small_of _ c.type_inv.source) (λ k. (c.type_inv.ws k).fits) c.requires.0 c.if-not-on.true

pub store-requires : goal.store-requires
unfolding shape_form slot_told last_told before_told
store-requires c = number-room (small_of _ c.type_inv.source) (λ k. (c.type_inv.ws k).fits) c.requires.0 c.if-not-on.false (ap (λ (v : ℕ). number_form 1 20 false v c.args.c.old) (word_at c.args.ws.now c.args.w)) (ap (λ (v : ℕ). slot v 0 0) (word_at c.args.ws.now c.args.w))

pub past-requires : goal.past-requires
unfolding shape_form slot_told last_told before_told
past-requires c = number-most (small_of _ c.type_inv.source) (λ k. (c.type_inv.ws k).fits) c.requires.0 c.if-not-on.false (ap (λ (v : ℕ). number_form 1 20 false v c.args.c.old) (word_at c.args.ws.now c.args.w)) (ap (λ (v : ℕ). slot v 0 0) (word_at c.args.ws.now c.args.w))

pub returns : goal.returns
unfolding shape_form slot_told last_told before_told
returns c = number_put (small_of _ c.type_inv.source) (λ k. (c.type_inv.ws k).fits) c.requires.0 c.if-not-on.false (ap (λ (v : ℕ). number_form 1 20 false v c.args.c.old) (word_at c.args.ws.now c.args.w)) (ap (λ (v : ℕ). slot v 0 0) (word_at c.args.ws.now c.args.w)) (word_at c.args.ws.now c.args.w) refl c.store.ensures (ap (λ (d : Walked). walked d.at (get_or c.args.ws.now c.args.w 0) d.old (get_or c.args.ws.now c.args.w 0) d.before d.bad) c.past.ensures)
