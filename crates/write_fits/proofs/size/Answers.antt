-- `write_fits::size` meets its contract: a number that makes a multiple of 8 with its own bytes. Assumes nothing.
use mathlib.Core.Path.{refl, ap}
use mathlib.Core.Bool.{true}
use Prim.Native.Nat.{ℕ}
use Rattle.meaning.specs.Items.{bytes}
use Rattle.meaning.specs.Values.{slot, slot_told, last_told, before_told}
use Rattle.writer_forms.specs.Forms.{top, shape_form, number_form}
use Rattle.laws.specs.Numbers.{small_of}
use Rattle.write_fits.specs.Items.{by-eights, off-number, word_at}
use Rattle.write_fits.proofs.size.Goals as goal

pub returns-then-not-on : goal.returns-then-not-on
unfolding slot_told
returns-then-not-on c = off-number (small_of _ c.type_inv.source) (λ k. (c.type_inv.ws k).fits) c.requires.0 c.if-not-on.true (ap (λ (v : ℕ). slot v 0 0) (word_at c.args.ws.now c.args.w)) c.none.ensures

pub returns : goal.returns
unfolding shape_form slot_told last_told before_told
returns c =
    let a = c.args in
    by-eights (small_of _ c.type_inv.source) (λ k. (c.type_inv.ws k).fits) c.requires.0 c.if-not-on.false (ap (λ (v : ℕ). number_form (bytes a.width) (top (bytes a.width)) true v a.c.old) (word_at c.args.ws.now c.args.w)) (ap (λ (v : ℕ). slot v 0 0) (word_at c.args.ws.now c.args.w)) (word_at c.args.ws.now c.args.w) refl c.largest.ensures c.bytes-k.ensures.0 c.past.ensures
