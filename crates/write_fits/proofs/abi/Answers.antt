-- `write_fits::abi` meets its contract: the registers that follow are counted by the mask. Assumes nothing.
use mathlib.Core.Path.{refl, sym, ap, ◌∙◌}
use mathlib.Core.Bool.{false, cond}
use Prim.Native.Nat.{ℕ}
use lib.Dec.{eqb}
use Rattle.meaning.specs.Bytes.{ones}
use Rattle.meaning.specs.Values.{slot, slot_told, last_told, before_told}
use Rattle.writer_forms.specs.Forms.{top, shape_form, number_form}
use Rattle.laws.specs.Numbers.{small_of}
use Rattle.write_fits.specs.Items.{by-plain, off-number, word_at}
use Rattle.write_fits.proofs.abi.Goals as goal

pub returns-then-not-on : goal.returns-then-not-on
unfolding slot_told
returns-then-not-on c = off-number (small_of _ c.type_inv.source) (λ k. (c.type_inv.ws k).fits) c.requires.0 c.if-not-on.true (ap (λ (v : ℕ). slot v 0 0) (word_at c.args.ws.now c.args.w)) c.none.ensures

pub returns : goal.returns
unfolding shape_form slot_told last_told before_told
returns c =
    let a = c.args in
    by-plain (small_of _ c.type_inv.source) (λ k. (c.type_inv.ws k).fits) c.requires.0 c.if-not-on.false
    (ap (λ (n : ℕ). number_form 8 (top 8) false n a.c.old) (ap (λ (v : ℕ). cond (eqb v 0) 0 (ones 64 a.mask)) (word_at c.args.ws.now c.args.w) ∙ sym c.registers_by.ensures)) (ap (λ (v : ℕ). slot v 0 0) (word_at c.args.ws.now c.args.w)) refl refl c.largest.ensures refl c.past.ensures
