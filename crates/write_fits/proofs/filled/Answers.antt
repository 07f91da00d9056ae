-- `write_fits::filled` meets its contract: at most the size; none where the size is 0. Assumes nothing.
use mathlib.Core.Path.{refl, ap}
use mathlib.Core.Bool.{Bool, false, cond}
use Prim.Native.Nat.{ℕ}
use borrow.Author.Tests.{eq-eqb, ne_eqb}
use Rattle.meaning.specs.Values.{slot, slot_told, last_told, before_told}
use Rattle.writer_forms.specs.Forms.{shape_form, number_form}
use Rattle.laws.specs.Numbers.{small_of}
use Rattle.write_fits.specs.Items.{by-plain, off-number, word_at}
use Rattle.write_fits.proofs.filled.Goals as goal

pub returns-then-not-on : goal.returns-then-not-on
unfolding slot_told
returns-then-not-on c = off-number (small_of _ c.type_inv.source) (λ k. (c.type_inv.ws k).fits) c.requires.0 c.if-not-on.true (ap (λ (v : ℕ). slot v 0 0) (word_at c.args.ws.now c.args.w)) c.none.ensures

pub returns-then-c-eq0 : goal.returns-then-c-eq0
unfolding shape_form slot_told last_told before_told
returns-then-c-eq0 c =
    let a = c.args in
    by-plain (small_of _ c.type_inv.source) (λ k. (c.type_inv.ws k).fits) c.requires.0 c.if-not-on.false (ap (λ (t : Bool). number_form (cond t 0 8) a.c.n false a.c.n a.c.old) (eq-eqb _ 0 c.if-c-eq0.true)) (ap (λ (v : ℕ). slot v 0 0) (word_at c.args.ws.now c.args.w)) refl refl refl refl c.over.ensures

pub returns : goal.returns
unfolding shape_form slot_told last_told before_told
returns c =
    let a = c.args in
    by-plain (small_of _ c.type_inv.source) (λ k. (c.type_inv.ws k).fits) c.requires.0 c.if-not-on.false (ap (λ (t : Bool). number_form (cond t 0 8) a.c.n false a.c.n a.c.old) (ne_eqb _ 0 c.if-c-eq0.false)) (ap (λ (v : ℕ). slot v 0 0) (word_at c.args.ws.now c.args.w)) refl refl refl refl c.over-2.ensures
