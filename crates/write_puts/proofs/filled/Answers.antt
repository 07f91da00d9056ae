-- `write_puts::filled` meets its contract: nothing where the size is 0. Assumes nothing.
use mathlib.Core.Path.{refl, sym, ap}
use mathlib.Core.Bool.{Bool, false, cond}
use Prim.Native.Nat.{ℕ}
use native.Mathlib.Omega.{arith}
use native.Mathlib.Nat.{add-zero}
use borrow.Author.Tests.{eq-eqb, ne_eqb}
use Rattle.meaning.specs.Bytes.{spell}
use Rattle.meaning.specs.Values.{slot, slot_told, last_told, before_told}
use Rattle.laws.specs.Put.{put-nil}
use Rattle.writer_forms.specs.Forms.{shape_form, number_form}
use Rattle.laws.specs.Numbers.{small_of}
use Rattle.write_fits.specs.Steps.{walked}
use Rattle.write_fits.specs.Items.{word_at}
use Rattle.write_puts.proofs.Shapes.{off, number-room, number-most, number_put}
use Rattle.write_puts.proofs.filled.Goals as goal

pub returns-then-not-on : goal.returns-then-not-on
returns-then-not-on c = off (small_of _ c.type_inv.source) (λ k. (c.type_inv.ws k).fits) c.requires.0 c.if-not-on.true

pub returns-then-c-eq0 : goal.returns-then-c-eq0
unfolding shape_form slot_told last_told before_told spell
returns-then-c-eq0 c = number_put (small_of _ c.type_inv.source) (λ k. (c.type_inv.ws k).fits) c.requires.0 c.if-not-on.false (ap (λ (t : Bool). number_form (cond t 0 8) c.args.c.n false c.args.c.n c.args.c.old) (eq-eqb _ 0 c.if-c-eq0.true)) (ap (λ (v : ℕ). slot v 0 0) (word_at c.args.ws.now c.args.w)) refl refl (sym (put-nil c.args.buffer.now c.args.c.at (let h = number-room (small_of _ c.type_inv.source) (λ k. (c.type_inv.ws k).fits) c.requires.0 c.if-not-on.false (ap (λ (t : Bool). number_form (cond t 0 8) c.args.c.n false c.args.c.n c.args.c.old) (eq-eqb _ 0 c.if-c-eq0.true)) (ap (λ (v : ℕ). slot v 0 0) (word_at c.args.ws.now c.args.w)) in omega (arith, h)))) (ap (λ (k : ℕ). walked k c.args.c.n c.args.c.old c.args.c.told c.args.c.before c.args.c.bad) (sym (add-zero c.args.c.at)))

pub store8-requires : goal.store8-requires
unfolding shape_form slot_told last_told before_told
store8-requires c = number-room (small_of _ c.type_inv.source) (λ k. (c.type_inv.ws k).fits) c.requires.0 c.if-not-on.false (ap (λ (t : Bool). number_form (cond t 0 8) c.args.c.n false c.args.c.n c.args.c.old) (ne_eqb _ 0 c.if-c-eq0.false)) (ap (λ (v : ℕ). slot v 0 0) (word_at c.args.ws.now c.args.w))

pub past-requires : goal.past-requires
unfolding shape_form slot_told last_told before_told
past-requires c = number-most (small_of _ c.type_inv.source) (λ k. (c.type_inv.ws k).fits) c.requires.0 c.if-not-on.false (ap (λ (t : Bool). number_form (cond t 0 8) c.args.c.n false c.args.c.n c.args.c.old) (ne_eqb _ 0 c.if-c-eq0.false)) (ap (λ (v : ℕ). slot v 0 0) (word_at c.args.ws.now c.args.w))

pub returns : goal.returns
unfolding shape_form slot_told last_told before_told
returns c = number_put (small_of _ c.type_inv.source) (λ k. (c.type_inv.ws k).fits) c.requires.0 c.if-not-on.false (ap (λ (t : Bool). number_form (cond t 0 8) c.args.c.n false c.args.c.n c.args.c.old) (ne_eqb _ 0 c.if-c-eq0.false)) (ap (λ (v : ℕ). slot v 0 0) (word_at c.args.ws.now c.args.w)) refl refl c.store8.ensures c.past.ensures
