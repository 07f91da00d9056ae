-- `write_puts::abi` meets its contract: the abi word. Assumes nothing.
use mathlib.Core.Path.{refl, ap}
use mathlib.Core.Bool.{false, cond}
use Prim.Native.Nat.{ℕ, ◌+◌}
use native.Mathlib.Omega.{arith}
use lib.Dec.{eqb}
use Rattle.meaning.specs.Bytes.{ones}
use Rattle.meaning.specs.Values.{slot, slot_told, last_told, before_told}
use Rattle.writer_forms.specs.Forms.{top, shape_form, number_form}
use Rattle.laws.specs.Numbers.{small_of}
use Rattle.write_fits.specs.Steps.{walked}
use Rattle.write_fits.specs.Items.{word_at}
use Rattle.write_puts.proofs.Shapes.{off, number-room, number-most, number_put}
use Rattle.write_puts.proofs.abi.Goals as goal

pub returns-then-not-on : goal.returns-then-not-on
returns-then-not-on c = off (small_of _ c.type_inv.source) (λ k. (c.type_inv.ws k).fits) c.requires.0 c.if-not-on.true

pub store8-requires : goal.store8-requires
unfolding shape_form slot_told last_told before_told
store8-requires c = number-room (small_of _ c.type_inv.source) (λ k. (c.type_inv.ws k).fits) c.requires.0 c.if-not-on.false (ap (λ (v : ℕ). number_form 8 (top 8) false (cond (eqb v 0) 0 (ones 64 c.args.mask)) c.args.c.old) (word_at c.args.ws.now c.args.w)) (ap (λ (v : ℕ). slot v 0 0) (word_at c.args.ws.now c.args.w))

pub overflow_add-result : goal.overflow_add-result
unfolding shape_form slot_told last_told before_told
overflow_add-result c = let h = number-most (small_of _ c.type_inv.source) (λ k. (c.type_inv.ws k).fits) c.requires.0 c.if-not-on.false (ap (λ (v : ℕ). number_form 8 (top 8) false (cond (eqb v 0) 0 (ones 64 c.args.mask)) c.args.c.old) (word_at c.args.ws.now c.args.w)) (ap (λ (v : ℕ). slot v 0 0) (word_at c.args.ws.now c.args.w)) in omega (arith, h)

pub returns : goal.returns
unfolding shape_form slot_told last_told before_told
returns c = number_put (small_of _ c.type_inv.source) (λ k. (c.type_inv.ws k).fits) c.requires.0 c.if-not-on.false (ap (λ (v : ℕ). number_form 8 (top 8) false (cond (eqb v 0) 0 (ones 64 c.args.mask)) c.args.c.old) (word_at c.args.ws.now c.args.w)) (ap (λ (v : ℕ). slot v 0 0) (word_at c.args.ws.now c.args.w)) refl refl c.store8.ensures (ap (λ (n : ℕ). walked (c.args.c.at + 8) n c.args.c.old c.args.c.told c.args.c.before c.args.c.bad) c.registers_by.ensures)
