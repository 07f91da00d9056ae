-- `write_puts::size` meets its contract: the bytes of a number that is remembered. Assumes nothing.
use mathlib.Core.Path.{refl, ap}
use mathlib.Core.Bool.{true}
use Prim.Native.Nat.{ℕ, ◌+◌}
use native.Mathlib.Omega.{arith}
use lib.ListN.{get_or}
use Rattle.meaning.specs.Items.{bytes}
use Rattle.meaning.specs.Values.{slot, slot_told, last_told, before_told}
use Rattle.writer_forms.specs.Forms.{top, shape_form, number_form}
use Rattle.laws.specs.Numbers.{small_of}
use Rattle.write_fits.specs.Steps.{walked}
use Rattle.write_fits.specs.Items.{word_at}
use Rattle.write_puts.proofs.Shapes.{off, number-room, number-most, number_put}
use Rattle.write_puts.proofs.size.Goals as goal

pub returns-then-not-on : goal.returns-then-not-on
returns-then-not-on c = off (small_of _ c.type_inv.source) (λ k. (c.type_inv.ws k).fits) c.requires.0 c.if-not-on.true

pub store-requires : goal.store-requires
unfolding shape_form slot_told last_told before_told
store-requires c = number-room (small_of _ c.type_inv.source) (λ k. (c.type_inv.ws k).fits) c.requires.0 c.if-not-on.false (ap (λ (v : ℕ). number_form (bytes c.args.width) (top (bytes c.args.width)) true v c.args.c.old) (word_at c.args.ws.now c.args.w)) (ap (λ (v : ℕ). slot v 0 0) (word_at c.args.ws.now c.args.w))

pub overflow_add-result : goal.overflow_add-result
unfolding shape_form slot_told last_told before_told
overflow_add-result c = let h = number-most (small_of _ c.type_inv.source) (λ k. (c.type_inv.ws k).fits) c.requires.0 c.if-not-on.false (ap (λ (v : ℕ). number_form (bytes c.args.width) (top (bytes c.args.width)) true v c.args.c.old) (word_at c.args.ws.now c.args.w)) (ap (λ (v : ℕ). slot v 0 0) (word_at c.args.ws.now c.args.w)) in let k = c.bytes-k.ensures.0 in omega (arith, h, k)

pub returns : goal.returns
unfolding shape_form slot_told last_told before_told
returns c = number_put (small_of _ c.type_inv.source) (λ k. (c.type_inv.ws k).fits) c.requires.0 c.if-not-on.false (ap (λ (v : ℕ). number_form (bytes c.args.width) (top (bytes c.args.width)) true v c.args.c.old) (word_at c.args.ws.now c.args.w)) (ap (λ (v : ℕ). slot v 0 0) (word_at c.args.ws.now c.args.w)) (word_at c.args.ws.now c.args.w) refl c.store.ensures (ap (λ (k : ℕ). walked (c.args.c.at + k) (get_or c.args.ws.now c.args.w 0) c.args.c.old (get_or c.args.ws.now c.args.w 0) c.args.c.before c.args.c.bad) c.bytes-k.ensures.0)
