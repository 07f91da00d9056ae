-- `write_puts::bytes` meets its contract: the bytes of a list. Assumes nothing.
use mathlib.Core.Path.{refl, sym, ap, ap₂, ◌∙◌}
use Prim.Native.Nat.{ℕ, ◌+◌}
use native.Mathlib.Omega.{arith}
use native.Mathlib.Nat.{mul-one}
use lib.ListN.{take, drop, get_or}
use Rattle.meaning.specs.Bytes.{put}
use Rattle.meaning.specs.Values.{slot, slot_told, last_told, before_told}
use Rattle.writer_forms.specs.Forms.{shape_form}
use Rattle.laws.specs.Numbers.{small_of}
use Rattle.write_fits.specs.Items.{stay, word_at, word_after}
use Rattle.write_puts.proofs.Shapes.{off, list_inside, bare-most, bare-put}
use Rattle.write_puts.proofs.bytes.Goals as goal

pub returns-then-not-on : goal.returns-then-not-on
returns-then-not-on c = off (small_of _ c.type_inv.source) (λ k. (c.type_inv.ws k).fits) c.requires.0 c.if-not-on.true

pub copy-requires : goal.copy-requires
unfolding shape_form slot_told last_told before_told
copy-requires c = let h = list_inside (small_of _ c.type_inv.source) (λ k. (c.type_inv.ws k).fits) c.requires.0 c.if-not-on.false refl (ap₂ (λ (v k : ℕ). slot 0 v k) (word_at c.args.ws.now c.args.w) (word_after c.args.ws.now c.args.w)) in omega (arith, h)

pub past-requires : goal.past-requires
unfolding shape_form slot_told last_told before_told
past-requires c = let h = bare-most (small_of _ c.type_inv.source) (λ k. (c.type_inv.ws k).fits) c.requires.0 c.if-not-on.false refl (ap₂ (λ (v k : ℕ). slot 0 v k) (word_at c.args.ws.now c.args.w) (word_after c.args.ws.now c.args.w)) in omega (arith, h)

pub returns : goal.returns
unfolding shape_form slot_told last_told before_told
returns c = bare-put (small_of _ c.type_inv.source) (λ k. (c.type_inv.ws k).fits) c.requires.0 c.if-not-on.false refl (ap₂ (λ (v k : ℕ). slot 0 v k) (word_at c.args.ws.now c.args.w) (word_after c.args.ws.now c.args.w)) refl refl (c.copy.ensures ∙ ap (λ (n : ℕ). put c.args.buffer.now c.args.c.at (take n (drop (get_or c.args.ws.now c.args.w 0) c.args.source.now))) (sym (mul-one (get_or c.args.ws.now (c.args.w + 1) 0)))) (c.past.ensures ∙ ap (λ (n : ℕ). stay n c.args.c) (sym (mul-one (get_or c.args.ws.now (c.args.w + 1) 0))))
