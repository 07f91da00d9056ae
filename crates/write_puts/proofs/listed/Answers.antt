-- `write_puts::listed` meets its contract: the bytes of a list, and zero bytes after it. Assumes nothing.
use mathlib.Core.Path.{◌≡◌, refl, sym, ap, ap₂, ◌∙◌}
use mathlib.Core.List.{List, ◌++◌}
use Prim.Native.Nat.{ℕ, ◌+◌, ◌-◌, ◌*◌}
use native.Mathlib.Omega.{arith}
use native.Mathlib.Nat.{mul-one}
use lib.ListN.{length, take, drop, get_or, length-replicate}
use Rattle.meaning.specs.Bytes.{zeros}
use Rattle.meaning.specs.Values.{slot, slot_told, last_told, before_told}
use Rattle.writer_forms.specs.Forms.{shape_form}
use Rattle.laws.specs.Numbers.{small_of}
use Rattle.write_fits.specs.Items.{stay, word_at}
use Rattle.write_puts.proofs.Stores.{two-puts, part-long}
use Rattle.write_puts.proofs.Shapes.{off, list_inside, list-most, list-room, list_put, list-wanted}
use Rattle.write_puts.proofs.listed.Goals as goal

pub returns-then-not-on : goal.returns-then-not-on
returns-then-not-on c = off (small_of _ c.type_inv.source) (λ k. (c.type_inv.ws k).fits) c.requires.0 c.if-not-on.true

pub copy-requires : goal.copy-requires
unfolding shape_form slot_told last_told before_told
copy-requires c =
    let i = list_inside (small_of _ c.type_inv.source) (λ k. (c.type_inv.ws k).fits) c.requires.0 c.if-not-on.false refl (ap (λ (v : ℕ). slot 0 v c.args.c.told) (word_at c.args.ws.now c.args.w)) in let m = list-most (small_of _ c.type_inv.source) (λ k. (c.type_inv.ws k).fits) c.requires.0 c.if-not-on.false refl (ap (λ (v : ℕ). slot 0 v c.args.c.told) (word_at c.args.ws.now c.args.w)) in let g = list-wanted (small_of _ c.type_inv.source) (λ k. (c.type_inv.ws k).fits) c.requires.0 c.if-not-on.false refl (ap (λ (v : ℕ). slot 0 v c.args.c.told) (word_at c.args.ws.now c.args.w)) (omega arith) in omega (arith, i)

pub overflow_add-c : goal.overflow_add-c
unfolding shape_form slot_told last_told before_told
overflow_add-c c =
    let i = list_inside (small_of _ c.type_inv.source) (λ k. (c.type_inv.ws k).fits) c.requires.0 c.if-not-on.false refl (ap (λ (v : ℕ). slot 0 v c.args.c.told) (word_at c.args.ws.now c.args.w)) in let m = list-most (small_of _ c.type_inv.source) (λ k. (c.type_inv.ws k).fits) c.requires.0 c.if-not-on.false refl (ap (λ (v : ℕ). slot 0 v c.args.c.told) (word_at c.args.ws.now c.args.w)) in let g = list-wanted (small_of _ c.type_inv.source) (λ k. (c.type_inv.ws k).fits) c.requires.0 c.if-not-on.false refl (ap (λ (v : ℕ). slot 0 v c.args.c.told) (word_at c.args.ws.now c.args.w)) (omega arith) in omega (arith, m)

pub overflow_sub-many : goal.overflow_sub-many
unfolding shape_form slot_told last_told before_told
overflow_sub-many c =
    let i = list_inside (small_of _ c.type_inv.source) (λ k. (c.type_inv.ws k).fits) c.requires.0 c.if-not-on.false refl (ap (λ (v : ℕ). slot 0 v c.args.c.told) (word_at c.args.ws.now c.args.w)) in let m = list-most (small_of _ c.type_inv.source) (λ k. (c.type_inv.ws k).fits) c.requires.0 c.if-not-on.false refl (ap (λ (v : ℕ). slot 0 v c.args.c.told) (word_at c.args.ws.now c.args.w)) in let g = list-wanted (small_of _ c.type_inv.source) (λ k. (c.type_inv.ws k).fits) c.requires.0 c.if-not-on.false refl (ap (λ (v : ℕ). slot 0 v c.args.c.told) (word_at c.args.ws.now c.args.w)) (omega arith) in omega (arith, g)

pub past-requires : goal.past-requires
unfolding shape_form slot_told last_told before_told
past-requires c =
    let i = list_inside (small_of _ c.type_inv.source) (λ k. (c.type_inv.ws k).fits) c.requires.0 c.if-not-on.false refl (ap (λ (v : ℕ). slot 0 v c.args.c.told) (word_at c.args.ws.now c.args.w)) in let m = list-most (small_of _ c.type_inv.source) (λ k. (c.type_inv.ws k).fits) c.requires.0 c.if-not-on.false refl (ap (λ (v : ℕ). slot 0 v c.args.c.told) (word_at c.args.ws.now c.args.w)) in let g = list-wanted (small_of _ c.type_inv.source) (λ k. (c.type_inv.ws k).fits) c.requires.0 c.if-not-on.false refl (ap (λ (v : ℕ). slot 0 v c.args.c.told) (word_at c.args.ws.now c.args.w)) (omega arith) in omega (arith, m, g)

pub returns : goal.returns
unfolding shape_form slot_told last_told before_told
returns c =
    let a = c.args in
    let L : List ℕ = take c.args.c.told (drop (get_or c.args.ws.now c.args.w 0) a.source.now) in
    let i = list_inside (small_of _ c.type_inv.source) (λ k. (c.type_inv.ws k).fits) c.requires.0 c.if-not-on.false refl (ap (λ (v : ℕ). slot 0 v c.args.c.told) (word_at c.args.ws.now c.args.w)) in let m = list-most (small_of _ c.type_inv.source) (λ k. (c.type_inv.ws k).fits) c.requires.0 c.if-not-on.false refl (ap (λ (v : ℕ). slot 0 v c.args.c.told) (word_at c.args.ws.now c.args.w)) in let g = list-wanted (small_of _ c.type_inv.source) (λ k. (c.type_inv.ws k).fits) c.requires.0 c.if-not-on.false refl (ap (λ (v : ℕ). slot 0 v c.args.c.told) (word_at c.args.ws.now c.args.w)) (omega arith) in
    let rm = list-room (small_of _ c.type_inv.source) (λ k. (c.type_inv.ws k).fits) c.requires.0 c.if-not-on.false refl (ap (λ (v : ℕ). slot 0 v c.args.c.told) (word_at c.args.ws.now c.args.w)) in
    let l : length L ≡ c.args.c.told = part-long a.source.now (get_or c.args.ws.now c.args.w 0) c.args.c.told (omega (arith, i)) in
    let z = length-replicate {A = ℕ} (20 - c.args.c.told) 0 in
    let w : 20 - c.args.c.told ≡ 20 - (20 - (20 - c.args.c.n)) = omega (arith, g) in
    list_put (small_of _ c.type_inv.source) (λ k. (c.type_inv.ws k).fits) c.requires.0 c.if-not-on.false refl (ap (λ (v : ℕ). slot 0 v c.args.c.told) (word_at c.args.ws.now c.args.w)) refl refl
    (two-puts a.buffer.now _ _ a.c.at c.args.c.told L (zeros (20 - c.args.c.told)) (take (c.args.c.told * 1) (drop (get_or c.args.ws.now c.args.w 0) a.source.now) ++ zeros (20 - (20 - (20 - c.args.c.n)))) l c.copy.ensures c.zero_at.ensures (omega (arith, rm, g, z))
    (ap₂ (λ (n k : ℕ). take n (drop (get_or c.args.ws.now c.args.w 0) a.source.now) ++ zeros k) (sym (mul-one c.args.c.told)) w))
    (c.past.ensures ∙ ap (λ (k : ℕ). stay k a.c) (let y : 20 ≡ c.args.c.told * 1 + (20 - (20 - (20 - c.args.c.n))) = omega (arith, g) in y))
