-- `write_puts::name` meets its contract: the bytes of a name, and zero bytes after it. Assumes nothing.
use mathlib.Core.Path.{◌≡◌, refl, sym, ap, ap₂, ◌∙◌}
use mathlib.Core.List.{List, ◌++◌}
use Prim.Native.Nat.{ℕ, ◌+◌, ◌-◌, ◌*◌, ◌%◌}
use native.Mathlib.Omega.{arith}
use native.Mathlib.Nat.{mul-one}
use lib.ListN.{length, take, drop, get_or, length-replicate}
use Rattle.meaning.specs.Bytes.{zeros}
use Rattle.meaning.specs.Values.{slot, slot_told, last_told, before_told}
use Rattle.writer_forms.specs.Forms.{shape_form, name_form}
use Rattle.laws.specs.Numbers.{small_of}
use Rattle.write_fits.specs.Steps.{state_of}
use Rattle.write_fits.specs.Items.{stay, word_at, word_after}
use Rattle.write_puts.proofs.Stores.{two-puts, part-long}
use Rattle.write_puts.proofs.Shapes.{off, name-inside, name-most, name-room, name-put}
use Rattle.write_puts.proofs.name.Goals as goal

pub returns-then-not-on : goal.returns-then-not-on
returns-then-not-on c = off (small_of _ c.type_inv.source) (λ k. (c.type_inv.ws k).fits) c.requires.0 c.if-not-on.true

pub overflow_add-zeros : goal.overflow_add-zeros
unfolding shape_form slot_told last_told before_told
overflow_add-zeros c =
    let i = name-inside (small_of _ c.type_inv.source) (λ k. (c.type_inv.ws k).fits) c.requires.0 c.if-not-on.false (ap (λ (k : ℕ). name_form (state_of c.args.c) k (8 - (c.args.c.at + k) % 8)) (word_after c.args.ws.now c.args.w)) (ap₂ (λ (v k : ℕ). slot 0 v k) (word_at c.args.ws.now c.args.w) (word_after c.args.ws.now c.args.w)) in let m = name-most (small_of _ c.type_inv.source) (λ k. (c.type_inv.ws k).fits) c.requires.0 c.if-not-on.false (ap (λ (k : ℕ). name_form (state_of c.args.c) k (8 - (c.args.c.at + k) % 8)) (word_after c.args.ws.now c.args.w)) (ap₂ (λ (v k : ℕ). slot 0 v k) (word_at c.args.ws.now c.args.w) (word_after c.args.ws.now c.args.w)) in omega (arith, m)

pub copy-requires : goal.copy-requires
unfolding shape_form slot_told last_told before_told
copy-requires c =
    let i = name-inside (small_of _ c.type_inv.source) (λ k. (c.type_inv.ws k).fits) c.requires.0 c.if-not-on.false (ap (λ (k : ℕ). name_form (state_of c.args.c) k (8 - (c.args.c.at + k) % 8)) (word_after c.args.ws.now c.args.w)) (ap₂ (λ (v k : ℕ). slot 0 v k) (word_at c.args.ws.now c.args.w) (word_after c.args.ws.now c.args.w)) in let m = name-most (small_of _ c.type_inv.source) (λ k. (c.type_inv.ws k).fits) c.requires.0 c.if-not-on.false (ap (λ (k : ℕ). name_form (state_of c.args.c) k (8 - (c.args.c.at + k) % 8)) (word_after c.args.ws.now c.args.w)) (ap₂ (λ (v k : ℕ). slot 0 v k) (word_at c.args.ws.now c.args.w) (word_after c.args.ws.now c.args.w)) in omega (arith, i)

pub overflow_add-c : goal.overflow_add-c
unfolding shape_form slot_told last_told before_told
overflow_add-c c =
    let i = name-inside (small_of _ c.type_inv.source) (λ k. (c.type_inv.ws k).fits) c.requires.0 c.if-not-on.false (ap (λ (k : ℕ). name_form (state_of c.args.c) k (8 - (c.args.c.at + k) % 8)) (word_after c.args.ws.now c.args.w)) (ap₂ (λ (v k : ℕ). slot 0 v k) (word_at c.args.ws.now c.args.w) (word_after c.args.ws.now c.args.w)) in let m = name-most (small_of _ c.type_inv.source) (λ k. (c.type_inv.ws k).fits) c.requires.0 c.if-not-on.false (ap (λ (k : ℕ). name_form (state_of c.args.c) k (8 - (c.args.c.at + k) % 8)) (word_after c.args.ws.now c.args.w)) (ap₂ (λ (v k : ℕ). slot 0 v k) (word_at c.args.ws.now c.args.w) (word_after c.args.ws.now c.args.w)) in omega (arith, m)

pub overflow_add-many-2 : goal.overflow_add-many-2
unfolding shape_form slot_told last_told before_told
overflow_add-many-2 c =
    let i = name-inside (small_of _ c.type_inv.source) (λ k. (c.type_inv.ws k).fits) c.requires.0 c.if-not-on.false (ap (λ (k : ℕ). name_form (state_of c.args.c) k (8 - (c.args.c.at + k) % 8)) (word_after c.args.ws.now c.args.w)) (ap₂ (λ (v k : ℕ). slot 0 v k) (word_at c.args.ws.now c.args.w) (word_after c.args.ws.now c.args.w)) in let m = name-most (small_of _ c.type_inv.source) (λ k. (c.type_inv.ws k).fits) c.requires.0 c.if-not-on.false (ap (λ (k : ℕ). name_form (state_of c.args.c) k (8 - (c.args.c.at + k) % 8)) (word_after c.args.ws.now c.args.w)) (ap₂ (λ (v k : ℕ). slot 0 v k) (word_at c.args.ws.now c.args.w) (word_after c.args.ws.now c.args.w)) in omega (arith, m)

pub past-requires : goal.past-requires
unfolding shape_form slot_told last_told before_told
past-requires c =
    let i = name-inside (small_of _ c.type_inv.source) (λ k. (c.type_inv.ws k).fits) c.requires.0 c.if-not-on.false (ap (λ (k : ℕ). name_form (state_of c.args.c) k (8 - (c.args.c.at + k) % 8)) (word_after c.args.ws.now c.args.w)) (ap₂ (λ (v k : ℕ). slot 0 v k) (word_at c.args.ws.now c.args.w) (word_after c.args.ws.now c.args.w)) in let m = name-most (small_of _ c.type_inv.source) (λ k. (c.type_inv.ws k).fits) c.requires.0 c.if-not-on.false (ap (λ (k : ℕ). name_form (state_of c.args.c) k (8 - (c.args.c.at + k) % 8)) (word_after c.args.ws.now c.args.w)) (ap₂ (λ (v k : ℕ). slot 0 v k) (word_at c.args.ws.now c.args.w) (word_after c.args.ws.now c.args.w)) in omega (arith, m)

pub returns : goal.returns
unfolding shape_form slot_told last_told before_told
returns c =
    let a = c.args in
    let L : List ℕ = take (get_or c.args.ws.now (c.args.w + 1) 0) (drop (get_or c.args.ws.now c.args.w 0) a.source.now) in
    let i = name-inside (small_of _ c.type_inv.source) (λ k. (c.type_inv.ws k).fits) c.requires.0 c.if-not-on.false (ap (λ (k : ℕ). name_form (state_of c.args.c) k (8 - (c.args.c.at + k) % 8)) (word_after c.args.ws.now c.args.w)) (ap₂ (λ (v k : ℕ). slot 0 v k) (word_at c.args.ws.now c.args.w) (word_after c.args.ws.now c.args.w)) in let m = name-most (small_of _ c.type_inv.source) (λ k. (c.type_inv.ws k).fits) c.requires.0 c.if-not-on.false (ap (λ (k : ℕ). name_form (state_of c.args.c) k (8 - (c.args.c.at + k) % 8)) (word_after c.args.ws.now c.args.w)) (ap₂ (λ (v k : ℕ). slot 0 v k) (word_at c.args.ws.now c.args.w) (word_after c.args.ws.now c.args.w)) in
    let rm = name-room (small_of _ c.type_inv.source) (λ k. (c.type_inv.ws k).fits) c.requires.0 c.if-not-on.false (ap (λ (k : ℕ). name_form (state_of c.args.c) k (8 - (c.args.c.at + k) % 8)) (word_after c.args.ws.now c.args.w)) (ap₂ (λ (v k : ℕ). slot 0 v k) (word_at c.args.ws.now c.args.w) (word_after c.args.ws.now c.args.w)) in
    let l : length L ≡ (get_or c.args.ws.now (c.args.w + 1) 0) = part-long a.source.now (get_or c.args.ws.now c.args.w 0) (get_or c.args.ws.now (c.args.w + 1) 0) (omega (arith, i)) in
    let z = length-replicate {A = ℕ} (8 - (c.args.c.at + (get_or c.args.ws.now (c.args.w + 1) 0)) % 8) 0 in
    name-put (small_of _ c.type_inv.source) (λ k. (c.type_inv.ws k).fits) c.requires.0 c.if-not-on.false (ap (λ (k : ℕ). name_form (state_of c.args.c) k (8 - (c.args.c.at + k) % 8)) (word_after c.args.ws.now c.args.w)) (ap₂ (λ (v k : ℕ). slot 0 v k) (word_at c.args.ws.now c.args.w) (word_after c.args.ws.now c.args.w)) refl refl
    (two-puts a.buffer.now _ _ a.c.at (get_or c.args.ws.now (c.args.w + 1) 0) L (zeros (8 - (c.args.c.at + (get_or c.args.ws.now (c.args.w + 1) 0)) % 8)) (take ((get_or c.args.ws.now (c.args.w + 1) 0) * 1) (drop (get_or c.args.ws.now c.args.w 0) a.source.now) ++ zeros (8 - (c.args.c.at + (get_or c.args.ws.now (c.args.w + 1) 0)) % 8)) l c.copy.ensures c.zero_at.ensures (omega (arith, rm, z))
    (ap (λ (n : ℕ). take n (drop (get_or c.args.ws.now c.args.w 0) a.source.now) ++ zeros (8 - (c.args.c.at + (get_or c.args.ws.now (c.args.w + 1) 0)) % 8)) (sym (mul-one (get_or c.args.ws.now (c.args.w + 1) 0)))))
    (c.past.ensures ∙ ap (λ (k : ℕ). stay (k + (8 - (c.args.c.at + (get_or c.args.ws.now (c.args.w + 1) 0)) % 8)) a.c) (sym (mul-one (get_or c.args.ws.now (c.args.w + 1) 0))))
