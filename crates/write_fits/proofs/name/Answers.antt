-- `write_fits::name` meets its contract: inside the source, without a zero. Assumes nothing.
use mathlib.Core.Path.{◌≡◌, refl, ap, ap₂, ◌∙◌}
use mathlib.Core.Bool.{Bool, cond}
use Prim.Native.Nat.{ℕ, ◌+◌, ◌-◌, ◌*◌, ◌%◌}
use native.Mathlib.Omega.{arith}
use lib.ListN.{length, take, drop, get_or}
use Rattle.meaning.specs.Bytes.{nonzero}
use Rattle.meaning.specs.Values.{slot, slot_told, last_told, before_told}
use Rattle.writer_forms.specs.Forms.{shape_form, name_form}
use Rattle.laws.specs.Numbers.{small_of}
use Rattle.write_fits.specs.Steps.{refused, state_of}
use Rattle.write_fits.specs.Items.{stay, by_name, off-counted, word_at, word_after, list-within, name-none, name-far, name-some}
use Rattle.write_fits.proofs.name.Goals as goal

pub returns-then-not-on : goal.returns-then-not-on
unfolding slot_told
returns-then-not-on c = off-counted (small_of _ c.type_inv.source) (λ k. (c.type_inv.ws k).fits) c.requires.0 c.if-not-on.true (ap₂ (λ (v k : ℕ). slot 0 v k) (word_at c.args.ws.now c.args.w) (word_after c.args.ws.now c.args.w)) c.none.ensures

pub returns-then-count-room : goal.returns-then-count-room
unfolding shape_form slot_told last_told before_told
returns-then-count-room c =
    let a = c.args in
    by_name (small_of _ c.type_inv.source) (λ k. (c.type_inv.ws k).fits) c.requires.0 c.if-not-on.false (ap (λ (k : ℕ). name_form (state_of a.c) k (8 - (a.c.at + k) % 8)) (word_after a.ws.now a.w)) (ap₂ (λ (v k : ℕ). slot 0 v k) (word_at c.args.ws.now c.args.w) (word_after c.args.ws.now c.args.w)) refl refl
    (c.refuse.ensures ∙ ap (λ (t : Bool). cond t (stay ((get_or a.ws.now (a.w + 1) 0) * 1 + (8 - (a.c.at + (get_or a.ws.now (a.w + 1) 0)) % 8)) a.c) (refused a.c)) (name-none c.args.source.now (get_or c.args.ws.now c.args.w 0) (get_or c.args.ws.now (c.args.w + 1) 0) (8 - (a.c.at + (get_or a.ws.now (a.w + 1) 0)) % 8) a.c c.if-count-room.true))

pub overflow_sub-room : goal.overflow_sub-room
overflow_sub-room c = (list-within (length c.args.source.now) (get_or c.args.ws.now c.args.w 0) (get_or c.args.ws.now (c.args.w + 1) 0) c.if-count-room.false).1

pub returns-then-room-from : goal.returns-then-room-from
unfolding shape_form slot_told last_told before_told
returns-then-room-from c =
    let a = c.args in
    by_name (small_of _ c.type_inv.source) (λ k. (c.type_inv.ws k).fits) c.requires.0 c.if-not-on.false (ap (λ (k : ℕ). name_form (state_of a.c) k (8 - (a.c.at + k) % 8)) (word_after a.ws.now a.w)) (ap₂ (λ (v k : ℕ). slot 0 v k) (word_at c.args.ws.now c.args.w) (word_after c.args.ws.now c.args.w)) refl refl
    (c.refuse-then-room-from.ensures ∙ ap (λ (t : Bool). cond t (stay ((get_or a.ws.now (a.w + 1) 0) * 1 + (8 - (a.c.at + (get_or a.ws.now (a.w + 1) 0)) % 8)) a.c) (refused a.c)) (name-far c.args.source.now (get_or c.args.ws.now c.args.w 0) (get_or c.args.ws.now (c.args.w + 1) 0) (8 - (a.c.at + (get_or a.ws.now (a.w + 1) 0)) % 8) a.c (let p = list-within (length c.args.source.now) (get_or c.args.ws.now c.args.w 0) (get_or c.args.ws.now (c.args.w + 1) 0) c.if-count-room.false in let q = c.if-room-from.true in omega (arith, p.0, p.1, q))))

pub overflow_add-from : goal.overflow_add-from
overflow_add-from c = let p = list-within (length c.args.source.now) (get_or c.args.ws.now c.args.w 0) (get_or c.args.ws.now (c.args.w + 1) 0) c.if-count-room.false in let q = c.if-room-from.false in omega (arith, p.0, p.1, q)

pub slice_bounds-no_zero-end : goal.slice_bounds-no_zero-end
slice_bounds-no_zero-end c = let p = list-within (length c.args.source.now) (get_or c.args.ws.now c.args.w 0) (get_or c.args.ws.now (c.args.w + 1) 0) c.if-count-room.false in let q = c.if-room-from.false in omega (arith, p.0, p.1, q)

pub over-requires : goal.over-requires
over-requires c = let p = list-within (length c.args.source.now) (get_or c.args.ws.now c.args.w 0) (get_or c.args.ws.now (c.args.w + 1) 0) c.if-count-room.false in (c.requires.0, omega (arith, p.0))

pub returns : goal.returns
unfolding shape_form slot_told last_told before_told
returns c =
    let a = c.args in
    by_name (small_of _ c.type_inv.source) (λ k. (c.type_inv.ws k).fits) c.requires.0 c.if-not-on.false (ap (λ (k : ℕ). name_form (state_of a.c) k (8 - (a.c.at + k) % 8)) (word_after a.ws.now a.w)) (ap₂ (λ (v k : ℕ). slot 0 v k) (word_at c.args.ws.now c.args.w) (word_after c.args.ws.now c.args.w)) refl refl
    (
    let v = get_or a.ws.now a.w 0 in
    let k = (get_or a.ws.now (a.w + 1) 0) in
    let p = list-within (length c.args.source.now) (get_or c.args.ws.now c.args.w 0) (get_or c.args.ws.now (c.args.w + 1) 0) c.if-count-room.false in
    let q = c.if-room-from.false in
    let z : v + k - v ≡ k = omega (arith, p.1) in
    let y : k + (8 - (a.c.at + (get_or a.ws.now (a.w + 1) 0)) % 8) ≡ k * 1 + (8 - (a.c.at + (get_or a.ws.now (a.w + 1) 0)) % 8) = omega arith in
    c.over.ensures
    ∙ ap₂ (λ (t : Bool) (n : ℕ). cond t (stay n a.c) (refused a.c))
    (name-some c.args.source.now (get_or c.args.ws.now c.args.w 0) (get_or c.args.ws.now (c.args.w + 1) 0) (8 - (a.c.at + (get_or a.ws.now (a.w + 1) 0)) % 8) (k + (8 - (a.c.at + (get_or a.ws.now (a.w + 1) 0)) % 8)) c.no_zero-fits.result a.c (omega (arith, p.0, p.1, q)) (c.no_zero-fits.ensures ∙ ap (λ (n : ℕ). nonzero (take n (drop v a.source.now))) z) refl) y)
