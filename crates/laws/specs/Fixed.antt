-- Items of a fixed length, as a trailer's: their walk refuses nothing where their room is there. Assumes nothing.
use Rattle.std.specs.Prelude.{◌≡◌, refl, ℕ, ◌+◌, ◌≤◌, Bool, true, false, cond, List, [], ◌∷◌, length, take, drop}
use Rattle.std.proofs.Common.{sym, ap₂, ◌∙◌, add-zero, arith, length-append, length-drop, length-take-le, le-leb, eq-eqb}
use Rattle.meaning.specs.States.{Cursor}
use Rattle.meaning.specs.declared.Item.{Item}
use Rattle.meaning.specs.declared.Shape.{Shape}
use Rattle.meaning.specs.declared.Shape.TheVariants.{Number, Ignored, Count, Size, Times, Earlier, Registers, Filled, Abi, Limit, Listed, Bytes, Pad, Name}
use Rattle.meaning.specs.Schema.{item}
use Rattle.meaning.specs.Items.{Con, cursor, span, rule, past, part, settle, shape_step, step, walk}
use Rattle.meaning.specs.Writing.{emit, blank, fit_shape, next, fit, write, ends, ends_last}
use Rattle.meaning.specs.Records.{fixed_shape, fixed, room_shape, room}
use Rattle.laws.specs.Bytes.{apart, and-true}
use Rattle.laws.specs.Items.{Wrote, wrote}

fixed-shape : (sh : Shape) (c : Cursor) (r : ℕ) (ys : List ℕ) → fixed_shape sh ≡ true → (span sh c r ≡ room_shape sh) × (rule sh c ys ≡ 0) × (ends sh ≡ false)
unfolding fixed_shape span rule room_shape ends
fixed-shape (Number w) c r ys e = (refl, refl, refl)
fixed-shape (Ignored k) c r ys e = (refl, refl, refl)
fixed-shape (Count w) c r ys e = absurd (apart e)
fixed-shape (Size w) c r ys e = absurd (apart e)
fixed-shape (Times k) c r ys e = absurd (apart e)
fixed-shape (Earlier k) c r ys e = absurd (apart e)
fixed-shape Registers c r ys e = absurd (apart e)
fixed-shape Filled c r ys e = absurd (apart e)
fixed-shape (Abi m) c r ys e = absurd (apart e)
fixed-shape (Limit k) c r ys e = absurd (apart e)
fixed-shape (Listed k) c r ys e = absurd (apart e)
fixed-shape (Bytes k) c r ys e = absurd (apart e)
fixed-shape Pad c r ys e = absurd (apart e)
fixed-shape Name c r ys e = absurd (apart e)

shape-run : (sh : Shape) (c : Cursor) (R : List ℕ) → fixed_shape sh ≡ true → room_shape sh ≤ length R
    → ((shape_step sh c R).why ≡ c.why) × ((shape_step sh c R).at ≡ c.at + room_shape sh)
unfolding shape_step settle past part
shape-run sh c R f h =
    let s = fixed-shape sh c (length R) (take (span sh c (length R)) R) f in
    let e : span sh c (length R) ≡ room_shape sh = s.0 in
    let l : length (take (room_shape sh) R) ≡ room_shape sh = length-take-le (room_shape sh) R h in
    (rw (s.1, e, le-leb (room_shape sh) (length R) h), rw (s.1, e, le-leb (room_shape sh) (length R) h, l))

step_run : (on : Bool) (sh : Shape) (xs : List ℕ) (c : Cursor) → fixed_shape sh ≡ true → c.why ≡ 0 → c.at + cond on (room_shape sh) 0 ≤ length xs
    → ((step xs (item on sh) c).why ≡ 0) × ((step xs (item on sh) c).at ≡ c.at + cond on (room_shape sh) 0)
unfolding step
step_run true sh xs c f z h =
    let r = length-drop c.at xs in
    let s = shape-run sh c (drop c.at xs) f (omega (arith, r, h)) in
    (rw (eq-eqb c.why 0 z) (s.0 ∙ z), rw (eq-eqb c.why 0 z) s.1)
step_run false sh xs c f z h = (rw (eq-eqb c.why 0 z) z, rw (eq-eqb c.why 0 z) (sym (add-zero c.at)))

pub fixed-run : (ts : List Item) (xs : List ℕ) (c : Cursor) → fixed ts ≡ true → c.why ≡ 0 → c.at + room ts ≤ length xs
    → ((walk xs ts c).why ≡ 0) × ((walk xs ts c).at ≡ c.at + room ts)
unfolding walk fixed room
fixed-run [] xs c f z h = (z, sym (add-zero c.at))
fixed-run (i ∷ ts) xs c f z h =
    let g = and-true (fixed_shape i.shape) (fixed ts) f in
    let k : ℕ = cond i.on (room_shape i.shape) 0 in
    let h₁ : c.at + (k + room ts) ≤ length xs = h in
    let s = step_run i.on i.shape xs c g.0 z (omega (arith, h₁)) in
    let a : (step xs i c).at ≡ c.at + k = s.1 in
    let r = fixed-run ts xs (step xs i c) g.1 s.0 (omega (arith, a, h₁)) in
    (r.0, (let q = r.1 in let e : (walk xs ts (step xs i c)).at ≡ c.at + (k + room ts) = omega (arith, q, a) in e))

pub fixed-last : (ts : List Item) → fixed ts ≡ true → ends_last ts ≡ true
unfolding fixed ends_last
fixed-last [] f = refl
fixed-last (i ∷ []) f = refl
fixed-last (i ∷ j ∷ ts) f =
    let g = and-true (fixed_shape i.shape) (fixed (j ∷ ts)) f in
    let e = fixed-shape i.shape (cursor 0 0 0 0) 0 [] g.0 in
    rw e.2 (fixed-last (j ∷ ts) g.1)

emit-room : (on : Bool) (sh : Shape) (c : Cursor) (v : Con) → fixed_shape sh ≡ true → cond on (fit_shape sh c v) (blank v) ≡ true
    → length (cond on (emit sh c v) []) ≡ cond on (room_shape sh) 0
unfolding Wrote
emit-room true sh c v g f =
    sym ((wrote sh c v f).1 (length (emit sh c v)) (λ e. refl)) ∙ (fixed-shape sh c (length (emit sh c v)) [] g).0
emit-room false sh c v g f = refl

pub fixed-write : (ts : List Item) (vs : List Con) (c : Cursor) → fixed ts ≡ true → fit ts vs c ≡ true → length (write ts vs c) ≡ room ts
unfolding fixed fit write room
fixed-write [] vs c g f = refl
fixed-write (i ∷ ts) [] c g f = absurd (apart f)
fixed-write (i ∷ ts) (v ∷ vs) c g f =
    let p = and-true (fixed_shape i.shape) (fixed ts) g in
    let s = and-true (cond i.on (fit_shape i.shape c v) (blank v)) (fit ts vs (next i v c)) f in
    length-append (cond i.on (emit i.shape c v) []) (write ts vs (next i v c))
    ∙ ap₂ (λ (a b : ℕ). a + b) (emit-room i.on i.shape c v p.0 s.0) (fixed-write ts vs (next i v c) p.1 s.1)
