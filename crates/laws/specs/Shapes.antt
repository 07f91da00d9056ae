-- Three laws for every shape: its bytes are not there, its rule is broken, past it. Assumes nothing.
use Rattle.std.specs.Prelude.{◌≡◌, List, true, cond, ℕ, ◌+◌, ◌-◌, ◌*◌, ◌/◌, ◌<◌, ◌≤◌, ◌%◌, eqb}
use Rattle.std.proofs.Math.Path.{refl, ap}
use Rattle.std.proofs.Common.{sym, ◌∙◌, le-div_iff_mul-le, lt_of_not-le, add-zero, add-one, arith, drop-cons, take_all}
use lib.ListN.{length, get_or, take, drop, length-drop}
use Rattle.std.proofs.Math.Seq.{length-take-le}
use borrow.Author.Tests.{lt-ltb, le-ltb, le-leb, lt-leb, eq-eqb, ne_eqb}
use Rattle.meaning.specs.States.{Cursor}
use Rattle.meaning.specs.declared.Item.{Item}
use Rattle.meaning.specs.declared.Shape.{Shape}
use Rattle.meaning.specs.declared.Shape.TheVariants.{Number, Ignored, Size, Times, Earlier, Registers, Filled, Abi, Limit, Listed, Bytes, Pad, Name}
use Rattle.meaning.specs.declared.Width.{Width}
use Rattle.meaning.specs.Bytes.{num, number_at, ones, zero_in}
use Rattle.meaning.specs.Items.{bytes, cursor, refuse, span, rule, holds, counted, before, past, part, settle, shape_step, step}

module _ (sh : Shape) (xs : List ℕ) (c : Cursor) (k : ℕ) (sp : span sh c (length xs - c.at) ≡ k) where
  pub shape-out : length xs - c.at < k → refuse 30 c ≡ shape_step sh c (drop c.at xs)
  unfolding shape_step
  shape-out h =
      let d = length-drop c.at xs in
      let e : span sh c (length (drop c.at xs)) ≡ k = ap (λ (r : ℕ). span sh c r) d ∙ sp in
      rw (lt-leb (span sh c (length (drop c.at xs))) (length (drop c.at xs)) (omega (arith, d, e)))

  pub shape-bad : (why : ℕ) → k ≤ length xs - c.at → rule sh c (take k (drop c.at xs)) ≡ why → (why ≡ 0 → ⊥) → refuse why c ≡ shape_step sh c (drop c.at xs)
  unfolding shape_step part settle
  shape-bad why h r n =
      let d = length-drop c.at xs in
      let e : span sh c (length (drop c.at xs)) ≡ k = ap (λ (r : ℕ). span sh c r) d ∙ sp in
      rw (e, le-leb k (length (drop c.at xs)) (omega (arith, d)), r, ne_eqb why 0 n)

  pub shape-in : (n o : ℕ) → k ≤ length xs - c.at → rule sh c (take k (drop c.at xs)) ≡ 0
      → n ≡ counted sh c (holds sh c (take k (drop c.at xs))).num → o ≡ before sh c → cursor (c.at + k) n o c.why ≡ shape_step sh c (drop c.at xs)
  unfolding shape_step part settle past
  shape-in n o h r p q =
      let d = length-drop c.at xs in
      let e : span sh c (length (drop c.at xs)) ≡ k = ap (λ (r : ℕ). span sh c r) d ∙ sp in
      let l : length (take k (drop c.at xs)) ≡ k = length-take-le k (drop c.at xs) (omega (arith, d)) in
      rw (e, le-leb k (length (drop c.at xs)) (omega (arith, d)), r, l, p, q)

-- shapes whose bytes no rule looks at and no count remembers go on as ignored bytes do, so many of them
module _ (c : Cursor) (R : List ℕ) where
  pub as_number : (w : Width) → shape_step (Ignored (bytes w)) c R ≡ shape_step (Number w) c R
  unfolding shape_step part settle past span rule holds counted before
  as_number w = refl

  pub as-listed : (k : ℕ) → shape_step (Ignored k) c R ≡ shape_step (Listed k) c R
  unfolding shape_step part settle past span rule holds counted before
  as-listed k = refl

  pub as_bytes : (k : ℕ) → shape_step (Ignored k) c R ≡ shape_step (Bytes k) c R
  unfolding shape_step part settle past span rule holds counted before
  as_bytes k = refl

  pub as-pad : shape_step (Ignored ((8 - c.at % 8) % 8)) c R ≡ shape_step Pad c R
  unfolding shape_step part settle past span rule holds counted before
  as-pad = refl

  pub as-times : (k : ℕ) → shape_step (Ignored (c.n * k)) c R ≡ shape_step (Times k) c R
  unfolding shape_step part settle past span rule holds counted before
  as-times k = refl

  pub as-earlier : (k : ℕ) → shape_step (Ignored (c.old * k)) c R ≡ shape_step (Earlier k) c R
  unfolding shape_step part settle past span rule holds counted before
  as-earlier k = refl

  pub as-registers : shape_step (Ignored (c.n * 8)) c R ≡ shape_step Registers c R
  unfolding shape_step part settle past span rule holds counted before
  as-registers = refl

-- a product is tested by a quotient, which cannot wrap
pub within : (n k m : ℕ) → 0 < k → n ≤ m / k → n * k ≤ m
within n k m p h = (le-div_iff_mul-le p).0 h

pub over : (n k m : ℕ) → 0 < k → m / k < n → m < n * k
over n k m p h = lt_of_not-le (λ q. let g = (le-div_iff_mul-le p).1 q in omega arith)

-- a name takes all that is left
rest_all : (xs : List ℕ) (at : ℕ) → take (length xs - at) (drop at xs) ≡ drop at xs
rest_all xs at = let d = length-drop at xs in take_all (length xs - at) (drop at xs) (omega (arith, d))

pub name_in : (xs : List ℕ) (c : Cursor) (z : ℕ) → z ≡ c.at + zero_in (drop c.at xs) → z < length xs → length xs ≤ z + 8
    → cursor (length xs) c.n c.old c.why ≡ shape_step Name c (drop c.at xs)
unfolding span rule counted before
name_in xs c z e h l =
    let d = length-drop c.at xs in
    let r : rule Name c (take (length xs - c.at) (drop c.at xs)) ≡ 0 =
    rw (rest_all xs c.at, lt-ltb (zero_in (drop c.at xs)) (length (drop c.at xs)) (omega (arith, d, e)), le-leb (length (drop c.at xs)) (zero_in (drop c.at xs) + 8) (omega (arith, d, e))) in
    let g : length xs ≡ c.at + (length xs - c.at) = omega (arith, e, h) in
    ap (λ (k : ℕ). cursor k c.n c.old c.why) g ∙ shape-in Name xs c (length xs - c.at) refl c.n c.old (omega arith) r refl refl

pub name-none : (xs : List ℕ) (c : Cursor) → length xs ≤ c.at + zero_in (drop c.at xs) → refuse 33 c ≡ shape_step Name c (drop c.at xs)
unfolding span rule
name-none xs c h =
    let d = length-drop c.at xs in
    let r : rule Name c (take (length xs - c.at) (drop c.at xs)) ≡ 33 =
    rw (rest_all xs c.at, le-ltb (zero_in (drop c.at xs)) (length (drop c.at xs)) (omega (arith, d, h))) in
    shape-bad Name xs c (length xs - c.at) refl 33 (omega arith) r (λ q. omega arith)

pub name-early : (xs : List ℕ) (c : Cursor) → c.at + zero_in (drop c.at xs) + 8 < length xs → refuse 33 c ≡ shape_step Name c (drop c.at xs)
unfolding span rule
name-early xs c h =
    let d = length-drop c.at xs in
    let r : rule Name c (take (length xs - c.at) (drop c.at xs)) ≡ 33 =
    rw (rest_all xs c.at, lt-ltb (zero_in (drop c.at xs)) (length (drop c.at xs)) (omega (arith, d, h)), lt-leb (length (drop c.at xs)) (zero_in (drop c.at xs) + 8) (omega (arith, d, h))) in
    shape-bad Name xs c (length xs - c.at) refl 33 (omega arith) r (λ q. omega arith)

-- the first zero of a list's rest: here, further on, or not at all
pub zero-here : (xs : List ℕ) (i : ℕ) → i < length xs → get_or xs i 0 ≡ 0 → zero_in (drop i xs) ≡ 0
unfolding zero_in
zero-here xs i h e = rw (drop-cons xs i 0 h, eq-eqb (get_or xs i 0) 0 e)

pub zero-on : (xs : List ℕ) (i : ℕ) → i < length xs → (get_or xs i 0 ≡ 0 → ⊥) → zero_in (drop i xs) ≡ zero_in (drop (i + 1) xs) + 1
unfolding zero_in
zero-on xs i h e = rw (drop-cons xs i 0 h, ne_eqb (get_or xs i 0) 0 e, add-one i) (sym (add-one _))

pub zero-end : (xs : List ℕ) (i : ℕ) → length xs ≤ i → zero_in (drop i xs) ≡ 0
unfolding zero_in
zero-end xs i h = rw (lib.ListN.drop_of_length-le xs h)

-- the number that was read is the one that the item's bytes spell
pub word-num : (w : Width) (k n : ℕ) (xs : List ℕ) (at : ℕ) → k ≡ bytes w → n ≡ number_at (bytes w) xs at → n ≡ num (take k (drop at xs))
word-num w k n xs at e p = p ∙ ap (λ (j : ℕ). number_at j xs at) (sym e)

module _ (w : Width) (c : Cursor) (k n : ℕ) (ys : List ℕ) (e : k ≡ bytes w) (p : n ≡ num ys) where
  pub size_ok : (n % 8 + k) % 8 ≡ 0 → rule (Size w) c ys ≡ 0
  unfolding rule
  size_ok h = let g : (num ys + bytes w) % 8 ≡ 0 = omega (arith, e, p, h) in rw (eq-eqb ((num ys + bytes w) % 8) 0 g)

  pub size-bad : ((n % 8 + k) % 8 ≡ 0 → ⊥) → rule (Size w) c ys ≡ 32
  unfolding rule
  size-bad h = rw (ne_eqb ((num ys + bytes w) % 8) 0 (λ g. h (omega (arith, e, p, g))))

module _ (xs : List ℕ) (c : Cursor) where
  pub filled_none : c.n ≡ 0 → c ≡ shape_step Filled c (drop c.at xs)
  unfolding span rule counted before num
  filled_none e =
      ap (λ (a : ℕ). cursor a c.n c.old c.why) (sym (add-zero c.at))
      ∙ shape-in Filled xs c 0 (rw (eq-eqb c.n 0 e)) c.n c.old (omega arith) (rw (le-leb 0 c.n (omega arith))) refl refl

  filled-span : (c.n ≡ 0 → ⊥) → span Filled c (length xs - c.at) ≡ 8
  unfolding span
  filled-span e = rw (ne_eqb c.n 0 e)

  pub filled-out : (c.n ≡ 0 → ⊥) → length xs - c.at < 8 → refuse 30 c ≡ shape_step Filled c (drop c.at xs)
  filled-out e h = shape-out Filled xs c 8 (filled-span e) h

  pub filled-bad : (v : ℕ) → (c.n ≡ 0 → ⊥) → 8 ≤ length xs - c.at → v ≡ number_at 8 xs c.at → c.n < v → refuse 32 c ≡ shape_step Filled c (drop c.at xs)
  unfolding rule
  filled-bad v e h p l = shape-bad Filled xs c 8 (filled-span e) 32 h (rw (lt-leb (number_at 8 xs c.at) c.n (omega (arith, p, l)))) (λ q. omega arith)

  pub filled_in : (v : ℕ) → (c.n ≡ 0 → ⊥) → 8 ≤ length xs - c.at → v ≡ number_at 8 xs c.at → v ≤ c.n
      → cursor (c.at + 8) c.n c.old c.why ≡ shape_step Filled c (drop c.at xs)
  unfolding rule counted before
  filled_in v e h p l = shape-in Filled xs c 8 (filled-span e) c.n c.old h (rw (le-leb (number_at 8 xs c.at) c.n (omega (arith, p, l)))) refl refl

  pub abi-in : (m n : ℕ) → 8 ≤ length xs - c.at → n ≡ cond (eqb (number_at 8 xs c.at) 0) 0 (ones 64 m)
      → cursor (c.at + 8) n c.old c.why ≡ shape_step (Abi m) c (drop c.at xs)
  unfolding span rule counted before holds
  abi-in m n h p = shape-in (Abi m) xs c 8 refl n c.old h refl p refl

  pub abi-none : (m v : ℕ) → 8 ≤ length xs - c.at → v ≡ number_at 8 xs c.at → v ≡ 0 → cursor (c.at + 8) 0 c.old c.why ≡ shape_step (Abi m) c (drop c.at xs)
  abi-none m v h p z = abi-in m 0 h (rw (eq-eqb (number_at 8 xs c.at) 0 (sym p ∙ z)))

  pub abi-some : (m v n : ℕ) → 8 ≤ length xs - c.at → v ≡ number_at 8 xs c.at → (v ≡ 0 → ⊥) → n ≡ ones 64 m
      → cursor (c.at + 8) n c.old c.why ≡ shape_step (Abi m) c (drop c.at xs)
  abi-some m v n h p z q = abi-in m n h (rw (ne_eqb (number_at 8 xs c.at) 0 (λ g. z (p ∙ g))) q)

  pub limit-bad : (m v : ℕ) → 1 ≤ length xs - c.at → v ≡ number_at 1 xs c.at → m < v → refuse 32 c ≡ shape_step (Limit m) c (drop c.at xs)
  unfolding span rule
  limit-bad m v h p l = shape-bad (Limit m) xs c 1 refl 32 h (rw (lt-leb (number_at 1 xs c.at) m (omega (arith, p, l)))) (λ q. omega arith)

  pub limit-in : (m v : ℕ) → 1 ≤ length xs - c.at → v ≡ number_at 1 xs c.at → v ≤ m
      → cursor (c.at + 1) v c.old c.why ≡ shape_step (Limit m) c (drop c.at xs)
  unfolding span rule counted before holds
  limit-in m v h p l = shape-in (Limit m) xs c 1 refl v c.old h (rw (le-leb (number_at 1 xs c.at) m (omega (arith, p, l)))) p refl

  pub step_is : (i : Item) (sh : Shape) → c.why ≡ 0 → i.on ≡ true → i.shape ≡ sh → shape_step sh c (drop c.at xs) ≡ step xs i c
  unfolding step
  step_is i sh e o s = simp (eq-eqb _ _ e, o, s)
