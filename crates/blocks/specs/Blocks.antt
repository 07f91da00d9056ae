-- The lists of a SAMPLE, each as one straight piece: a count and its elements, raw, registers, stack. Assumes nothing.
use Rattle.std.specs.Prelude.{◌≡◌, Bool, ◌&&◌, Result, Ok, Err, ℕ, ◌+◌, ◌-◌, ◌*◌, ◌%◌, ◌<◌, ◌≤◌, take, drop, eqb}
use Rattle.std.proofs.Math.Path.{refl, sym, ap}
use Rattle.std.proofs.Common.{◌∙◌, subst, mul-one}
use Rattle.std.proofs.Math.Bool.{true, false, cond}
use mathlib.Core.List.{List, [], ◌∷◌, ◌++◌}
use Rattle.std.proofs.Math.Logic.{⊎_elim}
use native.Mathlib.Omega.{arith}
use Rattle.std.proofs.Math.ListN.{length}
use Rattle.std.proofs.Math.Dec.{leb}
use borrow.Author.Tests.{le-leb, lt-leb, leb-true, leb-false, eq-eqb, ne_eqb, eqb-true, eqb-false}
use Rattle.laws.specs.Bytes.{le-or-lt}
use Rattle.meaning.specs.States.{Cursor}
use Rattle.meaning.specs.declared.Item.{Item}
use Rattle.meaning.specs.declared.Shape.{Shape}
use Rattle.meaning.specs.declared.Shape.TheVariants.{Number, Count, Size, Times, Registers, Filled, Abi}
use Rattle.meaning.specs.declared.Width.{Width}
use Rattle.meaning.specs.declared.Width.TheVariants.{W4, W8}
use Rattle.meaning.specs.declared.Reason.{Reason}
use Rattle.meaning.specs.declared.Reason.TheVariants.{TooShort}
use Rattle.meaning.specs.Bytes.{num, number_at, ones}
use Rattle.meaning.specs.Items.{cursor, bytes, span, rule, holds, counted, before, step, walk}
use Rattle.meaning.specs.Schema.{item, u32, mmap2}
use Rattle.laws.specs.Shapes.{shape-out, shape-bad, shape-in}
use Rattle.blocks.specs.Seen.{Place, place, seal, Leaves, Ends, walk-append, refusing, going, one-refuses}
use Rattle.laws.specs.Again.{stuck}
use Rattle.blocks.specs.Steady.{one_width, width_of, steady, total, steady-in, steady-out}

-- ---- MMAP2 with a build id: the fields before it; protection and flags, which stand between it and the name

abbrev pub build_front : List Item
build_front = take 9 (mmap2 true)

abbrev pub prot_flags : List Item
prot_flags = u32 ∷ u32 ∷ []

-- ---- one item that is on, from a cursor that was not refused

module _ (xs : List ℕ) (at n old : ℕ) where
  abbrev here : Cursor
  here = cursor at n old 0

  pub count-out : (w : Width) → length xs - at < bytes w → step xs (item true (Count w)) here ≡ cursor at n old 30
  unfolding step span
  count-out w h = sym (shape-out (Count w) xs here (bytes w) refl h)

  pub count-in : (w : Width) → bytes w ≤ length xs - at → step xs (item true (Count w)) here ≡ cursor (at + bytes w) (number_at (bytes w) xs at) n 0
  unfolding step span rule holds counted before
  count-in w h = sym (shape-in (Count w) xs here (bytes w) refl (number_at (bytes w) xs at) n h refl refl refl)

  pub size-out : (w : Width) → length xs - at < bytes w → step xs (item true (Size w)) here ≡ cursor at n old 30
  unfolding step span
  size-out w h = sym (shape-out (Size w) xs here (bytes w) refl h)

  pub size-bad : (w : Width) → bytes w ≤ length xs - at → ((number_at (bytes w) xs at + bytes w) % 8 ≡ 0 → ⊥) → step xs (item true (Size w)) here ≡ cursor at n old 32
  unfolding step span rule
  size-bad w h g = sym (shape-bad (Size w) xs here (bytes w) refl 32 h (rw (ne_eqb ((number_at (bytes w) xs at + bytes w) % 8) 0 g)) (λ q. omega (arith, q)))

  pub size_in : (w : Width) → bytes w ≤ length xs - at → (number_at (bytes w) xs at + bytes w) % 8 ≡ 0 → step xs (item true (Size w)) here ≡ cursor (at + bytes w) (number_at (bytes w) xs at) old 0
  unfolding step span rule holds counted before
  size_in w h g = sym (shape-in (Size w) xs here (bytes w) refl (number_at (bytes w) xs at) old h (rw (eq-eqb ((number_at (bytes w) xs at + bytes w) % 8) 0 g)) refl refl)

  pub times-out : (k : ℕ) → length xs - at < n * k → step xs (item true (Times k)) here ≡ cursor at n old 30
  unfolding step span
  times-out k h = sym (shape-out (Times k) xs here (n * k) refl h)

  pub times-in : (k : ℕ) → n * k ≤ length xs - at → step xs (item true (Times k)) here ≡ cursor (at + n * k) n old 0
  unfolding step span rule holds counted before
  times-in k h = sym (shape-in (Times k) xs here (n * k) refl n old h refl refl refl)

  pub registers-out : length xs - at < n * 8 → step xs (item true Registers) here ≡ cursor at n old 30
  unfolding step span
  registers-out h = sym (shape-out Registers xs here (n * 8) refl h)

  pub registers-in : n * 8 ≤ length xs - at → step xs (item true Registers) here ≡ cursor (at + n * 8) n old 0
  unfolding step span rule holds counted before
  registers-in h = sym (shape-in Registers xs here (n * 8) refl n old h refl refl refl)

  pub abi-out : (m : ℕ) → length xs - at < 8 → step xs (item true (Abi m)) here ≡ cursor at n old 30
  unfolding step span
  abi-out m h = sym (shape-out (Abi m) xs here 8 refl h)

  pub abi-in : (m : ℕ) → 8 ≤ length xs - at → step xs (item true (Abi m)) here ≡ cursor (at + 8) (cond (eqb (number_at 8 xs at) 0) 0 (ones 64 m)) old 0
  unfolding step span rule holds counted before
  abi-in m h = sym (shape-in (Abi m) xs here 8 refl (cond (eqb (number_at 8 xs at) 0) 0 (ones 64 m)) old h refl refl refl)

  pub filled_none : n ≡ 0 → step xs (item true Filled) here ≡ cursor (at + 0) n old 0
  unfolding step span rule holds counted before num
  filled_none e = sym (shape-in Filled xs here 0 (rw (eq-eqb n 0 e)) n old (omega arith) (rw (le-leb (num (take 0 (drop at xs))) n (omega arith))) refl refl)

  pub filled-out : (n ≡ 0 → ⊥) → length xs - at < 8 → step xs (item true Filled) here ≡ cursor at n old 30
  unfolding step span
  filled-out e h = sym (shape-out Filled xs here 8 (rw (ne_eqb n 0 e)) h)

  pub filled-bad : (n ≡ 0 → ⊥) → 8 ≤ length xs - at → n < number_at 8 xs at → step xs (item true Filled) here ≡ cursor at n old 32
  unfolding step span rule
  filled-bad e h g = sym (shape-bad Filled xs here 8 (rw (ne_eqb n 0 e)) 32 h (rw (lt-leb (number_at 8 xs at) n g)) (λ q. omega (arith, q)))

  pub filled_in : (n ≡ 0 → ⊥) → 8 ≤ length xs - at → number_at 8 xs at ≤ n → step xs (item true Filled) here ≡ cursor (at + 8) n old 0
  unfolding step span rule holds counted before
  filled_in e h g = sym (shape-in Filled xs here 8 (rw (ne_eqb n 0 e)) n old h (rw (le-leb (number_at 8 xs at) n g)) refl refl)

-- an item that is off is passed
pub off-skip : (xs : List ℕ) (sh : Shape) (is : List Item) (c : Cursor) → walk xs (item false sh ∷ is) c ≡ walk xs is c
unfolding walk step
off-skip xs sh is c = go (eqb c.why 0)
  where
    go : (t : Bool) → walk xs is (cond t c c) ≡ walk xs is c
    go true = refl
    go false = refl

-- ---- the stretches

abbrev pub counted_list : Bool → ℕ → List Item
counted_list on unit = item on (Count W8) ∷ item on (Times unit) ∷ []

-- branches: with `index`, the hardware index stands between count and entries
abbrev pub branch_list : Bool → Bool → List Item
branch_list on index = item on (Count W8) ∷ item (on && index) (Number W8) ∷ item on (Times 24) ∷ []

-- raw (a size of four bytes) and aux (of eight)
abbrev pub sized_bytes : Bool → Width → List Item
sized_bytes on w = item on (Size w) ∷ item on (Times 1) ∷ []

abbrev pub raw_bytes : Bool → List Item
raw_bytes on = sized_bytes on W4

abbrev pub aux_bytes : Bool → List Item
aux_bytes on = sized_bytes on W8

abbrev pub register_list : Bool → ℕ → List Item
register_list on mask = item on (Abi mask) ∷ item on Registers ∷ []

abbrev pub stack_bytes : Bool → List Item
stack_bytes on = item on (Size W8) ∷ item on (Times 1) ∷ item on Filled ∷ []

-- a step that is taken, a step that refuses: the walk over the rest
pub goes : (xs : List ℕ) (i : Item) (is : List Item) (c d : Cursor) → step xs i c ≡ d → walk xs (i ∷ is) c ≡ walk xs is d
unfolding walk
goes xs i is c d e = ap (walk xs is) e

pub halts : (xs : List ℕ) (i : Item) (is : List Item) (at n old why : ℕ) → step xs i (cursor at n old 0) ≡ cursor at n old why → (why ≡ 0 → ⊥)
    → place 0 why ≡ seal (walk xs (i ∷ is) (cursor at n old 0))
unfolding seal
halts xs i is at n old why e z =
    let f : walk xs (i ∷ is) (cursor at n old 0) ≡ cursor at n old why = goes xs i is (cursor at n old 0) (cursor at n old why) e ∙ stuck xs is (cursor at n old why) z in
    let g : place 0 why ≡ seal (cursor at n old why) = rw (ne_eqb why 0 z) in
    g ∙ ap seal (sym f)

-- a stretch that is off
pub two-off : (xs : List ℕ) (a b : Shape) (at : ℕ) → Leaves xs (item false a ∷ item false b ∷ []) at (place at 0)
unfolding Leaves walk step seal
two-off xs a b at n old = refl

pub three-off : (xs : List ℕ) (a b d : Shape) (at : ℕ) → Leaves xs (item false a ∷ item false b ∷ item false d ∷ []) at (place at 0)
unfolding Leaves walk step seal
three-off xs a b d at n old = refl

-- a count, items of one width, and so many elements
abbrev pub counted_with : List Item → ℕ → List Item
counted_with mid unit = item true (Count W8) ∷ (mid ++ (item true (Times unit) ∷ []))

-- where they end, `fixed` the bytes of the count and of what stands before the elements
unfoldable pub counted_place : List ℕ → ℕ → ℕ → ℕ → Place
counted_place xs at fixed unit =
    cond (leb (fixed + number_at 8 xs at * unit) (length xs - at)) (place (at + (fixed + number_at 8 xs at * unit)) 0) (place 0 30)

module _ (xs : List ℕ) (at fixed unit : ℕ) where
  pub counted-past : length xs - at < fixed + number_at 8 xs at * unit → place 0 30 ≡ counted_place xs at fixed unit
  unfolding counted_place
  counted-past h = rw (lt-leb _ _ h)

  pub counted-there : fixed + number_at 8 xs at * unit ≤ length xs - at → place (at + (fixed + number_at 8 xs at * unit)) 0 ≡ counted_place xs at fixed unit
  unfolding counted_place
  counted-there h = rw (le-leb _ _ h)

  pub counted-inside : at ≤ length xs → (p : Place) → p ≡ counted_place xs at fixed unit → p.why ≡ 0 → p.at ≤ length xs
  unfolding counted_place
  counted-inside l p e z = by (leb (fixed + number_at 8 xs at * unit) (length xs - at)) refl e
    where
      by : (t : Bool) → leb (fixed + number_at 8 xs at * unit) (length xs - at) ≡ t
          → p ≡ cond t (place (at + (fixed + number_at 8 xs at * unit)) 0) (place 0 30) → p.at ≤ length xs
      by true q r = let h = leb-true (fixed + number_at 8 xs at * unit) (length xs - at) q in let k = ap (λ (x : Place). x.at) r in omega (arith, h, k, l)
      by false q r = let k = sym z ∙ ap (λ (x : Place). x.why) r in absurd (omega (arith, k))

  module _ (mid : List Item) (f : steady mid ≡ true) (e : fixed ≡ 8 + total mid) (l : at ≤ length xs) where
    -- past the count
    counts : (n old : ℕ) → 8 ≤ length xs - at
        → walk xs (counted_with mid unit) (cursor at n old 0) ≡ walk xs (item true (Times unit) ∷ []) (walk xs mid (cursor (at + 8) (number_at 8 xs at) n 0))
    counts n old h =
        goes xs _ (mid ++ (item true (Times unit) ∷ [])) _ _ (count-in xs at n old W8 h) ∙ walk-append xs mid (item true (Times unit) ∷ []) (cursor (at + 8) (number_at 8 xs at) n 0)

    -- past what stands before the elements
    middle : (n old : ℕ) → fixed ≤ length xs - at
        → walk xs (counted_with mid unit) (cursor at n old 0) ≡ walk xs (item true (Times unit) ∷ []) (cursor (at + fixed) (number_at 8 xs at) n 0)
    middle n old h =
        let k : at + 8 + total mid ≡ at + fixed = omega (arith, e) in
        counts n old (omega (arith, h, e))
        ∙ ap (walk xs (item true (Times unit) ∷ []))
        (steady-in xs mid (at + 8) (number_at 8 xs at) n f (omega (arith, h, e, l)) ∙ ap (λ (i : ℕ). cursor i (number_at 8 xs at) n 0) k)

    short : length xs - at < fixed → Leaves xs (counted_with mid unit) at (place 0 30)
    unfolding Leaves seal
    short h n old =
        ⊎_elim
        (λ (p : 8 ≤ length xs - at).
        let w = steady-out xs mid (at + 8) (number_at 8 xs at) n f (omega (arith, p, l)) (omega (arith, h, e, l)) in
        let c : Cursor = walk xs mid (cursor (at + 8) (number_at 8 xs at) n 0) in
        let s : walk xs (item true (Times unit) ∷ []) c ≡ c = stuck xs _ c (λ z. omega (arith, z, w)) in
        sym (ap seal (counts n old p ∙ s) ∙ rw w))
        (λ (p : length xs - at < 8). halts xs _ _ at n old 30 (count-out xs at n old W8 p) (λ q. omega (arith, q)))
        (le-or-lt 8 (length xs - at))

    long : fixed ≤ length xs - at → length xs - at < fixed + number_at 8 xs at * unit → Leaves xs (counted_with mid unit) at (place 0 30)
    unfolding Leaves
    long h g n old =
        halts xs _ _ (at + fixed) (number_at 8 xs at) n 30 (times-out xs (at + fixed) (number_at 8 xs at) n unit (omega (arith, g, h, l))) (λ q. omega (arith, q))
        ∙ ap seal (sym (middle n old h))

    inside : fixed + number_at 8 xs at * unit ≤ length xs - at → Leaves xs (counted_with mid unit) at (place (at + (fixed + number_at 8 xs at * unit)) 0)
    unfolding Leaves
    inside g n old =
        let h : fixed ≤ length xs - at = omega (arith, g) in
        let k : at + fixed + number_at 8 xs at * unit ≡ at + (fixed + number_at 8 xs at * unit) = omega arith in
        sealed (at + (fixed + number_at 8 xs at * unit)) (number_at 8 xs at) n
        ∙ ap seal
        (sym
        (middle n old h ∙ goes xs _ [] _ _ (times-in xs (at + fixed) (number_at 8 xs at) n unit (omega (arith, g, l)) ∙ ap (λ (i : ℕ). cursor i (number_at 8 xs at) n 0) k)
        ∙ nil (cursor (at + (fixed + number_at 8 xs at * unit)) (number_at 8 xs at) n 0)))
      where
        sealed : (k m o : ℕ) → place k 0 ≡ seal (cursor k m o 0)
        sealed k m o = unfold seal in refl

        nil : (c : Cursor) → walk xs [] c ≡ c
        nil c = unfold walk in refl

    pub counted-leaves : (p : Place) → p ≡ counted_place xs at fixed unit → Leaves xs (counted_with mid unit) at p
    counted-leaves p r =
        subst (Leaves xs (counted_with mid unit) at) (sym r)
        (⊎_elim
        (λ (h : fixed + number_at 8 xs at * unit ≤ length xs - at). subst (Leaves xs (counted_with mid unit) at) (counted-there h) (inside h))
        (λ (h : length xs - at < fixed + number_at 8 xs at * unit).
        subst (Leaves xs (counted_with mid unit) at) (counted-past h)
        (⊎_elim (λ (q : fixed ≤ length xs - at). long q h) (λ (q : length xs - at < fixed). short q) (le-or-lt fixed (length xs - at))))
        (le-or-lt (fixed + number_at 8 xs at * unit) (length xs - at)))

    pub counted-ends : (p : Place) → p ≡ counted_place xs at fixed unit → Ends xs (counted_with mid unit) at p
    counted-ends p r = (counted-leaves p r, λ z. counted-inside l p r z)

-- an item that is off before a stretch
pub off-ends : (xs : List ℕ) (sh : Shape) (is : List Item) (at : ℕ) (p : Place) → Ends xs is at p → Ends xs (item false sh ∷ is) at p
unfolding Leaves
off-ends xs sh is at p h = ((λ n old. h.0 n old ∙ ap seal (sym (off-skip xs sh is (cursor at n old 0)))), h.1)

-- branches: the bytes of the count, and of the hardware index where it is there
abbrev pub branch_fixed : Bool → ℕ
branch_fixed index = cond index 16 8

pub branch-ends : (xs : List ℕ) (index : Bool) (at : ℕ) → at ≤ length xs → (p : Place) → p ≡ counted_place xs at (branch_fixed index) 24 → Ends xs (branch_list true index) at p
unfolding steady one_width total width_of span
branch-ends xs true at l p e = counted-ends xs at 16 24 (item true (Number W8) ∷ []) refl refl l p e
branch-ends xs false at l p e = counted-ends xs at 8 24 (item false (Number W8) ∷ []) refl refl l p e

-- a size, and so many bytes; both together are a multiple of 8
module _ (w : Width) (xs : List ℕ) (at : ℕ) where
  pub sized-short : length xs - at < bytes w → Leaves xs (sized_bytes true w) at (place 0 30)
  unfolding Leaves
  sized-short h n old = halts xs _ _ at n old 30 (size-out xs at n old w h) (λ q. omega (arith, q))

  pub sized-bad : bytes w ≤ length xs - at → ((number_at (bytes w) xs at + bytes w) % 8 ≡ 0 → ⊥) → Leaves xs (sized_bytes true w) at (place 0 32)
  unfolding Leaves
  sized-bad h g n old = halts xs _ _ at n old 32 (size-bad xs at n old w h g) (λ q. omega (arith, q))

  pub sized-long : bytes w ≤ length xs - at → (number_at (bytes w) xs at + bytes w) % 8 ≡ 0 → length xs - (at + bytes w) < number_at (bytes w) xs at
      → Leaves xs (sized_bytes true w) at (place 0 30)
  unfolding Leaves
  sized-long h g l n old =
      halts xs _ _ (at + bytes w) (number_at (bytes w) xs at) old 30 (times-out xs (at + bytes w) (number_at (bytes w) xs at) old 1 (omega (arith, l))) (λ q. omega (arith, q))
      ∙ ap seal (sym (goes xs _ _ _ _ (size_in xs at n old w h g)))

  pub sized-in : bytes w ≤ length xs - at → (number_at (bytes w) xs at + bytes w) % 8 ≡ 0 → number_at (bytes w) xs at ≤ length xs - (at + bytes w)
      → Leaves xs (sized_bytes true w) at (place (at + bytes w + number_at (bytes w) xs at) 0)
  unfolding Leaves seal walk
  sized-in h g l n old =
      rw (size_in xs at n old w h g, times-in xs (at + bytes w) (number_at (bytes w) xs at) old 1 (omega (arith, l)))
      (ap (λ (k : ℕ). place (at + bytes w + k) 0) (sym (mul-one (number_at (bytes w) xs at))))

-- a size of so many bytes, where it is there
abbrev pub size_read : List ℕ → ℕ → ℕ → Result ℕ Reason → Type 0
size_read xs at width (Ok n) = (at + width ≤ length xs) × (n ≡ number_at width xs at)
size_read xs at width (Err why) = (why ≡ TooShort) × (length xs - at < width)

-- where the bytes end that a size of so many bytes counts, n, with so many bytes left from the size on
unfoldable pub sized_place : ℕ → ℕ → ℕ → ℕ → Place
sized_place at left width n = cond (eqb ((n + width) % 8) 0) (cond (leb n (left - width)) (place (at + width + n) 0) (place 0 30)) (place 0 32)

module _ (at left width n : ℕ) where
  pub sized-rule : ((n + width) % 8 ≡ 0 → ⊥) → place 0 32 ≡ sized_place at left width n
  unfolding sized_place
  sized-rule g = rw (ne_eqb _ _ g)

  pub sized-past : (n + width) % 8 ≡ 0 → left - width < n → place 0 30 ≡ sized_place at left width n
  unfolding sized_place
  sized-past g l = rw (eq-eqb _ _ g, lt-leb _ _ l)

  pub sized-there : (n + width) % 8 ≡ 0 → n ≤ left - width → place (at + width + n) 0 ≡ sized_place at left width n
  unfolding sized_place
  sized-there g l = rw (eq-eqb _ _ g, le-leb _ _ l)

  -- the size, where its bytes end
  pub sized-size : (p : Place) → p ≡ sized_place at left width n → p.why ≡ 0 → ((n + width) % 8 ≡ 0) × (n ≤ left - width) × (p.at ≡ at + width + n)
  unfolding sized_place
  sized-size p e z = by (eqb ((n + width) % 8) 0) (leb n (left - width)) refl refl e
    where
      by : (t u : Bool) → eqb ((n + width) % 8) 0 ≡ t → leb n (left - width) ≡ u → p ≡ cond t (cond u (place (at + width + n) 0) (place 0 30)) (place 0 32)
          → ((n + width) % 8 ≡ 0) × (n ≤ left - width) × (p.at ≡ at + width + n)
      by true true q r s = (eqb-true _ _ q, leb-true _ _ r, ap (λ (x : Place). x.at) s)
      by true false q r s = let k = sym z ∙ ap (λ (x : Place). x.why) s in absurd (omega (arith, k))
      by false u q r s = let k = sym z ∙ ap (λ (x : Place). x.why) s in absurd (omega (arith, k))

pub sized-ends : (w : Width) (xs : List ℕ) (at n : ℕ) → at + bytes w ≤ length xs → n ≡ number_at (bytes w) xs at → (p : Place) → p ≡ sized_place at (length xs - at) (bytes w) n
    → Ends xs (sized_bytes true w) at p
unfolding sized_place
sized-ends w xs at n h f p e =
    by (eqb ((m + bytes w) % 8) 0) (leb m (length xs - at - bytes w)) refl refl
    (e ∙ ap (λ (i : ℕ). cond (eqb ((i + bytes w) % 8) 0) (cond (leb i (length xs - at - bytes w)) (place (at + bytes w + i) 0) (place 0 30)) (place 0 32)) f)
  where
    m : ℕ
    m = number_at (bytes w) xs at

    k : bytes w ≤ length xs - at
    k = omega (arith, h)

    by : (t u : Bool) → eqb ((m + bytes w) % 8) 0 ≡ t → leb m (length xs - at - bytes w) ≡ u
        → p ≡ cond t (cond u (place (at + bytes w + m) 0) (place 0 30)) (place 0 32) → Ends xs (sized_bytes true w) at p
    by true true q r s =
        let l = leb-true m (length xs - at - bytes w) r in
        subst (Ends xs (sized_bytes true w) at) (sym s) (going xs _ at _ (omega (arith, l, h)) (sized-in w xs at k (eqb-true _ _ q) (omega (arith, l))))
    by true false q r s =
        let l = leb-false m (length xs - at - bytes w) r in
        refusing xs _ at p 30 s (λ z. omega (arith, z)) (sized-long w xs at k (eqb-true _ _ q) (omega (arith, l)))
    by false u q r s = refusing xs _ at p 32 s (λ z. omega (arith, z)) (sized-bad w xs at k (eqb-false _ _ q))

-- registers: an abi word, and as many registers as the mask has ones, or none
module _ (xs : List ℕ) (mask at : ℕ) where
  pub registers-short : length xs - at < 8 → Leaves xs (register_list true mask) at (place 0 30)
  unfolding Leaves
  registers-short h n old = halts xs _ _ at n old 30 (abi-out xs at n old mask h) (λ q. omega (arith, q))

  abbrev follow : ℕ
  follow = cond (eqb (number_at 8 xs at) 0) 0 (ones 64 mask)

  pub registers-long : 8 ≤ length xs - at → length xs - (at + 8) < follow * 8 → Leaves xs (register_list true mask) at (place 0 30)
  unfolding Leaves
  registers-long h l n old =
      halts xs _ _ (at + 8) follow old 30 (registers-out xs (at + 8) follow old l) (λ q. omega (arith, q))
      ∙ ap seal (sym (goes xs _ _ _ _ (abi-in xs at n old mask h)))

  pub registers-there : 8 ≤ length xs - at → follow * 8 ≤ length xs - (at + 8) → Leaves xs (register_list true mask) at (place (at + 8 + follow * 8) 0)
  unfolding Leaves seal walk
  registers-there h l n old = rw (abi-in xs at n old mask h, registers-in xs (at + 8) follow old l)

-- the stack: a size, so many bytes, and the filled length where the size is not 0
module _ (xs : List ℕ) (at : ℕ) where
  abbrev size : ℕ
  size = number_at 8 xs at

  pub stack-short : length xs - at < 8 → Leaves xs (stack_bytes true) at (place 0 30)
  unfolding Leaves
  stack-short h n old = halts xs _ _ at n old 30 (size-out xs at n old W8 h) (λ q. omega (arith, q))

  pub stack-bad : 8 ≤ length xs - at → ((size + 8) % 8 ≡ 0 → ⊥) → Leaves xs (stack_bytes true) at (place 0 32)
  unfolding Leaves
  stack-bad h g n old = halts xs _ _ at n old 32 (size-bad xs at n old W8 h g) (λ q. omega (arith, q))

  pub stack-long : 8 ≤ length xs - at → (size + 8) % 8 ≡ 0 → length xs - (at + 8) < size → Leaves xs (stack_bytes true) at (place 0 30)
  unfolding Leaves
  stack-long h g l n old =
      halts xs _ _ (at + 8) size old 30 (times-out xs (at + 8) size old 1 (omega (arith, l))) (λ q. omega (arith, q))
      ∙ ap seal (sym (goes xs _ _ _ _ (size_in xs at n old W8 h g)))

  -- past size and bytes
  past_bytes : (n old : ℕ) (is : List Item) → 8 ≤ length xs - at → (size + 8) % 8 ≡ 0 → size ≤ length xs - (at + 8)
      → walk xs (item true (Size W8) ∷ item true (Times 1) ∷ is) (cursor at n old 0) ≡ walk xs is (cursor (at + 8 + size) size old 0)
  past_bytes n old is h g l =
      goes xs _ _ _ _ (size_in xs at n old W8 h g)
      ∙ goes xs _ _ _ _ (times-in xs (at + 8) size old 1 (omega (arith, l)))
      ∙ ap (λ (k : ℕ). walk xs is (cursor (at + 8 + k) size old 0)) (mul-one size)

  -- what refuses size and bytes refuses the stack
  pub stack-part : (n : ℕ) → at + 8 ≤ length xs → n ≡ size → (p : Place) → p ≡ sized_place at (length xs - at) 8 n → (p.why ≡ 0 → ⊥) → Ends xs (stack_bytes true) at p
  stack-part n h f p e z = one-refuses xs (sized_bytes true W8) (item true Filled ∷ []) at p (sized-ends W8 xs at n h f p e) z

  pub stack-none : 8 ≤ length xs - at → size ≡ 0 → Leaves xs (stack_bytes true) at (place (at + 8) 0)
  unfolding Leaves
  stack-none h z n old =
      let e : at + 8 ≡ at + 8 + size + 0 = omega (arith, z) in
      ap (λ (k : ℕ). place k 0) e
      ∙ (let f : place (at + 8 + size + 0) 0 ≡ seal (cursor (at + 8 + size + 0) size old 0) = sealed (at + 8 + size + 0) size old in f)
      ∙ ap seal (sym (goes xs _ [] _ _ (filled_none xs (at + 8 + size) size old z) ∙ nil (cursor (at + 8 + size + 0) size old 0)))
      ∙ ap seal (sym (past_bytes n old (item true Filled ∷ []) h (let g : (size + 8) % 8 ≡ 0 = omega (arith, z) in g) (omega (arith, z))))
    where
      sealed : (k m o : ℕ) → place k 0 ≡ seal (cursor k m o 0)
      sealed k m o = unfold seal in refl

      nil : (c : Cursor) → walk xs [] c ≡ c
      nil c = unfold walk in refl

  pub stack-unfilled : 8 ≤ length xs - at → (size + 8) % 8 ≡ 0 → size ≤ length xs - (at + 8) → (size ≡ 0 → ⊥) → length xs - (at + 8 + size) < 8
      → Leaves xs (stack_bytes true) at (place 0 30)
  unfolding Leaves
  stack-unfilled h g l z s n old =
      halts xs _ _ (at + 8 + size) size old 30 (filled-out xs (at + 8 + size) size old z s) (λ q. omega (arith, q))
      ∙ ap seal (sym (past_bytes n old (item true Filled ∷ []) h g l))

  pub stack-over : 8 ≤ length xs - at → (size + 8) % 8 ≡ 0 → size ≤ length xs - (at + 8) → (size ≡ 0 → ⊥) → 8 ≤ length xs - (at + 8 + size)
      → size < number_at 8 xs (at + 8 + size) → Leaves xs (stack_bytes true) at (place 0 32)
  unfolding Leaves
  stack-over h g l z s o n old =
      halts xs _ _ (at + 8 + size) size old 32 (filled-bad xs (at + 8 + size) size old z s o) (λ q. omega (arith, q))
      ∙ ap seal (sym (past_bytes n old (item true Filled ∷ []) h g l))

  pub stack-in : 8 ≤ length xs - at → (size + 8) % 8 ≡ 0 → size ≤ length xs - (at + 8) → (size ≡ 0 → ⊥) → 8 ≤ length xs - (at + 8 + size)
      → number_at 8 xs (at + 8 + size) ≤ size → Leaves xs (stack_bytes true) at (place (at + 8 + size + 8) 0)
  unfolding Leaves seal walk
  stack-in h g l z s o n old =
      ap seal (sym (goes xs _ [] _ _ (filled_in xs (at + 8 + size) size old z s o)))
      ∙ ap seal (sym (past_bytes n old (item true Filled ∷ []) h g l))

-- the filled length of a stack that is not empty
unfoldable pub filled_answer : List ℕ → ℕ → ℕ → ℕ
filled_answer xs at size = cond (leb 8 (length xs - at)) (cond (leb (number_at 8 xs at) size) 0 32) 30

-- what the filled length leaves of a stack that is not empty: n is its size, w what `filled` answers
module _ (xs : List ℕ) (at n w : ℕ) (e : number_at 8 xs at ≡ n) (h : 8 ≤ length xs - at) (g : (number_at 8 xs at + 8) % 8 ≡ 0)
    (l : number_at 8 xs at ≤ length xs - (at + 8)) (z : n ≡ 0 → ⊥) (f : w ≡ filled_answer xs (at + 8 + n) n) where
  abbrev m : ℕ
  m = number_at 8 xs at

  f₁ : w ≡ filled_answer xs (at + 8 + m) m
  f₁ = f ∙ ap (λ (k : ℕ). filled_answer xs (at + 8 + k) k) (sym e)

  z₁ : m ≡ 0 → ⊥
  z₁ q = z (sym e ∙ q)

  by : (t u : Bool) → leb 8 (length xs - (at + 8 + m)) ≡ t → leb (number_at 8 xs (at + 8 + m)) m ≡ u → w ≡ cond t (cond u 0 32) 30
      → ((w ≡ 0 → ⊥) → Leaves xs (stack_bytes true) at (place 0 w)) × (w ≡ 0 → Leaves xs (stack_bytes true) at (place (at + 8 + m + 8) 0) × (at + 8 + m + 8 ≤ length xs))
  by true true p q r = (
    λ y. absurd (y r),
    λ y. (stack-in xs at h g l z₁ (leb-true _ _ p) (leb-true _ _ q), (let p₁ = leb-true 8 (length xs - (at + 8 + m)) p in omega (arith, p₁))),
  )
  by true false p q r = (
    λ y. subst (λ (k : ℕ). Leaves xs (stack_bytes true) at (place 0 k)) (sym r) (stack-over xs at h g l z₁ (leb-true _ _ p) (leb-false _ _ q)),
    λ y. absurd (omega (arith, y, r)),
  )
  by false u p q r = (
    λ y. subst (λ (k : ℕ). Leaves xs (stack_bytes true) at (place 0 k)) (sym r) (stack-unfilled xs at h g l z₁ (leb-false _ _ p)),
    λ y. absurd (omega (arith, y, r)),
  )

  both : ((w ≡ 0 → ⊥) → Leaves xs (stack_bytes true) at (place 0 w)) × (w ≡ 0 → Leaves xs (stack_bytes true) at (place (at + 8 + m + 8) 0) × (at + 8 + m + 8 ≤ length xs))
  both = by (leb 8 (length xs - (at + 8 + m))) (leb (number_at 8 xs (at + 8 + m)) m) refl refl (f₁ ∙ (unfold filled_answer in refl))

  pub stack-refused : (w ≡ 0 → ⊥) → Leaves xs (stack_bytes true) at (place 0 w)
  stack-refused y = both.0 y

  pub stack-there : w ≡ 0 → Leaves xs (stack_bytes true) at (place (at + 8 + n + 8) 0) × (at + 8 + n + 8 ≤ length xs)
  stack-there y =
      subst (λ (k : ℕ). Leaves xs (stack_bytes true) at (place (at + 8 + k + 8) 0) × (at + 8 + k + 8 ≤ length xs)) e (both.1 y)
