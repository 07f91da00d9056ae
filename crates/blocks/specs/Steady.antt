-- Items of one width, or off: their walk is one bound check of their sum. Assumes nothing.
use Rattle.std.specs.Prelude.{◌≡◌, refl, Bool, true, false, cond, not, ◌&&◌, ◌||◌, List, [], ◌∷◌, ℕ, ◌+◌, ◌-◌, ◌<◌, ◌≤◌, length, drop, ltb, eqb}
use Rattle.std.proofs.Common.{sym, ap, ◌∙◌, ⊎_elim, add-zero, add_assoc, arith, eqb-true, eq-eqb, ne_eqb, lt-ltb, le-ltb}
use Rattle.std.proofs.lemmas.Bool.{eqb-false}
use Rattle.meaning.specs.States.{Cursor}
use Rattle.meaning.specs.declared.Item.{Item}
use Rattle.meaning.specs.declared.Shape.{Shape}
use Rattle.meaning.specs.declared.Shape.TheVariants.{Number, Ignored, Count, Size, Times, Earlier, Registers, Filled, Abi, Limit, Listed, Bytes, Pad, Name}
use Rattle.meaning.specs.Items.{cursor, bytes, span, rule, holds, counted, before, shape_step, step, walk}
use Rattle.laws.specs.Bytes.{apart, and-true, le-or-lt}
use Rattle.laws.specs.Shapes.{shape-out, shape-in}
use Rattle.meaning.specs.Records.{closed}
use Rattle.blocks.specs.Seen.{place, seal, Leaves, Closes}
use Rattle.laws.specs.Again.{stuck}

-- a shape that takes the same bytes in every record, refuses none of them and counts nothing
unfoldable pub one_width : Shape → Bool
one_width (Number w) = true
one_width (Ignored k) = true
one_width (Count w) = false
one_width (Size w) = false
one_width (Times k) = false
one_width (Earlier k) = false
one_width Registers = false
one_width Filled = false
one_width (Abi m) = false
one_width (Limit k) = false
one_width (Listed k) = true
one_width (Bytes k) = true
one_width Pad = false
one_width Name = false

-- its bytes, wherever it stands
unfoldable pub width_of : Shape → ℕ
width_of sh = span sh (cursor 0 0 0 0) 0

-- every item is of one width or off
unfoldable pub steady : List Item → Bool
steady [] = true
steady (i ∷ is) = (one_width i.shape || not i.on) && steady is

-- the bytes of one item, and of all of them
abbrev pub one : Item → ℕ
one i = cond i.on (width_of i.shape) 0

unfoldable pub total : List Item → ℕ
total [] = 0
total (i ∷ is) = one i + total is

-- a shape of one width: past it where its bytes are there, else 30
shape-there : (sh : Shape) (xs : List ℕ) (at n old : ℕ) → one_width sh ≡ true → at + width_of sh ≤ length xs
    → shape_step sh (cursor at n old 0) (drop at xs) ≡ cursor (at + width_of sh) n old 0
unfolding one_width width_of span rule holds counted before
shape-there (Number w) xs at n old f h = sym (shape-in (Number w) xs (cursor at n old 0) (bytes w) refl n old (omega (arith, h)) refl refl refl)
shape-there (Ignored k) xs at n old f h = sym (shape-in (Ignored k) xs (cursor at n old 0) k refl n old (omega (arith, h)) refl refl refl)
shape-there (Count w) xs at n old f h = absurd (apart f)
shape-there (Size w) xs at n old f h = absurd (apart f)
shape-there (Times k) xs at n old f h = absurd (apart f)
shape-there (Earlier k) xs at n old f h = absurd (apart f)
shape-there Registers xs at n old f h = absurd (apart f)
shape-there Filled xs at n old f h = absurd (apart f)
shape-there (Abi m) xs at n old f h = absurd (apart f)
shape-there (Limit k) xs at n old f h = absurd (apart f)
shape-there (Listed k) xs at n old f h = sym (shape-in (Listed k) xs (cursor at n old 0) k refl n old (omega (arith, h)) refl refl refl)
shape-there (Bytes k) xs at n old f h = sym (shape-in (Bytes k) xs (cursor at n old 0) k refl n old (omega (arith, h)) refl refl refl)
shape-there Pad xs at n old f h = absurd (apart f)
shape-there Name xs at n old f h = absurd (apart f)

shape-short : (sh : Shape) (xs : List ℕ) (at n old : ℕ) → one_width sh ≡ true → at ≤ length xs → length xs < at + width_of sh
    → shape_step sh (cursor at n old 0) (drop at xs) ≡ cursor at n old 30
unfolding one_width width_of span
shape-short (Number w) xs at n old f g h = sym (shape-out (Number w) xs (cursor at n old 0) (bytes w) refl (omega (arith, g, h)))
shape-short (Ignored k) xs at n old f g h = sym (shape-out (Ignored k) xs (cursor at n old 0) k refl (omega (arith, g, h)))
shape-short (Count w) xs at n old f g h = absurd (apart f)
shape-short (Size w) xs at n old f g h = absurd (apart f)
shape-short (Times k) xs at n old f g h = absurd (apart f)
shape-short (Earlier k) xs at n old f g h = absurd (apart f)
shape-short Registers xs at n old f g h = absurd (apart f)
shape-short Filled xs at n old f g h = absurd (apart f)
shape-short (Abi m) xs at n old f g h = absurd (apart f)
shape-short (Limit k) xs at n old f g h = absurd (apart f)
shape-short (Listed k) xs at n old f g h = sym (shape-out (Listed k) xs (cursor at n old 0) k refl (omega (arith, g, h)))
shape-short (Bytes k) xs at n old f g h = sym (shape-out (Bytes k) xs (cursor at n old 0) k refl (omega (arith, g, h)))
shape-short Pad xs at n old f g h = absurd (apart f)
shape-short Name xs at n old f g h = absurd (apart f)

or-false : (a : Bool) → (a || false) ≡ true → a ≡ true
or-false true e = refl
or-false false e = e

item-there : (xs : List ℕ) (i : Item) (at n old : ℕ) → (one_width i.shape || not i.on) ≡ true → at + one i ≤ length xs
    → step xs i (cursor at n old 0) ≡ cursor (at + one i) n old 0
unfolding step
item-there xs i at n old f h = go i.on refl
  where
    go : (b : Bool) → i.on ≡ b → step xs i (cursor at n old 0) ≡ cursor (at + one i) n old 0
    go true o = rw o (shape-there i.shape xs at n old (or-false (one_width i.shape) (rw o at f)) (rw o at h))
    go false o = rw o (ap (λ (k : ℕ). cursor k n old 0) (sym (add-zero at)))

item-short : (xs : List ℕ) (i : Item) (at n old : ℕ) → (one_width i.shape || not i.on) ≡ true → at ≤ length xs → length xs < at + one i
    → step xs i (cursor at n old 0) ≡ cursor at n old 30
unfolding step
item-short xs i at n old f g h = go i.on refl
  where
    go : (b : Bool) → i.on ≡ b → step xs i (cursor at n old 0) ≡ cursor at n old 30
    go true o = rw o (shape-short i.shape xs at n old (or-false (one_width i.shape) (rw o at f)) g (rw o at h))
    go false o = let e : length xs < at + 0 = rw o at h in absurd (omega (arith, e, g))

pub steady-in : (xs : List ℕ) (is : List Item) (at n old : ℕ) → steady is ≡ true → at + total is ≤ length xs
    → walk xs is (cursor at n old 0) ≡ cursor (at + total is) n old 0
unfolding walk steady total
steady-in xs [] at n old f h = ap (λ (k : ℕ). cursor k n old 0) (sym (add-zero at))
steady-in xs (i ∷ is) at n old f h =
    let s = and-true (one_width i.shape || not i.on) (steady is) f in
    let h₁ : at + (one i + total is) ≤ length xs = h in
    ap (walk xs is) (item-there xs i at n old s.0 (omega (arith, h₁)))
    ∙ steady-in xs is (at + one i) n old s.1 (omega (arith, h₁))
    ∙ ap (λ (k : ℕ). cursor k n old 0) (add_assoc at (one i) (total is))

pub steady-out : (xs : List ℕ) (is : List Item) (at n old : ℕ) → steady is ≡ true → at ≤ length xs → length xs < at + total is
    → (walk xs is (cursor at n old 0)).why ≡ 30
unfolding walk steady total
steady-out xs [] at n old f g h = absurd (omega (arith, g, h))
steady-out xs (i ∷ is) at n old f g h =
    let s = and-true (one_width i.shape || not i.on) (steady is) f in
    let h₁ : length xs < at + (one i + total is) = h in
    ⊎_elim
    (λ y. ap (λ (c : Cursor). (walk xs is c).why) (item-there xs i at n old s.0 y) ∙ steady-out xs is (at + one i) n old s.1 y (omega (arith, h₁)))
    (λ y. ap (λ (c : Cursor). (walk xs is c).why) (item-short xs i at n old s.0 g y) ∙ ap (λ (c : Cursor). c.why) (stuck xs is (cursor at n old 30) (λ q. omega (arith, q))))
    (le-or-lt (at + one i) (length xs))

-- a stretch of them, by its sum
pub steady-leaves : (xs : List ℕ) (is : List Item) (at sum : ℕ) → steady is ≡ true → total is ≡ sum → at + sum ≤ length xs → Leaves xs is at (place (at + sum) 0)
unfolding Leaves seal
steady-leaves xs is at sum f e h n old = rw (sym e) (sym (ap seal (steady-in xs is at n old f (rw (sym e) at h))))

pub steady-refused : (xs : List ℕ) (is : List Item) (at sum : ℕ) → steady is ≡ true → total is ≡ sum → at ≤ length xs → length xs < at + sum → Leaves xs is at (place 0 30)
unfolding Leaves seal
steady-refused xs is at sum f e g h n old =
    let w = steady-out xs is at n old f g (rw (sym e) at h) in
    rw w

-- ---- up to the end

-- what so many bytes answer where exactly k are wanted
unfoldable pub sizes : ℕ → ℕ → ℕ
sizes left k = cond (eqb left k) 0 (cond (ltb left k) 30 31)

pub sizes-less : (left k : ℕ) → left < k → sizes left k ≡ 30
unfolding sizes
sizes-less left k h = rw (ne_eqb left k (λ e. omega (arith, e, h)), lt-ltb left k h)

pub sizes-more : (left k : ℕ) → k < left → sizes left k ≡ 31
unfolding sizes
sizes-more left k h = let l : k ≤ left = omega (arith, h) in rw (ne_eqb left k (λ e. omega (arith, e, h)), le-ltb left k l)

pub sizes-same : (left k : ℕ) → left ≡ k → sizes left k ≡ 0
unfolding sizes
sizes-same left k e = rw (eq-eqb left k e)

pub steady-closes : (xs : List ℕ) (is : List Item) (at k : ℕ) → steady is ≡ true → total is ≡ k → at ≤ length xs → Closes xs is at (sizes (length xs - at) k)
unfolding Closes closed
steady-closes xs is at k f e g n old = ⊎_elim (λ h. inside h) (λ h. outside h) (le-or-lt (at + k) (length xs))
  where
    inside : at + k ≤ length xs → sizes (length xs - at) k ≡ closed (length xs) (walk xs is (cursor at n old 0))
    inside h =
        let w : walk xs is (cursor at n old 0) ≡ cursor (at + k) n old 0 = steady-in xs is at n old f (omega (arith, e, h)) ∙ ap (λ (i : ℕ). cursor (at + i) n old 0) e in
        by (eqb (at + k) (length xs)) refl ∙ ap (closed (length xs)) (sym w)
      where
        by : (t : Bool) → eqb (at + k) (length xs) ≡ t → sizes (length xs - at) k ≡ closed (length xs) (cursor (at + k) n old 0)
        by true q = let r = eqb-true (at + k) (length xs) q in rw q (sizes-same (length xs - at) k (omega (arith, r)))
        by false q = let r = eqb-false (at + k) (length xs) q in rw q (sizes-more (length xs - at) k (omega (arith, r, h)))

    outside : length xs < at + k → sizes (length xs - at) k ≡ closed (length xs) (walk xs is (cursor at n old 0))
    outside h =
        let w = steady-out xs is at n old f g (omega (arith, e, h)) in
        rw w (sizes-less (length xs - at) k (omega (arith, g, h)))
