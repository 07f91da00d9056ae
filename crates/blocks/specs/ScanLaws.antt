-- The first zero, k bytes at a time. Assumes nothing.
use Rattle.std.specs.Prelude.{◌≡◌, refl, Bool, true, false, ◌||◌, List, ℕ, zero, suc, ◌+◌, ◌-◌, ◌*◌, ◌%◌, ◌<◌, ◌≤◌, get_or, take, drop, eqb}
use Rattle.std.specs.Simd.{first_chunks}
use Rattle.std.proofs.lemmas.List.{get_or-take, get_or-drop, drop-drop}
use Rattle.std.proofs.Common.{sym, ap, ◌∙◌, true≢false, zero-add, add-zero, suc-add}
use Rattle.std.proofs.Math.Bool.{or-false}
use native.Mathlib.Omega.{arith}
use Rattle.std.proofs.Math.ListN.{length}
use borrow.Author.Tests.{le-leb, lt-leb, lt-ltb, le-ltb, eqb-true, eqb-false}
use Rattle.meaning.specs.Bytes.{zero_in}
use Rattle.laws.specs.Shapes.{zero-here, zero-on}
use Rattle.blocks.specs.Scan.{has_zero, name_ok}

-- a group is its two halves
pub zero-join : (j k : ℕ) (xs : List ℕ) (at : ℕ) → has_zero (j + k) xs at ≡ (has_zero j xs at || has_zero k xs (at + j))
unfolding has_zero
zero-join zero k xs at = rw (zero-add k, add-zero at)
zero-join (suc j) k xs at =
    let e : at + 1 + j ≡ at + suc j = omega arith in
    rw (suc-add j k, zero-join j k xs (at + 1), e) (or_assoc (eqb (get_or xs at 0) 0) (has_zero j xs (at + 1)) (has_zero k xs (at + suc j)))
  where
    or_assoc : (a b c : Bool) → (a || (b || c)) ≡ ((a || b) || c)
    or_assoc true b c = refl
    or_assoc false b c = refl

-- none of k: the first zero is k further on
pub zero-none : (k : ℕ) (xs : List ℕ) (at : ℕ) → has_zero k xs at ≡ false → at + k ≤ length xs → zero_in (drop at xs) ≡ k + zero_in (drop (at + k) xs)
unfolding has_zero
zero-none zero xs at e h = rw (add-zero at) (sym (zero-add _))
zero-none (suc k) xs at e h = go (eqb (get_or xs at 0) 0) refl (λ r. zero-none k xs (at + 1) r (omega arith))
  where
    go : (t : Bool) → eqb (get_or xs at 0) 0 ≡ t → (has_zero k xs (at + 1) ≡ false → zero_in (drop (at + 1) xs) ≡ k + zero_in (drop (at + 1 + k) xs))
        → zero_in (drop at xs) ≡ suc k + zero_in (drop (at + suc k) xs)
    go true q f = absurd (true≢false (rw q at e))
    go false q f =
        let m : at + 1 + k ≡ at + suc k = omega arith in
        zero-on xs at (omega arith) (eqb-false (get_or xs at 0) 0 q) ∙ ap (λ (z : ℕ). z + 1) (f (rw q at e)) ∙ rw m (omega arith)

-- one of k: the first zero is among them
pub zero-some : (k : ℕ) (xs : List ℕ) (at : ℕ) → has_zero k xs at ≡ true → at + k ≤ length xs → zero_in (drop at xs) < k
unfolding has_zero
zero-some zero xs at e h = absurd (true≢false (sym e))
zero-some (suc k) xs at e h = go (eqb (get_or xs at 0) 0) refl (λ r. zero-some k xs (at + 1) r (omega arith))
  where
    go : (t : Bool) → eqb (get_or xs at 0) 0 ≡ t → (has_zero k xs (at + 1) ≡ true → zero_in (drop (at + 1) xs) < k) → zero_in (drop at xs) < suc k
    go true q f = omega (arith, zero-here xs at (omega arith) (eqb-true (get_or xs at 0) 0 q))
    go false q f = omega (arith, zero-on xs at (omega arith) (eqb-false (get_or xs at 0) 0 q), f (rw q at e))

-- the same bytes, wherever they stand
pub zero-same : (k : ℕ) (ys xs : List ℕ) (i j : ℕ) → ((m : ℕ) → m < k → get_or ys (i + m) 0 ≡ get_or xs (j + m) 0) → has_zero k ys i ≡ has_zero k xs j
unfolding has_zero
zero-same zero ys xs i j f = refl
zero-same (suc k) ys xs i j f =
    let e : get_or ys i 0 ≡ get_or xs j 0 = rw (add-zero i, add-zero j) at (f 0 (omega arith)) in
    let r : has_zero k ys (i + 1) ≡ has_zero k xs (j + 1) =
    zero-same k ys xs (i + 1) (j + 1) (λ m h. let a : i + 1 + m ≡ i + suc m = omega arith in let b : j + 1 + m ≡ j + suc m = omega arith in rw (a, b) (f (suc m) (omega arith)))
    in
    rw (e, r)

-- a group of sixteen is a piece
sixteen-at : (n : ℕ) (xs : List ℕ) (i : ℕ) (d : List ℕ) → i < n → get_or (first_chunks 16 n xs) i d ≡ take 16 (drop (i * 16) xs)
sixteen-at zero xs i d h = absurd (omega arith)
sixteen-at (suc n) xs zero d h = refl
sixteen-at (suc n) xs (suc i) d h =
    let m : 16 + i * 16 ≡ suc i * 16 = omega arith in
    sixteen-at n (drop 16 xs) i d (omega arith) ∙ ap (take 16) (drop-drop (i * 16) 16 xs ∙ ap (λ (j : ℕ). drop j xs) m)

-- a group of sixteen of a stretch, where it stands
pub zero-sixteen : (xs : List ℕ) (at room n i : ℕ) (d : List ℕ) → i < n → i * 16 + 16 ≤ room
    → has_zero 16 (get_or (first_chunks 16 n (take room (drop at xs))) i d) 0 ≡ has_zero 16 xs (at + i * 16)
zero-sixteen xs at room n i d h l =
    let ys : List ℕ = take room (drop at xs) in
    ap (λ (zs : List ℕ). has_zero 16 zs 0) (sixteen-at n ys i d h)
    ∙ zero-same 16 (take 16 (drop (i * 16) ys)) xs 0 (at + i * 16) (λ m k.
    let p : i * 16 + m < room = omega arith in
    let q : at + (i * 16 + m) ≡ at + i * 16 + m = omega arith in
    rw (zero-add m)
    (get_or-take 16 (drop (i * 16) ys) m 0 k ∙ get_or-drop (i * 16) ys m 0 ∙ get_or-take room (drop at xs) (i * 16 + m) 0 p ∙ get_or-drop at xs (i * 16 + m) 0
    ∙ ap (λ (z : ℕ). get_or xs z 0) q))

-- the rule, by where the first zero is
module _ (xs : List ℕ) (at : ℕ) where
  pub name-yes : at + zero_in (drop at xs) < length xs → length xs ≤ at + zero_in (drop at xs) + 8 → true ≡ name_ok xs at
  unfolding name_ok
  name-yes h l = simp (lt-ltb _ _ h, le-leb _ _ l)

  pub name-none : length xs ≤ at + zero_in (drop at xs) → false ≡ name_ok xs at
  unfolding name_ok
  name-none h = simp (le-ltb _ _ h)

  pub name-early : at + zero_in (drop at xs) + 8 < length xs → false ≡ name_ok xs at
  unfolding name_ok
  name-early h = let l : at + zero_in (drop at xs) < length xs = omega arith in simp (lt-ltb _ _ l, lt-leb _ _ h)

pub four : (xs : List ℕ) (at : ℕ) → (eqb (get_or xs at 0) 0 || (eqb (get_or xs (at + 1) 0) 0 || (eqb (get_or xs (at + 2) 0) 0 || eqb (get_or xs (at + 3) 0) 0))) ≡ has_zero 4 xs at
unfolding has_zero
four xs at =
    let e₂ : at + 1 + 1 ≡ at + 2 = omega arith in
    let e₃ : at + 2 + 1 ≡ at + 3 = omega arith in
    rw (e₂, e₃, or-false (eqb (get_or xs (at + 3) 0) 0))

-- a scan that has come to i with no zero
abbrev pub Scanned : List ℕ → ℕ → ℕ → Type 0
Scanned xs at i = at + zero_in (drop at xs) ≡ i + zero_in (drop i xs)

module _ (xs : List ℕ) (at : ℕ) where
  pub scan-on : (k i : ℕ) (r : Bool) → r ≡ has_zero k xs i → r ≡ false → i + k ≤ length xs → Scanned xs at i → Scanned xs at (i + k)
  scan-on k i r e f h s = omega (arith, zero-none k xs i (sym e ∙ f) h, s)

  pub scan-hit : (k i : ℕ) (r : Bool) → r ≡ has_zero k xs i → r ≡ true → i + k + 8 ≤ length xs → Scanned xs at i → false ≡ name_ok xs at
  scan-hit k i r e f h s = name-early xs at (omega (arith, zero-some k xs i (sym e ∙ f) (omega arith), s))

  pub scan-last : (i : ℕ) (r : Bool) → r ≡ has_zero 8 xs i → i + 8 ≡ length xs → Scanned xs at i → r ≡ name_ok xs at
  scan-last i true e h s =
      let z : zero_in (drop i xs) < 8 = zero-some 8 xs i (sym e) (omega arith) in name-yes xs at (omega arith) (omega arith)
  scan-last i false e h s =
      let z : zero_in (drop i xs) ≡ 8 + zero_in (drop (i + 8) xs) = zero-none 8 xs i (sym e) (omega arith) in name-none xs at (omega arith)

  pub scan-short : length xs < at + 8 → at ≤ length xs → (length xs - at) % 8 ≡ 0 → false ≡ name_ok xs at
  scan-short h l m = let e : at ≡ length xs = omega arith in name-none xs at (omega arith)
