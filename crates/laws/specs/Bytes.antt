-- Laws of bytes. Assumes nothing.
use Rattle.std.specs.Prelude.{◌≡◌, refl, ℕ, zero, suc, ◌+◌, ◌-◌, ◌*◌, ◌/◌, ◌%◌, ◌^◌, ◌<◌, ◌≤◌, Bool, true, false, not, ◌&&◌, cond, ◌⊎◌, List, [], ◌∷◌, ◌++◌, length, take, drop, leb, eqb, ltb}
use Rattle.std.proofs.Common.{ap, ◌∙◌, pow-suc, arith, inl, inr, append-nil, length-append, take_at, drop_at, take_all, leb-true, leb-false, lt-ltb, ltb-true}
use Rattle.std.proofs.Math.Nat.{sub_self}
use Rattle.std.proofs.lemmas.List.{length-replicate}
use Rattle.std.proofs.Math.Seq.{take-length}
use Rattle.std.proofs.lemmas.Bool.{not-true}
use Rattle.meaning.specs.Bytes.{num, spell, zeros, zero_in, small, nonzero, all_zero, stale, keep}
use Rattle.meaning.specs.Items.{Con, con}

pub apart : false ≡ true → ⊥
apart e = let h : ◌≡◌ {A = ℕ} 0 1 = ap {B = ℕ} (λ (t : Bool). cond t 1 0) e in omega (arith, h)

pub and-true : (a b : Bool) → a && b ≡ true → (a ≡ true) × (b ≡ true)
and-true true b h = (refl, h)
and-true false b h = absurd (apart h)

pub true-and : (a b : Bool) → a ≡ true → b ≡ true → a && b ≡ true
true-and a b p q = rw (p, q)

-- are two lists of numbers the same? The contract of a comparison uses this definition (M-108), and examples do
unfoldable pub same_bytes : List ℕ → List ℕ → Bool
same_bytes [] [] = true
same_bytes [] (y ∷ ys) = false
same_bytes (x ∷ xs) [] = false
same_bytes (x ∷ xs) (y ∷ ys) = eqb x y && same_bytes xs ys

pub con-of : (v : Con) (a : ℕ) (l : List ℕ) → a ≡ v.num → l ≡ v.list → con a l ≡ v
con-of v a l p q = λ j. record { num = p j; list = q j }

-- a rule that answers 0 holds
pub unbroken : (t : Bool) (why : ℕ) → 0 < why → cond t 0 why ≡ 0 → t ≡ true
unbroken true why p e = refl
unbroken false why p e = absurd (omega arith)

pub nil-of : (l : List ℕ) → length l ≡ 0 → [] ≡ l
nil-of [] e = refl
nil-of (x ∷ l) e = absurd (omega arith)

-- numbers
-- two numbers are in one of two orders
pub le-or-lt : (a b : ℕ) → (a ≤ b) ⊎ (b < a)
le-or-lt a b = by (leb a b) refl
  where
    by : (t : Bool) → leb a b ≡ t → (a ≤ b) ⊎ (b < a)
    by true e = inl (leb-true a b e)
    by false e = inr (leb-false a b e)

pub length-spell : (k v : ℕ) → length (spell k v) ≡ k
unfolding spell
length-spell zero v = refl
length-spell (suc k) v = ap suc (length-spell k (v / 256))

pub num-spell : (k v : ℕ) → v < 256 ^ k → num (spell k v) ≡ v
unfolding num spell
num-spell zero v h = omega arith
num-spell (suc k) v h =
    let g : v < 256 ^ k * 256 = rw pow-suc at h in
    let t : num (spell k (v / 256)) ≡ v / 256 = num-spell k (v / 256) (omega arith) in
    omega (arith, t)

pub small-spell : (k v : ℕ) → small (spell k v) ≡ true
unfolding small spell
small-spell zero v = refl
small-spell (suc k) v = true-and (ltb (v % 256) 256) (small (spell k (v / 256))) (lt-ltb (v % 256) 256 (omega arith)) (small-spell k (v / 256))

pub spell-num : (ys : List ℕ) → small ys ≡ true → spell (length ys) (num ys) ≡ ys
unfolding num spell small
spell-num [] h = refl
spell-num (y ∷ ys) h =
    let s = and-true (ltb y 256) (small ys) h in
    let g : y < 256 = ltb-true y 256 s.0 in
    let m : (y + 256 * num ys) % 256 ≡ y = omega arith in
    let d : (y + 256 * num ys) / 256 ≡ num ys = omega arith in
    rw (m, d) (ap (λ (l : List ℕ). y ∷ l) (spell-num ys s.1))

pub num-lt : (ys : List ℕ) → small ys ≡ true → num ys < 256 ^ length ys
unfolding num small
num-lt [] h = omega arith
num-lt (y ∷ ys) h =
    let s = and-true (ltb y 256) (small ys) h in
    let g : y < 256 = ltb-true y 256 s.0 in
    let t = num-lt ys s.1 in
    rw pow-suc (omega (arith, t))

-- bytes
pub small-append : (xs ys : List ℕ) → small xs ≡ true → small ys ≡ true → small (xs ++ ys) ≡ true
unfolding small
small-append [] ys p q = q
small-append (x ∷ xs) ys p q =
    let s = and-true (ltb x 256) (small xs) p in
    true-and (ltb x 256) (small (xs ++ ys)) s.0 (small-append xs ys s.1 q)

pub small-zeros : (k : ℕ) → small (zeros k) ≡ true
unfolding small
small-zeros zero = refl
small-zeros (suc k) = true-and (ltb 0 256) (small (zeros k)) refl (small-zeros k)

pub small-take : (k : ℕ) (xs : List ℕ) → small xs ≡ true → small (take k xs) ≡ true
unfolding small
small-take zero xs h = refl
small-take (suc k) [] h = refl
small-take (suc k) (x ∷ xs) h =
    let s = and-true (ltb x 256) (small xs) h in
    true-and (ltb x 256) (small (take k xs)) s.0 (small-take k xs s.1)

pub small-drop : (k : ℕ) (xs : List ℕ) → small xs ≡ true → small (drop k xs) ≡ true
unfolding small
small-drop zero xs h = h
small-drop (suc k) [] h = refl
small-drop (suc k) (x ∷ xs) h = small-drop k xs (and-true (ltb x 256) (small xs) h).1

-- kept bytes
pub take-length-by : (j : ℕ) (ys : List ℕ) → length (take j ys) ≡ length ys - (length ys - j)
take-length-by zero ys = omega arith
take-length-by (suc j) [] = let e : 0 ≡ 0 - (0 - suc j) = omega arith in e
take-length-by (suc j) (y ∷ ys) = omega (arith, take-length-by j ys)

-- the first n of k bytes, the others zero
pub listed_back : (n k : ℕ) (l : List ℕ) → length l ≡ k - (k - n) → take n (l ++ zeros (k - length l)) ≡ l
listed_back n k l e = go (leb n k) refl
  where
    go : (t : Bool) → leb n k ≡ t → take n (l ++ zeros (k - length l)) ≡ l
    go true g = let h = leb-true n k g in take_at l (zeros (k - length l)) n (omega arith)
    go false g =
        let h = leb-false n k g in
        let z : k - length l ≡ 0 = omega arith in
        rw (z, append-nil l) (take_all n l (omega arith))

pub keep_all : (ys : List ℕ) → keep (length ys) ys ≡ ys
unfolding keep
keep_all ys = rw (take-length ys, sub_self (length ys)) (append-nil ys)

pub length-keep : (j : ℕ) (ys : List ℕ) → length (keep j ys) ≡ length ys
unfolding keep
length-keep j ys = omega (arith, length-append (take j ys) (zeros (length ys - j)), take-length-by j ys, length-replicate {A = ℕ} (length ys - j) 0)

-- names
pub zero-after : (l : List ℕ) (p : ℕ) → nonzero l ≡ true → zero_in (l ++ zeros (suc p)) ≡ length l
unfolding zero_in nonzero
zero-after [] p f = refl
zero-after (x ∷ l) p f =
    let s = and-true (not (eqb x 0)) (nonzero l) f in
    rw (not-true (eqb x 0) s.0) (ap suc (zero-after l p s.1))

pub all-zeros : (a : ℕ) → all_zero (zeros a) ≡ true
unfolding all_zero
all-zeros zero = refl
all-zeros (suc a) = all-zeros a

-- what is written after a name is not stale
pub not-stale : (l : List ℕ) (p : ℕ) → nonzero l ≡ true → stale (l ++ zeros (suc p)) ≡ false
unfolding stale
not-stale l p f =
    ap (λ (k : ℕ). not (all_zero (drop k (l ++ zeros (suc p))))) (zero-after l p f)
    ∙ ap (λ (m : List ℕ). not (all_zero m)) (drop_at l (zeros (suc p)) (length l) refl)
    ∙ ap not (all-zeros (suc p))

pub nonzero-before : (ys : List ℕ) → nonzero (take (zero_in ys) ys) ≡ true
unfolding zero_in nonzero
nonzero-before [] = refl
nonzero-before (y ∷ ys) = go (eqb y 0) refl (nonzero-before ys)
  where
    go : (t : Bool) → eqb y 0 ≡ t → nonzero (take (zero_in ys) ys) ≡ true → nonzero (take (cond (eqb y 0) 0 (suc (zero_in ys))) (y ∷ ys)) ≡ true
    go true e h = rw e
    go false e h = rw (e, e) h
