-- A number of bytes by its halves, and its bound: over the width and the place; a header's numbers by their names; a lent slice's bytes are bytes. Assumes nothing.
use Rattle.std.specs.Prelude.{◌≡◌, refl, true, List, [], ◌∷◌, ℕ, zero, suc, ◌+◌, ◌*◌, ◌^◌, ◌<◌, get_or, take, drop, ltb}
use Rattle.std.proofs.Common.{sym, ap, ◌∙◌, subst, zero-add, suc-add, mul_assoc, arith, Fits, get_or-drop, drop-drop, lt-ltb}
use Rattle.std.proofs.Math.Nat.{pow-succ'}
use Rattle.std.specs.Int.{w8}
use Rattle.std.proofs.Math.Seq.{take-nil}
use Rattle.meaning.specs.Bytes.{num, number_at, small}
use Rattle.meaning.specs.Records.{kind_of, misc_of, size_of}
use Rattle.laws.specs.Bytes.{true-and}

-- a wider number is its lower part and its upper part
pub num-split : (a b : ℕ) (l : List ℕ) → num (take (a + b) l) ≡ num (take a l) + 256 ^ a * num (take b (drop a l))
unfolding num
num-split zero b l = ap (λ (k : ℕ). num (take k l)) (zero-add b) ∙ omega arith
num-split (suc a) b [] = ap (λ (k : ℕ). num (take k [])) (suc-add a b) ∙ omega (arith, ap (λ (l : List ℕ). 256 ^ suc a * num l) (take-nil {A = ℕ} b))
num-split (suc a) b (x ∷ xs) =
    ap (λ (k : ℕ). num (take k (x ∷ xs))) (suc-add a b)
    ∙ ap (λ (k : ℕ). x + 256 * k) (num-split a b xs)
    ∙ omega (arith, ap (λ (k : ℕ). k * num (take b (drop a xs))) (pow-succ' 256 a), mul_assoc 256 (256 ^ a) (num (take b (drop a xs))))

-- a number of 2a bytes from its two halves: what each width's reader cites
pub halves : (a : ℕ) (l : List ℕ) (at : ℕ) → number_at a l at + 256 ^ a * number_at a l (at + a) ≡ number_at (a + a) l at
halves a l at =
    ap (λ (m : List ℕ). number_at a l at + 256 ^ a * num (take a m)) (sym (drop-drop a at l)) ∙ sym (num-split a a (drop at l))

pub num-bound : (k : ℕ) (l : List ℕ) → ((i : ℕ) → Fits w8 (get_or l i 0)) → num (take k l) < 256 ^ k
unfolding num
num-bound zero l h = omega arith
num-bound (suc k) [] h = let r : num (take k []) < 256 ^ k = num-bound k [] h in omega (arith, pow-succ' 256 k)
num-bound (suc k) (x ∷ xs) h =
    let r : num (take k xs) < 256 ^ k = num-bound k xs (λ i. h (suc i)) in
    omega (arith, (h 0).fits, pow-succ' 256 k)

-- a number of k bytes is below 256 ^ k
pub number_bound : (k : ℕ) (l : List ℕ) (at : ℕ) → ((i : ℕ) → Fits w8 (get_or l i 0)) → number_at k l at < 256 ^ k
number_bound k l at h = num-bound k (drop at l) (λ i. subst (λ (n : ℕ). Fits w8 n) (sym (get_or-drop at l i 0)) (h (at + i)))

-- the numbers of a header
pub kind-is : (xs : List ℕ) → number_at 4 xs 0 ≡ kind_of xs
unfolding kind_of
kind-is xs = refl

pub misc-is : (xs : List ℕ) → number_at 2 xs 4 ≡ misc_of xs
unfolding misc_of
misc-is xs = refl

pub size_is : (xs : List ℕ) → number_at 2 xs 6 ≡ size_of xs
unfolding size_of
size_is xs = refl

-- what is lent as bytes is bytes
pub small_of : (xs : List ℕ) → ((i : ℕ) → Fits w8 (get_or xs i 0)) → small xs ≡ true
unfolding small
small_of [] h = refl
small_of (x ∷ xs) h = true-and (ltb x 256) (small xs) (lt-ltb x 256 (h 0).fits) (small_of xs (λ i. h (suc i)))
