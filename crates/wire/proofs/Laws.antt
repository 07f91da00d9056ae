-- The laws of `number_at`, `bit` and `ones`, over the place, the bit's index and the list. Assumes nothing.
use mathlib.Core.Path.{◌≡◌, refl, ap}
use mathlib.Core.List.{List, [], ◌∷◌}
use Prim.Native.Nat.{ℕ, zero, suc, ◌/◌, ◌^◌, ◌<◌}
use native.Mathlib.Nat.{pow-succ'}
use native.Mathlib.Omega.{arith}
use lib.Dec.{eqb}
use lib.Bits.{bit_and, and_mask}
use lib.Count.{ones_step, ones-le}
use lib.Count
use lib.ListN.{get_or}
use Rattle.meaning.specs.Bytes.{num, number_at, bit, ones}
use Rattle.laws.specs.Numbers.{num-split}
use Rattle.std.specs.Int.{sum_through, byte_worth}
use Rattle.std.proofs.Common.{slice_index, take-take, take, drop, sym, ◌∙◌, add-one, ◌+◌, ◌*◌}
use Rattle.std.proofs.Math.Nat.{mul_comm}

-- ---- numbers
-- a number of one byte is the byte
pub number-one : (l : List ℕ) (at : ℕ) → number_at 1 l at ≡ get_or l at 0
unfolding num
number-one [] zero = refl
number-one [] (suc at) = refl
number-one (x ∷ xs) zero = omega arith
number-one (x ∷ xs) (suc at) = number-one xs at

-- the bytes of a list, each by its worth, up to the one at k
worths : (xs : List ℕ) (k : ℕ) → sum_through (λ i. byte_worth i (slice_index xs i)) k ≡ num (take (suc k) xs)
unfolding num
worths xs zero = sym (number-one xs 0)
worths xs (suc k) =
    let n : num (take (suc k + 1) xs) ≡ num (take (suc k) xs) + 256 ^ suc k * num (take 1 (drop (suc k) xs)) = num-split (suc k) 1 xs in
    let w : num (take 1 (drop (suc k) xs)) ≡ slice_index xs (suc k) = number-one xs (suc k) in
    let m : slice_index xs (suc k) * 256 ^ suc k ≡ 256 ^ suc k * slice_index xs (suc k) = mul_comm (slice_index xs (suc k)) (256 ^ suc k) in
    (λ j. worths xs k j + m j)
    ∙ ap (λ (b : ℕ). num (take (suc k) xs) + 256 ^ suc k * b) (sym w)
    ∙ sym n
    ∙ ap (λ (i : ℕ). num (take i xs)) (add-one (suc k))

-- the number that the machine makes of as many bytes as its width has, taken from a list
pub number-of : (k : ℕ) (s : List ℕ) (at : ℕ) (xs : List ℕ) → xs ≡ take (suc k) (drop at s) → sum_through (λ i. byte_worth i (slice_index xs i)) k ≡ number_at (suc k) s at
number-of k s at xs e = worths xs k ∙ ap (λ (l : List ℕ). num (take (suc k) l)) e ∙ ap num (take-take (suc k) (suc k) (drop at s) (omega arith))

-- ---- bits
-- a shift and a mask take the bit, whatever its index
pub bit_is : (x b : ℕ) → eqb (bit_and (x / 2 ^ b) 1) 1 ≡ bit x b
unfolding bit
bit_is x b = ap (λ (n : ℕ). eqb n 1) (and_mask (x / 2 ^ b) 1)

-- the machine's count is the definition's, of a number of k bits
pub ones_is : (k x : ℕ) → x < 2 ^ k → Count.ones x ≡ ones k x
unfolding ones
ones_is zero x h = omega (arith, ones-le 0 x h)
ones_is (suc k) x h =
    let r : Count.ones (x / 2) ≡ ones k (x / 2) = ones_is k (x / 2) (omega (arith, pow-succ' 2 k)) in
    omega (arith, ones_step x)
