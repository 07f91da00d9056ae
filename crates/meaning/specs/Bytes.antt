-- Numbers and lists of bytes: the number that bytes spell, the bytes of a number, a bit, the count of ones, bytes put into a buffer.
-- Assumes nothing: these are definitions.
use Rattle.std.specs.Prelude.{ℕ, zero, suc, ◌+◌, ◌-◌, ◌*◌, ◌/◌, ◌%◌, ◌^◌, Bool, true, cond, not, ◌&&◌, List, [], ◌∷◌, ◌++◌, length, take, drop, replicate, leb, eqb, ltb}

-- "All numbers are little-endian": the number that all bytes of a list spell, the lowest first
unfoldable pub num : List ℕ → ℕ
num [] = 0
num (x ∷ xs) = x + 256 * num xs

-- the number of k bytes that stands at a place; a byte past the end counts as 0
abbrev pub number_at : ℕ → List ℕ → ℕ → ℕ
number_at k xs at = num (take k (drop at xs))

-- the k bytes that spell v
unfoldable pub spell : ℕ → ℕ → List ℕ
spell zero v = []
spell (suc k) v = v % 256 ∷ spell k (v / 256)

-- is bit b of x set?
unfoldable pub bit : ℕ → ℕ → Bool
bit x b = eqb (x / 2 ^ b % 2) 1

-- how many of the k lowest bits of x are ones
unfoldable pub ones : ℕ → ℕ → ℕ
ones zero x = 0
ones (suc k) x = x % 2 + ones k (x / 2)

abbrev pub zeros : ℕ → List ℕ
zeros k = replicate k 0

-- the place of the first zero byte, or the length
unfoldable pub zero_in : List ℕ → ℕ
zero_in [] = 0
zero_in (x ∷ xs) = cond (eqb x 0) 0 (suc (zero_in xs))

-- are all of them bytes? is none of them zero? are all of them zero?
unfoldable pub small : List ℕ → Bool
small [] = true
small (x ∷ xs) = ltb x 256 && small xs

unfoldable pub nonzero : List ℕ → Bool
nonzero [] = true
nonzero (x ∷ xs) = not (eqb x 0) && nonzero xs

unfoldable pub all_zero : List ℕ → Bool
all_zero [] = true
all_zero (x ∷ xs) = eqb x 0 && all_zero xs

-- a name's room: is a byte after its zero not zero?
unfoldable pub stale : List ℕ → Bool
stale ys = not (all_zero (drop (zero_in ys) ys))

-- the first j bytes as they are, the others as zero
unfoldable pub keep : ℕ → List ℕ → List ℕ
keep j ys = take j ys ++ zeros (length ys - j)

-- a buffer with bytes put into it from a place on, the rest unchanged; the buffer itself where they do not fit
unfoldable pub put : List ℕ → ℕ → List ℕ → List ℕ
put d at s = cond (leb (at + length s) (length d)) (take at d ++ s ++ drop (at + length s) d) d
