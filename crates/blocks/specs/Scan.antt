-- A zero among so many bytes; the rule of a name's room. Assumes nothing: these are definitions.
use Rattle.std.specs.Prelude.{ℕ, zero, suc, ◌+◌, Bool, false, ◌&&◌, ◌||◌, List, length, get_or, drop, leb, ltb, eqb}
use Rattle.meaning.specs.Bytes.{zero_in}

-- is one of the k bytes from a place on zero?
unfoldable pub has_zero : ℕ → List ℕ → ℕ → Bool
has_zero zero xs at = false
has_zero (suc k) xs at = eqb (get_or xs at 0) 0 || has_zero k xs (at + 1)

-- the first zero from a place on is among the last 8 bytes
unfoldable pub name_ok : List ℕ → ℕ → Bool
name_ok xs at = ltb (at + zero_in (drop at xs)) (length xs) && leb (length xs) (at + zero_in (drop at xs) + 8)
