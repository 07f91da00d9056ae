-- Laws of refusals one after the other, and of tests. Assumes nothing.
use Rattle.std.specs.Prelude.{◌≡◌, refl, Bool, true, false, cond, ◌&&◌, ◌||◌, List, [], ◌∷◌, ◌++◌, ℕ, ◌<◌}
use Rattle.std.proofs.Common.{sym, ap, arith, ne_eqb}
use Rattle.laws.specs.Bytes.{apart}
use Rattle.meaning.specs.Refusals.{Refusal, first, or_else}

-- rows with no number 0: the answer of the rows, else the rest
abbrev pub Positive : List Refusal → Type 0
Positive [] = Unit {0}
Positive (r ∷ rs) = (0 < r.number) × Positive rs

pub first-or : (rs : List Refusal) (rest : ℕ) → Positive rs → first rs rest ≡ or_else (first rs 0) rest
unfolding first
first-or [] rest p = refl
first-or (r ∷ rs) rest p = by r.holds (first-or rs rest p.1)
  where
    by : (b : Bool) → first rs rest ≡ or_else (first rs 0) rest → cond b r.number (first rs rest) ≡ or_else (cond b r.number (first rs 0)) rest
    by true e = sym (ap (λ (q : Bool). cond q rest r.number) (ne_eqb r.number 0 (λ z. omega (arith, p.0))))
    by false e = e

-- two lists of rows are one
pub first-app : (rs qs : List Refusal) (rest : ℕ) → first rs (first qs rest) ≡ first (rs ++ qs) rest
unfolding first
first-app [] qs rest = refl
first-app (r ∷ rs) qs rest = ap (cond r.holds r.number) (first-app rs qs rest)

-- ---- tests
pub or_left : (a b : Bool) → a ≡ true → (a || b) ≡ true
or_left a b e = rw e

-- of two that hold by turns, the first does not
pub or-first : (a b : Bool) → (a || b) ≡ true → a ≡ false → b ≡ true
or-first true b h e = absurd (apart (sym e))
or-first false b h e = h

pub and_no : (a b : Bool) → b ≡ false → a && b ≡ false
and_no true b e = e
and_no false b e = refl
