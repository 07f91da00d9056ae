-- "Refusal numbers, in the order checked": a row says when its number is given; the first row that holds answers.
-- Assumes nothing: these are definitions.
use Rattle.std.specs.Prelude.{ℕ, Bool, cond, List, [], ◌∷◌, eqb}

pub record Refusal : Type 0 where
  pub holds : Bool
  pub number : ℕ

abbrev pub refusal : Bool → ℕ → Refusal
refusal holds number = record { holds = holds; number = number }

-- the number of the first row that holds, else the rest
unfoldable pub first : List Refusal → ℕ → ℕ
first [] rest = rest
first (r ∷ rs) rest = cond r.holds r.number (first rs rest)

-- a refusal that was given stays; 0 is none
abbrev pub or_else : ℕ → ℕ → ℕ
or_else x y = cond (eqb x 0) y x
