-- Worked cases of what a reading depends on, in one list, and one computed proof over it. Assumes nothing.
use Rattle.std.specs.Prelude.{◌≡◌, refl, ℕ, ◌+◌, ◌^◌, Bool, true, false, List, [], ◌∷◌, ◌++◌}
use Rattle.meaning.specs.declared.Attributes.{Attributes}
use Rattle.meaning.specs.Bytes.{bit}
use Rattle.meaning.specs.Refusals.{first}
use Rattle.meaning.specs.Editions.{edition, editions, known, outside, bits, depends, unreadable}
use Rattle.editions.specs.Fairness.{rising}

pub record Case : Type 0 where
  pub edition : ℕ
  pub kind : ℕ
  pub misc : ℕ
  pub attributes : Attributes
  -- 20 to 25 or 0; and whether something is outside
  pub says : ℕ
  pub out : Bool

abbrev attributes : ℕ → ℕ → Bool → Attributes
attributes sample format all = record { sample = sample; format = format; all = all; user = 0; interrupt = 0; branch = 0 }

-- with branches, and a branch sample type
abbrev branching : ℕ → Attributes
branching x = record { sample = 2 ^ 11; format = 0; all = false; user = 0; interrupt = 0; branch = x }

abbrev case : ℕ → ℕ → ℕ → Attributes → ℕ → Bool → Case
case e t misc a n out = record { edition = e; kind = t; misc = misc; attributes = a; says = n; out = out }

abbrev pub cases : List Case
cases =
    -- P6: a switch; and type 0
    case 1 14 8192 (attributes 0 0 false) 20 true
    ∷ case 2 14 8192 (attributes 0 0 false) 0 false
    ∷ case 3 0 0 (attributes 0 0 false) 20 true
    -- sample bits: of a SAMPLE (P11), of a record with a trailer, of one without
    ∷ case 3 9 0 (attributes (2 ^ 25) 0 false) 21 true
    ∷ case 1 3 0 (attributes (2 ^ 16) 0 true) 21 true
    ∷ case 1 3 0 (attributes (2 ^ 16) 0 false) 0 false
    ∷ case 1 9 0 (attributes (2 ^ 15) 0 false) 0 false
    -- read-format bits: of READ, of a SAMPLE with read values, of one without
    ∷ case 3 8 0 (attributes 0 16 false) 22 true
    ∷ case 3 9 0 (attributes 16 16 false) 22 true
    ∷ case 3 9 0 (attributes 0 16 false) 0 false
    ∷ case 4 8 0 (attributes 0 16 false) 0 false
    ∷ case 4 9 0 (attributes 16 16 false) 0 false
    ∷ case 4 8 0 (attributes 0 32 false) 22 true
    -- type 21 is edition 4's
    ∷ case 3 21 0 (attributes 0 0 false) 20 true
    ∷ case 4 21 0 (attributes 0 0 false) 0 false
    ∷ case 4 22 0 (attributes 0 0 false) 20 true
    -- the build-id form (P12)
    ∷ case 2 10 16384 (attributes 0 0 false) 23 true
    ∷ case 3 10 16384 (attributes 0 0 false) 0 false
    -- 24 is no edition's
    ∷ case 3 9 0 (attributes (2 ^ 14 + 2 ^ 24) 0 false) 24 false
    ∷ case 2 9 0 (attributes (2 ^ 14 + 2 ^ 24) 0 false) 21 true
    -- branch bits: 17 from edition 3 on, 18 in all, 19 in none; and only of a SAMPLE with branches
    ∷ case 2 9 0 (branching (2 ^ 17)) 25 true
    ∷ case 3 9 0 (branching (2 ^ 17)) 0 false
    ∷ case 1 9 0 (branching (2 ^ 18 + 65535)) 0 false
    ∷ case 3 9 0 (branching (2 ^ 19)) 25 true
    ∷ case 3 9 0 (branching (2 ^ 63)) 25 true
    ∷ case 1 3 0 (branching (2 ^ 17 + 2 ^ 19)) 0 false
    ∷ []

pub record Found : Type 0 where
  pub says : ℕ
  pub out : Bool

abbrev pub found : List Case → List Found
found [] = []
found (c ∷ cs) =
    record {
      says = unreadable (known editions c.edition) c.attributes c.kind c.misc;
      out = outside (known editions c.edition) (depends c.kind c.misc c.attributes);
    }
    ∷ found cs

abbrev pub wanted : List Case → List Found
wanted [] = []
wanted (c ∷ cs) = record { says = c.says; out = c.out } ∷ wanted cs

-- kept: a definition that answers one of the cases otherwise is refused here
pub as_wanted : found cases ≡ wanted cases
unfolding unreadable first known bit outside depends bits
as_wanted = refl

-- the way on: a fifth row that knows as much as the fourth rises too. kept: the laws of editions hold of any rows that rise
pub five-rise : rising (editions ++ (edition 21 25 5 true true ∷ [])) ≡ true
five-rise = refl
