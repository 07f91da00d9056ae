-- Demand 3 for one record, in its own words: "Each record the older edition answers as the newer does, or refuses as unknown to it, and this
-- exactly where the type, or a selected bit or form bit on which that record's reading depends by 01's rules 20 to 23, lies outside what that edition
-- knows." M-102's 25 is one of these rules too. Assumes nothing: these are definitions.
use Rattle.std.specs.Prelude.{◌≡◌, ℕ, ◌^◌, ◌<◌, Bool, true, false, not, ◌&&◌, ◌||◌, List, [], ◌∷◌, leb}
use Rattle.meaning.specs.declared.Attributes.{Attributes}
use Rattle.meaning.specs.declared.Known.{Known}
use Rattle.meaning.specs.Editions.{Thing, depends, is_unknown}
use Rattle.meaning.specs.Records.{kind_of, misc_of}

-- ---- older and newer: a table in which each row knows no more than every later one

-- k knows no more than m
abbrev pub within : Known → Known → Bool
within k m = leb k.kinds m.kinds && (leb k.samples m.samples && (leb k.formats m.formats && ((not k.builds || m.builds) && (not k.index || m.index))))

abbrev pub within_all : Known → List Known → Bool
within_all k [] = true
within_all k (m ∷ ms) = within k m && within_all k ms

abbrev pub rising : List Known → Bool
rising [] = true
rising (k ∷ ks) = within_all k ks && rising ks

-- ---- "any attributes": sample type, read format and branch sample type are words of 64 bits, as they are in the code
pub record Words (a : Attributes) : Type 0 where
  pub sample : a.sample < 2 ^ 64
  pub format : a.format < 2 ^ 64
  pub branch : a.branch < 2 ^ 64

-- ---- on what the reading of a record's bytes depends; no edition is an argument
abbrev pub depends_of : Attributes → List ℕ → List Thing
depends_of a r = depends (kind_of r) (misc_of r) a

-- ---- two answers for one record, and whether something on which its reading depends lies outside what the older edition knows. Refused by 20
-- to 23 or 25 exactly there; everywhere else answered as by the newer edition
pub record Fair (older newer : ℕ) (out : Bool) : Type 0 where
  pub exact : is_unknown older ≡ out
  pub alike : out ≡ false → older ≡ newer
