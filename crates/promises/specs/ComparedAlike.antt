-- When two records are the same but for what M-108 does not count: "Positions and ignored bytes don't count; the M-107 flag does". That those compare as
-- equal, and no others, is in proofs/ComparedAlike.
use Rattle.std.specs.Prelude.{◌≡◌, List, ◌⊎◌}
use Prim.Native.Nat.{ℕ}
use Rattle.meaning.specs.Records.{flag_of, cleaned_record}
use Rattle.compare.specs.Fields.{Reads, layout_of}

-- accepted, each under the event that its identifier selects, the same but for the ignored bytes, with the same flag
pub record Cleaned (R : Reads) (xs ys : List ℕ) : Type 0 where
  pub left-accepted : R.judge xs ≡ 0
  pub right-accepted : R.judge ys ≡ 0
  pub bytes-alike : cleaned_record (layout_of R xs) xs ≡ cleaned_record (layout_of R ys) ys
  pub flags-alike : flag_of (layout_of R xs) xs ≡ flag_of (layout_of R ys) ys

-- or the same bytes: "Records refused alike compare by their bytes"
abbrev pub SameButIgnored : Reads → List ℕ → List ℕ → Type 0
SameButIgnored R xs ys = Cleaned R xs ys ⊎ (xs ≡ ys)
