-- A bit above what is known, by a shift; what is known past the table. Assumes nothing.
use mathlib.Core.Path.{◌≡◌, refl, sym}
use mathlib.Core.Bool.{Bool, true, false}
use mathlib.Core.List.{List}
use Prim.Native.Nat.{ℕ, ◌-◌, ◌/◌, ◌^◌, ◌<◌}
use native.Mathlib.Nat.{le-div_iff_mul-le, div-eq_of_lt}
use native.Mathlib.Omega.{arith}
use lib.ListN.{length, get_or-eq_default}
use lib.Dec.{leb}
use lib.Pow.{pow_pos}
use borrow.Author.Tests.{le-leb, leb-true, leb-false}
use Rattle.meaning.specs.declared.Known.{Known}
use Rattle.meaning.specs.Editions.{nothing_known, known}

-- a shift that leaves something
pub shifted : (x l : ℕ) → leb 1 (x / 2 ^ l) ≡ leb (2 ^ l) x
shifted x l = by (leb (2 ^ l) x) refl
  where
    by : (b : Bool) → leb (2 ^ l) x ≡ b → leb 1 (x / 2 ^ l) ≡ b
    by true e = le-leb 1 (x / 2 ^ l) ((le-div_iff_mul-le (pow_pos l)).1 (omega (arith, leb-true (2 ^ l) x e)))
    by false e = rw (div-eq_of_lt (leb-false (2 ^ l) x e)) refl

-- past the table nothing is known
pub known_past : (ks : List Known) (e : ℕ) → length ks < e → nothing_known ≡ known ks e
unfolding known
known_past ks e h = sym (get_or-eq_default ks nothing_known {n = e - 1} (omega arith))
