-- What the tests of bytes say, case by case. Assumes nothing.
use mathlib.Core.Path.{◌≡◌, sym, ap, ◌∙◌}
use mathlib.Core.Bool.{Bool, true, false, ◌&&◌, and-false}
use mathlib.Core.List.{List}
use Prim.Native.Nat.{ℕ, ◌+◌, ◌-◌, ◌*◌, ◌<◌, ◌≤◌}
use native.Mathlib.Omega.{arith}
use lib.Bits.{bit_and}
use lib.Dec.{leb}
use lib.ListN.{length, take, drop}
use borrow.Author.Tests.{le-leb, lt-leb, leb-true}
use Rattle.meaning.specs.Bytes.{bit, ones, number_at, zero_in}
use Rattle.laws.specs.Bytes.{and-true}
use Rattle.compare.specs.Compared.{same_bytes}
use Rattle.same_parts.specs.Parts.{same_span, same_but_four, around_res, name_same, build_same, text_same}

module _ (s t : List ℕ) where
  pub span-back : (i j : ℕ) → j < i → false ≡ same_span s t i j
  unfolding same_span
  span-back i j h = rw (lt-leb i j h)

  pub span-past : (i j : ℕ) → length s < j → false ≡ same_span s t i j
  unfolding same_span
  span-past i j h = rw (lt-leb j (length s) h) (sym (and-false (leb i j)))

  pub span-past-right : (i j : ℕ) → length t < j → false ≡ same_span s t i j
  unfolding same_span
  span-past-right i j h = rw (lt-leb j (length t) h) (sym (and-false (leb i j)) ∙ ap (λ (b : Bool). leb i j && b) (sym (and-false (leb j (length s)))))

  pub span-is : (i j : ℕ) → i ≤ j → j ≤ length s → j ≤ length t → same_bytes (take (j - i) (drop i s)) (take (j - i) (drop i t)) ≡ same_span s t i j
  unfolding same_span
  span-is i j l m n = rw (le-leb i j l, le-leb j (length s) m, le-leb j (length t) n)

  pub span-there : (i j : ℕ) → same_span s t i j ≡ true → (i ≤ j) × (j ≤ length s)
  unfolding same_span
  span-there i j h =
      let p = and-true (leb i j) _ h in
      (leb-true i j p.0, leb-true j (length s) (and-true (leb j (length s)) _ p.1).0)

  pub four-no : (from res : ℕ) → same_span s t from res ≡ false → false ≡ same_but_four s t from res
  unfolding same_but_four
  four-no from res e = rw e

  pub four_is : (from res : ℕ) → same_span s t from res ≡ true → same_span s t (res + 4) (length s) ≡ same_but_four s t from res
  unfolding same_but_four
  four_is from res e = rw e

  pub res-none : (x mask from : ℕ) → bit x 7 ≡ false → same_span s t from (length s) ≡ around_res s t x mask from
  unfolding around_res
  res-none x mask from e = rw e

  pub res-is : (x mask from k : ℕ) → bit x 7 ≡ true → k ≡ ones 64 (bit_and x mask) * 8 + 4 → same_but_four s t from (from + k) ≡ around_res s t x mask from
  unfolding around_res
  res-is x mask from k e f = rw (e, f)

  pub name-none : (begin from : ℕ) → length s < from + zero_in (drop from s) + 1 → false ≡ name_same s t begin from
  unfolding name_same
  name-none begin from h = span-past begin (from + zero_in (drop from s) + 1) h

  pub name-is : (begin from z : ℕ) → z ≡ from + zero_in (drop from s) → same_span s t begin (z + 1) ≡ name_same s t begin from
  unfolding name_same
  name-is begin from z e = rw e

  pub build-no : same_span s t 8 41 ≡ false → false ≡ build_same s t
  unfolding build_same
  build-no e = rw e

  pub build-other : same_span s t 8 41 ≡ true → same_span s t 44 (44 + number_at 1 s 40) ≡ false → false ≡ build_same s t
  unfolding build_same
  build-other e f = rw (e, f)

  pub build-is : same_span s t 8 41 ≡ true → same_span s t 44 (44 + number_at 1 s 40) ≡ true → name_same s t 64 72 ≡ build_same s t
  unfolding build_same
  build-is e f = rw (e, f)

  pub text-none : length s < 20 → false ≡ text_same s t
  unfolding text_same
  text-none h = span-past 8 (20 + (number_at 2 s 16 + number_at 2 s 18)) (omega (arith, h))

  pub text-is : (n : ℕ) → n ≡ number_at 2 s 16 + number_at 2 s 18 → same_span s t 8 (20 + n) ≡ text_same s t
  unfolding text_same
  text-is n e = rw e
