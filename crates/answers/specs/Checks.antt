-- Record check, test by test: 2, 7, 6, 7, then the judge. Assumes nothing.
use Rattle.std.specs.Prelude.{◌≡◌, true, false, ◌&&◌, List, ℕ, ◌%◌, ◌<◌, ◌≤◌, length, leb, eqb}
use Rattle.std.proofs.Math.Path.{sym}
use borrow.Author.Tests.{le-leb, lt-leb}
use Rattle.meaning.specs.declared.Attributes.{Attributes}
use Rattle.meaning.specs.declared.Known.{Known}
use Rattle.meaning.specs.Editions.{known, allowed}
use Rattle.meaning.specs.Records.{layout, judge, checked_by, check_by, check, size_of}

-- the tests that ask no edition, whatever answers then
module _ (answer : List ℕ → ℕ) (xs : List ℕ) where
  pub asked-short : length xs < 8 → 7 ≡ checked_by answer xs
  asked-short h = rw (lt-leb 8 (length xs) h)

  module _ (l : 8 ≤ length xs) (size : ℕ) (z : size ≡ size_of xs) where
    pub asked-odd : (leb 8 size && eqb (size % 8) 0) ≡ false → 6 ≡ checked_by answer xs
    asked-odd h = rw (le-leb 8 (length xs) l, sym z, h)

    module _ (v : (leb 8 size && eqb (size % 8) 0) ≡ true) where
      pub asked-other : eqb size (length xs) ≡ false → 7 ≡ checked_by answer xs
      asked-other h = rw (le-leb 8 (length xs) l, sym z, v, h)

      pub asked-whole : eqb size (length xs) ≡ true → answer xs ≡ checked_by answer xs
      asked-whole h = rw (le-leb 8 (length xs) l, sym z, v, h)

-- what was asked of a record under an edition that is allowed is record check's answer
pub asked-check : (ks : List Known) (e : ℕ) (a : Attributes) (xs : List ℕ) → allowed ks e ≡ true → checked_by (judge (layout (known ks e) a)) xs ≡ check ks e a xs
unfolding check check_by
asked-check ks e a xs g = rw g

module _ (ks : List Known) (e : ℕ) (a : Attributes) (xs : List ℕ) where
  pub check-edition : allowed ks e ≡ false → 2 ≡ check ks e a xs
  unfolding check
  check-edition h = rw h

  module _ (g : allowed ks e ≡ true) where
    pub check-short : length xs < 8 → 7 ≡ check ks e a xs
    unfolding check check_by
    check-short h = rw (g, lt-leb 8 (length xs) h)

    module _ (l : 8 ≤ length xs) (size : ℕ) (z : size ≡ size_of xs) where
      pub check-odd : (leb 8 size && eqb (size % 8) 0) ≡ false → 6 ≡ check ks e a xs
      unfolding check check_by
      check-odd h = rw (g, le-leb 8 (length xs) l, sym z, h)

      module _ (v : (leb 8 size && eqb (size % 8) 0) ≡ true) where
        pub check-other : eqb size (length xs) ≡ false → 7 ≡ check ks e a xs
        unfolding check check_by
        check-other h = rw (g, le-leb 8 (length xs) l, sym z, v, h)

        pub check-whole : eqb size (length xs) ≡ true → judge (layout (known ks e) a) xs ≡ check ks e a xs
        unfolding check check_by
        check-whole h = rw (g, le-leb 8 (length xs) l, sym z, v, h)
