-- Fields of two records that differ. Assumes nothing.
use mathlib.Core.Path.{◌≡◌, refl, sym, ap, ap₂, ◌∙◌}
use mathlib.Core.List.{List, [], ◌∷◌}
use mathlib.Core.Bool.{Bool, true, false, cond, not, ◌&&◌}
use Prim.Native.Nat.{ℕ, suc, ◌+◌, ◌≤◌}
use native.Mathlib.Omega.{arith}
use lib.ListN.{length, take, drop, length-drop}
use lib.Seq.{length-take-le}
use lib.Dec.{eqb}
use borrow.Author.Tests.{eq-eqb, ne_eqb}
use Rattle.std.proofs.lemmas.Bool.{not-true, not-false}
use Rattle.meaning.specs.Items.{con}
use Rattle.compare.specs.Compared.{same_bytes, same, alike}
use Rattle.std.specs.Prelude.{Option, Some, None}
use Rattle.std.specs.Option.{is_some}
use Rattle.extents.specs.declared.Stretch.{Stretch}
use Rattle.extents.specs.declared.Told.{Told}
use Rattle.extents.specs.Extent.{Extent, stretched, stretch_in, extent_of, field_in}

-- parts of unlike length are not the same
unlike : (xs ys : List ℕ) → (length xs ≡ length ys → ⊥) → same_bytes xs ys ≡ false
unfolding same_bytes
unlike [] [] n = absurd (n refl)
unlike [] (y ∷ ys) n = refl
unlike (x ∷ xs) [] n = refl
unlike (x ∷ xs) (y ∷ ys) n = by (eqb x y) (unlike xs ys (λ e. n (ap suc e)))
  where
    by : (b : Bool) → same_bytes xs ys ≡ false → b && same_bytes xs ys ≡ false
    by true h = h
    by false h = refl

part-long : (s : List ℕ) (at len : ℕ) → at + len ≤ length s → length (take len (drop at s)) ≡ len
part-long s at len h = let d = length-drop at s in length-take-le len (drop at s) (omega (arith, h, d))

module _ (s t : List ℕ) (e g : Extent) where
  pub none_left : e.has ≡ false → not g.has ≡ alike (field_in s e) (field_in t g)
  unfolding field_in alike
  none_left a = by g.has refl
    where
      by : (b : Bool) → g.has ≡ b → not b ≡ alike (cond e.has (con e.num (take e.len (drop e.at s)) ∷ []) []) (cond b (con g.num (take g.len (drop g.at t)) ∷ []) [])
      by true b = rw a
      by false b = rw a

  pub none_right : e.has ≡ true → g.has ≡ false → false ≡ alike (field_in s e) (field_in t g)
  unfolding field_in alike
  none_right a b = rw (a, b)

  pub other-number : e.has ≡ true → g.has ≡ true → (e.num ≡ g.num → ⊥) → false ≡ alike (field_in s e) (field_in t g)
  unfolding field_in alike same
  other-number a b n = rw (a, b, ne_eqb e.num g.num n)

  pub other_length : e.has ≡ true → g.has ≡ true → e.num ≡ g.num → e.at + e.len ≤ length s → g.at + g.len ≤ length t → (e.len ≡ g.len → ⊥) → false ≡ alike (field_in s e) (field_in t g)
  unfolding field_in alike same
  other_length a b n p q l =
      let u = unlike (take e.len (drop e.at s)) (take g.len (drop g.at t)) (λ z. l (sym (part-long s e.at e.len p) ∙ z ∙ part-long t g.at g.len q)) in
      rw (a, b, eq-eqb e.num g.num n, u)

  pub by_bytes : (r : Bool) → e.has ≡ true → g.has ≡ true → e.num ≡ g.num → e.len ≡ g.len → r ≡ same_bytes (take e.len (drop e.at s)) (take e.len (drop g.at t))
      → r ≡ alike (field_in s e) (field_in t g)
  unfolding field_in alike same
  by_bytes r a b n l h =
      h ∙ ap (λ (k : ℕ). same_bytes (take e.len (drop e.at s)) (take k (drop g.at t))) l
      ∙ rw (a, b, eq-eqb e.num g.num n) (sym (one-true (same_bytes (take e.len (drop e.at s)) (take g.len (drop g.at t)))))
    where
      one-true : (b : Bool) → b && true ≡ b
      one-true true = refl
      one-true false = refl

-- what two items tell: the fields that both have, or that one has, or none
module _ (s t : List ℕ) (e g : Told) where
  alike_at : Option Stretch → Option Stretch → Bool
  alike_at o p = alike (field_in s (stretched o e.number)) (field_in t (stretched p g.number))

  pub both_some : (l r : Stretch) → e.field ≡ Some l → g.field ≡ Some r → alike (field_in s (stretch_in l)) (field_in t (stretch_in r)) ≡ alike (field_in s (extent_of e)) (field_in t (extent_of g))
  unfolding alike_at field_in
  both_some l r p q = sym (ap₂ alike_at p q)

  pub left_alone : (l : Stretch) → e.field ≡ Some l → g.field ≡ None → false ≡ alike (field_in s (extent_of e)) (field_in t (extent_of g))
  unfolding alike_at field_in alike
  left_alone l p q = sym (ap₂ alike_at p q)

  pub right_by : (r : Bool) → e.field ≡ None → is_some g.field ≡ not r → r ≡ alike (field_in s (extent_of e)) (field_in t (extent_of g))
  unfolding alike_at field_in alike
  right_by r p q = by g.field q ∙ sym (ap (λ (o : Option Stretch). alike_at o g.field) p)
    where
      by : (o : Option Stretch) → is_some o ≡ not r → r ≡ alike_at None o
      by None h = not-false r (sym h)
      by (Some k) h = not-true r (sym h)
