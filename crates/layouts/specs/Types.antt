-- The types that have no fields, as the last arm of a `match` has them, and the trailer by the bits that select it. Assumes nothing.
use Rattle.std.specs.Prelude.{◌≡◌, refl, Bool, true, false, cond, not, ◌&&◌, List, [], ◌∷◌, ℕ, zero, suc, ◌≤◌, eqb, length}
use Rattle.std.proofs.Common.{arith}
use Rattle.std.proofs.Math.ListN.{get_or-eq_default}
use Rattle.meaning.specs.declared.Attributes.{Attributes}
use Rattle.meaning.specs.declared.Item.{Item}
use Rattle.meaning.specs.declared.Shape.TheVariants.{Number, Ignored}
use Rattle.meaning.specs.declared.Width.TheVariants.{W4, W8}
use Rattle.meaning.specs.Bytes.{bit}
use Rattle.meaning.specs.Schema.{item, schema, schemas, trailer}
use Rattle.layouts.specs.Lists as lists

abbrev pub Past : ℕ → ℕ → Type 0
Past zero k = Unit {0}
Past (suc n) k = Past n k × (k ≡ n → ⊥)

pub above : (n k : ℕ) → Past n k → n ≤ k
above zero k h = omega arith
above (suc n) k h = omega (arith, above n k h.0, h.1)

pub no-type : (misc : ℕ) (a : Attributes) (kind : ℕ) → Past (length (schemas misc a)) kind → schema kind misc a ≡ []
no-type misc a kind h = get_or-eq_default (schemas misc a) [] (above (length (schemas misc a)) kind h)

-- the trailer's items under one test
abbrev under : Bool → ℕ → List Item
under t x =
    item (t && bit x 1) (Number W4)
    ∷ item (t && bit x 1) (Number W4)
    ∷ item (t && bit x 2) (Number W8)
    ∷ item (t && bit x 6) (Number W8)
    ∷ item (t && bit x 9) (Number W8)
    ∷ item (t && bit x 7) (Number W4)
    ∷ item (t && bit x 7) (Ignored 4)
    ∷ item (t && bit x 16) (Number W8)
    ∷ []

none-or-all : (t : Bool) (x : ℕ) → lists.trailer (cond t x 0) ≡ under t x
unfolding bit
none-or-all true x = refl
none-or-all false x = refl

pub trailer-is : (kind : ℕ) (a : Attributes) → lists.trailer (cond (a.all && not (eqb kind 9)) a.sample 0) ≡ trailer kind a
trailer-is kind a = none-or-all (a.all && not (eqb kind 9)) a.sample
