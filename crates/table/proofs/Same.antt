-- The rows of each record type are its layout, for all attributes: by one computation over the whole table. Assumes nothing.
use Rattle.std.specs.Prelude.{◌≡◌, refl, Bool, true, ◌&&◌, List, [], ◌∷◌, map, ℕ, zero, suc, ◌+◌, ◌-◌, ◌<◌, ◌≤◌, length, get_or, leb}
use Rattle.std.proofs.Common.{sym, ap, ◌∙◌, arith, leb-true}
use Rattle.std.proofs.Math.ListN.{get_or-eq_default}
use Rattle.std.proofs.Math.Seq.{slice}
use Rattle.meaning.specs.declared.Attributes.{Attributes}
use Rattle.meaning.specs.declared.Item.{Item}
use Rattle.meaning.specs.Schema.{schemas, trailer}
use Rattle.laws.specs.Bytes.{and-true}
use Rattle.table.specs.declared.Part.{Part}
use Rattle.table.specs.Rows.{rows, field_rows, all_rows, types, ends, item_of, cut}
use Rattle.table.specs.Same.{LaidOut}

-- all types at once; the type that a row is read for does not matter to the fields
all-layouts : (misc kind : ℕ) (a : Attributes) → cut (item_of a misc kind) 0 ends ≡ schemas misc a
all-layouts misc kind a = refl

pub trailer-rows : (misc kind : ℕ) (a : Attributes) → map (item_of a misc kind) (slice field_rows all_rows rows) ≡ trailer kind a
trailer-rows misc kind a = refl

-- ---- what the table repeats is what the schema says

-- the running sums of the layouts' lengths
abbrev sums : ℕ → List (List Item) → List ℕ
sums from [] = []
sums from (is ∷ iss) = (from + length is) ∷ sums (from + length is) iss

pub ends-are : (misc : ℕ) (a : Attributes) → sums 0 (schemas misc a) ≡ ends
ends-are misc a = refl

pub counts-are : (misc kind : ℕ) (a : Attributes)
    → (length (schemas misc a) ≡ types) × (get_or ends (types - 1) 0 ≡ field_rows) × (field_rows + length (trailer kind a) ≡ all_rows) × (length rows ≡ all_rows)
counts-are misc kind a = (refl, refl, refl, refl)

-- a part of the cut rows
cut_at : (f : ℕ → Item) (from : ℕ) (tos : List ℕ) (k : ℕ) → k < length tos
    → get_or (cut f from tos) k [] ≡ map f (slice (get_or (from ∷ tos) k 0) (get_or tos k 0) rows)
cut_at f from [] k h = absurd (omega arith)
cut_at f from (to ∷ tos) zero h = refl
cut_at f from (to ∷ tos) (suc k) h = cut_at f to tos k (omega arith)

-- the ends rise, up to the fields' last row
abbrev rises : ℕ → List ℕ → Bool
rises from [] = true
rises from (to ∷ tos) = leb from to && (leb to field_rows && rises to tos)

rises-at : (from : ℕ) (tos : List ℕ) → rises from tos ≡ true → (k : ℕ) → k < length tos
    → (get_or (from ∷ tos) k 0 ≤ get_or tos k 0) × (get_or tos k 0 ≤ field_rows)
rises-at from [] r k h = absurd (omega arith)
rises-at from (to ∷ tos) r zero h =
    let s = and-true (leb from to) (leb to field_rows && rises to tos) r in
    (leb-true from to s.0, leb-true to field_rows (and-true (leb to field_rows) (rises to tos) s.1).0)
rises-at from (to ∷ tos) r (suc k) h =
    rises-at to tos (and-true (leb to field_rows) (rises to tos) (and-true (leb from to) (leb to field_rows && rises to tos) r).1).1 k (omega arith)

pub part-holds : (kind : ℕ) (p : Part) → kind < types → p.from ≡ get_or (0 ∷ ends) kind 0 → p.to ≡ get_or ends kind 0 → LaidOut kind p
part-holds kind p h e f =
    let b = rises-at 0 ends refl kind h in record {
      ordered = rw (e, f) b.0;
      within = rw f b.1;
      layout_is = λ misc a. rw (e, f)
          (sym (cut_at (item_of a misc kind) 0 ends kind h) ∙ ap (λ (l : List (List Item)). get_or l kind []) (all-layouts misc kind a));
    }

-- a type past the table has no rows
pub none-holds : (kind : ℕ) (p : Part) → types ≤ kind → p.from ≡ 0 → p.to ≡ 0 → LaidOut kind p
none-holds kind p h e f = record {
  ordered = omega arith;
  within = omega arith;
  layout_is = λ misc a. rw (e, f) (sym (get_or-eq_default (schemas misc a) [] h));
}
