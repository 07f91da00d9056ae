-- The rows of a type's fields, as a walk that lends them has them. Assumes nothing.
use Rattle.std.proofs.Common.{◌≡◌, ap, ◌∙◌}
use Rattle.std.specs.Prelude.{ℕ, ◌-◌, List, map, take, drop}
use Rattle.std.proofs.lemmas.Slice.{between_is}
use Rattle.meaning.specs.declared.Attributes.{Attributes}
use Rattle.meaning.specs.Schema.{schema}
use Rattle.table.specs.Rows.{rows, item_of}
use Rattle.table.specs.Same.{LaidOut}
use Rattle.table.specs.declared.Part.{Part}

-- the rows of a type's fields, as those lent
pub laid-out : (kind misc : ℕ) (a : Attributes) (p : Part) → LaidOut kind p → (all : List ℕ) → all ≡ rows
    → map (item_of a misc kind) (take (p.to - p.from) (drop p.from all)) ≡ schema kind misc a
laid-out kind misc a p l all e =
    ap (λ (xs : List ℕ). map (item_of a misc kind) (take (p.to - p.from) (drop p.from xs))) e
    ∙ ap (map (item_of a misc kind)) (between_is rows p.from p.to)
    ∙ l.layout_is misc a
