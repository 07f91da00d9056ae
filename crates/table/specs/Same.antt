-- The rows of each record type are its layout, for all attributes: by one computation over the whole table. Assumes nothing.
use Rattle.std.specs.Prelude.{◌≡◌, map, ℕ, ◌≤◌}
use Rattle.std.proofs.Math.Seq.{slice}
use Rattle.meaning.specs.declared.Attributes.{Attributes}
use Rattle.meaning.specs.Schema.{schema}
use Rattle.table.specs.declared.Part.{Part}
use Rattle.table.specs.Rows.{rows, field_rows, item_of}

-- what a part of the rows is, as the part of a type
pub record LaidOut (kind : ℕ) (p : Part) : Type 0 where
  pub ordered : p.from ≤ p.to
  pub within : p.to ≤ field_rows
  pub layout_is : (misc : ℕ) (a : Attributes) → map (item_of a misc kind) (slice p.from p.to rows) ≡ schema kind misc a
