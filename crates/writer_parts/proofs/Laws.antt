-- The parts of a type. Assumes nothing.
use mathlib.Core.Path.{refl}
use Prim.Native.Nat.{ℕ}
use native.Mathlib.Omega.{arith}
use Rattle.meaning.specs.declared.Attributes.{Attributes}
use Rattle.meaning.specs.Schema.{schema, trailer}
use Rattle.table.specs.Rows.{all_rows, field_rows}
use Rattle.table.specs.declared.Part.{Part}
use Rattle.table.specs.Same.{LaidOut}
use Rattle.table.proofs.Same.{trailer-rows}
use Rattle.writer_parts.specs.Parts.{items_from, Lays}

pub body-lays : (a : Attributes) (kind misc : ℕ) (q : Part) → LaidOut kind q
    → Lays (record { attributes = a; kind = kind; misc = misc; from = q.from; to = q.to }) a kind (schema kind misc a)
unfolding items_from
body-lays a kind misc q h = let w = h.within in record { attributes = refl; kind = refl; ordered = h.ordered; within = omega (arith, w); items = h.layout_is misc a }

pub trail-lays : (a : Attributes) (kind misc : ℕ) → Lays (record { attributes = a; kind = kind; misc = misc; from = field_rows; to = all_rows }) a kind (trailer kind a)
unfolding items_from
trail-lays a kind misc = record { attributes = refl; kind = refl; ordered = omega arith; within = omega arith; items = trailer-rows misc kind a }
