-- The items of a part of the table with the words that tell them, and what the loops over them find. Not what must be believed: `Turns` ties the
-- loop that tests to `fit`. Assumes nothing: these are definitions.
use Rattle.std.specs.Prelude.{ℕ, ◌≤◌, ◌≡◌, Bool, cond, List, [], ◌∷◌, map, drop, get_or}
use Rattle.std.proofs.Math.Seq.{slice}
use Rattle.meaning.specs.declared.Attributes.{Attributes}
use Rattle.meaning.specs.States.{Cursor}
use Rattle.meaning.specs.declared.Item.{Item}
use Rattle.meaning.specs.Writing.{next, write}
use Rattle.meaning.specs.Values.{Slot, held, any_beyond, means, slots_told}
use Rattle.table.specs.Rows.{rows, item_of, all_rows}
use Rattle.meaning.specs.declared.Spot.{Spot}
use Rattle.writer_items.specs.Tries.{unfit, good}
use Rattle.writer_parts.specs.declared.TypePart.{TypePart}

unfoldable pub try_items : List ℕ → List Item → List Slot → Cursor → Cursor
try_items src [] ss c = c
try_items src (i ∷ is) [] c = c
try_items src (i ∷ is) (s ∷ ss) c = cond (good src i s c) (try_items src is ss (next i (held src i s) c)) unfit

-- the item of row k, the items of a part from row k on, and the slots that the words tell of them
unfoldable pub item_here : TypePart → ℕ → Item
item_here p k = item_of p.attributes p.misc p.kind (get_or rows k 0)

unfoldable pub items_from : TypePart → ℕ → List Item
items_from p k = map (item_of p.attributes p.misc p.kind) (slice k p.to rows)

unfoldable pub slots_from : List Item → Spot → List ℕ → List Slot
slots_from is t ws = slots_told is (drop t.at ws) t.n t.old

-- of a whole part: its items and their slots; 41 of any of them; the state after all; their bytes
abbrev pub part_items : TypePart → List Item
part_items p = items_from p p.from

abbrev pub part_slots : List ℕ → TypePart → Spot → List Slot
part_slots ws p t = slots_from (part_items p) t ws

abbrev pub beyond_part : List ℕ → List ℕ → TypePart → Spot → Bool
beyond_part src ws p t = any_beyond src (part_items p) (part_slots ws p t)

abbrev pub tried_part : List ℕ → List ℕ → TypePart → Spot → Cursor → Cursor
tried_part src ws p t c = try_items src (part_items p) (part_slots ws p t) c

abbrev pub written_part : List ℕ → List ℕ → TypePart → Spot → Cursor → List ℕ
written_part src ws p t c = write (part_items p) (means src (part_items p) (part_slots ws p t)) c

-- a part of the table, of a type, that holds these items
pub record Lays (p : TypePart) (a : Attributes) (k : ℕ) (is : List Item) : Type 0 where
  pub attributes : p.attributes ≡ a
  pub kind : p.kind ≡ k
  pub ordered : p.from ≤ p.to
  pub within : p.to ≤ all_rows
  pub items : items_from p p.from ≡ is
