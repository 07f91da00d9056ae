-- What the writer measures before it writes: the value that the words tell, and its size where it can be written. Not what must be believed:
-- Measuring ties it to `writable`. Assumes nothing: these are definitions.
use Rattle.std.specs.Prelude.{ℕ, ◌≡◌, false, cond, ◌&&◌, List, length, drop, get_or}
use Rattle.meaning.specs.declared.Attributes.{Attributes}
use Rattle.meaning.specs.declared.Item.{Item}
use Rattle.meaning.specs.Bytes.{all_zero}
use Rattle.meaning.specs.Schema.{schema, trailer}
use Rattle.meaning.specs.Records.{Value, written, fits_by}
use Rattle.meaning.specs.Values.{means, any_beyond, slots_told, flag_told, spare_by, body_words, trail_words}
use Rattle.writer_parts.specs.declared.TypePart.{TypePart}
use Rattle.writer_parts.specs.Parts.{part_items}

unfoldable pub value_meant : List Item → List Item → List ℕ → List ℕ → Value
value_meant is ts src ws = record {
  kind = get_or ws 0 0;
  misc = get_or ws 1 0;
  size = get_or ws 2 0;
  body = means src is (slots_told is (drop body_words ws) 0 0);
  tail = means src ts (slots_told ts (drop trail_words ws) 0 0);
  flag = flag_told is ws;
}

-- the size of the record that the words tell; 0 where there is none
unfoldable pub measured : List Item → List Item → List ℕ → List ℕ → ℕ
measured is ts src ws = cond (all_zero (spare_by is ts ws) && fits_by is ts (value_meant is ts src ws)) (length (written is ts (value_meant is ts src ws))) 0

-- a part that holds the fields of its type, for some misc
pub record Fields (p : TypePart) : Type 0 where
  pub misc : ℕ
  pub items-are : part_items p ≡ schema p.kind misc p.attributes

-- kind and misc are the words' own, and no selected list or name of that type passes the source's end
abbrev pub Inside : List ℕ → List ℕ → Attributes → ℕ → ℕ → Type 0
Inside src ws a kind misc =
    (kind ≡ get_or ws 0 0) × (misc ≡ get_or ws 1 0) × (any_beyond src (schema kind misc a) (slots_told (schema kind misc a) (drop body_words ws) 0 0) ≡ false)

abbrev pub size_meant : List ℕ → List ℕ → Attributes → ℕ → ℕ → ℕ
size_meant src ws a kind misc = measured (schema kind misc a) (trailer kind a) src ws

abbrev pub bytes_meant : List ℕ → List ℕ → Attributes → ℕ → ℕ → List ℕ
bytes_meant src ws a kind misc = written (schema kind misc a) (trailer kind a) (value_meant (schema kind misc a) (trailer kind a) src ws)
