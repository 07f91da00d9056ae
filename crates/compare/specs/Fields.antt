-- M-108, the fields of a record and their numbers: "answer (0 or the refusal) 0, type 1, misc 2, size 3, identifier 4, then the other fields present
-- in document 01's order, a list or name as one". A record is a list of fields; a field's number is its place in the list.
-- Assumes nothing: these are definitions.
use Rattle.std.specs.Prelude.{ℕ, ◌+◌, ◌*◌, cond, List, [], ◌∷◌, ◌++◌, take, drop, eqb}
use Rattle.meaning.specs.declared.Attributes.{Attributes}
use Rattle.meaning.specs.States.{Cursor}
use Rattle.meaning.specs.declared.Item.{Item}
use Rattle.meaning.specs.declared.Known.{Known}
use Rattle.meaning.specs.declared.Shape.{Shape}
use Rattle.meaning.specs.declared.Shape.TheVariants.{Number, Ignored, Count, Size, Times, Earlier, Registers, Filled, Abi, Limit, Listed, Bytes, Pad, Name}
use Rattle.meaning.specs.Items.{Con, con}
use Rattle.meaning.specs.Writing.{next, named}
use Rattle.meaning.specs.Records.{Layout, Value, layout, kind_of, misc_of, size_of, origin, value}
use Rattle.meaning.specs.Events.{identifier_of}

-- the field of an item, if it has one; w is the number of the item before it. "A list or name as one": a count or size word has no number of its own,
-- it is told with its list, where the entries stand. "Ignored bytes don't count". "Fields present": after an abi of 0 there are no registers, after a
-- stack size of 0 no filled length
unfoldable pub field : Shape → ℕ → Cursor → Con → List Con
field (Number k) w c v = v ∷ []
field (Ignored k) w c v = []
field (Count k) w c v = []
field (Size k) w c v = []
field (Times k) w c v = con c.n v.list ∷ []
field (Earlier k) w c v = con c.old v.list ∷ []
field Registers w c v = cond (eqb w 0) [] (v ∷ [])
field Filled w c v = cond (eqb c.n 0) [] (v ∷ [])
field (Abi m) w c v = v ∷ []
field (Limit k) w c v = []
field (Listed k) w c v = con c.n v.list ∷ []
field (Bytes k) w c v = v ∷ []
field Pad w c v = []
field Name w c v = v ∷ []

-- the fields of items that hold contents, from a state on
unfoldable pub numbered : List Item → List Con → ℕ → Cursor → List Con
numbered [] vs w c = []
numbered (i ∷ is) [] w c = []
numbered (i ∷ is) (v ∷ vs) w c = cond i.on (field i.shape w c v) [] ++ numbered is vs v.num (next i v c)

-- "identifier 4, then the other fields": it is not told again. In a SAMPLE it is the body's first item, elsewhere the trailer's eighth
abbrev pub first : ℕ → ℕ
first kind = cond (eqb kind 9) 1 0

unfoldable pub body_fields : Layout → Value → List Con
body_fields lay v = numbered (drop (first v.kind) (lay.body v.kind v.misc)) (drop (first v.kind) v.body) 0 (origin (8 + 8 * first v.kind))

unfoldable pub tail_fields : Layout → Value → List Con
tail_fields lay v = numbered (take 7 (lay.trail v.kind)) (take 7 v.tail) 0 (origin 0)

-- a number as a field
abbrev pub one : ℕ → Con
one n = con n []

-- "the M-107 flag does [count], as the last field": of the types that have a name, set or not
unfoldable pub flag_field : Layout → Value → List Con
flag_field lay v = cond (named (lay.body v.kind v.misc)) (one v.flag ∷ []) []

-- what a comparison reads by: the answer of a record's bytes, and the attributes that an identifier selects; one edition
pub record Reads : Type 0 where
  pub judge : List ℕ → ℕ
  pub known : Known
  pub attributes : ℕ → Attributes

abbrev pub layout_of : Reads → List ℕ → Layout
layout_of R xs = layout R.known (R.attributes (identifier_of xs))

abbrev pub value_of : Reads → List ℕ → Value
value_of R xs = value (layout_of R xs) xs

-- "then the other fields present in document 01's order": those of the body, of the trailer, the flag
unfoldable pub other_fields : Layout → Value → List Con
other_fields lay v = body_fields lay v ++ (tail_fields lay v ++ flag_field lay v)

-- "type 1, misc 2, size 3, identifier 4, then the other fields present", of a record that is accepted
unfoldable pub accepted : Reads → List ℕ → List Con
accepted R xs = one (kind_of xs) ∷ one (misc_of xs) ∷ one (size_of xs) ∷ one (identifier_of xs) ∷ other_fields (layout_of R xs) (value_of R xs)

-- "Records refused alike compare by their bytes, as field 1"
unfoldable pub fields : Reads → List ℕ → List Con
fields R xs = one (R.judge xs) ∷ cond (eqb (R.judge xs) 0) (accepted R xs) (con 0 xs ∷ [])
