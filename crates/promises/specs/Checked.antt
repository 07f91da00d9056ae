-- Record check's rows: all of document 01's in one list, in the order checked, each with its own condition. That its answer is the number of the first row
-- that holds is in proofs/Checked.
use Rattle.std.specs.Prelude.{List, [], ◌∷◌, ◌++◌, Bool, false, cond, not, ◌&&◌, ℕ, ◌+◌, ◌-◌, ◌%◌, leb, ltb, eqb, length, drop}
use Rattle.meaning.specs.declared.Attributes.{Attributes}
use Rattle.meaning.specs.States.{Cursor}
use Rattle.meaning.specs.declared.Item.{Item}
use Rattle.meaning.specs.declared.Known.{Known}
use Rattle.meaning.specs.declared.Shape.{Shape}
use Rattle.meaning.specs.declared.Shape.TheVariants.{Number, Ignored, Count, Size, Times, Earlier, Registers, Filled, Abi, Limit, Listed, Bytes, Pad, Name}
use Rattle.meaning.specs.Bytes.{num, zero_in}
use Rattle.meaning.specs.Refusals.{Refusal, refusal}
use Rattle.meaning.specs.Items.{bytes, span, part, step, walk}
use Rattle.meaning.specs.Editions.{editions, known, allowed, unknowns, clashes}
use Rattle.meaning.specs.Schema.{schema, trailer}
use Rattle.meaning.specs.Records.{kind_of, misc_of, size_of, room, origin, fields_of}

-- ---- the rows

-- 32, "an inner rule below is broken": "raw size plus 4 is a multiple of 8; stack and aux sizes are multiples of 8; filled length at most stack size;
-- build id size at most 20"
unfoldable pub broken : Shape → Cursor → List ℕ → Bool
broken (Number w) c ys = false
broken (Ignored k) c ys = false
broken (Count w) c ys = false
broken (Size w) c ys = not (eqb ((num ys + bytes w) % 8) 0)
broken (Times k) c ys = false
broken (Earlier k) c ys = false
broken Registers c ys = false
broken Filled c ys = not (leb (num ys) c.n)
broken (Abi m) c ys = false
broken (Limit k) c ys = not (leb (num ys) k)
broken (Listed k) c ys = false
broken (Bytes k) c ys = false
broken Pad c ys = false
broken Name c ys = false

-- 33, "no zero byte in the name's room, or the first is not among its last 8 bytes"
unfoldable pub misnamed : Shape → List ℕ → Bool
misnamed (Number w) ys = false
misnamed (Ignored k) ys = false
misnamed (Count w) ys = false
misnamed (Size w) ys = false
misnamed (Times k) ys = false
misnamed (Earlier k) ys = false
misnamed Registers ys = false
misnamed Filled ys = false
misnamed (Abi m) ys = false
misnamed (Limit k) ys = false
misnamed (Listed k) ys = false
misnamed (Bytes k) ys = false
misnamed Pad ys = false
misnamed Name ys = not (ltb (zero_in ys) (length ys) && leb (length ys) (zero_in ys + 8))

-- of a selected item, where `rest` is left: 30, "a field .. would pass the record's end"; 32; 33
abbrev pub shape_rows : Shape → Cursor → List ℕ → List Refusal
shape_rows sh c rest =
    refusal (not (leb (span sh c (length rest)) (length rest))) 30 ∷ refusal (broken sh c (part sh c rest)) 32 ∷ refusal (misnamed sh (part sh c rest)) 33 ∷ []

abbrev pub item_rows : List ℕ → Item → Cursor → List Refusal
item_rows xs i c = cond i.on (shape_rows i.shape c (drop c.at xs)) []

-- "the first in field order"
unfoldable pub field_rows : List ℕ → List Item → Cursor → List Refusal
field_rows xs [] c = []
field_rows xs (i ∷ is) c = item_rows xs i c ++ field_rows xs is (step xs i c)

-- 30, ".. or the trailer would pass the record's end", is tested first; 31, "bytes left over after the last field", last
abbrev pub body_rows : List Item → ℕ → List ℕ → List Refusal
body_rows is t xs =
    refusal (not (leb (8 + t) (length xs))) 30
    ∷ (field_rows (fields_of t xs) is (origin 8) ++ (refusal (not (eqb (walk (fields_of t xs) is (origin 8)).at (length xs - t))) 31 ∷ []))

-- 20 to 25 by what the edition knows, then the body
abbrev pub record_rows : Known → Attributes → List ℕ → List Refusal
record_rows k a xs =
    unknowns k (kind_of xs) (misc_of xs) a
    ++ (clashes (kind_of xs) a ++ body_rows (schema (kind_of xs) (misc_of xs) a) (room (trailer (kind_of xs) a)) xs)

-- "2; 7 if the slice is shorter than 8; 6; 7 if the size differs from the slice's length; 20 to 33"
abbrev pub check_rows : ℕ → Attributes → List ℕ → List Refusal
check_rows e a xs =
    refusal (not (allowed editions e)) 2
    ∷ refusal (not (leb 8 (length xs))) 7
    ∷ refusal (not (leb 8 (size_of xs) && eqb (size_of xs % 8) 0)) 6
    ∷ refusal (not (eqb (size_of xs) (length xs))) 7
    ∷ record_rows (known editions e) a xs
