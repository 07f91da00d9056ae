-- A whole record: header, fields, trailer. What refuses it, what it decodes to, what writes it, and when a value can be written.
-- Assumes nothing: these are definitions.
use Rattle.std.specs.Prelude.{ℕ, ◌+◌, ◌-◌, ◌%◌, ◌^◌, Bool, true, false, cond, ◌&&◌, List, [], ◌∷◌, ◌++◌, length, take, drop, leb, eqb, ltb}
use Rattle.meaning.specs.declared.Attributes.{Attributes}
use Rattle.meaning.specs.States.{Cursor}
use Rattle.meaning.specs.declared.Item.{Item}
use Rattle.meaning.specs.declared.Known.{Known}
use Rattle.meaning.specs.declared.Shape.{Shape}
use Rattle.meaning.specs.declared.Shape.TheVariants.{Number, Ignored, Count, Size, Times, Earlier, Registers, Filled, Abi, Limit, Listed, Bytes, Pad, Name}
use Rattle.meaning.specs.Bytes.{num, spell}
use Rattle.meaning.specs.Refusals.{or_else}
use Rattle.meaning.specs.Items.{Con, cursor, bytes, walk, contents}
use Rattle.meaning.specs.Writing.{fit, write, cleaned, dirty}
use Rattle.meaning.specs.Schema.{schema, trailer}
use Rattle.meaning.specs.Editions.{unreadable, known, allowed}

-- what an edition and attributes fix: the fields by type and misc, the trailer by type, and 20 to 25 (0: none of them).
-- "What a record decodes to depends on the edition only through refusals 20 to 24", and M-102's 25: only `unknown` has it
pub record Layout : Type 0 where
  pub body : ℕ → ℕ → List Item
  pub trail : ℕ → List Item
  pub unknown : ℕ → ℕ → ℕ

unfoldable pub layout : Known → Attributes → Layout
layout k a = record { body = λ kind misc. schema kind misc a; trail = λ kind. trailer kind a; unknown = λ kind misc. unreadable k a kind misc }

-- "Header: type u32, misc u16, size u16"
unfoldable pub kind_of : List ℕ → ℕ
kind_of xs = num (take 4 xs)

unfoldable pub misc_of : List ℕ → ℕ
misc_of xs = num (take 2 (drop 4 xs))

unfoldable pub size_of : List ℕ → ℕ
size_of xs = num (take 2 (drop 6 xs))

-- ---- the trailer's room

-- the trailer's items are numbers and ignored bytes, so its length is known beforehand
unfoldable pub fixed_shape : Shape → Bool
fixed_shape (Number w) = true
fixed_shape (Ignored k) = true
fixed_shape (Count w) = false
fixed_shape (Size w) = false
fixed_shape (Times k) = false
fixed_shape (Earlier k) = false
fixed_shape Registers = false
fixed_shape Filled = false
fixed_shape (Abi m) = false
fixed_shape (Limit k) = false
fixed_shape (Listed k) = false
fixed_shape (Bytes k) = false
fixed_shape Pad = false
fixed_shape Name = false

unfoldable pub fixed : List Item → Bool
fixed [] = true
fixed (i ∷ is) = fixed_shape i.shape && fixed is

unfoldable pub room_shape : Shape → ℕ
room_shape (Number w) = bytes w
room_shape (Ignored k) = k
room_shape (Count w) = 0
room_shape (Size w) = 0
room_shape (Times k) = 0
room_shape (Earlier k) = 0
room_shape Registers = 0
room_shape Filled = 0
room_shape (Abi m) = 0
room_shape (Limit k) = 0
room_shape (Listed k) = 0
room_shape (Bytes k) = 0
room_shape Pad = 0
room_shape Name = 0

-- "The trailer is 8 bytes for each selected bit of 66,246": added up item by item
unfoldable pub room : List Item → ℕ
room [] = 0
room (i ∷ is) = cond i.on (room_shape i.shape) 0 + room is

-- ---- what refuses a record

abbrev pub origin : ℕ → Cursor
origin at = cursor at 0 0 0

-- "the trailer is tested first, and its start is the fields' end"
unfoldable pub fields_of : ℕ → List ℕ → List ℕ
fields_of t xs = take (length xs - t) xs

-- 31: "bytes left over after the last field"
unfoldable pub closed : ℕ → Cursor → ℕ
closed end c = or_else c.why (cond (eqb c.at end) 0 31)

-- 30 to 33, the first in field order, or 0; t are the trailer's bytes
unfoldable pub fields_answer : List Item → ℕ → List ℕ → ℕ
fields_answer is t xs = cond (leb (8 + t) (length xs)) (closed (length xs - t) (walk (fields_of t xs) is (origin 8))) 30

-- the answer for the bytes of a record: 20 to 25, then 30 to 33, else 0
unfoldable pub judge : Layout → List ℕ → ℕ
judge lay xs =
    or_else (lay.unknown (kind_of xs) (misc_of xs)) (fields_answer (lay.body (kind_of xs) (misc_of xs)) (room (lay.trail (kind_of xs))) xs)

-- "7 if the slice is shorter than 8; 6; 7 if the size differs from the slice's length"; then an answer for the record's bytes
abbrev pub checked_by : (List ℕ → ℕ) → List ℕ → ℕ
checked_by answer xs =
    cond (leb 8 (length xs))
    (cond (leb 8 (size_of xs) && eqb (size_of xs % 8) 0)
    (cond (eqb (size_of xs) (length xs))
    (answer xs)
    7)
    6)
    7

-- ".. 20 to 33; otherwise 0"
unfoldable pub check_by : Layout → List ℕ → ℕ
check_by lay xs = checked_by (judge lay) xs

-- 2, then the above: the answer that record check shares with the readers of a record's words
unfoldable pub check : List Known → ℕ → Attributes → List ℕ → ℕ
check rows e a xs = cond (allowed rows e) (check_by (layout (known rows e) a) xs) 2

-- ---- what it decodes to

-- the meaning of a record: its header, the contents of its items, and the flag: 1 where stale bytes stand after a name's zero, else 0
pub record Value : Type 0 where
  pub kind : ℕ
  pub misc : ℕ
  pub size : ℕ
  pub body : List Con
  pub tail : List Con
  pub flag : ℕ

unfoldable pub body_of : List Item → ℕ → List ℕ → List Con
body_of is t xs = contents (fields_of t xs) is (origin 8)

unfoldable pub tail_of : List Item → List ℕ → List Con
tail_of ts xs = contents xs ts (origin (length xs - room ts))

-- "MMAP, MMAP2, COMM, KSYMBOL and CGROUP records gain a flag" (M-107): 1 or 0; t are the trailer's bytes, before which a name's room ends. Like
-- the fields it takes no edition
unfoldable pub flag_by : List Item → ℕ → List ℕ → ℕ
flag_by is t xs = cond (dirty (fields_of t xs) is (origin 8)) 1 0

unfoldable pub flag_of : Layout → List ℕ → ℕ
flag_of lay xs = flag_by (lay.body (kind_of xs) (misc_of xs)) (room (lay.trail (kind_of xs))) xs

-- "Record check takes one lent slice, edition and attributes": what is exported under that name. "Where [the flag] is set, record check, and
-- nothing else, answers 44 instead of 0" (M-107): a row of this definition, and of no reader
unfoldable pub record_check : List Known → ℕ → Attributes → List ℕ → ℕ
record_check rows e a xs = or_else (check rows e a xs) (cond (eqb (flag_of (layout (known rows e) a) xs) 0) 0 44)

unfoldable pub value : Layout → List ℕ → Value
value lay xs = record {
  kind = kind_of xs;
  misc = misc_of xs;
  size = size_of xs;
  body = body_of (lay.body (kind_of xs) (misc_of xs)) (room (lay.trail (kind_of xs))) xs;
  tail = tail_of (lay.trail (kind_of xs)) xs;
  flag = flag_of lay xs;
}

-- the same without the flag: what a writer can be asked for
unfoldable pub unflagged : Value → Value
unflagged v = record { kind = v.kind; misc = v.misc; size = v.size; body = v.body; tail = v.tail; flag = 0 }

-- ---- what writes it

unfoldable pub header : Value → List ℕ
header v = spell 4 v.kind ++ (spell 2 v.misc ++ spell 2 v.size)

unfoldable pub field_bytes : List Item → Value → List ℕ
field_bytes is v = header v ++ write is v.body (origin 8)

unfoldable pub written : List Item → List Item → Value → List ℕ
written is ts v = field_bytes is v ++ write ts v.tail (origin (length (field_bytes is v)))

unfoldable pub write_record : Layout → Value → List ℕ
write_record lay v = written (lay.body v.kind v.misc) (lay.trail v.kind) v

-- the numbers fit the header, the contents the items; the size that is held is the true one, and a multiple of 8
unfoldable pub fits_by : List Item → List Item → Value → Bool
fits_by is ts v =
    (ltb v.kind (256 ^ 4) && (ltb v.misc (256 ^ 2) && ltb v.size (256 ^ 2)))
    && ((fit is v.body (origin 8) && fit ts v.tail (origin (length (field_bytes is v))))
    && (eqb v.size (length (written is ts v)) && eqb (v.size % 8) 0))

-- what is written never has the flag, so a value with it cannot be written
unfoldable pub fits : Layout → Value → Bool
fits lay v = eqb (lay.unknown v.kind v.misc) 0 && (eqb v.flag 0 && fits_by (lay.body v.kind v.misc) (lay.trail v.kind) v)

-- a record's bytes, the ignored ones as zero
unfoldable pub cleaned_by : List Item → List Item → List ℕ → List ℕ
cleaned_by is ts xs = (take 8 xs ++ cleaned (fields_of (room ts) xs) is (origin 8)) ++ cleaned xs ts (origin (length xs - room ts))

unfoldable pub cleaned_record : Layout → List ℕ → List ℕ
cleaned_record lay xs = cleaned_by (lay.body (kind_of xs) (misc_of xs)) (lay.trail (kind_of xs)) xs
