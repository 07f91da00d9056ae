-- What the reader's contracts cite: a field at a place, with the place after it; a place moved forward; the header.
-- Assumes nothing: these are definitions.
use Rattle.std.specs.Prelude.{ℕ, ◌+◌, Bool, cond, ◌&&◌, ◌||◌, List, Result, Ok, Err, leb, eqb, length}
use Rattle.meaning.specs.Bytes.{number_at}
use Rattle.meaning.specs.Refusals.{or_else}
use Rattle.meaning.specs.declared.Reason.{Reason}
use Rattle.meaning.specs.Reasons.{number_of}
use Rattle.reader.specs.declared.Field.{Field as Read}
use Rattle.reader.specs.declared.Header.{Header as Whole}
use Rattle.reader.specs.declared.Cut.{Cut}

-- a field: 0, its number and the place after it; or, where it would pass the record's end, 30, no number and its own place
pub record Field : Type 0 where
  pub why : ℕ
  pub value : ℕ
  pub next : ℕ

-- "Header: type u32, misc u16, size u16", and the place after it
pub record Header : Type 0 where
  pub why : ℕ
  pub kind : ℕ
  pub misc : ℕ
  pub size : ℕ
  pub next : ℕ

-- what the reader tells of the field at a place, and of a header
abbrev pub field_told : ℕ → Result Read Reason → Field
field_told at (Ok f) = record { why = 0; value = f.value; next = f.next }
field_told at (Err reason) = record { why = number_of reason; value = 0; next = at }

abbrev pub header_told : Result Whole Cut → Header
header_told (Ok h) = record { why = 0; kind = h.kind; misc = h.misc; size = h.size; next = 8 }
header_told (Err c) = record { why = 30; kind = c.kind; misc = c.misc; size = 0; next = c.next }

abbrev pub field_found : ℕ → ℕ → Field
field_found value next = record { why = 0; value = value; next = next }

-- "30: a field would pass the record's end"; the place stays
abbrev pub passes : ℕ → Field
passes at = record { why = 30; value = 0; next = at }

-- numbers have 1, 2, 4 or 8 bytes
abbrev pub is_width : ℕ → Bool
is_width k = eqb k 1 || (eqb k 2 || (eqb k 4 || eqb k 8))

-- the field of k bytes at a place; of another width there is none
unfoldable pub field_at : ℕ → List ℕ → ℕ → Field
field_at k xs at = cond (is_width k && leb (at + k) (length xs)) (field_found (number_at k xs at) (at + k)) (passes at)

-- n bytes on, and at most at the end
unfoldable pub forward_at : List ℕ → ℕ → ℕ → ℕ
forward_at xs at n = cond (leb (at + n) (length xs)) (at + n) (length xs)

-- "Header: type u32, misc u16, size u16", field after field; the first refusal stays
abbrev pub header_of : Field → Field → Field → Header
header_of kind misc size = record {
  why = or_else kind.why (or_else misc.why size.why);
  kind = kind.value;
  misc = misc.value;
  size = size.value;
  next = size.next;
}

abbrev pub header_at : List ℕ → ℕ → Header
header_at xs at =
    let kind = field_at 4 xs at in
    let misc = field_at 2 xs kind.next in
    let size = field_at 2 xs misc.next in
    header_of kind misc size
