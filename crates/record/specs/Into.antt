-- The reader that fills lent words: its answer, and what the words then hold; the flag of a record, and record check's 44. Also what the loop over
-- rows asks for.
-- Assumes nothing: these are definitions.
use Rattle.std.specs.Prelude.{◌≡◌, ℕ, ◌+◌, ◌%◌, ◌≤◌, Bool, cond, List, map, length, leb, eqb}
use Rattle.std.proofs.Math.Seq.{slice}
use Rattle.meaning.specs.declared.Attributes.{Attributes}
use Rattle.meaning.specs.States.{Cursor}
use Rattle.meaning.specs.declared.Item.{Item}
use Rattle.meaning.specs.declared.Known.{Known}
use Rattle.meaning.specs.Bytes.{put}
use Rattle.meaning.specs.Refusals.{or_else}
use Rattle.meaning.specs.Items.{walk}
use Rattle.meaning.specs.Schema.{schema, trailer}
use Rattle.meaning.specs.Writing.{dirty}
use Rattle.meaning.specs.Editions.{known}
use Rattle.meaning.specs.Records.{layout, kind_of, misc_of, room, origin, fields_of, fields_answer, flag_by, check}
use Rattle.meaning.specs.Values.{width, value_words, record_words}
use Rattle.table.specs.Rows.{rows, item_of}

-- the answer that record check shares with the readers, without its 44; then 40 if the words do not fit
unfoldable pub read_into_answer : List Known → ℕ → Attributes → List ℕ → List ℕ → ℕ
read_into_answer ks e a xs ws = or_else (check ks e a xs) (cond (leb value_words (length ws)) 0 40)

-- refused: unchanged; accepted: the first 56 are those of the record, the rest unchanged
unfoldable pub read_into_words : List Known → ℕ → Attributes → List ℕ → List ℕ → List ℕ
read_into_words ks e a xs ws = cond (eqb (read_into_answer ks e a xs ws) 0) (put ws 0 (record_words (layout (known ks e) a) xs)) ws

-- the bytes of a record of this type whose fields are accepted
pub record Accepted (a : Attributes) (xs : List ℕ) (kind : ℕ) : Type 0 where
  pub kind-is : kind ≡ kind_of xs
  pub eights : length xs % 8 ≡ 0
  pub answer-is : fields_answer (schema (kind_of xs) (misc_of xs) a) (room (trailer (kind_of xs) a)) xs ≡ 0

-- its flag, as a test and as a number. No edition: it is a property of the record's bytes and the attributes
abbrev pub name_dirty : Attributes → List ℕ → Bool
name_dirty a xs = dirty (fields_of (room (trailer (kind_of xs) a)) xs) (schema (kind_of xs) (misc_of xs) a) (origin 8)

abbrev pub record_flag : Attributes → List ℕ → ℕ
record_flag a xs = flag_by (schema (kind_of xs) (misc_of xs) a) (room (trailer (kind_of xs) a)) xs

-- "where it is set, record check, and nothing else, answers 44 instead of 0": by the answer that record check shares with the readers
unfoldable pub or_dirty : ℕ → Attributes → List ℕ → ℕ
or_dirty answer a xs = or_else answer (cond (eqb (record_flag a xs) 0) 0 44)

-- the items of the rows from k up to `to`
abbrev pub items_of : Attributes → ℕ → ℕ → ℕ → ℕ → List Item
items_of a misc kind k to = map (item_of a misc kind) (slice k to rows)

-- the items are accepted from the cursor on, and their words fit from `at` on
pub record Fills (is : List Item) (xs : List ℕ) (c : Cursor) (out : List ℕ) (at : ℕ) : Type 0 where
  pub fine : (walk xs is c).why ≡ 0
  pub space : at + width is ≤ length out
