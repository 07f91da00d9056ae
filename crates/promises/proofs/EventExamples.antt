-- Worked cases of a table of events, in one list, and one computed proof over it; and tables that row 11 refuses. Assumes nothing.
use Rattle.std.specs.Prelude.{◌≡◌, refl, ℕ, ◌+◌, ◌^◌, Bool, true, false, List, [], ◌∷◌, ◌++◌}
use Rattle.meaning.specs.Bytes.{num, spell, bit, ones, zeros, zero_in, all_zero, stale}
use Rattle.meaning.specs.Refusals.{first}
use Rattle.meaning.specs.Items.{span, rule, holds, counted, before, past, part, settle, shape_step, step, walk}
use Rattle.meaning.specs.Writing.{ends, named, dirty}
use Rattle.meaning.specs.Editions.{editions, known, outside, bits, depends, unreadable}
use Rattle.meaning.specs.Records.{layout, kind_of, misc_of, size_of, room_shape, room, fields_of, closed, fields_answer, judge, flag_by, flag_of}
use Rattle.meaning.specs.declared.Event.{Event}
use Rattle.meaning.specs.Events.{attributes_of, distinct, all_marked, event_limit, sound, identifier_of, index_of, seen, has_event, judge_events, inspected, event_depends, unasked, check_events, check_inspected, record_check_events, read_events}

abbrev event : ℕ → ℕ → ℕ → Event
event id sample all = record { identifier = id; sample = sample; format = 0; user = 0; interrupt = 0; branch = 0; all = all }

-- two events: identifiers 5 and 7; the second with a bit that edition 2 does not know
abbrev two : List Event
two = event 5 (2 ^ 16) 1 ∷ event 7 (2 ^ 16 + 2 ^ 19) 1 ∷ []

-- a third, with branch stacks and the hardware index
abbrev three : List Event
three = two ++ (record { identifier = 11; sample = 2 ^ 16 + 2 ^ 11; format = 0; user = 0; interrupt = 0; branch = 2 ^ 17; all = 1 } ∷ [])

-- a record: type, size, the words after the header
abbrev rec : ℕ → ℕ → List ℕ → List ℕ
rec kind size body = spell 4 kind ++ (spell 2 0 ++ (spell 2 size ++ body))

abbrev word : ℕ → List ℕ
word x = spell 8 x

-- with the number inspected (M-112) beside the answer
pub record Case : Type 0 where
  pub edition : ℕ
  pub bytes : List ℕ
  pub answer : ℕ
  pub looked : ℕ
  pub out : Bool

abbrev case : ℕ → List ℕ → ℕ → ℕ → Bool → Case
case e xs n looked out = record { edition = e; bytes = xs; answer = n; looked = looked; out = out }

abbrev lost : ℕ → List ℕ
lost id = rec 2 32 (word 1 ++ (word 2 ++ word id))

abbrev pub cases : List Case
cases =
    -- LOST: the identifier is the last word. Edition 1 answers 21 to everything, also to what is in no table
    case 3 (lost 5) 0 1 false
    ∷ case 2 (lost 5) 0 1 false
    ∷ case 1 (lost 5) 21 0 true
    ∷ case 1 (lost 9) 21 0 true
    ∷ case 3 (lost 9) 26 3 false
    -- the second event: edition 2 does not know its bit 19, and says so after the lookup
    ∷ case 3 (lost 7) 0 2 false
    ∷ case 2 (lost 7) 21 2 true
    -- a size below 16: 27, after 20
    ∷ case 3 (rec 14 8 []) 27 0 false
    ∷ case 1 (rec 14 8 []) 20 0 true
    ∷ case 3 (rec 0 8 []) 20 0 true
    -- SAMPLE: the identifier is the first word; at size 16 it is the last one too
    ∷ case 3 (rec 9 16 (word 5)) 0 1 false
    ∷ case 3 (rec 9 24 (word 7 ++ word 5)) 0 2 false
    ∷ case 3 (rec 9 24 (word 5 ++ word 7)) 31 1 false
    -- the third event's own branch bits: the index is read in edition 3, 25 in edition 2, and asks nothing of another record
    ∷ case 3 (rec 9 32 (word 11 ++ (word 0 ++ word 1))) 0 3 false
    ∷ case 3 (rec 9 24 (word 11 ++ word 0)) 30 3 false
    ∷ case 2 (rec 9 32 (word 11 ++ (word 0 ++ word 1))) 25 3 true
    ∷ case 2 (lost 11) 0 3 false
    ∷ []

pub record Found : Type 0 where
  pub answer : ℕ
  pub looked : ℕ
  pub out : Bool

abbrev pub found : List Case → List Found
found [] = []
found (c ∷ cs) =
    record {
      answer = judge_events (known editions c.edition) three c.bytes;
      looked = inspected (known editions c.edition) three c.bytes;
      out = outside (known editions c.edition) (event_depends three c.bytes);
    }
    ∷ found cs

abbrev pub wanted : List Case → List Found
wanted [] = []
wanted (c ∷ cs) = record { answer = c.answer; looked = c.looked; out = c.out } ∷ wanted cs

pub as_wanted : found cases ≡ wanted cases
unfolding num spell bit ones zero_in first span rule holds counted before past part settle shape_step step walk known outside bits depends unreadable layout kind_of misc_of size_of room_shape room fields_of closed fields_answer judge attributes_of identifier_of index_of has_event judge_events event_depends seen inspected
as_wanted = refl

-- tables that are sound, and those that 11 refuses: none, one too many, two equal identifiers, no bit 16, no sample_id_all
abbrev pub tables : List Bool
tables =
    sound event_limit two
    ∷ sound 2 two
    ∷ sound event_limit []
    ∷ sound 1 two
    ∷ sound event_limit (event 5 (2 ^ 16) 1 ∷ event 5 (2 ^ 16) 1 ∷ [])
    ∷ sound event_limit (event 5 (2 ^ 17) 1 ∷ [])
    ∷ sound event_limit (event 5 (2 ^ 16) 0 ∷ [])
    ∷ []

pub tables-as-wanted : tables ≡ true ∷ true ∷ false ∷ false ∷ false ∷ false ∷ false ∷ []
unfolding bit sound all_marked distinct
tables-as-wanted = refl

-- ---- record check with a table, and the reader of words: answer and number inspected

-- a COMM of size 32 of the first event, its name "a" and the bytes after its zero; its identifier
abbrev comm : ℕ → ℕ → List ℕ
comm b id = rec 3 32 (word 1 ++ ((97 ∷ 0 ∷ b ∷ 0 ∷ 0 ∷ 0 ∷ 0 ∷ 0 ∷ []) ++ word id))

pub record Checked : Type 0 where
  pub edition : ℕ
  pub table : List Event
  pub bytes : List ℕ
  pub answer : ℕ
  pub looked : ℕ
  pub read : ℕ

-- the answer of record check, the number inspected, and the answer of the reader with 55 words
abbrev checked : ℕ → List Event → List ℕ → ℕ → ℕ → ℕ → Checked
checked e es xs answer looked read = record { edition = e; table = es; bytes = xs; answer = answer; looked = looked; read = read }

abbrev pub checks : List Checked
checks =
    -- 2 before 11, 11 before 7, then 7, 6, 7: nothing was inspected
    checked 0 [] [] 2 0 2
    ∷ checked 5 two (lost 5) 2 0 2
    ∷ checked 3 [] [] 11 0 11
    ∷ checked 3 two (1 ∷ []) 7 0 7
    ∷ checked 3 two (rec 2 4 (word 5)) 6 0 6
    ∷ checked 3 two (rec 2 24 (word 5)) 7 0 7
    -- then the record: 20, 27, 26, the event's own; 40 comes where the reader would fill the words, and the number is told all the same
    ∷ checked 3 two (rec 0 16 (word 5)) 20 0 20
    ∷ checked 3 two (rec 14 8 []) 27 0 27
    ∷ checked 3 two (lost 9) 26 2 26
    ∷ checked 2 two (lost 7) 21 2 21
    ∷ checked 3 two (lost 7) 0 2 40
    -- 44 in place of 0, by record check alone
    ∷ checked 3 two (comm 0 5) 0 1 40
    ∷ checked 3 two (comm 1 5) 44 1 40
    ∷ []

abbrev pub answers_of : List Checked → List (List ℕ)
answers_of [] = []
answers_of (c ∷ cs) =
    ((record_check_events event_limit editions c.edition c.table c.bytes).answer
    ∷ (record_check_events event_limit editions c.edition c.table c.bytes).inspected
    ∷ (read_events event_limit editions c.edition c.table c.bytes (zeros 55)).answer
    ∷ (read_events event_limit editions c.edition c.table c.bytes (zeros 55)).inspected
    ∷ [])
    ∷ answers_of cs

abbrev pub telling : List Checked → List (List ℕ)
telling [] = []
telling (c ∷ cs) = (c.answer ∷ c.looked ∷ c.read ∷ c.looked ∷ []) ∷ telling cs

pub as-told : answers_of checks ≡ telling checks
unfolding num spell bit ones zero_in all_zero stale ends named dirty first span rule holds counted before past part settle shape_step step walk known outside bits depends unreadable layout kind_of misc_of size_of room_shape room fields_of closed fields_answer judge flag_by flag_of attributes_of distinct all_marked sound identifier_of index_of has_event judge_events seen inspected unasked check_events check_inspected record_check_events read_events
as-told = refl
