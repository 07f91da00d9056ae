-- Several events in one ring: a table of events, the identifier of a record, its event, the answer under a table, row 11; the drain, the reader of one
-- record and record check with a table. Assumes nothing: these are definitions.
use Rattle.std.specs.Prelude.{ℕ, suc, ◌-◌, Bool, true, cond, not, ◌&&◌, ◌||◌, List, [], ◌∷◌, map, leb, ltb, eqb, length, get_or}
use Rattle.meaning.specs.declared.Attributes.{Attributes}
use Rattle.meaning.specs.declared.Event.{Event}
use Rattle.meaning.specs.States.{Frame, One}
use Rattle.meaning.specs.declared.Judged.{Judged}
use Rattle.meaning.specs.declared.Known.{Known}
use Rattle.meaning.specs.Bytes.{bit, number_at, put}
use Rattle.meaning.specs.Refusals.{Refusal, refusal, first, or_else}
use Rattle.meaning.specs.Editions.{known, allowed, Thing, kind, sample_bit, knows, when, depends, is_in}
use Rattle.meaning.specs.Records.{Layout, layout, kind_of, misc_of, judge, checked_by, flag_of}
use Rattle.meaning.specs.Values.{value_words, record_words}
use Rattle.meaning.specs.Ring.{Asked, asking_with, frame, record_at, scratch_after, taken_by, not_taken}
use Rattle.meaning.specs.Drain.{End, start, run}

-- ---- "an event table, a lent list of events, each with its identifier and attributes"

unfoldable pub attributes_of : Event → Attributes
attributes_of v = record {
  sample = v.sample;
  format = v.format;
  all = not (eqb v.all 0);
  user = v.user;
  interrupt = v.interrupt;
  branch = v.branch;
}

abbrev pub identifiers : List Event → List ℕ
identifiers es = map (λ (v : Event). v.identifier) es

-- the event at an index; past the end all of it is 0
abbrev pub no_event : Event
no_event = record { identifier = 0; sample = 0; format = 0; user = 0; interrupt = 0; branch = 0; all = 0 }

abbrev pub event_at : List Event → ℕ → Event
event_at es i = get_or es i no_event

-- a row of seven words is an event
unfoldable pub event_of : List ℕ → Event
event_of r = record {
  identifier = get_or r 0 0;
  sample = get_or r 1 0;
  format = get_or r 2 0;
  user = get_or r 3 0;
  interrupt = get_or r 4 0;
  branch = get_or r 5 0;
  all = get_or r 6 0;
}

abbrev pub events_of : List (List ℕ) → List Event
events_of rows = map event_of rows

-- ---- row 11: "A table is refused with 11 .. if its length is outside that range, if two identifiers are equal, or if an event lacks sample bit 16 or
-- sample_id_all"

unfoldable pub distinct : List ℕ → Bool
distinct [] = true
distinct (x ∷ xs) = not (is_in x xs) && distinct xs

abbrev pub marked : Event → Bool
marked v = bit v.sample 16 && not (eqb v.all 0)

unfoldable pub all_marked : List Event → Bool
all_marked [] = true
all_marked (v ∷ vs) = marked v && all_marked vs

-- "1 to 32 of them", and with M-112 "to 1,024": the limit is an argument
unfoldable pub sound : ℕ → List Event → Bool
sound limit es = (leb 1 (length es) && leb (length es) limit) && (all_marked es && distinct (identifiers es))

abbrev pub event_limit : ℕ
event_limit = 1024

-- what the rows of a call with a table ask: the rows themselves are those of every call
abbrev pub asked_events : ℕ → List Known → ℕ → List Event → Asked
asked_events limit rows e es = asking_with (allowed rows e) (sound limit es)

-- ---- the lookup

-- "The identifier is the first word after the header in a SAMPLE and the last word in any other record"
unfoldable pub identifier_of : List ℕ → ℕ
identifier_of r = cond (eqb (kind_of r) 9) (number_at 8 r 8) (number_at 8 r (length r - 8))

-- the index of the first that is x; the length where none is
unfoldable pub index_of : ℕ → List ℕ → ℕ
index_of x [] = 0
index_of x (y ∷ ys) = cond (eqb y x) 0 (suc (index_of x ys))

-- "Entries are inspected from index 0 upward until one matches" (M-112): how many
unfoldable pub seen : ℕ → List ℕ → ℕ
seen x [] = 0
seen x (y ∷ ys) = suc (cond (eqb y x) 0 (seen x ys))

-- where the record's event stands, and the event
abbrev pub index_for : List Event → List ℕ → ℕ
index_for es r = index_of (identifier_of r) (identifiers es)

abbrev pub event_for : List Event → List ℕ → Event
event_for es r = event_at es (index_for es r)

-- "A record of size below 16, or whose identifier is not in the table, has no event"
unfoldable pub has_event : List Event → List ℕ → Bool
has_event es r = leb 16 (length r) && is_in (identifier_of r) (identifiers es)

-- ---- the answer for a record's bytes

-- 20, as without a table; "After 20: edition 1 answers 21 to everything": it does not know bit 16, which every event selects
abbrev pub gate : Known → ℕ → List Refusal
gate k t = refusal (eqb t 0 || ltb k.kinds t) 20 ∷ refusal (not (knows k (sample_bit 16))) 21 ∷ []

-- "then a size below 16 is 27; an identifier not in the table is 26"
abbrev pub eventless : List Event → List ℕ → List Refusal
eventless es r = refusal (not (leb 16 (length r))) 27 ∷ refusal (not (is_in (identifier_of r) (identifiers es))) 26 ∷ []

-- what fixes the reading of a record that has an event: the edition and that event's attributes
abbrev pub layout_for : Known → List Event → List ℕ → Layout
layout_for k es r = layout k (attributes_of (event_for es r))

-- 20, 21 by the edition, 27 and 26, or 0 where the event is asked
unfoldable pub unmatched : Known → List Event → List ℕ → ℕ
unmatched k es r = first (gate k (kind_of r)) (first (eventless es r) 0)

-- "then the event's own checks from 21 on": 20 was asked before
unfoldable pub judge_events : Known → List Event → List ℕ → ℕ
judge_events k es r = first (gate k (kind_of r)) (first (eventless es r) (judge (layout_for k es r) r))

-- "the number inspected is reported with the answer and equals the entry's index plus one, the table's length for 26, and 0 without a lookup": 20, 21
-- by the edition and 27 come before the lookup
unfoldable pub inspected : Known → List Event → List ℕ → ℕ
inspected k es r = cond (eqb (first (gate k (kind_of r)) 0) 0 && leb 16 (length r)) (seen (identifier_of r) (identifiers es)) 0

-- on what the reading depends: "type and bit 16 alone" where the record has no event, else what its event's reading does too
unfoldable pub event_depends : List Event → List ℕ → List Thing
event_depends es r = kind (kind_of r) ∷ sample_bit 16 ∷ when (has_event es r) (depends (kind_of r) (misc_of r) (attributes_of (event_for es r)))

-- ---- the drain with a table: the run of steps, with these rows and this judge

abbrev pub drain_events : ℕ → List Known → ℕ → List Event → List ℕ → ℕ → ℕ → ℕ → List ℕ → List ℕ → End
drain_events limit rows e es ring head tail budget journal scratch =
    run (frame (asked_events limit rows e es) ring head) (judge_events (known rows e) es) ring budget (start tail journal scratch)

-- ---- the reader of one record with a table: it has no journal; the frame is asked with a budget of one and 16 bytes of room

abbrev pub one_events_frame : ℕ → List Known → ℕ → List Event → List ℕ → ℕ → ℕ → List ℕ → Frame
one_events_frame limit rows e es ring head tail scratch = frame (asked_events limit rows e es) ring head tail 1 16 (length scratch)

-- the words are those of the event's attributes. "A body refusal carries its number and no value"
unfoldable pub taken_events : Known → List Event → Frame → List ℕ → ℕ → One
taken_events k es f xs tail = taken_by f tail (judge_events k es xs) (record_words (layout_for k es xs) xs)

unfoldable pub read_one_events : ℕ → List Known → ℕ → List Event → List ℕ → ℕ → ℕ → List ℕ → One
read_one_events limit rows e es ring head tail scratch =
    cond (one_events_frame limit rows e es ring head tail scratch).go
    (taken_events
    (known rows e)
    es
    (one_events_frame limit rows e es ring head tail scratch)
    (record_at ring (one_events_frame limit rows e es ring head tail scratch).place (one_events_frame limit rows e es ring head tail scratch).size)
    tail)
    (not_taken (one_events_frame limit rows e es ring head tail scratch) tail)

unfoldable pub one_events_scratch : ℕ → List Known → ℕ → List Event → List ℕ → ℕ → ℕ → List ℕ → List ℕ
one_events_scratch limit rows e es ring head tail scratch =
    cond (one_events_frame limit rows e es ring head tail scratch).go
    (scratch_after ring (one_events_frame limit rows e es ring head tail scratch).place (one_events_frame limit rows e es ring head tail scratch).size scratch)
    scratch

-- ---- record check with a table (M-112)

-- 2, 11, then 7, 6, 7 as record check has them; 0 where the record's bytes are looked at
unfoldable pub unasked : ℕ → List Known → ℕ → List Event → List ℕ → ℕ
unasked limit rows e es xs =
    first (refusal (not (allowed rows e)) 2 ∷ refusal (not (sound limit es)) 11 ∷ []) (checked_by (λ (ys : List ℕ). 0) xs)

-- the answer that record check with a table shares with the reader of a record's words
unfoldable pub check_events : ℕ → List Known → ℕ → List Event → List ℕ → ℕ
check_events limit rows e es xs = or_else (unasked limit rows e es xs) (judge_events (known rows e) es xs)

-- "0 without a lookup": 2, 11, 7 and 6 come before it
unfoldable pub check_inspected : ℕ → List Known → ℕ → List Event → List ℕ → ℕ
check_inspected limit rows e es xs = cond (eqb (unasked limit rows e es xs) 0) (inspected (known rows e) es xs) 0

abbrev pub judged : ℕ → ℕ → Judged
judged answer inspected = record { answer = answer; inspected = inspected }

-- record check's 44 in place of 0, by the flag of the record under its event's attributes
unfoldable pub record_check_events : ℕ → List Known → ℕ → List Event → List ℕ → Judged
record_check_events limit rows e es xs =
    judged
    (or_else (check_events limit rows e es xs) (cond (eqb (flag_of (layout_for (known rows e) es xs) xs) 0) 0 44))
    (check_inspected limit rows e es xs)

-- the reader into lent words: no 44; 40 if there are fewer than 56 of them, and the number inspected is told all the same
unfoldable pub read_events : ℕ → List Known → ℕ → List Event → List ℕ → List ℕ → Judged
read_events limit rows e es xs words =
    judged (or_else (check_events limit rows e es xs) (cond (leb value_words (length words)) 0 40)) (check_inspected limit rows e es xs)

-- refused: unchanged; accepted: the first 56 are those of the record under its event's attributes, the rest unchanged
unfoldable pub read_events_words : ℕ → List Known → ℕ → List Event → List ℕ → List ℕ → List ℕ
read_events_words limit rows e es xs words =
    cond (eqb (read_events limit rows e es xs words).answer 0) (put words 0 (record_words (layout_for (known rows e) es xs) xs)) words
