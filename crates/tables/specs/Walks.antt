-- The walk over a backward ring (M-109), worked out in plain numbers from document 02, at its edges: what is told, every byte of journal and scratch. The
-- checker computes what `meaning` says of each case and finds the case's own numbers. Assumes nothing.
use Rattle.std.specs.Prelude.{◌≡◌, refl, ℕ, ◌-◌, ◌^◌, Bool, true, false, ◌&&◌, List, [], ◌∷◌, ◌++◌, eqb, length, take, drop}
use Rattle.meaning.specs.declared.Attributes.{Attributes}
use Rattle.meaning.specs.Bytes.{num, spell, bit, ones, zeros, zero_in, put}
use Rattle.meaning.specs.Refusals.{first}
use Rattle.meaning.specs.Items.{span, rule, holds, counted, before, past, part, settle, shape_step, step, walk}
use Rattle.meaning.specs.Editions.{editions, allowed, known, unreadable}
use Rattle.meaning.specs.Records.{layout, kind_of, misc_of, size_of, room_shape, room, fields_of, closed, fields_answer, judge}
use Rattle.meaning.specs.Ring.{asking_with, length_allowed, distance, record_at, stopped, scratch_after}
use Rattle.meaning.specs.Drain.{End, journal_kind, entry, run}
use Rattle.meaning.specs.Backward.{placed, back_frame, walk_by}

-- what is lent: edition, is the table of events sound, ring, head, budget, journal room, scratch bytes, all of them zero
pub record Lent : Type 0 where
  pub edition : ℕ
  pub table : Bool
  pub ring : List ℕ
  pub head : ℕ
  pub budget : ℕ
  pub room : ℕ
  pub short : ℕ

-- what is wanted: records, bytes, stop; the journal's entries; what the scratch begins with
pub record Case : Type 0 where
  pub lent : Lent
  pub taken : ℕ
  pub bytes : ℕ
  pub stop : ℕ
  pub entries : List ℕ
  pub scratch : List ℕ

-- edition 3, and no table
abbrev plain : List ℕ → ℕ → ℕ → ℕ → ℕ → Lent
plain ring head budget room short = record { edition = 3; table = true; ring = ring; head = head; budget = budget; room = room; short = short }

abbrev under : ℕ → Bool → Lent → Lent
under e table l = record { edition = e; table = table; ring = l.ring; head = l.head; budget = l.budget; room = l.room; short = l.short }

abbrev case : Lent → ℕ → ℕ → ℕ → List ℕ → List ℕ → Case
case l taken bytes stop entries scratch = record { lent = l; taken = taken; bytes = bytes; stop = stop; entries = entries; scratch = scratch }

-- a header of a type that says a size; a LOST record of 24 bytes; a switch of 8
abbrev header : ℕ → ℕ → List ℕ
header kind size = kind ∷ 0 ∷ 0 ∷ 0 ∷ 0 ∷ 0 ∷ size ∷ 0 ∷ []

abbrev word : ℕ → List ℕ
word x = x ∷ 0 ∷ 0 ∷ 0 ∷ 0 ∷ 0 ∷ 0 ∷ 0 ∷ []

abbrev lost : List ℕ
lost = header 2 24 ++ (word 7 ++ word 9)

abbrev switch : List ℕ
switch = header 14 8

-- a ring of 64 bytes that starts with the bytes given, the rest zero
abbrev from : List ℕ → List ℕ
from xs = xs ++ zeros (64 - length xs)

-- eight switches fill the ring
abbrev full : List ℕ
full = ((switch ++ switch) ++ (switch ++ switch)) ++ ((switch ++ switch) ++ (switch ++ switch))

-- the LOST record from place 56 on: 8 bytes there, 16 at the ring's start, and a switch after it
abbrev round : List ℕ
round = ((drop 8 lost ++ switch) ++ zeros 32) ++ take 8 lost

-- an entry: length 16, kind, answer, the record's start; and the last start before the counts wrap
abbrev noted : ℕ → ℕ → List ℕ → List ℕ
noted kind answer start = (16 ∷ 0 ∷ 0 ∷ 0 ∷ kind ∷ 0 ∷ answer ∷ 0 ∷ []) ++ start

abbrev last_count : List ℕ
last_count = 248 ∷ 255 ∷ 255 ∷ 255 ∷ 255 ∷ 255 ∷ 255 ∷ 255 ∷ []

-- "A header whose size is 0 ends the walk with 0, as does having walked the whole length": the other bytes of that header do not matter; 0, 6 and 13 are told
-- with the budget used up and no journal room too
pub zero_cases : List Case
zero_cases =
    case (plain (from (switch ++ lost)) 0 9 64 0) 2 32 0 (noted 14 0 (word 0) ++ noted 2 0 (word 8)) []
    ∷ case (plain (from (switch ++ header 9 0)) 0 9 64 0) 1 8 0 (noted 14 0 (word 0)) []
    ∷ case (plain (zeros 64) 0 9 64 0) 0 0 0 [] []
    ∷ case (plain (zeros 64) 0 0 0 0) 0 0 0 [] []
    ∷ case (plain (from switch) 0 1 16 0) 1 8 0 (noted 14 0 (word 0)) []
    ∷ case (plain (from (lost ++ header 2 40)) 0 9 64 0) 2 64 0 (noted 2 0 (word 0) ++ noted 2 31 (word 24)) []
    ∷ case (plain (from (header 2 64)) 0 9 64 0) 1 64 0 (noted 2 31 (word 0)) []
    ∷ []

-- "a size that runs past the length ends it with 13 .. Any other size refused by 6 ends it with 6": 6 comes before 13
pub size_cases : List Case
size_cases =
    case (plain (from (lost ++ header 2 48)) 0 9 64 0) 1 24 13 (noted 2 0 (word 0)) []
    ∷ case (plain (from (header 2 72)) 0 9 64 0) 0 0 13 [] []
    ∷ case (plain (from (header 2 72)) 0 0 0 0) 0 0 13 [] []
    ∷ case (plain (from (lost ++ header 2 12)) 0 9 64 0) 1 24 6 (noted 2 0 (word 0)) []
    ∷ case (plain (from (lost ++ header 2 4)) 0 9 64 0) 1 24 6 (noted 2 0 (word 0)) []
    ∷ case (plain (from (lost ++ header 2 100)) 0 9 64 0) 1 24 6 (noted 2 0 (word 0)) []
    ∷ case (plain (from (header 2 12)) 0 0 0 0) 0 0 6 [] []
    ∷ []

-- what is lent: 8, 9, 3, in this order; a record that crosses the ring's end is copied
pub lent_cases : List Case
lent_cases =
    case (plain (from (switch ++ lost)) 0 1 64 0) 1 8 8 (noted 14 0 (word 0)) []
    ∷ case (plain (from (switch ++ lost)) 0 9 31 0) 1 8 9 (noted 14 0 (word 0)) []
    ∷ case (plain (from (switch ++ lost)) 0 0 0 0) 0 0 8 [] []
    ∷ case (plain round 56 9 64 24) 2 32 0 (noted 2 0 (word 56) ++ noted 14 0 (word 80)) lost
    ∷ case (plain round 56 9 64 23) 0 0 3 [] []
    ∷ case (plain round 56 9 15 23) 0 0 9 [] []
    ∷ case (plain round 56 0 64 23) 0 0 8 [] []
    ∷ []

-- "1, 2, 5 (head alone), 11 with a table, 0": edition 5 is none; then a body that is refused ends nothing: edition 1 does not know type 14
pub call_cases : List Case
call_cases =
    case (under 5 false (plain (zeros 63) 4 9 64 0)) 0 0 1 [] []
    ∷ case (under 5 false (plain (zeros 64) 4 9 64 0)) 0 0 2 [] []
    ∷ case (under 3 false (plain (zeros 64) 4 9 64 0)) 0 0 5 [] []
    ∷ case (under 3 false (plain (zeros 64) 8 9 64 0)) 0 0 11 [] []
    ∷ case (under 3 true (plain (zeros 64) 8 9 64 0)) 0 0 0 [] []
    ∷ case (under 1 true (plain (from (switch ++ lost)) 0 9 64 0)) 2 32 0 (noted 14 20 (word 0) ++ noted 2 0 (word 8)) []
    ∷ []

-- "a record's start as head plus the way walked, wrapping": the start after 2^64 - 8 is 0; eight records fill the ring, and the walk ends there
pub round_cases : List Case
round_cases =
    case (plain full (2 ^ 64 - 8) 9 144 0) 8 64 0
    (noted 14 0 last_count ++ (noted 14 0 (word 0) ++ (noted 14 0 (word 8) ++ (noted 14 0 (word 16)
    ++ (noted 14 0 (word 24) ++ (noted 14 0 (word 32) ++ (noted 14 0 (word 40) ++ noted 14 0 (word 48)))))))) []
    ∷ case (plain full 64 8 128 0) 8 64 0
    (noted 14 0 (word 64) ++ (noted 14 0 (word 72) ++ (noted 14 0 (word 80) ++ (noted 14 0 (word 88)
    ++ (noted 14 0 (word 96) ++ (noted 14 0 (word 104) ++ (noted 14 0 (word 112) ++ noted 14 0 (word 120)))))))) []
    ∷ []

-- ---- the comparison

abbrev same : List ℕ → List ℕ → Bool
same [] [] = true
same (x ∷ xs) (y ∷ ys) = eqb x y && same xs ys
same [] (y ∷ ys) = false
same (x ∷ xs) [] = false

abbrev attributes : Attributes
attributes = record { sample = 0; format = 0; all = false; user = 0; interrupt = 0; branch = 0 }

abbrev walk_of : Lent → End
walk_of l =
    walk_by (asking_with (allowed editions l.edition) l.table) (judge (layout (known editions l.edition) attributes))
    l.ring l.head l.budget (zeros l.room) (zeros l.short)

abbrev as_wanted : Case → End → Bool
as_wanted c d =
    eqb d.state.taken c.taken
    && (eqb d.state.bytes c.bytes
    && (eqb d.stop c.stop
    && (same d.state.journal (c.entries ++ zeros (c.lent.room - length c.entries)) && same d.state.scratch (c.scratch ++ zeros (c.lent.short - length c.scratch)))))

pub passes : Case → Bool
passes c = as_wanted c (walk_of c.lent)

pub all : List Case → Bool
all [] = true
all (c ∷ cs) = passes c && all cs

pub walk-zero-same : all zero_cases ≡ true
unfolding all passes zero_cases num spell bit ones zero_in put first span rule holds counted before past part settle shape_step step walk known unreadable layout kind_of misc_of size_of room_shape room fields_of closed fields_answer judge length_allowed distance record_at stopped scratch_after journal_kind entry run placed back_frame
walk-zero-same = refl

pub walk-size-same : all size_cases ≡ true
unfolding all passes size_cases num spell bit ones zero_in put first span rule holds counted before past part settle shape_step step walk known unreadable layout kind_of misc_of size_of room_shape room fields_of closed fields_answer judge length_allowed distance record_at stopped scratch_after journal_kind entry run placed back_frame
walk-size-same = refl

pub walk-lent-same : all lent_cases ≡ true
unfolding all passes lent_cases num spell bit ones zero_in put first span rule holds counted before past part settle shape_step step walk known unreadable layout kind_of misc_of size_of room_shape room fields_of closed fields_answer judge length_allowed distance record_at stopped scratch_after journal_kind entry run placed back_frame
walk-lent-same = refl

pub walk-call-same : all call_cases ≡ true
unfolding all passes call_cases num spell bit ones zero_in put first span rule holds counted before past part settle shape_step step walk known unreadable layout kind_of misc_of size_of room_shape room fields_of closed fields_answer judge length_allowed distance record_at stopped scratch_after journal_kind entry run placed back_frame
walk-call-same = refl

pub walk-round-same : all round_cases ≡ true
unfolding all passes round_cases num spell bit ones zero_in put first span rule holds counted before past part settle shape_step step walk known unreadable layout kind_of misc_of size_of room_shape room fields_of closed fields_answer judge length_allowed distance record_at stopped scratch_after journal_kind entry run placed back_frame
walk-round-same = refl
