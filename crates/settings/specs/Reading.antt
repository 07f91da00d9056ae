-- What a store reads as. "At the first faulty entry, in this order: 50 if it is the store's first, of kind 1, and its eight bytes show another
-- version; 51 if cut short, shorter than 6 or not fitting a known kind; 52 for any other departure; a store that ends before kind 3, the
-- empty one too, is 51, a ring length or edition not allowed is 52. Last come 11, as in M-100, and 40 if the lent table is too short;
-- refused, it is unchanged; accepted, rows past those read are."
-- The versions and the editions that a build knows are arguments. Assumes nothing: these are definitions.
use Rattle.std.specs.Prelude.{ℕ, zero, suc, ◌+◌, Bool, false, cond, not, ◌&&◌, ◌||◌, List, [], ◌∷◌, ◌++◌, eqb, ltb, length, drop, Result, Ok, Err}
use Rattle.meaning.specs.declared.Reason.{Reason}
use Rattle.meaning.specs.Reasons.{number_of}
use Rattle.meaning.specs.Bytes.{number_at}
use Rattle.meaning.specs.Refusals.{Refusal, refusal, first}
use Rattle.meaning.specs.declared.Known.{Known}
use Rattle.meaning.specs.Editions.{allowed}
use Rattle.meaning.specs.Ring.{length_allowed}
use Rattle.entries.specs.Entries.{Entry}
use Rattle.entries.specs.Entries.{entry_at}
use Rattle.meaning.specs.Events.{events_of, sound}
use Rattle.settings.specs.declared.Settings.{Settings}
use Rattle.settings.specs.Versions.{Version, version_of, is_known, row_length, place_of}

-- ---- entries of a known kind

-- kind 1 holds a version of two bytes; kind 2 has an event; kind 3 holds "ring length (8 bytes), edition (1) and budget (4)"
abbrev pub shows_version : Entry → Bool
shows_version e = e.whole && (eqb e.kind 1 && eqb e.length 2)

abbrev pub is_event : Version → Entry → Bool
is_event v e = e.whole && (eqb e.kind 2 && eqb e.length (row_length v))

abbrev pub is_last : Entry → Bool
is_last e = e.whole && (eqb e.kind 3 && eqb e.length 13)

unfoldable pub is_event_of : List Version → Entry → Bool
is_event_of [] e = false
is_event_of (v ∷ vs) e = is_event v e || is_event_of vs e

-- not "cut short, shorter than 6 or not fitting a known kind"; before the version is known an event of any will do
unfoldable pub fits : List Version → Entry → Bool
fits vs e = shows_version e || (is_event_of vs e || is_last e)

-- ---- the events

-- "Indexes run from 0 upward without gaps": does the event entry of index n stand at its place?
unfoldable pub in_turn : Version → List ℕ → ℕ → Bool
in_turn v xs n = is_event v (entry_at xs (place_of v n)) && eqb (number_at v.width xs (place_of v n + 6)) n

-- how many stand there one after the other from index n on; there are never more than bytes
unfoldable pub turns_from : Version → List ℕ → ℕ → ℕ → ℕ
turns_from v xs zero n = n
turns_from v xs (suc most) n = cond (in_turn v xs n) (turns_from v xs most (suc n)) n

abbrev pub count_of : Version → List ℕ → ℕ
count_of v xs = turns_from v xs (length xs) 0

-- "identifier, sample type, read format, user mask, interrupt mask and branch sample type, 8 bytes each", from a place on; sample_id_all is
-- not stored: it is set
abbrev pub row_from : List ℕ → ℕ → List ℕ
row_from xs at =
    number_at 8 xs at
    ∷ number_at 8 xs (at + 8)
    ∷ number_at 8 xs (at + 16)
    ∷ number_at 8 xs (at + 24)
    ∷ number_at 8 xs (at + 32)
    ∷ number_at 8 xs (at + 40)
    ∷ 1
    ∷ []

-- the rows of the first n events
unfoldable pub rows_of : Version → List ℕ → ℕ → List (List ℕ)
rows_of v xs zero = []
rows_of v xs (suc n) = rows_of v xs n ++ (row_from xs (place_of v n + (6 + v.width)) ∷ [])

-- ---- the refusals

-- the first entry
abbrev pub first_rows : List Version → List ℕ → List Refusal
first_rows vs xs =
    refusal (shows_version (entry_at xs 0) && not (is_known (version_of vs (number_at 2 xs 6)))) 50
    ∷ refusal (not (fits vs (entry_at xs 0))) 51
    ∷ refusal (not (eqb (entry_at xs 0).kind 1)) 52
    ∷ []

-- the entry after the events, at a place; where nothing is left, there is none and it is 51
abbrev pub last_rows : Version → List Known → List ℕ → ℕ → List Refusal
last_rows v ks xs at =
    refusal (not (fits (v ∷ []) (entry_at xs at))) 51
    ∷ refusal (not (eqb (entry_at xs at).kind 3)) 52
    ∷ refusal (not (length_allowed (number_at 8 xs (at + 6)))) 52
    ∷ refusal (not (allowed ks (number_at 1 xs (at + 14)))) 52
    ∷ []

-- "kind 3 comes last, once": what stands after it, at a place
abbrev pub after_rows : Version → List ℕ → ℕ → List Refusal
after_rows v xs at =
    refusal (not (eqb at (length xs)) && not (fits (v ∷ []) (entry_at xs at))) 51
    ∷ refusal (not (eqb at (length xs))) 52
    ∷ []

abbrev pub table_rows : ℕ → List (List ℕ) → ℕ → ℕ → List Refusal
table_rows limit rows n lent = refusal (not (sound limit (events_of rows))) 11 ∷ refusal (ltb lent n) 40 ∷ []

-- after the first entry, by the version that it shows and the number of events
unfoldable pub rest_answer : Version → List Known → List ℕ → ℕ → ℕ → ℕ
rest_answer v ks xs n lent =
    first (last_rows v ks xs (place_of v n)) (first (after_rows v xs (place_of v n + 19)) (first (table_rows v.limit (rows_of v xs n) n lent) 0))

-- the version that a store shows
abbrev pub shown : List Version → List ℕ → Version
shown vs xs = version_of vs (number_at 2 xs 6)

unfoldable pub store_answer : List Version → List Known → List ℕ → ℕ → ℕ
store_answer vs ks xs lent = first (first_rows vs xs) (rest_answer (shown vs xs) ks xs (count_of (shown vs xs) xs) lent)

-- ---- what is told, and what the lent table then holds

abbrev pub settings_at : List ℕ → ℕ → ℕ → Settings
settings_at xs n at =
    record {
      answer = 0;
      events = n;
      ring = number_at 8 xs (at + 6);
      edition = number_at 1 xs (at + 14);
      budget = number_at 4 xs (at + 15);
    }

abbrev pub refused : ℕ → Settings
refused k = record { answer = k; events = 0; ring = 0; edition = 0; budget = 0 }

-- what a reader that may be refused tells
abbrev pub told : Result Settings Reason → Settings
told (Ok s) = s
told (Err reason) = refused (number_of reason)

unfoldable pub read_store : List Version → List Known → List ℕ → ℕ → Settings
read_store vs ks xs lent =
    cond (eqb (store_answer vs ks xs lent) 0)
    (settings_at xs (count_of (shown vs xs) xs) (place_of (shown vs xs) (count_of (shown vs xs) xs)))
    (refused (store_answer vs ks xs lent))

unfoldable pub rows_after : List Version → List Known → List ℕ → List (List ℕ) → List (List ℕ)
rows_after vs ks xs rows =
    cond (eqb (store_answer vs ks xs (length rows)) 0)
    (rows_of (shown vs xs) xs (count_of (shown vs xs) xs) ++ drop (count_of (shown vs xs) xs) rows)
    rows
