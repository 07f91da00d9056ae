-- The bytes of a store, and what writing it answers: "Writing refuses with 11, 1, 2, then 40 for no room, the buffer unchanged."
-- Assumes nothing: these are definitions.
use Rattle.std.specs.Prelude.{ℕ, suc, ◌+◌, cond, not, List, [], ◌∷◌, ◌++◌, eqb, ltb, length, get_or, Result, Ok, Err}
use Rattle.meaning.specs.declared.Reason.{Reason}
use Rattle.meaning.specs.Reasons.{number_of}
use Rattle.meaning.specs.Bytes.{spell, put}
use Rattle.meaning.specs.Refusals.{Refusal, refusal, first}
use Rattle.meaning.specs.declared.Known.{Known}
use Rattle.meaning.specs.Editions.{allowed}
use Rattle.meaning.specs.Ring.{length_allowed}
use Rattle.entries.specs.Entries.{entry_bytes}
use Rattle.meaning.specs.Events.{events_of, sound}
use Rattle.settings.specs.declared.Stored.{Stored}
use Rattle.settings.specs.Versions.{Version, two}

-- the version that this build writes: "New builds .. write version 2"
abbrev pub writes : Version
writes = two

-- identifier, sample type, read format, user mask, interrupt mask, branch sample type of a row, 8 bytes each
abbrev pub word_bytes : List ℕ → List ℕ
word_bytes r =
    spell 8 (get_or r 0 0)
    ++ (spell 8 (get_or r 1 0) ++ (spell 8 (get_or r 2 0) ++ (spell 8 (get_or r 3 0) ++ (spell 8 (get_or r 4 0) ++ spell 8 (get_or r 5 0)))))

-- an event entry "starts with its index"
abbrev pub row_bytes : Version → ℕ → List ℕ → List ℕ
row_bytes v n r = entry_bytes 2 (spell v.width n ++ word_bytes r)

unfoldable pub rows_bytes : Version → ℕ → List (List ℕ) → List ℕ
rows_bytes v n [] = []
rows_bytes v n (r ∷ rs) = row_bytes v n r ++ rows_bytes v (suc n) rs

-- "kind 3 holds ring length (8 bytes), edition (1) and budget (4)"
abbrev pub last_bytes : ℕ → ℕ → ℕ → List ℕ
last_bytes ring edition budget = entry_bytes 3 (spell 8 ring ++ (spell 1 edition ++ spell 4 budget))

unfoldable pub store_bytes : Version → List (List ℕ) → ℕ → ℕ → ℕ → List ℕ
store_bytes v rows ring edition budget = entry_bytes 1 (spell 2 v.number) ++ (rows_bytes v 0 rows ++ last_bytes ring edition budget)

abbrev pub write_rows : Version → List Known → List (List ℕ) → ℕ → ℕ → ℕ → ℕ → List Refusal
write_rows v ks rows ring edition need room =
    refusal (not (sound v.limit (events_of rows))) 11
    ∷ refusal (not (length_allowed ring)) 1
    ∷ refusal (not (allowed ks edition)) 2
    ∷ refusal (ltb room need) 40
    ∷ []

unfoldable pub write_answer : Version → List Known → List (List ℕ) → ℕ → ℕ → ℕ → ℕ → ℕ
write_answer v ks rows ring edition budget room = first (write_rows v ks rows ring edition (length (store_bytes v rows ring edition budget)) room) 0

abbrev pub stored : ℕ → ℕ → Stored
stored answer bytes = record { answer = answer; bytes = bytes }

-- what a writer that may be refused tells: the number of bytes, or its answer
abbrev pub told : Result ℕ Reason → Stored
told (Ok bytes) = stored 0 bytes
told (Err reason) = stored (number_of reason) 0

unfoldable pub write_store : Version → List Known → List (List ℕ) → ℕ → ℕ → ℕ → ℕ → Stored
write_store v ks rows ring edition budget room =
    cond (eqb (write_answer v ks rows ring edition budget room) 0)
    (stored 0 (length (store_bytes v rows ring edition budget)))
    (stored (write_answer v ks rows ring edition budget room) 0)

unfoldable pub buffer_after : Version → List Known → List (List ℕ) → ℕ → ℕ → ℕ → List ℕ → List ℕ
buffer_after v ks rows ring edition budget buffer =
    cond (eqb (write_answer v ks rows ring edition budget (length buffer)) 0) (put buffer 0 (store_bytes v rows ring edition budget)) buffer
