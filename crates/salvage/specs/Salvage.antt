-- "Salvage of damaged images. Saved record streams come back with holes." For any judge of a record's bytes; at the end for one edition and one table.
-- Assumes nothing: these are definitions.
use Rattle.std.specs.Prelude.{ℕ, zero, suc, ◌+◌, ◌%◌, Bool, cond, not, ◌&&◌, ◌||◌, List, [], ◌∷◌, ◌++◌, leb, ltb, eqb, length, take, drop}
use Rattle.meaning.specs.declared.Event.{Event}
use Rattle.meaning.specs.declared.Known.{Known}
use Rattle.meaning.specs.Bytes.{spell, put}
use Rattle.meaning.specs.Editions.{known, allowed}
use Rattle.meaning.specs.Events.{sound, judge_events}
use Rattle.meaning.specs.Records.{size_of}
use Rattle.meaning.specs.Refusals.{refusal, first, or_else}
use Rattle.entries.specs.Entries.{entry_bytes}
use Rattle.runs.proofs.Streams.{joined}
use Rattle.salvage.specs.declared.Salvaged.{Salvaged}

-- ---- the steps

-- "if the frame passes 6 and 7 against the bytes left and the body is accepted"
unfoldable pub keeps : (List ℕ → ℕ) → List ℕ → Bool
keeps judge left =
    (leb 8 (size_of left) && eqb (size_of left % 8) 0)
    && (leb (size_of left) (length left) && eqb (judge (take (size_of left) left)) 0)

-- "keep the record; otherwise drop 8 bytes, or all that is left if fewer": to take 8 of fewer bytes is to take them all
unfoldable pub step : (List ℕ → ℕ) → List ℕ → ℕ
step judge left = cond (keeps judge left) (size_of left) 8

-- the bytes of a step: a record that is kept, or bytes that are dropped
pub record Piece : Type 0 where
  pub kept : Bool
  pub bytes : List ℕ

abbrev pub piece : Bool → List ℕ → Piece
piece kept bytes = record { kept = kept; bytes = bytes }

-- "At each place": the steps from a place on, by the bytes that are left there. There are never more steps than bytes
unfoldable pub pieces : (List ℕ → ℕ) → ℕ → List ℕ → List Piece
pieces judge zero left = []
pieces judge (suc n) [] = []
pieces judge (suc n) (x ∷ xs) =
    piece (keeps judge (x ∷ xs)) (take (step judge (x ∷ xs)) (x ∷ xs)) ∷ pieces judge n (drop (step judge (x ∷ xs)) (x ∷ xs))

-- ---- the output

unfoldable pub kept_in : List Piece → List (List ℕ)
kept_in [] = []
kept_in (p ∷ ps) = cond p.kept (p.bytes ∷ kept_in ps) (kept_in ps)

abbrev pub kept_records : (List ℕ → ℕ) → List ℕ → List (List ℕ)
kept_records judge xs = kept_in (pieces judge (length xs) xs)

-- what is kept of a stream
abbrev pub output : (List ℕ → ℕ) → List ℕ → List ℕ
output judge xs = joined (kept_records judge xs)

-- ---- the list of changes

-- bytes in a row: "its start and length". A start is a place in the input. A run that is dropped is a hole
pub record Run : Type 0 where
  pub start : ℕ
  pub length : ℕ

abbrev pub run : ℕ → ℕ → Run
run start n = record { start = start; length = n }

-- "each longest dropped run": n bytes dropped before the holes that follow them are one hole with the next where they touch it
unfoldable pub join : ℕ → ℕ → List Run → List Run
join start n [] = run start n ∷ []
join start n (h ∷ hs) = cond (eqb h.start (start + n)) (run start (n + h.length) ∷ hs) (run start n ∷ h ∷ hs)

unfoldable pub holes_in : ℕ → List Piece → List Run
holes_in at [] = []
holes_in at (p ∷ ps) =
    cond p.kept (holes_in (at + length p.bytes) ps) (join at (length p.bytes) (holes_in (at + length p.bytes) ps))

abbrev pub holes : (List ℕ → ℕ) → List ℕ → List Run
holes judge xs = holes_in 0 (pieces judge (length xs) xs)

-- "bytes dropped .. summed from .. the list"
unfoldable pub dropped : List Run → ℕ
dropped [] = 0
dropped (h ∷ hs) = h.length + dropped hs

-- "one M-103 entry of kind 32 .. start and length in 8 bytes each"
abbrev pub hole_bytes : Run → List ℕ
hole_bytes h = entry_bytes 32 (spell 8 h.start ++ spell 8 h.length)

unfoldable pub changes : List Run → List ℕ
changes [] = []
changes (h ∷ hs) = hole_bytes h ++ changes hs

-- ---- the answer, and both buffers

-- "under one edition and one table (refusals 2, then 11)": is the edition one, is the table sound?
abbrev pub unready : Bool → Bool → ℕ
unready ok sound = first (refusal (not ok) 2 ∷ refusal (not sound) 11 ∷ []) 0

-- "No room in either buffer is 54, found before anything is written"; `before` is the refusal that comes before it, or 0
unfoldable pub salvage_answer : ℕ → (List ℕ → ℕ) → List ℕ → ℕ → ℕ → ℕ
salvage_answer before judge xs room list_room =
    or_else before (cond (ltb room (length (output judge xs)) || ltb list_room (length (changes (holes judge xs)))) 54 0)

abbrev pub accepted : ℕ → (List ℕ → ℕ) → List ℕ → List ℕ → List ℕ → Bool
accepted before judge xs out list = eqb (salvage_answer before judge xs (length out) (length list)) 0

-- "write to a second buffer"
unfoldable pub out_after : ℕ → (List ℕ → ℕ) → List ℕ → List ℕ → List ℕ → List ℕ
out_after before judge xs out list = cond (accepted before judge xs out list) (put out 0 (output judge xs)) out

-- "Also write a list of changes"
unfoldable pub list_after : ℕ → (List ℕ → ℕ) → List ℕ → List ℕ → List ℕ → List ℕ
list_after before judge xs out list = cond (accepted before judge xs out list) (put list 0 (changes (holes judge xs))) list

-- what is told: bytes kept, bytes dropped, bytes of the list, the answer; of a refusal the answer alone
abbrev pub tells : ℕ → ℕ → ℕ → ℕ → Salvaged
tells kept dropped changes answer = record { kept = kept; dropped = dropped; changes = changes; answer = answer }

unfoldable pub salvaged : ℕ → (List ℕ → ℕ) → List ℕ → ℕ → ℕ → Salvaged
salvaged before judge xs room list_room =
    cond (eqb (salvage_answer before judge xs room list_room) 0)
    (tells (length (output judge xs)) (dropped (holes judge xs)) (length (changes (holes judge xs))) 0)
    (tells 0 0 0 (salvage_answer before judge xs room list_room))

-- ---- "under one edition and one table": the refusals before the room, and the judge of a body

abbrev pub table_unready : ℕ → List Known → ℕ → List Event → ℕ
table_unready limit rows e es = unready (allowed rows e) (sound limit es)

abbrev pub table_judge : List Known → ℕ → List Event → List ℕ → ℕ
table_judge rows e es = judge_events (known rows e) es

-- what is told, and what both buffers hold then
abbrev pub salvage_told : ℕ → List Known → ℕ → List Event → List ℕ → List ℕ → List ℕ → Salvaged
salvage_told limit rows e es xs out list = salvaged (table_unready limit rows e es) (table_judge rows e es) xs (length out) (length list)

abbrev pub salvage_out : ℕ → List Known → ℕ → List Event → List ℕ → List ℕ → List ℕ → List ℕ
salvage_out limit rows e es xs out list = out_after (table_unready limit rows e es) (table_judge rows e es) xs out list

abbrev pub salvage_list : ℕ → List Known → ℕ → List Event → List ℕ → List ℕ → List ℕ → List ℕ
salvage_list limit rows e es xs out list = list_after (table_unready limit rows e es) (table_judge rows e es) xs out list
