-- Streams with holes, under edition 2 and a table of one event: what is kept, the list, the answers. The checker computes them. Assumes nothing.
use Rattle.std.specs.Prelude.{◌≡◌, refl, ℕ, ◌+◌, ◌^◌, List, [], ◌∷◌, ◌++◌}
use Rattle.meaning.specs.declared.Event.{Event}
use Rattle.meaning.specs.Bytes.{num, spell, bit, ones, zeros, zero_in, put}
use Rattle.meaning.specs.Refusals.{first}
use Rattle.meaning.specs.Items as Items
use Rattle.meaning.specs.Editions.{editions, known, outside, bits, depends, unreadable}
use Rattle.meaning.specs.Records.{layout, kind_of, misc_of, size_of, room_shape, room, fields_of, closed, fields_answer, judge}
use Rattle.meaning.specs.Events.{attributes_of, distinct, all_marked, event_limit, sound, identifier_of, index_of, judge_events}
use Rattle.entries.specs.Entries.{entry_bytes}
use Rattle.runs.proofs.Streams.{joined}
use Rattle.salvage.specs.declared.Salvaged.{Salvaged}
use Rattle.salvage.specs.Salvage.{keeps, step, pieces, kept_in, output, Run, run, join, holes_in, holes, dropped, changes, salvage_answer, list_after, tells, salvaged, salvage_told, salvage_list, table_judge}

-- one event: identifier 5, sample bit 16 and sample_id_all
abbrev one : List Event
one = record { identifier = 5; sample = 2 ^ 16; format = 0; user = 0; interrupt = 0; branch = 0; all = 1 } ∷ []

abbrev rules : List ℕ → ℕ
rules = table_judge editions 2 one

abbrev header : ℕ → ℕ → List ℕ
header kind size = spell 4 kind ++ (spell 2 0 ++ spell 2 size)

-- accepted: a switch of 16 bytes, a LOST of 32, each with its identifier at its end; a name with a byte after its zero
abbrev switch : List ℕ
switch = header 14 16 ++ spell 8 5

abbrev lost : List ℕ
lost = header 2 32 ++ (spell 8 7 ++ (spell 8 9 ++ spell 8 5))

abbrev dirty : List ℕ
dirty = header 3 32 ++ (spell 8 1 ++ ((65 ∷ 66 ∷ 0 ∷ 67 ∷ 0 ∷ 0 ∷ 0 ∷ 0 ∷ []) ++ spell 8 5))

-- refused: another identifier
abbrev stranger : List ℕ
stranger = header 14 16 ++ spell 8 6

-- a stream, what is kept of it, and its holes
pub record Case : Type 0 where
  pub stream : List ℕ
  pub kept : List ℕ
  pub holed : List Run

abbrev case : List ℕ → List ℕ → List Run → Case
case stream kept holed = record { stream = stream; kept = kept; holed = holed }

abbrev pub cases : List Case
cases =
    case [] [] []
    -- records end to end
    ∷ case (switch ++ (lost ++ dirty)) (switch ++ (lost ++ dirty)) []
    -- fewer than 8 bytes left: all dropped
    ∷ case (zeros 7) [] (run 0 7 ∷ [])
    ∷ case (switch ++ zeros 3) switch (run 16 3 ∷ [])
    -- two steps, one run; then a second run
    ∷ case (zeros 16 ++ (switch ++ (zeros 8 ++ lost))) (switch ++ lost) (run 0 16 ∷ run 32 8 ∷ [])
    -- an identifier that is in no table: refused, though it is framed
    ∷ case (stranger ++ switch) switch (run 0 16 ∷ [])
    -- a type that the edition doesn't know: the search goes on inside it, and finds the record in its body
    ∷ case (header 16 24 ++ switch) switch (run 0 8 ∷ [])
    -- a size past the end: 7
    ∷ case (header 2 32 ++ switch) switch (run 0 8 ∷ [])
    -- a size below 8, and one that is no multiple of 8: 6
    ∷ case (header 14 4 ++ (header 14 12 ++ lost)) lost (run 0 16 ∷ [])
    -- a hole of 12 bytes: what follows it is no longer met at its start
    ∷ case (switch ++ (zeros 12 ++ lost)) switch (run 16 44 ∷ [])
    ∷ []

pub record Found : Type 0 where
  pub kept : List ℕ
  pub holed : List Run

abbrev pub found : List Case → List Found
found [] = []
found (c ∷ cs) = record { kept = output rules c.stream; holed = holes rules c.stream } ∷ found cs

abbrev pub wanted : List Case → List Found
wanted [] = []
wanted (c ∷ cs) = record { kept = c.kept; holed = c.holed } ∷ wanted cs

pub every-case : found cases ≡ wanted cases
unfolding num spell bit ones zero_in first Items.span Items.rule Items.holds Items.counted Items.before Items.past Items.part Items.settle Items.shape_step Items.step Items.walk known outside bits depends unreadable layout kind_of misc_of size_of room_shape room fields_of closed fields_answer judge attributes_of identifier_of index_of judge_events keeps step pieces joined kept_in join holes_in
every-case = refl

-- ---- what is told, for a stream of which 48 bytes are kept and that has one hole: 54 where either buffer is a byte too short; 11 before 54, and 2 before 11

abbrev holed : List ℕ
holed = switch ++ (zeros 16 ++ lost)

abbrev pub answers : List Salvaged
answers =
    salvage_told event_limit editions 2 one holed (zeros 48) (zeros 22)
    ∷ salvage_told event_limit editions 2 one holed (zeros 47) (zeros 22)
    ∷ salvage_told event_limit editions 2 one holed (zeros 48) (zeros 21)
    ∷ salvage_told event_limit editions 2 [] holed (zeros 47) (zeros 21)
    ∷ salvage_told event_limit editions 0 [] holed (zeros 47) (zeros 21)
    ∷ []

pub answers-are : answers ≡ tells 48 16 22 0 ∷ tells 0 0 0 54 ∷ tells 0 0 0 54 ∷ tells 0 0 0 11 ∷ tells 0 0 0 2 ∷ []
unfolding num spell bit ones zero_in put first Items.span Items.rule Items.holds Items.counted Items.before Items.past Items.part Items.settle Items.shape_step Items.step Items.walk known outside bits depends unreadable layout kind_of misc_of size_of room_shape room fields_of closed fields_answer judge attributes_of distinct all_marked sound identifier_of index_of judge_events entry_bytes keeps step pieces joined kept_in join holes_in dropped changes salvage_answer salvaged
answers-are = refl

-- the list's entry, byte for byte: length 22, kind 32, start 16, length 16; the rest of the buffer as it was
pub entry-is : salvage_list event_limit editions 2 one holed (zeros 48) (1 ∷ zeros 22 ++ (7 ∷ []))
    ≡ 22 ∷ 0 ∷ 0 ∷ 0 ∷ 32 ∷ 0 ∷ 16 ∷ 0 ∷ 0 ∷ 0 ∷ 0 ∷ 0 ∷ 0 ∷ 0 ∷ 16 ∷ 0 ∷ 0 ∷ 0 ∷ 0 ∷ 0 ∷ 0 ∷ 0 ∷ 0 ∷ 7 ∷ []
unfolding num spell bit ones zero_in put first Items.span Items.rule Items.holds Items.counted Items.before Items.past Items.part Items.settle Items.shape_step Items.step Items.walk known outside bits depends unreadable layout kind_of misc_of size_of room_shape room fields_of closed fields_answer judge attributes_of distinct all_marked sound identifier_of index_of judge_events entry_bytes keeps step pieces joined kept_in join holes_in dropped changes salvage_answer list_after
entry-is = refl
