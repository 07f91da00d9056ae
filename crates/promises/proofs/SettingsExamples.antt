-- Worked cases of a store of settings: its bytes in plain numbers; stores and what reading them answers, in one list with one computed proof.
-- Assumes nothing.
use Rattle.std.specs.Prelude.{◌≡◌, refl, ℕ, zero, suc, ◌+◌, ◌^◌, List, [], ◌∷◌, ◌++◌, take}
use Rattle.meaning.specs.Bytes.{num, spell, bit}
use Rattle.meaning.specs.Refusals.{first}
use Rattle.meaning.specs.Editions.{editions}
use Rattle.meaning.specs.Events.{event_of, distinct, all_marked, sound}
use Rattle.meaning.specs.Ring.{length_allowed}
use Rattle.entries.specs.Entries.{is_whole, entry_at, entry_bytes}
use Rattle.settings.specs.Versions.{one, versions, version_of, place_of}
use Rattle.settings.specs.Reading.{is_event_of, fits, in_turn, turns_from, rows_of, rest_answer, store_answer}
use Rattle.settings.specs.Writing.{writes, rows_bytes, store_bytes}

-- ---- the bytes of a store of one event: identifier 5, sample bit 16 alone; a ring of 4,096 bytes, edition 3, a budget of 1,000

abbrev row : ℕ → List ℕ
row id = id ∷ 2 ^ 16 ∷ 2 ∷ 3 ∷ 4 ∷ 5 ∷ 1 ∷ []

abbrev pub plain : List ℕ
plain =
    8 ∷ 0 ∷ 0 ∷ 0 ∷ 1 ∷ 0 ∷ 1 ∷ 0
    ∷ 55 ∷ 0 ∷ 0 ∷ 0 ∷ 2 ∷ 0 ∷ 0
    ∷ 5 ∷ 0 ∷ 0 ∷ 0 ∷ 0 ∷ 0 ∷ 0 ∷ 0
    ∷ 0 ∷ 0 ∷ 1 ∷ 0 ∷ 0 ∷ 0 ∷ 0 ∷ 0
    ∷ 2 ∷ 0 ∷ 0 ∷ 0 ∷ 0 ∷ 0 ∷ 0 ∷ 0
    ∷ 3 ∷ 0 ∷ 0 ∷ 0 ∷ 0 ∷ 0 ∷ 0 ∷ 0
    ∷ 4 ∷ 0 ∷ 0 ∷ 0 ∷ 0 ∷ 0 ∷ 0 ∷ 0
    ∷ 5 ∷ 0 ∷ 0 ∷ 0 ∷ 0 ∷ 0 ∷ 0 ∷ 0
    ∷ 19 ∷ 0 ∷ 0 ∷ 0 ∷ 3 ∷ 0
    ∷ 0 ∷ 16 ∷ 0 ∷ 0 ∷ 0 ∷ 0 ∷ 0 ∷ 0
    ∷ 3
    ∷ 232 ∷ 3 ∷ 0 ∷ 0
    ∷ []

-- the same in version 2: the version, a length of 56, an index of two bytes
abbrev pub second : List ℕ
second =
    8 ∷ 0 ∷ 0 ∷ 0 ∷ 1 ∷ 0 ∷ 2 ∷ 0
    ∷ 56 ∷ 0 ∷ 0 ∷ 0 ∷ 2 ∷ 0 ∷ 0 ∷ 0
    ∷ 5 ∷ 0 ∷ 0 ∷ 0 ∷ 0 ∷ 0 ∷ 0 ∷ 0
    ∷ 0 ∷ 0 ∷ 1 ∷ 0 ∷ 0 ∷ 0 ∷ 0 ∷ 0
    ∷ 2 ∷ 0 ∷ 0 ∷ 0 ∷ 0 ∷ 0 ∷ 0 ∷ 0
    ∷ 3 ∷ 0 ∷ 0 ∷ 0 ∷ 0 ∷ 0 ∷ 0 ∷ 0
    ∷ 4 ∷ 0 ∷ 0 ∷ 0 ∷ 0 ∷ 0 ∷ 0 ∷ 0
    ∷ 5 ∷ 0 ∷ 0 ∷ 0 ∷ 0 ∷ 0 ∷ 0 ∷ 0
    ∷ 19 ∷ 0 ∷ 0 ∷ 0 ∷ 3 ∷ 0
    ∷ 0 ∷ 16 ∷ 0 ∷ 0 ∷ 0 ∷ 0 ∷ 0 ∷ 0
    ∷ 3
    ∷ 232 ∷ 3 ∷ 0 ∷ 0
    ∷ []

pub as-written-second : store_bytes writes (row 5 ∷ []) 4096 3 1000 ≡ second
unfolding spell entry_bytes rows_bytes store_bytes
as-written-second = refl

pub as_written : store_bytes one (row 5 ∷ []) 4096 3 1000 ≡ plain
unfolding spell entry_bytes rows_bytes store_bytes
as_written = refl

-- ---- stores, and what reading them answers

-- an entry: its length as it says it, its kind, its body
abbrev entry : ℕ → ℕ → List ℕ → List ℕ
entry size kind body = spell 4 size ++ (spell 2 kind ++ body)

abbrev shows : ℕ → List ℕ
shows version = entry 8 1 (spell 2 version)

abbrev event : ℕ → ℕ → ℕ → List ℕ
event index id sample = entry 55 2 (index ∷ spell 8 id ++ (spell 8 sample ++ (spell 8 0 ++ (spell 8 0 ++ (spell 8 0 ++ spell 8 0)))))

-- of version 2
abbrev wide : ℕ → ℕ → ℕ → List ℕ
wide index id sample = entry 56 2 (spell 2 index ++ (spell 8 id ++ (spell 8 sample ++ (spell 8 0 ++ (spell 8 0 ++ (spell 8 0 ++ spell 8 0))))))

-- so many events of either version, in turn
abbrev many : (ℕ → ℕ → ℕ → List ℕ) → ℕ → ℕ → List ℕ
many of i zero = []
many of i (suc n) = of i (5 + i) (2 ^ 16) ++ many of (suc i) n

abbrev last : ℕ → ℕ → List ℕ
last ring edition = entry 19 3 (spell 8 ring ++ (edition ∷ spell 4 1000))

pub record Case : Type 0 where
  pub bytes : List ℕ
  pub lent : ℕ
  pub answer : ℕ

abbrev case : List ℕ → ℕ → ℕ → Case
case xs lent n = record { bytes = xs; lent = lent; answer = n }

abbrev five : List ℕ
five = event 0 5 (2 ^ 16)

abbrev pub cases : List Case
cases =
    case (shows 1 ++ (five ++ last 4096 3)) 1 0
    ∷ case (shows 1 ++ (five ++ (event 1 7 (2 ^ 16) ++ last 64 1))) 2 0
    ∷ case (shows 1 ++ (five ++ last 4096 4)) 3 0
    -- the first entry: 51 where it is cut short, too short or of another length; 50 before anything else; 52 out of place
    ∷ case [] 1 51
    ∷ case (take 7 (shows 1)) 1 51
    ∷ case (take 7 (shows 2)) 1 51
    ∷ case (shows 3) 1 50
    ∷ case (shows 0) 1 50
    ∷ case (shows 2) 1 51
    ∷ case (entry 9 1 (1 ∷ 0 ∷ 0 ∷ [])) 1 51
    ∷ case (five ++ last 4096 3) 1 52
    ∷ case (last 4096 3) 1 52
    -- a store that ends before kind 3
    ∷ case (shows 1) 1 51
    ∷ case (shows 1 ++ five) 1 51
    -- a length that does not cover itself and the kind; one beyond the end; a kind that is not known
    ∷ case (shows 1 ++ (entry 5 2 [] ++ last 4096 3)) 1 51
    ∷ case (shows 1 ++ entry 4294967295 3 []) 1 51
    ∷ case (shows 1 ++ (entry 6 4 [] ++ last 4096 3)) 1 51
    -- a second kind 1, whatever version it shows; indexes that do not run from 0 without gaps; but 51 where the entry is cut short too
    ∷ case (shows 1 ++ (shows 1 ++ (five ++ last 4096 3))) 1 52
    ∷ case (shows 1 ++ (shows 2 ++ (five ++ last 4096 3))) 1 52
    ∷ case (shows 1 ++ (event 1 5 (2 ^ 16) ++ last 4096 3)) 1 52
    ∷ case (shows 1 ++ (five ++ (event 2 7 (2 ^ 16) ++ last 4096 3))) 2 52
    ∷ case (shows 1 ++ (five ++ (event 0 7 (2 ^ 16) ++ last 4096 3))) 2 52
    ∷ case (shows 1 ++ take 54 (event 1 5 (2 ^ 16))) 1 51
    -- kind 3: a ring length or an edition not allowed, a second one, and what else follows it
    ∷ case (shows 1 ++ (five ++ last 4095 3)) 1 52
    ∷ case (shows 1 ++ (five ++ last 32 3)) 1 52
    ∷ case (shows 1 ++ (five ++ last 4096 0)) 1 52
    ∷ case (shows 1 ++ (five ++ last 4096 5)) 1 52
    ∷ case (shows 1 ++ (five ++ (last 4096 3 ++ last 4096 3))) 1 52
    ∷ case (shows 1 ++ (five ++ (last 4096 3 ++ (0 ∷ [])))) 1 51
    -- then 11: no event, equal identifiers, no bit 16; and 40 last
    ∷ case (shows 1 ++ last 4096 3) 1 11
    ∷ case (shows 1 ++ (five ++ (event 1 5 (2 ^ 16) ++ last 4096 3))) 2 11
    ∷ case (shows 1 ++ (event 0 5 (2 ^ 17) ++ last 4096 3)) 1 11
    ∷ case (shows 1 ++ (event 0 5 (2 ^ 17) ++ last 4095 3)) 0 52
    ∷ case (shows 1 ++ (event 0 5 (2 ^ 17) ++ last 4096 3)) 0 11
    ∷ case (shows 1 ++ (five ++ last 4096 3)) 0 40
    -- version 2: an index of two bytes; a row of the other version's length is 51, before a version is known 52
    ∷ case (shows 2 ++ (wide 0 5 (2 ^ 16) ++ last 4096 3)) 1 0
    ∷ case (shows 2 ++ (wide 0 5 (2 ^ 16) ++ (wide 1 7 (2 ^ 16) ++ last 4096 3))) 2 0
    ∷ case (shows 2 ++ (five ++ last 4096 3)) 1 51
    ∷ case (shows 1 ++ (wide 0 5 (2 ^ 16) ++ last 4096 3)) 1 51
    ∷ case (wide 0 5 (2 ^ 16) ++ last 4096 3) 1 52
    ∷ case (shows 2 ++ (wide 256 5 (2 ^ 16) ++ last 4096 3)) 1 52
    ∷ case (shows 2 ++ (wide 0 5 (2 ^ 16) ++ (wide 257 7 (2 ^ 16) ++ last 4096 3))) 2 52
    -- version 1 keeps its limit of 32
    ∷ case (shows 1 ++ (many event 0 32 ++ last 4096 3)) 33 0
    ∷ case (shows 1 ++ (many event 0 33 ++ last 4096 3)) 33 11
    ∷ case (shows 2 ++ (many wide 0 33 ++ last 4096 3)) 33 0
    ∷ []

abbrev pub found : List Case → List ℕ
found [] = []
found (c ∷ cs) = store_answer versions editions c.bytes c.lent ∷ found cs

abbrev pub wanted : List Case → List ℕ
wanted [] = []
wanted (c ∷ cs) = c.answer ∷ wanted cs

pub as_wanted : found cases ≡ wanted cases
unfolding num spell bit first is_whole entry_at version_of place_of is_event_of fits in_turn turns_from rows_of rest_answer store_answer length_allowed event_of distinct all_marked sound
as_wanted = refl
