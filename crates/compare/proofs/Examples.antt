-- Worked comparisons: the number of the first field that differs, in one list with one proof. Assumes nothing.
use Rattle.std.specs.Prelude.{◌≡◌, refl, ℕ, ◌+◌, Bool, true, false, cond, not, ◌&&◌, List, [], ◌∷◌, ◌++◌, length, eqb}
use Rattle.meaning.specs.declared.Attributes.{Attributes}
use Rattle.meaning.specs.Bytes.{num, spell, zeros, zero_in, bit, ones, all_zero, stale}
use Rattle.meaning.specs.Refusals.{first}
use Rattle.meaning.specs.Items.{span, rule, holds, counted, before, past, part, settle, shape_step, step, walk, content, contents}
use Rattle.meaning.specs.Writing.{emit, next, ends, named, dirty}
use Rattle.meaning.specs.Editions.{editions, known, unreadable}
use Rattle.meaning.specs.Records.{layout, kind_of, misc_of, size_of, room_shape, room, fields_of, closed, fields_answer, judge, body_of, tail_of, flag_by, flag_of, value}
use Rattle.meaning.specs.Events.{identifier_of}
use Rattle.compare.specs.Fields.{field, numbered, body_fields, tail_fields, flag_field, other_fields, Reads, accepted, fields}
use Rattle.compare.specs.Compared.{same_bytes, same, alike, agree}

-- sample bits: the sum of powers of two
abbrev set : ℕ → ℕ → ℕ → Attributes
set sample format branch = record { sample = sample; format = format; all = true; user = 0; interrupt = 0; branch = branch }

-- edition 4 and one attribute set
abbrev reads : Attributes → Reads
reads a = record { judge = judge (layout (known editions 4) a); known = known editions 4; attributes = λ id. a }

abbrev bytes : ℕ → ℕ → List ℕ → List ℕ
bytes kind misc body = spell 4 kind ++ (spell 2 misc ++ (spell 2 (8 + length body) ++ body))

abbrev u64 : ℕ → List ℕ
u64 n = spell 8 n

abbrev u32 : ℕ → List ℕ
u32 n = spell 4 n

pub record Case : Type 0 where
  pub by : Reads
  pub left : List ℕ
  pub right : List ℕ
  pub equal : Bool
  pub field : ℕ

abbrev case : Reads → List ℕ → List ℕ → Bool → ℕ → Case
case by left right equal field = record { by = by; left = left; right = right; equal = equal; field = field }

-- LOST: id, lost, identifier
abbrev lost : ℕ → ℕ → ℕ → List ℕ
lost id n identifier = bytes 2 0 (u64 id ++ (u64 n ++ u64 identifier))

-- SAMPLE with bits 16, 7, 12 and 13: identifier, cpu and res, abi, (registers), stack
abbrev stacked : ℕ → ℕ → ℕ → List ℕ → List ℕ
stacked cpu res abi stack = bytes 9 0 (u64 5 ++ (u32 cpu ++ (u32 res ++ (u64 abi ++ stack))))

abbrev stack : ℕ → ℕ → List ℕ
stack byte filled = u64 8 ++ (spell 8 byte ++ u64 filled)

-- TEXT_POKE: address, both lengths, both texts, padding, identifier
abbrev poke : ℕ → ℕ → List ℕ → List ℕ
poke old new texts = bytes 20 0 (u64 4096 ++ (spell 2 old ++ (spell 2 new ++ (texts ++ u64 5))))

-- COMM with bits 16 and 2: pid, tid, a room of 8 bytes, time, identifier
abbrev comm : List ℕ → ℕ → List ℕ
comm name time = bytes 3 0 (u32 1 ++ (u32 2 ++ (name ++ (u64 time ++ u64 5))))

-- COMM with bit 16 alone
abbrev plain : List ℕ → List ℕ
plain name = bytes 3 0 (u32 1 ++ (u32 2 ++ (name ++ u64 5)))

-- READ with a group and the enabled time: pid, tid, n, the time, n values, identifier
abbrev group : ℕ → ℕ → List ℕ
group time value = bytes 8 0 (u32 1 ++ (u32 2 ++ (u64 1 ++ (u64 time ++ (u64 value ++ u64 5)))))

-- the same with a lost count in each entry (M-110); and without a group: value, lost count
abbrev lossy : ℕ → ℕ → List ℕ
lossy time lost = bytes 8 0 (u32 1 ++ (u32 2 ++ (u64 1 ++ (u64 time ++ (u64 3 ++ (u64 lost ++ u64 5))))))

abbrev counter : ℕ → ℕ → List ℕ
counter value lost = bytes 8 0 (u32 1 ++ (u32 2 ++ (u64 value ++ (u64 lost ++ u64 5))))

-- SAMPLE with bits 16 and 11, and branch bit 17: identifier, n, the hardware index (M-102), one entry of 24 bytes
abbrev branched : ℕ → ℕ → List ℕ
branched index entry = bytes 9 0 (u64 5 ++ (u64 1 ++ (u64 index ++ spell 24 entry)))

-- AUX_OUTPUT_HW_ID (M-110): the hardware id, identifier
abbrev hardware : ℕ → List ℕ
hardware id = bytes 21 0 (u64 id ++ u64 5)

pub cases : List Case
cases =
    case (reads (set 65536 0 0)) (lost 7 5 9) (lost 7 5 9) true 0
    ∷ case (reads (set 65536 0 0)) (lost 7 5 9) (lost 7 6 9) false 6
    ∷ case (reads (set 65536 0 0)) (lost 7 5 9) (lost 8 6 9) false 5
    ∷ case (reads (set 65536 0 0)) (lost 7 5 9) (lost 8 6 8) false 4
    ∷ case (reads (set 65536 0 0)) (lost 7 5 9) (plain (1 ∷ zeros 7)) false 1
    -- answers differ; refused alike by their bytes
    ∷ case (reads (set 65536 0 0)) (lost 7 5 9) (bytes 99 0 (u64 1)) false 0
    ∷ case (reads (set 65536 0 0)) (bytes 99 0 (u64 1)) (bytes 99 0 (u64 2)) false 1
    ∷ case (reads (set 65536 0 0)) (bytes 99 0 (u64 1)) (bytes 99 0 (u64 1)) true 0
    -- res does not count; registers of an empty mask have a number after an abi that is not 0, and none after 0
    ∷ case (reads (set 77952 0 0)) (stacked 3 1 0 (stack 1 8)) (stacked 3 2 0 (stack 1 8)) true 0
    ∷ case (reads (set 77952 0 0)) (stacked 3 1 0 (stack 1 8)) (stacked 3 1 0 (stack 1 7)) false 8
    ∷ case (reads (set 77952 0 0)) (stacked 3 1 0 (stack 1 8)) (stacked 3 1 0 (stack 2 7)) false 7
    ∷ case (reads (set 77952 0 0)) (stacked 3 1 1 (stack 1 8)) (stacked 3 1 1 (stack 1 7)) false 9
    ∷ case (reads (set 77952 0 0)) (stacked 3 1 1 (stack 1 8)) (stacked 3 1 0 (stack 1 8)) false 6
    ∷ case (reads (set 77952 0 0)) (stacked 3 1 1 (stack 1 8)) (stacked 4 1 0 (stack 1 8)) false 5
    ∷ case (reads (set 77952 0 0)) (stacked 3 1 1 (u64 0)) (stacked 3 1 2 (u64 0)) false 6
    -- both texts, each with its length; padding does not count
    ∷ case (reads (set 65536 0 0)) (poke 1 2 (1 ∷ 2 ∷ 3 ∷ 0 ∷ [])) (poke 1 2 (1 ∷ 2 ∷ 3 ∷ 9 ∷ [])) true 0
    ∷ case (reads (set 65536 0 0)) (poke 1 2 (1 ∷ 2 ∷ 3 ∷ 0 ∷ [])) (poke 2 1 (1 ∷ 2 ∷ 3 ∷ 0 ∷ [])) false 6
    ∷ case (reads (set 65536 0 0)) (poke 1 2 (1 ∷ 2 ∷ 3 ∷ 0 ∷ [])) (poke 1 3 (1 ∷ 2 ∷ 3 ∷ 0 ∷ [])) false 7
    ∷ case (reads (set 65536 0 0)) (poke 1 2 (1 ∷ 2 ∷ 3 ∷ 0 ∷ [])) (poke 1 2 (1 ∷ 2 ∷ 4 ∷ 0 ∷ [])) false 7
    -- a name, then the trailer's other items
    ∷ case (reads (set 65540 0 0)) (comm (65 ∷ zeros 7) 1) (comm (65 ∷ 0 ∷ 9 ∷ zeros 5) 2) false 8
    ∷ case (reads (set 65540 0 0)) (comm (65 ∷ zeros 7) 1) (comm (66 ∷ zeros 7) 2) false 7
    -- stale bytes after a name count by M-107's flag alone, last
    ∷ case (reads (set 65536 0 0)) (plain (65 ∷ zeros 7)) (plain (65 ∷ 0 ∷ 9 ∷ zeros 5)) false 8
    ∷ case (reads (set 65536 0 0)) (plain (65 ∷ 0 ∷ 8 ∷ zeros 5)) (plain (65 ∷ 0 ∷ 9 ∷ zeros 5)) true 0
    ∷ case (reads (set 65540 0 0)) (comm (65 ∷ zeros 7) 1) (comm (65 ∷ 0 ∷ 9 ∷ zeros 5) 1) false 9
    -- a group: the times stand before its values
    ∷ case (reads (set 65536 9 0)) (group 3 4) (group 4 5) false 7
    ∷ case (reads (set 65536 9 0)) (group 3 4) (group 3 5) false 8
    -- a lost count stands in its entry, or is the last read value; the hardware index before the branches
    ∷ case (reads (set 65536 25 0)) (lossy 3 4) (lossy 3 5) false 8
    ∷ case (reads (set 65536 16 0)) (counter 3 4) (counter 3 5) false 8
    ∷ case (reads (set 65536 16 0)) (counter 3 4) (counter 4 5) false 7
    ∷ case (reads (set 67584 0 131072)) (branched 1 2) (branched 2 3) false 5
    ∷ case (reads (set 67584 0 131072)) (branched 1 2) (branched 1 3) false 6
    ∷ case (reads (set 65536 0 0)) (hardware 1) (hardware 2) false 5
    ∷ []

pub passes : Case → Bool
passes c =
    cond c.equal (alike (fields c.by c.left) (fields c.by c.right))
    (not (alike (fields c.by c.left) (fields c.by c.right)) && eqb (agree (fields c.by c.left) (fields c.by c.right)) c.field)

pub all : List Case → Bool
all [] = true
all (c ∷ cs) = passes c && all cs

pub every-case : all cases ≡ true
unfolding all passes cases num spell zero_in bit ones all_zero stale first span rule holds counted before past part settle shape_step step walk content contents emit next ends named dirty known unreadable layout kind_of misc_of size_of room_shape room fields_of closed fields_answer judge body_of tail_of flag_by flag_of value identifier_of field numbered body_fields tail_fields flag_field other_fields accepted fields same_bytes same alike agree
every-case = refl
