-- "Examples at the edges (marked P: the set to prove)": P1 to P12 of document 01, each with all that its own line says, in one list; that every one holds
-- is a theorem of proofs/Examples. Assumes nothing: these are definitions.
use Rattle.std.specs.Prelude.{ℕ, ◌+◌, ◌-◌, ◌^◌, Bool, true, false, not, ◌&&◌, List, [], ◌∷◌, ◌++◌, length, take, drop, eqb}
use Rattle.meaning.specs.declared.Attributes.{Attributes}
use Rattle.meaning.specs.States.{One}
use Rattle.meaning.specs.Bytes.{spell, bit, zeros}
use Rattle.meaning.specs.Editions.{editions}
use Rattle.meaning.specs.Records.{kind_of, misc_of, room, check, record_check}
use Rattle.meaning.specs.declared.Bit13.TheVariants.{SwitchedOut}
use Rattle.meaning.specs.Misc.{number13, misc_meaning}
use Rattle.meaning.specs.Ring.{distance, frame, taken, read_one, one_scratch}

-- a slice under record check; a ring under the reader of one record
pub data Case : Type 0 where
  -- edition, attributes, bytes: the answer
  checked : ℕ → Attributes → List ℕ → ℕ → Case
  -- ring, head, tail, scratch: a stop with its number, the tail where it was
  stops : List ℕ → ℕ → ℕ → List ℕ → ℕ → Case
  -- the record is taken: its answer, the next tail, the scratch then
  takes : List ℕ → ℕ → ℕ → List ℕ → ℕ → ℕ → List ℕ → Case
  -- a switch out: accepted, and that is what its misc means
  switches_out : ℕ → List ℕ → Case

abbrev attributes : ℕ → Attributes
attributes sample = record { sample = sample; format = 0; all = false; user = 0; interrupt = 0; branch = 0 }

-- a record of a type: its header and its body
abbrev rec : ℕ → ℕ → List ℕ → List ℕ
rec kind misc body = spell 4 kind ++ (spell 2 misc ++ (spell 2 (8 + length body) ++ body))

-- a header that says another size than there are bytes
abbrev head : ℕ → ℕ → List ℕ
head kind size = spell 4 kind ++ (spell 2 0 ++ spell 2 size)

abbrev kiln : List ℕ
kiln = 107 ∷ 105 ∷ 108 ∷ 110 ∷ []

-- a ring of 64 bytes that starts with the bytes given
abbrev ring : List ℕ → List ℕ
ring xs = xs ++ zeros (64 - length xs)

-- the LOST record of P3: "8 bytes at 56, 16 at 0"
abbrev lost : List ℕ
lost = rec 2 0 (spell 8 7 ++ spell 8 9)

abbrev round : List ℕ
round = (drop 8 lost ++ zeros 40) ++ take 8 lost

abbrev switch_out : List ℕ
switch_out = 14 ∷ 0 ∷ 0 ∷ 0 ∷ 0 ∷ 32 ∷ 8 ∷ 0 ∷ []

unfoldable pub cases : List Case
cases =
    -- P1 ring 64, head = tail = 0: answer 0
    stops (zeros 64) 0 0 [] 0
    -- P2 distance 64 passes, 72 gives 4
    ∷ takes (ring lost) 64 0 [] 0 24 []
    ∷ stops (ring lost) 72 0 [] 4
    -- P3 tail 2^64 - 8, head 16, ring 64: scratch 24 accepts, 23 gives 3
    ∷ takes round 16 (2 ^ 64 - 8) (zeros 24) 0 16 lost
    ∷ stops round 16 (2 ^ 64 - 8) (zeros 23) 3
    -- P4 sizes 0, 4 and 12 give 6
    ∷ stops (ring (head 2 0)) 64 0 [] 6
    ∷ stops (ring (head 2 4)) 64 0 [] 6
    ∷ stops (ring (head 2 12)) 64 0 [] 6
    -- P5 size 32 at distance 24 gives 7
    ∷ stops (ring (head 2 32)) 24 0 [] 7
    -- P6 bytes 0e 00 00 00 00 20 08 00 with empty attributes: edition 1 gives 20, edition 2 a switch out
    ∷ checked 1 (attributes 0) switch_out 20
    ∷ switches_out 2 switch_out
    -- P7 COMM "kiln" has size 24; in a room of 16 it gives 33
    ∷ checked 1 (attributes 0) (rec 3 0 (zeros 8 ++ (kiln ++ zeros 4))) 0
    ∷ checked 1 (attributes 0) (rec 3 0 (zeros 8 ++ (kiln ++ zeros 12))) 33
    -- P8 sample type 3: size 24 accepts, 16 gives 30, 32 gives 31
    ∷ checked 1 (attributes 3) (rec 9 0 (zeros 16)) 0
    ∷ checked 1 (attributes 3) (rec 9 0 (zeros 8)) 30
    ∷ checked 1 (attributes 3) (rec 9 0 (zeros 24)) 31
    -- P9 raw size 4 accepts, 0 and 5 give 32
    ∷ checked 1 (attributes 1024) (rec 9 0 (spell 4 4 ++ zeros 4)) 0
    ∷ checked 1 (attributes 1024) (rec 9 0 (spell 4 0 ++ zeros 4)) 32
    ∷ checked 1 (attributes 1024) (rec 9 0 (spell 4 5 ++ zeros 4)) 32
    -- P10 stack size 16, filled 17: 32
    ∷ checked 1 (attributes 8192) (rec 9 0 (spell 8 16 ++ (zeros 16 ++ spell 8 17))) 32
    -- P11 SAMPLE with sample bit 25: 21 in every edition
    ∷ checked 1 (attributes (2 ^ 25)) (rec 9 0 []) 21
    ∷ checked 2 (attributes (2 ^ 25)) (rec 9 0 []) 21
    ∷ checked 3 (attributes (2 ^ 25)) (rec 9 0 []) 21
    ∷ checked 4 (attributes (2 ^ 25)) (rec 9 0 []) 21
    -- P12 MMAP2 with misc 0x4000: edition 2 gives 23
    ∷ checked 2 (attributes 0) (rec 10 16384 (zeros 72)) 23
    ∷ []

abbrev same : List ℕ → List ℕ → Bool
same [] [] = true
same (x ∷ xs) (y ∷ ys) = eqb x y && same xs ys
same [] (y ∷ ys) = false
same (x ∷ xs) [] = false

-- the reader of one record, in edition 1 and with empty attributes
abbrev one : List ℕ → ℕ → ℕ → List ℕ → One
one xs head tail scratch = read_one editions 1 (attributes 0) xs head tail scratch

abbrev scratch_then : List ℕ → ℕ → ℕ → List ℕ → List ℕ
scratch_then xs head tail scratch = one_scratch editions 1 xs head tail scratch

abbrev is_stop : One → List ℕ → List ℕ → ℕ → ℕ → Bool
is_stop o after scratch tail number = not o.frame.go && (eqb o.frame.stop number && (eqb o.tail tail && same after scratch))

abbrev is_taken : One → List ℕ → ℕ → ℕ → List ℕ → Bool
is_taken o after answer next scratch = o.frame.go && (eqb o.answer answer && (eqb o.tail next && same after scratch))

unfoldable pub passes : Case → Bool
passes (checked e a xs answer) = eqb (record_check editions e a xs) answer
passes (stops xs head tail scratch number) = is_stop (one xs head tail scratch) (scratch_then xs head tail scratch) scratch tail number
passes (takes xs head tail scratch answer next after) = is_taken (one xs head tail scratch) (scratch_then xs head tail scratch) answer next after
passes (switches_out e xs) = eqb (record_check editions e (attributes 0) xs) 0 && eqb (misc_meaning (kind_of xs) (misc_of xs)) (number13 SwitchedOut)

unfoldable pub all : List Case → Bool
all [] = true
all (c ∷ cs) = passes c && all cs
