-- The layouts as rows of numbers: a guard times 32 and a shape. `Same` proves that they are the layouts of the definitions, for all
-- attributes, so they are not what a reader must believe.
-- Assumes nothing: these are definitions.
use Rattle.std.specs.Prelude.{ℕ, ◌-◌, ◌/◌, ◌%◌, Bool, true, false, cond, not, ◌&&◌, ◌||◌, List, [], ◌∷◌, map, get_or, ltb}
use Rattle.std.proofs.Math.Seq.{slice}
use Rattle.meaning.specs.declared.Attributes.{Attributes}
use Rattle.meaning.specs.declared.Item.{Item}
use Rattle.meaning.specs.declared.Shape.{Shape}
use Rattle.meaning.specs.declared.Shape.TheVariants.{Number, Ignored, Count, Size, Times, Earlier, Registers, Filled, Abi, Limit, Listed, Bytes, Pad, Name}
use Rattle.meaning.specs.declared.Width.TheVariants.{W2, W4, W8}
use Rattle.meaning.specs.Bytes.{bit}
use Rattle.meaning.specs.Schema.{item, group_bytes, trails}

-- the rows of the types' fields, one type after the other, then those of the trailer
abbrev pub rows : List ℕ
rows =
    1025 ∷ 1025 ∷ 1024 ∷ 1024 ∷ 1024 ∷ 1045 ∷  -- 1 MMAP
    1024 ∷ 1024 ∷  -- 2 LOST
    1025 ∷ 1025 ∷ 1045 ∷  -- 3 COMM
    1025 ∷ 1025 ∷ 1025 ∷ 1025 ∷ 1024 ∷  -- 4 EXIT
    1024 ∷ 1024 ∷ 1024 ∷  -- 5 THROTTLE
    1024 ∷ 1024 ∷ 1024 ∷  -- 6 UNTHROTTLE
    1025 ∷ 1025 ∷ 1025 ∷ 1025 ∷ 1024 ∷  -- 7 FORK
    1025 ∷ 1025 ∷ 1344 ∷ 1379 ∷ 1408 ∷ 1440 ∷ 1472 ∷ 1056 ∷ 1387 ∷  -- 8 READ
    512 ∷ 0 ∷ 33 ∷ 33 ∷ 64 ∷ 96 ∷ 192 ∷ 288 ∷ 225 ∷ 247 ∷ 256 ∷  -- 9 SAMPLE: the first fields
    1184 ∷ 1219 ∷ 1248 ∷ 1280 ∷ 1312 ∷ 1536 ∷ 1227 ∷  -- its read values
    163 ∷ 168 ∷ 325 ∷ 327 ∷ 355 ∷ 1504 ∷ 362 ∷ 399 ∷ 397 ∷ 422 ∷ 423 ∷ 430 ∷  -- its lists
    1152 ∷ 480 ∷ 544 ∷ 592 ∷ 589 ∷ 608 ∷ 672 ∷ 704 ∷ 736 ∷ 646 ∷ 647 ∷  -- its last fields
    1025 ∷ 1025 ∷ 1024 ∷ 1024 ∷ 1024 ∷ 1121 ∷ 1121 ∷ 1120 ∷ 1120 ∷ 1105 ∷ 1110 ∷ 1106 ∷ 1025 ∷ 1025 ∷ 1045 ∷  -- 10 MMAP2
    1024 ∷ 1024 ∷ 1024 ∷  -- 11 AUX
    1025 ∷ 1025 ∷  -- 12 ITRACE_START
    1024 ∷  -- 13 LOST_SAMPLES
    1025 ∷ 1025 ∷  -- 15 SWITCH_CPU_WIDE
    1025 ∷ 1025 ∷ 1027 ∷ 1033 ∷  -- 16 NAMESPACES
    1024 ∷ 1025 ∷ 1026 ∷ 1026 ∷ 1045 ∷  -- 17 KSYMBOL
    1026 ∷ 1026 ∷ 1025 ∷ 1043 ∷  -- 18 BPF_EVENT
    1024 ∷ 1045 ∷  -- 19 CGROUP
    1024 ∷ 1028 ∷ 1028 ∷ 1036 ∷ 1031 ∷ 1044 ∷  -- 20 TEXT_POKE
    1024 ∷  -- 21 AUX_OUTPUT_HW_ID
    2081 ∷ 2081 ∷ 2112 ∷ 2240 ∷ 2336 ∷ 2273 ∷ 2295 ∷ 2560 ∷ []  -- the trailer

-- the rows of the types' fields; all rows, with those of the trailer; the types, with 0, which has none
abbrev pub field_rows : ℕ
field_rows = 122

abbrev pub all_rows : ℕ
all_rows = 130

abbrev pub types : ℕ
types = 22

-- where the rows of each type end, from type 0 on; the first type's start at 0
abbrev pub ends : List ℕ
ends = 0 ∷ 6 ∷ 8 ∷ 11 ∷ 16 ∷ 19 ∷ 22 ∷ 27 ∷ 36 ∷ 77 ∷ 92 ∷ 95 ∷ 97 ∷ 98 ∷ 98 ∷ 100 ∷ 104 ∷ 109 ∷ 113 ∷ 115 ∷ 121 ∷ 122 ∷ []

-- the guards from 32 on
abbrev pub guards : Attributes → ℕ → List Bool
guards a misc =
    true
    ∷ (not (bit a.format 3) && bit a.format 4)
    ∷ bit misc 14
    ∷ not (bit misc 14)
    ∷ (bit a.sample 14 || bit a.sample 24)
    ∷ (bit a.sample 4 && not (bit a.format 3))
    ∷ (bit a.sample 4 && bit a.format 3)
    ∷ (bit a.sample 4 && bit a.format 0)
    ∷ (bit a.sample 4 && bit a.format 1)
    ∷ (bit a.sample 4 && (not (bit a.format 3) && bit a.format 2))
    ∷ not (bit a.format 3)
    ∷ bit a.format 3
    ∷ bit a.format 0
    ∷ bit a.format 1
    ∷ (not (bit a.format 3) && bit a.format 2)
    ∷ (bit a.sample 11 && bit a.branch 17)
    ∷ (bit a.sample 4 && (not (bit a.format 3) && bit a.format 4))
    ∷ []

-- below 32 a bit of the sample type; from 64 on such a bit in the trailer
abbrev pub guard : Attributes → ℕ → ℕ → ℕ → Bool
guard a misc kind g = cond (ltb g 32) (bit a.sample g) (cond (ltb g 64) (get_or (guards a misc) (g - 32) false) (trails kind a (g % 64)))

abbrev pub shapes : Attributes → List Shape
shapes a =
    Number W8
    ∷ Number W4
    ∷ Number W2
    ∷ Count W8
    ∷ Count W2
    ∷ Size W4
    ∷ Size W8
    ∷ Times 1
    ∷ Times 8
    ∷ Times 16
    ∷ Times 24
    ∷ Times (group_bytes a.format)
    ∷ Earlier 1
    ∷ Registers
    ∷ Filled
    ∷ Abi a.user
    ∷ Abi a.interrupt
    ∷ Limit 20
    ∷ Listed 20
    ∷ Bytes 8
    ∷ Pad
    ∷ Name
    ∷ Ignored 3
    ∷ Ignored 4
    ∷ []

abbrev pub shape : Attributes → ℕ → Shape
shape a k = get_or (shapes a) k Pad

-- the item that a row stands for
abbrev pub item_of : Attributes → ℕ → ℕ → ℕ → Item
item_of a misc kind row = item (guard a misc kind (row / 32)) (shape a (row % 32))

-- the rows cut at each end, as items
abbrev pub cut : (ℕ → Item) → ℕ → List ℕ → List (List Item)
cut f from [] = []
cut f from (to ∷ tos) = map f (slice from to rows) ∷ cut f to tos
