-- The layout of each record type: the list of its items, in document 01's order ("Bodies after the header"). An item is on or off by misc and
-- the attributes alone; every field of SAMPLE is always in the list. No edition is an argument.
-- Assumes nothing: these are definitions.
use Rattle.std.specs.Prelude.{ℕ, Bool, true, cond, not, ◌&&◌, ◌||◌, List, [], ◌∷◌, ◌++◌, get_or, eqb}
use Rattle.meaning.specs.declared.Attributes.{Attributes}
use Rattle.meaning.specs.declared.Item.{Item}
use Rattle.meaning.specs.declared.Shape.{Shape}
use Rattle.meaning.specs.declared.Shape.TheVariants.{Number, Ignored, Count, Size, Times, Earlier, Registers, Filled, Abi, Limit, Listed, Bytes, Pad, Name}
use Rattle.meaning.specs.declared.Width.TheVariants.{W2, W4, W8}
use Rattle.meaning.specs.Bytes.{bit}

abbrev pub item : Bool → Shape → Item
item on shape = record { on = on; shape = shape }

abbrev pub always : Shape → Item
always shape = item true shape

-- "where selected": by a bit of the sample type
abbrev pub selected : Attributes → ℕ → Shape → Item
selected a b shape = item (bit a.sample b) shape

abbrev pub u16 : Item
u16 = always (Number W2)

abbrev pub u32 : Item
u32 = always (Number W4)

abbrev pub u64 : Item
u64 = always (Number W8)

-- the bytes of a group's entry by the read format: value, id (bit 2), lost count (bit 4), each of eight bytes
abbrev pub group_bytes : ℕ → ℕ
group_bytes format = cond (bit format 2) (cond (bit format 4) 24 16) (cond (bit format 4) 16 8)

-- "Read values: without bit 3, value, then enabled time (bit 0), running time (1), id (2). With bit 3: n, the two times where selected, then n
-- times value and id where selected." M-110, bit 4: "a lost count follows each counter's value and, where selected, id; without bit 3 it is the last
-- read value"
abbrev pub read_values : Attributes → Bool → List Item
read_values a on =
    item (on && not (bit a.format 3)) (Number W8)
    ∷ item (on && bit a.format 3) (Count W8)
    ∷ item (on && bit a.format 0) (Number W8)
    ∷ item (on && bit a.format 1) (Number W8)
    ∷ item (on && (not (bit a.format 3) && bit a.format 2)) (Number W8)
    ∷ item (on && (not (bit a.format 3) && bit a.format 4)) (Number W8)
    ∷ item (on && bit a.format 3) (Times (group_bytes a.format))
    ∷ []

-- "SAMPLE (9), in this order where selected: identifier 16, ip 0, pid and tid 1, time 2, addr 3, id 6, stream id 9, cpu and res 7, period 8"
abbrev pub sample_first : Attributes → List Item
sample_first a =
    selected a 16 (Number W8)
    ∷ selected a 0 (Number W8)
    ∷ selected a 1 (Number W4)
    ∷ selected a 1 (Number W4)
    ∷ selected a 2 (Number W8)
    ∷ selected a 3 (Number W8)
    ∷ selected a 6 (Number W8)
    ∷ selected a 9 (Number W8)
    ∷ selected a 7 (Number W4)
    ∷ selected a 7 (Ignored 4)
    ∷ selected a 8 (Number W8)
    ∷ []

-- "callchain 5 (n, n u64), raw 10 (u32 size, bytes), branches 11 (n, n entries of 24 bytes), user registers 12, user stack 13 (size, bytes,
-- filled length; size 0 has neither)". M-102: "one more word between branch count and entries when branch sample bit 17 is selected", which is the
-- hardware index. It is there also where n is 0, and never without sample bit 11
abbrev pub sample_lists : Attributes → List Item
sample_lists a =
    selected a 5 (Count W8)
    ∷ selected a 5 (Times 8)
    ∷ selected a 10 (Size W4)
    ∷ selected a 10 (Times 1)
    ∷ selected a 11 (Count W8)
    ∷ item (bit a.sample 11 && bit a.branch 17) (Number W8)
    ∷ selected a 11 (Times 24)
    ∷ selected a 12 (Abi a.user)
    ∷ selected a 12 Registers
    ∷ selected a 13 (Size W8)
    ∷ selected a 13 (Times 1)
    ∷ selected a 13 Filled
    ∷ []

-- "weight 14 or 24, data source 15, transaction 17, interrupt registers 18, physical address 19, cgroup 21, data page size 22, code page size
-- 23, aux 20 (size, bytes)"
abbrev pub sample_last : Attributes → List Item
sample_last a =
    item (bit a.sample 14 || bit a.sample 24) (Number W8)
    ∷ selected a 15 (Number W8)
    ∷ selected a 17 (Number W8)
    ∷ selected a 18 (Abi a.interrupt)
    ∷ selected a 18 Registers
    ∷ selected a 19 (Number W8)
    ∷ selected a 21 (Number W8)
    ∷ selected a 22 (Number W8)
    ∷ selected a 23 (Number W8)
    ∷ selected a 20 (Size W8)
    ∷ selected a 20 (Times 1)
    ∷ []

abbrev pub sample : Attributes → List Item
sample a = sample_first a ++ (read_values a (bit a.sample 4) ++ (sample_lists a ++ sample_last a))

-- "as MMAP to pgoff; maj, min u32, ino, generation u64, or build id size u8, 3 reserved bytes, 20 bytes; prot, flags u32; name"
abbrev pub mmap2 : Bool → List Item
mmap2 build_id =
    u32 ∷ u32 ∷ u64 ∷ u64 ∷ u64
    ∷ item (not build_id) (Number W4)
    ∷ item (not build_id) (Number W4)
    ∷ item (not build_id) (Number W8)
    ∷ item (not build_id) (Number W8)
    ∷ item build_id (Limit 20)
    ∷ item build_id (Ignored 3)
    ∷ item build_id (Listed 20)
    ∷ u32 ∷ u32 ∷ always Name ∷ []

-- pid, ppid, tid, ptid u32; time u64
abbrev pub tasks : List Item
tasks = u32 ∷ u32 ∷ u32 ∷ u32 ∷ u64 ∷ []

abbrev pub three_words : List Item
three_words = u64 ∷ u64 ∷ u64 ∷ []

-- pid, tid u32
abbrev pub thread : List Item
thread = u32 ∷ u32 ∷ []

-- the fields by type, from 0 on
abbrev pub schemas : ℕ → Attributes → List (List Item)
schemas misc a =
    []
    ∷ (u32 ∷ u32 ∷ u64 ∷ u64 ∷ u64 ∷ always Name ∷ [])  -- 1 MMAP
    ∷ (u64 ∷ u64 ∷ [])  -- 2 LOST
    ∷ (u32 ∷ u32 ∷ always Name ∷ [])  -- 3 COMM
    ∷ tasks  -- 4 EXIT
    ∷ three_words  -- 5 THROTTLE
    ∷ three_words  -- 6 UNTHROTTLE
    ∷ tasks  -- 7 FORK
    ∷ (u32 ∷ u32 ∷ read_values a true)  -- 8 READ
    ∷ sample a  -- 9 SAMPLE
    ∷ mmap2 (bit misc 14)  -- 10 MMAP2
    ∷ three_words  -- 11 AUX
    ∷ thread  -- 12 ITRACE_START
    ∷ (u64 ∷ [])  -- 13 LOST_SAMPLES
    ∷ []  -- 14 SWITCH
    ∷ thread  -- 15 SWITCH_CPU_WIDE
    ∷ (u32 ∷ u32 ∷ always (Count W8) ∷ always (Times 16) ∷ [])  -- 16 NAMESPACES
    ∷ (u64 ∷ u32 ∷ u16 ∷ u16 ∷ always Name ∷ [])  -- 17 KSYMBOL
    ∷ (u16 ∷ u16 ∷ u32 ∷ always (Bytes 8) ∷ [])  -- 18 BPF_EVENT
    ∷ (u64 ∷ always Name ∷ [])  -- 19 CGROUP
    ∷ (u64 ∷ always (Count W2) ∷ always (Count W2) ∷ always (Earlier 1) ∷ always (Times 1) ∷ always Pad ∷ [])  -- 20 TEXT_POKE
    ∷ (u64 ∷ [])  -- 21 AUX_OUTPUT_HW_ID, M-110: "one 64-bit hardware id and the trailer"
    ∷ []

abbrev pub schema : ℕ → ℕ → Attributes → List Item
schema kind misc a = get_or (schemas misc a) kind []

-- "If sample_id_all is set, every record but SAMPLE ends with these eight-byte items where selected: pid and tid (bit 1), time (2), id (6),
-- stream id (9), cpu and res (7), identifier (16)"
abbrev pub trails : ℕ → Attributes → ℕ → Bool
trails kind a b = a.all && not (eqb kind 9) && bit a.sample b

abbrev pub trailer : ℕ → Attributes → List Item
trailer kind a =
    item (trails kind a 1) (Number W4)
    ∷ item (trails kind a 1) (Number W4)
    ∷ item (trails kind a 2) (Number W8)
    ∷ item (trails kind a 6) (Number W8)
    ∷ item (trails kind a 9) (Number W8)
    ∷ item (trails kind a 7) (Number W4)
    ∷ item (trails kind a 7) (Ignored 4)
    ∷ item (trails kind a 16) (Number W8)
    ∷ []
