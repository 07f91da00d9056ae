-- The names of a value's words: for each record type the words of its items in order, as document 01 spells the fields. A list or a name has a
-- place and, where no word of the record holds it, a count of its own. That there are as many names as words is a theorem (laws, Named);
-- tests/words.py compares the names, by type and number, with those that C is told and with docs/FORMAT.md.
-- Assumes nothing: these are definitions.
use Rattle.std.specs.Prelude.{ℕ, ◌-◌, cond, List, [], ◌∷◌, ◌++◌, ltb, get_or}
use Rattle.meaning.specs.Values.{body_words, trail_words}

pub data Word : Type 0 where
  type misc size : Word
  pid tid ppid ptid time addr len pgoff name name_count name_flag : Word
  id lost stream_id identifier cpu ip period : Word
  value values_count enabled running values : Word
  callchain_count callchain raw_size raw branches_count hardware_index branches : Word
  user_abi user_registers user_registers_count stack_size stack filled : Word
  weight data_source transaction interrupt_abi interrupt_registers interrupt_registers_count : Word
  physical_address cgroup data_page_size code_page_size aux_size aux : Word
  maj min ino generation build_id_size build_id prot flags : Word
  offset namespaces_count namespaces kind tag tag_count : Word
  old_length new_length old_text new_text hardware_id : Word
  none : Word

-- "Header: type u32, misc u16, size u16"
abbrev pub header_names : List Word
header_names = type ∷ misc ∷ size ∷ []

-- "Read values: without bit 3, value, then enabled time (bit 0), running time (1), id (2). With bit 3: n, .." M-110: the lost count
-- "is the last read value" without bit 3
abbrev pub read_names : List Word
read_names = value ∷ values_count ∷ enabled ∷ running ∷ id ∷ lost ∷ values ∷ []

-- "SAMPLE (9), in this order where selected: identifier 16, ip 0, pid and tid 1, time 2, addr 3, id 6, stream id 9, cpu and res 7, period 8,
-- read values 4, callchain 5 .., raw 10 .., branches 11 .., user registers 12, user stack 13 .., weight 14 or 24, data source 15, transaction 17,
-- interrupt registers 18, physical address 19, cgroup 21, data page size 22, code page size 23, aux 20 (size, bytes)"
abbrev pub sample_names : List Word
sample_names =
    (identifier ∷ ip ∷ pid ∷ tid ∷ time ∷ addr ∷ id ∷ stream_id ∷ cpu ∷ period ∷ [])
    ++ (read_names
    ++ ((callchain_count ∷ callchain ∷ raw_size ∷ raw ∷ branches_count ∷ hardware_index ∷ branches ∷ [])
    ++ ((user_abi ∷ user_registers ∷ user_registers_count ∷ stack_size ∷ stack ∷ filled ∷ [])
    ++ ((weight ∷ data_source ∷ transaction ∷ interrupt_abi ∷ interrupt_registers ∷ interrupt_registers_count ∷ [])
    ++ (physical_address ∷ cgroup ∷ data_page_size ∷ code_page_size ∷ aux_size ∷ aux ∷ [])))))

-- by type, from 0 on, which has none. "MMAP, MMAP2, COMM, KSYMBOL and CGROUP records gain a flag" (M-107): the word after the name's count
abbrev pub word_names : List (List Word)
word_names =
    []
    ∷ (pid ∷ tid ∷ addr ∷ len ∷ pgoff ∷ name ∷ name_count ∷ name_flag ∷ [])  -- 1 MMAP: "pid, tid u32; addr, len, pgoff u64; name"
    ∷ (id ∷ lost ∷ [])  -- 2 LOST: "id, lost u64"
    ∷ (pid ∷ tid ∷ name ∷ name_count ∷ name_flag ∷ [])  -- 3 COMM: "pid, tid u32; name"
    ∷ (pid ∷ ppid ∷ tid ∷ ptid ∷ time ∷ [])  -- 4 EXIT: "pid, ppid, tid, ptid u32; time u64"
    ∷ (time ∷ id ∷ stream_id ∷ [])  -- 5 THROTTLE: "time, id, stream id u64"
    ∷ (time ∷ id ∷ stream_id ∷ [])  -- 6 UNTHROTTLE
    ∷ (pid ∷ ppid ∷ tid ∷ ptid ∷ time ∷ [])  -- 7 FORK
    ∷ (pid ∷ tid ∷ read_names)  -- 8 READ: "pid, tid u32; read values"
    ∷ sample_names  -- 9 SAMPLE
    ∷ (pid ∷ tid ∷ addr ∷ len ∷ pgoff ∷ maj ∷ min ∷ ino ∷ generation ∷ build_id_size ∷ build_id ∷ prot ∷ flags ∷ name ∷ name_count ∷ name_flag ∷ [])  -- 10 MMAP2
    ∷ (offset ∷ size ∷ flags ∷ [])  -- 11 AUX: "offset, size, flags u64"
    ∷ (pid ∷ tid ∷ [])  -- 12 ITRACE_START: "pid, tid u32"
    ∷ (lost ∷ [])  -- 13 LOST_SAMPLES: "lost u64"
    ∷ []  -- 14 SWITCH: "nothing"
    ∷ (pid ∷ tid ∷ [])  -- 15 SWITCH_CPU_WIDE: "pid, tid u32"
    ∷ (pid ∷ tid ∷ namespaces_count ∷ namespaces ∷ [])  -- 16 NAMESPACES: "pid, tid u32; n u64; n times dev, inode u64"
    ∷ (addr ∷ len ∷ kind ∷ flags ∷ name ∷ name_count ∷ name_flag ∷ [])  -- 17 KSYMBOL: "addr u64; len u32; type, flags u16; name"
    ∷ (kind ∷ flags ∷ id ∷ tag ∷ tag_count ∷ [])  -- 18 BPF_EVENT: "type, flags u16; id u32; 8 bytes"
    ∷ (id ∷ name ∷ name_count ∷ name_flag ∷ [])  -- 19 CGROUP: "id u64; name"
    ∷ (addr ∷ old_length ∷ new_length ∷ old_text ∷ new_text ∷ [])  -- 20 TEXT_POKE: "addr u64; old, new length u16; both texts; .. padding"
    ∷ (hardware_id ∷ [])  -- 21 AUX_OUTPUT_HW_ID: "one 64-bit hardware id"
    ∷ []

-- "pid and tid (bit 1), time (2), id (6), stream id (9), cpu and res (7), identifier (16)"
abbrev pub trailer_names : List Word
trailer_names = pid ∷ tid ∷ time ∷ id ∷ stream_id ∷ cpu ∷ identifier ∷ []

-- which field is word k of a value of a type? the header's three, the body's from 3 on, the trailer's from 48 on
abbrev pub name_of : ℕ → ℕ → Word
name_of t k =
    cond (ltb k body_words) (get_or header_names k none)
    (cond (ltb k trail_words) (get_or (get_or word_names t []) (k - body_words) none) (get_or trailer_names (k - trail_words) none))
