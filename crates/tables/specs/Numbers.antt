-- Document 01's tables once more, with what M-102 and M-110 add to them, written from the two papers in plain numbers: places, bytes, bits, limits,
-- edges. Nothing of `meaning` is used here, so that a slip in one statement is seen by the other (Compared.antt). Assumes nothing: these are definitions.
use Rattle.std.specs.Prelude.{ℕ, zero, suc, ◌+◌, ◌*◌, Bool, true, false, cond, List, [], ◌∷◌, ◌++◌, eqb, get_or}

-- ---- small tools of this statement

-- n numbers from i on: i, i + 1, ..
abbrev pub from : ℕ → ℕ → List ℕ
from i zero = []
from i (suc n) = i ∷ from (i + 1) n

-- the number of k bytes at a place, the lowest byte first
abbrev pub spelled : ℕ → ℕ → List ℕ → ℕ
spelled zero place xs = 0
spelled (suc k) place xs = get_or xs place 0 + 256 * spelled k (place + 1) xs

abbrev pub among : ℕ → List ℕ → Bool
among x [] = false
among x (y ∷ ys) = cond (eqb x y) true (among x ys)

-- a small number as a word of eight bytes
abbrev pub word : ℕ → List ℕ
word x = x ∷ 0 ∷ 0 ∷ 0 ∷ 0 ∷ 0 ∷ 0 ∷ 0 ∷ []

-- ---- editions: the last sample bit, the last type, the last read-format bit, is the build-id form known, and (M-102) the branch sample bits that
-- are; edition 4 is M-110's

pub record Limits : Type 0 where
  pub edition : ℕ
  pub last_bit : ℕ
  pub last_type : ℕ
  pub last_format : ℕ
  pub build_id : Bool
  pub branches : List ℕ

abbrev limits : ℕ → ℕ → ℕ → ℕ → Bool → List ℕ → Limits
limits e b t f known branches = record { edition = e; last_bit = b; last_type = t; last_format = f; build_id = known; branches = branches }

abbrev pub edition_limits : List Limits
edition_limits =
    limits 1 15 9 3 false (from 0 17 ++ (18 ∷ []))
    ∷ limits 2 18 15 3 false (from 0 17 ++ (18 ∷ []))
    ∷ limits 3 24 20 3 true (from 0 19)
    ∷ limits 4 24 21 4 true (from 0 19)
    ∷ []

-- ---- the ring: lengths are the powers of two with these exponents

abbrev pub exponents : List ℕ
exponents = 6 ∷ 7 ∷ 8 ∷ 9 ∷ 10 ∷ 11 ∷ 12 ∷ 13 ∷ 14 ∷ 15 ∷ 16 ∷ 17 ∷ 18 ∷ 19 ∷ 20 ∷ []

-- ---- the fields of SAMPLE in their order: the bits that select one (weight has two), and its bytes where one element is counted

pub record Field : Type 0 where
  pub bits : List ℕ
  pub bytes : ℕ

abbrev field : ℕ → ℕ → Field
field b k = record { bits = b ∷ []; bytes = k }

-- identifier, ip, pid, tid, time, addr, id, stream id, cpu, res, period
abbrev sample_numbers : List Field
sample_numbers = field 16 8 ∷ field 0 8 ∷ field 1 4 ∷ field 1 4 ∷ field 2 8 ∷ field 3 8 ∷ field 6 8 ∷ field 9 8 ∷ field 7 4 ∷ field 7 4 ∷ field 8 8 ∷ []

-- a word that is not selected by any bit of the sample type alone
abbrev unused : Field
unused = record { bits = []; bytes = 8 }

-- read values of no format: the value alone; the other six need a bit of the read format
abbrev sample_value : List Field
sample_value = field 4 8 ∷ unused ∷ unused ∷ unused ∷ unused ∷ unused ∷ unused ∷ []

-- callchain: n, one address; raw: size, one byte; branches: n, the hardware index, one entry; user registers: abi, one register; user stack: size,
-- one byte, filled length
abbrev sample_lists : Field → List Field
sample_lists index =
    field 5 8 ∷ field 5 8 ∷ field 10 4 ∷ field 10 1 ∷ field 11 8 ∷ index ∷ field 11 24 ∷ field 12 8 ∷ field 12 8 ∷ field 13 8 ∷ field 13 1 ∷ field 13 8 ∷ []

-- weight; data source, transaction; interrupt registers: abi, one register; physical address, cgroup, data and code page size; aux: size, one byte
abbrev sample_last : List Field
sample_last =
    record { bits = 14 ∷ 24 ∷ []; bytes = 8 }
    ∷ field 15 8 ∷ field 17 8 ∷ field 18 8 ∷ field 18 8 ∷ field 19 8 ∷ field 21 8 ∷ field 22 8 ∷ field 23 8 ∷ field 20 8 ∷ field 20 1 ∷ []

abbrev pub sample_order : List Field
sample_order = sample_numbers ++ (sample_value ++ (sample_lists unused ++ sample_last))

-- with branch sample bit 17: the hardware index is there wherever the branches are
abbrev pub indexed_order : List Field
indexed_order = sample_numbers ++ (sample_value ++ (sample_lists (field 11 8) ++ sample_last))

-- ---- the trailer in its order: pid, tid, time, id, stream id, cpu, res, identifier; its mask as a number

abbrev pub trailer_order : List Field
trailer_order = field 1 4 ∷ field 1 4 ∷ field 2 8 ∷ field 6 8 ∷ field 9 8 ∷ field 7 4 ∷ field 7 4 ∷ field 16 8 ∷ []

abbrev pub trailer_mask : ℕ
trailer_mask = 66246

abbrev pub trailer_bits : List ℕ
trailer_bits = 1 ∷ 2 ∷ 6 ∷ 7 ∷ 9 ∷ 16 ∷ []

-- ---- the journal entry of type 14, answer 20, tail 2^64 - 8, as sixteen bytes; and the kinds of some types

abbrev pub entry_bytes : List ℕ
entry_bytes = 16 ∷ 0 ∷ 0 ∷ 0 ∷ 14 ∷ 0 ∷ 20 ∷ 0 ∷ 248 ∷ 255 ∷ 255 ∷ 255 ∷ 255 ∷ 255 ∷ 255 ∷ 255 ∷ []

-- a type as its four bytes, and the kind
abbrev pub kinds_of_types : List (List ℕ × ℕ)
kinds_of_types =
    (0 ∷ 0 ∷ 0 ∷ 0 ∷ [], 0)
    ∷ (20 ∷ 0 ∷ 0 ∷ 0 ∷ [], 20)
    ∷ (254 ∷ 255 ∷ 0 ∷ 0 ∷ [], 65534)
    ∷ (255 ∷ 255 ∷ 0 ∷ 0 ∷ [], 65535)
    ∷ (0 ∷ 0 ∷ 1 ∷ 0 ∷ [], 65535)
    ∷ (255 ∷ 255 ∷ 255 ∷ 255 ∷ [], 65535)
    ∷ []

-- ---- misc: the type, and what bits 13 and 14 mean for it, as C is told it: data mapping 8, exec 16, switched out 32, exact address 64, preempted 128,
-- build id 256, nothing 0

abbrev pub misc_bits : List (ℕ × ℕ × ℕ)
misc_bits =
    (0, 0, 0) ∷ (1, 8, 0) ∷ (2, 0, 0) ∷ (3, 16, 0) ∷ (4, 0, 0) ∷ (5, 0, 0) ∷ (6, 0, 0) ∷ (7, 0, 0) ∷ (8, 0, 0) ∷ (9, 0, 64) ∷ (10, 8, 256)
    ∷ (11, 0, 0) ∷ (12, 0, 0) ∷ (13, 0, 0) ∷ (14, 32, 128) ∷ (15, 32, 128) ∷ (16, 0, 0) ∷ (17, 0, 0) ∷ (18, 0, 0) ∷ (19, 0, 0) ∷ (20, 0, 0) ∷ (21, 0, 0) ∷ (22, 0, 0)
    ∷ (65537, 0, 0) ∷ []
