-- Document 01's "Bodies after the header" once more: for each type a record laid out byte by byte, and what it says, by places and bytes as plain
-- numbers. Then records, slices and rings at the edges of a rule, with their answers. Nothing of `meaning` is used here. Assumes nothing: these are
-- definitions.
use Rattle.std.specs.Prelude.{ℕ, zero, suc, ◌+◌, ◌-◌, ◌*◌, ◌/◌, ◌%◌, ◌^◌, Bool, true, false, cond, List, [], ◌∷◌, ◌++◌}
use Rattle.tables.specs.Numbers.{from, spelled, among, word, trailer_mask}

-- a word of a value: the number of so many bytes at a place; or this number: a place, a count, or 0 for what is not there
pub data WordAs : Type 0 where
  at : ℕ → ℕ → WordAs
  is : ℕ → WordAs

-- a record of edition 3, or of edition 4 if no other has it, that decodes: the high byte of misc, the attributes, the bytes, its words, the flag's word
-- where a byte after its name's zero is not zero, and the places of ignored bytes
pub record Row : Type 0 where
  pub kind : ℕ
  pub high : ℕ
  pub sample : ℕ
  pub format : ℕ
  pub trails : Bool
  pub user : ℕ
  pub interrupt : ℕ
  pub branch : ℕ
  pub size : ℕ
  pub body : List ℕ
  pub told : List WordAs
  pub flag : List WordAs
  pub trail : List WordAs
  pub ignored : List ℕ

abbrev flagged_row : ℕ → ℕ → ℕ → ℕ → ℕ → List ℕ → List WordAs → List WordAs → List ℕ → Row
flagged_row kind high sample format size body told flag ignored =
    record {
      kind = kind;
      high = high;
      sample = sample;
      format = format;
      trails = false;
      user = 5;
      interrupt = 8;
      branch = 0;
      size = size;
      body = body;
      told = told;
      flag = flag;
      trail = [];
      ignored = ignored;
    }

abbrev row : ℕ → ℕ → ℕ → ℕ → ℕ → List ℕ → List WordAs → List ℕ → Row
row kind high sample format size body told ignored = flagged_row kind high sample format size body told [] ignored

-- a record of numbers alone: each byte after the header is its own place
abbrev plain : ℕ → ℕ → List WordAs → Row
plain kind size told = row kind 0 0 0 size (from 8 (size - 8)) told []

-- the name "abc" in the last eight bytes; the four after its zero are ignored, and not zero, so that the record is flagged
abbrev abc : List ℕ
abc = 97 ∷ 98 ∷ 99 ∷ 0 ∷ 1 ∷ 2 ∷ 3 ∷ 4 ∷ []

abbrev named : ℕ → ℕ → List WordAs → Row
named kind place told =
    flagged_row kind 0 0 0 (place + 8) (from 8 (place - 8) ++ abc) (told ++ (is place ∷ is 3 ∷ [])) (is 1 ∷ []) (from (place + 4) 4)

-- the same with zeros after the name's zero: every byte is kept, and the flag's word is 0
abbrev tidy : ℕ → ℕ → List WordAs → Row
tidy kind place told = row kind 0 0 0 (place + 8) (from 8 (place - 8) ++ (97 ∷ 98 ∷ 99 ∷ 0 ∷ 0 ∷ 0 ∷ 0 ∷ 0 ∷ [])) (told ++ (is place ∷ is 3 ∷ is 0 ∷ [])) []

-- READ by its format, with what stands behind pid and tid
abbrev reading : ℕ → ℕ → List ℕ → List WordAs → Row
reading format size values told = row 8 0 0 format size (from 8 8 ++ values) (at 8 4 ∷ at 12 4 ∷ told) []

abbrev pub types : List Row
types =
    named 1 40 (at 8 4 ∷ at 12 4 ∷ at 16 8 ∷ at 24 8 ∷ at 32 8 ∷ [])  -- MMAP: pid, tid, addr, len, pgoff, name
    ∷ plain 2 24 (at 8 8 ∷ at 16 8 ∷ [])  -- LOST: id, lost
    ∷ named 3 16 (at 8 4 ∷ at 12 4 ∷ [])  -- COMM: pid, tid, name
    ∷ plain 4 32 (at 8 4 ∷ at 12 4 ∷ at 16 4 ∷ at 20 4 ∷ at 24 8 ∷ [])  -- EXIT: pid, ppid, tid, ptid, time
    ∷ plain 5 32 (at 8 8 ∷ at 16 8 ∷ at 24 8 ∷ [])  -- THROTTLE: time, id, stream id
    ∷ plain 6 32 (at 8 8 ∷ at 16 8 ∷ at 24 8 ∷ [])  -- UNTHROTTLE
    ∷ plain 7 32 (at 8 4 ∷ at 12 4 ∷ at 16 4 ∷ at 20 4 ∷ at 24 8 ∷ [])  -- FORK
    ∷ plain 11 32 (at 8 8 ∷ at 16 8 ∷ at 24 8 ∷ [])  -- AUX: offset, size, flags
    ∷ plain 12 16 (at 8 4 ∷ at 12 4 ∷ [])  -- ITRACE_START: pid, tid
    ∷ plain 13 16 (at 8 8 ∷ [])  -- LOST_SAMPLES: lost
    ∷ plain 14 8 []  -- SWITCH: nothing
    ∷ plain 15 16 (at 8 4 ∷ at 12 4 ∷ [])  -- SWITCH_CPU_WIDE: pid, tid
    ∷ row 16 0 0 0 56 (from 8 8 ++ (word 2 ++ from 24 32)) (at 8 4 ∷ at 12 4 ∷ is 2 ∷ is 24 ∷ []) []  -- NAMESPACES: pid, tid, n, two of dev, inode
    ∷ named 17 24 (at 8 8 ∷ at 16 4 ∷ at 20 2 ∷ at 22 2 ∷ [])  -- KSYMBOL: addr, len, type, flags, name
    ∷ plain 18 24 (at 8 2 ∷ at 10 2 ∷ at 12 4 ∷ is 16 ∷ is 8 ∷ [])  -- BPF_EVENT: type, flags, id, 8 bytes
    ∷ named 19 16 (at 8 8 ∷ [])  -- CGROUP: id, name
    -- TEXT_POKE: addr, old length 3, new length 2, both texts, 7 bytes of padding
    ∷ row 20 0 0 0 32 (from 8 8 ++ (3 ∷ 0 ∷ 2 ∷ 0 ∷ from 20 12)) (at 8 8 ∷ is 3 ∷ is 2 ∷ is 20 ∷ is 23 ∷ []) (from 25 7)
    ∷ []

-- MMAP2: maj, min, ino, generation; or, by misc bit 14 (64 in the high byte), a build id of 5 bytes in a room of 20 after 3 reserved ones
abbrev pub mappings : List Row
mappings =
    named 10 72
    (at 8 4 ∷ at 12 4 ∷ at 16 8 ∷ at 24 8 ∷ at 32 8 ∷ at 40 4 ∷ at 44 4 ∷ at 48 8 ∷ at 56 8 ∷ is 0 ∷ is 0 ∷ at 64 4 ∷ at 68 4 ∷ [])
    ∷ flagged_row 10 64 0 0 80 (from 8 32 ++ (5 ∷ from 41 31) ++ abc)
    (at 8 4 ∷ at 12 4 ∷ at 16 8 ∷ at 24 8 ∷ at 32 8 ∷ is 0 ∷ is 0 ∷ is 0 ∷ is 0 ∷ is 5 ∷ is 44 ∷ at 64 4 ∷ at 68 4 ∷ is 72 ∷ is 3 ∷ [])
    (is 1 ∷ [])
    (from 41 3 ++ (from 49 15 ++ from 76 4))
    ∷ []

-- READ: the words are value, n, enabled, running, id, lost count, the place of the entries
abbrev pub readings : List Row
readings =
    reading 0 24 (from 16 8) (at 16 8 ∷ is 0 ∷ is 0 ∷ is 0 ∷ is 0 ∷ is 0 ∷ is 0 ∷ [])
    ∷ reading 1 32 (from 16 16) (at 16 8 ∷ is 0 ∷ at 24 8 ∷ is 0 ∷ is 0 ∷ is 0 ∷ is 0 ∷ [])
    ∷ reading 2 32 (from 16 16) (at 16 8 ∷ is 0 ∷ is 0 ∷ at 24 8 ∷ is 0 ∷ is 0 ∷ is 0 ∷ [])
    ∷ reading 4 32 (from 16 16) (at 16 8 ∷ is 0 ∷ is 0 ∷ is 0 ∷ at 24 8 ∷ is 0 ∷ is 0 ∷ [])
    ∷ reading 7 48 (from 16 32) (at 16 8 ∷ is 0 ∷ at 24 8 ∷ at 32 8 ∷ at 40 8 ∷ is 0 ∷ is 0 ∷ [])
    ∷ reading 8 48 (word 3 ++ from 24 24) (is 0 ∷ is 3 ∷ is 0 ∷ is 0 ∷ is 0 ∷ is 0 ∷ is 24 ∷ [])
    ∷ reading 12 56 (word 2 ++ from 24 32) (is 0 ∷ is 2 ∷ is 0 ∷ is 0 ∷ is 0 ∷ is 0 ∷ is 24 ∷ [])
    ∷ reading 15 72 (word 2 ++ from 24 48) (is 0 ∷ is 2 ∷ at 24 8 ∷ at 32 8 ∷ is 0 ∷ is 0 ∷ is 40 ∷ [])
    ∷ []

-- edition 4: read-format bit 4 (16). Without bit 3 the lost count is the last word; with it an entry is value, id, lost count, each where selected: 16
-- bytes by bit 4 alone, 24 with bit 2. And type 21: one hardware id
abbrev pub losses : List Row
losses =
    reading 16 32 (from 16 16) (at 16 8 ∷ is 0 ∷ is 0 ∷ is 0 ∷ is 0 ∷ at 24 8 ∷ is 0 ∷ [])
    ∷ reading 20 40 (from 16 24) (at 16 8 ∷ is 0 ∷ is 0 ∷ is 0 ∷ at 24 8 ∷ at 32 8 ∷ is 0 ∷ [])
    ∷ reading 23 56 (from 16 40) (at 16 8 ∷ is 0 ∷ at 24 8 ∷ at 32 8 ∷ at 40 8 ∷ at 48 8 ∷ is 0 ∷ [])
    ∷ reading 24 56 (word 2 ++ from 24 32) (is 0 ∷ is 2 ∷ is 0 ∷ is 0 ∷ is 0 ∷ is 0 ∷ is 24 ∷ [])
    ∷ reading 28 72 (word 2 ++ from 24 48) (is 0 ∷ is 2 ∷ is 0 ∷ is 0 ∷ is 0 ∷ is 0 ∷ is 24 ∷ [])
    ∷ reading 31 64 (word 1 ++ from 24 40) (is 0 ∷ is 1 ∷ at 24 8 ∷ at 32 8 ∷ is 0 ∷ is 0 ∷ is 40 ∷ [])
    ∷ plain 21 16 (at 8 8 ∷ [])  -- AUX_OUTPUT_HW_ID: hardware id
    -- SAMPLE with sample bit 4 alone: ten words to period, then value, n, enabled, running, id, lost count
    ∷ row 9 0 (2 ^ 4) 20 32 (from 8 24)
    (is 0 ∷ is 0 ∷ is 0 ∷ is 0 ∷ is 0 ∷ is 0 ∷ is 0 ∷ is 0 ∷ is 0 ∷ is 0 ∷ at 8 8 ∷ is 0 ∷ is 0 ∷ is 0 ∷ at 16 8 ∷ at 24 8 ∷ [])
    []
    ∷ []

-- SAMPLE with every bit of edition 3 but 14. Numbers to the read value at 80; callchain of 2 at 88; raw of 4 at 112; one branch at 120; two user
-- registers at 152; a stack of 8 with 7 filled at 176; one interrupt register at 224; aux of 16 at 272
abbrev sample_body : List ℕ
sample_body =
    from 8 80
    ++ (word 2 ++ (from 96 16
    ++ (4 ∷ 0 ∷ 0 ∷ 0 ∷ from 116 4
    ++ (word 1 ++ (from 128 24
    ++ (word 1 ++ (from 160 16
    ++ (word 8 ++ (from 184 8 ++ (word 7
    ++ (from 200 24
    ++ (word 2 ++ (from 232 24
    ++ (from 0 16
    ++ (word 16 ++ from 24 16)))))))))))))))

abbrev sample_numbers : List WordAs
sample_numbers =
    at 8 8 ∷ at 16 8 ∷ at 24 4 ∷ at 28 4 ∷ at 32 8 ∷ at 40 8 ∷ at 48 8 ∷ at 56 8 ∷ at 64 4 ∷ at 72 8  -- identifier to period
    ∷ at 80 8 ∷ is 0 ∷ is 0 ∷ is 0 ∷ is 0 ∷ is 0 ∷ is 0  -- the read value
    ∷ []

abbrev sample_lists : List WordAs
sample_lists =
    is 2 ∷ is 96  -- callchain: n, place
    ∷ is 4 ∷ is 116  -- raw: size, place
    ∷ is 1 ∷ is 0 ∷ is 128  -- branches: n, no hardware index, place
    ∷ is 1 ∷ is 160 ∷ is 2  -- user registers: abi, place, count
    ∷ is 8 ∷ is 184 ∷ is 7  -- stack: size, place, filled length
    ∷ at 200 8 ∷ at 208 8 ∷ at 216 8  -- weight, data source, transaction
    ∷ is 2 ∷ is 232 ∷ is 1  -- interrupt registers
    ∷ at 240 8 ∷ at 248 8 ∷ at 256 8 ∷ at 264 8  -- physical address, cgroup, page sizes
    ∷ is 16 ∷ is 280  -- aux: size, place
    ∷ []

abbrev pub samples : List Row
samples =
    row 9 0 (2 ^ 25 - 1 - 2 ^ 14) 0 296 sample_body (sample_numbers ++ sample_lists) (from 68 4)
    ∷ []

-- branches with their hardware index, by bit 17 of the branch sample type: n at 8, the index at 16, two entries from 24 on. Of the body's words n is the 22nd
abbrev pub indexed : List Row
indexed =
    record {
      kind = 9;
      high = 0;
      sample = 2 ^ 11;
      format = 0;
      trails = false;
      user = 0;
      interrupt = 0;
      branch = 2 ^ 17;
      size = 72;
      body = word 2 ++ from 16 56;
      told = is 0 ∷ is 0 ∷ is 0 ∷ is 0 ∷ is 0 ∷ is 0 ∷ is 0 ∷ is 0 ∷ is 0 ∷ is 0  -- identifier to period
          ∷ is 0 ∷ is 0 ∷ is 0 ∷ is 0 ∷ is 0 ∷ is 0 ∷ is 0 ∷ is 0 ∷ is 0 ∷ is 0 ∷ is 0  -- read values, callchain, raw
          ∷ is 2 ∷ at 16 8 ∷ is 24 ∷ [];
      flag = [];
      trail = [];
      ignored = [];
    }
    ∷ []

-- a trailer of all its bits behind LOST: pid, tid, time, id, stream id, cpu, identifier
abbrev pub trailed : List Row
trailed =
    record {
      kind = 2;
      high = 0;
      sample = trailer_mask;
      format = 0;
      trails = true;
      user = 0;
      interrupt = 0;
      branch = 0;
      size = 72;
      body = from 8 64;
      told = at 8 8 ∷ at 16 8 ∷ [];
      flag = [];
      trail = at 24 4 ∷ at 28 4 ∷ at 32 8 ∷ at 40 8 ∷ at 48 8 ∷ at 56 4 ∷ at 64 8 ∷ [];
      ignored = from 60 4;
    }
    ∷ []

-- "whether any byte after the name's zero within its room is not zero" (M-107): names without such a byte, with one in the last place alone, with one
-- before a trailer, which is no part of the room; a trailer that is not zero behind a name that is clean; and text padding, which is no name
abbrev pub flags : List Row
flags =
    tidy 3 16 (at 8 4 ∷ at 12 4 ∷ [])
    ∷ tidy 19 16 (at 8 8 ∷ [])
    ∷ flagged_row 19 0 0 0 24 (from 8 8 ++ (97 ∷ 0 ∷ 0 ∷ 0 ∷ 0 ∷ 0 ∷ 0 ∷ 9 ∷ [])) (at 8 8 ∷ is 16 ∷ is 1 ∷ []) (is 1 ∷ []) (from 18 6)
    ∷ row 19 0 0 0 24 (from 8 8 ++ (1 ∷ 2 ∷ 3 ∷ 4 ∷ 5 ∷ 6 ∷ 7 ∷ 0 ∷ [])) (at 8 8 ∷ is 16 ∷ is 7 ∷ is 0 ∷ []) []
    ∷ timed (97 ∷ 0 ∷ 0 ∷ 0 ∷ 0 ∷ 0 ∷ 0 ∷ 0 ∷ []) []
    ∷ timed (97 ∷ 0 ∷ 0 ∷ 5 ∷ 0 ∷ 0 ∷ 0 ∷ 0 ∷ []) (is 1 ∷ [])
    ∷ row 20 0 0 0 32 (from 8 8 ++ (3 ∷ 0 ∷ 2 ∷ 0 ∷ from 20 5 ++ (0 ∷ from 26 6))) (at 8 8 ∷ is 3 ∷ is 2 ∷ is 20 ∷ is 23 ∷ []) (from 25 7)
    ∷ []
  where
    -- CGROUP with a time behind it, that has no zero byte
    timed : List ℕ → List WordAs → Row
    timed name flag =
        record {
          kind = 19;
          high = 0;
          sample = 4;
          format = 0;
          trails = true;
          user = 0;
          interrupt = 0;
          branch = 0;
          size = 32;
          body = from 8 8 ++ (name ++ from 24 8);
          told = at 8 8 ∷ is 16 ∷ is 1 ∷ [];
          flag = flag;
          trail = is 0 ∷ is 0 ∷ at 24 8 ∷ [];
          ignored = from 18 6;
        }

-- n numbers: those given, then zeros
abbrev filled : ℕ → List ℕ → List ℕ
filled zero xs = []
filled (suc n) [] = 0 ∷ filled n []
filled (suc n) (x ∷ xs) = x ∷ filled n xs

-- ---- the writer's answers around 43: edition, the words of a CGROUP whose flag is set, with a name of three bytes at a place in a source of eight, room

abbrev flagged_words : ℕ → ℕ → List ℕ
flagged_words place flag = 19 ∷ 0 ∷ 24 ∷ 5 ∷ place ∷ 3 ∷ flag ∷ filled 49 []

-- "with 43, after 24 and before 41": 2, 20, 43 before 41, before 42 (a word that CGROUP does not have is 9) and before 40; any flag but 0; none
abbrev pub orders : List (ℕ × List ℕ × ℕ × ℕ)
orders =
    (0, flagged_words 0 1, 24, 2)
    ∷ (1, flagged_words 0 1, 24, 20)
    ∷ (3, flagged_words 0 1, 24, 43)
    ∷ (3, flagged_words 6 1, 24, 43)
    ∷ (3, flagged_words 6 0, 24, 41)
    ∷ (3, 19 ∷ 0 ∷ 24 ∷ 5 ∷ 0 ∷ 3 ∷ 1 ∷ 9 ∷ filled 48 [], 24, 43)
    ∷ (3, 19 ∷ 0 ∷ 24 ∷ 5 ∷ 0 ∷ 3 ∷ 0 ∷ 9 ∷ filled 48 [], 24, 42)
    ∷ (3, flagged_words 0 1, 23, 43)
    ∷ (3, flagged_words 0 0, 23, 40)
    ∷ (3, flagged_words 0 2, 24, 43)
    ∷ (3, flagged_words 0 0, 24, 0)
    -- 41 before 42, and 42 before 40
    ∷ (3, 19 ∷ 0 ∷ 24 ∷ 5 ∷ 6 ∷ 3 ∷ 0 ∷ 9 ∷ filled 48 [], 24, 41)
    ∷ (3, 19 ∷ 0 ∷ 24 ∷ 5 ∷ 0 ∷ 3 ∷ 0 ∷ 9 ∷ filled 48 [], 23, 42)
    ∷ []

-- ---- what a row says

-- "type u32, misc u16, size u16", then the body
abbrev pub laid : Row → List ℕ
laid r = r.kind ∷ 0 ∷ 0 ∷ 0 ∷ 0 ∷ r.high ∷ r.size % 256 ∷ r.size / 256 ∷ r.body

abbrev tells : List ℕ → List WordAs → List ℕ
tells xs [] = []
tells xs (at place k ∷ ts) = spelled k place xs ∷ tells xs ts
tells xs (is n ∷ ts) = n ∷ tells xs ts

-- 56 words: type, misc, size; 45 of the body; 8 of the trailer. Those that a writer takes have no flag
abbrev words_with : Row → List WordAs → List ℕ
words_with r told = r.kind ∷ 256 * r.high ∷ r.size ∷ (filled 45 (tells (laid r) told) ++ filled 8 (tells (laid r) r.trail))

abbrev pub said : Row → List ℕ
said r = words_with r (r.told ++ r.flag)

abbrev pub given : Row → List ℕ
given r = words_with r r.told

-- record check's answer, and the writer's to the words as they were read: 44 and 43 where the flag is set
abbrev flagged_else : Row → ℕ → ℕ
flagged_else r n = by r.flag
  where
    by : List WordAs → ℕ
    by [] = 0
    by (t ∷ ts) = n

abbrev pub checked : Row → ℕ
checked r = flagged_else r 44

abbrev pub rewritten : Row → ℕ
rewritten r = flagged_else r 43

-- the bytes from a place on, with zero at the places that are ignored
abbrev cleared : ℕ → List ℕ → List ℕ → List ℕ
cleared i ignored [] = []
cleared i ignored (x ∷ xs) = cond (among i ignored) 0 x ∷ cleared (i + 1) ignored xs

abbrev pub clean : Row → List ℕ
clean r = cleared 0 r.ignored (laid r)

-- ---- the edges of the rules for a body, in edition 3: type, high byte of misc, sample type, body, answer

pub record Judged : Type 0 where
  pub kind : ℕ
  pub high : ℕ
  pub sample : ℕ
  pub body : List ℕ
  pub answer : ℕ

abbrev judged : ℕ → ℕ → ℕ → List ℕ → ℕ → Judged
judged kind high sample body answer = record { kind = kind; high = high; sample = sample; body = body; answer = answer }

abbrev a : ℕ → List ℕ
a n = filled n []

abbrev raw : ℕ → ℕ → ℕ → Judged
raw size follow answer = judged 9 0 (2 ^ 10) (size ∷ 0 ∷ 0 ∷ 0 ∷ a follow) answer

abbrev stack : ℕ → ℕ → List ℕ → ℕ → Judged
stack size follow last answer = judged 9 0 (2 ^ 13) (word size ++ (a follow ++ last)) answer

abbrev aux : ℕ → ℕ → ℕ → Judged
aux size follow answer = judged 9 0 (2 ^ 20) (word size ++ a follow) answer

abbrev build_id : ℕ → ℕ → Judged
build_id size answer = judged 10 64 0 (a 32 ++ (size ∷ a 39)) answer

abbrev pub bodies : List Judged
bodies =
    raw 4 4 0 ∷ raw 12 12 0 ∷ raw 0 4 32 ∷ raw 5 12 32 ∷ raw 8 4 32 ∷ raw 12 4 30
    ∷ stack 0 0 [] 0 ∷ stack 8 8 (word 8) 0 ∷ stack 8 8 (word 9) 32 ∷ stack 8 8 [] 30 ∷ stack 4 8 (word 4) 32 ∷ stack 0 8 [] 31
    ∷ aux 0 0 0 ∷ aux 8 8 0 ∷ aux 8 0 30 ∷ aux 4 8 32 ∷ aux 12 16 32
    -- registers: none after an abi of 0
    ∷ judged 9 0 (2 ^ 12) (word 0) 0 ∷ judged 9 0 (2 ^ 12) (word 1) 30 ∷ judged 9 0 (2 ^ 12) (word 0 ++ word 0) 31
    -- names: the first zero among the last eight bytes
    ∷ judged 19 0 0 (a 8 ++ a 8) 0 ∷ judged 19 0 0 (a 8 ++ a 16) 33 ∷ judged 19 0 0 (a 8 ++ from 1 8) 33 ∷ judged 19 0 0 (a 8 ++ from 1 8 ++ a 8) 0 ∷ judged 19 0 0 (a 8 ++ from 1 7 ++ a 9) 33
    ∷ judged 19 0 0 (a 8) 33
    -- counts that would wrap if multiplied: 2^61 addresses, 2^60 namespaces
    ∷ judged 9 0 (2 ^ 5) (a 7 ++ (32 ∷ [])) 30 ∷ judged 16 0 0 (a 8 ++ a 7 ++ (16 ∷ [])) 30
    -- nothing of SWITCH; bytes left over; a field past the end
    ∷ judged 14 0 0 (a 8) 31 ∷ judged 13 0 0 [] 30 ∷ judged 2 0 0 (a 24) 31
    -- weight by one of its bits, and never by both
    ∷ judged 9 0 (2 ^ 14) (a 8) 0 ∷ judged 9 0 (2 ^ 24) (a 8) 0 ∷ judged 9 0 (2 ^ 14 + 2 ^ 24) (a 8) 24 ∷ judged 9 0 (2 ^ 25) (a 8) 21
    ∷ judged 0 0 0 [] 20 ∷ judged 21 0 0 [] 20
    ∷ []

-- branches: the branch sample type, the body, the answer. The index stands behind n, also where n is 0
abbrev pub branch_stacks : List (ℕ × List ℕ × ℕ)
branch_stacks =
    (0, word 0, 0) ∷ (0, word 1 ++ a 24, 0) ∷ (0, word 0 ++ word 5, 31) ∷ (2 ^ 18 + 65535, word 1 ++ a 24, 0)
    ∷ (2 ^ 17, word 0 ++ word 5, 0) ∷ (2 ^ 17, word 0, 30) ∷ (2 ^ 17, word 0 ++ word 5 ++ a 8, 31)
    ∷ (2 ^ 17, word 1 ++ word 5 ++ a 24, 0) ∷ (2 ^ 17, word 1 ++ a 24, 30) ∷ (2 ^ 17, word 5 ++ word 1 ++ a 24, 30)
    ∷ (2 ^ 19, word 0, 25) ∷ (2 ^ 63, word 0, 25)
    ∷ []

-- edition 4: read format, type, sample type, body, answer
abbrev pub lost_counts : List (ℕ × ℕ × ℕ × List ℕ × ℕ)
lost_counts =
    (16, 8, 0, a 8 ++ a 16, 0) ∷ (16, 8, 0, a 8 ++ a 8, 30) ∷ (16, 8, 0, a 8 ++ a 24, 31) ∷ (20, 8, 0, a 8 ++ a 24, 0) ∷ (32, 8, 0, a 8 ++ a 8, 22)
    ∷ (24, 8, 0, a 8 ++ word 1 ++ a 16, 0) ∷ (24, 8, 0, a 8 ++ word 1 ++ a 8, 30) ∷ (28, 8, 0, a 8 ++ word 1 ++ a 24, 0)
    ∷ (28, 8, 0, a 8 ++ word 1 ++ a 16, 30) ∷ (28, 8, 0, a 8 ++ word 0, 0)
    ∷ (28, 9, 16, word 1 ++ a 24, 0) ∷ (28, 9, 16, word 1 ++ a 16, 30) ∷ (16, 9, 16, a 16, 0) ∷ (16, 9, 0, [], 0) ∷ (32, 9, 16, a 8, 22)
    ∷ (0, 21, 0, a 8, 0) ∷ (0, 21, 0, [], 30) ∷ (0, 21, 0, a 16, 31) ∷ (0, 22, 0, a 8, 20)
    ∷ []

-- "build id size at most 20"
abbrev pub build_ids : List Judged
build_ids = build_id 0 0 ∷ build_id 19 0 ∷ build_id 20 0 ∷ build_id 21 32 ∷ build_id 255 32 ∷ []

-- abi 1 and one register: it is tried under each of the 64 bits of a mask (Compared, registers-same)
abbrev pub one_register : List ℕ
one_register = 9 ∷ 0 ∷ 0 ∷ 0 ∷ 0 ∷ 0 ∷ 24 ∷ 0 ∷ (word 1 ++ word 7)

-- ---- record check at the edges of a slice: edition, slice, answer

abbrev pub slices : List (ℕ × List ℕ × ℕ)
slices =
    (0, [], 2)
    ∷ (5, a 8, 2)
    ∷ (1, a 7, 7)
    ∷ (1, 13 ∷ 0 ∷ 0 ∷ 0 ∷ 0 ∷ 0 ∷ 0 ∷ 0 ∷ [], 6)
    ∷ (1, 14 ∷ 0 ∷ 0 ∷ 0 ∷ 0 ∷ 0 ∷ 4 ∷ 0 ∷ [], 6)
    ∷ (1, 14 ∷ 0 ∷ 0 ∷ 0 ∷ 0 ∷ 0 ∷ 12 ∷ 0 ∷ a 4, 6)
    ∷ (1, 14 ∷ 0 ∷ 0 ∷ 0 ∷ 0 ∷ 0 ∷ 16 ∷ 0 ∷ [], 7)
    ∷ (1, 14 ∷ 0 ∷ 0 ∷ 0 ∷ 0 ∷ 0 ∷ 8 ∷ 0 ∷ a 8, 7)
    ∷ (1, 14 ∷ 0 ∷ 0 ∷ 0 ∷ 0 ∷ 0 ∷ 8 ∷ 0 ∷ [], 20)
    ∷ (2, 14 ∷ 0 ∷ 0 ∷ 0 ∷ 0 ∷ 0 ∷ 8 ∷ 0 ∷ [], 0)
    ∷ []

-- ---- the chain of stops at its edges, in a ring of 64 bytes

-- the edition; the size in the header at place 0, and in the one at 56; head, tail, left of the budget, journal room, scratch; the stop
pub record Stop : Type 0 where
  pub edition : ℕ
  pub size : ℕ
  pub head : ℕ
  pub tail : ℕ
  pub left : ℕ
  pub journal : ℕ
  pub scratch : ℕ
  pub number : ℕ

abbrev stop : ℕ → ℕ → ℕ → ℕ → ℕ → ℕ → ℕ → ℕ → Stop
stop e size head tail left journal scratch number =
    record { edition = e; size = size; head = head; tail = tail; left = left; journal = journal; scratch = scratch; number = number }

abbrev pub sized_ring : ℕ → List ℕ
sized_ring size = a 6 ++ (size ∷ 0 ∷ a 48) ++ (a 6 ++ (size ∷ 0 ∷ []))

-- a header of size 8 at each of the eight places
abbrev pub headers_ring : List ℕ
headers_ring = eight ++ eight ++ eight ++ eight ++ eight ++ eight ++ eight ++ eight
  where
    eight : List ℕ
    eight = a 6 ++ (8 ∷ 0 ∷ [])

-- a number that no row has: the record is taken
abbrev pub go : ℕ
go = 99

abbrev pub stops : List Stop
stops =
    stop 0 8 64 0 1 16 0 2
    ∷ stop 1 8 64 0 1 16 0 go
    ∷ stop 1 8 72 0 1 16 0 4
    ∷ stop 1 8 0 8 1 16 0 4
    ∷ stop 1 8 56 (2 ^ 64 - 8) 1 16 0 go
    ∷ stop 1 8 64 (2 ^ 64 - 8) 1 16 0 4
    ∷ stop 1 8 12 0 1 16 0 5
    ∷ stop 1 8 16 4 1 16 0 5
    ∷ stop 1 8 4 4 1 16 0 5
    ∷ stop 1 8 0 0 0 0 0 0
    ∷ stop 1 8 8 0 0 0 0 8
    ∷ stop 1 8 8 0 1 15 0 9
    ∷ stop 1 8 8 0 1 16 0 go
    ∷ stop 1 0 8 0 1 16 0 6
    ∷ stop 1 4 8 0 1 16 0 6
    ∷ stop 1 12 24 0 1 16 0 6
    ∷ stop 1 32 24 0 1 16 0 7
    ∷ stop 1 24 24 0 1 16 0 go
    ∷ stop 1 24 16 (2 ^ 64 - 8) 1 16 23 3
    ∷ stop 1 24 16 (2 ^ 64 - 8) 1 16 24 go
    -- two rows at once: 2 before 4, 4 before 5, 9 before 6, 6 before 7, 7 before 3
    ∷ stop 0 8 72 0 1 16 0 2
    ∷ stop 1 8 76 0 1 16 0 4
    ∷ stop 1 0 8 0 1 15 0 9
    ∷ stop 1 12 8 0 1 16 0 6
    ∷ stop 1 32 16 (2 ^ 64 - 8) 1 16 0 7
    ∷ []

-- ---- the copier of names: a record of 8 bytes, place, count, room; the answer, and the buffer of nines at exit

pub record Copied : Type 0 where
  pub place : ℕ
  pub count : ℕ
  pub buffer : List ℕ
  pub answer : ℕ
  pub after : List ℕ

abbrev copied : ℕ → ℕ → List ℕ → ℕ → List ℕ → Copied
copied place count buffer answer after = record { place = place; count = count; buffer = buffer; answer = answer; after = after }

abbrev pub copies : List Copied
copies =
    copied 5 3 (9 ∷ 9 ∷ 9 ∷ 9 ∷ 9 ∷ []) 0 (6 ∷ 7 ∷ 8 ∷ 0 ∷ 9 ∷ [])
    ∷ copied 5 3 (9 ∷ 9 ∷ 9 ∷ 9 ∷ []) 0 (6 ∷ 7 ∷ 8 ∷ 0 ∷ [])
    ∷ copied 5 3 (9 ∷ 9 ∷ 9 ∷ []) 12 (9 ∷ 9 ∷ 9 ∷ [])
    ∷ copied 6 3 (9 ∷ 9 ∷ 9 ∷ 9 ∷ []) 41 (9 ∷ 9 ∷ 9 ∷ 9 ∷ [])
    ∷ copied (2 ^ 64 - 1) 1 (9 ∷ 9 ∷ []) 41 (9 ∷ 9 ∷ [])
    ∷ copied 8 0 (9 ∷ []) 0 (0 ∷ [])
    ∷ copied 8 0 [] 12 []
    ∷ []
