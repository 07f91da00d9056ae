-- What an edition knows; what a record's reading depends on; the refusals 20 to 25 by what is known.
-- Assumes nothing: these are definitions.
use Rattle.std.specs.Prelude.{ℕ, zero, suc, ◌-◌, ◌^◌, Bool, true, false, cond, not, ◌&&◌, ◌||◌, List, [], ◌∷◌, ◌++◌, length, get_or, leb, ltb, eqb}
use Rattle.meaning.specs.declared.Attributes.{Attributes}
use Rattle.meaning.specs.declared.Known.{Known}
use Rattle.meaning.specs.Bytes.{bit}
use Rattle.meaning.specs.Refusals.{Refusal, refusal, first}

-- ---- the editions

-- record types 1 to `kinds`, sample bits below `samples`, read-format bits below `formats`, the build-id form or not, branch bit 17 or not
abbrev pub edition : ℕ → ℕ → ℕ → Bool → Bool → Known
edition kinds samples formats builds index = record { kinds = kinds; samples = samples; formats = formats; builds = builds; index = index }

-- | 1 | bits 0 to 15 | types 1 to 9 |   | 2 | 0 to 18 | 1 to 15 |   | 3 | 0 to 24 | 1 to 20 |
-- "All three know read-format bits 0 to 3. Only edition 3 knows the build-id form of MMAP2." M-102: "edition 3 reads and writes the word if
-- bit 17 is set; editions 1 and 2 refuse such a SAMPLE". M-110: "Edition 4 is edition 3 with these", which are read-format bit 4 and type 21
abbrev pub editions : List Known
editions = edition 9 16 4 false false ∷ edition 15 19 4 false false ∷ edition 20 25 4 true true ∷ edition 21 25 5 true true ∷ []

-- what a reader knows that knows no type, no bit and no form
abbrev pub nothing_known : Known
nothing_known = edition 0 0 0 false false

-- the editions of a table are counted from 1; refusal 2: "edition not 1, 2 or 3", M-110: "refusal 2 now admits 1 to 4"
abbrev pub allowed : List Known → ℕ → Bool
allowed rows e = leb 1 e && leb e (length rows)

-- what edition e knows. Past the table that is nothing; 0 is no edition either, but stands at the first row, since the count starts there: what
-- is answered under an edition that is not allowed is 2, and asks no row
unfoldable pub known : List Known → ℕ → Known
known rows e = get_or rows (e - 1) nothing_known

-- ---- what a reading depends on, by rules 20 to 23 and 25

-- a record type, a sample bit, a read-format bit, the build-id form of MMAP2, a branch sample bit
pub data Thing : Type 0 where
  kind : ℕ → Thing
  sample_bit : ℕ → Thing
  format_bit : ℕ → Thing
  build_id : Thing
  branch_bit : ℕ → Thing

-- type 0 is outside every edition, and so is every branch bit from 19 up; 17 is known where the hardware index is
abbrev pub knows : Known → Thing → Bool
knows k (kind t) = leb 1 t && leb t k.kinds
knows k (sample_bit b) = ltb b k.samples
knows k (format_bit b) = ltb b k.formats
knows k build_id = k.builds
knows k (branch_bit b) = ltb b 19 && (not (eqb b 17) || k.index)

-- something of the list lies outside what is known
unfoldable pub outside : Known → List Thing → Bool
outside k [] = false
outside k (t ∷ ts) = not (knows k t) || outside k ts

abbrev pub when : Bool → List Thing → List Thing
when b ts = cond b ts []

-- the set bits of x among the n from number i on
unfoldable pub bits : (ℕ → Thing) → ℕ → ℕ → ℕ → List Thing
bits f x i zero = []
bits f x i (suc n) = when (bit x i) (f i ∷ []) ++ bits f x (suc i) n

-- "the record is a SAMPLE or sample_id_all is set"
abbrev pub has_sample_bits : ℕ → Attributes → Bool
has_sample_bits t a = eqb t 9 || a.all

-- "the record is READ or a SAMPLE with bit 4 of the sample type"
abbrev pub has_read_values : ℕ → Attributes → Bool
has_read_values t a = eqb t 8 || (eqb t 9 && bit a.sample 4)

-- "MMAP2 with misc bit 14"
abbrev pub has_build_id : ℕ → ℕ → Bool
has_build_id t misc = eqb t 10 && bit misc 14

-- "a SAMPLE with sample bit 11"
abbrev pub has_branches : ℕ → Attributes → Bool
has_branches t a = eqb t 9 && bit a.sample 11

-- branch bit 17 where the edition does not read the index, or "a branch bit from 19 up"
abbrev pub strange_branch : Known → Attributes → Bool
strange_branch k a = (bit a.branch 17 && not k.index) || leb (2 ^ 19) a.branch

-- no edition is an argument: the type; the selected sample bits, where the reading has any; the read-format bits, where there are read
-- values; the build-id form, where misc says it; the branch bits, where there are branches
unfoldable pub depends : ℕ → ℕ → Attributes → List Thing
depends t misc a =
    kind t
    ∷ (when (has_sample_bits t a) (bits sample_bit a.sample 0 64)
    ++ (when (has_read_values t a) (bits format_bit a.format 0 64)
    ++ (when (has_build_id t misc) (build_id ∷ [])
    ++ when (has_branches t a) (bits branch_bit a.branch 0 64))))

-- ---- the refusals

-- 20: "type 0 or above the edition's"; 21: "sample type has a bit the edition doesn't know, and .."; 22: "read format has bit 4 or higher,
-- and ..", M-110: "22 starts at bit 5 for edition 4 alone"; 23: "MMAP2 with misc bit 14, edition below 3"; 25 (M-102): "editions 1 and 2 refuse
-- such a SAMPLE with 25; a SAMPLE with sample bit 11 and a branch bit from 19 up is 25 in every edition .. checked after 23 and before 24"
abbrev pub unknowns : Known → ℕ → ℕ → Attributes → List Refusal
unknowns k t misc a =
    refusal (eqb t 0 || ltb k.kinds t) 20
    ∷ refusal (leb (2 ^ k.samples) a.sample && has_sample_bits t a) 21
    ∷ refusal (leb (2 ^ k.formats) a.format && has_read_values t a) 22
    ∷ refusal (has_build_id t misc && not k.builds) 23
    ∷ refusal (has_branches t a && strange_branch k a) 25
    ∷ []

-- 24: "SAMPLE with bits 14 and 24 both selected": what no edition reads
abbrev pub clashes : ℕ → Attributes → List Refusal
clashes t a = refusal (eqb t 9 && (bit a.sample 14 && bit a.sample 24)) 24 ∷ []

-- the first of 20 to 23, 25 and 24, or 0
unfoldable pub unreadable : Known → Attributes → ℕ → ℕ → ℕ
unreadable k a t misc = first (unknowns k t misc a) (first (clashes t a) 0)

-- is x among them?
abbrev pub is_in : ℕ → List ℕ → Bool
is_in x [] = false
is_in x (n ∷ ns) = eqb x n || is_in x ns

-- the numbers that say "unknown to this edition"
unfoldable pub is_unknown : ℕ → Bool
is_unknown x = is_in x (20 ∷ 21 ∷ 22 ∷ 23 ∷ 25 ∷ [])
