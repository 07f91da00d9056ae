-- The two statements of document 01's tables say the same: the checker computes what `meaning` says at each row of Numbers and Rows, and finds the row's own
-- numbers. A slip in a definition of `meaning` is refused here (tools/slips.sh tries such slips), and so is one in the second statement. Assumes nothing.
use Rattle.std.specs.Prelude.{◌≡◌, refl, ℕ, ◌+◌, ◌-◌, ◌*◌, ◌^◌, Bool, true, false, cond, not, ◌&&◌, ◌||◌, List, [], ◌∷◌, ◌++◌, map, leb, ltb, eqb, length}
use Rattle.meaning.specs.declared.Attributes.{Attributes}
use Rattle.meaning.specs.declared.Item.{Item}
use Rattle.meaning.specs.Bytes.{num, spell, bit, ones, zeros, zero_in, small, nonzero, all_zero, stale, keep, put}
use Rattle.meaning.specs.Refusals.{first}
use Rattle.meaning.specs.Items.{cursor, span, rule, holds, counted, before, past, part, settle, shape_step, step, walk}
use Rattle.meaning.specs.Writing.{emit, number, blank, listed, fit_shape, next, fit, write, kept, cleaned, ends, named, dirty}
use Rattle.meaning.specs.Schema.{sample, trailer}
use Rattle.meaning.specs.Editions.{editions, known, allowed, unreadable}
use Rattle.meaning.specs.Records.{layout, kind_of, misc_of, size_of, room_shape, room, fields_of, closed, fields_answer, judge, check_by, check, flag_by, flag_of, record_check, header, field_bytes, written, write_record, fits_by, fits, cleaned_by, cleaned_record}
use Rattle.meaning.specs.Values.{lists, unit, held, means, beyond, any_beyond, slot_shape, tell, width, flag_words, flag_told, words, words_by, record_words, read_answered, read, slot_told, last_told, before_told, slots_told, meant, spare_by, spare, flagged, writable, write_by, write_answer, write_buffer}
use Rattle.meaning.specs.Ring.{lengths, length_allowed, distance, stopped, sized, frame}
use Rattle.meaning.specs.Drain.{journal_kind, entry, End, run, drain}
use Rattle.meaning.specs.Names.{name_answer, name_buffer}
use Rattle.meaning.specs.Misc.{types13, types14, means13, means14, misc_meaning}
use Rattle.tables.specs.Numbers.{from, among, Limits, edition_limits, exponents, Field, sample_order, indexed_order, trailer_order, trailer_mask, trailer_bits, entry_bytes, kinds_of_types, misc_bits}
use Rattle.tables.specs.Rows.{Row, types, mappings, readings, losses, samples, indexed, trailed, flags, orders, laid, said, given, checked, rewritten, clean, Judged, bodies, branch_stacks, lost_counts, build_ids, one_register, slices, Stop, sized_ring, headers_ring, go, stops, Copied, copies}

-- ---- tools of the comparison

abbrev every : {A : Type 0} → (A → Bool) → List A → Bool
every p [] = true
every p (x ∷ xs) = p x && every p xs

abbrev same : List ℕ → List ℕ → Bool
same [] [] = true
same (x ∷ xs) (y ∷ ys) = eqb x y && same xs ys
same [] (y ∷ ys) = false
same (x ∷ xs) [] = false

abbrev agree : Bool → Bool → Bool
agree true b = b
agree false b = not b

abbrev attributes : ℕ → ℕ → Bool → ℕ → ℕ → Attributes
attributes sample format all user interrupt = record { sample = sample; format = format; all = all; user = user; interrupt = interrupt; branch = 0 }

-- a sample type and a branch sample type
abbrev branching : ℕ → ℕ → Attributes
branching sample branch = record { sample = sample; format = 0; all = false; user = 0; interrupt = 0; branch = branch }

abbrev bits : List ℕ
bits = from 0 64

-- ---- editions

-- 20 to 25 of an edition
abbrev asked : Limits → Attributes → ℕ → ℕ → ℕ
asked l a t misc = unreadable (known editions l.edition) a t misc

abbrev types_as : Limits → Bool
types_as l = every (λ (t : ℕ). agree (eqb (asked l (attributes 0 0 false 0 0) t 0) 20) (eqb t 0 || ltb l.last_type t)) (from 0 30)

-- a sample bit counts for a SAMPLE, and for every type where sample_id_all is set
abbrev bits_as : Limits → Bool
bits_as l =
    every (λ (b : ℕ). agree (eqb (asked l (attributes (2 ^ b) 0 false 0 0) 9 0) 21) (ltb l.last_bit b)) bits
    && (every (λ (b : ℕ). agree (eqb (asked l (attributes (2 ^ b) 0 true 0 0) 1 0) 21) (ltb l.last_bit b)) bits
    && every (λ (b : ℕ). eqb (asked l (attributes (2 ^ b) 0 false 0 0) 1 0) 0) bits)

-- a read-format bit counts for READ, and for a SAMPLE with bit 4 (16)
abbrev formats_as : Limits → Bool
formats_as l =
    every (λ (b : ℕ). agree (eqb (asked l (attributes 0 (2 ^ b) false 0 0) 8 0) 22) (ltb l.last_format b)) bits
    && (every (λ (b : ℕ). agree (eqb (asked l (attributes 16 (2 ^ b) false 0 0) 9 0) 22) (ltb l.last_format b)) bits
    && every (λ (b : ℕ). eqb (asked l (attributes 0 (2 ^ b) false 0 0) 9 0) 0) bits)

abbrev builds_as : Limits → Bool
builds_as l =
    every (λ (b : ℕ). agree (eqb (asked l (attributes 0 0 false 0 0) 10 (2 ^ b)) 23) (eqb b 14 && (not l.build_id && leb 10 l.last_type))) (from 0 16)

-- a branch sample bit counts for a SAMPLE with sample bit 11 (2048) and for nothing else; before 24 (both weights), after 21
abbrev branches_as : Limits → Bool
branches_as l =
    every (λ (b : ℕ). agree (eqb (asked l (branching 2048 (2 ^ b)) 9 0) 25) (not (among b l.branches))) bits
    && (every (λ (t : ℕ). agree (eqb (asked l (branching 2048 (2 ^ 64 - 1)) t 0) 25) (eqb t 9)) (from 0 30)
    && (every (λ (b : ℕ). agree (eqb (asked l (branching (2 ^ b) (2 ^ 64 - 1)) 9 0) 25) (eqb b 11)) bits
    && (eqb (asked l (branching (2048 + 2 ^ 14 + 2 ^ 24) (2 ^ 19)) 9 0) (cond (ltb l.last_bit 24) 21 25)
    && eqb (asked l (branching (2048 + 2 ^ 25) (2 ^ 19)) 9 0) 21)))

pub editions-types : every types_as edition_limits ≡ true
unfolding unreadable first known bit
editions-types = refl

pub editions-bits : every bits_as edition_limits ≡ true
unfolding unreadable first known bit
editions-bits = refl

pub editions-formats : every formats_as edition_limits ≡ true
unfolding unreadable first known bit
editions-formats = refl

pub editions-builds : every builds_as edition_limits ≡ true
unfolding unreadable first known bit
editions-builds = refl

pub editions-branches : every branches_as edition_limits ≡ true
unfolding unreadable first known bit
editions-branches = refl

pub editions-four : map (allowed editions) (0 ∷ 1 ∷ 2 ∷ 3 ∷ 4 ∷ 5 ∷ []) ≡ false ∷ true ∷ true ∷ true ∷ true ∷ false ∷ []
editions-four = refl

-- ---- the ring's lengths

pub lengths-same : lengths ≡ map (λ (k : ℕ). 2 ^ k) exponents
lengths-same = refl

pub lengths-allowed : every (λ (k : ℕ). agree (length_allowed (2 ^ k)) (among k exponents) && not (length_allowed (2 ^ k + 8))) (from 0 30) ≡ true
unfolding length_allowed
lengths-allowed = refl

-- ---- SAMPLE's order and the trailer's: which bit selects an item, and how many bytes it has

abbrev selects : List Item → List Field → ℕ → Bool
selects [] [] b = true
selects (i ∷ is) (f ∷ fs) b = agree i.on (among b f.bits) && selects is fs b
selects [] (f ∷ fs) b = false
selects (i ∷ is) [] b = false

abbrev spans : List Item → List ℕ
spans is = map (λ (i : Item). span i.shape (cursor 0 1 1 0) 100) is

pub sample-bits : every (λ (b : ℕ). selects (sample (attributes (2 ^ b) 0 false 0 0)) sample_order b) bits ≡ true
unfolding bit
sample-bits = refl

-- with branch bit 17 the hardware index is selected too, by sample bit 11; no other branch bit selects anything
pub index-bits : every (λ (b : ℕ). selects (sample (branching (2 ^ b) (2 ^ 17))) indexed_order b && selects (sample (branching (2 ^ b) (2 ^ 64 - 1 - 2 ^ 17))) sample_order b) bits ≡ true
unfolding bit
index-bits = refl

pub sample-bytes : spans (sample (attributes 0 0 false 0 0)) ≡ map (λ (f : Field). f.bytes) sample_order
unfolding span bit
sample-bytes = refl

pub trailer-bits : every (λ (b : ℕ). selects (trailer 1 (attributes (2 ^ b) 0 true 0 0)) trailer_order b) bits ≡ true
unfolding bit
trailer-bits = refl

pub trailer-bytes : spans (trailer 1 (attributes 0 0 true 0 0)) ≡ map (λ (f : Field). f.bytes) trailer_order
unfolding span bit
trailer-bytes = refl

-- none for a SAMPLE, and none without sample_id_all
pub trailer-none : every (λ (b : ℕ). eqb (room (trailer 9 (attributes (2 ^ b) 0 true 0 0)) + room (trailer 1 (attributes (2 ^ b) 0 false 0 0))) 0) bits ≡ true
unfolding bit room room_shape
trailer-none = refl

-- "8 bytes for each selected bit of 66,246"
pub trailer-mask : every (λ (b : ℕ). agree (bit trailer_mask b) (among b trailer_bits) && eqb (room (trailer 2 (attributes (2 ^ b) 0 true 0 0))) (cond (among b trailer_bits) 8 0)) bits
    ≡ true
unfolding bit room room_shape
trailer-mask = refl

-- ---- the journal entry

pub entry-same : entry 14 20 (2 ^ 64 - 8) ≡ entry_bytes
unfolding entry spell
entry-same = refl

pub kinds-same : every (λ (k : List ℕ × ℕ). eqb (journal_kind k.0) k.1) kinds_of_types ≡ true
unfolding journal_kind kind_of num
kinds-same = refl

-- ---- the bodies: a record of each type is accepted, says its words, and has its ignored bytes; written from its words it is the same but for those

abbrev of : Row → Attributes
of r = record { sample = r.sample; format = r.format; all = r.trails; user = r.user; interrupt = r.interrupt; branch = r.branch }

abbrev reads : ℕ → Row → Bool
reads e r =
    eqb (8 + length r.body) r.size
    && (eqb (check editions e (of r) (laid r)) 0
    && (eqb (record_check editions e (of r) (laid r)) (checked r)
    && (same (read editions e (of r) (laid r)).words (said r)
    && same (cleaned_record (layout (known editions e) (of r)) (laid r)) (clean r))))

abbrev writes : ℕ → Row → Bool
writes e r =
    eqb (write_answer editions e (of r) (laid r) (said r) r.size) (rewritten r)
    && (eqb (write_answer editions e (of r) (laid r) (given r) r.size) 0
    && (eqb (write_answer editions e (of r) (laid r) (given r) (r.size - 1)) 40
    && same (write_buffer editions e (of r) (laid r) (given r) (zeros r.size ++ (7 ∷ []))) (clean r ++ (7 ∷ []))))

pub types-read : every (reads 3) types ≡ true
unfolding num bit ones zero_in all_zero stale keep first span rule holds counted before past part settle shape_step step walk kept cleaned ends named dirty known unreadable layout kind_of misc_of size_of room_shape room fields_of closed fields_answer judge check_by check flag_by flag_of record_check cleaned_by cleaned_record slot_shape tell flag_words words words_by record_words read_answered read put
types-read = refl

pub mappings-read : every (reads 3) mappings ≡ true
unfolding num bit ones zero_in all_zero stale keep first span rule holds counted before past part settle shape_step step walk kept cleaned ends named dirty known unreadable layout kind_of misc_of size_of room_shape room fields_of closed fields_answer judge check_by check flag_by flag_of record_check cleaned_by cleaned_record slot_shape tell flag_words words words_by record_words read_answered read put
mappings-read = refl

pub readings-read : every (reads 3) readings ≡ true
unfolding num bit ones zero_in all_zero stale keep first span rule holds counted before past part settle shape_step step walk kept cleaned ends named dirty known unreadable layout kind_of misc_of size_of room_shape room fields_of closed fields_answer judge check_by check flag_by flag_of record_check cleaned_by cleaned_record slot_shape tell flag_words words words_by record_words read_answered read put
readings-read = refl

pub losses-read : every (reads 4) losses ≡ true
unfolding num bit ones zero_in all_zero stale keep first span rule holds counted before past part settle shape_step step walk kept cleaned ends named dirty known unreadable layout kind_of misc_of size_of room_shape room fields_of closed fields_answer judge check_by check flag_by flag_of record_check cleaned_by cleaned_record slot_shape tell flag_words words words_by record_words read_answered read put
losses-read = refl

pub samples-read : every (reads 3) samples ≡ true
unfolding num bit ones zero_in all_zero stale keep first span rule holds counted before past part settle shape_step step walk kept cleaned ends named dirty known unreadable layout kind_of misc_of size_of room_shape room fields_of closed fields_answer judge check_by check flag_by flag_of record_check cleaned_by cleaned_record slot_shape tell flag_words words words_by record_words read_answered read put
samples-read = refl

pub indexed-read : every (reads 3) indexed ≡ true
unfolding num bit ones zero_in all_zero stale keep first span rule holds counted before past part settle shape_step step walk kept cleaned ends named dirty known unreadable layout kind_of misc_of size_of room_shape room fields_of closed fields_answer judge check_by check flag_by flag_of record_check cleaned_by cleaned_record slot_shape tell flag_words words words_by record_words read_answered read put
indexed-read = refl

pub trailed-read : every (reads 3) trailed ≡ true
unfolding num bit ones zero_in all_zero stale keep first span rule holds counted before past part settle shape_step step walk kept cleaned ends named dirty known unreadable layout kind_of misc_of size_of room_shape room fields_of closed fields_answer judge check_by check flag_by flag_of record_check cleaned_by cleaned_record slot_shape tell flag_words words words_by record_words read_answered read put
trailed-read = refl

pub flags-read : every (reads 3) flags ≡ true
unfolding num bit ones zero_in all_zero stale keep first span rule holds counted before past part settle shape_step step walk kept cleaned ends named dirty known unreadable layout kind_of misc_of size_of room_shape room fields_of closed fields_answer judge check_by check flag_by flag_of record_check cleaned_by cleaned_record slot_shape tell flag_words words words_by record_words read_answered read put
flags-read = refl

pub all-written : every (writes 3) (types ++ (mappings ++ (readings ++ (samples ++ (indexed ++ (trailed ++ flags)))))) ≡ true
unfolding num spell bit ones small nonzero all_zero first emit number blank listed fit_shape next fit write span rule holds counted before past part settle shape_step step walk known unreadable layout room_shape room header field_bytes written write_record fits_by fits lists unit held means beyond any_beyond tell width slot_told last_told before_told slots_told ends named flag_words flag_told meant spare_by spare flagged writable write_by write_answer write_buffer put
all-written = refl

pub losses-written : every (writes 4) losses ≡ true
unfolding num spell bit ones small nonzero all_zero first emit number blank listed fit_shape next fit write span rule holds counted before past part settle shape_step step walk known unreadable layout room_shape room header field_bytes written write_record fits_by fits lists unit held means beyond any_beyond tell width slot_told last_told before_told slots_told ends named flag_words flag_told meant spare_by spare flagged writable write_by write_answer write_buffer put
losses-written = refl

pub flag-orders : every (λ (o : ℕ × List ℕ × ℕ × ℕ). eqb (write_answer editions o.0 (attributes 0 0 false 0 0) (from 1 8) o.1 o.2) o.3) orders ≡ true
unfolding num spell bit ones small nonzero all_zero first emit number blank listed fit_shape next fit write span rule holds counted before past part settle shape_step step walk known unreadable layout room_shape room header field_bytes written write_record fits_by fits lists unit held means beyond any_beyond tell width slot_told last_told before_told slots_told ends named flag_words flag_told meant spare_by spare flagged writable write_by write_answer
flag-orders = refl

-- ---- the rules of a body at their edges

abbrev answers : ℕ → Judged → ℕ
answers user j =
    check editions 3 (attributes j.sample 0 false user 0) (j.kind ∷ 0 ∷ 0 ∷ 0 ∷ 0 ∷ j.high ∷ (8 + length j.body) ∷ 0 ∷ j.body)

pub bodies-same : every (λ (j : Judged). eqb (answers 1 j) j.answer) bodies ≡ true
unfolding num bit ones zero_in first span rule holds counted before past part settle shape_step step walk known unreadable layout kind_of misc_of size_of room_shape room fields_of closed fields_answer judge check_by check
bodies-same = refl

pub branch-stacks-same : every (λ (s : ℕ × List ℕ × ℕ). eqb (check editions 3 (branching 2048 s.0) (9 ∷ 0 ∷ 0 ∷ 0 ∷ 0 ∷ 0 ∷ (8 + length s.1) ∷ 0 ∷ s.1)) s.2) branch_stacks ≡ true
unfolding num bit ones zero_in first span rule holds counted before past part settle shape_step step walk known unreadable layout kind_of misc_of size_of room_shape room fields_of closed fields_answer judge check_by check
branch-stacks-same = refl

pub lost-counts-same : every (λ (s : ℕ × ℕ × ℕ × List ℕ × ℕ). eqb (check editions 4 (attributes s.2 s.0 false 0 0) (s.1 ∷ 0 ∷ 0 ∷ 0 ∷ 0 ∷ 0 ∷ (8 + length s.3) ∷ 0 ∷ s.3)) s.4) lost_counts ≡ true
unfolding num bit ones zero_in first span rule holds counted before past part settle shape_step step walk known unreadable layout kind_of misc_of size_of room_shape room fields_of closed fields_answer judge check_by check
lost-counts-same = refl

pub build-ids-same : every (λ (j : Judged). eqb (answers 1 j) j.answer) build_ids ≡ true
unfolding num bit ones zero_in first span rule holds counted before past part settle shape_step step walk known unreadable layout kind_of misc_of size_of room_shape room fields_of closed fields_answer judge check_by check
build-ids-same = refl

-- "as many registers as the mask has ones", for each bit of 64: one register is accepted
pub registers-same : every (λ (b : ℕ). eqb (check editions 3 (attributes (2 ^ 12) 0 false (2 ^ b) 0) one_register) 0) bits ≡ true
unfolding num bit ones zero_in first span rule holds counted before past part settle shape_step step walk known unreadable layout kind_of misc_of size_of room_shape room fields_of closed fields_answer judge check_by check
registers-same = refl

pub slices-same : every (λ (s : ℕ × List ℕ × ℕ). eqb (check editions s.0 (attributes 0 0 false 0 0) s.1) s.2) slices ≡ true
unfolding num bit ones zero_in first span rule holds counted before past part settle shape_step step walk known unreadable layout kind_of misc_of size_of room_shape room fields_of closed fields_answer judge check_by check
slices-same = refl

-- ---- the header: type, misc and size are the number of bytes 0 to 3, 4 and 5, 6 and 7

pub header-same : map (λ (f : List ℕ → ℕ). f (1 ∷ 2 ∷ 3 ∷ 4 ∷ 5 ∷ 6 ∷ 7 ∷ 8 ∷ 9 ∷ [])) (kind_of ∷ misc_of ∷ size_of ∷ [])
    ≡ (1 + 256 * (2 + 256 * (3 + 256 * 4))) ∷ (5 + 256 * 6) ∷ (7 + 256 * 8) ∷ []
unfolding kind_of misc_of size_of num
header-same = refl

-- ---- the chain of stops

-- a drain that took its first record, or what stopped it there
abbrev outcome : End → ℕ
outcome d = cond (eqb d.state.taken 0) d.stop go

abbrev drained : ℕ → List ℕ → ℕ → ℕ → ℕ → ℕ → ℕ → End
drained e ring head tail left journal scratch = drain editions e (attributes 0 0 false 0 0) ring head tail left (zeros journal) (zeros scratch)

abbrev stops_as : Stop → Bool
stops_as s = eqb (outcome (drained s.edition (sized_ring s.size) s.head s.tail s.left s.journal s.scratch)) s.number

pub stops_same : every stops_as stops ≡ true
unfolding run frame stopped sized length_allowed distance num
stops_same = refl

-- at each place of a ring the header lies whole: no row stops a reader for it (row 10 is gone: M-104)
pub headers-whole : every (λ (k : ℕ). eqb (outcome (drained 1 headers_ring (8 * k + 8) (8 * k) 1 16 0)) go) (from 0 8) ≡ true
unfolding run frame stopped sized length_allowed distance num
headers-whole = refl

-- a ring of another length stops with 1, before every other row
pub length-stops : outcome (drained 0 (zeros 56) 12 4 0 0 0) ≡ 1
unfolding run frame stopped length_allowed
length-stops = refl

-- ---- the copier of names

abbrev copies_as : Copied → Bool
copies_as c =
    eqb (name_answer (from 1 8) c.place c.count c.buffer) c.answer && same (name_buffer (from 1 8) c.place c.count c.buffer) c.after

pub copies-same : every copies_as copies ≡ true
unfolding name_answer name_buffer first put
copies-same = refl

-- ---- misc: "Its lowest three bits are the CPU mode", bits 13 and 14 by type; no other bit of 16 means anything, nor one from 16 up

abbrev means_as : ℕ × ℕ × ℕ → Bool
means_as r =
    eqb (misc_meaning r.0 (2 ^ 13)) r.1
    && (eqb (misc_meaning r.0 (2 ^ 14)) r.2
    && (eqb (misc_meaning r.0 (2 ^ 14 + 2 ^ 13 + 5)) (5 + (r.1 + r.2))
    && (eqb (misc_meaning r.0 (2 ^ 16 - 1 - 2 ^ 14 - 2 ^ 13)) 7 && eqb (misc_meaning r.0 (2 ^ 64 - 2 ^ 16)) 0)))

pub misc-same : every means_as misc_bits ≡ true
unfolding misc_meaning means13 means14 types13 types14 bit
misc-same = refl
