-- What the reader of one record tells C, and what the lent words then hold; what the reader of its words tells. Assumes nothing: these are definitions.
use Rattle.std.specs.Prelude.{ℕ, ◌+◌, ◌%◌, ◌^◌, cond, List, Result, Ok, Err, Option, Some, None}
use Rattle.meaning.specs.declared.Attributes.{Attributes}
use Rattle.meaning.specs.declared.Found.{Found}
use Rattle.meaning.specs.States.{Frame, One}
use Rattle.meaning.specs.declared.Judged.{Judged}
use Rattle.meaning.specs.declared.Known.{Known}
use Rattle.meaning.specs.declared.Reason.{Reason}
use Rattle.meaning.specs.Bytes.{zeros}
use Rattle.meaning.specs.Reasons.{frame_of}
use Rattle.meaning.specs.Ring.{record_at, whole, scratch_after, one_frame}
use Rattle.plain_read.specs.Read.{reading_of}
use Rattle.record.specs.Into.{read_into_answer, read_into_words}
use Rattle.one.specs.declared.One.{One as Taken}
use Rattle.one.specs.declared.OneTold.{OneTold}

-- a stop: place, size, in_scratch and answer 0, the tail as given; `inspected` is 0 without a table
abbrev pub told_stop : Frame → ℕ → OneTold
told_stop f tail = record { place = 0; size = 0; tail = tail; in_scratch = 0; stop = f.stop; answer = 0; inspected = 0 }

-- "the record shown is either a part of the ring or a part of the scratch": where it lies whole, its place; else the scratch's start
abbrev pub told_taken : List ℕ → Frame → ℕ → ℕ → OneTold
told_taken ring f tail answer =
    record {
      place = cond (whole ring f.place f.size) f.place 0;
      size = f.size;
      tail = (tail + f.size) % 2 ^ 64;
      in_scratch = cond (whole ring f.place f.size) 0 1;
      stop = 0;
      answer = answer;
      inspected = 0;
    }

-- the answer is that of the reader that fills lent words, for the record's bytes
unfoldable pub one_told : List Known → ℕ → Attributes → List ℕ → ℕ → ℕ → List ℕ → List ℕ → OneTold
one_told rows e a ring head tail scratch words =
    cond (one_frame rows e ring head tail scratch).go
    (told_taken ring (one_frame rows e ring head tail scratch) tail
    (read_into_answer rows e a (record_at ring (one_frame rows e ring head tail scratch).place (one_frame rows e ring head tail scratch).size) words))
    (told_stop (one_frame rows e ring head tail scratch) tail)

unfoldable pub one_words : List Known → ℕ → Attributes → List ℕ → ℕ → ℕ → List ℕ → List ℕ → List ℕ
one_words rows e a ring head tail scratch words =
    cond (one_frame rows e ring head tail scratch).go
    (read_into_words rows e a (record_at ring (one_frame rows e ring head tail scratch).place (one_frame rows e ring head tail scratch).size) words)
    words

-- ---- in parts, for any reader of one record

-- the scratch once the record is gathered; a stop leaves it
abbrev pub gathered : List ℕ → List ℕ → Frame → List ℕ
gathered ring scratch f = cond f.go (scratch_after ring f.place f.size scratch) scratch

abbrev pub stopped : ℕ → ℕ → OneTold
stopped stop tail = record { place = 0; size = 0; tail = tail; in_scratch = 0; stop = stop; answer = 0; inspected = 0 }

-- with the answer and the number inspected beside what `told_taken` has
abbrev pub judged_taken : List ℕ → Found → ℕ → Judged → OneTold
judged_taken ring f tail j =
    record {
      place = cond (whole ring f.place f.size) f.place 0;
      size = f.size;
      tail = (tail + f.size) % 2 ^ 64;
      in_scratch = cond (whole ring f.place f.size) 0 1;
      stop = 0;
      answer = j.answer;
      inspected = j.inspected;
    }

-- ---- the reader of its words

-- the frame, and of a record that was taken what is told of it; else answer 0, the tail as it was, and zeros
abbrev pub one_of : ℕ → Result (Option Taken) Reason → One
one_of tail (Ok (Some o)) =
    record { frame = frame_of (Ok (Some o.found)); answer = (reading_of o.value).answer; tail = o.tail; words = (reading_of o.value).words }
one_of tail (Ok None) = record { frame = frame_of (Ok None); answer = 0; tail = tail; words = zeros 56 }
one_of tail (Err reason) = record { frame = frame_of (Err reason); answer = 0; tail = tail; words = zeros 56 }
