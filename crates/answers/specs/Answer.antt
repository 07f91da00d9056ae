-- The answer for a record by its header's type and misc: 20 to 25, then 30 to 33, else 0. At the record's own type and misc it is `judge`. What a walk
-- tells, what is told of a slice that is no whole record, and what the header of a whole one is. Assumes nothing: these are definitions.
use Rattle.std.specs.Prelude.{◌≡◌, ℕ, List, Result, Ok, Err, ◌%◌, ◌<◌, ◌≤◌, length}
use Rattle.meaning.specs.declared.Attributes.{Attributes}
use Rattle.meaning.specs.States.{Cursor}
use Rattle.meaning.specs.declared.Known.{Known}
use Rattle.meaning.specs.declared.Reason.{Reason}
use Rattle.meaning.specs.declared.Spot.{Spot}
use Rattle.meaning.specs.Reasons.{number_of, cursor_of}
use Rattle.meaning.specs.Refusals.{or_else}
use Rattle.meaning.specs.Schema.{schema, trailer}
use Rattle.meaning.specs.Editions.{unreadable}
use Rattle.meaning.specs.Records.{room, fields_answer, kind_of, misc_of}
use Rattle.reader.specs.declared.Header.{Header}
use Rattle.answers.specs.declared.Stopped.{Stopped}

unfoldable pub answer_by : Known → Attributes → ℕ → ℕ → List ℕ → ℕ
answer_by k a kind misc xs = or_else (unreadable k a kind misc) (fields_answer (schema kind misc a) (room (trailer kind a)) xs)

-- a walk tells where it ends or, with the first refusal, where it stopped
abbrev pub walk_told : Result Spot Stopped → Cursor
walk_told (Ok spot) = cursor_of spot
walk_told (Err s) = record { at = s.spot.at; n = s.spot.n; old = s.spot.old; why = number_of s.reason }

-- the header of a slice that is as long as its own size says
pub record Whole (xs : List ℕ) (h : Header) : Type 0 where
  pub there : 8 ≤ length xs
  pub few : length xs < 65536
  pub eights : length xs % 8 ≡ 0
  pub kind-is : h.kind ≡ kind_of xs
  pub misc-is : h.misc ≡ misc_of xs
  pub size_is : h.size ≡ length xs

-- the refusal of such a slice, or the answer of its bytes
abbrev pub refused_or : Result Header Reason → ℕ → ℕ
refused_or (Ok h) answer = answer
refused_or (Err reason) answer = number_of reason
