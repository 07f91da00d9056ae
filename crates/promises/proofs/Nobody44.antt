-- M-107: "Where it is set, record check, and nothing else, answers 44 instead of 0." Record check's two answer it exactly where the record is decoded and the flag is
-- set: Recorded, `record-check-44`, and Inspected, `check-events-44`. Here: no stop and no answer of any other call is 44; the readers of words answer 0 there.
-- Assumes nothing.
use Rattle.std.specs.Prelude.{◌≡◌, refl, List, ℕ, ◌≤◌, length}
use Rattle.std.proofs.Common.{eq-eqb, le-leb}
use Rattle.meaning.specs.declared.Attributes.{Attributes}
use Rattle.meaning.specs.declared.Event.{Event}
use Rattle.meaning.specs.Editions.{editions}
use Rattle.meaning.specs.Records.{record_check}
use Rattle.meaning.specs.Events.{check_events, record_check_events, read_events}
use Rattle.record.specs.Into.{read_into_answer}
use Rattle.promises.proofs.Header.{NoOthers, NoOthersBeside, no-others, no-others-beside}
use Rattle.promises.proofs.Inspected.{check-events-44}
use Rattle.promises.proofs.Recorded.{record-check-44, read-0}

-- "and nothing else": each stop and each answer of each other call
pub nothing-else-44 : (e : ℕ) (a : Attributes) → NoOthers 44 e a
nothing-else-44 = no-others 44 refl

pub nothing-else-44-beside : (limit e : ℕ) (es : List Event) → NoOthersBeside 44 limit e es
nothing-else-44-beside = no-others-beside 44 refl

-- "instead of 0": with room for its words such a record is read
pub read-where-44 : (e : ℕ) (a : Attributes) (xs words : List ℕ) → record_check editions e a xs ≡ 44 → 56 ≤ length words → read_into_answer editions e a xs words ≡ 0
read-where-44 e a xs words h m = (read-0 e a xs words).1 (((record-check-44 e a xs).0 h).0, m)

pub read-events-where-44 : (limit e : ℕ) (es : List Event) (xs words : List ℕ) → (record_check_events limit editions e es xs).answer ≡ 44 → 56 ≤ length words
    → (read_events limit editions e es xs words).answer ≡ 0
unfolding read_events
read-events-where-44 limit e es xs words h m = rw (eq-eqb (check_events limit editions e es xs) 0 ((check-events-44 limit e es xs).0 h).0, le-leb 56 (length words) m)
