-- The answer of a record under a table, of the reader that fills lent words and of record check. Assumes nothing: these are definitions.
use Rattle.std.specs.Prelude.{ℕ, cond, List, eqb}
use Rattle.meaning.specs.declared.Event.{Event}
use Rattle.meaning.specs.declared.Known.{Known}
use Rattle.meaning.specs.Refusals.{or_else}
use Rattle.meaning.specs.Editions.{known}
use Rattle.meaning.specs.Records.{record_check}
use Rattle.meaning.specs.Events.{attributes_of, event_for, unmatched}
use Rattle.record.specs.Into.{read_into_answer, read_into_words}

-- 20, 21 by the edition, 27 and 26; else the answer of the reader that fills lent words, under the event's attributes
unfoldable pub read_event_answer : List Known → ℕ → List Event → List ℕ → List ℕ → ℕ
read_event_answer rows e es xs words = or_else (unmatched (known rows e) es xs) (read_into_answer rows e (attributes_of (event_for es xs)) xs words)

-- the same of record check: 44 in place of 0, and no 40
unfoldable pub check_event_answer : List Known → ℕ → List Event → List ℕ → ℕ
check_event_answer rows e es xs = or_else (unmatched (known rows e) es xs) (record_check rows e (attributes_of (event_for es xs)) xs)

-- a record that has no event leaves the words unchanged
unfoldable pub read_event_words : List Known → ℕ → List Event → List ℕ → List ℕ → List ℕ
read_event_words rows e es xs words = cond (eqb (unmatched (known rows e) es xs) 0) (read_into_words rows e (attributes_of (event_for es xs)) xs words) words
