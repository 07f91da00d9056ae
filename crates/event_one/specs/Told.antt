-- What the reader of one record with a table tells C, and what the lent words then hold. Assumes nothing: these are definitions.
use Rattle.std.specs.Prelude.{ℕ, cond, List}
use Rattle.meaning.specs.declared.Event.{Event}
use Rattle.meaning.specs.declared.Known.{Known}
use Rattle.meaning.specs.Editions.{known}
use Rattle.meaning.specs.Ring.{record_at}
use Rattle.meaning.specs.Events.{inspected, one_events_frame}
use Rattle.event_laws.specs.Told.{read_event_answer, read_event_words}
use Rattle.one.specs.declared.OneTold.{OneTold}
use Rattle.one.specs.Told.{told_stop, told_taken}

-- M-112: the number inspected is told beside that
abbrev pub with_inspected : OneTold → ℕ → OneTold
with_inspected t n =
    record { place = t.place; size = t.size; tail = t.tail; in_scratch = t.in_scratch; stop = t.stop; answer = t.answer; inspected = n }

unfoldable pub one_events_told : ℕ → List Known → ℕ → List Event → List ℕ → ℕ → ℕ → List ℕ → List ℕ → OneTold
one_events_told limit rows e es ring head tail scratch words =
    cond (one_events_frame limit rows e es ring head tail scratch).go
    (with_inspected
    (told_taken ring (one_events_frame limit rows e es ring head tail scratch) tail
    (read_event_answer rows e es
    (record_at ring (one_events_frame limit rows e es ring head tail scratch).place (one_events_frame limit rows e es ring head tail scratch).size) words))
    (inspected (known rows e) es
    (record_at ring (one_events_frame limit rows e es ring head tail scratch).place (one_events_frame limit rows e es ring head tail scratch).size)))
    (told_stop (one_events_frame limit rows e es ring head tail scratch) tail)

unfoldable pub one_events_words : ℕ → List Known → ℕ → List Event → List ℕ → ℕ → ℕ → List ℕ → List ℕ → List ℕ
one_events_words limit rows e es ring head tail scratch words =
    cond (one_events_frame limit rows e es ring head tail scratch).go
    (read_event_words rows e es
    (record_at ring (one_events_frame limit rows e es ring head tail scratch).place (one_events_frame limit rows e es ring head tail scratch).size) words)
    words
