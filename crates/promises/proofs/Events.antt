-- Several events in one ring: demand 1 for the drain and the reader of one record with a table ("refused by the numbers", what a stop and a refusal change, the
-- counts), demand 3 with the table shared, and a table of one event beside the call with one attribute set. Over any limit of a table's length. Assumes nothing.
use Rattle.std.specs.Prelude.{◌≡◌, List, [], ◌∷◌, Bool, ℕ, ◌+◌, ◌-◌, ◌*◌, ◌%◌, ◌^◌, ◌<◌, ◌≤◌, length, get_or, take, drop}
use Rattle.std.proofs.Math.Path.{refl, ap}
use Rattle.std.proofs.Math.Bool.{true, false, cond}
use Rattle.meaning.specs.declared.Event.{Event}
use Rattle.meaning.specs.States.{Frame, One}
use Rattle.meaning.specs.declared.Known.{Known}
use Rattle.meaning.specs.Editions.{editions, allowed, known, outside, is_in}
use Rattle.meaning.specs.Records.{layout, judge}
use Rattle.meaning.specs.Ring.{asked_of, frame, record_at, scratch_after, one_frame, not_taken, read_one}
use Rattle.meaning.specs.Drain.{End, start, ended, entry_for, drain}
use Rattle.meaning.specs.Events.{attributes_of, identifier_of, event_for, has_event, sound, asked_events, judge_events, event_depends, drain_events, one_events_frame, taken_events, read_one_events, one_events_scratch}
use Rattle.laws.specs.Rows.{gives}
use Rattle.laws.specs.Rings.{stop_rows, frame-stop, frame-reason}
use Rattle.runs.specs.Cutting.{Cut, cutting_by, nothing_cut, record_of, All}
use Rattle.runs.proofs.Entries.{run-entry, run-rest}
use Rattle.runs.proofs.Forward.{Counted, frame-roomy}
use Rattle.editions.specs.Fairness.{rising}
use Rattle.editions.specs.Numbers.{event_numbers, table_stop_numbers}
use Rattle.editions.proofs.InTable.{table-frame-in}
use Rattle.editions.specs.Promise.{EntryFair}
use Rattle.editions.proofs.OneRecord.{editions-rise}
use Rattle.editions.specs.EventPromise.{EventWords, table_cutting, Demand3Events, OneEventsFair}
use Rattle.editions.proofs.EventRecord.{event-in, no-event-in}
use Rattle.editions.proofs.EventDrains.{demand3-events, demand3-events-entry, drain-events-in, drain-events-counted, drain-events-refused, one-event-alike, one-event-drain}
use Rattle.editions.proofs.EventReaders.{one-events-fair, one-event-reads}

-- ---- demand 1: the answer of a record

pub event-numbers : (e : ℕ) (es : List Event) (r : List ℕ) → is_in (judge_events (known editions e) es r) event_numbers ≡ true
event-numbers e = event-in (known editions e)

-- a record without an event is 20, 21, 27 or 26, and nothing else
pub no-event-numbers : (e : ℕ) (es : List Event) (r : List ℕ) → has_event es r ≡ false → is_in (judge_events (known editions e) es r) (20 ∷ 21 ∷ 27 ∷ 26 ∷ []) ≡ true
no-event-numbers e = no-event-in (known editions e)

-- ---- demand 1: the drain
module _ (limit e : ℕ) (es : List Event) (ring : List ℕ) (head tail budget : ℕ) (journal scratch : List ℕ) where
  abbrev end : End
  end = drain_events limit editions e es ring head tail budget journal scratch

  abbrev records : List Cut
  records = (cutting_by (asked_events limit editions e es) ring head tail budget (length journal) scratch).records

  pub drain-events-numbers : is_in end.stop table_stop_numbers ≡ true
  drain-events-numbers = drain-events-in limit editions e es ring head tail budget journal scratch

  -- "before anything is taken": a refused table moves nothing, and the stop is that of the first row that holds
  pub drain-events-unsound : sound limit es ≡ false
      → end ≡ ended (start tail journal scratch) (frame (asked_events limit editions e es) ring head tail budget (length journal - 16 * 0) (length scratch))
  drain-events-unsound = drain-events-refused limit editions e es ring head tail budget journal scratch

  -- counts, bytes, tails, the reason of the stop
  pub drain-events-counts : head < 2 ^ 64 → tail < 2 ^ 64
      → Counted (asked_events limit editions e es) ring head tail budget journal scratch (cutting_by (asked_events limit editions e es) ring head tail budget (length journal) scratch) end
  drain-events-counts = drain-events-counted limit editions e es ring head tail budget journal scratch

  -- the stop is given for its own reason: a row with its number holds
  pub drain-events-reason : head < 2 ^ 64 → tail < 2 ^ 64
      → gives end.stop (stop_rows (asked_events limit editions e es) ring head end.state.tail (budget - end.state.taken) (length journal - 16 * end.state.taken) (length scratch)) ≡ true
  drain-events-reason hd tl =
      (frame-reason (asked_events limit editions e es) ring head end.state.tail (budget - end.state.taken) (length journal - 16 * end.state.taken) (length scratch) end.stop
      (drain-events-counts hd tl).reason).0

  -- entry i has the type, the answer and the tail of record i; the journal after the last entry is unchanged
  pub drain-events-entry : (i : ℕ) → i < end.state.taken
      → take 16 (drop (16 * i) end.state.journal) ≡ entry_for (judge_events (known editions e) es) (get_or records i nothing_cut).record-bytes (get_or records i nothing_cut).tail
  drain-events-entry =
      run-entry (frame (asked_events limit editions e es) ring head) (frame-roomy (asked_events limit editions e es) ring head) (judge_events (known editions e) es) ring tail budget journal scratch

  pub drain-events-rest : drop (16 * end.state.taken) end.state.journal ≡ drop (16 * end.state.taken) journal
  drain-events-rest =
      run-rest (frame (asked_events limit editions e es) ring head) (frame-roomy (asked_events limit editions e es) ring head) (judge_events (known editions e) es) ring tail budget journal scratch

-- ---- demand 1: the reader of one record
module _ (limit e : ℕ) (es : List Event) (ring : List ℕ) (head tail : ℕ) (scratch : List ℕ) where
  abbrev next : Frame
  next = one_events_frame limit editions e es ring head tail scratch

  abbrev one : One
  one = read_one_events limit editions e es ring head tail scratch

  abbrev bytes : List ℕ
  bytes = record_at ring next.place next.size

  abbrev either : Bool → One
  either b = cond b (taken_events (known editions e) es next bytes tail) (not_taken next tail)

  either-frame : (b : Bool) → (either b).frame ≡ next
  unfolding taken_events not_taken
  either-frame true = refl
  either-frame false = refl

  pub one-events-stop-numbers : is_in one.frame.stop table_stop_numbers ≡ true
  unfolding read_one_events
  one-events-stop-numbers = rw (either-frame next.go) (table-frame-in (asked_events limit editions e es) ring head tail 1 16 (length scratch))

  pub one-events-stop-reason : next.go ≡ false → gives next.stop (stop_rows (asked_events limit editions e es) ring head tail 1 16 (length scratch)) ≡ true
  one-events-stop-reason g =
      (frame-reason (asked_events limit editions e es) ring head tail 1 16 (length scratch) next.stop (frame-stop (asked_events limit editions e es) ring head tail 1 16 (length scratch) g)).0

  -- "A stop moves no tail": tail and scratch are as they stood, and there is no value
  pub one-events-stop : next.go ≡ false → (one ≡ not_taken next tail) × (one_events_scratch limit editions e es ring head tail scratch ≡ scratch)
  unfolding read_one_events one_events_scratch
  one-events-stop g = (ap either g, ap (λ (b : Bool). cond b (scratch_after ring next.place next.size scratch) scratch) g)

  -- "'Taken' moves the tail by the size", whatever the answer is
  pub one-events-taken : next.go ≡ true → (one.tail ≡ (tail + next.size) % 2 ^ 64) × (one.answer ≡ judge_events (known editions e) es bytes)
  unfolding read_one_events taken_events
  one-events-taken g = (ap (λ (b : Bool). (either b).tail) g, ap (λ (b : Bool). (either b).answer) g)

-- ---- demand 3, over any table of editions that rises; the table of events is shared
module _ (limit : ℕ) (rows : List Known) (up : rising rows ≡ true) (e₁ e₂ : ℕ) (order : e₁ ≤ e₂) (is₁ : allowed rows e₁ ≡ true) (is₂ : allowed rows e₂ ≡ true)
    (es : List Event) (ws : EventWords es) where
  pub fair-events : (ring : List ℕ) (head tail budget : ℕ) (journal scratch : List ℕ) → Demand3Events limit rows e₁ e₂ es ring head tail budget journal scratch
  fair-events = demand3-events limit rows up e₁ e₂ order is₁ is₂ es ws

  -- entry by entry, on the bytes of the two journals; `exactly-where` and `else-alike` of Demand3 read both ways off it
  pub fair-events-entry : (ring : List ℕ) (head tail budget : ℕ) (journal scratch : List ℕ) (i : ℕ)
      → i < (drain_events limit rows e₁ es ring head tail budget journal scratch).state.taken
      → EntryFair (drain_events limit rows e₁ es ring head tail budget journal scratch).state.journal (drain_events limit rows e₂ es ring head tail budget journal scratch).state.journal i
      (outside (known rows e₁) (event_depends es (record_of (table_cutting limit es ring head tail budget (length journal) scratch) i)))
  fair-events-entry = demand3-events-entry limit rows up e₁ e₂ order is₁ is₂ es ws

  pub fair-events-one : (ring : List ℕ) (head tail : ℕ) (scratch : List ℕ) → OneEventsFair limit rows e₁ e₂ es ring head tail scratch
  fair-events-one = one-events-fair limit rows up e₁ e₂ order is₁ is₂ es ws

-- ---- "two of the editions that 01 lists"
module _ (limit e₁ e₂ : ℕ) (order : e₁ ≤ e₂) (is₁ : allowed editions e₁ ≡ true) (is₂ : allowed editions e₂ ≡ true) (es : List Event) (ws : EventWords es) where
  pub older-events : (ring : List ℕ) (head tail budget : ℕ) (journal scratch : List ℕ) → Demand3Events limit editions e₁ e₂ es ring head tail budget journal scratch
  older-events = fair-events limit editions editions-rise e₁ e₂ order is₁ is₂ es ws

  pub older-events-entry : (ring : List ℕ) (head tail budget : ℕ) (journal scratch : List ℕ) (i : ℕ)
      → i < (drain_events limit editions e₁ es ring head tail budget journal scratch).state.taken
      → EntryFair (drain_events limit editions e₁ es ring head tail budget journal scratch).state.journal (drain_events limit editions e₂ es ring head tail budget journal scratch).state.journal i
      (outside (known editions e₁) (event_depends es (record_of (table_cutting limit es ring head tail budget (length journal) scratch) i)))
  older-events-entry = fair-events-entry limit editions editions-rise e₁ e₂ order is₁ is₂ es ws

  pub older-events-one : (ring : List ℕ) (head tail : ℕ) (scratch : List ℕ) → OneEventsFair limit editions e₁ e₂ es ring head tail scratch
  older-events-one = fair-events-one limit editions editions-rise e₁ e₂ order is₁ is₂ es ws

-- ---- "The call with one attribute set remains"

-- a table of one event: a record with its identifier is answered as with that event's attributes alone, in every edition
pub one-event-answers : (limit : ℕ) (v : Event) → sound limit (v ∷ []) ≡ true → (k : Known) (r : List ℕ) → 16 ≤ length r → identifier_of r ≡ v.identifier
    → judge_events k (v ∷ []) r ≡ judge (layout k (attributes_of v)) r
one-event-answers = one-event-alike

-- a drain whose records all carry it is the drain with that attribute set: what is told, journal and scratch
pub one-event-drains : (limit : ℕ) (v : Event) → sound limit (v ∷ []) ≡ true → (rows : List Known) (e : ℕ) (ring : List ℕ) (head tail budget : ℕ) (journal scratch : List ℕ)
    → All (λ (c : Cut). (16 ≤ length c.record-bytes) × (identifier_of c.record-bytes ≡ v.identifier)) (cutting_by (asked_of rows e) ring head tail budget (length journal) scratch).records
    → drain_events limit rows e (v ∷ []) ring head tail budget journal scratch ≡ drain rows e (attributes_of v) ring head tail budget journal scratch
one-event-drains = one-event-drain

-- any sound table: of a record that has an event the reader reads what the reader with that event's attributes does
pub event-reads : (limit : ℕ) (rows : List Known) (e : ℕ) (es : List Event) (ring : List ℕ) (head tail : ℕ) (scratch : List ℕ) → sound limit es ≡ true
    → (one_frame rows e ring head tail scratch).go ≡ true
    → has_event es (record_at ring (one_frame rows e ring head tail scratch).place (one_frame rows e ring head tail scratch).size) ≡ true
    → read_one_events limit rows e es ring head tail scratch
    ≡ read_one rows e (attributes_of (event_for es (record_at ring (one_frame rows e ring head tail scratch).place (one_frame rows e ring head tail scratch).size))) ring head tail scratch
event-reads = one-event-reads
