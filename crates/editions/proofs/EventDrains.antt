-- Demand 3 under a table of events, once over all pairs of editions: for whole drains, and entry by entry. What a drain with a table counts and moves; and
-- a table of one event beside the call with one attribute set. Assumes nothing.
use Rattle.std.specs.Prelude.{◌≡◌, refl, List, [], ◌∷◌, Bool, true, false, ℕ, ◌-◌, ◌*◌, ◌^◌, ◌<◌, ◌≤◌, length}
use Rattle.std.proofs.Common.{sym, ap, ◌∙◌, le-leb, eq-eqb}
use Rattle.meaning.specs.declared.Event.{Event}
use Rattle.meaning.specs.declared.Known.{Known}
use Rattle.meaning.specs.Editions.{allowed, known, outside, is_in}
use Rattle.meaning.specs.Records.{layout, judge}
use Rattle.meaning.specs.Ring.{Asked, asking_with, asked_of, frame}
use Rattle.meaning.specs.Drain.{start, ended, run, drain}
use Rattle.meaning.specs.Events.{attributes_of, identifier_of, index_of, event_for, has_event, sound, asked_events, judge_events, event_depends, drain_events}
use Rattle.laws.specs.Bytes.{true-and}
use Rattle.laws.specs.Rings.{run-stop}
use Rattle.laws.specs.Matched.{judge-found, sound-marked, asked-sound}
use Rattle.laws.proofs.Refused.{frame_refused}
use Rattle.runs.specs.Cutting.{Cut, cutting, cutting_by, record_of, All}
use Rattle.runs.proofs.Runs.{runs-beside, run_in}
use Rattle.runs.proofs.Entries.{all_of, all_map, runs_same}
use Rattle.runs.proofs.Forward.{Counted, frame-roomy, run-counted}
use Rattle.editions.specs.Fairness.{rising}
use Rattle.editions.specs.Numbers.{table_stop_numbers}
use Rattle.editions.proofs.InTable.{table-frame-in}
use Rattle.editions.specs.Promise.{EntryFair}
use Rattle.editions.proofs.Demand3.{entries-fair}
use Rattle.editions.specs.EventPromise.{EventWords, asks_table, table_cutting, Demand3Events}
use Rattle.editions.proofs.EventRecord.{event-fair, event-small}

-- under a sound table the records are those that a call without one finds. kept: it says so of any table
pub cutting-sound : (limit : ℕ) (es : List Event) (ring : List ℕ) (head tail budget room : ℕ) (scratch : List ℕ) → sound limit es ≡ true
    → table_cutting limit es ring head tail budget room scratch ≡ cutting ring head tail budget room scratch
cutting-sound limit es ring head tail budget room scratch h = ap (λ (b : Bool). cutting_by (asking_with true b) ring head tail budget room scratch) h

-- of an edition that is one, the frames take just that
events-allowed : (limit : ℕ) (rows : List Known) (e : ℕ) → allowed rows e ≡ true → (es : List Event) (ring : List ℕ) (head tail budget : ℕ) (journal scratch : List ℕ)
    → drain_events limit rows e es ring head tail budget journal scratch
    ≡ run (frame (asks_table limit es) ring head) (judge_events (known rows e) es) ring budget (start tail journal scratch)
events-allowed limit rows e h es ring head tail budget journal scratch =
    ap (λ (b : Bool). run (frame (asking_with b (sound limit es)) ring head) (judge_events (known rows e) es) ring budget (start tail journal scratch)) h

module _ (limit : ℕ) (rows : List Known) (up : rising rows ≡ true) (e₁ e₂ : ℕ) (order : e₁ ≤ e₂) (is₁ : allowed rows e₁ ≡ true) (is₂ : allowed rows e₂ ≡ true)
    (es : List Event) (ws : EventWords es) (ring : List ℕ) (head tail budget : ℕ) (journal scratch : List ℕ) where
  pub demand3-events : Demand3Events limit rows e₁ e₂ es ring head tail budget journal scratch
  demand3-events =
      let p = events-allowed limit rows e₁ is₁ es ring head tail budget journal scratch in
      let q = events-allowed limit rows e₂ is₂ es ring head tail budget journal scratch in
      record {
        beside = rw (p, q) (runs-beside (frame (asks_table limit es) ring head) (frame-roomy (asks_table limit es) ring head) ring tail budget journal scratch
            (judge_events (known rows e₁) es) (judge_events (known rows e₂) es));
        fair = all_of _ (λ c. event-fair rows up e₁ e₂ order is₂ es ws c.record-bytes) (table_cutting limit es ring head tail budget (length journal) scratch).records;
      }

  -- the same, read off the two journals
  pub demand3-events-entry : (i : ℕ) → i < (drain_events limit rows e₁ es ring head tail budget journal scratch).state.taken
      → EntryFair (drain_events limit rows e₁ es ring head tail budget journal scratch).state.journal (drain_events limit rows e₂ es ring head tail budget journal scratch).state.journal i
      (outside (known rows e₁) (event_depends es (record_of (table_cutting limit es ring head tail budget (length journal) scratch) i)))
  demand3-events-entry =
      entries-fair (table_cutting limit es ring head tail budget (length journal) scratch) (judge_events (known rows e₁) es) (judge_events (known rows e₂) es)
      (λ (r : List ℕ). outside (known rows e₁) (event_depends es r)) journal _ _ demand3-events.beside
      (event-small (known rows e₁) es) (event-small (known rows e₂) es) (event-fair rows up e₁ e₂ order is₂ es ws)

-- ---- what a drain counts and moves; its stops
module _ (limit : ℕ) (rows : List Known) (e : ℕ) (es : List Event) (ring : List ℕ) (head tail budget : ℕ) (journal scratch : List ℕ) where
  pub drain-events-in : is_in (drain_events limit rows e es ring head tail budget journal scratch).stop table_stop_numbers ≡ true
  drain-events-in =
      run_in table_stop_numbers (frame (asked_events limit rows e es) ring head) (judge_events (known rows e) es) ring (table-frame-in (asked_events limit rows e es) ring head) budget (start tail journal scratch)

  pub drain-events-counted : head < 2 ^ 64 → tail < 2 ^ 64
      → Counted (asked_events limit rows e es) ring head tail budget journal scratch (cutting_by (asked_events limit rows e es) ring head tail budget (length journal) scratch)
      (drain_events limit rows e es ring head tail budget journal scratch)
  drain-events-counted = run-counted (asked_events limit rows e es) (judge_events (known rows e) es) ring head tail budget journal scratch

  -- under a table that is refused nothing is taken: tail, journal and scratch are the caller's
  pub drain-events-refused : sound limit es ≡ false
      → drain_events limit rows e es ring head tail budget journal scratch
      ≡ ended (start tail journal scratch) (frame (asked_events limit rows e es) ring head tail budget (length journal - 16 * 0) (length scratch))
  drain-events-refused h =
      run-stop (frame (asked_events limit rows e es) ring head) (judge_events (known rows e) es) ring budget (start tail journal scratch)
      (frame_refused (asked_events limit rows e es) h ring head tail budget (length journal - 16 * 0) (length scratch))

-- ---- one event, and one attribute set

-- the record carries the identifier of the one event
one_has : (v : Event) (r : List ℕ) → 16 ≤ length r → identifier_of r ≡ v.identifier → has_event (v ∷ []) r ≡ true
unfolding has_event
one_has v r l e = true-and _ _ (le-leb 16 (length r) l) (rw (eq-eqb (identifier_of r) v.identifier e) refl)

one-event : (v : Event) (r : List ℕ) → identifier_of r ≡ v.identifier → event_for (v ∷ []) r ≡ v
unfolding index_of
one-event v r e = rw (eq-eqb v.identifier (identifier_of r) (sym e)) refl

-- one record: its answer is that of the call with the event's attributes
pub one-event-alike : (limit : ℕ) (v : Event) → sound limit (v ∷ []) ≡ true → (k : Known) (r : List ℕ) → 16 ≤ length r → identifier_of r ≡ v.identifier
    → judge_events k (v ∷ []) r ≡ judge (layout k (attributes_of v)) r
one-event-alike limit v s k r l e =
    judge-found k (v ∷ []) r (sound-marked limit (v ∷ []) s) (one_has v r l e)
    ∙ ap (λ (w : Event). judge (layout k (attributes_of w)) r) (one-event v r e)

-- a drain whose records all carry the one event's identifier is the drain with its attributes
pub one-event-drain : (limit : ℕ) (v : Event) → sound limit (v ∷ []) ≡ true → (rows : List Known) (e : ℕ) (ring : List ℕ) (head tail budget : ℕ) (journal scratch : List ℕ)
    → All (λ (c : Cut). (16 ≤ length c.record-bytes) × (identifier_of c.record-bytes ≡ v.identifier)) (cutting_by (asked_of rows e) ring head tail budget (length journal) scratch).records
    → drain_events limit rows e (v ∷ []) ring head tail budget journal scratch ≡ drain rows e (attributes_of v) ring head tail budget journal scratch
one-event-drain limit v s rows e ring head tail budget journal scratch h =
    ap (λ (asked : Asked). run (frame asked ring head) (judge_events (known rows e) (v ∷ [])) ring budget (start tail journal scratch)) (asked-sound limit rows e (v ∷ []) s)
    ∙ runs_same (frame (asked_of rows e) ring head) (frame-roomy (asked_of rows e) ring head) ring tail budget journal scratch (judge_events (known rows e) (v ∷ [])) (judge (layout (known rows e) (attributes_of v)))
    (all_map _ _ (λ c p. one-event-alike limit v s (known rows e) c.record-bytes p.0 p.1) (cutting_by (asked_of rows e) ring head tail budget (length journal) scratch).records h)
