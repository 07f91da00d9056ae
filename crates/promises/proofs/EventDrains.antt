-- Demand 1 for the drain with a table of events, sentence by sentence, as Demand1 says it of the drain with one attribute set: a record that is taken is passed
-- over whatever its answer is; a stop leaves what stood; each of 0, 8 and 9 says what is so. Then M-104 with a table. Numbers, counts and entries are in
-- Events, the scratch in EventScratch, the answers in the entries in EventEntries. Assumes nothing.
use Rattle.std.specs.Prelude.{◌≡◌, List, true, false, ℕ, suc, ◌+◌, ◌-◌, ◌*◌, ◌^◌, ◌<◌, length}
use Rattle.std.proofs.Common.{ap, ◌∙◌, arith}
use Rattle.std.proofs.Math.Path.{fun_ext}
use Rattle.meaning.specs.declared.Event.{Event}
use Rattle.meaning.specs.States.{Frame}
use Rattle.meaning.specs.Editions.{editions, known}
use Rattle.meaning.specs.Ring.{Asked, stop_at, frame}
use Rattle.meaning.specs.Drain.{End, start, frame_at, after, run}
use Rattle.meaning.specs.Events.{asked_events, judge_events, drain_events}
use Rattle.laws.specs.Rings.{run-go, run-stop}
use Rattle.runs.specs.Cutting.{cutting_by}
use Rattle.runs.proofs.Forward.{Counted}
use Rattle.promises.proofs.AnyDrain.{ended-leaves, rests-there, stop-0, stop-8, stop-9}
use Rattle.promises.proofs.Events.{drain-events-counts}
use Rattle.promises.proofs.Header.{frame_with, crossing-never-answers}

-- "a record refused for its body is passed over": one that is taken moves the tail by its size, whatever its answer is, and the drain goes on behind it
-- with one less of the budget
pub drain-events-passes : (limit e : ℕ) (es : List Event) (ring : List ℕ) (head tail budget : ℕ) (journal scratch : List ℕ)
    → (frame_at (frame (asked_events limit editions e es) ring head) (suc budget) (start tail journal scratch)).go ≡ true
    → drain_events limit editions e es ring head tail (suc budget) journal scratch
    ≡ run (frame (asked_events limit editions e es) ring head) (judge_events (known editions e) es) ring budget
    (after (judge_events (known editions e) es) ring (start tail journal scratch)
    (frame_at (frame (asked_events limit editions e es) ring head) (suc budget) (start tail journal scratch)))
drain-events-passes limit e es ring head tail budget journal scratch g =
    run-go (frame (asked_events limit editions e es) ring head) (judge_events (known editions e) es) ring budget (start tail journal scratch) g

module _ (limit e : ℕ) (es : List Event) (ring : List ℕ) (head tail budget : ℕ) (journal scratch : List ℕ) where
  -- what the rows ask beside the ring; what answers for a record's bytes; where it ends
  abbrev asked : Asked
  asked = asked_events limit editions e es

  abbrev answers : List ℕ → ℕ
  answers = judge_events (known editions e) es

  abbrev end : End
  end = drain_events limit editions e es ring head tail budget journal scratch

  -- a stop at the first record, 1, 2, 4, 5 and 11 among them: "'Stops' leaves tail, scratch and journal as they stood before that record"
  pub drain-events-stop-leaves : (frame asked ring head tail budget (length journal) (length scratch)).go ≡ false
      → (end.state.taken ≡ 0) × (end.state.bytes ≡ 0) × (end.state.tail ≡ tail) × (end.state.journal ≡ journal) × (end.state.scratch ≡ scratch)
  drain-events-stop-leaves g =
      let z : length journal - 16 * 0 ≡ length journal = omega arith in
      let q : frame_at (frame asked ring head) budget (start tail journal scratch) ≡ frame asked ring head tail budget (length journal) (length scratch) =
      ap (λ (k : ℕ). frame asked ring head tail budget k (length scratch)) z in
      ended-leaves tail journal scratch (frame_at (frame asked ring head) budget (start tail journal scratch)) end
      (run-stop (frame asked ring head) answers ring budget (start tail journal scratch) (ap (λ (f : Frame). f.go) q ∙ g))

  module _ (hd : head < 2 ^ 64) (tl : tail < 2 ^ 64) where
    counted : Counted asked ring head tail budget journal scratch (cutting_by asked ring head tail budget (length journal) scratch) end
    counted = drain-events-counts limit e es ring head tail budget journal scratch hd tl

    -- a stop at any record: "A stop moves no tail past the record it stopped at". The reason is the one that the rows give at the new tail
    pub drain-events-stops-there : frame asked ring head end.state.tail (budget - end.state.taken) (length journal - 16 * end.state.taken) (length scratch)
        ≡ stop_at end.stop
    drain-events-stops-there = counted.reason

    -- and there it leaves tail, counts, journal and scratch as they stand: to go on from the end is to stay there
    pub drain-events-rests : run (frame asked ring head) answers ring (budget - end.state.taken) end.state ≡ end
    drain-events-rests = rests-there asked ring head tail budget journal scratch _ end counted answers

    -- "nothing to take" is said only at the head, "budget used up" only after as many records as were allowed, and "fewer than 16 journal bytes left"
    -- only where that is so
    pub drain-events-nothing-left : end.stop ≡ 0 → end.state.tail ≡ head
    drain-events-nothing-left = stop-0 asked ring head tail budget journal scratch _ end counted

    pub drain-events-budget-used : end.stop ≡ 8 → end.state.taken ≡ budget
    drain-events-budget-used = stop-8 asked ring head tail budget journal scratch _ end counted

    pub drain-events-journal-full : end.stop ≡ 9 → length journal < 16 * end.state.taken + 16
    drain-events-journal-full = stop-9 asked ring head tail budget journal scratch _ end counted

-- ---- M-104, "Refusal 10 never happens", with a table: the drain by the chain that has document 01's row 10 ends as the one without it does: stop, counts,
-- tail, journal and scratch
pub drains-events-never-cross : (limit e : ℕ) (es : List Event) (ring : List ℕ) (head tail budget : ℕ) (journal scratch : List ℕ)
    → run (frame_with (asked_events limit editions e es) ring head) (judge_events (known editions e) es) ring budget (start tail journal scratch)
    ≡ drain_events limit editions e es ring head tail budget journal scratch
drains-events-never-cross limit e es ring head tail budget journal scratch =
    ap (λ (f : ℕ → ℕ → ℕ → ℕ → Frame). run f (judge_events (known editions e) es) ring budget (start tail journal scratch))
    (fun_ext (λ t. fun_ext (λ left. fun_ext (λ room. fun_ext (λ space. crossing-never-answers (asked_events limit editions e es) ring head t left room space)))))
