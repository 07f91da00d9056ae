-- Demand 1 with a table of events, "both change only the buffers that 01 names": what the scratch then holds, after the drain and after the reader of one
-- record; what the reader shows, and that a refusal shows no value. With one attribute set the same stands in Demand1. Assumes nothing.
use Rattle.std.specs.Prelude.{◌≡◌, List, [], Bool, ℕ, ◌^◌, ◌<◌, length, get_or, take, drop}
use Rattle.std.proofs.Math.Path.{refl, ap}
use Rattle.std.proofs.Common.{◌∙◌, arith, ne_eqb}
use Rattle.std.proofs.Math.Bool.{true, false, cond}
use Rattle.meaning.specs.declared.Event.{Event}
use Rattle.meaning.specs.States.{Frame, One}
use Rattle.meaning.specs.Bytes.{zeros, put}
use Rattle.meaning.specs.Editions.{editions, known, is_in}
use Rattle.meaning.specs.Values.{read_answered}
use Rattle.meaning.specs.Ring.{frame, record_at, whole, scratch_after, shown, not_taken}
use Rattle.meaning.specs.Drain.{End}
use Rattle.meaning.specs.Events.{asked_events, judge_events, drain_events, one_events_frame, taken_events, read_one_events, one_events_scratch}
use Rattle.runs.specs.Cutting.{Cut, begin, cutting_by, All, nothing_cut}
use Rattle.runs.proofs.Runs.{run-cut}
use Rattle.runs.proofs.Forward.{frame-going, going-framed, frame-roomy}
use Rattle.runs.specs.Scratches.{scratch-whole, scratch-crosses, put_holds, shown-record}
use Rattle.editions.specs.Numbers.{event_numbers}
use Rattle.editions.proofs.EventRecord.{event-in}
use Rattle.editions.proofs.EventDrains.{drain-events-counted}
use Rattle.promises.proofs.Scratch.{going-room, lies_whole, drain-all-whole, drain-copied}

-- ---- the drain
module _ (limit e : ℕ) (es : List Event) (ring : List ℕ) (head tail budget : ℕ) (journal scratch : List ℕ) (hd : head < 2 ^ 64) where
  abbrev end : End
  end = drain_events limit editions e es ring head tail budget journal scratch

  abbrev records : List Cut
  records = (cutting_by (asked_events limit editions e es) ring head tail budget (length journal) scratch).records

  abbrev record-at : ℕ → Cut
  record-at i = get_or records i nothing_cut

  -- the scratch is that of the cutting
  cut-scratch : end.state.scratch ≡ (cutting_by (asked_events limit editions e es) ring head tail budget (length journal) scratch).last.scratch
  cut-scratch =
      ap (λ (x : End). x.state.scratch)
      (run-cut (frame (asked_events limit editions e es) ring head) (frame-roomy (asked_events limit editions e es) ring head) ring tail budget journal scratch (judge_events (known editions e) es))

  -- a record that crosses the ring's end, and there is at most one, is what it begins with, and "its other bytes are unchanged"
  pub drain-events-scratch-copied : tail < 2 ^ 64 → (i : ℕ) → i < end.state.taken → lies_whole ring (record-at i) ≡ false
      → (take (length (record-at i).record-bytes) end.state.scratch ≡ (record-at i).record-bytes)
      × (drop (length (record-at i).record-bytes) end.state.scratch ≡ drop (length (record-at i).record-bytes) scratch)
  drain-events-scratch-copied tl i h w =
      let c = (drain-events-counted limit editions e es ring head tail budget journal scratch hd tl).count in
      let k = drain-copied (asked_events limit editions e es) ring head hd budget (begin tail (length journal) scratch) tl i (omega (arith, c, h)) w in
      rw (cut-scratch ∙ k.0) (put_holds scratch (record-at i).record-bytes (length (record-at i).record-bytes) refl k.1)

  -- "In all other cases the scratch is unchanged"
  pub drain-events-scratch-kept : All (λ (c : Cut). lies_whole ring c ≡ true) records → end.state.scratch ≡ scratch
  drain-events-scratch-kept w = cut-scratch ∙ drain-all-whole (asked_events limit editions e es) ring head hd budget (begin tail (length journal) scratch) w

-- ---- the reader of one record
module _ (limit e : ℕ) (es : List Event) (ring : List ℕ) (head tail : ℕ) (scratch : List ℕ) where
  abbrev next : Frame
  next = one_events_frame limit editions e es ring head tail scratch

  abbrev one : One
  one = read_one_events limit editions e es ring head tail scratch

  abbrev scratch-then : List ℕ
  scratch-then = one_events_scratch limit editions e es ring head tail scratch

  abbrev bytes : List ℕ
  bytes = record_at ring next.place next.size

  taken-scratch : next.go ≡ true → scratch-then ≡ scratch_after ring next.place next.size scratch
  unfolding one_events_scratch
  taken-scratch g = ap (λ (b : Bool). cond b (scratch_after ring next.place next.size scratch) scratch) g

  -- "A record that doesn't cross the ring's end is shown where it lies, otherwise it is copied": what is shown is the record
  pub one-events-shows : next.go ≡ true → shown ring scratch-then next ≡ bytes
  one-events-shows g =
      let w = frame-going (asked_events limit editions e es) ring head tail 1 16 (length scratch) g in
      ap (λ (s : List ℕ). shown ring s next) (taken-scratch g)
      ∙ shown-record ring scratch next g (omega (arith, w.header)) (omega (arith, w.size-near, w.near)) (going-room (asked_events limit editions e es) ring head tail 1 16 (length scratch) g).1

  -- "A stop shows an empty part of the ring"
  pub one-events-stop-shows : (s : List ℕ) → next.go ≡ false → shown ring s next ≡ []
  unfolding shown
  one-events-stop-shows s g = rw g refl

  -- "After a copy the scratch begins with the record and its other bytes are unchanged; that holds too if the body is then refused"
  pub one-events-scratch-copied : next.go ≡ true → whole ring next.place next.size ≡ false
      → (take next.size scratch-then ≡ bytes) × (drop next.size scratch-then ≡ drop next.size scratch)
  one-events-scratch-copied g c =
      let w = frame-going (asked_events limit editions e es) ring head tail 1 16 (length scratch) g in
      let m = (going-room (asked_events limit editions e es) ring head tail 1 16 (length scratch) g).1 c in
      let l = (going-framed (asked_events limit editions e es) ring head tail 1 16 (length scratch) next w).0 in
      let q : scratch-then ≡ put scratch 0 bytes = taken-scratch g
      ∙ scratch-crosses ring next.place next.size scratch (omega (arith, w.header)) (omega (arith, w.size-near, w.near)) c in
      let p = put_holds scratch bytes next.size l m in
      (ap (take next.size) q ∙ p.0, ap (drop next.size) q ∙ p.1)

  -- "In all other cases the scratch is unchanged"
  pub one-events-scratch-kept : whole ring next.place next.size ≡ true → scratch-then ≡ scratch
  unfolding one_events_scratch
  one-events-scratch-kept c = by next.go
    where
      by : (b : Bool) → cond b (scratch_after ring next.place next.size scratch) scratch ≡ scratch
      by true = scratch-whole ring next.place next.size scratch c
      by false = refl

  -- what is told, by whether the record is taken
  abbrev either : Bool → One
  either b = cond b (taken_events (known editions e) es next bytes tail) (not_taken next tail)

  -- the answer of a record that is taken, and 0 of a stop
  pub one-events-numbers : is_in one.answer event_numbers ≡ true
  unfolding read_one_events
  one-events-numbers = by next.go
    where
      by : (b : Bool) → is_in (either b).answer event_numbers ≡ true
      by true = unfold taken_events in event-in (known editions e) es bytes
      by false = unfold not_taken in refl

  -- "A body refusal carries its number and no value"
  pub one-events-refused-empty : (one.answer ≡ 0 → ⊥) → one.words ≡ zeros 56
  unfolding read_one_events taken_events not_taken read_answered
  one-events-refused-empty = by next.go
    where
      by : (b : Bool) → ((either b).answer ≡ 0 → ⊥) → (either b).words ≡ zeros 56
      by true h = rw (ne_eqb (judge_events (known editions e) es bytes) 0 h)
      by false h = refl
