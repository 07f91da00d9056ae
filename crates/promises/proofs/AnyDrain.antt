-- What the stop of a drain says, under any judge of a record's bytes and whatever the rows ask beside the ring: one law for the drain with one attribute
-- set (Demand1) and for the drain with a table of events (EventDrains). Assumes nothing.
use Rattle.std.specs.Prelude.{◌≡◌, List, true, ℕ, ◌+◌, ◌-◌, ◌*◌, ◌<◌, length}
use Rattle.std.proofs.Common.{sym, ap, ap₂, ◌∙◌, arith, ltb-true, eqb-true}
use Rattle.meaning.specs.States.{Frame}
use Rattle.meaning.specs.Ring.{Asked, stop_at, frame}
use Rattle.meaning.specs.Drain.{End, start, ended, frame_at, run}
use Rattle.laws.specs.Rows.{gives}
use Rattle.laws.specs.Rings.{stop_rows, frame-reason, run-stop}
use Rattle.runs.specs.Cutting.{Cuts}
use Rattle.runs.proofs.Forward.{Counted}

-- a drain that ended where it began: nothing taken, tail, journal and scratch as they stood
pub ended-leaves : (tail : ℕ) (journal scratch : List ℕ) (f : Frame) (d : End) → d ≡ ended (start tail journal scratch) f
    → (d.state.taken ≡ 0) × (d.state.bytes ≡ 0) × (d.state.tail ≡ tail) × (d.state.journal ≡ journal) × (d.state.scratch ≡ scratch)
ended-leaves tail journal scratch f d s = (
  ap (λ (x : End). x.state.taken) s,
  ap (λ (x : End). x.state.bytes) s,
  ap (λ (x : End). x.state.tail) s,
  ap (λ (x : End). x.state.journal) s,
  ap (λ (x : End). x.state.scratch) s,
)

module _ (asked : Asked) (ring : List ℕ) (head tail budget : ℕ) (journal scratch : List ℕ) (w : Cuts) (d : End) (c : Counted asked ring head tail budget journal scratch w d) where
  -- the reason is the one that the rows give at the new tail: there the frame stops, so that to go on from the end is to stay there
  pub rests-there : (judge : List ℕ → ℕ) → run (frame asked ring head) judge ring (budget - d.state.taken) d.state ≡ d
  rests-there judge =
      let n : ℕ = budget - d.state.taken in
      let q : frame_at (frame asked ring head) n d.state ≡ stop_at d.stop =
      ap₂ (λ (j s : ℕ). frame asked ring head d.state.tail n (j - 16 * d.state.taken) s) c.journal-length c.scratch-length ∙ c.reason in
      run-stop (frame asked ring head) judge ring n d.state (ap (λ (x : Frame). x.go) q) ∙ ap (ended d.state) q

  -- a row with the stop's number holds there
  pub stop-gives : gives d.stop (stop_rows asked ring head d.state.tail (budget - d.state.taken) (length journal - 16 * d.state.taken) (length scratch)) ≡ true
  stop-gives =
      (frame-reason asked ring head d.state.tail (budget - d.state.taken) (length journal - 16 * d.state.taken) (length scratch) d.stop c.reason).0

  -- 0 only at the head, 8 only after as many records as were allowed, 9 only where fewer than 16 bytes of the journal are left
  pub stop-0 : d.stop ≡ 0 → d.state.tail ≡ head
  stop-0 z = sym (eqb-true head d.state.tail (rw z at stop-gives))

  pub stop-8 : d.stop ≡ 8 → d.state.taken ≡ budget
  stop-8 z =
      let m = c.most in
      let n = eqb-true (budget - d.state.taken) 0 (rw z at stop-gives) in
      omega (arith, m, n)

  pub stop-9 : d.stop ≡ 9 → length journal < 16 * d.state.taken + 16
  stop-9 z =
      let n = ltb-true (length journal - 16 * d.state.taken) 16 (rw z at stop-gives) in
      omega (arith, n)
