-- M-113, "Drains cut anywhere", over any judge and whatever the rows ask beside the ring: one attribute set or a table of events. Assumes nothing.
use Rattle.std.specs.Prelude.{◌≡◌, refl, List, [], ◌∷◌, ◌++◌, true, ℕ, suc, ◌+◌, ◌-◌, ◌*◌, ◌%◌, ◌^◌, ◌<◌, ◌≤◌, length, take, drop}
use Rattle.std.proofs.Common.{sym, ap, ◌∙◌, append-nil, mod-lt, arith, length-drop}
use Rattle.std.proofs.Math.Seq.{take-append_seam}
use Rattle.meaning.specs.States.{Frame}
use Rattle.meaning.specs.Editions.{is_in}
use Rattle.meaning.specs.Ring.{Asked, stop_at, frame}
use Rattle.meaning.specs.Drain.{State, End, start, frame_at}
use Rattle.laws.specs.Rings.{frame-stop, scratch-length}
use Rattle.runs.specs.Cutting.{Cuts, begin, halt, entries}
use Rattle.runs.proofs.Runs.{cut-stop}
use Rattle.runs.proofs.Forward.{frame-paid}
use Rattle.runs.proofs.Enough.{run_ends}
use Rattle.series.specs.Series.{Step, Given, drain_at, entries_of, from, series, series_to, reach, Steady, one_drain, Same, GoesOn}
use Rattle.series.proofs.Goings.{reach-most}
use Rattle.series.proofs.Stops.{lasting, stop-eight, stop-again, nothing-again, staying, stop-later}
use Rattle.series.proofs.Chains.{step_cuts, drain-reads}
use Rattle.series.proofs.Steps.{Along, along-step, along-series, along-from, along-to, bytes-later}
use Rattle.series.proofs.GoesOn.{along-goes-on}

-- a drain that stops at once
pub at_once : (asked : Asked) (judge : List ℕ → ℕ) (tail : ℕ) (s : Step) (k : ℕ)
    → frame asked s.ring s.head tail s.budget (length s.journal) (length s.scratch) ≡ stop_at k
    → Same (record { taken = 0; entries = []; tail = tail; stop = k }) (drain_at asked judge tail s)
unfolding entries
at_once asked judge tail s k e =
    let d = drain-reads asked judge tail s in
    let p = begin tail (length s.journal) s.scratch in
    let w : step_cuts asked tail s ≡ halt p (stop_at k) = cut-stop (frame asked s.ring s.head) s.ring s.budget p (ap (λ (f : Frame). f.go) e) ∙ ap (halt p) e in
    record {
      taken = d.taken ∙ ap (λ (x : Cuts). length x.records) w;
      entries = d.entries-are ∙ ap (λ (x : Cuts). entries judge x.records) w;
      tail = d.tail ∙ ap (λ (x : Cuts). x.last.tail) w;
      stop = d.stop ∙ ap (λ (x : Cuts). x.stop) w;
    }

-- why a drain stopped: the rows say so at its last tail, with what is left of budget and room there
ended_so : (asked : Asked) (judge : List ℕ → ℕ) (tail : ℕ) (s : Step)
    → (left : ℕ) × (room : ℕ)
    × (frame asked s.ring s.head (drain_at asked judge tail s).state.tail left room (length s.scratch) ≡ stop_at (drain_at asked judge tail s).stop)
ended_so asked judge tail s =
    let next = frame asked s.ring s.head in
    let w = run_ends next (frame-paid asked s.ring s.head) judge s.ring (λ n x. length x.scratch ≡ length s.scratch)
    (λ n x k g. let f : Frame = frame_at next (suc n) x in scratch-length s.ring f.place f.size x.scratch ∙ k)
    s.budget (start tail s.journal s.scratch) refl in
    let x : State = w.last in
    let room : ℕ = length x.journal - 16 * x.taken in (
      w.left,
      room,
      ap (λ (d : End). next d.state.tail w.left room (length s.scratch)) w.is
          ∙ ap (next x.tail w.left room) (sym w.inv)
          ∙ frame-stop asked s.ring s.head x.tail w.left room (length x.scratch) w.stops
          ∙ ap (λ (d : End). stop_at d.stop) (sym w.is),
    )

module _ (asked : Asked) (judge : List ℕ → ℕ) (tail : ℕ) (tl : tail < 2 ^ 64) (z : Step) where
  abbrev one : ℕ → List ℕ → List ℕ → End
  one budget journal scratch = drain_at asked judge tail (one_drain z budget journal scratch)

  -- where the one drain, come so far, stops as the series did, it gave what the series gave
  same_end : (eight : z.head % 8 ≡ 0) (g : Given) (far : ℕ) → Along asked tail tl z eight judge g far
      → (budget : ℕ) (journal scratch : List ℕ) → length scratch ≡ length z.scratch → g.taken ≤ budget → 16 * g.taken ≤ length journal
      → frame asked z.ring z.head g.tail (budget - g.taken) (length journal - 16 * g.taken) (length z.scratch) ≡ stop_at g.stop
      → Same g (one budget journal scratch)
  same_end eight g far a budget journal scratch s b j f =
      let l : length (drop (16 * g.taken) journal) ≡ length journal - 16 * g.taken = length-drop (16 * g.taken) journal in
      let w = along-goes-on asked judge tail tl z eight g far a budget journal scratch (drop (16 * g.taken) journal) scratch s s b (omega arith) in
      let q = at_once asked judge g.tail (one_drain z (budget - g.taken) (drop (16 * g.taken) journal) scratch) g.stop
      (ap (λ (x : ℕ). frame asked z.ring z.head g.tail (budget - g.taken) x (length scratch)) l
      ∙ ap (frame asked z.ring z.head g.tail (budget - g.taken) (length journal - 16 * g.taken)) s
      ∙ f) in
      record {
        taken = omega (arith, w.taken, q.taken);
        entries = w.entries ∙ ap (λ (x : List ℕ). g.entries ++ x) q.entries ∙ append-nil g.entries;
        tail = w.tail ∙ q.tail;
        stop = w.stop ∙ q.stop;
      }

  -- "everything before that place agrees": wherever a series stands, and for whatever reason its last drain stopped, one drain at a later head z gives
  -- the series' entries first, and then goes on as a drain from the series' last tail. The later head is a multiple of 8: at one that is refused with 5 a
  -- drain takes nothing
  pub agrees-before : (ss : List Step) → Steady tail 0 ss z → z.head % 8 ≡ 0
      → (budget : ℕ) (journal scratch journal' scratch' : List ℕ) → length scratch ≡ length z.scratch → length scratch' ≡ length z.scratch
      → (series asked judge (from tail) ss).taken ≤ budget → 16 * (series asked judge (from tail) ss).taken + length journal' ≡ length journal
      → GoesOn (series asked judge (from tail) ss) (one budget journal scratch)
      (drain_at asked judge (series asked judge (from tail) ss).tail (one_drain z (budget - (series asked judge (from tail) ss).taken) journal' scratch'))
  agrees-before ss steady eight =
      along-goes-on asked judge tail tl z eight (series asked judge (from tail) ss) (reach tail z)
      (along-series asked tail tl z eight judge ss (from tail) 0 (along-from asked tail tl z eight judge) steady)

  -- the entries themselves: the one drain's begin with the series'
  pub begins-alike : (ss : List Step) → Steady tail 0 ss z → z.head % 8 ≡ 0
      → (budget : ℕ) (journal scratch : List ℕ) → length scratch ≡ length z.scratch
      → (series asked judge (from tail) ss).taken ≤ budget → 16 * (series asked judge (from tail) ss).taken ≤ length journal
      → take (length (series asked judge (from tail) ss).entries) (entries_of (one budget journal scratch)) ≡ (series asked judge (from tail) ss).entries
  begins-alike ss steady eight budget journal scratch s b j =
      let g : Given = series asked judge (from tail) ss in
      let l = length-drop (16 * g.taken) journal in
      let w = agrees-before ss steady eight budget journal scratch (drop (16 * g.taken) journal) scratch s s b (omega arith) in
      ap (take (length g.entries)) w.entries ∙ take-append_seam g.entries _

  -- ---- the series with its last drain, at z
  module _ (ss : List Step) (steady : Steady tail 0 ss z) where
    abbrev gave : Given
    gave = series_to asked judge tail ss z

    along-all : (eight : z.head % 8 ≡ 0) → Along asked tail tl z eight judge gave (reach tail z)
    along-all eight =
        along-step asked tail tl z eight judge (series asked judge (from tail) ss) (reach tail z) z
        (along-series asked tail tl z eight judge ss (from tail) 0 (along-from asked tail tl z eight judge) steady)
        (omega arith) (record { ring-length = refl; scratch-length = refl; bytes = refl }) (omega arith)

    -- M-113: "provided the series itself ended with stop 0 at that head". Enough are as many as the series took
    pub drains-cut-anywhere : gave.stop ≡ 0
        → (budget : ℕ) (journal scratch : List ℕ) → length scratch ≡ length z.scratch → gave.taken ≤ budget → 16 * gave.taken ≤ length journal
        → Same gave (one budget journal scratch)
    drains-cut-anywhere e budget journal scratch s b j =
        let r = ended_so asked judge (series asked judge (from tail) ss).tail z in
        let f = r.2 ∙ ap stop_at e in
        let eight = stop-eight asked z.ring z.head gave.tail r.0 r.1 (length z.scratch) 0 f refl in
        same_end eight gave (reach tail z) (along-all eight) budget journal scratch s b j
        (nothing-again asked z.ring z.head gave.tail r.0 r.1 (length z.scratch) f (budget - gave.taken) (length journal - 16 * gave.taken)
        ∙ ap stop_at (sym e))

    -- "Where a drain stops with 3, 6 or 7": at the last head the one drain stops there too, for the same reason. Enough is one more, so that the record
    -- at which it stops is looked at
    pub stops-alike : is_in gave.stop lasting ≡ true
        → (budget : ℕ) (journal scratch : List ℕ) → length scratch ≡ length z.scratch → gave.taken < budget → 16 * gave.taken + 16 ≤ length journal
        → Same gave (one budget journal scratch)
    stops-alike k budget journal scratch s b j =
        let r = ended_so asked judge (series asked judge (from tail) ss).tail z in
        let eight = stop-eight asked z.ring z.head gave.tail r.0 r.1 (length z.scratch) gave.stop r.2 k in
        same_end eight gave (reach tail z) (along-all eight) budget journal scratch s (omega arith) (omega arith)
        (stop-again asked z.ring z.head gave.tail r.0 r.1 (length z.scratch) gave.stop r.2 k (budget - gave.taken)
        (length journal - 16 * gave.taken) (omega arith) (omega arith))

    -- a budget of one record for every 8 bytes of the ring, and 16 journal bytes for each, are always enough
    pub always-enough : is_in gave.stop lasting ≡ true → 8 * gave.taken ≤ length z.ring
    always-enough k =
        let r = ended_so asked judge (series asked judge (from tail) ss).tail z in
        let a = along-all (stop-eight asked z.ring z.head gave.tail r.0 r.1 (length z.scratch) gave.stop r.2 k) in
        omega (arith, a.taken, a.way.counted, a.way.reached, reach-most tail z)

  -- 3 and 6 do not go away: where a drain s of the series stopped so, one drain at any later head z stops at that place with that number, and agrees whole.
  -- (After 7 a later drain may go on: there `agrees-before` says what agrees)
  pub stays-stopped : (ss : List Step) (s : Step) → Steady tail 0 (ss ++ (s ∷ [])) z → z.head % 8 ≡ 0 → s.head < 2 ^ 64
      → is_in (series_to asked judge tail ss s).stop staying ≡ true
      → (budget : ℕ) (journal scratch : List ℕ) → length scratch ≡ length z.scratch
      → (series_to asked judge tail ss s).taken < budget → 16 * (series_to asked judge tail ss s).taken + 16 ≤ length journal
      → Same (series_to asked judge tail ss s) (one budget journal scratch)
  stays-stopped ss s steady eight hd k budget journal scratch sc b j =
      let g : Given = series_to asked judge tail ss s in
      let r = ended_so asked judge (series asked judge (from tail) ss).tail s in
      let a = along-to asked tail tl z eight judge ss (from tail) 0 s (along-from asked tail tl z eight judge) steady in
      let x : ℕ = a.0.way.bytes in
      let t : g.tail ≡ (tail + x) % 2 ^ 64 = a.0.way.end_is in
      let c : ℕ = (tail + x) % 2 ^ 64 in
      let f : frame asked s.ring s.head c r.0 r.1 (length z.scratch) ≡ stop_at g.stop =
      ap (λ (n : ℕ). frame asked s.ring s.head n r.0 r.1 (length z.scratch)) (sym t)
      ∙ ap (frame asked s.ring s.head g.tail r.0 r.1) (sym a.1.scratch-length)
      ∙ r.2 in
      same_end eight g (reach tail s) a.0 budget journal scratch sc (omega arith) (omega arith)
      (ap (λ (n : ℕ). frame asked z.ring z.head n (budget - g.taken) (length journal - 16 * g.taken) (length z.scratch)) t
      ∙ stop-later asked s.ring z.ring s.head z.head c r.0 r.1 (length z.scratch) g.stop hd (mod-lt (tail + x) {m = 2 ^ 64} (omega arith)) f k
      a.1.ring-length eight
      (λ allowed near far. let w = bytes-later asked tail tl z eight s a.1 a.2 x 8 a.0.way.reached allowed near (omega arith) far in (w.1, w.2, w.3))
      (budget - g.taken) (length journal - 16 * g.taken) (omega arith) (omega arith))
