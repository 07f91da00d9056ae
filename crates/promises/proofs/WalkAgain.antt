-- H14 and H15 of docs/FORMAT.md. A walk over a backward ring, as a drain of just the bytes it walked: with head for its tail, and head plus the bytes walked for its head, a drain takes the
-- same records and leaves the same counts, journal and scratch. So with that head the reader of one record gives an entry's record by the entry's
-- count, under the conditions of Reread. Of any drain too: to its own end it takes the same records. Assumes nothing.
use Rattle.std.specs.Prelude.{◌≡◌, Bool, get_or}
use Rattle.std.proofs.Math.Path.{refl, ap}
use Rattle.std.proofs.Common.{sym, ap₂, ◌∙◌, subst, mod-lt, arith}
use mathlib.Core.List.{List, ◌∷◌}
use Rattle.std.proofs.Math.Bool.{true, false}
use Prim.Native.Nat.{ℕ, zero, suc, ◌+◌, ◌-◌, ◌*◌, ◌%◌, ◌^◌, ◌<◌, ◌≤◌}
use Rattle.std.proofs.Math.ListN.{length}
use Rattle.meaning.specs.declared.Attributes.{Attributes}
use Rattle.meaning.specs.declared.Event.{Event}
use Rattle.meaning.specs.States.{Frame}
use Rattle.meaning.specs.Bytes.{number_at}
use Rattle.meaning.specs.Editions.{editions, known}
use Rattle.meaning.specs.Records.{layout, judge}
use Rattle.meaning.specs.Ring.{Asked, asked_of, distance, go_at, frame, one_scratch}
use Rattle.meaning.specs.Drain.{State, End, start, run, drain}
use Rattle.meaning.specs.Events.{asked_events, judge_events, drain_events, one_events_scratch}
use Rattle.meaning.specs.Backward.{back_frame, walk_by, walk_back, walk_events}
use Rattle.one.specs.Told.{one_told}
use Rattle.event_one.specs.Told.{one_events_told}
use Rattle.laws.specs.Bytes.{apart}
use Rattle.laws.specs.Rows.{passed}
use Rattle.laws.specs.Rings.{stop_rows, frame-rows, goes-frame, going-length, distance-moved}
use Rattle.runs.specs.Cutting.{Cut, Spot, Cuts, begin, add, spot_frame, cut_at, spot_after, cut_by, cutting_by, total, nothing_cut, end_of}
use Rattle.runs.proofs.Runs.{cut-go, cut-stop, run-cut}
use Rattle.runs.proofs.Along.{Steps, along}
use Rattle.runs.proofs.Crossing.{lies_whole}
use Rattle.runs.proofs.Forward.{Kept, Shaped, frame-going, frame-roomy, frame-paid, frame-steps}
use Rattle.runs.specs.Scratches.{distance_self}
use Rattle.backward.specs.Promise.{walk_cuts}
use Rattle.backward.specs.Frames.{back-goes, back-roomy}
use Rattle.backward.proofs.Walks.{BackStands, stands-first, stands_on, walk-walks}
use Rattle.backward.proofs.Twin.{round_from, twin-there, twin-back}
use Rattle.promises.proofs.Reread.{Reread, entry-reread, event-entry-reread}

-- ---- two ways of cutting, alike: the same records, and the same spot at the end
abbrev pub Alike : Cuts → Cuts → Type 0
Alike w v = (w.records ≡ v.records) × (w.last ≡ v.last)

-- frames that go on alike at every spot that is kept, with so many left of the budget
module _ (f g : ℕ → ℕ → ℕ → ℕ → Frame) (ring : List ℕ) (Still : ℕ → Spot → Type 0)
    (there : (n : ℕ) (p : Spot) → Still n p → (spot_frame f n p).go ≡ true → spot_frame g n p ≡ spot_frame f n p)
    (back : (n : ℕ) (p : Spot) → Still n p → (spot_frame g n p).go ≡ true → (spot_frame f n p).go ≡ true)
    (on : (n : ℕ) (p : Spot) → Still (suc n) p → (spot_frame f (suc n) p).go ≡ true → Still n (spot_after ring p (spot_frame f (suc n) p))) where
  cuts-alike : (n : ℕ) (p : Spot) → Still n p → Alike (cut_by g ring n p) (cut_by f ring n p)
  unfolding cut_by
  cuts-alike zero p k = (refl, refl)
  cuts-alike (suc n) p k = by (spot_frame f (suc n) p).go refl (cuts-alike n (spot_after ring p (spot_frame f (suc n) p)))
    where
      stays : (b : Bool) → (spot_frame g (suc n) p).go ≡ b → (spot_frame f (suc n) p).go ≡ false → b ≡ false
      stays true e h = absurd (apart (sym h ∙ back (suc n) p k e))
      stays false e h = refl

      by : (b : Bool) → (spot_frame f (suc n) p).go ≡ b
          → (Still n (spot_after ring p (spot_frame f (suc n) p))
          → Alike (cut_by g ring n (spot_after ring p (spot_frame f (suc n) p))) (cut_by f ring n (spot_after ring p (spot_frame f (suc n) p))))
          → Alike (cut_by g ring (suc n) p) (cut_by f ring (suc n) p)
      by true e r =
          let x : Frame = spot_frame f (suc n) p in
          let q = there (suc n) p k e in
          let i = r (on n p k e) in
          let w : cut_by g ring (suc n) p ≡ add (cut_at ring p x) (cut_by g ring n (spot_after ring p x)) =
          cut-go g ring n p (ap (λ (y : Frame). y.go) q ∙ e) ∙ ap (λ (y : Frame). add (cut_at ring p y) (cut_by g ring n (spot_after ring p y))) q in
          let v = cut-go f ring n p e in (
            ap (λ (c : Cuts). c.records) w ∙ ap (λ (cs : List Cut). cut_at ring p x ∷ cs) i.0 ∙ sym (ap (λ (c : Cuts). c.records) v),
            ap (λ (c : Cuts). c.last) w ∙ i.1 ∙ sym (ap (λ (c : Cuts). c.last) v),
          )
      by false e r =
          let w = cut-stop g ring (suc n) p (stays (spot_frame g (suc n) p).go refl e) in
          let v = cut-stop f ring (suc n) p e in
          (ap (λ (c : Cuts). c.records) w ∙ sym (ap (λ (c : Cuts). c.records) v), ap (λ (c : Cuts). c.last) w ∙ sym (ap (λ (c : Cuts). c.last) v))

-- runs by two frames that cut alike end in the same state
runs_same : (f g : ℕ → ℕ → ℕ → ℕ → Frame) (judge : List ℕ → ℕ) (ring : List ℕ) (tail budget : ℕ) (journal scratch : List ℕ)
    → run f judge ring budget (start tail journal scratch) ≡ end_of judge (start tail journal scratch) (cut_by f ring budget (begin tail (length journal) scratch))
    → run g judge ring budget (start tail journal scratch) ≡ end_of judge (start tail journal scratch) (cut_by g ring budget (begin tail (length journal) scratch))
    → Alike (cut_by g ring budget (begin tail (length journal) scratch)) (cut_by f ring budget (begin tail (length journal) scratch))
    → (run g judge ring budget (start tail journal scratch)).state ≡ (run f judge ring budget (start tail journal scratch)).state
runs_same f g judge ring tail budget journal scratch p q a =
    ap (λ (x : End). x.state) q
    ∙ ap₂ (λ (cs : List Cut) (l : Spot). (end_of judge (start tail journal scratch) (record { records = cs; last = l; stop = 0 })).state) a.0 a.1
    ∙ sym (ap (λ (x : End). x.state) p)

-- ---- a drain to its own end
module _ (asked : Asked) (ring : List ℕ) (head : ℕ) (hd : head < 2 ^ 64) where
  abbrev cuts : ℕ → Spot → Cuts
  cuts n p = cut_by (frame asked ring head) ring n p

  -- with the tail a multiple of 8, as row 5 asks
  abbrev Even : ℕ → Spot → Type 0
  Even all p = Kept ring head all p × (p.tail % 8 ≡ 0)

  even-steps : (all : ℕ) → Steps ring (Even all) Shaped (frame asked ring head)
  even-steps all =
      let s = frame-steps asked ring head hd all in
      record {
        paid = s.paid;
        roomy = s.roomy;
        stops = s.stops;
        long = s.long;
        kept = λ n p k g. let w = frame-going asked ring head p.tail n p.room (length p.scratch) g in
            (s.kept n p k.0 g, omega (arith, k.1, w.size-eight));
        each = λ n p k g. s.each n p k.0 g;
      }

  -- the bytes up to that end: as many as the record has at least, a ring length at most
  record Reaches (n : ℕ) (p : Spot) : Type 0 where
    near : distance (cuts (suc n) p).last.tail p.tail ≤ length ring
    over : (spot_frame (frame asked ring head) (suc n) p).size ≤ distance (cuts (suc n) p).last.tail p.tail
    eights : (cuts (suc n) p).last.tail % 8 ≡ 0

  reaches : (n : ℕ) (p : Spot) → p.tail < 2 ^ 64 → (spot_frame (frame asked ring head) (suc n) p).go ≡ true → Reaches n p
  unfolding total
  reaches n p tl g =
      let x : Frame = spot_frame (frame asked ring head) (suc n) p in
      let w = frame-going asked ring head p.tail (suc n) p.room (length p.scratch) g in
      let all : ℕ = p.bytes + distance head p.tail in
      let a = along ring (Even all) Shaped (frame asked ring head) (even-steps all) (suc n) p tl ((tl, refl), w.tail-eights) in
      let last : Spot = (cuts (suc n) p).last in
      let rest : List Cut = (cut_by (frame asked ring head) ring n (spot_after ring p x)).records in
      let l = going-length asked ring head p.tail (suc n) p.room (length p.scratch) x w in
      let t : total (cuts (suc n) p).records ≡ length (cut_at ring p x).record-bytes + total rest = ap (λ (c : Cuts). total c.records) (cut-go (frame asked ring head) ring n p g) in
      let s = a.sum in
      let k = a.last.0.1 in
      let m : distance last.tail p.tail ≡ last.bytes - p.bytes =
      ap (λ (y : ℕ). distance y p.tail) a.new-tail ∙ distance-moved p.tail (last.bytes - p.bytes) tl (omega (arith, s, k, w.near, w.length_high)) in
      record {
        near = omega (arith, m, s, k, w.near);
        over = omega (arith, m, s, t, l);
        eights = a.last.1;
      }

  module _ (end : ℕ) where
    abbrev Still : ℕ → Spot → Type 0
    Still n p = (p.tail < 2 ^ 64) × ((cuts n p).last.tail ≡ end)

    same-frame : (n : ℕ) (p : Spot) → Still n p → (spot_frame (frame asked ring head) n p).go ≡ true → spot_frame (frame asked ring end) n p ≡ spot_frame (frame asked ring head) n p
    same-frame zero p k g = let b = frame-paid asked ring head p.tail 0 p.room (length p.scratch) g in absurd (omega (arith, b))
    same-frame (suc n) p k g =
        let x : Frame = spot_frame (frame asked ring head) (suc n) p in
        let w = frame-going asked ring head p.tail (suc n) p.room (length p.scratch) g in
        let r = reaches n p k.0 g in
        let q = k.1 in
        let d : distance (cuts (suc n) p).last.tail p.tail ≡ distance end p.tail = ap (λ (y : ℕ). distance y p.tail) q in
        let over : x.size ≤ distance end p.tail = subst (λ (m : ℕ). x.size ≤ m) d r.over in
        let a = (passed (stop_rows asked ring head p.tail (suc n) p.room (length p.scratch)) _ x g (frame-rows asked ring head p.tail (suc n) p.room (length p.scratch))).1 in
        goes-frame asked ring end p.tail (suc n) p.room (length p.scratch) x.size
        (record {
          beside = w.beside;
          allowed = w.allowed;
          near = subst (λ (m : ℕ). m ≤ length ring) d r.near;
          head-eights = ap (λ (y : ℕ). y % 8) (sym q) ∙ r.eights;
          tail-eights = w.tail-eights;
          unequal = λ (u : end ≡ p.tail). absurd (omega (arith, over, w.size_low, ap (λ (y : ℕ). distance y p.tail) u, distance_self p.tail k.0));
          budget = omega arith;
          entry = w.entry;
          size_is = w.size_is ∙ ap (λ (m : ℕ). number_at 2 ring (m + 6)) w.at;
          size_low = w.size_low;
          size-eight = w.size-eight;
          size-near = over;
          fits = λ (h : length ring < p.tail % length ring + x.size). w.fits (subst (λ (m : ℕ). length ring < m + x.size) (sym w.at) h);
        })
        ∙ ap (go_at (p.tail % length ring)) (ap (λ (y : Frame). y.size) a)
        ∙ sym a

    -- where the first stops, the second stands at its head
    goes-too : (n : ℕ) (p : Spot) → Still n p → (spot_frame (frame asked ring end) n p).go ≡ true → (spot_frame (frame asked ring head) n p).go ≡ true
    goes-too n p k g = by (spot_frame (frame asked ring head) n p).go refl
      where
        by : (b : Bool) → (spot_frame (frame asked ring head) n p).go ≡ b → b ≡ true
        by true e = refl
        by false e =
            let z : p.tail ≡ end = sym (ap (λ (c : Cuts). c.last.tail) (cut-stop (frame asked ring head) ring n p e)) ∙ k.1 in
            let w = frame-going asked ring end p.tail n p.room (length p.scratch) g in
            absurd (omega (arith, w.size_low, w.size-near, ap (λ (y : ℕ). distance y p.tail) (sym z), distance_self p.tail k.0))

    goes_on : (n : ℕ) (p : Spot) → Still (suc n) p → (spot_frame (frame asked ring head) (suc n) p).go ≡ true → Still n (spot_after ring p (spot_frame (frame asked ring head) (suc n) p))
    goes_on n p k g =
        (mod-lt (p.tail + (spot_frame (frame asked ring head) (suc n) p).size) {m = 2 ^ 64} (omega arith), sym (ap (λ (c : Cuts). c.last.tail) (cut-go (frame asked ring head) ring n p g)) ∙ k.1)

  -- the drain whose head is where this one ended
  pub to-its-end : (n : ℕ) (p : Spot) → p.tail < 2 ^ 64 → Alike (cut_by (frame asked ring (cuts n p).last.tail) ring n p) (cuts n p)
  to-its-end n p tl =
      let end : ℕ = (cuts n p).last.tail in
      cuts-alike (frame asked ring head) (frame asked ring end) ring (Still end) (same-frame end) (goes-too end) (goes_on end) n p (tl, refl)

-- ---- the walk: head plus the bytes walked
module _ (asked : Asked) (judge : List ℕ → ℕ) (ring : List ℕ) (head budget : ℕ) (journal scratch : List ℕ) (hd : head < 2 ^ 64) where
  abbrev walk : End
  walk = walk_by asked judge ring head budget journal scratch

  abbrev reached : ℕ
  reached = (head + walk.state.bytes) % 2 ^ 64

  abbrev first : Spot
  first = begin head (length journal) scratch

  -- a drain of one ring length cuts as the walk does
  round-cuts : Alike (cut_by (frame asked ring (round_from ring head)) ring budget first) (walk_cuts asked ring head budget (length journal) scratch)
  round-cuts =
      cuts-alike (back_frame asked ring head) (frame asked ring (round_from ring head)) ring (λ (n : ℕ) (p : Spot). BackStands ring head p.tail p.bytes)
      (λ n p k g. twin-there asked ring head p.tail p.bytes n p.room (length p.scratch) hd k g)
      (λ n p k g. twin-back asked ring head p.tail p.bytes n p.room (length p.scratch) hd k g)
      (λ n p k g. stands_on asked ring head p.tail p.bytes (suc n) p.room (length p.scratch) _ hd k (back-goes asked ring head p.tail (suc n) p.room (length p.scratch) g))
      budget first (stands-first ring head hd)

  -- and so does a drain of the bytes walked
  pub walk-cuts : Alike (cutting_by asked ring reached head budget (length journal) scratch) (walk_cuts asked ring head budget (length journal) scratch)
  walk-cuts =
      let w : Cuts = cut_by (frame asked ring (round_from ring head)) ring budget first in
      let r = round-cuts in
      let i = to-its-end asked ring (round_from ring head) (mod-lt (head + length ring) {m = 2 ^ 64} (omega arith)) budget first hd in
      let c = run-cut (back_frame asked ring head) (back-roomy asked ring head) ring head budget journal scratch judge in
      let q : w.last.tail ≡ reached =
      ap (λ (p : Spot). p.tail) r.1 ∙ sym (ap (λ (x : End). x.state.tail) c) ∙ (walk-walks asked judge ring head budget journal scratch hd).place in
      let j : Alike (cutting_by asked ring reached head budget (length journal) scratch) w =
      subst (λ (h : ℕ). Alike (cut_by (frame asked ring h) ring budget first) w) q i in
      (j.0 ∙ r.0, j.1 ∙ r.1)

  pub walk-drained : (run (frame asked ring reached) judge ring budget (start head journal scratch)).state ≡ walk.state
  walk-drained =
      runs_same (back_frame asked ring head) (frame asked ring reached) judge ring head budget journal scratch
      (run-cut (back_frame asked ring head) (back-roomy asked ring head) ring head budget journal scratch judge)
      (run-cut (frame asked ring reached) (frame-roomy asked ring reached) ring head budget journal scratch judge)
      walk-cuts

-- ---- with one attribute set
module _ (e : ℕ) (a : Attributes) (ring : List ℕ) (head budget : ℕ) (journal scratch : List ℕ) (hd : head < 2 ^ 64) where
  abbrev walked : End
  walked = walk_back editions e a ring head budget journal scratch

  -- head plus the bytes walked
  abbrev over : ℕ
  over = (head + walked.state.bytes) % 2 ^ 64

  abbrev record-at : ℕ → Cut
  record-at i = get_or (walk_cuts (asked_of editions e) ring head budget (length journal) scratch).records i nothing_cut

  -- the count in entry i, as C reads it there
  abbrev count_at : ℕ → ℕ
  count_at i = number_at 8 walked.state.journal (16 * i + 8)

  -- H14: a drain with head for its tail, and head plus the bytes walked for its head, takes the same records, and leaves the same
  pub walk-over-its-bytes : ((cutting_by (asked_of editions e) ring over head budget (length journal) scratch).records ≡ (walk_cuts (asked_of editions e) ring head budget (length journal) scratch).records)
      × ((drain editions e a ring over head budget journal scratch).state ≡ walked.state)
  walk-over-its-bytes = (
    (walk-cuts (asked_of editions e) (judge (layout (known editions e) a)) ring head budget journal scratch hd).0,
    walk-drained (asked_of editions e) (judge (layout (known editions e) a)) ring head budget journal scratch hd,
  )

  -- H15: with that head, the reader of one record gives an entry's record by the entry's count
  pub walk-entry-reread : (i : ℕ) → i < walked.state.taken → (lent words : List ℕ) → (lies_whole ring (record-at i) ≡ false → length (record-at i).record-bytes ≤ length lent)
      → Reread (record-at i).record-bytes walked.state.journal i ring (one_scratch editions e ring over (count_at i) lent) words (one_told editions e a ring over (count_at i) lent words)
  walk-entry-reread i h lent words =
      let w = walk-over-its-bytes in
      subst (λ (cs : List Cut). (lies_whole ring (get_or cs i nothing_cut) ≡ false → length (get_or cs i nothing_cut).record-bytes ≤ length lent)
      → Reread (get_or cs i nothing_cut).record-bytes walked.state.journal i ring (one_scratch editions e ring over (count_at i) lent) words (one_told editions e a ring over (count_at i) lent words))
      w.0
      (λ fits.
      subst (λ (s : State). Reread (get_or (cutting_by (asked_of editions e) ring over head budget (length journal) scratch).records i nothing_cut).record-bytes s.journal i ring
      (one_scratch editions e ring over (number_at 8 s.journal (16 * i + 8)) lent) words (one_told editions e a ring over (number_at 8 s.journal (16 * i + 8)) lent words))
      w.1
      (entry-reread e a ring over head budget journal scratch (mod-lt (head + walked.state.bytes) {m = 2 ^ 64} (omega arith)) hd i
      (subst (λ (s : State). i < s.taken) (sym w.1) h) lent words fits))

-- ---- with a table of events
module _ (limit e : ℕ) (es : List Event) (ring : List ℕ) (head budget : ℕ) (journal scratch : List ℕ) (hd : head < 2 ^ 64) where
  abbrev event_walked : End
  event_walked = walk_events limit editions e es ring head budget journal scratch

  abbrev event_over : ℕ
  event_over = (head + event_walked.state.bytes) % 2 ^ 64

  abbrev event_record_at : ℕ → Cut
  event_record_at i = get_or (walk_cuts (asked_events limit editions e es) ring head budget (length journal) scratch).records i nothing_cut

  abbrev event_count_at : ℕ → ℕ
  event_count_at i = number_at 8 event_walked.state.journal (16 * i + 8)

  pub walk-events-over-its-bytes : ((cutting_by (asked_events limit editions e es) ring event_over head budget (length journal) scratch).records
      ≡ (walk_cuts (asked_events limit editions e es) ring head budget (length journal) scratch).records)
      × ((drain_events limit editions e es ring event_over head budget journal scratch).state ≡ event_walked.state)
  walk-events-over-its-bytes = (
    (walk-cuts (asked_events limit editions e es) (judge_events (known editions e) es) ring head budget journal scratch hd).0,
    walk-drained (asked_events limit editions e es) (judge_events (known editions e) es) ring head budget journal scratch hd,
  )

  pub walk-event-entry-reread : (i : ℕ) → i < event_walked.state.taken → (lent words : List ℕ)
      → (lies_whole ring (event_record_at i) ≡ false → length (event_record_at i).record-bytes ≤ length lent)
      → Reread (event_record_at i).record-bytes event_walked.state.journal i ring (one_events_scratch limit editions e es ring event_over (event_count_at i) lent) words
      (one_events_told limit editions e es ring event_over (event_count_at i) lent words)
  walk-event-entry-reread i h lent words =
      let w = walk-events-over-its-bytes in
      subst (λ (cs : List Cut). (lies_whole ring (get_or cs i nothing_cut) ≡ false → length (get_or cs i nothing_cut).record-bytes ≤ length lent)
      → Reread (get_or cs i nothing_cut).record-bytes event_walked.state.journal i ring (one_events_scratch limit editions e es ring event_over (event_count_at i) lent) words
      (one_events_told limit editions e es ring event_over (event_count_at i) lent words))
      w.0
      (λ fits.
      subst (λ (s : State). Reread (get_or (cutting_by (asked_events limit editions e es) ring event_over head budget (length journal) scratch).records i nothing_cut).record-bytes s.journal i ring
      (one_events_scratch limit editions e es ring event_over (number_at 8 s.journal (16 * i + 8)) lent) words
      (one_events_told limit editions e es ring event_over (number_at 8 s.journal (16 * i + 8)) lent words))
      w.1
      (event-entry-reread limit e es ring event_over head budget journal scratch (mod-lt (head + event_walked.state.bytes) {m = 2 ^ 64} (omega arith)) hd i
      (subst (λ (s : State). i < s.taken) (sym w.1) h) lent words fits))
