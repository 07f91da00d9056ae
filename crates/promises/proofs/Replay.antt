-- M-106, "Replay of a recorded trace", in its own words, over what `ollskuvan_replay` tells and what is then in the slices that it was lent. `replay_events` is the
-- replay, and each count that is told a sum over its history (`standing`). Assumes nothing.
use Rattle.entries.specs.Entries.{Entry}
use Rattle.std.specs.Prelude.{◌≡◌, List, [], ◌++◌, Bool, cond, ◌&&◌, ◌||◌, ℕ, suc, ◌+◌, ◌-◌, ◌%◌, ◌^◌, ◌<◌, ◌≤◌, leb, eqb, length, get_or, take, drop}
use Rattle.std.proofs.Math.Path.{refl, ap}
use Rattle.std.proofs.Common.{sym, ◌∙◌, subst, arith, le-leb, eq-eqb, length-append}
use Rattle.std.proofs.Math.Bool.{true, false}
use Rattle.std.proofs.lemmas.Bool.{lt-leb}
use Rattle.std.proofs.Math.ListN.{take-append-drop}
use Rattle.meaning.specs.declared.Event.{Event}
use Rattle.meaning.specs.declared.Known.{Known}
use Rattle.meaning.specs.Bytes.{put}
use Rattle.meaning.specs.Editions.{known}
use Rattle.meaning.specs.Ring.{Asked, asking, length_allowed, frame}
use Rattle.meaning.specs.Drain.{End}
use Rattle.meaning.specs.Events.{asked_events, judge_events, drain_events}
use Rattle.runs.specs.Cutting.{Cut, begin, entries, All, nothing_cut}
use Rattle.runs.proofs.Streams.{joined}
use Rattle.runs.specs.Scratches.{distance_self}
use Rattle.runs.proofs.Runs.{run-cut}
use Rattle.runs.proofs.Forward.{Counted, run-counted, frame-roomy}
use Rattle.settings.specs.Versions.{versions}
use Rattle.settings.specs.Reading.{is_event_of, fits}
use Rattle.promises.proofs.Scratch.{lies_whole, drain-all-whole, drain-copied, put_holds}
use Rattle.replay.specs.Replay.{Bench, bench, sum, records_in, records_out, held, put_round, free, goes_in, goes_by, offer, journal_left, drain_of, bench_cuts, drains_off, fault_at, Played, played, play, before, replay, half, of_store, standing, replay_told, rooms_of, replay_events}
use Rattle.replay.specs.Drains.{bytes_of}
use Rattle.replay.proofs.Along.{BenchHolds, holds-start, holds-play}
use Rattle.replay.specs.Queue.{took}
use Rattle.replay.proofs.Promises.{Point, at-every-point, comes-out-the-same, Stopped, drain-stops, why, drain-why, drain-takes, ends-before-fault, refused-before, read-to-end}
use Rattle.replay.proofs.Unseen.{Same, ring-unseen}
use Rattle.replay.specs.Steps.{begun}
use Rattle.replay.proofs.Shows.{taken-sum}
use Rattle.replay.proofs.Playing.{Passes, passes, ring-half, half_twice}

module _ (limit : ℕ) (rows : List Known) (e : ℕ) (es : List Event) where
  abbrev asked : Asked
  asked = asked_events limit rows e es

  abbrev judge : List ℕ → ℕ
  judge = judge_events (known rows e) es

  module _ (xs : List ℕ) (count : ℕ) (rooms journal : List ℕ) (fits : count < 2 ^ 64) where
    abbrev h : ℕ
    h = half (length rooms)

    abbrev first_bench : Bench
    first_bench = bench (take h rooms) count (drop h rooms) journal

    abbrev end : Played
    end = replay_events limit rows e es xs count rooms journal

    abbrev refused : ℕ
    refused = before asked (length (take h rooms)) count

    -- "1, 2, 5 or 11 come before any entry": counts 0, head and tail the start, both slices unchanged
    pub refused-told : (refused ≡ 0 → ⊥) → (replay_told end ≡ begun count refused) × ((rooms_of end ≡ rooms) × (end.now.journal ≡ journal))
    unfolding sum
    refused-told f =
        let z : end ≡ played first_bench 0 refused = refused-before of_store asked judge xs (take h rooms) count (drop h rooms) journal f in
        let d : replay_told (played first_bench 0 refused) ≡ begun count refused =
        ap (λ (m : ℕ). record {
          entries = 0;
          offered_bytes = 0;
          drained_bytes = 0;
          dropped_bytes = 0;
          held_bytes = m;
          taken = 0;
          dropped = 0;
          head = count;
          tail = count;
          answer = refused;
        }) (distance_self count fits) in
        (ap replay_told z ∙ d, (ap rooms_of z ∙ take-append-drop h rooms, ap (λ (p : Played). p.now.journal) z))

    -- past them: what holds before the first entry, and is kept by each
    module _ (ok : refused ≡ 0) where
      passed : Passes asked (length (take h rooms)) count
      passed = passes asked (length (take h rooms)) count ok

      halves : length (take h rooms) ≤ length (drop h rooms)
      halves =
          let l = ring-half rooms in
          let t = half_twice (length rooms) (subst (λ (k : ℕ). length_allowed k ≡ true) l passed.allowed) in
          let s : length (take h rooms) + length (drop h rooms) ≡ length rooms = sym (length-append (take h rooms) (drop h rooms)) ∙ ap length (take-append-drop h rooms) in
          omega (arith, l, t, s)

      abbrev pub after : ℕ → Played
      after n = play of_store asked judge xs n 0 first_bench

      pub after-all : end ≡ after (length xs)
      unfolding replay
      after-all = simp (eq-eqb refused 0 ok)

      -- "At every point": after n entries, for every n
      pub every-point : (n : ℕ) → Point judge journal (after n).now
      every-point n = at-every-point of_store asked judge xs (take h rooms) count (drop h rooms) journal passed.allowed fits passed.eight halves n

      every_holds : (n : ℕ) → BenchHolds judge journal (after n).now
      every_holds n =
          holds-play of_store asked judge xs journal n 0 first_bench (holds-start judge journal (take h rooms) count (drop h rooms) passed.allowed fits passed.eight halves)

      -- "the bytes offered equal the bytes drained, dropped and still in the ring, each told from the history": the three are sums over it, and still in the
      -- ring are the records that went in and did not come out, end to end
      pub told_at : (n : ℕ) → let b = (after n).now in
          ((standing b 0).offered_bytes ≡ (standing b 0).drained_bytes + (standing b 0).dropped_bytes + (standing b 0).held_bytes)
          × ((standing b 0).held_bytes ≡ length (joined (drop (length (records_out b.history)) (records_in b.history))))
      told_at n =
          let p = every-point n in
          (omega (arith, p.balance, p.held-length), sym p.held-length ∙ ap length p.still-in)

      -- a record that went in comes out as the same bytes, the i-th as the i-th
      pub same_bytes : (n i : ℕ) → i < length (records_out (after n).now.history)
          → get_or (bytes_of (records_out (after n).now.history)) i [] ≡ get_or (records_in (after n).now.history) i []
      same_bytes n i g = comes-out-the-same judge journal (after n).now (every-point n) i g

      -- what the ring holds between tail and head is the other records that went in, in order
      pub ring-holds : (n : ℕ) → held (after n).now ≡ joined (drop (length (records_out (after n).now.history)) (records_in (after n).now.history))
      ring-holds n = (every-point n).still-in

      -- "one journal runs on over all drains": their entries one after the other, as many as records were taken, and the rest as it was lent
      pub one-journal : (n : ℕ) → ((after n).now.journal ≡ put journal 0 (entries judge (records_out (after n).now.history)))
          × ((standing (after n).now 0).taken ≡ length (records_out (after n).now.history))
      one-journal n = ((every-point n).journal-is, taken-sum (after n).now.history)

      -- "a drain's own stop ends only that drain": it stops with 0, 8 or 9, and is no answer of the replay; what it takes, and why it stops, is told by the history
      pub a-drain-stops : (n budget : ℕ) → Stopped (asking true) judge (after n).now budget
      a-drain-stops n budget = drain-stops judge journal (after n).now (every_holds n) budget

      pub a-drain-takes : (n budget : ℕ) → let b = (after n).now in
          (bench_cuts (asking true) b budget).records ≡ took budget b.tail (length (journal_left b)) (drop (length (records_out b.history)) (records_in b.history))
      a-drain-takes n budget = drain-takes judge journal (after n).now (every_holds n) budget

      pub a-drain-why : (n budget : ℕ) → let b = (after n).now in
          (drain_of (asking true) judge b budget).stop
          ≡ why (budget - length (bench_cuts (asking true) b budget).records) (drop (length (records_out b.history ++ (bench_cuts (asking true) b budget).records)) (records_in b.history))
      a-drain-why n budget = drain-why judge journal (after n).now (every_holds n) budget

      -- there edition and table were passed
      pub asked-passed : asked ≡ asking true
      asked-passed = passed.is

      -- it is the drain with a table, on the journal's rest, with all that is promised of it
      pub a-drain-is : (b : Bench) (budget : ℕ) → drain_of asked judge b budget ≡ drain_events limit rows e es b.ring b.head b.tail budget (journal_left b) b.scratch
      a-drain-is b budget = refl

      pub a-drain-counts : (n budget : ℕ) → let b = (after n).now in
          Counted asked b.ring b.head b.tail budget (journal_left b) b.scratch (bench_cuts asked b budget) (drain_of asked judge b budget)
      a-drain-counts n budget =
          let b : Bench = (after n).now in
          run-counted asked judge b.ring b.head b.tail budget (journal_left b) b.scratch (every_holds n).head-fits (every_holds n).tail-fits

      -- "A faulty trace entry .. and the replay ends with the state before it"
      pub faulty-ends : (n at : ℕ) (b : Bench) → at < length xs → (fault_at of_store xs at ≡ 0 → ⊥)
          → play of_store asked judge xs (suc n) at b ≡ played b at (fault_at of_store xs at)
      faulty-ends n at b g f = ends-before-fault of_store asked judge xs n at b g f

      -- answer 0: the trace was read to its end
      pub zero-ends : (replay_told end).answer ≡ 0 → length xs ≤ end.at
      zero-ends z =
          subst (λ (p : Played). length xs ≤ p.at) (sym after-all)
          (read-to-end of_store asked judge xs (length xs) 0 first_bench (omega arith) (ap (λ (p : Played). p.answer) (sym after-all) ∙ z))

      -- what is told at the end: the sum, and no byte that is not in the history
      pub told-end : (replay_told end).offered_bytes ≡ (replay_told end).drained_bytes + (replay_told end).dropped_bytes + (replay_told end).held_bytes
      told-end = subst (λ (p : Played). (replay_told p).offered_bytes ≡ (replay_told p).drained_bytes + (replay_told p).dropped_bytes + (replay_told p).held_bytes) (sym after-all) (told_at (length xs)).0

      -- what the ring held before does not show, nor what the scratch held
      pub unseen : (other : List ℕ) → length other ≡ length rooms → (n : ℕ)
          → Same (after n) (play of_store asked judge xs n 0 (bench (take (half (length other)) other) count (drop (half (length other)) other) journal))
      unseen other l n =
          let k : ℕ = half (length other) in
          let a = ring-half rooms in
          let b = ring-half other in
          let q : h ≡ k = ap half (sym l) in
          let s : length (take k other) + length (drop k other) ≡ length other = sym (length-append (take k other) (drop k other)) ∙ ap length (take-append-drop k other) in
          let t : length (take h rooms) + length (drop h rooms) ≡ length rooms = sym (length-append (take h rooms) (drop h rooms)) ∙ ap length (take-append-drop h rooms) in
          subst (λ (x : Asked). Same (play of_store x judge xs n 0 first_bench) (play of_store x judge xs n 0 (bench (take k other) count (drop k other) journal))) (sym passed.is)
          (ring-unseen of_store judge xs (take h rooms) (take k other) count (drop h rooms) (drop k other) journal (omega (arith, a, b, q)) passed.allowed fits passed.eight halves
          (omega (arith, a, b, q, s, t, l, halves)) n)

-- ---- effects on what was lent: an offer writes into the ring alone, a drain into scratch and journal

module _ (asked : Asked) (judge : List ℕ → ℕ) (b : Bench) where
  -- a record that went in lies where it was put, going round the ring's end; one that was dropped lies nowhere
  pub offer-writes : (r : List ℕ) → length r ≤ free b → (offer b r).ring ≡ put_round b.ring (b.head % length b.ring) r
  unfolding offer
  offer-writes r h = simp (le-leb (length r) (free b) h)

  pub drop-writes-nothing : (r : List ℕ) → free b < length r → (offer b r).ring ≡ b.ring
  unfolding offer
  drop-writes-nothing r h = simp (lt-leb (length r) (free b) h)

  pub offer-leaves : (r : List ℕ) → ((offer b r).scratch ≡ b.scratch) × ((offer b r).journal ≡ b.journal)
  unfolding offer
  offer-leaves r = by (leb (length r) (free b))
    where
      by : (t : Bool) → ((cond t (goes_in b r) (goes_by b r)).scratch ≡ b.scratch) × ((cond t (goes_in b r) (goes_by b r)).journal ≡ b.journal)
      by true = (refl, refl)
      by false = (refl, refl)

  pub drain-leaves : (budget : ℕ) → (drains_off asked judge b budget).ring ≡ b.ring
  unfolding drains_off
  drain-leaves budget = refl

  -- the scratch begins with the record that was copied: of a drain's records at most one crosses the ring's end
  module _ (budget : ℕ) (hd : b.head < 2 ^ 64) (tl : b.tail < 2 ^ 64) where
    abbrev bytes-at : ℕ → List ℕ
    bytes-at i = (get_or (bench_cuts asked b budget).records i nothing_cut).record-bytes

    scratch-is : (drain_of asked judge b budget).state.scratch ≡ (bench_cuts asked b budget).last.scratch
    scratch-is =
        ap (λ (x : End). x.state.scratch)
        (run-cut (frame asked b.ring b.head) (frame-roomy asked b.ring b.head) b.ring b.tail budget (journal_left b) b.scratch judge)

    pub drain-copies : (i : ℕ) → i < length (bench_cuts asked b budget).records → lies_whole b.ring (get_or (bench_cuts asked b budget).records i nothing_cut) ≡ false
        → (take (length (bytes-at i)) (drains_off asked judge b budget).scratch ≡ bytes-at i)
        × (drop (length (bytes-at i)) (drains_off asked judge b budget).scratch ≡ drop (length (bytes-at i)) b.scratch)
    unfolding drains_off
    drain-copies i g w =
        let k = drain-copied asked b.ring b.head hd budget (begin b.tail (length (journal_left b)) b.scratch) tl i g w in
        rw (scratch-is ∙ k.0) (put_holds b.scratch (bytes-at i) (length (bytes-at i)) refl k.1)

    pub drain-copies-none : All (λ (c : Cut). lies_whole b.ring c ≡ true) (bench_cuts asked b budget).records → (drains_off asked judge b budget).scratch ≡ b.scratch
    unfolding drains_off
    drain-copies-none w = scratch-is ∙ drain-all-whole asked b.ring b.head hd budget (begin b.tail (length (journal_left b)) b.scratch) w

-- ---- the kinds of a store that are out of place in a trace are those that a store's reader knows, of both versions (M-112)

spread : (k a b : Bool) → (k && (a || b)) ≡ ((k && a) || ((k && b) || false))
spread false a b = refl
spread true true b = refl
spread true false true = refl
spread true false false = refl

pub of-store-fits : (e : Entry) → e.whole ≡ true → of_store e ≡ fits versions e
unfolding fits is_event_of
of-store-fits e h =
    rw h
    (ap (λ (b : Bool). (eqb e.kind 1 && eqb e.length 2) || (b || (eqb e.kind 3 && eqb e.length 13)))
    (spread (eqb e.kind 2) (eqb e.length 49) (eqb e.length 50)))
