-- M-100's answers of a record, as rows in its order: 20; edition 1's 21; 27 and 26; "then the event's own checks from 21 on". In words they are in EventAnswers.
-- And what stands in a journal: the answer in each entry of a drain with a table, of a walk and of a replay is what record check with that table says of the
-- record's bytes, but for 44, which is 0 there. Assumes nothing.
use Rattle.std.specs.Prelude.{◌≡◌, Bool, cond, not, ◌&&◌, leb, length, get_or, drop}
use Rattle.std.proofs.Math.Path.{refl, ap, subst}
use Rattle.std.proofs.Common.{sym, ◌∙◌, arith}
use mathlib.Core.List.{List, [], ◌∷◌, ◌++◌, append-nil}
use Rattle.std.proofs.Math.Bool.{true, false}
use Prim.Native.Nat.{ℕ, zero, suc, ◌+◌, ◌*◌, ◌^◌, ◌<◌}
use borrow.Author.Tests.{eqb-true, eqb-false, not-false}
use Rattle.std.proofs.Math.Dec.{eqb}
use Rattle.std.proofs.Math.ListN.{take}
use Rattle.meaning.specs.declared.Event.{Event}
use Rattle.meaning.specs.States.{Frame}
use Rattle.meaning.specs.declared.Known.{Known}
use Rattle.meaning.specs.Bytes.{number_at}
use Rattle.meaning.specs.Refusals.{Refusal, first}
use Rattle.meaning.specs.Editions.{editions, known, allowed}
use Rattle.meaning.specs.Records.{kind_of, judge, flag_of}
use Rattle.meaning.specs.Events.{attributes_of, event_for, sound, gate, eventless, layout_for, judge_events, asked_events, drain_events, check_events, record_check_events}
use Rattle.meaning.specs.Ring.{Asked, frame}
use Rattle.meaning.specs.Drain.{End, entry_for}
use Rattle.meaning.specs.Backward.{back_frame, walk_events}
use Rattle.laws.proofs.Refused.{going-sound}
use Rattle.laws.specs.Inspected.{asked-own}
use Rattle.runs.specs.Cutting.{Cut, cutting_by, nothing_cut, framed, All}
use Rattle.runs.proofs.Entries.{journal-entry, all-at}
use Rattle.runs.proofs.Streams.{AllFramed, all-framed-snoc}
use Rattle.runs.proofs.Forward.{frame-going}
use Rattle.backward.specs.Promise.{walk_cuts}
use Rattle.backward.specs.Frames.{back-goes}
use Rattle.editions.proofs.Demand3.{answer-in}
use Rattle.editions.proofs.EventRecord.{event-small}
use Rattle.entries.specs.Entries.{Entry, entry_at}
use Rattle.replay.specs.declared.Replayed.{Replayed}
use Rattle.replay.specs.Replay.{Happened, went_in, was_dropped, drained, Bench, bench, records_in, records_out, free, goes_in, goes_by, offer, drain_of, bench_cuts, drains_off, body_of, is_offer, fault_at, effect, Played, played, play, before, half, of_store, replay_told, replay_events}
use Rattle.replay.specs.Drains.{bytes_of}
use Rattle.replay.proofs.Along.{in-append, no-fault}
use Rattle.promises.specs.Checked.{record_rows}
use Rattle.promises.proofs.Checked.{judge-rows, foremost, first-exactly}
use Rattle.promises.proofs.Inspected.{check-events-44}
use Rattle.promises.proofs.EventReads.{framed-asked}
use Rattle.promises.proofs.Events.{drain-events-counts, drain-events-entry}
use Rattle.promises.proofs.EventDrains.{drain-events-stop-leaves}
use Rattle.promises.proofs.Replay.{refused-told, after-all, every-point, one-journal, asked-passed}
use Rattle.promises.proofs.Backward.{walk-stop-leaves, walk-events-promised}

-- ---- the rows in the order checked

module _ (k : Known) (es : List Event) (r : List ℕ) where
  -- 20; 21 by the edition; 27; 26; and the rows of the event's attributes, of which 20 was asked before
  abbrev pub event_rows : List Refusal
  event_rows = gate k (kind_of r) ++ (eventless es r ++ record_rows k (attributes_of (event_for es r)) r)

  judge-events-rows : judge_events k es r ≡ first event_rows 0
  unfolding judge_events first
  judge-events-rows = ap (λ (n : ℕ). first (gate k (kind_of r)) (first (eventless es r) n)) (judge-rows k (attributes_of (event_for es r)) r)

  -- a number is given exactly when its row holds and no row before it does
  pub judge-events-exactly : (n : ℕ) → 0 < n → (judge_events k es r ≡ n → foremost n event_rows ≡ true) × (foremost n event_rows ≡ true → judge_events k es r ≡ n)
  judge-events-exactly n p =
      let x = first-exactly n p event_rows in
      (λ h. x.0 (sym judge-events-rows ∙ h), λ h. judge-events-rows ∙ x.1 h)

-- ---- the entries of a journal

module _ (limit e : ℕ) (es : List Event) where
  -- record check with a table answers 44 in the place of 0 alone: `check_events` is its answer without that
  pub check-without-44 : (xs : List ℕ)
      → ((record_check_events limit editions e es xs).answer ≡ 44 → check_events limit editions e es xs ≡ 0)
      × (((record_check_events limit editions e es xs).answer ≡ 44 → ⊥) → check_events limit editions e es xs ≡ (record_check_events limit editions e es xs).answer)
  unfolding record_check_events
  check-without-44 xs = (λ h. ((check-events-44 limit e es xs).0 h).0, by (eqb n 0) (eqb f 0) refl)
    where
      n : ℕ
      n = check_events limit editions e es xs

      f : ℕ
      f = flag_of (layout_for (known editions e) es xs) xs

      by : (t u : Bool) → eqb n 0 ≡ t → (cond t (cond u 0 44) n ≡ 44 → ⊥) → n ≡ cond t (cond u 0 44) n
      by true true q h = eqb-true n 0 q
      by true false q h = absurd (h refl)
      by false u q h = refl

  -- a record that was taken is looked at: what it is answered is what record check says of its bytes
  taken-checks : (r : List ℕ) → allowed editions e ≡ true → sound limit es ≡ true → framed r ≡ true → judge_events (known editions e) es r ≡ check_events limit editions e es r
  taken-checks r ok t f = sym (asked-own limit editions e es r (framed-asked limit editions e es r ok t f)).0

  -- an entry of a list of records that were put into a journal
  entry-checks : (journal : List ℕ) (cs : List Cut) (i : ℕ) → i < length cs → All (λ (c : Cut). framed c.record-bytes ≡ true) cs → allowed editions e ≡ true → sound limit es ≡ true
      → take 16 (drop (16 * i) journal) ≡ entry_for (judge_events (known editions e) es) (get_or cs i nothing_cut).record-bytes (get_or cs i nothing_cut).tail
      → number_at 2 journal (16 * i + 6) ≡ check_events limit editions e es (get_or cs i nothing_cut).record-bytes
  entry-checks journal cs i h shaped ok t q =
      let r : List ℕ = (get_or cs i nothing_cut).record-bytes in
      answer-in (judge_events (known editions e) es) journal r i (get_or cs i nothing_cut).tail (event-small (known editions e) es r) q
      ∙ taken-checks r ok t (all-at (λ (c : Cut). framed c.record-bytes ≡ true) cs i shaped h)

  -- the drain. Where a record is taken, the edition is one and the table is sound
  module _ (ring : List ℕ) (head tail budget : ℕ) (journal scratch : List ℕ) (hd : head < 2 ^ 64) (tl : tail < 2 ^ 64) where
    abbrev drain_end : End
    drain_end = drain_events limit editions e es ring head tail budget journal scratch

    abbrev drain_records : List Cut
    drain_records = (cutting_by (asked_events limit editions e es) ring head tail budget (length journal) scratch).records

    drain-asks : 0 < drain_end.state.taken → (allowed editions e ≡ true) × (sound limit es ≡ true)
    drain-asks h = by next.go refl
      where
        next : Frame
        next = frame (asked_events limit editions e es) ring head tail budget (length journal) (length scratch)

        by : (b : Bool) → next.go ≡ b → (allowed editions e ≡ true) × (sound limit es ≡ true)
        by true g = (
          (frame-going (asked_events limit editions e es) ring head tail budget (length journal) (length scratch) g).edition,
          going-sound (asked_events limit editions e es) ring head tail budget (length journal) (length scratch) g,
        )
        by false g = absurd (omega (arith, h, (drain-events-stop-leaves limit e es ring head tail budget journal scratch g).0))

    pub drain-events-checks : (i : ℕ) → i < drain_end.state.taken
        → number_at 2 drain_end.state.journal (16 * i + 6) ≡ check_events limit editions e es (get_or drain_records i nothing_cut).record-bytes
    drain-events-checks i h =
        let c = drain-events-counts limit e es ring head tail budget journal scratch hd tl in
        let a = drain-asks (omega (arith, h)) in
        entry-checks drain_end.state.journal drain_records i (omega (arith, h, c.count)) c.shaped a.0 a.1 (drain-events-entry limit e es ring head tail budget journal scratch i h)

  -- the walk over a backward ring
  module _ (ring : List ℕ) (head budget : ℕ) (journal scratch : List ℕ) (hd : head < 2 ^ 64) where
    abbrev walked : End
    walked = walk_events limit editions e es ring head budget journal scratch

    abbrev walk_records : List Cut
    walk_records = (walk_cuts (asked_events limit editions e es) ring head budget (length journal) scratch).records

    walk-asks : 0 < walked.state.taken → (allowed editions e ≡ true) × (sound limit es ≡ true)
    walk-asks h = by next.go refl
      where
        next : Frame
        next = back_frame (asked_events limit editions e es) ring head head budget (length journal) (length scratch)

        by : (b : Bool) → next.go ≡ b → (allowed editions e ≡ true) × (sound limit es ≡ true)
        by true g = let w = back-goes (asked_events limit editions e es) ring head head budget (length journal) (length scratch) g in (w.edition, w.table)
        by false g =
            absurd (omega (arith, h, (walk-stop-leaves (asked_events limit editions e es) (judge_events (known editions e) es) ring head budget journal scratch g).0))

    pub walk-events-checks : (i : ℕ) → i < walked.state.taken
        → number_at 2 walked.state.journal (16 * i + 6) ≡ check_events limit editions e es (get_or walk_records i nothing_cut).record-bytes
    walk-events-checks i h =
        let w = walk-events-promised limit e es ring head budget journal scratch hd in
        let c = w.counted in
        let a = walk-asks (omega (arith, h)) in
        entry-checks walked.state.journal walk_records i (omega (arith, h, c.count)) c.shaped a.0 a.1 (w.entry i h)

-- ---- the replay: its one journal has the entries of all its drains. What goes into its ring is one record by its header, so what comes out is

in-framed : (asked : Asked) (judge : List ℕ → ℕ) (xs : List ℕ) (n at : ℕ) (b : Bench) → AllFramed (records_in b.history)
    → AllFramed (records_in (play of_store asked judge xs n at b).now.history)
unfolding play effect offer drains_off records_in
in-framed asked judge xs zero at b h = h
in-framed asked judge xs (suc n) at b h = by (leb (length xs) at) (eqb (fault_at of_store xs at) 0) refl (in-framed asked judge xs n (at + (6 + e.length)) next)
  where
    e : Entry
    e = entry_at xs at

    next : Bench
    next = effect asked judge xs e b

    same : (x : Happened) → records_in (x ∷ []) ≡ [] → AllFramed (records_in (b.history ++ (x ∷ [])))
    same x q = subst AllFramed (sym (in-append b.history (x ∷ []) ∙ ap (λ (l : List (List ℕ)). records_in b.history ++ l) q ∙ append-nil (records_in b.history))) h

    goes : fault_at of_store xs at ≡ 0 → AllFramed (records_in next.history)
    goes f = kind (is_offer e) refl
      where
        r : List ℕ
        r = body_of xs e

        fits : (t : Bool) → framed r ≡ true → AllFramed (records_in (cond t (goes_in b r) (goes_by b r)).history)
        fits true g = subst AllFramed (sym (in-append b.history (went_in r ∷ []))) (all-framed-snoc (records_in b.history) r h g)
        fits false g = same (was_dropped r) refl

        kind : (t : Bool) → is_offer e ≡ t → AllFramed (records_in (cond t (offer b r) (drains_off asked judge b (number_at 4 xs e.body))).history)
        kind true o = fits (leb (length r) (free b)) (not-false (framed r) (sym (ap (λ (t : Bool). t && not (framed r)) o) ∙ (no-fault of_store xs at f).1.0))
        kind false o = same (drained (bench_cuts asked b (number_at 4 xs e.body)).records (drain_of asked judge b (number_at 4 xs e.body)).stop) refl

    by : (t u : Bool) → eqb (fault_at of_store xs at) 0 ≡ u
        → (AllFramed (records_in next.history) → AllFramed (records_in (play of_store asked judge xs n (at + (6 + e.length)) next).now.history))
        → AllFramed (records_in (cond t (played b at 0) (cond u (play of_store asked judge xs n (at + (6 + e.length)) next) (played b at (fault_at of_store xs at)))).now.history)
    by true u q rest = h
    by false false q rest = h
    by false true q rest = rest (goes (eqb-true (fault_at of_store xs at) 0 q))

take-framed : (n : ℕ) (rs : List (List ℕ)) → AllFramed rs → AllFramed (take n rs)
take-framed zero rs a = tt
take-framed (suc n) [] a = tt
take-framed (suc n) (r ∷ rs) a = (a.0, take-framed n rs a.1)

cuts-framed : (cs : List Cut) → AllFramed (bytes_of cs) → All (λ (c : Cut). framed c.record-bytes ≡ true) cs
cuts-framed [] a = tt
cuts-framed (c ∷ cs) a = (a.0, cuts-framed cs a.1)

module _ (limit e : ℕ) (es : List Event) (xs : List ℕ) (count : ℕ) (rooms journal : List ℕ) (fits : count < 2 ^ 64) where
  abbrev replayed : Played
  replayed = replay_events limit editions e es xs count rooms journal

  abbrev asked-events : Asked
  asked-events = asked_events limit editions e es

  abbrev judges : List ℕ → ℕ
  judges = judge_events (known editions e) es

  abbrev call : ℕ
  call = before asked-events (length (take (half (length rooms)) rooms)) count

  abbrev Checks : Played → Type 0
  Checks p = (i : ℕ) → i < (replay_told p).taken → number_at 2 p.now.journal (16 * i + 6) ≡ check_events limit editions e es (get_or (records_out p.now.history) i nothing_cut).record-bytes

  pub replay-checks : Checks replayed
  unfolding records_in
  replay-checks = by (eqb call 0) refl
    where
      by : (b : Bool) → eqb call 0 ≡ b → Checks replayed
      by true q =
          let ok : call ≡ 0 = eqb-true call 0 q in
          let ring : List ℕ = take (half (length rooms)) rooms in
          let first_bench : Bench = bench ring count (drop (half (length rooms)) rooms) journal in
          let p : Played = play of_store asked-events judges xs (length xs) 0 first_bench in
          let out : List Cut = records_out p.now.history in
          let w = every-point limit editions e es xs count rooms journal fits ok (length xs) in
          let j = one-journal limit editions e es xs count rooms journal fits ok (length xs) in
          let a = asked-passed limit editions e es xs count rooms journal fits ok in
          let shaped = cuts-framed out
          (subst AllFramed (sym w.come-out) (take-framed (length out) (records_in p.now.history) (in-framed asked-events judges xs (length xs) 0 first_bench tt))) in
          subst Checks (sym (after-all limit editions e es xs count rooms journal fits ok))
          (λ i g. entry-checks limit e es p.now.journal out i (omega (arith, g, j.1)) shaped (ap (λ (x : Asked). x.edition) a) (ap (λ (x : Asked). x.table) a)
          (ap (λ (l : List ℕ). take 16 (drop (16 * i) l)) w.journal-is ∙ journal-entry judges out journal w.journal-room i nothing_cut (omega (arith, g, j.1))))
      by false q =
          let t = (refused-told limit editions e es xs count rooms journal fits (eqb-false call 0 q)).0 in
          λ i h. absurd (omega (arith, h, ap (λ (x : Replayed). x.taken) t))
