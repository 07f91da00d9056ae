-- M-106, the history and the trace: what `ollskuvan_replay` tells "from the history" is told of the trace's entries. After n entries the history has one event for each of
-- them in their order: an offer of its body for "kind 16 offers one record", a drain for "kind 17 drains". And "An offered record .. otherwise is dropped and
-- counted": by one, and by its size. Assumes nothing.
use Rattle.std.specs.Prelude.{◌≡◌, Bool, cond, ◌||◌, ◌⊎◌, leb, eqb, length, take, drop}
use Rattle.std.proofs.Math.Path.{refl, sym}
use Rattle.std.proofs.Common.{ap, ◌∙◌, subst, inl, inr, arith, length-append}
use mathlib.Core.List.{List, [], ◌∷◌, ◌++◌, append-nil, append_assoc, map, map-append}
use Rattle.std.proofs.Math.Bool.{true, false}
use Prim.Native.Nat.{ℕ, zero, suc, ◌+◌, ◌^◌, ◌<◌, ◌≤◌}
use borrow.Author.Tests.{le-leb, lt-leb, eq-eqb, eqb-true, not-false}
use Rattle.std.proofs.lemmas.List.{length-map}
use Rattle.meaning.specs.declared.Event.{Event}
use Rattle.meaning.specs.declared.Known.{Known}
use Rattle.meaning.specs.Bytes.{number_at}
use Rattle.meaning.specs.Editions.{known}
use Rattle.meaning.specs.Ring.{Asked}
use Rattle.meaning.specs.Events.{asked_events, judge_events}
use Rattle.laws.specs.Bytes.{apart}
use Rattle.runs.proofs.Streams.{joined}
use Rattle.entries.specs.Entries.{Entry, entry_at}
use Rattle.replay.specs.declared.Replayed.{Replayed}
use Rattle.replay.specs.Replay.{Happened, went_in, was_dropped, drained, Bench, bench, offered_by, sum, free, goes_in, goes_by, offer, drains_off, body_of, is_offer, is_drain, fault_at, effect, Played, played, play, before, half, of_store, standing, replay_told, replay_events}
use Rattle.replay.proofs.Along.{no-fault}
use Rattle.replay.specs.Steps.{count_in, count_by, lent, offered}
use Rattle.replay.proofs.Shows.{shows-offer}
use Rattle.promises.proofs.Replay.{after-all}

-- ---- the trace

-- its first n entries from a place on, up to its end or the first that is faulty
unfoldable pub entries_of : List ℕ → ℕ → ℕ → List Entry
entries_of xs zero at = []
entries_of xs (suc n) at =
    cond (leb (length xs) at) []
    (cond (eqb (fault_at of_store xs at) 0) (entry_at xs at ∷ entries_of xs n (at + (6 + (entry_at xs at).length))) [])

-- the bodies of the entries of kind 16
abbrev pub bodies : List ℕ → List Entry → List (List ℕ)
bodies xs [] = []
bodies xs (e ∷ es) = cond (is_offer e) (body_of xs e ∷ bodies xs es) (bodies xs es)

-- ---- the history

-- the records that were offered, those that went in and those that were dropped
abbrev pub offered_in : List Happened → List (List ℕ)
offered_in [] = []
offered_in (went_in r ∷ h) = r ∷ offered_in h
offered_in (was_dropped r ∷ h) = r ∷ offered_in h
offered_in (drained cs stop ∷ h) = offered_in h

-- ---- both in one order: what an entry asks for, and what happened

pub data Step : Type 0 where
  offers : List ℕ → Step
  drains : Step

abbrev pub asks_for : List ℕ → Entry → Step
asks_for xs e = cond (is_offer e) (offers (body_of xs e)) drains

abbrev pub happened_as : Happened → Step
happened_as (went_in r) = offers r
happened_as (was_dropped r) = offers r
happened_as (drained cs stop) = drains

records : List Step → List (List ℕ)
records [] = []
records (offers r ∷ ss) = r ∷ records ss
records (drains ∷ ss) = records ss

history-records : (h : List Happened) → records (map happened_as h) ≡ offered_in h
unfolding records
history-records [] = refl
history-records (went_in r ∷ h) = ap (λ (l : List (List ℕ)). r ∷ l) (history-records h)
history-records (was_dropped r ∷ h) = ap (λ (l : List (List ℕ)). r ∷ l) (history-records h)
history-records (drained cs stop ∷ h) = history-records h

trace-records : (xs : List ℕ) (es : List Entry) → records (map (asks_for xs) es) ≡ bodies xs es
unfolding records
trace-records xs [] = refl
trace-records xs (e ∷ es) = by (is_offer e) (trace-records xs es)
  where
    by : (t : Bool) → records (map (asks_for xs) es) ≡ bodies xs es
        → records (cond t (offers (body_of xs e)) drains ∷ map (asks_for xs) es) ≡ cond t (body_of xs e ∷ bodies xs es) (bodies xs es)
    by true q = ap (λ (l : List (List ℕ)). body_of xs e ∷ l) q
    by false q = q

-- the bytes offered, as they are told, are those of the records
offered-bytes : (h : List Happened) → sum offered_by h ≡ length (joined (offered_in h))
unfolding sum joined
offered-bytes [] = refl
offered-bytes (went_in r ∷ h) = omega (arith, offered-bytes h, length-append r (joined (offered_in h)))
offered-bytes (was_dropped r ∷ h) = omega (arith, offered-bytes h, length-append r (joined (offered_in h)))
offered-bytes (drained cs stop ∷ h) = omega (arith, offered-bytes h)

-- ---- an entry that is played is of kind 16 or 17
abbrev pub OfKinds : List Entry → Type 0
OfKinds [] = Unit {0}
OfKinds (e ∷ es) = ((e.kind ≡ 16) ⊎ (e.kind ≡ 17)) × OfKinds es

kind-of : (xs : List ℕ) (at : ℕ) → fault_at of_store xs at ≡ 0 → ((entry_at xs at).kind ≡ 16) ⊎ ((entry_at xs at).kind ≡ 17)
kind-of xs at f = by (is_offer e) (is_drain e) refl refl (not-false (is_offer e || is_drain e) (no-fault of_store xs at f).1.1.1.1.0)
  where
    e : Entry
    e = entry_at xs at

    by : (t u : Bool) → is_offer e ≡ t → is_drain e ≡ u → (t || u) ≡ true → (e.kind ≡ 16) ⊎ (e.kind ≡ 17)
    by true u p q h = inl (eqb-true e.kind 16 p)
    by false true p q h = inr (eqb-true e.kind 17 q)
    by false false p q h = absurd (apart h)

pub entries-of-kinds : (xs : List ℕ) (n at : ℕ) → OfKinds (entries_of xs n at)
unfolding entries_of
entries-of-kinds xs zero at = tt
entries-of-kinds xs (suc n) at = by (leb (length xs) at) (eqb (fault_at of_store xs at) 0) refl (entries-of-kinds xs n there)
  where
    there : ℕ
    there = at + (6 + (entry_at xs at).length)

    by : (t u : Bool) → eqb (fault_at of_store xs at) 0 ≡ u → OfKinds (entries_of xs n there) → OfKinds (cond t [] (cond u (entry_at xs at ∷ entries_of xs n there) []))
    by true u z q = tt
    by false true z q = (kind-of xs at (eqb-true (fault_at of_store xs at) 0 z), q)
    by false false z q = tt

-- ---- any judge
module _ (asked : Asked) (judge : List ℕ → ℕ) (xs : List ℕ) where
  abbrev steps : Bench → List Step
  steps b = map happened_as b.history

  -- one entry, one event
  effect-step : (e : Entry) (b : Bench) → steps (effect asked judge xs e b) ≡ steps b ++ (asks_for xs e ∷ [])
  unfolding effect offer drains_off
  effect-step e b = by (is_offer e) (leb (length (body_of xs e)) (free b))
    where
      by : (t u : Bool)
          → steps (cond t (cond u (goes_in b (body_of xs e)) (goes_by b (body_of xs e))) (drains_off asked judge b (number_at 4 xs e.body)))
          ≡ steps b ++ (cond t (offers (body_of xs e)) drains ∷ [])
      by true true = map-append happened_as b.history (went_in (body_of xs e) ∷ [])
      by true false = map-append happened_as b.history (was_dropped (body_of xs e) ∷ [])
      by false u = map-append happened_as b.history _

  play-steps : (n at : ℕ) (b : Bench) → steps (play of_store asked judge xs n at b).now ≡ steps b ++ map (asks_for xs) (entries_of xs n at)
  unfolding play entries_of
  play-steps zero at b = sym (append-nil (steps b))
  play-steps (suc n) at b = by (leb (length xs) at) (eqb (fault_at of_store xs at) 0) (play-steps n there next)
    where
      e : Entry
      e = entry_at xs at

      there : ℕ
      there = at + (6 + e.length)

      next : Bench
      next = effect asked judge xs e b

      by : (t u : Bool) → steps (play of_store asked judge xs n there next).now ≡ steps next ++ map (asks_for xs) (entries_of xs n there)
          → steps (cond t (played b at 0) (cond u (play of_store asked judge xs n there next) (played b at (fault_at of_store xs at)))).now
          ≡ steps b ++ map (asks_for xs) (cond t [] (cond u (e ∷ entries_of xs n there) []))
      by true u q = sym (append-nil (steps b))
      by false true q =
          q ∙ ap (λ (l : List Step). l ++ map (asks_for xs) (entries_of xs n there)) (effect-step e b)
          ∙ append_assoc (steps b) (asks_for xs e ∷ []) (map (asks_for xs) (entries_of xs n there))
      by false false q = sym (append-nil (steps b))

  -- one entry more, after n that had no fault
  play-more : (n at : ℕ) (b : Bench) → (play of_store asked judge xs n at b).answer ≡ 0
      → play of_store asked judge xs (suc n) at b ≡ play of_store asked judge xs 1 (play of_store asked judge xs n at b).at (play of_store asked judge xs n at b).now
  unfolding play
  play-more zero at b z = refl
  play-more (suc n) at b z = by (leb (length xs) at) (eqb (fault_at of_store xs at) 0) refl refl z (play-more n there next)
    where
      there : ℕ
      there = at + (6 + (entry_at xs at).length)

      next : Bench
      next = effect asked judge xs (entry_at xs at) b

      one : Played → Played
      one p = play of_store asked judge xs 1 p.at p.now

      by : (t u : Bool) → leb (length xs) at ≡ t → eqb (fault_at of_store xs at) 0 ≡ u
          → (cond t (played b at 0) (cond u (play of_store asked judge xs n there next) (played b at (fault_at of_store xs at)))).answer ≡ 0
          → ((play of_store asked judge xs n there next).answer ≡ 0 → play of_store asked judge xs (suc n) there next ≡ one (play of_store asked judge xs n there next))
          → cond t (played b at 0) (cond u (play of_store asked judge xs (suc n) there next) (played b at (fault_at of_store xs at)))
          ≡ one (cond t (played b at 0) (cond u (play of_store asked judge xs n there next) (played b at (fault_at of_store xs at))))
      by true u p q z r = rw p refl
      by false true p q z r = r z
      by false false p q z r = absurd (apart (sym q ∙ eq-eqb (fault_at of_store xs at) 0 z))

  play-one : (at : ℕ) (b : Bench) → at < length xs → fault_at of_store xs at ≡ 0 → (play of_store asked judge xs 1 at b).now ≡ effect asked judge xs (entry_at xs at) b
  unfolding play
  play-one at b l f = simp (lt-leb (length xs) at l, eq-eqb (fault_at of_store xs at) 0 f)

  effect-offer : (e : Entry) (b : Bench) → e.kind ≡ 16 → effect asked judge xs e b ≡ offer b (body_of xs e)
  unfolding effect
  effect-offer e b k = simp (eq-eqb e.kind 16 k)

-- ---- an offered record, by what is told before and after
module _ (b : Bench) (r : List ℕ) where
  -- "goes in whole if its size fits the free room": offered by its size, and head moves on by it
  pub counted-in : length r ≤ free b → standing (offer b r) 0 ≡ count_in (standing b 0) (length r)
  unfolding offered
  counted-in h =
      sym (shows-offer (length b.ring) (lent (b.ring ++ b.scratch) b.journal (standing b 0)) b (record { counts = refl; rooms = refl; journal = refl; long = refl }) r).counts
      ∙ simp (le-leb (length r) (free b) h)

  -- "and otherwise is dropped and counted": nothing else that is told changes but the bytes offered and the number of entries
  pub counted-by : free b < length r → standing (offer b r) 0 ≡ count_by (standing b 0) (length r)
  unfolding offered
  counted-by h =
      sym (shows-offer (length b.ring) (lent (b.ring ++ b.scratch) b.journal (standing b 0)) b (record { counts = refl; rooms = refl; journal = refl; long = refl }) r).counts
      ∙ simp (lt-leb (length r) (free b) h)

-- ---- a replay that was not refused before its first entry
module _ (limit : ℕ) (rows : List Known) (e : ℕ) (es : List Event) (xs : List ℕ) (count : ℕ) (rooms journal : List ℕ) where
  abbrev asked : Asked
  asked = asked_events limit rows e es

  abbrev judge : List ℕ → ℕ
  judge = judge_events (known rows e) es

  abbrev h : ℕ
  h = half (length rooms)

  abbrev end : Played
  end = replay_events limit rows e es xs count rooms journal

  -- after n entries
  abbrev pub after : ℕ → Played
  after n = play of_store asked judge xs n 0 (bench (take h rooms) count (drop h rooms) journal)

  -- each entry happened, once and in its order
  pub each-entry-happened : (n : ℕ) → map happened_as (after n).now.history ≡ map (asks_for xs) (entries_of xs n 0)
  each-entry-happened n = play-steps asked judge xs n 0 (bench (take h rooms) count (drop h rooms) journal)

  -- so the records offered in the history are the bodies of the entries of kind 16 among the first n
  pub offered-are-the-bodies : (n : ℕ) → offered_in (after n).now.history ≡ bodies xs (entries_of xs n 0)
  offered-are-the-bodies n =
      sym (history-records (after n).now.history) ∙ ap records (each-entry-happened n) ∙ trace-records xs (entries_of xs n 0)

  -- what is told, told of the trace: its entries, and the bytes that they offer
  pub told-of-the-trace : (n : ℕ)
      → ((standing (after n).now 0).entries ≡ length (entries_of xs n 0)) × ((standing (after n).now 0).offered_bytes ≡ length (joined (bodies xs (entries_of xs n 0))))
  told-of-the-trace n = (
    sym (length-map (after n).now.history happened_as) ∙ ap length (each-entry-happened n) ∙ length-map (entries_of xs n 0) (asks_for xs),
    offered-bytes (after n).now.history ∙ ap (λ (l : List (List ℕ)). length (joined l)) (offered-are-the-bodies n),
  )

  pub told-of-the-whole : count < 2 ^ 64 → before asked (length (take h rooms)) count ≡ 0
      → ((replay_told end).entries ≡ length (entries_of xs (length xs) 0)) × ((replay_told end).offered_bytes ≡ length (joined (bodies xs (entries_of xs (length xs) 0))))
  told-of-the-whole fits ok =
      subst (λ (p : Played). ((replay_told p).entries ≡ length (entries_of xs (length xs) 0)) × ((replay_told p).offered_bytes ≡ length (joined (bodies xs (entries_of xs (length xs) 0)))))
      (sym (after-all limit rows e es xs count rooms journal fits ok)) (told-of-the-trace (length xs))

  -- the entry after the first n: where none before it was faulty, and it is not, it is done on what they left
  module _ (n : ℕ) (z : (after n).answer ≡ 0) (more : (after n).at < length xs) (good : fault_at of_store xs (after n).at ≡ 0) where
    abbrev next : Entry
    next = entry_at xs (after n).at

    pub next-happens : (after (suc n)).now ≡ effect asked judge xs next (after n).now
    next-happens =
        ap (λ (p : Played). p.now) (play-more asked judge xs n 0 (bench (take h rooms) count (drop h rooms) journal) z)
        ∙ play-one asked judge xs (after n).at (after n).now more good

    next-offered : next.kind ≡ 16 → (after (suc n)).now ≡ offer (after n).now (body_of xs next)
    next-offered k = next-happens ∙ effect-offer asked judge xs next (after n).now k

    -- "An offered record goes in whole if its size fits the free room"
    pub goes_in_lem : next.kind ≡ 16 → length (body_of xs next) ≤ free (after n).now
        → standing (after (suc n)).now 0 ≡ count_in (standing (after n).now 0) (length (body_of xs next))
    goes_in_lem k f = ap (λ (b : Bench). standing b 0) (next-offered k) ∙ counted-in (after n).now (body_of xs next) f

    -- "and otherwise is dropped and counted": the records dropped go up by one, their bytes by its size; what is held, head and tail stay
    pub dropped-and-counted : next.kind ≡ 16 → free (after n).now < length (body_of xs next)
        → ((standing (after (suc n)).now 0).dropped ≡ (standing (after n).now 0).dropped + 1)
        × (((standing (after (suc n)).now 0).dropped_bytes ≡ (standing (after n).now 0).dropped_bytes + length (body_of xs next))
        × (((standing (after (suc n)).now 0).held_bytes ≡ (standing (after n).now 0).held_bytes)
        × (((standing (after (suc n)).now 0).head ≡ (standing (after n).now 0).head) × ((standing (after (suc n)).now 0).tail ≡ (standing (after n).now 0).tail))))
    dropped-and-counted k f =
        let c = ap (λ (b : Bench). standing b 0) (next-offered k) ∙ counted-by (after n).now (body_of xs next) f in (
          ap (λ (s : Replayed). s.dropped) c,
          (ap (λ (s : Replayed). s.dropped_bytes) c, (ap (λ (s : Replayed). s.held_bytes) c, (ap (λ (s : Replayed). s.head) c, ap (λ (s : Replayed). s.tail) c))),
        )
