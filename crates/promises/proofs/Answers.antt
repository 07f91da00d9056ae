-- Demand 1, "refused by the numbers": of each call from C the numbers that it may answer, over the right side of its contract. Here stand the calls whose numbers
-- stand nowhere else: the writer of words, the tail of two readers, a drain's entries under a table, compare, replay and salvage. The others:
-- drain, `Demand1`; walks, `Backward`; drain with a table, `Events`; the readers of one record, `Called`; record check, `Demand1`, and with a table, `Inspected`;
-- read, `Lent`, and with a table, `Inspected`; name copy, `Names`; both calls of the store, `Settings`. `ollskuvan_misc_meaning` tells what misc means and
-- `ollskuvan_find_event` an index: neither refuses. For replay and compare also why: each number for its own reason. Assumes nothing.
use Rattle.std.specs.Prelude.{◌≡◌, Bool, cond, ◌||◌, ◌⊎◌, leb, ltb, length, get_or, take, drop}
use Rattle.std.proofs.Math.Path.{refl}
use Rattle.std.proofs.Common.{sym, ap, ◌∙◌, subst, inr, ⊎_elim, arith, eqb-true, leb-false}
use mathlib.Core.List.{List, [], ◌∷◌}
use Rattle.std.proofs.Math.Bool.{true, false}
use Rattle.std.proofs.Math.Logic.{inl}
use Prim.Native.Nat.{ℕ, zero, suc, ◌+◌, ◌*◌, ◌^◌, ◌<◌, ◌≤◌}
use Rattle.std.proofs.lemmas.Bool.{eqb-false}
use Rattle.std.proofs.Math.Dec.{eqb}
use Rattle.meaning.specs.declared.Attributes.{Attributes}
use Rattle.meaning.specs.declared.Event.{Event}
use Rattle.meaning.specs.States.{Frame}
use Rattle.meaning.specs.Bytes.{small, number_at}
use Rattle.meaning.specs.Refusals.{Refusal}
use Rattle.meaning.specs.Editions.{editions, allowed, known, is_in}
use Rattle.meaning.specs.Values.{value_words, write_answer}
use Rattle.meaning.specs.Ring.{stop_at, Asked, frame}
use Rattle.meaning.specs.Drain.{End}
use Rattle.meaning.specs.Events.{asked_events, judge_events, drain_events}
use Rattle.readers.specs.declared.Readers.{Readers}
use Rattle.readers.specs.Readers.{tail_rows, tail_answer, publish_answer, published}
use Rattle.writer.specs.Writer.{write_words_answer}
use Rattle.laws.specs.Rows.{gives, before as before-row, Passed, in-more, in-cond, first-in}
use Rattle.laws.specs.Rings.{stop_rows, frame-reason}
use Rattle.runs.specs.Cutting.{Cut, Cuts, Spot, begin, spot_frame, spot_after, cut_at, add, halt, cut_by, cutting_by, nothing_cut}
use Rattle.runs.proofs.Entries.{journal-entry}
use Rattle.editions.specs.Numbers.{event_numbers, write_numbers}
use Rattle.editions.proofs.InTable.{not_in}
use Rattle.editions.proofs.Demand3.{answer-in}
use Rattle.editions.proofs.EventRecord.{event-in, event-small}
use Rattle.entries.specs.Entries.{entry_at}
use Rattle.compare.specs.declared.Compared.{Compared}
use Rattle.compare.specs.Fields.{Reads, fields}
use Rattle.compare.specs.Compared.{alike, agree, differs, stops, ends_first, all_alike, meet, Side, cutting_all, compared, event_reads}
use Rattle.comparing.specs.Table.{left_side, right_side}
use Rattle.replay.specs.declared.Replayed.{Replayed}
use Rattle.replay.proofs.Promises.{read-to-end}
use Rattle.replay.specs.Replay.{Bench, bench, Played, played, records_out, entry_rows, fault_at, effect, play, before_rows, before, replay, half, of_store, replay_told, replay_events}
use Rattle.salvage.specs.Salvage.{output, holes, changes, salvage_answer, table_unready, table_judge, salvage_told}
use Rattle.salvage.proofs.Promises.{told-answer}
use Rattle.promises.proofs.Checked.{foremost, first-exactly}
use Rattle.promises.proofs.Demand1.{write-numbers}
use Rattle.promises.proofs.Events.{drain-events-entry}
use Rattle.promises.proofs.Called.{table_one_stop_numbers, table-one-frame-stops}
use Rattle.promises.proofs.Compared.{left-to-its-end, right-to-its-end}
use Rattle.promises.proofs.Replay.{refused-told, after-all, every-point, one-journal}

-- ---- a drain with a table (`ollskuvan_drain_events`): the answers in its journal

module _ (limit e : ℕ) (es : List Event) (ring : List ℕ) (head tail budget : ℕ) (journal scratch : List ℕ) where
  abbrev drained : End
  drained = drain_events limit editions e es ring head tail budget journal scratch

  abbrev record-at : ℕ → Cut
  record-at i = get_or (cutting_by (asked_events limit editions e es) ring head tail budget (length journal) scratch).records i nothing_cut

  pub drain-events-answers : (i : ℕ) → i < drained.state.taken → is_in (number_at 2 drained.state.journal (16 * i + 6)) event_numbers ≡ true
  drain-events-answers i h =
      let r : List ℕ = (record-at i).record-bytes in
      rw (answer-in (judge_events (known editions e) es) drained.state.journal r i (record-at i).tail (event-small (known editions e) es r)
      (drain-events-entry limit e es ring head tail budget journal scratch i h))
      (event-in (known editions e) es r)

-- ---- the writer of words (`ollskuvan_write`) and the tail of two readers (`ollskuvan_publish`)

pub words-answers : (e : ℕ) (a : Attributes) (src ws : List ℕ) (space : ℕ) → is_in (write_words_answer e a src ws space) write_numbers ≡ true
unfolding write_words_answer
words-answers e a src ws space =
    let n : ℕ = write_answer editions e a src (take value_words ws) space in
    in-cond write_numbers (allowed editions e) (cond (leb value_words (length ws)) n 42) 2
    (in-cond write_numbers (leb value_words (length ws)) n 42 (write-numbers e a src (take value_words ws) space) refl)
    refl

abbrev pub tail_numbers : List ℕ
tail_numbers = 0 ∷ 1 ∷ 4 ∷ 5 ∷ []

tail-in : (n head tail : ℕ) → is_in (tail_answer n head tail) tail_numbers ≡ true
unfolding tail_answer
tail-in n head tail = first-in tail_numbers (tail_rows n head tail) 0 refl refl

pub publish-answers : (n head : ℕ) (r : Readers) → is_in (published n head r).answer tail_numbers ≡ true
unfolding published publish_answer
publish-answers n head r =
    in-cond tail_numbers (eqb (tail_answer n head r.first) 0) (tail_answer n head r.second) (tail_answer n head r.first)
    (tail-in n head r.second)
    (tail-in n head r.first)

-- ---- two rings compared (`ollskuvan_compare`): no budget and no journal, so that 8 and 9 do not occur on either side

-- the stop of a cutting is one of its frames'
cut_in : (ns : List ℕ) (frame : ℕ → ℕ → ℕ → ℕ → Frame) (ring : List ℕ) → ((t n room scratch : ℕ) → is_in (frame t n room scratch).stop ns ≡ true)
    → (n : ℕ) (p : Spot) → is_in (cut_by frame ring n p).stop ns ≡ true
unfolding cut_by
cut_in ns frame ring h zero p = h p.tail 0 p.room (length p.scratch)
cut_in ns frame ring h (suc n) p = by (spot_frame frame (suc n) p).go (cut_in ns frame ring h n (spot_after ring p (spot_frame frame (suc n) p)))
  where
    by : (b : Bool) → is_in (cut_by frame ring n (spot_after ring p (spot_frame frame (suc n) p))).stop ns ≡ true
        → is_in (cond b (add (cut_at ring p (spot_frame frame (suc n) p)) (cut_by frame ring n (spot_after ring p (spot_frame frame (suc n) p)))) (halt p (spot_frame frame (suc n) p))).stop ns ≡ true
    by true q = q
    by false q = h p.tail (suc n) p.room (length p.scratch)

abbrev pub compared_numbers : List ℕ
compared_numbers = 0 ∷ 1 ∷ 2 ∷ 3 ∷ 4 ∷ 5 ∷ []

-- what a report says of stops: it is one of six; the side that it names stopped so, and not with 0; where it names none, it has none
pub record Sided (left right : ℕ) (c : Compared) : Type 0 where
  pub one_of : is_in c.what compared_numbers ≡ true
  pub of_left : c.what ≡ 4 → (c.stop ≡ left) × (left ≡ 0 → ⊥)
  pub of_right : c.what ≡ 5 → (c.stop ≡ right) × (right ≡ 0 → ⊥)
  pub no_stop : (c.what ≡ 4 → ⊥) → (c.what ≡ 5 → ⊥) → c.stop ≡ 0

module _ (R : Reads) (left right : ℕ) where
  unstopped : (c : Compared) → c.stop ≡ 0 → is_in c.what (0 ∷ 1 ∷ 2 ∷ 3 ∷ []) ≡ true → Sided left right c
  unstopped c z h = record {
    one_of = in-more (0 ∷ 1 ∷ 2 ∷ 3 ∷ []) compared_numbers c.what refl h;
    of_left = λ q. absurd (not_in (0 ∷ 1 ∷ 2 ∷ 3 ∷ []) 4 c.what refl h q);
    of_right = λ q. absurd (not_in (0 ∷ 1 ∷ 2 ∷ 3 ∷ []) 5 c.what refl h q);
    no_stop = λ p q. z;
  }

  left-stopped : (n : ℕ) → (left ≡ 0 → ⊥) → Sided left right (stops 4 left n)
  left-stopped n h = record { one_of = refl; of_left = λ q. (refl, h); of_right = λ q. absurd (omega (arith, q)); no_stop = λ p q. absurd (p refl) }

  right-stopped : (n : ℕ) → (right ≡ 0 → ⊥) → Sided left right (stops 5 right n)
  right-stopped n h = record { one_of = refl; of_left = λ q. absurd (omega (arith, q)); of_right = λ q. (refl, h); no_stop = λ p q. absurd (q refl) }

  meet-sided : (n : ℕ) (xs ys : List Cut) → Sided left right (meet R left right n xs ys)
  unfolding meet
  meet-sided n [] [] = by (eqb left 0) (eqb right 0) refl refl
    where
      by : (b d : Bool) → eqb left 0 ≡ b → eqb right 0 ≡ d → Sided left right (cond b (cond d (all_alike n) (stops 5 right n)) (stops 4 left n))
      by true true p q = unstopped (all_alike n) refl refl
      by true false p q = right-stopped n (eqb-false right 0 q)
      by false d p q = left-stopped n (eqb-false left 0 p)
  meet-sided n [] (y ∷ ys) = by (eqb left 0) refl
    where
      by : (b : Bool) → eqb left 0 ≡ b → Sided left right (cond b (ends_first 2 n) (stops 4 left n))
      by true p = unstopped (ends_first 2 n) refl refl
      by false p = left-stopped n (eqb-false left 0 p)
  meet-sided n (x ∷ xs) [] = by (eqb right 0) refl
    where
      by : (b : Bool) → eqb right 0 ≡ b → Sided left right (cond b (ends_first 3 n) (stops 5 right n))
      by true p = unstopped (ends_first 3 n) refl refl
      by false p = right-stopped n (eqb-false right 0 p)
  meet-sided n (x ∷ xs) (y ∷ ys) = by (alike (fields R x.record-bytes) (fields R y.record-bytes)) (meet-sided (suc n) xs ys)
    where
      here : Compared
      here = differs n (agree (fields R x.record-bytes) (fields R y.record-bytes))

      by : (b : Bool) → Sided left right (meet R left right (suc n) xs ys) → Sided left right (cond b (meet R left right (suc n) xs ys) here)
      by true w = w
      by false w = unstopped here refl refl

module _ (limit e : ℕ) (es : List Event) (ring₁ ring₂ : List ℕ) (head₁ head₂ tail₁ tail₂ : ℕ) (scratch₁ scratch₂ : List ℕ) where
  abbrev left : Side
  left = left_side limit editions e es ring₁ ring₂ head₁ head₂ tail₁ tail₂ scratch₁ scratch₂

  abbrev right : Side
  right = right_side limit editions e es ring₁ ring₂ head₁ head₂ tail₁ tail₂ scratch₁ scratch₂

  abbrev report : Compared
  report = compared (event_reads (known editions e) es) left right

  -- why each side was cut no further
  pub left-side-stops : is_in (cutting_all left).stop table_one_stop_numbers ≡ true
  left-side-stops =
      cut_in table_one_stop_numbers (λ t n room m. left.frame t m) ring₁ (λ t n room m. table-one-frame-stops (asked_events limit editions e es) ring₁ head₁ t m) (length ring₁) (begin tail₁ 0 scratch₁)

  pub right-side-stops : is_in (cutting_all right).stop table_one_stop_numbers ≡ true
  right-side-stops =
      cut_in table_one_stop_numbers (λ t n room m. right.frame t m) ring₂ (λ t n room m. table-one-frame-stops (asked_events limit editions e es) ring₂ head₂ t m) (length ring₂) (begin tail₂ 0 scratch₂)

  -- "reported with the side"
  pub compare-sided : Sided (cutting_all left).stop (cutting_all right).stop report
  unfolding compared
  compare-sided = meet-sided (event_reads (known editions e) es) (cutting_all left).stop (cutting_all right).stop 0 (cutting_all left).records (cutting_all right).records

  pub compare-stops : is_in report.stop table_one_stop_numbers ≡ true
  compare-stops = by (eqb report.what 4) (eqb report.what 5) refl refl
    where
      by : (b d : Bool) → eqb report.what 4 ≡ b → eqb report.what 5 ≡ d → is_in report.stop table_one_stop_numbers ≡ true
      by true d p q = rw (compare-sided.of_left (eqb-true report.what 4 p)).0 left-side-stops
      by false true p q = rw (compare-sided.of_right (eqb-true report.what 5 q)).0 right-side-stops
      by false false p q = rw (compare-sided.no_stop (eqb-false report.what 4 p) (eqb-false report.what 5 q)) refl

  -- each stop for its own reason: where that side was cut to, a row with its number holds, and none before the first row that has it
  abbrev pub rows_at : List ℕ → ℕ → Cuts → List Refusal
  rows_at ring head w = stop_rows (asked_events limit editions e es) ring head w.last.tail 1 16 (length w.last.scratch)

  pub left-stop-reason : small ring₁ ≡ true → head₁ < 2 ^ 64 → tail₁ < 2 ^ 64 → report.what ≡ 4
      → (gives report.stop (rows_at ring₁ head₁ (cutting_all left)) ≡ true) × Passed (before-row report.stop (rows_at ring₁ head₁ (cutting_all left)))
  left-stop-reason s h t q =
      frame-reason (asked_events limit editions e es) ring₁ head₁ (cutting_all left).last.tail 1 16 (length (cutting_all left).last.scratch) report.stop
      (left-to-its-end limit e es ring₁ ring₂ head₁ head₂ tail₁ tail₂ scratch₁ scratch₂ s h t ∙ ap stop_at (sym (compare-sided.of_left q).0))

  pub right-stop-reason : small ring₂ ≡ true → head₂ < 2 ^ 64 → tail₂ < 2 ^ 64 → report.what ≡ 5
      → (gives report.stop (rows_at ring₂ head₂ (cutting_all right)) ≡ true) × Passed (before-row report.stop (rows_at ring₂ head₂ (cutting_all right)))
  right-stop-reason s h t q =
      frame-reason (asked_events limit editions e es) ring₂ head₂ (cutting_all right).last.tail 1 16 (length (cutting_all right).last.scratch) report.stop
      (right-to-its-end limit e es ring₁ ring₂ head₁ head₂ tail₁ tail₂ scratch₁ scratch₂ s h t ∙ ap stop_at (sym (compare-sided.of_right q).0))

-- ---- a recorded trace (`ollskuvan_replay`)

-- "1, 2, 5 or 11 come before any entry"; a faulty one is "51 or 52 as there", and an offer that is no record 53
abbrev pub replay_numbers : List ℕ
replay_numbers = 0 ∷ 1 ∷ 2 ∷ 5 ∷ 11 ∷ 51 ∷ 52 ∷ 53 ∷ []

-- an entry whose fault ended it
record AtFault (xs : List ℕ) (p : Played) : Type 0 where
  inside : p.at < length xs
  fault : p.answer ≡ fault_at of_store xs p.at

module _ (asked : Asked) (judge : List ℕ → ℕ) (xs : List ℕ) where
  -- at the trace's end with 0, or at an entry with its fault
  play-ends : (n at : ℕ) (b : Bench) → ((play of_store asked judge xs n at b).answer ≡ 0) ⊎ AtFault xs (play of_store asked judge xs n at b)
  unfolding play
  play-ends zero at b = inl refl
  play-ends (suc n) at b = by (leb (length xs) at) (eqb (fault_at of_store xs at) 0) refl refl (play-ends n there next)
    where
      there : ℕ
      there = at + (6 + (entry_at xs at).length)

      next : Bench
      next = effect asked judge xs (entry_at xs at) b

      by : (t u : Bool) → leb (length xs) at ≡ t → eqb (fault_at of_store xs at) 0 ≡ u
          → ((play of_store asked judge xs n there next).answer ≡ 0) ⊎ AtFault xs (play of_store asked judge xs n there next)
          → ((cond t (played b at 0) (cond u (play of_store asked judge xs n there next) (played b at (fault_at of_store xs at)))).answer ≡ 0)
          ⊎ AtFault xs (cond t (played b at 0) (cond u (play of_store asked judge xs n there next) (played b at (fault_at of_store xs at))))
      by true u p q w = inl refl
      by false true p q w = w
      by false false p q w = inr (record { inside = leb-false _ _ p; fault = refl })

fault-in : (xs : List ℕ) (at : ℕ) → is_in (fault_at of_store xs at) replay_numbers ≡ true
unfolding fault_at
fault-in xs at = first-in replay_numbers (entry_rows of_store xs (entry_at xs at)) 0 refl refl

module _ (limit e : ℕ) (es : List Event) (xs : List ℕ) (count : ℕ) (rooms journal : List ℕ) where
  abbrev asked : Asked
  asked = asked_events limit editions e es

  abbrev judge-events : List ℕ → ℕ
  judge-events = judge_events (known editions e) es

  abbrev ring : List ℕ
  ring = take (half (length rooms)) rooms

  abbrev first_bench : Bench
  first_bench = bench ring count (drop (half (length rooms)) rooms) journal

  abbrev end : Played
  end = replay_events limit editions e es xs count rooms journal

  abbrev call : ℕ
  call = before asked (length ring) count

  abbrev Ends : Played → Type 0
  Ends p = ((p.answer ≡ call) × (call ≡ 0 → ⊥)) ⊎ ((call ≡ 0) × (((p.answer ≡ 0) × (length xs ≤ p.at)) ⊎ AtFault xs p))

  -- refused by the call; or the trace read to its end, with 0; or a faulty entry
  ends : Ends end
  unfolding replay
  ends = by (eqb call 0) refl
    where
      all : Played
      all = play of_store asked judge-events xs (length xs) 0 first_bench

      by : (b : Bool) → eqb call 0 ≡ b → Ends (cond b all (played first_bench 0 call))
      by true q =
          inr (
            eqb-true call 0 q,
            ⊎_elim
                (λ (z : all.answer ≡ 0). inl (z, read-to-end of_store asked judge-events xs (length xs) 0 first_bench (omega arith) z))
                (λ (f : AtFault xs all). inr f)
                (play-ends asked judge-events xs (length xs) 0 first_bench),
          )
      by false q = inl (refl, eqb-false call 0 q)

  pub replay-answers : is_in (replay_told end).answer replay_numbers ≡ true
  replay-answers = by ends
    where
      by : Ends end → is_in end.answer replay_numbers ≡ true
      by (inl w) = rw w.0 (first-in replay_numbers (before_rows asked (length ring) count) 0 refl refl)
      by (inr (z, inl n)) = rw n.0 refl
      by (inr (z, inr f)) = rw f.fault (fault-in xs end.at)

  -- each number for its own reason: its row is the first of the call's that holds; or none of them does, and it is the first of the entry's where the replay ended
  pub data Why (k : ℕ) : Type 0 where
    by_call : foremost k (before_rows asked (length ring) count) ≡ true → Why k
    by-entry : call ≡ 0 → end.at < length xs → foremost k (entry_rows of_store xs (entry_at xs end.at)) ≡ true → Why k

  pub replay-exactly : (k : ℕ) → 0 < k → ((replay_told end).answer ≡ k → Why k) × (Why k → (replay_told end).answer ≡ k)
  unfolding fault_at
  replay-exactly k p = (λ h. there h ends, λ w. back w ends)
    where
      of-call : (call ≡ k → foremost k (before_rows asked (length ring) count) ≡ true) × (foremost k (before_rows asked (length ring) count) ≡ true → call ≡ k)
      of-call = first-exactly k p (before_rows asked (length ring) count)

      of_entry : (fault_at of_store xs end.at ≡ k → foremost k (entry_rows of_store xs (entry_at xs end.at)) ≡ true)
          × (foremost k (entry_rows of_store xs (entry_at xs end.at)) ≡ true → fault_at of_store xs end.at ≡ k)
      of_entry = first-exactly k p (entry_rows of_store xs (entry_at xs end.at))

      there : end.answer ≡ k → Ends end → Why k
      there h (inl w) = by_call (of-call.0 (sym w.0 ∙ h))
      there h (inr (z, inl n)) = absurd (omega (arith, p, h, n.0))
      there h (inr (z, inr f)) = by-entry z f.inside (of_entry.0 (sym f.fault ∙ h))

      back : Why k → Ends end → end.answer ≡ k
      back (by_call r) (inl w) = w.0 ∙ of-call.1 r
      back (by_call r) (inr w) = absurd (omega (arith, p, of-call.1 r, w.0))
      back (by-entry z i r) (inl w) = absurd (w.1 z)
      back (by-entry z i r) (inr (y, inl n)) = absurd (omega (arith, i, n.1))
      back (by-entry z i r) (inr (y, inr f)) = f.fault ∙ of_entry.1 r

  -- the answers in its journal: those of the records that its drains took
  pub replay-journal-answers : count < 2 ^ 64 → (i : ℕ) → i < (replay_told end).taken → is_in (number_at 2 end.now.journal (16 * i + 6)) event_numbers ≡ true
  replay-journal-answers c i h = by (eqb call 0) refl
    where
      Answered : Played → Type 0
      Answered p = i < (replay_told p).taken → is_in (number_at 2 p.now.journal (16 * i + 6)) event_numbers ≡ true

      by : (b : Bool) → eqb call 0 ≡ b → is_in (number_at 2 end.now.journal (16 * i + 6)) event_numbers ≡ true
      by true q =
          let ok : call ≡ 0 = eqb-true call 0 q in
          let p : Played = play of_store asked judge-events xs (length xs) 0 first_bench in
          let out : List Cut = records_out p.now.history in
          let r : Cut = get_or out i nothing_cut in
          let w = every-point limit editions e es xs count rooms journal c ok (length xs) in
          let j = one-journal limit editions e es xs count rooms journal c ok (length xs) in
          subst Answered (sym (after-all limit editions e es xs count rooms journal c ok))
          (λ g. rw (answer-in judge-events p.now.journal r.record-bytes i r.tail (event-small (known editions e) es r.record-bytes)
          (ap (λ (l : List ℕ). take 16 (drop (16 * i) l)) w.journal-is ∙ journal-entry judge-events out journal w.journal-room i nothing_cut (omega (arith, g, j.1))))
          (event-in (known editions e) es r.record-bytes))
          h
      by false q =
          let t = (refused-told limit editions e es xs count rooms journal c (eqb-false call 0 q)).0 in
          absurd (omega (arith, h, ap (λ (x : Replayed). x.taken) t))

-- ---- a salvage (`ollskuvan_salvage`): "refusals 2, then 11", then 54

abbrev pub salvage_numbers : List ℕ
salvage_numbers = 0 ∷ 2 ∷ 11 ∷ 54 ∷ []

pub salvage-answers : (limit e : ℕ) (es : List Event) (xs out list : List ℕ) → is_in (salvage_told limit editions e es xs out list).answer salvage_numbers ≡ true
unfolding salvage_answer
salvage-answers limit e es xs out list =
    let n : ℕ = table_unready limit editions e es in
    let judges : List ℕ → ℕ = table_judge editions e es in
    let full : Bool = ltb (length out) (length (output judges xs)) || ltb (length list) (length (changes (holes judges xs))) in
    rw (told-answer n judges xs (length out) (length list))
    (in-cond salvage_numbers (eqb n 0) (cond full 54 0) n (in-cond salvage_numbers full 54 0 refl refl) (first-in salvage_numbers _ 0 refl refl))
