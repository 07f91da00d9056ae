-- M-104: "Refusal 10 never happens. Once 1 and 5 pass, the eight header bytes can't cross the end. Show that, drop the case and document 01's row, and
-- never reuse the number." What no call but record check answers is said of any number outside a list: of 10 here, of 44 in Nobody44. Assumes nothing.
use Rattle.std.specs.Prelude.{◌≡◌, refl, List, [], ◌∷◌, ◌++◌, true, false, ℕ, ◌+◌, ◌*◌, ◌%◌, ◌^◌, ◌<◌, ltb, length}
use Rattle.std.proofs.Common.{ap, le-ltb}
use Rattle.std.proofs.Math.Path.{fun_ext}
use Rattle.meaning.specs.declared.Attributes.{Attributes}
use Rattle.meaning.specs.States.{Frame}
use Rattle.meaning.specs.Bytes.{number_at}
use Rattle.meaning.specs.Refusals.{Refusal, refusal}
use Rattle.meaning.specs.Editions.{editions, known, is_in}
use Rattle.meaning.specs.Records.{layout, judge, record_check}
use Rattle.meaning.specs.Values.{read, write_answer}
use Rattle.meaning.specs.Ring.{Asked, asked_of, distance, stopped, sized, call_rows, left_rows, frame, read_one}
use Rattle.meaning.specs.Drain.{start, run, drain}
use Rattle.meaning.specs.Names.{name_answer}
use Rattle.meaning.specs.declared.Event.{Event}
use Rattle.meaning.specs.Events.{asked_events, judge_events, drain_events, read_one_events, record_check_events, read_events}
use Rattle.meaning.specs.Backward.{walk_back, walk_events}
use Rattle.readers.specs.declared.Readers.{Readers}
use Rattle.readers.specs.Readers.{published}
use Rattle.record.specs.Into.{read_into_answer}
use Rattle.one.specs.Told.{one_told}
use Rattle.event_one.specs.Told.{one_events_told}
use Rattle.writer.specs.Writer.{write_words_answer}
use Rattle.compare.specs.Compared.{compared, event_reads, side_of}
use Rattle.replay.specs.Replay.{replay_told, replay_events}
use Rattle.salvage.specs.Salvage.{salvage_told}
use Rattle.settings.specs.Versions.{versions}
use Rattle.settings.specs.Reading.{read_store}
use Rattle.settings.specs.Writing.{writes, write_store}
use Rattle.laws.specs.Rows.{every, in-more, Passed, passed-by, stopped-after}
use Rattle.editions.specs.Numbers.{record_numbers, check_numbers, record_check_numbers, stop_numbers, table_stop_numbers, walk_numbers, table_walk_numbers, event_numbers, write_numbers, name_numbers}
use Rattle.editions.proofs.InTable.{not_in}
use Rattle.promises.proofs.Demand1.{check-numbers, read-numbers, write-numbers, one-stop-numbers, one-numbers, drain-stop-numbers, drain-entry-numbers}
use Rattle.promises.proofs.WalkNumbers.{walk-numbers, walk-events-numbers}
use Rattle.promises.proofs.Backward.{walk-entry-numbers, walk-events-entry-numbers}
use Rattle.promises.proofs.Lent.{read_numbers, lent-numbers}
use Rattle.promises.proofs.Names.{name-numbers}
use Rattle.promises.proofs.Events.{event-numbers, drain-events-numbers, one-events-stop-numbers}
use Rattle.promises.proofs.Inspected.{event_check_numbers, record-check-events-in, read-events-in}
use Rattle.promises.proofs.Settings.{read-answers, write-answers}
use Rattle.promises.proofs.Called.{one_stop_numbers, table_one_stop_numbers, told-stops, told-numbers, event-told-stops, event-told-numbers}
use Rattle.promises.proofs.Answers.{tail_numbers, replay_numbers, salvage_numbers, drain-events-answers, words-answers, publish-answers, compare-stops, replay-answers, replay-journal-answers, salvage-answers}
use Rattle.promises.proofs.HeaderInside.{header-never-crosses}

-- ---- "drop the case and document 01's row": nothing is answered otherwise without it

-- document 01's row 10, "the 8-byte header crosses the ring's end", which stood after 9 and before 6; and the rows before it
abbrev pub crossing : ℕ → ℕ → Refusal
crossing n tail = refusal (ltb n (tail % n + 8)) 10

abbrev pub before_it : Asked → ℕ → ℕ → ℕ → ℕ → ℕ → List Refusal
before_it asked n head tail left journal = call_rows asked n head tail ++ left_rows head tail left journal

-- the next record, or why there is none, by the chain with the row
abbrev pub frame_with : Asked → List ℕ → ℕ → ℕ → ℕ → ℕ → ℕ → Frame
frame_with asked ring head tail left journal scratch =
    stopped (before_it asked (length ring) head tail left journal ++ (crossing (length ring) tail ∷ []))
    (sized ring (tail % length ring) (distance head tail) scratch)

-- where the rows before it are passed, its test is false
pub crossing-false : (asked : Asked) (n head tail left journal : ℕ) → Passed (before_it asked n head tail left journal) → (crossing n tail).holds ≡ false
crossing-false asked n head tail left journal p =
    let row = passed-by (before_it asked n head tail left journal) p in
    le-ltb n (tail % n + 8) (header-never-crosses asked n head tail (row 1) (row 5))

-- so the chain with it and the chain without it give the same
pub crossing-never-answers : (asked : Asked) (ring : List ℕ) (head tail left journal scratch : ℕ)
    → frame_with asked ring head tail left journal scratch ≡ frame asked ring head tail left journal scratch
unfolding frame
crossing-never-answers asked ring head tail left journal scratch =
    stopped-after (before_it asked (length ring) head tail left journal) (crossing (length ring) tail ∷ []) _
    (λ p. (crossing-false asked (length ring) head tail left journal p, tt))

-- and so do the drains: stop, counts, tail, journal and scratch
pub drains-never-cross : (e : ℕ) (a : Attributes) (ring : List ℕ) (head tail budget : ℕ) (journal scratch : List ℕ)
    → run (frame_with (asked_of editions e) ring head) (judge (layout (known editions e) a)) ring budget (start tail journal scratch)
    ≡ drain editions e a ring head tail budget journal scratch
drains-never-cross e a ring head tail budget journal scratch =
    ap (λ (f : ℕ → ℕ → ℕ → ℕ → Frame). run f (judge (layout (known editions e) a)) ring budget (start tail journal scratch))
    (fun_ext (λ t. fun_ext (λ left. fun_ext (λ room. fun_ext (λ space. crossing-never-answers (asked_of editions e) ring head t left room space)))))

-- ---- "never reuse the number": no stop is 10, and no answer of any call

-- every number that a call other than record check may tell as a stop or an answer: those of documents 01 and 02 but for 10, and for 44, which is record check's
abbrev pub other_numbers : List ℕ
other_numbers =
    0 ∷ 1 ∷ 2 ∷ 3 ∷ 4 ∷ 5 ∷ 6 ∷ 7 ∷ 8 ∷ 9 ∷ 11 ∷ 12 ∷ 13 ∷ 20 ∷ 21 ∷ 22 ∷ 23 ∷ 24 ∷ 25 ∷ 26 ∷ 27 ∷ 30 ∷ 31 ∷ 32 ∷ 33 ∷ 40 ∷ 41 ∷ 42 ∷ 43 ∷ 50 ∷ 51 ∷ 52 ∷ 53 ∷ 54 ∷ []

-- a number that none of them gives: each stop and each answer of the definitions, and what the calls from C tell
pub record NoOthers (k e : ℕ) (a : Attributes) : Type 0 where
  pub drain-stop : (ring : List ℕ) (head tail budget : ℕ) (journal scratch : List ℕ) → (drain editions e a ring head tail budget journal scratch).stop ≡ k → ⊥
  pub drain-answer : (ring : List ℕ) (head tail budget : ℕ) (journal scratch : List ℕ) (i : ℕ) → i < (drain editions e a ring head tail budget journal scratch).state.taken
      → number_at 2 (drain editions e a ring head tail budget journal scratch).state.journal (16 * i + 6) ≡ k → ⊥
  pub walk-stop : (ring : List ℕ) (head budget : ℕ) (journal scratch : List ℕ) → (walk_back editions e a ring head budget journal scratch).stop ≡ k → ⊥
  pub walk-answer : (ring : List ℕ) (head budget : ℕ) (journal scratch : List ℕ) (i : ℕ) → i < (walk_back editions e a ring head budget journal scratch).state.taken
      → number_at 2 (walk_back editions e a ring head budget journal scratch).state.journal (16 * i + 6) ≡ k → ⊥
  pub one-stop : (ring : List ℕ) (head tail : ℕ) (scratch : List ℕ) → (read_one editions e a ring head tail scratch).frame.stop ≡ k → ⊥
  pub one_answer : (ring : List ℕ) (head tail : ℕ) (scratch : List ℕ) → (read_one editions e a ring head tail scratch).answer ≡ k → ⊥
  pub told-stop : (ring : List ℕ) (head tail : ℕ) (scratch words : List ℕ) → (one_told editions e a ring head tail scratch words).stop ≡ k → ⊥
  pub told-answer : (ring : List ℕ) (head tail : ℕ) (scratch words : List ℕ) → (one_told editions e a ring head tail scratch words).answer ≡ k → ⊥
  pub read_answer : (xs : List ℕ) → (read editions e a xs).answer ≡ k → ⊥
  pub lent-answer : (xs words : List ℕ) → read_into_answer editions e a xs words ≡ k → ⊥
  pub write-answer : (src ws : List ℕ) (space : ℕ) → write_answer editions e a src ws space ≡ k → ⊥
  pub words-answer : (src ws : List ℕ) (space : ℕ) → write_words_answer e a src ws space ≡ k → ⊥
  pub name-answer : (xs : List ℕ) (place count : ℕ) (buffer : List ℕ) → name_answer xs place count buffer ≡ k → ⊥

-- the same with a table of events (M-100, M-109, M-112), beside the tail of two readers (M-105), of a store (M-103), of what was saved (M-106, M-108, M-111). With
-- `NoOthers` and record check's two these are all calls from C but two, which refuse nothing: one tells what misc means, the other an index in a table
pub record NoOthersBeside (k limit e : ℕ) (es : List Event) : Type 0 where
  pub drain-stop : (ring : List ℕ) (head tail budget : ℕ) (journal scratch : List ℕ) → (drain_events limit editions e es ring head tail budget journal scratch).stop ≡ k → ⊥
  pub drain-answer : (ring : List ℕ) (head tail budget : ℕ) (journal scratch : List ℕ) (i : ℕ) → i < (drain_events limit editions e es ring head tail budget journal scratch).state.taken
      → number_at 2 (drain_events limit editions e es ring head tail budget journal scratch).state.journal (16 * i + 6) ≡ k → ⊥
  pub walk-stop : (ring : List ℕ) (head budget : ℕ) (journal scratch : List ℕ) → (walk_events limit editions e es ring head budget journal scratch).stop ≡ k → ⊥
  pub walk-answer : (ring : List ℕ) (head budget : ℕ) (journal scratch : List ℕ) (i : ℕ) → i < (walk_events limit editions e es ring head budget journal scratch).state.taken
      → number_at 2 (walk_events limit editions e es ring head budget journal scratch).state.journal (16 * i + 6) ≡ k → ⊥
  pub judge-answer : (xs : List ℕ) → judge_events (known editions e) es xs ≡ k → ⊥
  pub one-stop : (ring : List ℕ) (head tail : ℕ) (scratch : List ℕ) → (read_one_events limit editions e es ring head tail scratch).frame.stop ≡ k → ⊥
  pub told-stop : (ring : List ℕ) (head tail : ℕ) (scratch words : List ℕ) → (one_events_told limit editions e es ring head tail scratch words).stop ≡ k → ⊥
  pub told-answer : (ring : List ℕ) (head tail : ℕ) (scratch words : List ℕ) → (one_events_told limit editions e es ring head tail scratch words).answer ≡ k → ⊥
  pub read_answer : (xs words : List ℕ) → (read_events limit editions e es xs words).answer ≡ k → ⊥
  pub compare-stop : (ring₁ ring₂ : List ℕ) (head₁ head₂ tail₁ tail₂ : ℕ) (scratch₁ scratch₂ : List ℕ)
      → (compared (event_reads (known editions e) es) (side_of (asked_events limit editions e es) ring₁ head₁ tail₁ scratch₁) (side_of (asked_events limit editions e es) ring₂ head₂ tail₂ scratch₂)).stop ≡ k
      → ⊥
  pub replay-answer : (xs : List ℕ) (count : ℕ) (rooms journal : List ℕ) → (replay_told (replay_events limit editions e es xs count rooms journal)).answer ≡ k → ⊥
  pub replay-entry : (xs : List ℕ) (count : ℕ) (rooms journal : List ℕ) → count < 2 ^ 64 → (i : ℕ) → i < (replay_told (replay_events limit editions e es xs count rooms journal)).taken
      → number_at 2 (replay_events limit editions e es xs count rooms journal).now.journal (16 * i + 6) ≡ k → ⊥
  pub salvage-answer : (xs out list : List ℕ) → (salvage_told limit editions e es xs out list).answer ≡ k → ⊥
  pub store-read : (xs : List ℕ) (lent : List (List ℕ)) → (read_store versions editions xs (length lent)).answer ≡ k → ⊥
  pub store-write : (rows : List (List ℕ)) (ring edition budget : ℕ) (buffer : List ℕ) → (write_store writes editions rows ring edition budget (length buffer)).answer ≡ k → ⊥
  pub publish-answer : (n head : ℕ) (r : Readers) → (published n head r).answer ≡ k → ⊥

module _ (k : ℕ) (new : is_in k other_numbers ≡ false) where
  -- what is in some of them is not k
  no : (ns : List ℕ) (x : ℕ) → every (λ (n : ℕ). is_in n other_numbers) ns ≡ true → is_in x ns ≡ true → x ≡ k → ⊥
  no ns x some h = not_in other_numbers k x new (in-more ns other_numbers x some h)

  pub no-others : (e : ℕ) (a : Attributes) → NoOthers k e a
  no-others e a =
      record {
        drain-stop = λ ring head tail budget journal scratch. no stop_numbers _ refl (drain-stop-numbers e a ring head tail budget journal scratch);
        drain-answer = λ ring head tail budget journal scratch i h. no record_numbers _ refl (drain-entry-numbers e a ring head tail budget journal scratch i h);
        walk-stop = λ ring head budget journal scratch. no walk_numbers _ refl (walk-numbers e a ring head budget journal scratch);
        walk-answer = λ ring head budget journal scratch i h. no record_numbers _ refl (walk-entry-numbers e a ring head budget journal scratch i h);
        one-stop = λ ring head tail scratch. no stop_numbers _ refl (one-stop-numbers e a ring head tail scratch);
        one_answer = λ ring head tail scratch. no record_numbers _ refl (one-numbers e a ring head tail scratch);
        told-stop = λ ring head tail scratch words. no one_stop_numbers _ refl (told-stops e a ring head tail scratch words);
        told-answer = λ ring head tail scratch words. no (40 ∷ record_numbers) _ refl (told-numbers e a ring head tail scratch words);
        read_answer = λ xs. no check_numbers _ refl (read-numbers e a xs);
        lent-answer = λ xs words. no read_numbers _ refl (lent-numbers e a xs words);
        write-answer = λ src ws space. no write_numbers _ refl (write-numbers e a src ws space);
        words-answer = λ src ws space. no write_numbers _ refl (words-answers e a src ws space);
        name-answer = λ xs place count buffer. no name_numbers _ refl (name-numbers xs place count buffer);
      }

  pub no-others-beside : (limit e : ℕ) (es : List Event) → NoOthersBeside k limit e es
  no-others-beside limit e es =
      record {
        drain-stop = λ ring head tail budget journal scratch. no table_stop_numbers _ refl (drain-events-numbers limit e es ring head tail budget journal scratch);
        drain-answer = λ ring head tail budget journal scratch i h. no event_numbers _ refl (drain-events-answers limit e es ring head tail budget journal scratch i h);
        walk-stop = λ ring head budget journal scratch. no table_walk_numbers _ refl (walk-events-numbers limit e es ring head budget journal scratch);
        walk-answer = λ ring head budget journal scratch i h. no event_numbers _ refl (walk-events-entry-numbers limit e es ring head budget journal scratch i h);
        judge-answer = λ xs. no event_numbers _ refl (event-numbers e es xs);
        one-stop = λ ring head tail scratch. no table_stop_numbers _ refl (one-events-stop-numbers limit e es ring head tail scratch);
        told-stop = λ ring head tail scratch words. no table_one_stop_numbers _ refl (event-told-stops limit e es ring head tail scratch words);
        told-answer = λ ring head tail scratch words. no (40 ∷ event_numbers) _ refl (event-told-numbers limit e es ring head tail scratch words);
        read_answer = λ xs words. no (40 ∷ event_check_numbers) _ refl (read-events-in limit editions e es xs words);
        compare-stop = λ ring₁ ring₂ head₁ head₂ tail₁ tail₂ scratch₁ scratch₂.
            no table_one_stop_numbers _ refl (compare-stops limit e es ring₁ ring₂ head₁ head₂ tail₁ tail₂ scratch₁ scratch₂);
        replay-answer = λ xs count rooms journal. no replay_numbers _ refl (replay-answers limit e es xs count rooms journal);
        replay-entry = λ xs count rooms journal c i h. no event_numbers _ refl (replay-journal-answers limit e es xs count rooms journal c i h);
        salvage-answer = λ xs out list. no salvage_numbers _ refl (salvage-answers limit e es xs out list);
        store-read = λ xs lent. no (0 ∷ 50 ∷ 51 ∷ 52 ∷ 11 ∷ 40 ∷ []) _ refl (read-answers xs lent);
        store-write = λ rows ring edition budget buffer. no (0 ∷ 11 ∷ 1 ∷ 2 ∷ 40 ∷ []) _ refl (write-answers rows ring edition budget buffer);
        publish-answer = λ n head r. no tail_numbers _ refl (publish-answers n head r);
      }

-- a number that nothing gives, record check too
pub record Nobodys (k e : ℕ) (a : Attributes) : Type 0 where
  pub others : NoOthers k e a
  pub check-answer : (xs : List ℕ) → record_check editions e a xs ≡ k → ⊥

pub record NobodysBeside (k limit e : ℕ) (es : List Event) : Type 0 where
  pub others : NoOthersBeside k limit e es
  pub check-answer : (xs : List ℕ) → (record_check_events limit editions e es xs).answer ≡ k → ⊥

pub ten-is-nobodys : (e : ℕ) (a : Attributes) → Nobodys 10 e a
ten-is-nobodys e a = record { others = no-others 10 refl e a; check-answer = λ xs. not_in record_check_numbers 10 _ refl (check-numbers e a xs) }

pub ten-is-nobodys-beside : (limit e : ℕ) (es : List Event) → NobodysBeside 10 limit e es
ten-is-nobodys-beside limit e es = record {
  others = no-others-beside 10 refl limit e es;
  check-answer = λ xs. not_in (44 ∷ event_check_numbers) 10 _ refl (record-check-events-in limit editions e es xs);
}
