-- "and to that meaning", with a table of events: what `ollskuvan_read_events` fills the lent words with. `read_events` and `read_events_words` are the right
-- sides of its contract. An answer of 0 says that the record has an event, that record check accepts it under that event's attributes, and that the first
-- 56 words mean its value under them. And the same of the answer and the words of the reader of one record with a table. Assumes nothing.
use Rattle.std.specs.Prelude.{◌≡◌, Bool, true, false, ◌&&◌, leb, length, drop}
use Rattle.std.proofs.Math.Path.{refl, sym, ap}
use Rattle.std.proofs.Common.{◌∙◌, arith}
use mathlib.Core.List.{List}
use Rattle.std.proofs.Math.Bool.{cond}
use Prim.Native.Nat.{ℕ, ◌%◌, ◌≤◌}
use Rattle.std.proofs.Math.Dec.{eqb}
use Rattle.std.proofs.Math.ListN.{take}
use borrow.Author.Tests.{leb-true, le-leb, eq-eqb, eqb-true, eqb-false}
use Rattle.meaning.specs.declared.Event.{Event}
use Rattle.meaning.specs.declared.Known.{Known}
use Rattle.meaning.specs.Refusals.{first, or_else}
use Rattle.meaning.specs.Bytes.{put}
use Rattle.meaning.specs.Editions.{editions, allowed, known}
use Rattle.meaning.specs.Records.{size_of, judge, check_by, check, value}
use Rattle.meaning.specs.Values.{record_words, meant}
use Rattle.meaning.specs.Events.{attributes_of, event_for, has_event, sound, layout_for, unmatched, judge_events, inspected, unasked, check_events, read_events, read_events_words}
use Rattle.record.specs.Into.{read_into_answer, read_into_words}
use Rattle.event_laws.specs.Told.{read_event_answer, read_event_words}
use Rattle.laws.specs.Bytes.{and-true}
use Rattle.laws.specs.Answers.{tested, or-zero}
use Rattle.laws.specs.Answer42.{check-of}
use Rattle.laws.specs.Told.{words-told}
use Rattle.laws.specs.Matched.{judge-matched}
use Rattle.laws.specs.Inspected.{asked-own, looked}
use Rattle.runs.specs.Cutting.{framed}
use Rattle.runs.specs.Scratches.{put_holds}
use Rattle.event_laws.specs.Match.{matched-has}
use Rattle.promises.proofs.Inspected.{words-unchanged}

-- the first refusal of three
nested : (m n k : ℕ) → or_else m (or_else n k) ≡ or_else (or_else m n) k
nested m n k = by (eqb m 0) refl
  where
    by : (b : Bool) → eqb m 0 ≡ b → cond b (or_else n k) m ≡ cond (eqb (cond b n m) 0) k (cond b n m)
    by true q = refl
    by false q = rw q refl

-- filled where neither refuses
filled : (m n : ℕ) (ys zs : List ℕ) → cond (eqb m 0) (cond (eqb n 0) ys zs) zs ≡ cond (eqb (or_else m n) 0) ys zs
filled m n ys zs = by (eqb m 0) refl
  where
    by : (b : Bool) → eqb m 0 ≡ b → cond b (cond (eqb n 0) ys zs) zs ≡ cond (eqb (cond b n m) 0) ys zs
    by true q = refl
    by false q = rw q refl

-- ---- a record that is looked at: 2, 11, 7 and 6 are not given
module _ (limit : ℕ) (rows : List Known) (e : ℕ) (es : List Event) (xs : List ℕ) where
  -- one record by its header, with an edition and a table that are allowed, is
  pub framed-asked : allowed rows e ≡ true → sound limit es ≡ true → framed xs ≡ true → unasked limit rows e es xs ≡ 0
  unfolding unasked first
  framed-asked a t f =
      let s = and-true (leb 8 (length xs)) ((leb 8 (size_of xs) && eqb (size_of xs % 8) 0) && eqb (size_of xs) (length xs)) f in
      let q = and-true (leb 8 (size_of xs) && eqb (size_of xs % 8) 0) (eqb (size_of xs) (length xs)) s.1 in
      rw (a, t, s.0, q.0, q.1) refl

  module _ (h : unasked limit rows e es xs ≡ 0) where
    -- of record check the judge is left
    left : check rows e (attributes_of (event_for es xs)) xs ≡ judge (layout_for (known rows e) es xs) xs
    unfolding check check_by
    left =
        let w = looked limit rows e es xs h in
        let z = w.size_is in
        rw (w.edition, le-leb 8 (length xs) w.low, le-leb 8 (size_of xs) (omega (arith, w.low, z)), eq-eqb (size_of xs % 8) 0 (ap (λ (n : ℕ). n % 8) z ∙ w.eights), eq-eqb (size_of xs) (length xs) z) refl

    -- the answer under the event's attributes, and then k
    shared : (k : ℕ) → or_else (unmatched (known rows e) es xs) (or_else (check rows e (attributes_of (event_for es xs)) xs) k) ≡ or_else (judge_events (known rows e) es xs) k
    shared k =
        nested (unmatched (known rows e) es xs) (check rows e (attributes_of (event_for es xs)) xs) k
        ∙ ap (λ (n : ℕ). or_else n k) (ap (or_else (unmatched (known rows e) es xs)) left ∙ sym (judge-matched (known rows e) es xs))

    -- the reader of one record answers and fills as the reader of a record's bytes does
    pub read_alike : (words : List ℕ)
        → (read_event_answer rows e es xs words ≡ (read_events limit rows e es xs words).answer)
        × (inspected (known rows e) es xs ≡ (read_events limit rows e es xs words).inspected)
        × (read_event_words rows e es xs words ≡ read_events_words limit rows e es xs words)
    unfolding read_events read_events_words read_event_answer read_into_answer read_event_words read_into_words
    read_alike words =
        let own = asked-own limit rows e es xs h in
        let q : or_else (judge_events (known rows e) es xs) (cond (leb 56 (length words)) 0 40) ≡ or_else (check_events limit rows e es xs) (cond (leb 56 (length words)) 0 40) =
        ap (λ (n : ℕ). or_else n (cond (leb 56 (length words)) 0 40)) (sym own.0) in (
          shared _ ∙ q,
          sym own.1,
          filled (unmatched (known rows e) es xs) _ (put words 0 (record_words (layout_for (known rows e) es xs) xs)) words
              ∙ ap (λ (n : ℕ). cond (eqb n 0) (put words 0 (record_words (layout_for (known rows e) es xs) xs)) words) (shared _ ∙ q),
        )

-- ---- the reader of a record's bytes
module _ (limit e : ℕ) (es : List Event) (xs : List ℕ) where
  module _ (words : List ℕ) where
    abbrev answer : ℕ
    answer = (read_events limit editions e es xs words).answer

    abbrev words_then : List ℕ
    words_then = read_events_words limit editions e es xs words

    -- what an answer of 0 says
    pub record Accepted : Type 0 where
      -- there are 56 words
      pub long : 56 ≤ length words
      -- the record has an event, and record check accepts it under that event's attributes
      pub has : unmatched (known editions e) es xs ≡ 0
      pub event : has_event es xs ≡ true
      pub checked : check editions e (attributes_of (event_for es xs)) xs ≡ 0
      -- the first 56 words are the record's own, the rest unchanged
      pub own : take 56 words_then ≡ record_words (layout_for (known editions e) es xs) xs
      pub rest : drop 56 words_then ≡ drop 56 words
      -- "and to that meaning"
      pub means : meant (layout_for (known editions e) es xs) xs (take 56 words_then) ≡ value (layout_for (known editions e) es xs) xs

    pub read-events-means : answer ≡ 0 → Accepted
    unfolding read_events read_events_words check_events
    read-events-means z =
        let s = or-zero (check_events limit editions e es xs) (cond (leb 56 (length words)) 0 40) z in
        let m = leb-true 56 (length words) (tested (leb 56 (length words)) 40 0 (omega arith) s.1).0 in
        let u = or-zero (unasked limit editions e es xs) (judge_events (known editions e) es xs) s.0 in
        let j = or-zero (unmatched (known editions e) es xs) (judge (layout_for (known editions e) es xs) xs) (sym (judge-matched (known editions e) es xs) ∙ u.1) in
        let c : check editions e (attributes_of (event_for es xs)) xs ≡ 0 = left limit editions e es xs u.0 ∙ j.1 in
        let t = words-told (known editions e) (attributes_of (event_for es xs)) xs (check-of editions e (attributes_of (event_for es xs)) xs c).1 in
        let ws : List ℕ = record_words (layout_for (known editions e) es xs) xs in
        let q : words_then ≡ put words 0 ws = ap (λ (b : Bool). cond b (put words 0 ws) words) (eq-eqb answer 0 z) in
        let p = put_holds words ws 56 t.long m in
        let f : take 56 words_then ≡ ws = ap (take 56) q ∙ p.0 in
        record {
          long = m;
          has = j.0;
          event = matched-has (known editions e) es xs j.0;
          checked = c;
          own = f;
          rest = ap (drop 56) q ∙ p.1;
          means = ap (meant (layout_for (known editions e) es xs) xs) f ∙ t.means;
        }

    -- further words are unchanged, whatever the answer is
    pub read-events-rest : drop 56 words_then ≡ drop 56 words
    read-events-rest = by (eqb answer 0) refl
      where
        by : (b : Bool) → eqb answer 0 ≡ b → drop 56 words_then ≡ drop 56 words
        by true z = (read-events-means (eqb-true answer 0 z)).rest
        by false n = ap (drop 56) (words-unchanged limit editions e es xs words (eqb-false answer 0 n))

    -- and what gives it: the shared answer, and 56 words
    pub read-events-accepts : check_events limit editions e es xs ≡ 0 → 56 ≤ length words → answer ≡ 0
    unfolding read_events
    read-events-accepts c m = rw (eq-eqb (check_events limit editions e es xs) 0 c, le-leb 56 (length words) m) refl

  -- one meaning: whatever the lent words held before, they say the same
  pub one-meaning-events : (words₁ words₂ : List ℕ) → (read_events limit editions e es xs words₁).answer ≡ 0 → (read_events limit editions e es xs words₂).answer ≡ 0
      → take 56 (read_events_words limit editions e es xs words₁) ≡ take 56 (read_events_words limit editions e es xs words₂)
  one-meaning-events words₁ words₂ p q = (read-events-means words₁ p).own ∙ sym (read-events-means words₂ q).own
