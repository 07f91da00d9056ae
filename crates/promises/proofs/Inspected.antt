-- M-112: the number inspected, and record check with a table: demand 1 (its numbers, each for its own reason), demand 3, and the call with one attribute
-- set beside it. `record_check_events` and `read_events` are the right sides of the contracts of `ollskuvan_check_events` and `ollskuvan_read_events`, with
-- the limit and the editions of this build. Assumes nothing.
use Rattle.std.specs.Prelude.{◌≡◌, List, [], ◌∷◌, ◌++◌, Bool, not, ◌&&◌, ◌||◌, leb, ltb}
use Rattle.std.proofs.Math.Path.{refl, ap, ap₂, subst}
use Rattle.std.proofs.Common.{sym, ◌∙◌}
use Rattle.std.proofs.Math.Bool.{true, false, cond}
use Prim.Native.Nat.{ℕ, ◌+◌, ◌-◌, ◌%◌, ◌<◌, ◌≤◌}
use native.Mathlib.Omega.{arith}
use Rattle.std.proofs.Math.Dec.{eqb}
use Rattle.std.proofs.Math.ListN.{length, get_or}
use borrow.Author.Tests.{eqb-true, eqb-false, eq-eqb, ne_eqb, leb-false, lt-leb}
use Rattle.meaning.specs.declared.Event.{Event}
use Rattle.meaning.specs.declared.Known.{Known}
use Rattle.meaning.specs.Bytes.{put}
use Rattle.meaning.specs.Refusals.{Refusal, refusal, first, or_else}
use Rattle.meaning.specs.Editions.{editions, known, allowed, outside, knows, kind, sample_bit, is_in, is_unknown}
use Rattle.meaning.specs.Records.{layout, kind_of, size_of, flag_of, judge, check_by, check, record_check}
use Rattle.meaning.specs.Values.{value_words, record_words}
use Rattle.meaning.specs.Events.{attributes_of, identifiers, identifier_of, index_of, seen, index_for, event_for, has_event, sound, gate, eventless, layout_for, unmatched, judge_events, inspected, event_depends, unasked, check_events, check_inspected, judged, record_check_events, read_events, read_events_words}
use Rattle.laws.specs.Bytes.{apart, and-true}
use Rattle.laws.specs.Rows.{or-false, in-more, in-cond, first-in}
use Rattle.laws.specs.Lookup.{index-most, index_in, index_is, identifiers-length}
use Rattle.laws.specs.Matched.{judge-matched}
use Rattle.laws.specs.Inspected.{inspected-is, inspected-most, asked-refused, asked-own}
use Rattle.runs.specs.Cutting.{framed}
use Rattle.editions.specs.Fairness.{rising, Fair}
use Rattle.editions.specs.Numbers.{event_numbers, record_numbers}
use Rattle.editions.proofs.InTable.{not_in, judge-in}
use Rattle.editions.proofs.OneRecord.{kind-outside, fair-free, tested, editions-rise}
use Rattle.editions.proofs.Outside.{outside-less, known-within}
use Rattle.editions.proofs.EventDrains.{one-event-alike}
use Rattle.editions.specs.EventPromise.{EventWords}
use Rattle.editions.proofs.EventRecord.{event-in, event-fair}
use Rattle.event_laws.specs.Match.{matched-has}
use Rattle.promises.proofs.Demand3.{last-fair, known_of}
use Rattle.promises.specs.Checked.{record_rows}
use Rattle.promises.proofs.Checked.{foremost, first-exactly, judge-rows}

-- ---- the number inspected, of a record that is looked at

module _ (k : Known) (es : List Event) (r : List ℕ) where
  -- "equals the entry's index plus one"
  pub inspected-found : unmatched k es r ≡ 0 → inspected k es r ≡ index_for es r + 1
  inspected-found h =
      inspected-is k es r ∙ ap (λ (n : ℕ). cond (eqb n 0) (index_for es r + 1) (cond (eqb n 26) (length es) 0)) h

  -- the entry inspected last is the one that matches; past the table's end nothing is inspected
  pub found-identifier : unmatched k es r ≡ 0 → get_or (identifiers es) (inspected k es r - 1) 0 ≡ identifier_of r
  unfolding has_event
  found-identifier h =
      let w = and-true (leb 16 (length r)) (is_in (identifier_of r) (identifiers es)) (matched-has k es r h) in
      let n : inspected k es r - 1 ≡ index_for es r = omega (arith, inspected-found h) in
      ap (λ (i : ℕ). get_or (identifiers es) i 0) n ∙ index_is (identifier_of r) (identifiers es) (index_in (identifier_of r) (identifiers es) w.1)

  pub looked-within : index_for es r ≤ length es
  looked-within = subst (λ (n : ℕ). index_for es r ≤ n) (identifiers-length es) (index-most (identifier_of r) (identifiers es))

  -- 26 is given for no other reason than the lookup's: an event's own checks do not give it
  none-26 : judge_events k es r ≡ 26 → unmatched k es r ≡ 26
  none-26 h = by (eqb (unmatched k es r) 0) refl (sym (judge-matched k es r) ∙ h)
    where
      by : (b : Bool) → eqb (unmatched k es r) 0 ≡ b → cond b (judge (layout_for k es r) r) (unmatched k es r) ≡ 26 → unmatched k es r ≡ 26
      by true q g = absurd (not_in record_numbers 26 (judge (layout_for k es r) r) refl (judge-in k (attributes_of (event_for es r)) r) g)
      by false q g = g

  -- "the table's length for 26"
  pub inspected-26 : judge_events k es r ≡ 26 → inspected k es r ≡ length es
  inspected-26 h =
      inspected-is k es r ∙ ap (λ (n : ℕ). cond (eqb n 0) (index_for es r + 1) (cond (eqb n 26) (length es) 0)) (none-26 h)

  -- "0 without a lookup": 20, 21 by the edition and 27 come before it
  pub inspected-none : (unmatched k es r ≡ 0 → ⊥) → (unmatched k es r ≡ 26 → ⊥) → inspected k es r ≡ 0
  inspected-none h g =
      inspected-is k es r
      ∙ ap₂ (λ (a b : Bool). cond a (index_for es r + 1) (cond b (length es) 0)) (ne_eqb (unmatched k es r) 0 h) (ne_eqb (unmatched k es r) 26 g)

  pub at_most : inspected k es r ≤ length es
  at_most = inspected-most k es r

  -- the type is unknown: 20; the edition does not know bit 16: 21; the size is below 16: 27. Nothing was inspected
  pub before-20 : (eqb (kind_of r) 0 || ltb k.kinds (kind_of r)) ≡ true → (judge_events k es r ≡ 20) × (inspected k es r ≡ 0)
  unfolding judge_events inspected first
  before-20 h = (rw h refl, rw h refl)

  module _ (t : (eqb (kind_of r) 0 || ltb k.kinds (kind_of r)) ≡ false) where
    pub before-21 : knows k (sample_bit 16) ≡ false → (judge_events k es r ≡ 21) × (inspected k es r ≡ 0)
    unfolding judge_events inspected first
    before-21 h = (rw (t, h) refl, rw (t, h) refl)

    pub before-27 : knows k (sample_bit 16) ≡ true → leb 16 (length r) ≡ false → (judge_events k es r ≡ 27) × (inspected k es r ≡ 0)
    unfolding judge_events inspected first
    before-27 h l = (rw (t, h, l) refl, rw (t, h, l) refl)

-- ---- record check with a table: "refused by the numbers"

abbrev pub asked_numbers : List ℕ
asked_numbers = 0 ∷ 2 ∷ 11 ∷ 6 ∷ 7 ∷ []

abbrev pub event_check_numbers : List ℕ
event_check_numbers = 2 ∷ 11 ∷ 6 ∷ 7 ∷ event_numbers

module _ (limit : ℕ) (rows : List Known) (e : ℕ) (es : List Event) (xs : List ℕ) where
  unasked-in : is_in (unasked limit rows e es xs) asked_numbers ≡ true
  unfolding unasked
  unasked-in =
      first-in asked_numbers _ _ refl
      (in-cond asked_numbers (leb 8 (length xs)) _ 7
      (in-cond asked_numbers (leb 8 (size_of xs) && eqb (size_of xs % 8) 0) _ 6 (in-cond asked_numbers (eqb (size_of xs) (length xs)) 0 7 refl refl) refl)
      refl)

  pub check-events-in : is_in (check_events limit rows e es xs) event_check_numbers ≡ true
  unfolding check_events
  check-events-in =
      in-cond event_check_numbers (eqb (unasked limit rows e es xs) 0) (judge_events (known rows e) es xs) (unasked limit rows e es xs)
      (in-more event_numbers event_check_numbers (judge_events (known rows e) es xs) refl (event-in (known rows e) es xs))
      (in-more asked_numbers event_check_numbers (unasked limit rows e es xs) refl unasked-in)

  pub record-check-events-in : is_in (record_check_events limit rows e es xs).answer (44 ∷ event_check_numbers) ≡ true
  unfolding record_check_events
  record-check-events-in =
      in-cond (44 ∷ event_check_numbers) (eqb (check_events limit rows e es xs) 0) _ (check_events limit rows e es xs)
      (in-cond (44 ∷ event_check_numbers) (eqb (flag_of (layout_for (known rows e) es xs) xs) 0) 0 44 refl refl)
      (in-more event_check_numbers (44 ∷ event_check_numbers) (check_events limit rows e es xs) refl check-events-in)

  pub read-events-in : (words : List ℕ) → is_in (read_events limit rows e es xs words).answer (40 ∷ event_check_numbers) ≡ true
  unfolding read_events
  read-events-in words =
      in-cond (40 ∷ event_check_numbers) (eqb (check_events limit rows e es xs) 0) _ (check_events limit rows e es xs)
      (in-cond (40 ∷ event_check_numbers) (leb value_words (length words)) 0 40 refl refl)
      (in-more event_check_numbers (40 ∷ event_check_numbers) (check_events limit rows e es xs) refl check-events-in)

  -- ---- the number that is told

  -- 26, by record check: the table's length
  check-26 : check_events limit rows e es xs ≡ 26 → check_inspected limit rows e es xs ≡ length es
  check-26 h = by (eqb (unasked limit rows e es xs) 0) refl
    where
      by : (b : Bool) → eqb (unasked limit rows e es xs) 0 ≡ b → check_inspected limit rows e es xs ≡ length es
      by true q =
          let w = asked-own limit rows e es xs (eqb-true _ _ q) in
          w.1 ∙ inspected-26 (known rows e) es xs (sym w.0 ∙ h)
      by false q =
          let w = asked-refused limit rows e es xs (eqb-false _ _ q) in
          absurd (not_in asked_numbers 26 (unasked limit rows e es xs) refl unasked-in (sym w.0 ∙ h))

  -- an answer that is none of the last step's is the one before it
  shared : (n m k : ℕ) → (m ≡ k → ⊥) → or_else n m ≡ k → n ≡ k
  shared n m k f = by (eqb n 0)
    where
      by : (b : Bool) → cond b m n ≡ k → n ≡ k
      by true h = absurd (f h)
      by false h = h

  of_two : (b : Bool) (x y k : ℕ) → (x ≡ k → ⊥) → (y ≡ k → ⊥) → cond b x y ≡ k → ⊥
  of_two true x y k f g h = f h
  of_two false x y k f g h = g h

  pub told-26 : (record_check_events limit rows e es xs).answer ≡ 26 → (record_check_events limit rows e es xs).inspected ≡ length es
  unfolding record_check_events
  told-26 h =
      check-26 (shared (check_events limit rows e es xs) _ 26 (of_two (eqb (flag_of (layout_for (known rows e) es xs) xs) 0) 0 44 26 (λ z. omega (arith, z)) (λ z. omega (arith, z))) h)

  pub read-26 : (words : List ℕ) → (read_events limit rows e es xs words).answer ≡ 26 → (read_events limit rows e es xs words).inspected ≡ length es
  unfolding read_events
  read-26 words h =
      check-26 (shared (check_events limit rows e es xs) _ 26 (of_two (leb value_words (length words)) 0 40 26 (λ z. omega (arith, z)) (λ z. omega (arith, z))) h)

  -- 2, 11, 7 and 6: nothing was inspected
  pub told_none : (unasked limit rows e es xs ≡ 0 → ⊥) → (record_check_events limit rows e es xs).inspected ≡ 0
  unfolding record_check_events
  told_none h = (asked-refused limit rows e es xs h).1

  -- a record that has an event: index plus one, and the event there has the record's identifier
  pub told-found : unasked limit rows e es xs ≡ 0 → unmatched (known rows e) es xs ≡ 0 → (record_check_events limit rows e es xs).inspected ≡ index_for es xs + 1
  unfolding record_check_events
  told-found h g = (asked-own limit rows e es xs h).1 ∙ inspected-found (known rows e) es xs g

  -- whatever is answered, 40 too: both tell the same number, at most the table's length
  pub same_number : (words : List ℕ) → (read_events limit rows e es xs words).inspected ≡ (record_check_events limit rows e es xs).inspected
  unfolding read_events record_check_events
  same_number words = refl

  pub told-most : (record_check_events limit rows e es xs).inspected ≤ length es
  unfolding record_check_events check_inspected
  told-most = by (eqb (unasked limit rows e es xs) 0)
    where
      by : (b : Bool) → cond b (inspected (known rows e) es xs) 0 ≤ length es
      by true = inspected-most (known rows e) es xs
      by false = omega arith

-- ---- each number for its own reason: the rows in the order checked

abbrev pub event_check_rows : ℕ → ℕ → List Event → List ℕ → List Refusal
event_check_rows limit e es xs =
    refusal (not (allowed editions e)) 2
    ∷ refusal (not (sound limit es)) 11
    ∷ refusal (not (leb 8 (length xs))) 7
    ∷ refusal (not (leb 8 (size_of xs) && eqb (size_of xs % 8) 0)) 6
    ∷ refusal (not (eqb (size_of xs) (length xs))) 7
    ∷ (gate (known editions e) (kind_of xs) ++ (eventless es xs ++ record_rows (known editions e) (attributes_of (event_for es xs)) xs))

pub check-events-rows : (limit e : ℕ) (es : List Event) (xs : List ℕ) → check_events limit editions e es xs ≡ first (event_check_rows limit e es xs) 0
unfolding check_events unasked judge_events first
check-events-rows limit e es xs =
    five (allowed editions e) (sound limit es) (leb 8 (length xs)) (leb 8 (size_of xs) && eqb (size_of xs % 8) 0) (eqb (size_of xs) (length xs)) _ _
    (ap (λ (n : ℕ). first (gate (known editions e) (kind_of xs)) (first (eventless es xs) n)) (judge-rows (known editions e) (attributes_of (event_for es xs)) xs))
  where
    five : (p t q r s : Bool) (x y : ℕ) → x ≡ y
        → or_else (cond (not p) 2 (cond (not t) 11 (cond q (cond r (cond s 0 7) 6) 7))) x
        ≡ cond (not p) 2 (cond (not t) 11 (cond (not q) 7 (cond (not r) 6 (cond (not s) 7 y))))
    five false t q r s x y e = refl
    five true false q r s x y e = refl
    five true true false r s x y e = refl
    five true true true false s x y e = refl
    five true true true true false x y e = refl
    five true true true true true x y e = e

-- a number is given exactly when its row holds and no row before it does
pub check-events-exactly : (limit e : ℕ) (es : List Event) (xs : List ℕ) (k : ℕ) → 0 < k
    → (check_events limit editions e es xs ≡ k → foremost k (event_check_rows limit e es xs) ≡ true)
    × (foremost k (event_check_rows limit e es xs) ≡ true → check_events limit editions e es xs ≡ k)
check-events-exactly limit e es xs k p =
    let x = first-exactly k p (event_check_rows limit e es xs) in
    let q = check-events-rows limit e es xs in
    (λ h. x.0 (sym q ∙ h), λ h. q ∙ x.1 h)

-- a last step that gives its number m in the place of 0 alone: m is given exactly where the step before it gives 0 and this one holds, every other number as before it
module _ (n m : ℕ) (b : Bool) (own : n ≡ m → ⊥) (some : 0 < m) where
  pub last-own : (or_else n (cond b 0 m) ≡ m → (n ≡ 0) × (b ≡ false)) × ((n ≡ 0) × (b ≡ false) → or_else n (cond b 0 m) ≡ m)
  last-own = (λ h. by (eqb n 0) b refl refl h, λ w. rw (eq-eqb n 0 w.0, w.1) refl)
    where
      by : (t u : Bool) → eqb n 0 ≡ t → b ≡ u → cond t (cond u 0 m) n ≡ m → (n ≡ 0) × (u ≡ false)
      by true true p q h = absurd (omega (arith, h, some))
      by true false p q h = (eqb-true n 0 p, refl)
      by false u p q h = absurd (own h)

  pub last-other : (k : ℕ) → 0 < k → (m ≡ k → ⊥) → (or_else n (cond b 0 m) ≡ k → n ≡ k) × (n ≡ k → or_else n (cond b 0 m) ≡ k)
  last-other k p d = (λ h. by (eqb n 0) b h, λ h. rw (ne_eqb n 0 (λ z. omega (arith, p, h, z))) h)
    where
      by : (t u : Bool) → cond t (cond u 0 m) n ≡ k → n ≡ k
      by true true h = absurd (omega (arith, p, h))
      by true false h = absurd (d h)
      by false u h = h

module _ (limit e : ℕ) (es : List Event) (xs : List ℕ) where
  never : (m : ℕ) → is_in m event_check_numbers ≡ false → check_events limit editions e es xs ≡ m → ⊥
  never m h = not_in event_check_numbers m (check_events limit editions e es xs) h (check-events-in limit editions e es xs)

  -- `ollskuvan_check_events`: 44 exactly where the record is sound and its name has stale bytes; every other number exactly by its row
  pub check-events-44 : ((record_check_events limit editions e es xs).answer ≡ 44 → (check_events limit editions e es xs ≡ 0) × (flag_of (layout_for (known editions e) es xs) xs ≡ 0 → ⊥))
      × ((check_events limit editions e es xs ≡ 0) × (flag_of (layout_for (known editions e) es xs) xs ≡ 0 → ⊥) → (record_check_events limit editions e es xs).answer ≡ 44)
  unfolding record_check_events
  check-events-44 =
      let f : ℕ = flag_of (layout_for (known editions e) es xs) xs in
      let w = last-own (check_events limit editions e es xs) 44 (eqb f 0) (never 44 refl) (omega arith) in
      (λ h. ((w.0 h).0, eqb-false f 0 (w.0 h).1), λ h. w.1 (h.0, ne_eqb f 0 h.1))

  pub record-check-events-exactly : (k : ℕ) → 0 < k → (44 ≡ k → ⊥)
      → ((record_check_events limit editions e es xs).answer ≡ k → foremost k (event_check_rows limit e es xs) ≡ true)
      × (foremost k (event_check_rows limit e es xs) ≡ true → (record_check_events limit editions e es xs).answer ≡ k)
  unfolding record_check_events
  record-check-events-exactly k p d =
      let w = last-other (check_events limit editions e es xs) 44 (eqb (flag_of (layout_for (known editions e) es xs) xs) 0) (never 44 refl) (omega arith) k p d in
      let x = check-events-exactly limit e es xs k p in
      (λ h. x.0 (w.0 h), λ h. w.1 (x.1 h))

  -- `ollskuvan_read_events`: 40 exactly where the record is sound and fewer than 56 words are lent; every other number exactly by its row
  module _ (words : List ℕ) where
    pub read-events-40 : ((read_events limit editions e es xs words).answer ≡ 40 → (check_events limit editions e es xs ≡ 0) × (length words < 56))
        × ((check_events limit editions e es xs ≡ 0) × (length words < 56) → (read_events limit editions e es xs words).answer ≡ 40)
    unfolding read_events
    read-events-40 =
        let w = last-own (check_events limit editions e es xs) 40 (leb value_words (length words)) (never 40 refl) (omega arith) in
        (λ h. ((w.0 h).0, leb-false value_words (length words) (w.0 h).1), λ h. w.1 (h.0, lt-leb value_words (length words) h.1))

    pub read-events-exactly : (k : ℕ) → 0 < k → (40 ≡ k → ⊥)
        → ((read_events limit editions e es xs words).answer ≡ k → foremost k (event_check_rows limit e es xs) ≡ true)
        × (foremost k (event_check_rows limit e es xs) ≡ true → (read_events limit editions e es xs words).answer ≡ k)
    unfolding read_events
    read-events-exactly k p d =
        let w = last-other (check_events limit editions e es xs) 40 (leb value_words (length words)) (never 40 refl) (omega arith) k p d in
        let x = check-events-exactly limit e es xs k p in
        (λ h. x.0 (w.0 h), λ h. w.1 (x.1 h))

-- ---- demand 3, over any table of editions that rises: the answer that record check and the reader of words share

pub check-events-fair : (limit : ℕ) (rows : List Known) → rising rows ≡ true → (e₁ e₂ : ℕ) → e₁ ≤ e₂ → allowed rows e₁ ≡ true → allowed rows e₂ ≡ true
    → (es : List Event) → EventWords es → (xs : List ℕ)
    → Fair (check_events limit rows e₁ es xs) (check_events limit rows e₂ es xs) (sound limit es && (framed xs && outside (known rows e₁) (event_depends es xs)))
unfolding check_events unasked first is_unknown
check-events-fair limit rows up e₁ e₂ order is₁ is₂ es ws xs = rw (is₁, is₂) (by (sound limit es))
  where
    l : Bool
    l = leb 8 (length xs)

    s : Bool
    s = leb 8 (size_of xs) && eqb (size_of xs % 8) 0

    d : Bool
    d = eqb (size_of xs) (length xs)

    pass : (a b c : Bool) (x : ℕ) → cond a (cond b (cond c x 7) 6) 7 ≡ or_else (cond a (cond b (cond c 0 7) 6) 7) x
    pass false b c x = refl
    pass true false c x = refl
    pass true true false x = refl
    pass true true true x = refl

    by : (t : Bool)
        → Fair (or_else (cond (not t) 11 (cond l (cond s (cond d 0 7) 6) 7)) (judge_events (known rows e₁) es xs))
        (or_else (cond (not t) 11 (cond l (cond s (cond d 0 7) 6) 7)) (judge_events (known rows e₂) es xs))
        (t && (framed xs && outside (known rows e₁) (event_depends es xs)))
    by false = fair-free 11 refl
    by true =
        subst (λ (n : ℕ). Fair n (or_else (cond l (cond s (cond d 0 7) 6) 7) (judge_events (known rows e₂) es xs)) (framed xs && outside (known rows e₁) (event_depends es xs))) (pass l s d (judge_events (known rows e₁) es xs))
        (subst (λ (n : ℕ). Fair (cond l (cond s (cond d (judge_events (known rows e₁) es xs) 7) 6) 7) n (framed xs && outside (known rows e₁) (event_depends es xs))) (pass l s d (judge_events (known rows e₂) es xs))
        (tested l s d (judge_events (known rows e₁) es xs) (judge_events (known rows e₂) es xs) (outside (known rows e₁) (event_depends es xs)) (event-fair rows up e₁ e₂ order is₂ es ws xs)))

pub older-check-events : (limit e₁ e₂ : ℕ) → e₁ ≤ e₂ → allowed editions e₁ ≡ true → allowed editions e₂ ≡ true → (es : List Event) → EventWords es → (xs : List ℕ)
    → Fair (check_events limit editions e₁ es xs) (check_events limit editions e₂ es xs) (sound limit es && (framed xs && outside (known editions e₁) (event_depends es xs)))
older-check-events limit e₁ e₂ order is₁ is₂ = check-events-fair limit editions editions-rise e₁ e₂ order is₁ is₂

-- and the number inspected is the same where nothing lies outside
gate-passes : (k : Known) (t : ℕ) → outside k (kind t ∷ sample_bit 16 ∷ []) ≡ false → first (gate k t) 0 ≡ 0
unfolding outside first
gate-passes k t h =
    let w = or-false (not (knows k (kind t))) (not (knows k (sample_bit 16)) || false) h in
    let v = or-false (not (knows k (sample_bit 16))) false w.1 in
    rw (kind-outside k t ∙ w.0, v.0) refl

pub inspected-alike : (rows : List Known) → rising rows ≡ true → (e₁ e₂ : ℕ) → e₁ ≤ e₂ → allowed rows e₂ ≡ true → (es : List Event) (r : List ℕ)
    → outside (known rows e₁) (event_depends es r) ≡ false → inspected (known rows e₁) es r ≡ inspected (known rows e₂) es r
unfolding inspected event_depends outside
inspected-alike rows up e₁ e₂ order is₂ es r h =
    let k : Known = known rows e₁ in
    let w = or-false (not (knows k (kind (kind_of r)))) _ h in
    let v = or-false (not (knows k (sample_bit 16))) _ w.1 in
    let near : outside k (kind (kind_of r) ∷ sample_bit 16 ∷ []) ≡ false = rw (w.0, v.0) refl in
    ap (λ (n : ℕ). cond (eqb n 0 && leb 16 (length r)) (seen (identifier_of r) (identifiers es)) 0)
    (gate-passes k (kind_of r) near
    ∙ sym (gate-passes (known rows e₂) (kind_of r) (outside-less k (known rows e₂) (known-within rows up e₁ e₂ order is₂) (kind (kind_of r) ∷ sample_bit 16 ∷ []) near)))

-- ---- "The call with one attribute set remains": a record that carries the one event's identifier is answered as with its attributes

one-for : (v : Event) (r : List ℕ) → identifier_of r ≡ v.identifier → event_for (v ∷ []) r ≡ v
unfolding index_of
one-for v r e = rw (eq-eqb v.identifier (identifier_of r) (sym e)) refl

-- 2, then 7, 6, 7, then the answer: in both forms
two-forms : (a b c d : Bool) (x y : ℕ) → x ≡ y → or_else (cond (not a) 2 (cond b (cond c (cond d 0 7) 6) 7)) x ≡ cond a (cond b (cond c (cond d y 7) 6) 7) 2
two-forms false b c d x y q = refl
two-forms true false c d x y q = refl
two-forms true true false d x y q = refl
two-forms true true true false x y q = refl
two-forms true true true true x y q = q

module _ (limit : ℕ) (v : Event) (t : sound limit (v ∷ []) ≡ true) (rows : List Known) (e : ℕ) (xs : List ℕ) (l : 16 ≤ length xs) (i : identifier_of xs ≡ v.identifier) where
  one_answer : check_events limit rows e (v ∷ []) xs ≡ check rows e (attributes_of v) xs
  unfolding check_events unasked check check_by first
  one_answer =
      rw t
      (two-forms (allowed rows e) (leb 8 (length xs)) (leb 8 (size_of xs) && eqb (size_of xs % 8) 0) (eqb (size_of xs) (length xs)) _ _
      (one-event-alike limit v t (known rows e) xs l i))

  pub one-event-check : (record_check_events limit rows e (v ∷ []) xs).answer ≡ record_check rows e (attributes_of v) xs
  unfolding record_check_events record_check
  one-event-check =
      ap₂ (λ (m n : ℕ). or_else m (cond (eqb n 0) 0 44)) one_answer
      (ap (λ (w : Event). flag_of (layout (known rows e) (attributes_of w)) xs) (one-for v xs i))

-- ---- a refusal changes nothing

pub words-unchanged : (limit : ℕ) (rows : List Known) (e : ℕ) (es : List Event) (xs words : List ℕ) → ((read_events limit rows e es xs words).answer ≡ 0 → ⊥)
    → read_events_words limit rows e es xs words ≡ words
unfolding read_events_words
words-unchanged limit rows e es xs words h = simp (ne_eqb (read_events limit rows e es xs words).answer 0 h)

-- ---- demand 3 as C calls it: 44 of record check and 40 of the reader of words stand in the place of 0 alone, and say nothing of what an edition knows

-- what is looked at is one record by its header, under a table that is sound
asked-parts : (t l s d : Bool) → eqb (cond (not t) 11 (cond l (cond s (cond d 0 7) 6) 7)) 0 ≡ true → (t ≡ true) × ((l && (s && d)) ≡ true)
asked-parts false l s d h = absurd (apart h)
asked-parts true false s d h = absurd (apart h)
asked-parts true true false d h = absurd (apart h)
asked-parts true true true false h = absurd (apart h)
asked-parts true true true true h = (refl, refl)

module _ (limit : ℕ) (rows : List Known) (up : rising rows ≡ true) (e₁ e₂ : ℕ) (order : e₁ ≤ e₂) (is₁ : allowed rows e₁ ≡ true) (is₂ : allowed rows e₂ ≡ true)
    (es : List Event) (ws : EventWords es) (xs : List ℕ) where
  -- does something on which the record's reading depends lie outside what the older edition knows? What is no record, or under no table, depends on nothing
  abbrev pub record_outside : Bool
  record_outside = sound limit es && (framed xs && outside (known rows e₁) (event_depends es xs))

  shared-fair : Fair (check_events limit rows e₁ es xs) (check_events limit rows e₂ es xs) record_outside
  shared-fair = check-events-fair limit rows up e₁ e₂ order is₁ is₂ es ws xs

  same-unasked : unasked limit rows e₁ es xs ≡ unasked limit rows e₂ es xs
  unfolding unasked
  same-unasked = rw (is₁, is₂) refl

  -- where nothing does, the number inspected is the same
  same-inspected : record_outside ≡ false → check_inspected limit rows e₁ es xs ≡ check_inspected limit rows e₂ es xs
  unfolding check_inspected unasked first
  same-inspected o =
      by (eqb (unasked limit rows e₁ es xs) 0) refl
      ∙ ap (λ (n : ℕ). cond (eqb n 0) (inspected (known rows e₂) es xs) 0) same-unasked
    where
      near : eqb (unasked limit rows e₁ es xs) 0 ≡ true → outside (known rows e₁) (event_depends es xs) ≡ false
      near q =
          let w = asked-parts (sound limit es) (leb 8 (length xs)) (leb 8 (size_of xs) && eqb (size_of xs % 8) 0) (eqb (size_of xs) (length xs)) (rw is₁ at q) in
          rw (w.0, w.1) at o

      by : (b : Bool) → eqb (unasked limit rows e₁ es xs) 0 ≡ b → cond b (inspected (known rows e₁) es xs) 0 ≡ cond b (inspected (known rows e₂) es xs) 0
      by true q = inspected-alike rows up e₁ e₂ order is₂ es xs (near q)
      by false q = refl

  -- the flag is the same in both (M-107)
  same-event-flag : flag_of (layout_for (known rows e₁) es xs) xs ≡ flag_of (layout_for (known rows e₂) es xs) xs
  unfolding flag_of layout
  same-event-flag = refl

  -- `ollskuvan_check_events`: the answers, 44 among them, are fair
  pub record-check-events-fair : Fair (record_check_events limit rows e₁ es xs).answer (record_check_events limit rows e₂ es xs).answer record_outside
  unfolding record_check_events is_unknown
  record-check-events-fair =
      let stale : ℕ = cond (eqb (flag_of (layout_for (known rows e₁) es xs) xs) 0) 0 44 in
      subst (λ (n : ℕ). Fair (or_else (check_events limit rows e₁ es xs) stale) (or_else (check_events limit rows e₂ es xs) (cond (eqb n 0) 0 44)) record_outside) same-event-flag
      (last-fair (check_events limit rows e₁ es xs) (check_events limit rows e₂ es xs) stale record_outside (known_of (eqb (flag_of (layout_for (known rows e₁) es xs) xs) 0) 44 refl) shared-fair)

  -- and where nothing lies outside all that is told is the same, the number inspected too
  pub record-check-events-alike : record_outside ≡ false → record_check_events limit rows e₁ es xs ≡ record_check_events limit rows e₂ es xs
  unfolding record_check_events
  record-check-events-alike o = ap₂ judged (record-check-events-fair.alike o) (same-inspected o)

  -- `ollskuvan_read_events`: the answers, 40 among them, are fair; where nothing lies outside all that is told is the same, and the words are
  module _ (words : List ℕ) where
    pub read-events-fair : Fair (read_events limit rows e₁ es xs words).answer (read_events limit rows e₂ es xs words).answer record_outside
    unfolding read_events is_unknown
    read-events-fair =
        last-fair (check_events limit rows e₁ es xs) (check_events limit rows e₂ es xs) (cond (leb value_words (length words)) 0 40) record_outside
        (known_of (leb value_words (length words)) 40 refl) shared-fair

    pub read-events-alike : record_outside ≡ false
        → (read_events limit rows e₁ es xs words ≡ read_events limit rows e₂ es xs words) × (read_events_words limit rows e₁ es xs words ≡ read_events_words limit rows e₂ es xs words)
    unfolding read_events read_events_words record_words layout
    read-events-alike o =
        let n = read-events-fair.alike o in
        (ap₂ judged n (same-inspected o), ap (λ (m : ℕ). cond (eqb m 0) (put words 0 (record_words (layout_for (known rows e₁) es xs) xs)) words) n)

    -- where something does, the older edition leaves the words as they were
    pub read-events-unknown : record_outside ≡ true → read_events_words limit rows e₁ es xs words ≡ words
    unfolding is_unknown
    read-events-unknown o =
        words-unchanged limit rows e₁ es xs words (λ z. apart (ap is_unknown (sym z) ∙ read-events-fair.exact ∙ o))

-- ---- "two of the editions that 01 lists"
module _ (limit e₁ e₂ : ℕ) (order : e₁ ≤ e₂) (is₁ : allowed editions e₁ ≡ true) (is₂ : allowed editions e₂ ≡ true) (es : List Event) (ws : EventWords es) (xs : List ℕ) where
  abbrev out : Bool
  out = sound limit es && (framed xs && outside (known editions e₁) (event_depends es xs))

  pub older-record-check-events : Fair (record_check_events limit editions e₁ es xs).answer (record_check_events limit editions e₂ es xs).answer out
      × (out ≡ false → record_check_events limit editions e₁ es xs ≡ record_check_events limit editions e₂ es xs)
  older-record-check-events = (
    record-check-events-fair limit editions editions-rise e₁ e₂ order is₁ is₂ es ws xs,
    record-check-events-alike limit editions editions-rise e₁ e₂ order is₁ is₂ es ws xs,
  )

  pub older-read-events : (words : List ℕ)
      → Fair (read_events limit editions e₁ es xs words).answer (read_events limit editions e₂ es xs words).answer out
      × (out ≡ false
      → (read_events limit editions e₁ es xs words ≡ read_events limit editions e₂ es xs words)
      × (read_events_words limit editions e₁ es xs words ≡ read_events_words limit editions e₂ es xs words))
      × (out ≡ true → read_events_words limit editions e₁ es xs words ≡ words)
  older-read-events words = (
    read-events-fair limit editions editions-rise e₁ e₂ order is₁ is₂ es ws xs words,
    read-events-alike limit editions editions-rise e₁ e₂ order is₁ is₂ es ws xs words,
    read-events-unknown limit editions editions-rise e₁ e₂ order is₁ is₂ es ws xs words,
  )
