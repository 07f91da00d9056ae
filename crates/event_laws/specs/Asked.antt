-- Record check and the reader of words under a table: what is asked first, then the match, then the event's own. Assumes nothing.
use Rattle.std.specs.Prelude.{◌≡◌, Bool, ◌&&◌, ℕ, ◌%◌, ◌<◌, ◌≤◌, leb, length}
use Rattle.std.proofs.Math.Path.{refl, sym, ap, ap₂}
use Rattle.std.proofs.Common.{◌∙◌, arith}
use mathlib.Core.List.{List}
use Rattle.std.proofs.Math.Bool.{true, false, cond}
use Rattle.std.proofs.Math.Dec.{eqb}
use borrow.Author.Tests.{eq-eqb, ne_eqb, lt-leb, le-leb}
use Rattle.meaning.specs.declared.Attributes.{Attributes}
use Rattle.meaning.specs.declared.Event.{Event}
use Rattle.meaning.specs.declared.Judged.{Judged}
use Rattle.meaning.specs.declared.Known.{Known}
use Rattle.meaning.specs.Bytes.{put}
use Rattle.meaning.specs.Refusals.{first, or_else}
use Rattle.meaning.specs.Editions.{known, allowed}
use Rattle.meaning.specs.Records.{layout, size_of, judge, checked_by, check_by, check, flag_of, record_check}
use Rattle.meaning.specs.Values.{value_words, record_words}
use Rattle.meaning.specs.Events.{attributes_of, event_at, event_for, sound, layout_for, unmatched, inspected, judged, unasked, check_events, record_check_events, read_events, read_events_words}
use Rattle.laws.specs.Matched.{judge-matched}
use Rattle.laws.specs.Inspected.{asked-refused, asked-own, looked}
use Rattle.record.specs.Into.{read_into_answer, read_into_words}
use Rattle.event_laws.specs.Match.{Match, matched, match-event}
use Rattle.event_laws.specs.Told.{read_event_answer, check_event_answer, read_event_words}

module _ (rows : List Known) (e : ℕ) (es : List Event) (r : List ℕ) (m : Match) (em : m ≡ matched (known rows e) es r) where
  said : m.answer ≡ unmatched (known rows e) es r
  unfolding matched
  said = ap (λ (x : Match). x.answer) em

  -- refused: that is the answer, and the words stay
  module _ (h : m.answer ≡ 0 → ⊥) where
    none : eqb (unmatched (known rows e) es r) 0 ≡ false
    none = ne_eqb (unmatched (known rows e) es r) 0 (λ z. h (said ∙ z))

    pub check-none : m.answer ≡ check_event_answer rows e es r
    unfolding check_event_answer
    check-none = said ∙ sym (simp none)

    pub read_none : (words : List ℕ) → (m.answer ≡ read_event_answer rows e es r words) × (words ≡ read_event_words rows e es r words)
    unfolding read_event_answer read_event_words
    read_none words = (said ∙ sym (simp none), sym (simp none))

  -- else the reader, or record check, under the event's attributes
  module _ (h : m.answer ≡ 0) (a : Attributes) (ea : a ≡ attributes_of (event_at es m.index)) where
    own : eqb (unmatched (known rows e) es r) 0 ≡ true
    own = eq-eqb (unmatched (known rows e) es r) 0 (sym said ∙ h)

    at : a ≡ attributes_of (event_for es r)
    at = ea ∙ match-event (known rows e) es r m em h

    pub check-own : record_check rows e a r ≡ check_event_answer rows e es r
    unfolding check_event_answer
    check-own = ap (λ (b : Attributes). record_check rows e b r) at ∙ sym (simp own)

    pub read-own : (words : List ℕ)
        → (read_into_answer rows e a r words ≡ read_event_answer rows e es r words) × (read_into_words rows e a r words ≡ read_event_words rows e es r words)
    unfolding read_event_answer read_event_words
    read-own words = (ap (λ (b : Attributes). read_into_answer rows e b r words) at ∙ sym (simp own), ap (λ (b : Attributes). read_into_words rows e b r words) at ∙ sym (simp own))

-- ---- record check with a table, and the reader of its words

module _ (limit : ℕ) (rows : List Known) (e : ℕ) (es : List Event) (xs : List ℕ) where
  pub asks-2 : allowed rows e ≡ false → 2 ≡ unasked limit rows e es xs
  unfolding unasked first
  asks-2 h = sym (simp h)

  module _ (a : allowed rows e ≡ true) where
    pub asks-11 : sound limit es ≡ false → 11 ≡ unasked limit rows e es xs
    unfolding unasked first
    asks-11 h = sym (simp (a, h))

    module _ (t : sound limit es ≡ true) where
      -- the rest asks no edition and no table
      pub asks-rest : checked_by (λ (ys : List ℕ). 0) xs ≡ unasked limit rows e es xs
      unfolding unasked first
      asks-rest = sym (simp (a, t))

      pub asks-short : length xs < 8 → 7 ≡ unasked limit rows e es xs
      unfolding unasked first
      asks-short h = sym (simp (a, t, lt-leb 8 (length xs) h))

      module _ (l : 8 ≤ length xs) (size : ℕ) (z : size ≡ size_of xs) where
        even : (b : Bool) → (leb 8 size && eqb (size % 8) 0) ≡ b → (leb 8 (size_of xs) && eqb (size_of xs % 8) 0) ≡ b
        even b h = sym (ap (λ (n : ℕ). leb 8 n && eqb (n % 8) 0) z) ∙ h

        pub asks-6 : (leb 8 size && eqb (size % 8) 0) ≡ false → 6 ≡ unasked limit rows e es xs
        unfolding unasked first
        asks-6 h = sym (rw (a, t, le-leb 8 (length xs) l, even false h) refl)

        module _ (v : (leb 8 size && eqb (size % 8) 0) ≡ true) where
          pub asks-7 : eqb size (length xs) ≡ false → 7 ≡ unasked limit rows e es xs
          unfolding unasked first
          asks-7 h = sym (rw (a, t, le-leb 8 (length xs) l, even true v, sym (ap (λ (n : ℕ). eqb n (length xs)) z) ∙ h) refl)

          pub asks-0 : eqb size (length xs) ≡ true → 0 ≡ unasked limit rows e es xs
          unfolding unasked first
          asks-0 h = sym (rw (a, t, le-leb 8 (length xs) l, even true v, sym (ap (λ (n : ℕ). eqb n (length xs)) z) ∙ h) refl)

  -- refused before the record is looked at
  module _ (h : unasked limit rows e es xs ≡ 0 → ⊥) where
    pub check-refused : judged (unasked limit rows e es xs) 0 ≡ record_check_events limit rows e es xs
    unfolding record_check_events
    check-refused =
        let w = asked-refused limit rows e es xs h in
        sym (ap₂ (λ (m n : ℕ). judged (or_else m (cond (eqb (flag_of (layout_for (known rows e) es xs) xs) 0) 0 44)) n) w.0 w.1
        ∙ ap (λ (b : Bool). judged (cond b (cond (eqb (flag_of (layout_for (known rows e) es xs) xs) 0) 0 44) (unasked limit rows e es xs)) 0) (ne_eqb (unasked limit rows e es xs) 0 h))

    pub read-refused : (words : List ℕ)
        → (judged (unasked limit rows e es xs) 0 ≡ read_events limit rows e es xs words) × (words ≡ read_events_words limit rows e es xs words)
    unfolding read_events read_events_words
    read-refused words =
        let w = asked-refused limit rows e es xs h in
        let n = ne_eqb (unasked limit rows e es xs) 0 h in
        let p = sym (ap₂ (λ (m n : ℕ). judged (or_else m (cond (leb value_words (length words)) 0 40)) n) w.0 w.1
        ∙ ap (λ (b : Bool). judged (cond b (cond (leb value_words (length words)) 0 40) (unasked limit rows e es xs)) 0) n) in
        (p, sym (ap (λ (j : Judged). cond (eqb j.answer 0) (put words 0 (record_words (layout_for (known rows e) es xs) xs)) words) (sym p) ∙ ap (λ (b : Bool). cond b (put words 0 (record_words (layout_for (known rows e) es xs) xs)) words) n))

  -- else under the event's attributes: 2, 7, 6, 7 were asked, so what is left of record check is the judge
  module _ (h : unasked limit rows e es xs ≡ 0) where
    left : (a : Attributes) → check rows e a xs ≡ judge (layout (known rows e) a) xs
    unfolding check check_by
    left a =
        let w = looked limit rows e es xs h in
        let z = w.size_is in
        rw (w.edition, le-leb 8 (length xs) w.low, le-leb 8 (size_of xs) (omega (arith, w.low, z)), eq-eqb (size_of xs % 8) 0 (ap (λ (n : ℕ). n % 8) z ∙ w.eights), eq-eqb (size_of xs) (length xs) z) refl

    nested : (m n k : ℕ) → or_else (or_else m n) k ≡ or_else m (or_else n k)
    nested m n k = by (eqb m 0) refl
      where
        by : (b : Bool) → eqb m 0 ≡ b → cond (eqb (cond b n m) 0) k (cond b n m) ≡ cond b (or_else n k) m
        by true q = refl
        by false q = rw q refl

    -- the answer that both share, and then k
    shared : (k : ℕ)
        → or_else (unmatched (known rows e) es xs) (or_else (check rows e (attributes_of (event_for es xs)) xs) k) ≡ or_else (check_events limit rows e es xs) k
    shared k =
        sym (nested (unmatched (known rows e) es xs) (check rows e (attributes_of (event_for es xs)) xs) k)
        ∙ ap (λ (n : ℕ). or_else n k)
        (ap (or_else (unmatched (known rows e) es xs)) (left (attributes_of (event_for es xs)))
        ∙ sym (judge-matched (known rows e) es xs)
        ∙ sym (asked-own limit rows e es xs h).0)

    pub check-asked : judged (check_event_answer rows e es xs) (inspected (known rows e) es xs) ≡ record_check_events limit rows e es xs
    unfolding check_event_answer record_check record_check_events
    check-asked = ap₂ judged (shared _) (sym (asked-own limit rows e es xs h).1)

    pub read_asked : (words : List ℕ)
        → (judged (read_event_answer rows e es xs words) (inspected (known rows e) es xs) ≡ read_events limit rows e es xs words)
        × (read_event_words rows e es xs words ≡ read_events_words limit rows e es xs words)
    unfolding read_event_answer read_into_answer read_event_words read_into_words read_events read_events_words
    read_asked words = (
      ap₂ judged (shared _) (sym (asked-own limit rows e es xs h).1),
      filled (unmatched (known rows e) es xs) _ (put words 0 (record_words (layout_for (known rows e) es xs) xs)) words
          ∙ ap (λ (n : ℕ). cond (eqb n 0) (put words 0 (record_words (layout_for (known rows e) es xs) xs)) words) (shared _),
    )
      where
        filled : (m n : ℕ) (ys zs : List ℕ) → cond (eqb m 0) (cond (eqb n 0) ys zs) zs ≡ cond (eqb (or_else m n) 0) ys zs
        filled m n ys zs = by (eqb m 0) refl
          where
            by : (b : Bool) → eqb m 0 ≡ b → cond b (cond (eqb n 0) ys zs) zs ≡ cond (eqb (cond b n m) 0) ys zs
            by true q = refl
            by false q = rw q refl
