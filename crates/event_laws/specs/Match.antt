-- Where a record's event stands, or why it has none: a definition, and laws of it. Assumes nothing.
use Rattle.std.specs.Prelude.{◌≡◌, refl, ℕ, ◌+◌, ◌<◌, Bool, true, false, not, ◌&&◌, ◌||◌, List, leb, ltb, eqb, length, Result, Ok, Err}
use Rattle.meaning.specs.declared.Reason.{Reason}
use Rattle.meaning.specs.Reasons.{number_of}
use Rattle.std.proofs.Math.Path.{ap}
use Rattle.std.proofs.Common.{ap₂, sym, ◌∙◌, subst, arith, eq-eqb, ne_eqb}
use Rattle.std.proofs.Math.Bool.{cond}
use Rattle.meaning.specs.declared.Attributes.{Attributes}
use Rattle.meaning.specs.declared.Event.{Event}
use Rattle.meaning.specs.declared.Known.{Known}
use Rattle.meaning.specs.Refusals.{first}
use Rattle.meaning.specs.Editions.{knows, sample_bit, is_in}
use Rattle.meaning.specs.Records.{layout, kind_of, judge}
use Rattle.meaning.specs.Events.{attributes_of, event_at, identifiers, identifier_of, index_for, has_event, layout_for, unmatched, judge_events, inspected}
use Rattle.laws.specs.Bytes.{and-true}
use Rattle.laws.specs.Lookup.{identifiers-length, index_in}
use Rattle.laws.specs.Matched.{judge-matched}
use Rattle.laws.specs.Inspected.{inspected-is}

-- where a record's event stands in the table, with 0; or why it has none (20, 21 by the edition, 27, 26)
pub record Match : Type 0 where
  pub answer : ℕ
  pub index : ℕ

-- as the code tells it
abbrev pub match_of : Result ℕ Reason → Match
match_of (Ok index) = record { answer = 0; index = index }
match_of (Err reason) = record { answer = number_of reason; index = 0 }

-- 20, 21 by the edition, 27 or 26 with index 0; else 0 with the index of the first event that has the record's identifier
unfoldable pub matched : Known → List Event → List ℕ → Match
matched k es r = record { answer = unmatched k es r; index = cond (eqb (unmatched k es r) 0) (index_for es r) 0 }

-- how many events were inspected for that, of a table of n (M-112)
unfoldable pub inspected_by : Match → ℕ → ℕ
inspected_by m n = cond (eqb m.answer 0) (m.index + 1) (cond (eqb m.answer 26) n 0)

pub inspected-by : (k : Known) (es : List Event) (r : List ℕ) (m : Match) → m ≡ matched k es r → (n : ℕ) → n ≡ length es → inspected_by m n ≡ inspected k es r
unfolding inspected_by matched
inspected-by k es r m e n l = ap₂ inspected_by e l ∙ by (eqb (unmatched k es r) 0) ∙ sym (inspected-is k es r)
  where
    by : (b : Bool) → cond b (cond b (index_for es r) 0 + 1) (cond (eqb (unmatched k es r) 26) (length es) 0)
        ≡ cond b (index_for es r + 1) (cond (eqb (unmatched k es r) 26) (length es) 0)
    by true = refl
    by false = refl

-- ---- what is refused has no event; what is not has one, in the table

pub matched-has : (k : Known) (es : List Event) (r : List ℕ) → unmatched k es r ≡ 0 → has_event es r ≡ true
unfolding unmatched has_event first
matched-has k es r h = by (eqb (kind_of r) 0 || ltb k.kinds (kind_of r)) (not (knows k (sample_bit 16))) (leb 16 (length r)) (is_in (identifier_of r) (identifiers es)) h
  where
    by : (a b l i : Bool) → ◌≡◌ {A = ℕ} (cond a 20 (cond b 21 (cond (not l) 27 (cond (not i) 26 0)))) 0 → (l && i) ≡ true
    by true b l i h = absurd (omega (arith, h))
    by false true l i h = absurd (omega (arith, h))
    by false false false i h = absurd (omega (arith, h))
    by false false true false h = absurd (omega (arith, h))
    by false false true true h = refl

has_there : (es : List Event) (r : List ℕ) → has_event es r ≡ true → index_for es r < length es
unfolding has_event
has_there es r h =
    let w = and-true (leb 16 (length r)) (is_in (identifier_of r) (identifiers es)) h in
    subst (λ (n : ℕ). index_for es r < n) (identifiers-length es) (index_in (identifier_of r) (identifiers es) w.1)

module _ (k : Known) (es : List Event) (r : List ℕ) (m : Match) (e : m ≡ matched k es r) where
  said : m.answer ≡ unmatched k es r
  unfolding matched
  said = ap (λ (x : Match). x.answer) e

  -- a refusal is the record's answer
  pub match-refused : (m.answer ≡ 0 → ⊥) → m.answer ≡ judge_events k es r
  match-refused h =
      said ∙ sym (judge-matched k es r ∙ ap (λ (b : Bool). cond b (judge (layout_for k es r) r) (unmatched k es r)) (ne_eqb (unmatched k es r) 0 (λ z. h (said ∙ z))))

  module _ (h : m.answer ≡ 0) where
    none : unmatched k es r ≡ 0
    none = sym said ∙ h

    pub match-index : m.index ≡ index_for es r
    unfolding matched
    match-index = ap (λ (x : Match). x.index) e ∙ ap (λ (b : Bool). cond b (index_for es r) 0) (eq-eqb (unmatched k es r) 0 none)

    pub match-has : has_event es r ≡ true
    match-has = matched-has k es r none

    pub match-there : m.index < length es
    match-there = subst (λ (i : ℕ). i < length es) (sym match-index) (has_there es r match-has)

    pub match-event : attributes_of (event_at es m.index) ≡ attributes_of (event_at es (index_for es r))
    match-event = ap (λ (i : ℕ). attributes_of (event_at es i)) match-index

    -- then the answer is the event's own
    pub match-own : (a : Attributes) → a ≡ attributes_of (event_at es m.index) → judge (layout k a) r ≡ judge_events k es r
    match-own a ea =
        ap (λ (b : Attributes). judge (layout k b) r) (ea ∙ match-event)
        ∙ sym (judge-matched k es r ∙ ap (λ (b : Bool). cond b (judge (layout_for k es r) r) (unmatched k es r)) (eq-eqb (unmatched k es r) 0 none))
