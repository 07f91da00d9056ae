-- M-100's answers of a record, in words and both ways: "After 20: edition 1 answers 21 to everything; then a size below 16 is 27; an identifier not in the
-- table is 26 (27 and 26 take the record); then the event's own checks from 21 on". The same by rows is in EventEntries. Assumes nothing.
use Rattle.std.specs.Prelude.{◌≡◌, Bool, cond, not, ◌||◌, leb, ltb, length, drop}
use Rattle.std.proofs.Math.Path.{refl, ap, subst}
use Rattle.std.proofs.Common.{sym, ◌∙◌, arith}
use mathlib.Core.List.{List, [], ◌∷◌}
use Rattle.std.proofs.Math.Bool.{true, false}
use Prim.Native.Nat.{ℕ, zero, suc, ◌<◌, ◌≤◌}
use borrow.Author.Tests.{leb-true, leb-false, le-leb, lt-leb, not-true, not-false}
use Rattle.std.proofs.Math.Dec.{eqb}
use Rattle.meaning.specs.declared.Attributes.{Attributes}
use Rattle.meaning.specs.declared.Event.{Event}
use Rattle.meaning.specs.declared.Known.{Known}
use Rattle.meaning.specs.Refusals.{first}
use Rattle.meaning.specs.Editions.{editions, known, allowed, knows, sample_bit, unknowns, clashes, unreadable, is_in}
use Rattle.meaning.specs.Schema.{schema, trailer}
use Rattle.meaning.specs.Records.{layout, kind_of, misc_of, room, fields_answer, judge}
use Rattle.meaning.specs.Events.{attributes_of, identifiers, identifier_of, event_at, event_for, has_event, layout_for, judge_events}
use Rattle.laws.specs.Bytes.{apart, and-true}
use Rattle.laws.specs.Lookup.{identifiers-length, identifier-at, is-in-at, index_in, index_is}
use Rattle.laws.specs.Rows.{in-more, in-cond, first-in}
use Rattle.editions.specs.Numbers.{field_numbers, record_numbers}
use Rattle.editions.proofs.InTable.{not_in, fields_in, judge-in}
use Rattle.promises.proofs.Checked.{lead, hit, other}
use Rattle.promises.proofs.Inspected.{before-20, before-21}

-- in the table: an event of it has that identifier
identifier-in : (es : List Event) (i : ℕ) → i < length es → is_in (event_at es i).identifier (identifiers es) ≡ true
identifier-in es i h = subst (λ (x : ℕ). is_in x (identifiers es) ≡ true) (identifier-at es i) (is-in-at (identifiers es) i (subst (λ (n : ℕ). i < n) (sym (identifiers-length es)) h))

abbrev pub NotInTable : ℕ → List Event → Type 0
NotInTable x es = (i : ℕ) → i < length es → (event_at es i).identifier ≡ x → ⊥

pub not-in-table : (x : ℕ) (es : List Event) → (is_in x (identifiers es) ≡ false → NotInTable x es) × (NotInTable x es → is_in x (identifiers es) ≡ false)
not-in-table x es = (
  λ f i h q. apart (sym f ∙ ap (λ (y : ℕ). is_in y (identifiers es)) (sym q) ∙ identifier-in es i h),
  λ n. by (is_in x (identifiers es)) refl n,
)
  where
    by : (b : Bool) → is_in x (identifiers es) ≡ b → NotInTable x es → b ≡ false
    by true q n =
        let i = index_in x (identifiers es) q in
        absurd (n _ (omega (arith, i, identifiers-length es)) (sym (identifier-at es _) ∙ index_is x (identifiers es) i))
    by false q n = refl

-- of the editions that 01 lists the first alone does not know bit 16
only-the-first : (e : ℕ) → allowed editions e ≡ true → (e ≡ 1 → ⊥) → knows (known editions e) (sample_bit 16) ≡ true
unfolding known
only-the-first zero ok n = absurd (apart ok)
only-the-first (suc zero) ok n = absurd (n refl)
only-the-first (suc (suc zero)) ok n = refl
only-the-first (suc (suc (suc zero))) ok n = refl
only-the-first (suc (suc (suc (suc zero)))) ok n = refl
only-the-first (suc (suc (suc (suc (suc e))))) ok n =
    let m : ℕ = suc (suc (suc (suc (suc e)))) in
    absurd (omega (arith, leb-true m 4 (and-true (leb 1 m) (leb m 4) ok).1))

-- "After 20: edition 1 answers 21 to everything"
pub first-says-21 : (es : List Event) (r : List ℕ) → (eqb (kind_of r) 0 || ltb 9 (kind_of r)) ≡ false → judge_events (known editions 1) es r ≡ 21
unfolding known
first-says-21 es r t = (before-21 (known editions 1) es r t refl).0

-- what an event's own checks may answer after 20, and what M-100 does
abbrev pub from21 : List ℕ
from21 = 0 ∷ 21 ∷ 22 ∷ 23 ∷ 25 ∷ 24 ∷ 30 ∷ 31 ∷ 32 ∷ 33 ∷ []

abbrev after20 : List ℕ
after20 = 27 ∷ 26 ∷ from21

module _ (e : ℕ) (es : List Event) (r : List ℕ) where
  abbrev k : Known
  k = known editions e

  abbrev type_unknown : Bool
  type_unknown = eqb (kind_of r) 0 || ltb k.kinds (kind_of r)

  abbrev long : Bool
  long = leb 16 (length r)

  abbrev there : Bool
  there = is_in (identifier_of r) (identifiers es)

  -- the answer of the record; and the event's own, which is asked last
  abbrev answer : ℕ
  answer = judge_events k es r

  abbrev own : ℕ
  own = judge (layout_for k es r) r

  chained : answer ≡ cond type_unknown 20 (cond (not (knows k (sample_bit 16))) 21 (cond (not long) 27 (cond (not there) 26 own)))
  unfolding judge_events first
  chained = refl

  -- "from 21 on": of a type that the edition knows an event's own checks do not give 20
  pub own-from-21 : type_unknown ≡ false → is_in own from21 ≡ true
  unfolding judge layout unreadable first
  own-from-21 t =
      let a : Attributes = attributes_of (event_for es r) in
      let body : ℕ = fields_answer (schema (kind_of r) (misc_of r) a) (room (trailer (kind_of r) a)) r in
      let late : ℕ = first (drop 1 (unknowns k (kind_of r) (misc_of r) a)) (first (clashes (kind_of r) a) 0) in
      rw t
      (in-cond from21 (eqb late 0) body late
      (in-more field_numbers from21 body refl (fields_in (schema (kind_of r) (misc_of r) a) (room (trailer (kind_of r) a)) r))
      (first-in from21 (drop 1 (unknowns k (kind_of r) (misc_of r) a)) (first (clashes (kind_of r) a) 0) refl (first-in from21 (clashes (kind_of r) a) 0 refl refl)))

  -- 20, as without a table: "type 0 or above the edition's"
  pub says-20 : (answer ≡ 20 → type_unknown ≡ true) × (type_unknown ≡ true → answer ≡ 20)
  says-20 = by type_unknown refl
    where
      after : ℕ → ℕ
      after n = cond (not (knows k (sample_bit 16))) 21 (cond (not long) 27 (cond (not there) 26 n))

      by : (b : Bool) → type_unknown ≡ b → (answer ≡ 20 → b ≡ true) × (b ≡ true → answer ≡ 20)
      by true t = (λ h. refl, λ h. (before-20 k es r t).0)
      by false t = (
        λ h. absurd (not_in after20 20 (after own) refl
            (in-cond after20 (not (knows k (sample_bit 16))) 21 _ refl
            (in-cond after20 (not long) 27 _ refl
            (in-cond after20 (not there) 26 own refl (in-more from21 after20 own refl (own-from-21 t)))))
            (sym (chained ∙ ap (λ (b : Bool). cond b 20 (after own)) t) ∙ h)),
        λ h. absurd (apart h),
      )

  -- past edition 1, which alone does not know bit 16
  module _ (ok : allowed editions e ≡ true) (later : e ≡ 1 → ⊥) where
    later-chained : answer ≡ cond type_unknown 20 (cond (not long) 27 (cond (not there) 26 own))
    later-chained =
        chained ∙ ap (λ (b : Bool). cond type_unknown 20 (cond (not b) 21 (cond (not long) 27 (cond (not there) 26 own)))) (only-the-first e ok later)

    own_in : is_in own record_numbers ≡ true
    own_in = judge-in k (attributes_of (event_for es r)) r

    -- "then a size below 16 is 27"
    pub says-27 : (answer ≡ 27 → (type_unknown ≡ false) × (length r < 16)) × ((type_unknown ≡ false) × (length r < 16) → answer ≡ 27)
    says-27 =
        let w = lead type_unknown 20 27 _ (λ h. omega (arith, h))
        (hit (not long) 27 (cond (not there) 26 own)
        (other 27 (26 ∷ record_numbers) refl _ (in-cond (26 ∷ record_numbers) (not there) 26 own refl (in-more record_numbers (26 ∷ record_numbers) own refl own_in)))) in (
          λ h. let p = w.0 (sym later-chained ∙ h) in (p.0, leb-false 16 (length r) (not-true long p.1)),
          λ p. later-chained ∙ w.1 (p.0, ap not (lt-leb 16 (length r) p.1)),
        )

    -- "an identifier not in the table is 26"
    pub says-26 : (answer ≡ 26 → (type_unknown ≡ false) × (16 ≤ length r) × NotInTable (identifier_of r) es)
        × ((type_unknown ≡ false) × (16 ≤ length r) × NotInTable (identifier_of r) es → answer ≡ 26)
    says-26 =
        let w = lead type_unknown 20 26 _ (λ h. omega (arith, h))
        (lead (not long) 27 26 _ (λ h. omega (arith, h)) (hit (not there) 26 own (other 26 record_numbers refl own own_in))) in
        let t = not-in-table (identifier_of r) es in (
          λ h. let p = w.0 (sym later-chained ∙ h) in (p.0, leb-true 16 (length r) (not-false long p.1.0), t.0 (not-true there p.1.1)),
          λ p. later-chained ∙ w.1 (p.0, (ap not (le-leb 16 (length r) p.1), ap not (t.1 p.2))),
        )

    -- "then the event's own checks": those of the call with its attributes
    pub own-checks : type_unknown ≡ false → has_event es r ≡ true → answer ≡ own
    unfolding has_event
    own-checks t h =
        let w = and-true long there h in
        later-chained ∙ rw (t, w.0, w.1) refl
