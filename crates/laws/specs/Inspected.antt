-- The number inspected (M-112), by why a record has no event; and record check with a table, by what comes before the lookup. Assumes nothing.
use Rattle.std.proofs.Math.Path.{◌≡◌, refl, ap}
use Rattle.std.proofs.Common.{sym, ◌∙◌, arith}
use Rattle.std.specs.Prelude.{Bool, cond, not, ◌&&◌, ◌||◌, List, ℕ, ◌+◌, ◌%◌, ◌≤◌, ltb, length}
use Rattle.std.proofs.Math.Bool.{true, false}
use Rattle.std.proofs.Math.Dec.{leb, eqb}
use borrow.Author.Tests.{eqb-true, leb-true, eq-eqb, ne_eqb}
use Rattle.meaning.specs.declared.Event.{Event}
use Rattle.meaning.specs.declared.Known.{Known}
use Rattle.meaning.specs.Refusals.{first}
use Rattle.meaning.specs.Editions.{known, allowed, knows, sample_bit, is_in}
use Rattle.meaning.specs.Records.{kind_of, size_of}
use Rattle.meaning.specs.Events.{identifiers, identifier_of, index_for, sound, seen, unmatched, judge_events, inspected, unasked, check_events, check_inspected}
use Rattle.laws.specs.Bytes.{and-true}
use Rattle.laws.specs.Lookup.{identifiers-length, index_in, seen-found, seen_none}

-- index plus one where the record has an event, the table's length for 26, else 0
pub inspected-is : (k : Known) (es : List Event) (r : List ℕ)
    → inspected k es r ≡ cond (eqb (unmatched k es r) 0) (index_for es r + 1) (cond (eqb (unmatched k es r) 26) (length es) 0)
unfolding inspected unmatched first
inspected-is k es r = by (eqb (kind_of r) 0 || ltb k.kinds (kind_of r)) (not (knows k (sample_bit 16))) (leb 16 (length r)) (is_in (identifier_of r) (identifiers es)) refl
  where
    by : (a b l i : Bool) → is_in (identifier_of r) (identifiers es) ≡ i
        → cond (eqb (cond a 20 (cond b 21 0)) 0 && l) (seen (identifier_of r) (identifiers es)) 0
        ≡ cond (eqb (cond a 20 (cond b 21 (cond (not l) 27 (cond (not i) 26 0)))) 0) (index_for es r + 1)
        (cond (eqb (cond a 20 (cond b 21 (cond (not l) 27 (cond (not i) 26 0)))) 26) (length es) 0)
    by true b l i h = refl
    by false true l i h = refl
    by false false false i h = refl
    by false false true false h = seen_none (identifier_of r) (identifiers es) h ∙ identifiers-length es
    by false false true true h = seen-found (identifier_of r) (identifiers es) h

-- at most the table's length
pub inspected-most : (k : Known) (es : List Event) (r : List ℕ) → inspected k es r ≤ length es
unfolding inspected
inspected-most k es r = by (eqb (first _ 0) 0 && leb 16 (length r)) (is_in (identifier_of r) (identifiers es)) refl
  where
    some : (i : Bool) → is_in (identifier_of r) (identifiers es) ≡ i → seen (identifier_of r) (identifiers es) ≤ length es
    some true h =
        omega (arith, seen-found (identifier_of r) (identifiers es) h, index_in (identifier_of r) (identifiers es) h, identifiers-length es)
    some false h = omega (arith, seen_none (identifier_of r) (identifiers es) h, identifiers-length es)

    by : (b i : Bool) → is_in (identifier_of r) (identifiers es) ≡ i → cond b (seen (identifier_of r) (identifiers es)) 0 ≤ length es
    by true i h = some i h
    by false i h = omega arith

-- ---- record check with a table

module _ (limit : ℕ) (rows : List Known) (e : ℕ) (es : List Event) (xs : List ℕ) where
  -- refused before the record is looked at: that number, and nothing inspected
  pub asked-refused : (unasked limit rows e es xs ≡ 0 → ⊥)
      → (check_events limit rows e es xs ≡ unasked limit rows e es xs) × (check_inspected limit rows e es xs ≡ 0)
  unfolding check_events check_inspected
  asked-refused h = let n = ne_eqb (unasked limit rows e es xs) 0 h in (simp n, simp n)

  -- else the record's own
  pub asked-own : unasked limit rows e es xs ≡ 0
      → (check_events limit rows e es xs ≡ judge_events (known rows e) es xs) × (check_inspected limit rows e es xs ≡ inspected (known rows e) es xs)
  unfolding check_events check_inspected
  asked-own h = let n = eq-eqb (unasked limit rows e es xs) 0 h in (simp n, simp n)

  -- what a record that is looked at has passed
  pub record Looked : Type 0 where
    pub edition : allowed rows e ≡ true
    pub table : sound limit es ≡ true
    pub low : 8 ≤ length xs
    pub size_is : size_of xs ≡ length xs
    pub eights : length xs % 8 ≡ 0

  pub looked : unasked limit rows e es xs ≡ 0 → Looked
  unfolding unasked first
  looked = by (allowed rows e) refl (sound limit es) refl (leb 8 (length xs)) refl (leb 8 (size_of xs) && eqb (size_of xs % 8) 0) refl (eqb (size_of xs) (length xs)) refl
    where
      by : (a : Bool) → allowed rows e ≡ a → (t : Bool) → sound limit es ≡ t → (l : Bool) → leb 8 (length xs) ≡ l
          → (v : Bool) → (leb 8 (size_of xs) && eqb (size_of xs % 8) 0) ≡ v → (s : Bool) → eqb (size_of xs) (length xs) ≡ s
          → ◌≡◌ {A = ℕ} (cond (not a) 2 (cond (not t) 11 (cond l (cond v (cond s 0 7) 6) 7))) 0 → Looked
      by false ea t et l el v ev s es h = absurd (omega (arith, h))
      by true ea false et l el v ev s es h = absurd (omega (arith, h))
      by true ea true et false el v ev s es h = absurd (omega (arith, h))
      by true ea true et true el false ev s es h = absurd (omega (arith, h))
      by true ea true et true el true ev false es h = absurd (omega (arith, h))
      by true ea true et true el true ev true es h =
          let z = eqb-true (size_of xs) (length xs) es in
          record {
            edition = ea;
            table = et;
            low = leb-true 8 (length xs) el;
            size_is = z;
            eights = ap (λ (n : ℕ). n % 8) (sym z) ∙ eqb-true (size_of xs % 8) 0 (and-true (leb 8 (size_of xs)) (eqb (size_of xs % 8) 0) ev).1;
          }
