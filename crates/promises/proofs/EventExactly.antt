-- With a table of events, in words and both ways: when a table is allowed (M-100), when a record is decoded under one (demand 2), and where nothing of it is
-- inspected (M-112), as C is told. Assumes nothing.
use Rattle.std.specs.Prelude.{◌≡◌, List, [], ◌∷◌, Bool, cond, not, ◌&&◌, ◌||◌, ℕ, suc, ◌%◌, ◌<◌, ◌≤◌, leb, eqb, length}
use Rattle.std.proofs.Math.Path.{refl}
use Rattle.std.proofs.Common.{sym, ap, ◌∙◌, ⊎_elim, eq-zero-or-pos, arith, eqb-true, ne_eqb, leb-true, le-leb}
use Rattle.std.proofs.Math.Bool.{true, false}
use Rattle.std.proofs.lemmas.Bool.{eqb-false, not-true}
use Rattle.std.proofs.Math.Dec.{ltb}
use Rattle.meaning.specs.declared.Attributes.{Attributes}
use Rattle.meaning.specs.declared.Event.{Event}
use Rattle.meaning.specs.declared.Known.{Known}
use Rattle.meaning.specs.Bytes.{bit}
use Rattle.meaning.specs.Refusals.{or_else}
use Rattle.meaning.specs.Editions.{editions, known, allowed, knows, sample_bit, is_in}
use Rattle.meaning.specs.Records.{kind_of, judge, flag_of}
use Rattle.meaning.specs.Values.{value_words}
use Rattle.meaning.specs.Events.{attributes_of, identifiers, event_at, index_of, distinct, all_marked, sound, event_for, has_event, layout_for, unmatched, judge_events, inspected, unasked, check_events, check_inspected, record_check_events, read_events, one_events_scratch}
use Rattle.one.specs.declared.OneTold.{OneTold}
use Rattle.event_one.specs.Told.{one_events_told}
use Rattle.laws.specs.Bytes.{and-true, true-and}
use Rattle.laws.specs.Answers.{or-zero}
use Rattle.laws.specs.Exactly.{LaidOut}
use Rattle.laws.specs.Lookup.{identifiers-length, identifier-at, marked-at, index_in, index_is, index-unique}
use Rattle.laws.specs.Matched.{judge-found, judge-matched, sound-marked}
use Rattle.laws.specs.Inspected.{asked-own, asked-refused, looked}
use Rattle.runs.specs.Cutting.{framed}
use Rattle.runs.proofs.Streams.{says-framed}
use Rattle.event_laws.specs.Match.{matched-has}
use Rattle.editions.specs.Numbers.{record_numbers}
use Rattle.editions.proofs.InTable.{not_in, judge-in}
use Rattle.editions.proofs.OneRecord.{check-framed}
use Rattle.promises.proofs.Checked.{answers-20}
use Rattle.promises.proofs.Demand2.{decoded-exactly}
use Rattle.promises.proofs.EventReads.{framed-asked}
use Rattle.promises.proofs.Inspected.{event_check_numbers, check-events-in, inspected-none, before-20, before-21, last-other}
use Rattle.promises.proofs.Called.{part, one-events-called, event-told-reads}
use Rattle.promises.specs.EventExactly.{Unlooked}

-- ---- M-100: "A table is refused with 11 .. if its length is outside that range, if two identifiers are equal, or if an event lacks sample bit 16 or
-- sample_id_all"; "1 to 32 of them", with M-112 to 1,024: the limit

pub record AllowedTable (limit : ℕ) (es : List Event) : Type 0 where
  pub some : 1 ≤ length es
  pub most : length es ≤ limit
  pub marks : (i : ℕ) → i < length es → (bit (event_at es i).sample 16 ≡ true) × ((event_at es i).all ≡ 0 → ⊥)
  pub differ : (i j : ℕ) → i < length es → j < length es → (i ≡ j → ⊥) → (event_at es i).identifier ≡ (event_at es j).identifier → ⊥

all-marked : (es : List Event) → ((i : ℕ) → i < length es → (bit (event_at es i).sample 16 ≡ true) × ((event_at es i).all ≡ 0 → ⊥)) → all_marked es ≡ true
unfolding all_marked
all-marked [] h = refl
all-marked (v ∷ vs) h =
    let m = h 0 (omega arith) in
    true-and (bit v.sample 16 && not (eqb v.all 0)) (all_marked vs)
    (true-and (bit v.sample 16) (not (eqb v.all 0)) m.0 (ap not (ne_eqb v.all 0 m.1)))
    (all-marked vs (λ i g. h (suc i) (omega (arith, g))))

all-differ : (es : List Event) → ((i j : ℕ) → i < length es → j < length es → (i ≡ j → ⊥) → (event_at es i).identifier ≡ (event_at es j).identifier → ⊥)
    → distinct (identifiers es) ≡ true
unfolding distinct
all-differ [] h = refl
all-differ (v ∷ vs) h =
    true-and (not (is_in v.identifier (identifiers vs))) (distinct (identifiers vs)) (by (is_in v.identifier (identifiers vs)) refl)
    (all-differ vs (λ i j p q n. h (suc i) (suc j) (omega (arith, p)) (omega (arith, q)) (λ z. n (omega (arith, z)))))
  where
    by : (b : Bool) → is_in v.identifier (identifiers vs) ≡ b → not b ≡ true
    by true q =
        let i = index_in v.identifier (identifiers vs) q in
        let n = identifiers-length vs in
        absurd (h 0 (suc _) (omega arith) (omega (arith, i, n)) (λ z. omega (arith, z)) (sym (sym (identifier-at vs _) ∙ index_is v.identifier (identifiers vs) i)))
    by false q = refl

pub sound-in-words : (limit : ℕ) (es : List Event) → (sound limit es ≡ true → AllowedTable limit es) × (AllowedTable limit es → sound limit es ≡ true)
unfolding sound
sound-in-words limit es = (there, back)
  where
    there : sound limit es ≡ true → AllowedTable limit es
    there h =
        let p = and-true (leb 1 (length es) && leb (length es) limit) (all_marked es && distinct (identifiers es)) h in
        let q = and-true (leb 1 (length es)) (leb (length es) limit) p.0 in
        let r = and-true (all_marked es) (distinct (identifiers es)) p.1 in
        let l = identifiers-length es in
        let at : (i : ℕ) → i < length es → index_of (event_at es i).identifier (identifiers es) ≡ i =
        λ i g. ap (λ (x : ℕ). index_of x (identifiers es)) (sym (identifier-at es i)) ∙ index-unique (identifiers es) i r.1 (omega (arith, g, l)) in
        record {
          some = leb-true 1 (length es) q.0;
          most = leb-true (length es) limit q.1;
          marks = λ i g. let m = and-true (bit (event_at es i).sample 16) (not (eqb (event_at es i).all 0)) (marked-at es i r.0 g) in
              (m.0, eqb-false (event_at es i).all 0 (not-true (eqb (event_at es i).all 0) m.1));
          differ = λ i j g k n z. n (sym (at i g) ∙ ap (λ (x : ℕ). index_of x (identifiers es)) z ∙ at j k);
        }

    back : AllowedTable limit es → sound limit es ≡ true
    back t =
        true-and (leb 1 (length es) && leb (length es) limit) (all_marked es && distinct (identifiers es))
        (true-and (leb 1 (length es)) (leb (length es) limit) (le-leb 1 (length es) t.some) (le-leb (length es) limit t.most))
        (true-and (all_marked es) (distinct (identifiers es)) (all-marked es t.marks) (all-differ es t.differ))

-- ---- demand 2 with a table: "A record is decoded exactly when .. as condensed in 01, give it a meaning": the edition is one, the table is allowed, the record has
-- an event, and it is laid out by the schema under that event's attributes, item after item, with nothing left over

-- what is looked at is one record by its header
looked-framed : (limit e : ℕ) (es : List Event) (xs : List ℕ) → unasked limit editions e es xs ≡ 0 → framed xs ≡ true
looked-framed limit e es xs h =
    let w = looked limit editions e es xs h in
    says-framed xs w.low (ap (λ (n : ℕ). n % 8) w.size_is ∙ w.eights) w.size_is

module _ (limit e : ℕ) (es : List Event) (xs : List ℕ) where
  pub record Decoded : Type 0 where
    pub edition : allowed editions e ≡ true
    pub table : sound limit es ≡ true
    pub event : has_event es xs ≡ true
    pub laid : LaidOut (layout_for (known editions e) es xs) xs

  pub decoded-exactly-events : (check_events limit editions e es xs ≡ 0 → Decoded) × (Decoded → check_events limit editions e es xs ≡ 0)
  unfolding check_events
  decoded-exactly-events = (there, back)
    where
      there : check_events limit editions e es xs ≡ 0 → Decoded
      there z =
          let u = or-zero (unasked limit editions e es xs) (judge_events (known editions e) es xs) z in
          let w = looked limit editions e es xs u.0 in
          let j = or-zero (unmatched (known editions e) es xs) (judge (layout_for (known editions e) es xs) xs) (sym (judge-matched (known editions e) es xs) ∙ u.1) in
          let f = looked-framed limit e es xs u.0 in
          record {
            edition = w.edition;
            table = w.table;
            event = matched-has (known editions e) es xs j.0;
            laid = ((decoded-exactly e (attributes_of (event_for es xs)) xs).0 (check-framed editions e w.edition (attributes_of (event_for es xs)) xs f ∙ j.1)).1;
          }

      back : Decoded → check_events limit editions e es xs ≡ 0
      back d =
          let l = d.laid in
          let f = says-framed xs l.least l.eights l.true-size in
          let c = (decoded-exactly e (attributes_of (event_for es xs)) xs).1 (d.edition, l) in
          (asked-own limit editions e es xs (framed-asked limit editions e es xs d.edition d.table f)).0
          ∙ judge-found (known editions e) es xs (sound-marked limit es d.table) d.event
          ∙ sym (check-framed editions e d.edition (attributes_of (event_for es xs)) xs f) ∙ c

-- ---- M-112: "the number inspected is reported with the answer and equals .. 0 without a lookup". 20, what edition 1 answers to everything, and 27 come before
-- the lookup. `ollskuvan_check_events`, `ollskuvan_read_events`, `ollskuvan_read_one_events`

module _ (limit e : ℕ) (es : List Event) (xs : List ℕ) where
  abbrev k : Known
  k = known editions e

  own-or : (b : Bool) → eqb (unmatched k es xs) 0 ≡ b → judge_events k es xs ≡ cond b (judge (layout_for k es xs) xs) (unmatched k es xs)
  own-or b q = judge-matched k es xs ∙ ap (λ (c : Bool). cond c (judge (layout_for k es xs) xs) (unmatched k es xs)) q

  -- a record without an event whose answer is not 26
  unfound : (n : ℕ) → judge_events k es xs ≡ n → (n ≡ 26 → ⊥) → eqb (unmatched k es xs) 0 ≡ false → inspected k es xs ≡ 0
  unfound n z d q = inspected-none k es xs (eqb-false (unmatched k es xs) 0 q) (λ y. d (sym z ∙ own-or false q ∙ y))

  by-20 : unasked limit editions e es xs ≡ 0 → judge_events k es xs ≡ 20 → inspected k es xs ≡ 0
  by-20 h z = by (eqb (unmatched k es xs) 0) refl
    where
      by : (b : Bool) → eqb (unmatched k es xs) 0 ≡ b → inspected k es xs ≡ 0
      by true q =
          let w = looked limit editions e es xs h in
          let f = looked-framed limit e es xs h in
          let a : Attributes = attributes_of (event_for es xs) in
          (before-20 k es xs ((answers-20 e a xs w.edition f).0 (check-framed editions e w.edition a xs f ∙ sym (own-or true q) ∙ z))).1
      by false q = unfound 20 z (λ y. omega (arith, y)) q

  by-27 : judge_events k es xs ≡ 27 → inspected k es xs ≡ 0
  by-27 z = by (eqb (unmatched k es xs) 0) refl
    where
      by : (b : Bool) → eqb (unmatched k es xs) 0 ≡ b → inspected k es xs ≡ 0
      by true q = absurd (not_in record_numbers 27 (judge (layout_for k es xs) xs) refl (judge-in k (attributes_of (event_for es xs)) xs) (sym (own-or true q) ∙ z))
      by false q = unfound 27 z (λ y. omega (arith, y)) q

  by-edition : e ≡ 1 → inspected k es xs ≡ 0
  unfolding known
  by-edition n = by (eqb (kind_of xs) 0 || ltb k.kinds (kind_of xs)) refl
    where
      by : (b : Bool) → (eqb (kind_of xs) 0 || ltb k.kinds (kind_of xs)) ≡ b → inspected k es xs ≡ 0
      by true t = (before-20 k es xs t).1
      by false t = (before-21 k es xs t (ap (λ (m : ℕ). knows (known editions m) (sample_bit 16)) n)).1

  -- with a last step, 44 or 40, in the place of 0 alone
  unlooked-then : (m : ℕ) (b : Bool) → 0 < m → is_in m event_check_numbers ≡ false → Unlooked e (or_else (check_events limit editions e es xs) (cond b 0 m)) (check_inspected limit editions e es xs)
  unlooked-then m b p d = by (eqb (unasked limit editions e es xs) 0) refl
    where
      n : ℕ
      n = check_events limit editions e es xs

      never : n ≡ m → ⊥
      never = not_in event_check_numbers m n d (check-events-in limit editions e es xs)

      before : (x : ℕ) → 0 < x → is_in x event_check_numbers ≡ true → or_else n (cond b 0 m) ≡ x → n ≡ x
      before x y i h = (last-other n m b never p x y (λ q. not_in event_check_numbers m x d i (sym q))).0 h

      by : (c : Bool) → eqb (unasked limit editions e es xs) 0 ≡ c → Unlooked e (or_else n (cond b 0 m)) (check_inspected limit editions e es xs)
      by true q =
          let u = eqb-true (unasked limit editions e es xs) 0 q in
          let w = asked-own limit editions e es xs u in (
            λ h. w.1 ∙ by-20 u (sym w.0 ∙ before 20 (omega arith) refl h),
            λ h. w.1 ∙ by-edition h,
            λ h. w.1 ∙ by-27 (sym w.0 ∙ before 27 (omega arith) refl h),
          )
      by false q =
          let z = (asked-refused limit editions e es xs (eqb-false (unasked limit editions e es xs) 0 q)).1 in
          (λ h. z, λ h. z, λ h. z)

  pub told-unlooked : Unlooked e (record_check_events limit editions e es xs).answer (record_check_events limit editions e es xs).inspected
  unfolding record_check_events
  told-unlooked = unlooked-then 44 (eqb (flag_of (layout_for k es xs) xs) 0) (omega arith) refl

  pub read-unlooked : (words : List ℕ) → Unlooked e (read_events limit editions e es xs words).answer (read_events limit editions e es xs words).inspected
  unfolding read_events
  read-unlooked words = unlooked-then 40 (leb value_words (length words)) (omega arith) refl

pub one-unlooked : (limit e : ℕ) (es : List Event) (ring : List ℕ) (head tail : ℕ) (scratch words : List ℕ)
    → Unlooked e (one_events_told limit editions e es ring head tail scratch words).answer (one_events_told limit editions e es ring head tail scratch words).inspected
one-unlooked limit e es ring head tail scratch words =
    ⊎_elim
    (λ (h : told.size ≡ 0). let z = ((one-events-called limit e es ring head tail scratch words).stop-tells h).5 in (λ q. z, λ q. z, λ q. z))
    (λ (h : 0 < told.size).
    let r = event-told-reads limit e es ring head tail scratch words h in
    let w = read-unlooked limit e es (part ring (one_events_scratch limit editions e es ring head tail scratch) told) words in
    (λ q. r.1 ∙ w.0 (sym r.0 ∙ q), λ q. r.1 ∙ w.1 q, λ q. r.1 ∙ w.2 (sym r.0 ∙ q)))
    (eq-zero-or-pos told.size)
  where
    told : OneTold
    told = one_events_told limit editions e es ring head tail scratch words
