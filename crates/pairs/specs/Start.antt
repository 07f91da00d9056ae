-- A pair of records before the loop over its fields: what their bytes say of the first five. Assumes nothing.
use Rattle.std.specs.Prelude.{◌≡◌, refl, Bool, true, false, cond, not, ◌&&◌, List, [], ◌∷◌, map, ℕ, ◌+◌, ◌%◌, ◌<◌, ◌≤◌, length, take, drop, leb, eqb}
use Rattle.std.proofs.Common.{sym, ap, ◌∙◌, arith, take_all}
use Rattle.std.proofs.Math.Path.{ap₂}
use Rattle.std.proofs.Math.Seq.{slice}
use borrow.Author.Tests.{leb-true, leb-false, eqb-true, eq-eqb, ne_eqb}
use Rattle.meaning.specs.declared.Attributes.{Attributes}
use Rattle.meaning.specs.declared.Event.{Event}
use Rattle.meaning.specs.declared.Item.{Item}
use Rattle.meaning.specs.declared.Known.{Known}
use Rattle.meaning.specs.Bytes.{bit}
use Rattle.meaning.specs.Items.{Con}
use Rattle.meaning.specs.Schema.{schema, trailer}
use Rattle.meaning.specs.Refusals.{refusal, first as first_of, or_else}
use Rattle.meaning.specs.Editions.{is_in, unreadable}
use Rattle.meaning.specs.Records.{layout, room, Value, kind_of, misc_of, size_of, fields_answer, judge, value}
use Rattle.meaning.specs.Events.{attributes_of, identifiers, event_at, index_of, identifier_of, all_marked, has_event, gate, unmatched, layout_for, judge_events}
use Rattle.laws.specs.Bytes.{and-true}
use Rattle.laws.specs.Answers.{or-zero, fields-zero}
use Rattle.laws.specs.Matched.{carried, judge-matched}
use Rattle.runs.specs.Cutting.{framed}
use Rattle.table.specs.declared.Part.{Part}
use Rattle.table.specs.Rows.{rows, item_of}
use Rattle.table.specs.Same.{LaidOut}
use Rattle.table.specs.Turns.{rows_next, rows-over}
use Rattle.event_laws.specs.Match.{matched-has}
use Rattle.compare.specs.Fields.{first, other_fields, Reads, fields}
use Rattle.compare.specs.Compared.{same_bytes, alike, agree, event_reads}
use Rattle.compare.proofs.Pairs.{same_bytes_lem, same_alike}
use Rattle.compare.proofs.Others.{five}
use Rattle.twins.specs.Twins.{Beside, Like}
use Rattle.pair_fields.specs.Inner.{Pos, Begun, Pair, FieldsStand}
use Rattle.pair_fields.specs.Fields.{begun-stands}

-- ---- bytes

pub other_length : (xs ys : List ℕ) → (length xs ≡ length ys → ⊥) → false ≡ same_bytes xs ys
other_length xs ys n = by (same_bytes xs ys) refl
  where
    by : (b : Bool) → same_bytes xs ys ≡ b → false ≡ b
    by true e = absurd (n (ap length (same_bytes_lem xs ys e)))
    by false e = refl

pub whole-bytes : (xs ys : List ℕ) → length xs ≡ length ys → same_bytes (take (length xs) (drop 0 xs)) (take (length xs) (drop 0 ys)) ≡ same_bytes xs ys
whole-bytes xs ys e =
    ap₂ (λ (a b : List ℕ). same_bytes a b) (take_all (length xs) xs (omega arith)) (take_all (length xs) ys (omega (arith, e)))

pub framed-long : (xs : List ℕ) → framed xs ≡ true → 8 ≤ length xs
framed-long xs h = leb-true 8 (length xs) (and-true (leb 8 (length xs)) _ h).0

framed-size : (xs : List ℕ) → framed xs ≡ true → (size_of xs ≡ length xs) × (length xs % 8 ≡ 0)
framed-size xs h =
    let p = and-true (leb 8 (length xs)) _ h in
    let q = and-true (leb 8 (size_of xs) && eqb (size_of xs % 8) 0) (eqb (size_of xs) (length xs)) p.1 in
    let e = eqb-true (size_of xs) (length xs) q.1 in
    let m = eqb-true (size_of xs % 8) 0 (and-true (leb 8 (size_of xs)) (eqb (size_of xs % 8) 0) q.0).1 in
    (e, ap (λ (n : ℕ). n % 8) (sym e) ∙ m)

-- ---- rows

pub first-at : (kind : ℕ) → kind ≡ 9 → 1 ≡ first kind
first-at kind e = rw (eq-eqb kind 9 e)

pub first-none : (kind : ℕ) → (kind ≡ 9 → ⊥) → 0 ≡ first kind
first-none kind n = rw (ne_eqb kind 9 n)

pub first_one : (kind : ℕ) → first kind ≤ 1
first_one kind = by (eqb kind 9)
  where
    by : (b : Bool) → cond b 1 0 ≤ 1
    by true = omega arith
    by false = omega arith

-- the rows of a body after a SAMPLE's identifier
module _ (kind misc : ℕ) (a : Attributes) (p : Part) (h : LaidOut kind p) where
  abbrev f : ℕ → Item
  f = item_of a misc kind

  pub rows-after : (t : Bool) → eqb kind 9 ≡ t → (p.from + cond t 1 0 ≤ p.to) × (map f (slice (p.from + cond t 1 0) p.to rows) ≡ drop (cond t 1 0) (schema kind misc a))
  rows-after false e =
      let z : p.from + 0 ≡ p.from = omega arith in
      let o = h.ordered in
      (omega (arith, o), ap (λ (n : ℕ). map f (slice n p.to rows)) z ∙ h.layout_is misc a)
  rows-after true e =
      let o = h.ordered in
      let w = h.within in
      let l : p.from < p.to = some (leb p.to p.from) refl in
      (omega (arith, l), sym (ap (λ (is : List Item). drop 1 is) (rows_next f p.from p.to l (omega (arith, w)))) ∙ ap (λ (is : List Item). drop 1 is) (h.layout_is misc a))
    where
      -- a SAMPLE has rows
      some : (b : Bool) → leb p.to p.from ≡ b → p.from < p.to
      some true q =
          let o = h.ordered in
          let r : p.from ≡ p.to = let u = leb-true p.to p.from q in omega (arith, o, u) in
          let s : [] ≡ schema kind misc a = sym (ap (λ (n : ℕ). map f (slice n p.to rows)) r ∙ rows-over f p.to) ∙ h.layout_is misc a in
          let n : 0 ≡ length (schema 9 misc a) = ap length (s ∙ ap (λ (k : ℕ). schema k misc a) (eqb-true kind 9 e)) in
          absurd (let m : ◌≡◌ {A = ℕ} 0 41 = n in omega (arith, m))
      some false q = let u = leb-false p.to p.from q in omega (arith, u)

  pub rows-begun : (p.from + first kind ≤ p.to) × (map f (slice (p.from + first kind) p.to rows) ≡ drop (first kind) (schema kind misc a))
  rows-begun = rows-after (eqb kind 9) refl

-- ---- accepted records of one table

-- an accepted record has an event, and is accepted under that event's attributes
pub accepted-event : (k : Known) (es : List Event) (xs : List ℕ) → judge_events k es xs ≡ 0 → (unmatched k es xs ≡ 0) × (judge (layout_for k es xs) xs ≡ 0)
accepted-event k es xs h = or-zero (unmatched k es xs) (judge (layout_for k es xs) xs) (sym (judge-matched k es xs) ∙ h)

module _ (k : Known) (es : List Event) (marked : all_marked es ≡ true) (xs : List ℕ) (h : judge_events k es xs ≡ 0) where
  has : has_event es xs ≡ true
  has = matched-has k es xs (accepted-event k es xs h).0

  pub accepted-long : 16 ≤ length xs
  unfolding has_event
  accepted-long = leb-true 16 (length xs) (and-true (leb 16 (length xs)) (is_in (identifier_of xs) (identifiers es)) has).0

  pub accepted-there : index_of (identifier_of xs) (identifiers es) < length es
  accepted-there = (carried es xs marked has).there

  module _ (a : Attributes) (e : a ≡ attributes_of (event_at es (index_of (identifier_of xs) (identifiers es)))) where
    pub accepted-fine : fields_answer (schema (kind_of xs) (misc_of xs) a) (room (trailer (kind_of xs) a)) xs ≡ 0
    unfolding judge layout
    accepted-fine =
        (or-zero (unreadable k a (kind_of xs) (misc_of xs)) (fields_answer (schema (kind_of xs) (misc_of xs) a) (room (trailer (kind_of xs) a)) xs)
        (ap (λ (b : Attributes). judge (layout k b) xs) e ∙ (accepted-event k es xs h).1)).1

    accepted-marked : bit a.sample 16 ≡ true
    accepted-marked = ap (λ (b : Attributes). bit b.sample 16) e ∙ (carried es xs marked has).sample

    pub accepted-room : room (trailer (kind_of xs) a) ≤ length xs
    accepted-room = let z = (fields-zero (schema (kind_of xs) (misc_of xs) a) (room (trailer (kind_of xs) a)) xs accepted-fine).0 in omega (arith, z)

module _ (k : Known) (es : List Event) (marked : all_marked es ≡ true) (xs ys : List ℕ) (fx : framed xs ≡ true) (fy : framed ys ≡ true)
    (hx : judge_events k es xs ≡ 0) (hy : judge_events k es ys ≡ 0)
    (ek : kind_of xs ≡ kind_of ys) (em : misc_of xs ≡ misc_of ys) (ez : size_of xs ≡ size_of ys) (ei : identifier_of xs ≡ identifier_of ys)
    (a : Attributes) (e : a ≡ attributes_of (event_at es (index_of (identifier_of xs) (identifiers es)))) where
  abbrev R : Reads
  R = event_reads k es

  e-right : a ≡ attributes_of (event_at es (index_of (identifier_of ys) (identifiers es)))
  e-right = e ∙ ap (λ (i : ℕ). attributes_of (event_at es (index_of i (identifiers es)))) ei

  pair_of : (kind misc : ℕ) → kind ≡ kind_of xs → misc ≡ misc_of xs → Pair xs ys kind misc a
  pair_of kind misc p q =
      let u = framed-size xs fx in
      let v = framed-size ys fy in
      record {
        x-kind = p;
        y-kind = p ∙ ek;
        x-misc = q;
        y-misc = q ∙ em;
        long = sym v.0 ∙ sym ez ∙ u.0;
        eights = u.1;
        x-fine = accepted-fine k es marked xs hx a e;
        y-fine = accepted-fine k es marked ys hy a e-right;
        marked = accepted-marked k es marked xs hx a e;
      }

  pub start-stands : (kind misc : ℕ) (r : Pos) → kind ≡ kind_of xs → misc ≡ misc_of xs → Begun xs kind misc a r
      → FieldsStand (alike (fields R xs) (fields R ys)) (agree (fields R xs) (fields R ys)) xs ys r
  start-stands kind misc r p q b =
      let f = five R xs ys (hx ∙ sym hy) hx ek em ez ei in
      let O : List ℕ → Attributes → List Con = λ (zs : List ℕ) (c : Attributes). other_fields (layout k c) (value (layout k c) zs) in
      begun-stands xs ys kind misc a k r (alike (fields R xs) (fields R ys)) (agree (fields R xs) (fields R ys)) (pair_of kind misc p q) b
      (f.1 ∙ ap₂ (λ (c d : Attributes). alike (O xs c) (O ys d)) (sym e) (sym e-right))
      (f.0 ∙ ap₂ (λ (c d : Attributes). 5 + agree (O xs c) (O ys d)) (sym e) (sym e-right))

-- ---- an accepted record, and another one that is the same but for ignored bytes

module _ (k : Known) (es : List Event) (marked : all_marked es ≡ true) (xs ys : List ℕ) (fx : framed xs ≡ true) (fy : framed ys ≡ true)
    (hx : judge_events k es xs ≡ 0) (ek : kind_of xs ≡ kind_of ys) (em : misc_of xs ≡ misc_of ys) (el : length xs ≡ length ys) (ei : identifier_of xs ≡ identifier_of ys)
    (a : Attributes) (e : a ≡ attributes_of (event_at es (index_of (identifier_of xs) (identifiers es)))) where
  sizes : size_of xs ≡ size_of ys
  sizes = (framed-size xs fx).0 ∙ el ∙ sym (framed-size ys fy).0

  pub beside-is : (kind misc : ℕ) → kind ≡ kind_of xs → misc ≡ misc_of xs → Beside xs ys kind misc a
  beside-is kind misc p q = record {
    x-kind = p;
    y-kind = p ∙ ek;
    x-misc = q;
    y-misc = q ∙ em;
    size_is = sym sizes;
    long = sym el;
    eights = (framed-size xs fx).1;
    fine = accepted-fine k es marked xs hx a e;
  }

  module _ (l : Like xs ys a) where
    own-event : a ≡ attributes_of (event_at es (index_of (identifier_of ys) (identifiers es)))
    own-event = e ∙ ap (λ (i : ℕ). attributes_of (event_at es (index_of i (identifiers es)))) ei

    same-match : unmatched k es ys ≡ unmatched k es xs
    unfolding unmatched
    same-match = λ j. first_of (gate k (sym ek j)) (first_of (refusal (not (leb 16 (sym el j))) 27 ∷ refusal (not (is_in (sym ei j) (identifiers es))) 26 ∷ []) 0)

    own-answer : judge (layout k a) ys ≡ 0
    unfolding judge layout
    own-answer =
        let u = (or-zero (unreadable k a (kind_of xs) (misc_of xs)) (fields_answer (schema (kind_of xs) (misc_of xs) a) (room (trailer (kind_of xs) a)) xs)
        (ap (λ (b : Attributes). judge (layout k b) xs) e ∙ (accepted-event k es xs hx).1)).0 in
        ap₂ (λ (m n : ℕ). or_else m n) (ap₂ (λ (i m : ℕ). unreadable k a i m) (sym ek) (sym em) ∙ u) l.fine

    accepted-too : judge_events k es ys ≡ 0
    accepted-too =
        judge-matched k es ys
        ∙ ap₂ (λ (m n : ℕ). or_else m n) (same-match ∙ (accepted-event k es xs hx).0) (ap (λ (b : Attributes). judge (layout k b) ys) (sym own-event) ∙ own-answer)

    pub like-alike : alike (fields (event_reads k es) xs) (fields (event_reads k es) ys) ≡ true
    like-alike =
        let f = five (event_reads k es) xs ys (hx ∙ sym accepted-too) hx ek em sizes ei in
        let O : List ℕ → Attributes → List Con = λ (zs : List ℕ) (c : Attributes). other_fields (layout k c) (value (layout k c) zs) in
        f.1 ∙ ap₂ (λ (c d : Attributes). alike (O xs c) (O ys d)) (sym e) (sym own-event)
        ∙ ap (λ (v : Value). alike (O xs a) (other_fields (layout k a) v)) (l.value-is k)
        ∙ same_alike (O xs a)
