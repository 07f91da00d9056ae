-- The answer of a record that has an event is that of its event's attributes; and what row 11 does to a frame. Assumes nothing.
use Rattle.std.specs.Prelude.{◌≡◌, refl, Bool, true, false, cond, not, ◌&&◌, ◌||◌, List, ℕ, ◌/◌, ◌%◌, ◌^◌, ◌<◌, ◌≤◌, leb, ltb, eqb, length}
use Rattle.std.proofs.Common.{sym, ap, ◌∙◌, subst, arith, pow_mono, eqb-true, ltb-false, le-leb}
use Rattle.std.proofs.lemmas.Bool.{not-false}
use Rattle.meaning.specs.declared.Attributes.{Attributes}
use Rattle.meaning.specs.declared.Event.{Event}
use Rattle.meaning.specs.declared.Known.{Known}
use Rattle.meaning.specs.Bytes.{bit}
use Rattle.meaning.specs.Refusals.{first, or_else}
use Rattle.meaning.specs.Editions.{allowed, knows, sample_bit, unknowns, clashes, unreadable, is_in}
use Rattle.meaning.specs.Records.{layout, kind_of, misc_of, judge}
use Rattle.meaning.specs.Ring.{Asked, asking_with, asked_of, frame}
use Rattle.meaning.specs.Events.{attributes_of, identifiers, distinct, all_marked, sound, asked_events, identifier_of, index_for, event_for, has_event, gate, eventless, layout_for, unmatched, judge_events}
use Rattle.laws.specs.Bytes.{apart, and-true}
use Rattle.laws.specs.Lookup.{identifiers-length, marked-at, index_in}

-- a number with bit 16 reaches every power of two up to 2 ^ 16
bit_high : (x k : ℕ) → bit x 16 ≡ true → k ≤ 16 → leb (2 ^ k) x ≡ true
unfolding bit
bit_high x k b h =
    let p : 2 ^ k ≤ 2 ^ 16 = pow_mono h in
    let q = eqb-true (x / 2 ^ 16 % 2) 1 b in
    le-leb (2 ^ k) x (omega (arith, p, q))

or_right : (b : Bool) → (b || true) ≡ true
or_right true = refl
or_right false = refl

-- 20 and 21 before an event's own checks change nothing where the event selects bit 16 and sample_id_all is set
pub gate-own : (k : Known) (a : Attributes) (t misc body : ℕ) → bit a.sample 16 ≡ true → a.all ≡ true
    → first (gate k t) (or_else (unreadable k a t misc) body) ≡ or_else (unreadable k a t misc) body
unfolding first unreadable
gate-own k a t misc body b l = by (eqb t 0 || ltb k.kinds t) (ltb 16 k.samples) refl refl
  where
    by : (x y : Bool) → (eqb t 0 || ltb k.kinds t) ≡ x → ltb 16 k.samples ≡ y
        → cond (eqb t 0 || ltb k.kinds t) 20 (cond (not (ltb 16 k.samples)) 21 (or_else (first (unknowns k t misc a) (first (clashes t a) 0)) body))
        ≡ or_else (first (unknowns k t misc a) (first (clashes t a) 0)) body
    by true y e f = rw e refl
    by false true e f = rw (e, f) refl
    by false false e f =
        let s : leb (2 ^ k.samples) a.sample ≡ true = bit_high a.sample k.samples b (omega (arith, ltb-false 16 k.samples f)) in
        rw (e, f, s, l, or_right (eqb t 9)) refl

-- what the table says of a record that has an event
pub record Carried (es : List Event) (r : List ℕ) : Type 0 where
  pub sample : bit (attributes_of (event_for es r)).sample 16 ≡ true
  pub all : (attributes_of (event_for es r)).all ≡ true
  pub there : index_for es r < length es

pub carried : (es : List Event) (r : List ℕ) → all_marked es ≡ true → has_event es r ≡ true → Carried es r
unfolding has_event attributes_of
carried es r m h =
    let w = and-true (leb 16 (length r)) (is_in (identifier_of r) (identifiers es)) h in
    let i : index_for es r < length es = subst (λ (n : ℕ). index_for es r < n) (identifiers-length es) (index_in (identifier_of r) (identifiers es) w.1) in
    let v : Event = event_for es r in
    let p = and-true (bit v.sample 16) (not (eqb v.all 0)) (marked-at es (index_for es r) m i) in
    record { sample = p.0; all = p.1; there = i }

-- the rows 27 and 26 of a record that has an event
pub eventless-none : (es : List Event) (r : List ℕ) (n : ℕ) → has_event es r ≡ true → first (eventless es r) n ≡ n
unfolding first has_event
eventless-none es r n h =
    let w = and-true (leb 16 (length r)) (is_in (identifier_of r) (identifiers es)) h in
    rw (w.0, w.1) refl

-- the answer of a record that has an event: what the call with that event's attributes answers, in every edition
pub judge-found : (k : Known) (es : List Event) (r : List ℕ) → all_marked es ≡ true → has_event es r ≡ true
    → judge_events k es r ≡ judge (layout_for k es r) r
unfolding judge_events judge layout
judge-found k es r m h =
    let c = carried es r m h in
    ap (first (gate k (kind_of r))) (eventless-none es r _ h) ∙ gate-own k (attributes_of (event_for es r)) (kind_of r) (misc_of r) _ c.sample c.all

-- 20, 21 by the edition, 27 and 26 first; where none of them is given the event's own answer
pub judge-matched : (k : Known) (es : List Event) (r : List ℕ) → judge_events k es r ≡ or_else (unmatched k es r) (judge (layout_for k es r) r)
unfolding judge_events unmatched first
judge-matched k es r =
    by (eqb (kind_of r) 0 || ltb k.kinds (kind_of r)) (not (knows k (sample_bit 16))) (not (leb 16 (length r))) (not (is_in (identifier_of r) (identifiers es))) (judge (layout_for k es r) r)
  where
    by : (a b c d : Bool) (n : ℕ) → cond a 20 (cond b 21 (cond c 27 (cond d 26 n))) ≡ or_else (cond a 20 (cond b 21 (cond c 27 (cond d 26 0)))) n
    by true b c d n = refl
    by false true c d n = refl
    by false false true d n = refl
    by false false false true n = refl
    by false false false false n = refl

-- ---- what a sound table is

pub sound-marked : (limit : ℕ) (es : List Event) → sound limit es ≡ true → all_marked es ≡ true
unfolding sound
sound-marked limit es h =
    let w = and-true (leb 1 (length es) && leb (length es) limit) (all_marked es && distinct (identifiers es)) h in
    (and-true (all_marked es) (distinct (identifiers es)) w.1).0

-- ---- row 11

-- a sound table: the rows are those without a table
pub asked-sound : (limit : ℕ) (rows : List Known) (e : ℕ) (es : List Event) → sound limit es ≡ true → asked_events limit rows e es ≡ asked_of rows e
asked-sound limit rows e es h = ap (asking_with (allowed rows e)) h
