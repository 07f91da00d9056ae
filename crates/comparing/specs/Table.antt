-- Two rings compared "under one edition and one table": what is told is true, and a call that is refused is the left side's stop. Assumes nothing.
use Rattle.std.specs.Prelude.{◌≡◌, ℕ, Bool, true, false, not, List, [], ◌∷◌, length, ◌≢◌}
use Rattle.std.proofs.Common.{sym, ap, ◌∙◌, ne_eqb}
use Rattle.meaning.specs.declared.Event.{Event}
use Rattle.meaning.specs.States.{Frame}
use Rattle.meaning.specs.declared.Known.{Known}
use Rattle.meaning.specs.Bytes.{small}
use Rattle.meaning.specs.Editions.{known, allowed}
use Rattle.meaning.specs.Ring.{Asked, asking_with, frame, stop_at}
use Rattle.meaning.specs.Events.{all_marked, sound, asked_events, judge_events}
use Rattle.laws.specs.Bytes.{apart}
use Rattle.laws.specs.Rows.{before, passed-by}
use Rattle.laws.specs.Rings.{stop_rows, frame-stop, frame-reason}
use Rattle.laws.specs.Matched.{carried, sound-marked}
use Rattle.laws.proofs.Refused.{frame_refused}
use Rattle.runs.specs.Cutting.{Cut, Cuts, halt, begin, All}
use Rattle.runs.proofs.Runs.{cut-stop}
use Rattle.event_laws.specs.Match.{matched-has}
use Rattle.compare.specs.declared.Compared.{Compared}
use Rattle.compare.specs.Fields.{Reads}
use Rattle.compare.specs.Compared.{Side, event_reads, side_of, stops, cutting_all, compared, meet}
use Rattle.compare.specs.Promise.{SoundReads, TrueReport}
use Rattle.compare.proofs.Sides.{framed-side, compared-told, compared-only}
use Rattle.compare.proofs.Facts.{meet-editions}
use Rattle.pairs.specs.Start.{accepted-event}

pub event-sound : (k : Known) (es : List Event) → all_marked es ≡ true → SoundReads (event_reads k es)
event-sound k es m = record {
  own = λ xs h. (accepted-event k es xs h).1;
  marked = λ xs h. let c = carried es xs m (matched-has k es xs (accepted-event k es xs h).0) in (c.sample, c.all);
}

-- ---- a side that stops at once

meet-none : (R : Reads) (l r : ℕ) (ys : List Cut) → (l ≢ 0) → meet R l r 0 [] ys ≡ stops 4 l 0
unfolding meet
meet-none R l r [] n = rw (ne_eqb l 0 n)
meet-none R l r (y ∷ ys) n = rw (ne_eqb l 0 n)

pub left_at_once : (R : Reads) (l r : Side) → (l.frame l.tail (length l.scratch)).go ≡ false → ((l.frame l.tail (length l.scratch)).stop ≢ 0)
    → compared R l r ≡ stops 4 (l.frame l.tail (length l.scratch)).stop 0
unfolding compared
left_at_once R l r g n =
    let f : Frame = l.frame l.tail (length l.scratch) in
    let w : Cuts = cutting_all r in
    let c : cutting_all l ≡ halt (begin l.tail 0 l.scratch) f = cut-stop (λ t j room m. l.frame t m) l.ring (length l.ring) (begin l.tail 0 l.scratch) g in
    ap (λ (x : Cuts). meet R x.stop w.stop 0 x.records w.records) c ∙ meet-none R f.stop w.stop w.records n

-- a table that is refused is no end: 11, or one of 1, 2, 4 and 5, which come before it
refused-stop : (asked : Asked) → asked.table ≡ false → (ring : List ℕ) (head tail m : ℕ) → (frame asked ring head tail 1 16 m).stop ≢ 0
refused-stop asked h ring head tail m z =
    let g = frame_refused asked h ring head tail 1 16 m in
    let e : frame asked ring head tail 1 16 m ≡ stop_at 0 = frame-stop asked ring head tail 1 16 m g ∙ ap stop_at z in
    let p = passed-by (before 0 (stop_rows asked ring head tail 1 16 m)) (frame-reason asked ring head tail 1 16 m 0 e).1 in
    still asked.table h (p 11)
  where
    still : (t : Bool) → t ≡ false → not t ≢ false
    still true a b = apart (sym a)
    still false a b = apart (sym b)

-- ---- with a table

module _ (limit : ℕ) (rows : List Known) (e : ℕ) (es : List Event) (ring₁ ring₂ : List ℕ) (head₁ head₂ tail₁ tail₂ : ℕ) (scratch₁ scratch₂ : List ℕ) where
  abbrev R : Reads
  R = event_reads (known rows e) es

  abbrev pub left_side : Side
  left_side = side_of (asked_events limit rows e es) ring₁ head₁ tail₁ scratch₁

  abbrev pub right_side : Side
  right_side = side_of (asked_events limit rows e es) ring₂ head₂ tail₂ scratch₂

  -- "Each pair before the reported place is equal under demand 2, and the named field differs"
  pub table-told : sound limit es ≡ true → small ring₁ ≡ true → small ring₂ ≡ true → TrueReport R (cutting_all left_side) (cutting_all right_side) (compared R left_side right_side)
  table-told h s₁ s₂ =
      compared-told R left_side right_side head₁ head₂ (event-sound (known rows e) es (sound-marked limit es h))
      (framed-side (asked_events limit rows e es) ring₁ head₁ tail₁ scratch₁ s₁) (framed-side (asked_events limit rows e es) ring₂ head₂ tail₂ scratch₂ s₂)

  -- and no other report would say so
  pub table-only : (c : Compared) → sound limit es ≡ true → small ring₁ ≡ true → small ring₂ ≡ true → TrueReport R (cutting_all left_side) (cutting_all right_side) c → c ≡ compared R left_side right_side
  table-only c h s₁ s₂ t =
      compared-only R left_side right_side head₁ head₂ c (event-sound (known rows e) es (sound-marked limit es h))
      (framed-side (asked_events limit rows e es) ring₁ head₁ tail₁ scratch₁ s₁) (framed-side (asked_events limit rows e es) ring₂ head₂ tail₂ scratch₂ s₂) t

  -- a table that is refused: the left side's stop, with count 0
  pub table-refused : sound limit es ≡ false → compared R left_side right_side ≡ stops 4 (frame (asked_events limit rows e es) ring₁ head₁ tail₁ 1 16 (length scratch₁)).stop 0
  table-refused h =
      left_at_once R left_side right_side (frame_refused (asked_events limit rows e es) h ring₁ head₁ tail₁ 1 16 (length scratch₁))
      (refused-stop (asked_events limit rows e es) h ring₁ head₁ tail₁ (length scratch₁))

-- two editions that are editions, and answer alike for each record of both rings, tell the same
pub editions-alike : (limit : ℕ) (rows : List Known) (d e : ℕ) (es : List Event) (ring₁ ring₂ : List ℕ) (head₁ head₂ tail₁ tail₂ : ℕ) (scratch₁ scratch₂ : List ℕ)
    → allowed rows d ≡ true → allowed rows e ≡ true
    → All (λ (c : Cut). judge_events (known rows d) es c.record-bytes ≡ judge_events (known rows e) es c.record-bytes)
    (cutting_all (left_side limit rows d es ring₁ ring₂ head₁ head₂ tail₁ tail₂ scratch₁ scratch₂)).records
    → All (λ (c : Cut). judge_events (known rows d) es c.record-bytes ≡ judge_events (known rows e) es c.record-bytes)
    (cutting_all (right_side limit rows d es ring₁ ring₂ head₁ head₂ tail₁ tail₂ scratch₁ scratch₂)).records
    → compared (event_reads (known rows d) es) (left_side limit rows d es ring₁ ring₂ head₁ head₂ tail₁ tail₂ scratch₁ scratch₂) (right_side limit rows d es ring₁ ring₂ head₁ head₂ tail₁ tail₂ scratch₁ scratch₂)
    ≡ compared (event_reads (known rows e) es) (left_side limit rows e es ring₁ ring₂ head₁ head₂ tail₁ tail₂ scratch₁ scratch₂) (right_side limit rows e es ring₁ ring₂ head₁ head₂ tail₁ tail₂ scratch₁ scratch₂)
unfolding compared
editions-alike limit rows d e es ring₁ ring₂ head₁ head₂ tail₁ tail₂ scratch₁ scratch₂ a b p q =
    let l : Side = left_side limit rows d es ring₁ ring₂ head₁ head₂ tail₁ tail₂ scratch₁ scratch₂ in
    let r : Side = right_side limit rows d es ring₁ ring₂ head₁ head₂ tail₁ tail₂ scratch₁ scratch₂ in
    meet-editions (known rows d) (known rows e) es (cutting_all l).stop (cutting_all r).stop 0 (cutting_all l).records (cutting_all r).records p q
    ∙ ap (λ (ok : Bool). meet (event_reads (known rows e) es) (cutting_all (side_of (asking_with ok (sound limit es)) ring₁ head₁ tail₁ scratch₁)).stop (cutting_all (side_of (asking_with ok (sound limit es)) ring₂ head₂ tail₂ scratch₂)).stop 0
    (cutting_all (side_of (asking_with ok (sound limit es)) ring₁ head₁ tail₁ scratch₁)).records (cutting_all (side_of (asking_with ok (sound limit es)) ring₂ head₂ tail₂ scratch₂)).records) (a ∙ sym b)
