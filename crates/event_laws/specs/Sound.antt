-- Row 11 in the order of its tests: too few, too many, an event without its marks; then the identifiers decide. Assumes nothing.
use Rattle.std.specs.Prelude.{◌≡◌, true, false, ◌&&◌, List, ℕ, ◌<◌, ◌≤◌, leb, length}
use Rattle.std.proofs.Math.Bool.{and-false}
use Rattle.std.proofs.lemmas.Bool.{lt-leb}
use Rattle.std.proofs.Common.{le-leb, leb-true}
use Rattle.meaning.specs.declared.Event.{Event}
use Rattle.meaning.specs.Events.{identifiers, distinct, all_marked, sound}
use Rattle.laws.specs.Bytes.{and-true}

pub sound-short : (limit : ℕ) (es : List Event) → length es < 1 → sound limit es ≡ false
unfolding sound
sound-short limit es h = simp (lt-leb 1 (length es) h)

pub sound-long : (limit : ℕ) (es : List Event) → limit < length es → sound limit es ≡ false
unfolding sound
sound-long limit es h = simp (lt-leb (length es) limit h, and-false)

pub sound-unmarked : (limit : ℕ) (es : List Event) → all_marked es ≡ false → sound limit es ≡ false
unfolding sound
sound-unmarked limit es h = simp (h, and-false)

pub sound-by : (limit : ℕ) (es : List Event) → 1 ≤ length es → length es ≤ limit → all_marked es ≡ true → sound limit es ≡ distinct (identifiers es)
unfolding sound
sound-by limit es h m e = simp (le-leb 1 (length es) h, le-leb (length es) limit m, e)

pub sound-limit : (limit : ℕ) (es : List Event) → sound limit es ≡ true → length es ≤ limit
unfolding sound
sound-limit limit es h =
    let p = and-true (leb 1 (length es) && leb (length es) limit) (all_marked es && distinct (identifiers es)) h in
    leb-true _ _ (and-true (leb 1 (length es)) (leb (length es) limit) p.0).1
