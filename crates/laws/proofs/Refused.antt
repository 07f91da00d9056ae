-- The answer of a record that has an event is that of its event's attributes; and what row 11 does to a frame. Assumes nothing.
use Rattle.std.specs.Prelude.{◌≡◌, refl, Bool, true, false, cond, not, ◌&&◌, ◌||◌, List, ℕ, ◌/◌, ◌%◌, ◌^◌, ◌<◌, ◌≤◌, leb, ltb, eqb, length}
use Rattle.std.proofs.Common.{sym, ap, ◌∙◌, subst, arith, pow_mono, eqb-true, ltb-false, le-leb}
use Rattle.std.proofs.lemmas.Bool.{not-false}
use Rattle.meaning.specs.declared.Attributes.{Attributes}
use Rattle.meaning.specs.declared.Event.{Event}
use Rattle.meaning.specs.declared.Known.{Known}
use Rattle.meaning.specs.Bytes.{bit}
use Rattle.meaning.specs.Refusals.{first, or_else}
use Rattle.meaning.specs.Editions.{allowed, knows, sample_bit, unknowns, clashes, unreadable, is_in}
use Rattle.meaning.specs.Records.{layout, kind_of, misc_of, judge}
use Rattle.meaning.specs.Ring.{Asked, asking_with, asked_of, frame}
use Rattle.meaning.specs.Events.{attributes_of, identifiers, distinct, all_marked, sound, asked_events, identifier_of, index_for, event_for, has_event, gate, eventless, layout_for, unmatched, judge_events}
use Rattle.laws.specs.Bytes.{apart, and-true}
use Rattle.laws.proofs.Framing.{frame-going}
use Rattle.laws.specs.Lookup.{identifiers-length, marked-at, index_in}

-- a frame that goes on has a table that is sound
pub going-sound : (asked : Asked) (ring : List ℕ) (head tail left journal scratch : ℕ) → (frame asked ring head tail left journal scratch).go ≡ true → asked.table ≡ true
going-sound asked ring head tail left journal scratch g = not-false asked.table (frame-going asked ring head tail left journal scratch _ refl g).beside.1.0

-- "before anything is taken"
pub frame_refused : (asked : Asked) → asked.table ≡ false → (ring : List ℕ) (head tail left journal scratch : ℕ) → (frame asked ring head tail left journal scratch).go ≡ false
frame_refused asked h ring head tail left journal scratch = by (frame asked ring head tail left journal scratch).go refl
  where
    by : (b : Bool) → (frame asked ring head tail left journal scratch).go ≡ b → b ≡ false
    by true g = absurd (apart (sym h ∙ going-sound asked ring head tail left journal scratch g))
    by false g = refl
