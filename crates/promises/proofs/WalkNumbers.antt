-- The backward ring (M-109): what a walk may be stopped with, with one attribute set and with a table of events. Assumes nothing.
use Rattle.std.specs.Prelude.{◌≡◌, List, true, ℕ}
use Rattle.meaning.specs.declared.Attributes.{Attributes}
use Rattle.meaning.specs.declared.Event.{Event}
use Rattle.meaning.specs.Editions.{editions, allowed, known, is_in}
use Rattle.meaning.specs.Records.{layout, judge}
use Rattle.meaning.specs.Drain.{End}
use Rattle.meaning.specs.Events.{asked_events, judge_events}
use Rattle.meaning.specs.Backward.{walk_back, walk_events}
use Rattle.editions.specs.Numbers.{walk_numbers, table_walk_numbers}
use Rattle.backward.proofs.Walks.{table-walk-in, walk-in}

module _ (e : ℕ) (a : Attributes) (ring : List ℕ) (head budget : ℕ) (journal scratch : List ℕ) where
  abbrev walked : End
  walked = walk_back editions e a ring head budget journal scratch

  -- "1, 2, 5 (head alone), .. 0, 6, 13, 8, 9, 3 ..; 4 and 7 don't occur"; without a table 11 does not either
  pub walk-numbers : is_in walked.stop walk_numbers ≡ true
  walk-numbers = walk-in (allowed editions e) (judge (layout (known editions e) a)) ring head budget journal scratch

module _ (limit e : ℕ) (es : List Event) (ring : List ℕ) (head budget : ℕ) (journal scratch : List ℕ) where
  abbrev walked_events : End
  walked_events = walk_events limit editions e es ring head budget journal scratch

  pub walk-events-numbers : is_in walked_events.stop table_walk_numbers ≡ true
  walk-events-numbers = table-walk-in (asked_events limit editions e es) (judge_events (known editions e) es) ring head budget journal scratch
