use mathlib.Core.Path.{◌≡◌}
use mathlib.Core.List.{map}
use lib.ListN.{drop}
use Rattle.meaning.specs.Items.{walk}
use Rattle.meaning.specs.Reasons.{cursor_of}
use Rattle.table.specs.Rows.{item_of}
use Rattle.answers.proofs.walk.Given as goal

-- the walk over all rows is the walk over those that are still to come
abbrev pub invariant-loop-row : goal.invariant-loop-row
invariant-loop-row l =
    walk l.s (map (item_of l.a l.misc l.kind) l.own) (cursor_of l.initial.spot)
    ≡ walk l.s (map (item_of l.a l.misc l.kind) (drop l.row-index l.own)) (cursor_of l.spot)
