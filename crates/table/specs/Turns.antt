-- A loop over rows: the items that are still to come, and the walk over them. Assumes nothing.
use Rattle.std.specs.Prelude.{◌≡◌, List, [], ◌∷◌, map, ℕ, ◌+◌, ◌<◌, ◌≤◌, get_or}
use Rattle.std.proofs.Common.{add-one}
use Rattle.std.proofs.Math.Seq.{slice, slice-cons, slice_empty}
use Rattle.meaning.specs.States.{Cursor}
use Rattle.meaning.specs.declared.Item.{Item}
use Rattle.meaning.specs.Items.{step, walk}
use Rattle.table.specs.Rows.{rows, all_rows}

module _ (f : ℕ → Item) where
  pub rows_next : (k to : ℕ) → k < to → to ≤ all_rows → map f (slice k to rows) ≡ f (get_or rows k 0) ∷ map f (slice (k + 1) to rows)
  rows_next k to h l = rw (slice-cons k to rows 0 h l, add-one k)

  pub rows-over : (k : ℕ) → map f (slice k k rows) ≡ []
  rows-over k = rw (slice_empty k rows)

  module _ (xs : List ℕ) where
    pub walk-next : (k to : ℕ) (c d : Cursor) → k < to → to ≤ all_rows → d ≡ step xs (f (get_or rows k 0)) c
        → walk xs (map f (slice k to rows)) c ≡ walk xs (map f (slice (k + 1) to rows)) d
    unfolding walk
    walk-next k to c d h l e = rw (rows_next k to h l, e)

    pub walk-over : (k : ℕ) (c : Cursor) → walk xs (map f (slice k k rows)) c ≡ c
    unfolding walk
    walk-over k c = rw (rows-over k)
