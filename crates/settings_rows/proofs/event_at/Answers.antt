-- Word by word; the last is the constant 1.
use mathlib.Core.List.{[], ◌∷◌}
use borrow.Author.Rules.{rules}
use Rattle.settings_rows.proofs.event_at.Goals as goal

pub returns : goal.returns
returns c = λ j. c.u64_at.ensures j ∷ c.u64_at-2.ensures j ∷ c.u64_at-3.ensures j ∷ c.u64_at-4.ensures j ∷ c.u64_at-5.ensures j ∷ c.u64_at-6.ensures j ∷ 1 ∷ []
