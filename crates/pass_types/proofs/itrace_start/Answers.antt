-- `pass_types::itrace_start` meets its contract: each call passes the next item of the list and leaves what the item after it asks. Assumes nothing.
-- Written by tools/chains.py from the rows of crate table.
use mathlib.Core.Path.{refl}
use Rattle.meaning.specs.Values.{tell}
use Rattle.pass.specs.Laws.{start, done, head₁, next₁}
use Rattle.pass_types.proofs.itrace_start.Goals as goal

pub number-requires : goal.number-requires
unfolding tell
number-requires g c = head₁ g.P.Pass.laws refl (start c.requires)

pub number-requires-2 : goal.number-requires-2
unfolding tell
number-requires-2 g c = head₁ g.P.Pass.laws refl (next₁ g.P.Pass.laws refl (start c.requires) c.number.ensures)

pub returns : goal.returns
unfolding tell
returns g c = done g.P.Pass.laws (next₁ g.P.Pass.laws refl (next₁ g.P.Pass.laws refl (start c.requires) c.number.ensures) c.number-2.ensures)
