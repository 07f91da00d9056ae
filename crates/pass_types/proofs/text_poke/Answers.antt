-- `pass_types::text_poke` meets its contract: each call passes the next item of the list and leaves what the item after it asks. Assumes nothing.
-- Written by tools/chains.py from the rows of crate table.
use mathlib.Core.Path.{refl}
use native.Mathlib.Omega.{arith}
use Rattle.meaning.specs.Values.{tell}
use Rattle.pass.specs.Laws.{start, done, head₁, next₁}
use Rattle.pass_types.proofs.text_poke.Goals as goal

pub number-requires : goal.number-requires
unfolding tell
number-requires g c = head₁ g.P.Pass.laws refl (start c.requires)

pub count-requires : goal.count-requires
unfolding tell
count-requires g c = head₁ g.P.Pass.laws refl (next₁ g.P.Pass.laws refl (start c.requires) c.number.ensures)

pub count-requires-2 : goal.count-requires-2
unfolding tell
count-requires-2 g c = head₁ g.P.Pass.laws refl (next₁ g.P.Pass.laws refl (next₁ g.P.Pass.laws refl (start c.requires) c.number.ensures) c.count.ensures)

pub earlier-requires : goal.earlier-requires
unfolding tell
earlier-requires g c = head₁ g.P.Pass.laws refl (next₁ g.P.Pass.laws refl (next₁ g.P.Pass.laws refl (next₁ g.P.Pass.laws refl (start c.requires) c.number.ensures) c.count.ensures) c.count-2.ensures)

pub times-requires : goal.times-requires
unfolding tell
times-requires g c = (head₁ g.P.Pass.laws refl (next₁ g.P.Pass.laws refl (next₁ g.P.Pass.laws refl (next₁ g.P.Pass.laws refl (next₁ g.P.Pass.laws refl (start c.requires) c.number.ensures) c.count.ensures) c.count-2.ensures) c.earlier.ensures), omega arith, omega arith)

pub pad-requires : goal.pad-requires
unfolding tell
pad-requires g c = head₁ g.P.Pass.laws refl (next₁ g.P.Pass.laws refl (next₁ g.P.Pass.laws refl (next₁ g.P.Pass.laws refl (next₁ g.P.Pass.laws refl (next₁ g.P.Pass.laws refl (start c.requires) c.number.ensures) c.count.ensures) c.count-2.ensures) c.earlier.ensures) c.times.ensures)

pub returns : goal.returns
unfolding tell
returns g c = done g.P.Pass.laws (next₁ g.P.Pass.laws refl (next₁ g.P.Pass.laws refl (next₁ g.P.Pass.laws refl (next₁ g.P.Pass.laws refl (next₁ g.P.Pass.laws refl (next₁ g.P.Pass.laws refl (start c.requires) c.number.ensures) c.count.ensures) c.count-2.ensures) c.earlier.ensures) c.times.ensures) c.pad.ensures)
