-- `pass_types::mmap2_3` meets its contract: each call passes the next item of the list, its guard found bit by bit, and leaves what the item after it asks. Assumes nothing.
-- Written by tools/chains.py from the rows of crate table.
use mathlib.Core.Path.{refl}
use native.Mathlib.Omega.{arith}
use Rattle.meaning.specs.Values.{tell}
use Rattle.pass.specs.Laws.{start, done, head₁, next₁}
use Rattle.pass_types.proofs.mmap2_3.Goals as goal

pub ignored-requires : goal.ignored-requires
unfolding tell
ignored-requires g c = (head₁ g.P.Pass.laws c.has_bit.ensures (start c.requires), omega arith)

pub listed-requires : goal.listed-requires
unfolding tell
listed-requires g c = head₁ g.P.Pass.laws c.has_bit-2.ensures (next₁ g.P.Pass.laws c.has_bit.ensures (start c.requires) c.ignored.ensures)

pub number-requires : goal.number-requires
unfolding tell
number-requires g c = head₁ g.P.Pass.laws refl (next₁ g.P.Pass.laws c.has_bit-2.ensures (next₁ g.P.Pass.laws c.has_bit.ensures (start c.requires) c.ignored.ensures) c.listed.ensures)

pub number-requires-2 : goal.number-requires-2
unfolding tell
number-requires-2 g c = head₁ g.P.Pass.laws refl (next₁ g.P.Pass.laws refl (next₁ g.P.Pass.laws c.has_bit-2.ensures (next₁ g.P.Pass.laws c.has_bit.ensures (start c.requires) c.ignored.ensures) c.listed.ensures) c.number.ensures)

pub name-requires : goal.name-requires
unfolding tell
name-requires g c = head₁ g.P.Pass.laws refl (next₁ g.P.Pass.laws refl (next₁ g.P.Pass.laws refl (next₁ g.P.Pass.laws c.has_bit-2.ensures (next₁ g.P.Pass.laws c.has_bit.ensures (start c.requires) c.ignored.ensures) c.listed.ensures) c.number.ensures) c.number-2.ensures)

pub returns : goal.returns
unfolding tell
returns g c = done g.P.Pass.laws (next₁ g.P.Pass.laws refl (next₁ g.P.Pass.laws refl (next₁ g.P.Pass.laws refl (next₁ g.P.Pass.laws c.has_bit-2.ensures (next₁ g.P.Pass.laws c.has_bit.ensures (start c.requires) c.ignored.ensures) c.listed.ensures) c.number.ensures) c.number-2.ensures) c.name.ensures)
