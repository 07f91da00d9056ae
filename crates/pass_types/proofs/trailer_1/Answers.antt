-- `pass_types::trailer_1` meets its contract: each call passes the next item of the list, its guard found bit by bit, and leaves what the item after it asks. Assumes nothing.
-- Written by tools/chains.py from the rows of crate table.
use Rattle.meaning.specs.Values.{tell}
use Rattle.pass.specs.Laws.{start, done, head₁, next₁}
use Rattle.pass_types.proofs.trailer_1.Goals as goal

pub number-requires : goal.number-requires
unfolding tell
number-requires g c = head₁ g.P.Pass.laws c.has_bit.ensures (start c.requires)

pub number-requires-2 : goal.number-requires-2
unfolding tell
number-requires-2 g c = head₁ g.P.Pass.laws c.has_bit-2.ensures (next₁ g.P.Pass.laws c.has_bit.ensures (start c.requires) c.number.ensures)

pub number-requires-3 : goal.number-requires-3
unfolding tell
number-requires-3 g c = head₁ g.P.Pass.laws c.has_bit-3.ensures (next₁ g.P.Pass.laws c.has_bit-2.ensures (next₁ g.P.Pass.laws c.has_bit.ensures (start c.requires) c.number.ensures) c.number-2.ensures)

pub number-requires-4 : goal.number-requires-4
unfolding tell
number-requires-4 g c = head₁ g.P.Pass.laws c.has_bit-4.ensures (next₁ g.P.Pass.laws c.has_bit-3.ensures (next₁ g.P.Pass.laws c.has_bit-2.ensures (next₁ g.P.Pass.laws c.has_bit.ensures (start c.requires) c.number.ensures) c.number-2.ensures) c.number-3.ensures)

pub returns : goal.returns
unfolding tell
returns g c = done g.P.Pass.laws (next₁ g.P.Pass.laws c.has_bit-4.ensures (next₁ g.P.Pass.laws c.has_bit-3.ensures (next₁ g.P.Pass.laws c.has_bit-2.ensures (next₁ g.P.Pass.laws c.has_bit.ensures (start c.requires) c.number.ensures) c.number-2.ensures) c.number-3.ensures) c.number-4.ensures)
