-- `pass_sample::sample_4` meets its contract: each call passes the next item of the list, its guard found bit by bit, and leaves what the item after it asks. Assumes nothing.
-- Written by tools/chains.py from the rows of crate table.
use mathlib.Core.Path.{ap₂}
use mathlib.Core.Bool.{◌&&◌}
use native.Mathlib.Omega.{arith}
use Rattle.meaning.specs.Values.{tell}
use Rattle.pass.specs.Laws.{start, done, head₁, next₁}
use Rattle.pass_sample.proofs.sample_4.Goals as goal

pub count-requires : goal.count-requires
unfolding tell
count-requires g c = head₁ g.P.Pass.laws c.has_bit.ensures (start c.requires)

pub times-requires : goal.times-requires
unfolding tell
times-requires g c = (head₁ g.P.Pass.laws c.has_bit-2.ensures (next₁ g.P.Pass.laws c.has_bit.ensures (start c.requires) c.count.ensures), omega arith, omega arith)

pub size-requires : goal.size-requires
unfolding tell
size-requires g c = head₁ g.P.Pass.laws c.has_bit-3.ensures (next₁ g.P.Pass.laws c.has_bit-2.ensures (next₁ g.P.Pass.laws c.has_bit.ensures (start c.requires) c.count.ensures) c.times.ensures)

pub times-requires-2 : goal.times-requires-2
unfolding tell
times-requires-2 g c = (head₁ g.P.Pass.laws c.has_bit-4.ensures (next₁ g.P.Pass.laws c.has_bit-3.ensures (next₁ g.P.Pass.laws c.has_bit-2.ensures (next₁ g.P.Pass.laws c.has_bit.ensures (start c.requires) c.count.ensures) c.times.ensures) c.size.ensures), omega arith, omega arith)

pub count-requires-2 : goal.count-requires-2
unfolding tell
count-requires-2 g c = head₁ g.P.Pass.laws c.has_bit-5.ensures (next₁ g.P.Pass.laws c.has_bit-4.ensures (next₁ g.P.Pass.laws c.has_bit-3.ensures (next₁ g.P.Pass.laws c.has_bit-2.ensures (next₁ g.P.Pass.laws c.has_bit.ensures (start c.requires) c.count.ensures) c.times.ensures) c.size.ensures) c.times-2.ensures)

pub number-requires : goal.number-requires
unfolding tell
number-requires g c = head₁ g.P.Pass.laws (ap₂ ◌&&◌ c.has_bit-6.ensures c.has_bit-7.ensures) (next₁ g.P.Pass.laws c.has_bit-5.ensures (next₁ g.P.Pass.laws c.has_bit-4.ensures (next₁ g.P.Pass.laws c.has_bit-3.ensures (next₁ g.P.Pass.laws c.has_bit-2.ensures (next₁ g.P.Pass.laws c.has_bit.ensures (start c.requires) c.count.ensures) c.times.ensures) c.size.ensures) c.times-2.ensures) c.count-2.ensures)

pub returns : goal.returns
unfolding tell
returns g c = done g.P.Pass.laws (next₁ g.P.Pass.laws (ap₂ ◌&&◌ c.has_bit-6.ensures c.has_bit-7.ensures) (next₁ g.P.Pass.laws c.has_bit-5.ensures (next₁ g.P.Pass.laws c.has_bit-4.ensures (next₁ g.P.Pass.laws c.has_bit-3.ensures (next₁ g.P.Pass.laws c.has_bit-2.ensures (next₁ g.P.Pass.laws c.has_bit.ensures (start c.requires) c.count.ensures) c.times.ensures) c.size.ensures) c.times-2.ensures) c.count-2.ensures) c.number.ensures)
