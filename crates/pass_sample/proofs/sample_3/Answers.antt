-- `pass_sample::sample_3` meets its contract: each call passes the next item of the list, its guard found bit by bit, and leaves what the item after it asks. Assumes nothing.
-- Written by tools/chains.py from the rows of crate table.
use mathlib.Core.Path.{ap, ap₂}
use mathlib.Core.Bool.{not, ◌&&◌}
use Rattle.meaning.specs.Values.{tell}
use Rattle.pass.specs.Laws.{start, done, head₁, next₁}
use Rattle.pass_sample.proofs.sample_3.Goals as goal

pub count-requires : goal.count-requires
unfolding tell
count-requires g c = head₁ g.P.Pass.laws (ap₂ ◌&&◌ c.has_bit.ensures c.has_bit-2.ensures) (start c.requires)

pub number-requires : goal.number-requires
unfolding tell
number-requires g c = head₁ g.P.Pass.laws (ap₂ ◌&&◌ c.has_bit-3.ensures c.has_bit-4.ensures) (next₁ g.P.Pass.laws (ap₂ ◌&&◌ c.has_bit.ensures c.has_bit-2.ensures) (start c.requires) c.count.ensures)

pub number-requires-2 : goal.number-requires-2
unfolding tell
number-requires-2 g c = head₁ g.P.Pass.laws (ap₂ ◌&&◌ c.has_bit-5.ensures c.has_bit-6.ensures) (next₁ g.P.Pass.laws (ap₂ ◌&&◌ c.has_bit-3.ensures c.has_bit-4.ensures) (next₁ g.P.Pass.laws (ap₂ ◌&&◌ c.has_bit.ensures c.has_bit-2.ensures) (start c.requires) c.count.ensures) c.number.ensures)

pub number-requires-3 : goal.number-requires-3
unfolding tell
number-requires-3 g c = head₁ g.P.Pass.laws (ap₂ ◌&&◌ c.has_bit-7.ensures (ap₂ ◌&&◌ (ap not c.has_bit-8.ensures) c.has_bit-9.ensures)) (next₁ g.P.Pass.laws (ap₂ ◌&&◌ c.has_bit-5.ensures c.has_bit-6.ensures) (next₁ g.P.Pass.laws (ap₂ ◌&&◌ c.has_bit-3.ensures c.has_bit-4.ensures) (next₁ g.P.Pass.laws (ap₂ ◌&&◌ c.has_bit.ensures c.has_bit-2.ensures) (start c.requires) c.count.ensures) c.number.ensures) c.number-2.ensures)

pub number-requires-4 : goal.number-requires-4
unfolding tell
number-requires-4 g c = head₁ g.P.Pass.laws (ap₂ ◌&&◌ c.has_bit-10.ensures (ap₂ ◌&&◌ (ap not c.has_bit-11.ensures) c.has_bit-12.ensures)) (next₁ g.P.Pass.laws (ap₂ ◌&&◌ c.has_bit-7.ensures (ap₂ ◌&&◌ (ap not c.has_bit-8.ensures) c.has_bit-9.ensures)) (next₁ g.P.Pass.laws (ap₂ ◌&&◌ c.has_bit-5.ensures c.has_bit-6.ensures) (next₁ g.P.Pass.laws (ap₂ ◌&&◌ c.has_bit-3.ensures c.has_bit-4.ensures) (next₁ g.P.Pass.laws (ap₂ ◌&&◌ c.has_bit.ensures c.has_bit-2.ensures) (start c.requires) c.count.ensures) c.number.ensures) c.number-2.ensures) c.number-3.ensures)

pub values-requires : goal.values-requires
unfolding tell
values-requires g c = head₁ g.P.Pass.laws (ap₂ ◌&&◌ c.has_bit-13.ensures c.has_bit-14.ensures) (next₁ g.P.Pass.laws (ap₂ ◌&&◌ c.has_bit-10.ensures (ap₂ ◌&&◌ (ap not c.has_bit-11.ensures) c.has_bit-12.ensures)) (next₁ g.P.Pass.laws (ap₂ ◌&&◌ c.has_bit-7.ensures (ap₂ ◌&&◌ (ap not c.has_bit-8.ensures) c.has_bit-9.ensures)) (next₁ g.P.Pass.laws (ap₂ ◌&&◌ c.has_bit-5.ensures c.has_bit-6.ensures) (next₁ g.P.Pass.laws (ap₂ ◌&&◌ c.has_bit-3.ensures c.has_bit-4.ensures) (next₁ g.P.Pass.laws (ap₂ ◌&&◌ c.has_bit.ensures c.has_bit-2.ensures) (start c.requires) c.count.ensures) c.number.ensures) c.number-2.ensures) c.number-3.ensures) c.number-4.ensures)

pub returns : goal.returns
unfolding tell
returns g c = done g.P.Pass.laws (next₁ g.P.Pass.laws (ap₂ ◌&&◌ c.has_bit-13.ensures c.has_bit-14.ensures) (next₁ g.P.Pass.laws (ap₂ ◌&&◌ c.has_bit-10.ensures (ap₂ ◌&&◌ (ap not c.has_bit-11.ensures) c.has_bit-12.ensures)) (next₁ g.P.Pass.laws (ap₂ ◌&&◌ c.has_bit-7.ensures (ap₂ ◌&&◌ (ap not c.has_bit-8.ensures) c.has_bit-9.ensures)) (next₁ g.P.Pass.laws (ap₂ ◌&&◌ c.has_bit-5.ensures c.has_bit-6.ensures) (next₁ g.P.Pass.laws (ap₂ ◌&&◌ c.has_bit-3.ensures c.has_bit-4.ensures) (next₁ g.P.Pass.laws (ap₂ ◌&&◌ c.has_bit.ensures c.has_bit-2.ensures) (start c.requires) c.count.ensures) c.number.ensures) c.number-2.ensures) c.number-3.ensures) c.number-4.ensures) c.values.ensures)
