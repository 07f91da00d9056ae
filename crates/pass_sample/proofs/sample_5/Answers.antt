-- `pass_sample::sample_5` meets its contract: each call passes the next item of the list, its guard found bit by bit, and leaves what the item after it asks. Assumes nothing.
-- Written by tools/chains.py from the rows of crate table.
use native.Mathlib.Omega.{arith}
use Rattle.meaning.specs.Values.{tell}
use Rattle.pass.specs.Laws.{start, done, head₁, next₁}
use Rattle.pass_sample.proofs.sample_5.Goals as goal

pub times-requires : goal.times-requires
unfolding tell
times-requires g c = (head₁ g.P.Pass.laws c.has_bit.ensures (start c.requires), omega arith, omega arith)

pub abi-requires : goal.abi-requires
unfolding tell
abi-requires g c = head₁ g.P.Pass.laws c.has_bit-2.ensures (next₁ g.P.Pass.laws c.has_bit.ensures (start c.requires) c.times.ensures)

pub registers-requires : goal.registers-requires
unfolding tell
registers-requires g c = head₁ g.P.Pass.laws c.has_bit-3.ensures (next₁ g.P.Pass.laws c.has_bit-2.ensures (next₁ g.P.Pass.laws c.has_bit.ensures (start c.requires) c.times.ensures) c.abi.ensures)

pub size-requires : goal.size-requires
unfolding tell
size-requires g c = head₁ g.P.Pass.laws c.has_bit-4.ensures (next₁ g.P.Pass.laws c.has_bit-3.ensures (next₁ g.P.Pass.laws c.has_bit-2.ensures (next₁ g.P.Pass.laws c.has_bit.ensures (start c.requires) c.times.ensures) c.abi.ensures) c.registers.ensures)

pub times-requires-2 : goal.times-requires-2
unfolding tell
times-requires-2 g c = (head₁ g.P.Pass.laws c.has_bit-5.ensures (next₁ g.P.Pass.laws c.has_bit-4.ensures (next₁ g.P.Pass.laws c.has_bit-3.ensures (next₁ g.P.Pass.laws c.has_bit-2.ensures (next₁ g.P.Pass.laws c.has_bit.ensures (start c.requires) c.times.ensures) c.abi.ensures) c.registers.ensures) c.size.ensures), omega arith, omega arith)

pub filled-requires : goal.filled-requires
unfolding tell
filled-requires g c = head₁ g.P.Pass.laws c.has_bit-6.ensures (next₁ g.P.Pass.laws c.has_bit-5.ensures (next₁ g.P.Pass.laws c.has_bit-4.ensures (next₁ g.P.Pass.laws c.has_bit-3.ensures (next₁ g.P.Pass.laws c.has_bit-2.ensures (next₁ g.P.Pass.laws c.has_bit.ensures (start c.requires) c.times.ensures) c.abi.ensures) c.registers.ensures) c.size.ensures) c.times-2.ensures)

pub returns : goal.returns
unfolding tell
returns g c = done g.P.Pass.laws (next₁ g.P.Pass.laws c.has_bit-6.ensures (next₁ g.P.Pass.laws c.has_bit-5.ensures (next₁ g.P.Pass.laws c.has_bit-4.ensures (next₁ g.P.Pass.laws c.has_bit-3.ensures (next₁ g.P.Pass.laws c.has_bit-2.ensures (next₁ g.P.Pass.laws c.has_bit.ensures (start c.requires) c.times.ensures) c.abi.ensures) c.registers.ensures) c.size.ensures) c.times-2.ensures) c.filled.ensures)
