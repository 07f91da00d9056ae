-- One word, and eight bytes for each of three bits.
use mathlib.Core.Path.{ap}
use Prim.Native.Nat.{ℕ, ◌+◌}
use native.Mathlib.Omega.{arith}
use borrow.Author.Rules.{rules}
use Rattle.sums.specs.Sums.{read_sum}
use Rattle.sums.proofs.read_values.Goals as goal

pub returns : goal.returns
unfolding read_sum
returns c = let e = c.eights.ensures in let x = e.0 in let y = e.1 in (ap (λ (n : ℕ). 8 + n) x, omega (arith, y))
