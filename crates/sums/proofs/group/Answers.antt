-- One word, and eight bytes for each of two bits.
use mathlib.Core.Path.{ap, ◌∙◌}
use Prim.Native.Nat.{ℕ, ◌+◌}
use native.Mathlib.Omega.{arith}
use borrow.Author.Rules.{rules}
use Rattle.sums.specs.Sums.{group-count}
use Rattle.sums.proofs.group.Goals as goal

pub returns : goal.returns
returns c =
    let e = c.eights.ensures in
    let x = e.0 in
    let y = e.1 in
    (ap (λ (n : ℕ). 8 + n) x ∙ group-count c.args.a.format, omega (arith, y))
