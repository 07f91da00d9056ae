-- Selected or not.
use mathlib.Core.Path.{sym, ap, ◌∙◌}
use mathlib.Core.Bool.{Bool, cond}
use Prim.Native.Nat.{ℕ, ◌*◌}
use borrow.Author.Rules.{rules}
use Rattle.meaning.specs.Bytes.{ones}
use Rattle.sums.proofs.registers.Goals as goal

pub returns-then-on : goal.returns-then-on
returns-then-on c =
    let a = c.args in
    ap (λ (n : ℕ). n * 8) c.count_ones.ensures.0 ∙ sym (ap (λ (t : Bool). cond t (ones 64 a.mask * 8) 0) c.if-on.true)

pub returns-else-on : goal.returns-else-on
returns-else-on c = let a = c.args in sym (ap (λ (t : Bool). cond t (ones 64 a.mask * 8) 0) c.if-on.false)
