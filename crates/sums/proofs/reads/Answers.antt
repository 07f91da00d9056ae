-- By the two bits that say whether there are values, and no group.
use mathlib.Core.Path.{◌≡◌, sym, ap, ◌∙◌}
use mathlib.Core.Bool.{Bool, true, false, cond, not, ◌&&◌}
use native.Mathlib.Omega.{arith}
use borrow.Author.Rules.{rules}
use Rattle.meaning.specs.Bytes.{bit}
use Rattle.sums.specs.Sums.{read_sum, reads_of}
use Rattle.sums.proofs.reads.Goals as goal

pub returns-then-has_bit : goal.returns-then-has_bit
unfolding reads_of
returns-then-has_bit c =
    let a = c.args.a in
    let b : (bit a.sample 4 && not (bit a.format 3)) ≡ true = cc in
    (c.read_values.ensures.0 ∙ sym (ap (λ (t : Bool). cond t (read_sum a) 0) b), c.read_values.ensures.1)

pub returns-else-has_bit : goal.returns-else-has_bit
unfolding reads_of
returns-else-has_bit c =
    let a = c.args.a in
    let b : (bit a.sample 4 && not (bit a.format 3)) ≡ false = cc in
    (sym (ap (λ (t : Bool). cond t (read_sum a) 0) b), omega arith)
