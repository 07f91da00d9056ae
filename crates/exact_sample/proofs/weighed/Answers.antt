-- A sum, then registers: two stretches.
use mathlib.Core.Path.{refl, sym, ◌∙◌}
use mathlib.Core.Bool.{Bool}
use Rattle.std.proofs.lemmas.Result.{err_from_is_err_and}
use Rattle.meaning.specs.Bytes.{bit}
use Rattle.laws.specs.Reasons.{number-some}
use Rattle.blocks.specs.Seen.{as-known, one-refuses, both_end}
use Rattle.blocks.specs.Blocks.{register_list}
use Rattle.exact.specs.Stretches.{early, early-steady}
use Rattle.exact_sample.proofs.weighed.Goals as goal

pub returns-in_err-past : goal.returns-in_err-past
returns-in_err-past c =
    let a = c.args.w.a in
    let p = err_from_is_err_and c.from_residual.result c.from_residual.ensures.1 in
    rw (p.1, p.2)
    (one-refuses c.args.s.now (early a) (register_list (bit a.sample 18) a.interrupt) c.args.at _
    (c.in_err-past.ensures.leaves (early a) (early-steady a) (sym (c.args.w.right.early-sum c.args.w.single)), c.in_err-past.ensures.at_in_bounds) (number-some _))

pub registers-requires : goal.registers-requires
registers-requires c = record { at_in_bounds = c.in_ok-past.ensures.at_in_bounds refl; wide_value = λ q. c.args.w.right.interrupt (sym c.has_bit.ensures ∙ q) }

pub returns : goal.returns
returns c =
    let a = c.args.w.a in
    both_end c.args.s.now (early a) (register_list (bit a.sample 18) a.interrupt) c.args.at _ _
    (c.in_ok-past.ensures.leaves (early a) (early-steady a) (sym (c.args.w.right.early-sum c.args.w.single)), c.in_ok-past.ensures.at_in_bounds) refl
    (as-known (λ (t : Bool). register_list t a.interrupt) _ _ _ _ _ (sym c.has_bit.ensures) (c.registers.ensures.leaves, c.registers.ensures.at_in_bounds_2))
