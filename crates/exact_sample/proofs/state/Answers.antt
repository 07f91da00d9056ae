-- Two blocks one after the other: registers, then stack. Assumes nothing.
use mathlib.Core.Path.{refl, sym, ◌∙◌}
use mathlib.Core.Bool.{Bool}
use Rattle.std.proofs.lemmas.Result.{err_from_is_err_and}
use Rattle.meaning.specs.Bytes.{bit}
use Rattle.laws.specs.Reasons.{number-some}
use Rattle.blocks.specs.Seen.{as-known, one-refuses, both_end}
use Rattle.blocks.specs.Blocks.{register_list, stack_bytes}
use Rattle.exact_sample.proofs.state.Goals as goal

pub registers-requires : goal.registers-requires
registers-requires c = record { at_in_bounds = c.requires.at_in_bounds; wide_value = λ q. c.requires.wide_value (sym c.has_bit.ensures ∙ q) }

pub returns-in_err-past : goal.returns-in_err-past
returns-in_err-past c =
    let a = c.args.a in
    let p = err_from_is_err_and c.from_residual.result c.from_residual.ensures.1 in
    rw (p.1, p.2)
    (one-refuses c.args.s.now (register_list (bit a.sample 12) a.user) (stack_bytes (bit a.sample 13)) c.args.at _
    (as-known (λ (t : Bool). register_list t a.user) _ _ _ _ _ (sym c.has_bit.ensures) (c.in_err-past.ensures.leaves, c.in_err-past.ensures.at_in_bounds_2)) (number-some _))

pub stack-requires : goal.stack-requires
stack-requires c = c.in_ok-past.ensures.at_in_bounds_2 refl

pub returns : goal.returns
returns c =
    let a = c.args.a in
    both_end c.args.s.now (register_list (bit a.sample 12) a.user) (stack_bytes (bit a.sample 13)) c.args.at _ _
    (as-known (λ (t : Bool). register_list t a.user) _ _ _ _ _ (sym c.has_bit.ensures) (c.in_ok-past.ensures.leaves, c.in_ok-past.ensures.at_in_bounds_2)) refl
    (as-known stack_bytes _ _ _ _ _ (sym c.has_bit-2.ensures) (c.stack.ensures.leaves, c.stack.ensures.at_in_bounds))
