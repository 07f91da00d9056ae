-- Three blocks one after the other: the first that refuses answers, else each starts where the one before ends. Assumes nothing.
use mathlib.Core.Path.{refl, sym}
use mathlib.Core.Bool.{Bool}
use Rattle.std.proofs.lemmas.Result.{err_from_is_err_and}
use Rattle.meaning.specs.Bytes.{bit}
use Rattle.laws.specs.Reasons.{number-some}
use Rattle.blocks.specs.Seen.{as-known, first-refuses, second-refuses, all_three}
use Rattle.blocks.specs.Blocks.{counted_list, raw_bytes, branch_list}
use Rattle.exact_sample.proofs.lists.Goals as goal

pub returns-in_err-past : goal.returns-in_err-past
returns-in_err-past c =
    let a = c.args.a in
    let p = err_from_is_err_and c.from_residual.result c.from_residual.ensures.1 in
    rw (p.1, p.2)
    (first-refuses c.args.s.now (counted_list (bit a.sample 5) 8) (raw_bytes (bit a.sample 10)) (branch_list (bit a.sample 11) (bit a.branch 17)) c.args.at _
    (as-known (λ (t : Bool). counted_list t 8) _ _ _ _ _ (sym c.has_bit.ensures) c.in_err-past.ensures) (number-some _))

pub raw-requires : goal.raw-requires
raw-requires c = c.in_ok-past.ensures.1 refl

pub returns-in_err-then : goal.returns-in_err-then
returns-in_err-then c =
    let a = c.args.a in
    let p = err_from_is_err_and c.from_residual-in_err-then.result c.from_residual-in_err-then.ensures.1 in
    rw (p.1, p.2)
    (second-refuses c.args.s.now (counted_list (bit a.sample 5) 8) (raw_bytes (bit a.sample 10)) (branch_list (bit a.sample 11) (bit a.branch 17)) c.args.at _ _
    (as-known (λ (t : Bool). counted_list t 8) _ _ _ _ _ (sym c.has_bit.ensures) c.in_ok-past.ensures) refl
    (as-known raw_bytes _ _ _ _ _ (sym c.has_bit-2.ensures) (c.in_err-then.ensures.leaves, c.in_err-then.ensures.at_in_bounds)) (number-some _))

pub branches-requires : goal.branches-requires
branches-requires c = record { at_in_bounds = c.in_ok-then.ensures.at_in_bounds refl; s_len_bound = c.requires.s_len_bound }

pub returns : goal.returns
returns c =
    let a = c.args.a in
    let v = as-known (λ (t : Bool). branch_list t c.has_bit-index.result) _ _ _ _ _ (sym c.has_bit-3.ensures) c.branches.ensures in
    let w = as-known (branch_list (bit a.sample 11)) _ _ _ _ _ (sym c.has_bit-index.ensures) v in
    all_three c.args.s.now (counted_list (bit a.sample 5) 8) (raw_bytes (bit a.sample 10)) (branch_list (bit a.sample 11) (bit a.branch 17)) c.args.at _ _ _
    (as-known (λ (t : Bool). counted_list t 8) _ _ _ _ _ (sym c.has_bit.ensures) c.in_ok-past.ensures) refl
    (as-known raw_bytes _ _ _ _ _ (sym c.has_bit-2.ensures) (c.in_ok-then.ensures.leaves, c.in_ok-then.ensures.at_in_bounds)) refl w
