-- A sum, then aux: two stretches.
use mathlib.Core.Path.{refl, sym}
use Rattle.std.proofs.lemmas.Result.{err_from_is_err_and}
use Rattle.meaning.specs.Bytes.{bit}
use Rattle.laws.specs.Reasons.{number-some}
use Rattle.blocks.specs.Seen.{as-known, one-refuses, both_end}
use Rattle.blocks.specs.Blocks.{aux_bytes}
use Rattle.exact.specs.Stretches.{after, after-steady}
use Rattle.exact_sample.proofs.paged.Goals as goal

pub returns-in_err-past : goal.returns-in_err-past
returns-in_err-past c =
    let a = c.args.w.a in
    let p = err_from_is_err_and c.from_residual.result c.from_residual.ensures.1 in
    rw (p.1, p.2)
    (one-refuses c.args.s.now (after a) (aux_bytes (bit a.sample 20)) c.args.at _
    (c.in_err-past.ensures.leaves (after a) (after-steady a) (sym c.args.w.right.after-sum), c.in_err-past.ensures.at_in_bounds) (number-some _))

pub aux-requires : goal.aux-requires
aux-requires c = c.in_ok-past.ensures.at_in_bounds refl

pub returns : goal.returns
returns c =
    let a = c.args.w.a in
    both_end c.args.s.now (after a) (aux_bytes (bit a.sample 20)) c.args.at _ _
    (c.in_ok-past.ensures.leaves (after a) (after-steady a) (sym c.args.w.right.after-sum), c.in_ok-past.ensures.at_in_bounds) refl
    (as-known aux_bytes _ _ _ _ _ (sym c.has_bit.ensures) (c.aux.ensures.leaves, c.aux.ensures.at_in_bounds))
