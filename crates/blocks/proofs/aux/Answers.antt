-- The size is not there; or the walk over it and its bytes. Assumes nothing.
use Rattle.std.proofs.lemmas.Result.{err_from_is_err_and}
use Rattle.meaning.specs.declared.Width.TheVariants.{W8}
use Rattle.blocks.specs.Blocks.{two-off, sized-short, sized-ends}
use Rattle.blocks.proofs.aux.Goals as goal

pub returns-then-not-on-clause-leaves : goal.returns-then-not-on-clause-leaves
returns-then-not-on-clause-leaves c = let a = c.args in rw c.if-not-on.true (two-off a.s.now _ _ a.at)

pub returns-in_err-n-clause-leaves : goal.returns-in_err-n-clause-leaves
returns-in_err-n-clause-leaves c =
    let p = err_from_is_err_and c.from_residual.result c.from_residual.ensures.1 in
    rw (p.1, p.2, c.in_err-n.ensures.0, c.if-not-on.false) (sized-short W8 c.args.s.now c.args.at c.in_err-n.ensures.1)

pub returns-clause-leaves : goal.returns-clause-leaves
returns-clause-leaves c = rw c.if-not-on.false (sized-ends W8 c.args.s.now c.args.at _ c.in_ok-n.ensures.0 c.in_ok-n.ensures.1 _ c.sized.ensures).0

pub returns-clause-at_in_bounds : goal.returns-clause-at_in_bounds
returns-clause-at_in_bounds c = (sized-ends W8 c.args.s.now c.args.at _ c.in_ok-n.ensures.0 c.in_ok-n.ensures.1 _ c.sized.ensures).1
