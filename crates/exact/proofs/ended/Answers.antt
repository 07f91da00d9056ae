-- A refusal stands; else the place is the end, or bytes are left over.
use borrow.Author.Tests.{eq-eqb, ne_eqb}
use Rattle.std.proofs.lemmas.Result.{err_from_is_err_and}
use Rattle.meaning.specs.Reasons.{number_of}
use Rattle.laws.specs.Reasons.{number-some}
use Rattle.blocks.specs.Seen.{closed_at}
use Rattle.exact.proofs.ended.Goals as goal

pub returns-in_err-at : goal.returns-in_err-at
unfolding closed_at
returns-in_err-at c =
    let p = err_from_is_err_and c.from_residual.result c.from_residual.ensures.1 in
    let q = c.in_err-at.was in
    rw (p.1, p.2, q, ne_eqb (number_of c.in_err-at.field-0.0) 0 (number-some _))

pub returns-then-at-end : goal.returns-then-at-end
unfolding closed_at
returns-then-at-end c = let q = c.in_ok-at.was in rw (q, eq-eqb c.in_ok-at.at c.args.end c.if-at-end.true)

pub returns-else-at-end : goal.returns-else-at-end
unfolding closed_at
returns-else-at-end c = let q = c.in_ok-at.was in rw (q, ne_eqb c.in_ok-at.at c.args.end c.if-at-end.false)
