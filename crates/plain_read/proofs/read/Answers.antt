-- `plain_read::read` meets its contract: the words of an accepted record are those of the definition; else zeros. Assumes nothing.
use mathlib.Core.Path.{refl, sym}
use Rattle.std.proofs.lemmas.Result.{err_from_is_err_and}
use Rattle.meaning.specs.Editions.{editions}
use Rattle.laws.specs.Reasons.{number-some}
use Rattle.record.specs.Same.{accepted}
use Rattle.record.specs.Lent.{read-accepted, read-refused}
use Rattle.plain_read.proofs.read.Goals as goal

pub returns-in_err-check : goal.returns-in_err-check
returns-in_err-check c =
    let a = c.args in
    let p = err_from_is_err_and c.from_residual.result c.from_residual.ensures.1 in
    rw (p.1, p.2) (read-refused editions a.e a.a a.r.now _ c.in_err-check.ensures (number-some c.in_err-check.field-0.0))

pub of_record-requires : goal.of_record-requires
of_record-requires c = let a = c.args in accepted editions a.e a.a a.r.now (sym c.in_ok-check.ensures)

pub returns : goal.returns
returns c = let a = c.args in read-accepted editions a.e a.a a.r.now 0 c.in_ok-check.ensures _ refl c.of_record.ensures
