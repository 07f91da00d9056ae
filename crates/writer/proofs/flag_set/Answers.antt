-- `writer::flag_set` meets its contract: a type without a name has no flag; of the others its word is looked at. Assumes nothing.
use Rattle.std.proofs.Common.{sym, arith}
use Rattle.writer.specs.Answers.{set-none, set-some}
use Rattle.writer.proofs.flag_set.Goals as goal

pub returns-in-Some : goal.returns-in-Some
returns-in-Some c =
    let e = c.in-Some.ensures in
    let some = e.some in
    set-some c.args.ws.now c.args.kind _ _ e.value (λ z. omega (arith, z, some)) c.word.ensures

pub returns-in-None : goal.returns-in-None
returns-in-None c = set-none c.args.ws.now c.args.kind (sym c.in-None.ensures.value)
