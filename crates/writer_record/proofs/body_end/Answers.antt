-- `writer_record::body_end` meets its contract: without a name the fields' words end it; with one, the flag's word is the last. Assumes nothing.
use Rattle.std.proofs.Common.{sym, arith}
use Rattle.writer_record.specs.Spare.{end_none, end-some, end-few}
use Rattle.writer_record.proofs.body_end.Goals as goal

pub overflow_add-result : goal.overflow_add-result
overflow_add-result c =
    let e = c.in-Some.ensures in
    let some = e.some in
    let h = end-few c.args.p c.requires.2 _ e.value (λ z. omega (arith, z, some)) in
    omega (arith, h)

pub returns-in-Some : goal.returns-in-Some
returns-in-Some c =
    let e = c.in-Some.ensures in
    let some = e.some in
    end-some c.args.p c.requires.2 _ e.value (λ z. omega (arith, z, some))

pub returns-in-None : goal.returns-in-None
returns-in-None c = end_none c.args.p c.requires.2 _ (sym c.in-None.ensures.value) c.words_end.ensures
