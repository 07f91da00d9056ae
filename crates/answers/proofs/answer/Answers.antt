-- `answers::answer` meets its contract: 20 to 25 by the rules; where there are none, 30 to 33. Assumes nothing.
use mathlib.Core.Path.{ap, ◌∙◌}
use Rattle.std.proofs.lemmas.Result.{err_from_is_err_and}
use Rattle.meaning.specs.declared.Known.{Known}
use Rattle.meaning.specs.Editions.{editions, known, unreadable}
use Rattle.answers.proofs.Laws.{answer-read, answer-unreadable}
use Rattle.answers.proofs.answer.Goals as goal

pub returns-in_err-unreadable : goal.returns-in_err-unreadable
returns-in_err-unreadable c =
    let a = c.args in
    let p = err_from_is_err_and c.from_residual.result c.from_residual.ensures.1 in
    rw (p.1, p.2)
    (answer-unreadable (known editions a.e) a.a a.kind a.misc a.r.now _ (c.in_err-unreadable.ensures ∙ ap (λ (k : Known). unreadable k a.a a.kind a.misc) c.edition.ensures))

pub returns : goal.returns
returns c =
    let a = c.args in
    c.fields_answer.ensures
    ∙ answer-read (known editions a.e) a.a a.kind a.misc a.r.now (c.in_ok-unreadable.ensures ∙ ap (λ (k : Known). unreadable k a.a a.kind a.misc) c.edition.ensures)
