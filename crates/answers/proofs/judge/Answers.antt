-- `answers::judge` meets its contract: the header by the reader, then the answer of its type and misc. Assumes nothing.
use mathlib.Core.Path.{◌∙◌}
use Rattle.meaning.specs.Editions.{editions, known}
use Rattle.answers.proofs.Laws.{judge-by}
use Rattle.answers.proofs.judge.Goals as goal

pub returns : goal.returns
returns c =
    let a = c.args in
    let h = c.whole_header-h.ensures in
    c.answer.ensures ∙ judge-by (known editions a.e) a.a a.r.now _ _ h.kind_is h.misc_is
