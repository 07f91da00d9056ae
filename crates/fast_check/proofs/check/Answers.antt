-- The edition, then what is asked of a slice; then the judge of a record whose size is its length.
use mathlib.Core.Path.{sym, ◌∙◌}
use Rattle.std.proofs.lemmas.Result.{err_from_is_err_and}
use Rattle.meaning.specs.Editions.{editions, known}
use Rattle.meaning.specs.Records.{layout, judge}
use Rattle.answers.specs.Checks.{check-edition, asked-check}
use Rattle.fast_check.proofs.check.Goals as goal

pub returns-then-not-allowed : goal.returns-then-not-allowed
returns-then-not-allowed c = let a = c.args in check-edition editions a.e a.a a.r.now (sym c.allowed.ensures ∙ c.if-not-allowed.true)

pub returns-in_err-h : goal.returns-in_err-h
returns-in_err-h c =
    let a = c.args in
    let p = err_from_is_err_and c.from_residual.result c.from_residual.ensures.1 in
    rw (p.1, p.2)
    (c.in_err-h.ensures.asked (judge (layout (known editions a.e) a.a)) ∙ asked-check editions a.e a.a a.r.now (sym c.allowed.ensures ∙ c.if-not-allowed.false))

pub returns-then-h-gt65535 : goal.returns-then-h-gt65535
returns-then-h-gt65535 c =
    let a = c.args in
    c.judge.ensures
    ∙ c.in_ok-h.ensures.asked (judge (layout (known editions a.e) a.a))
    ∙ asked-check editions a.e a.a a.r.now (sym c.allowed.ensures ∙ c.if-not-allowed.false)

pub returns : goal.returns
returns c =
    let a = c.args in
    c.planned.ensures
    ∙ c.in_ok-h.ensures.asked (judge (layout (known editions a.e) a.a))
    ∙ asked-check editions a.e a.a a.r.now (sym c.allowed.ensures ∙ c.if-not-allowed.false)
