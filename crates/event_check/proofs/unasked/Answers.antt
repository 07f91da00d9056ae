-- Test by test, in the order of the rows.
use Rattle.std.specs.Prelude.{List, ℕ}
use Rattle.std.proofs.Common.{sym, ◌∙◌}
use Rattle.std.proofs.lemmas.Result.{err_from_is_err_and}
use Rattle.meaning.specs.Editions.{editions}
use Rattle.event_laws.specs.Asked.{asks-2, asks-11, asks-rest}
use Rattle.event_check.proofs.unasked.Goals as goal

pub returns-then-not-allowed : goal.returns-then-not-allowed
returns-then-not-allowed c =
    let a = c.args in
    asks-2 a.limit editions a.e a.events.now a.r.now (sym c.allowed.ensures ∙ c.if-not-allowed.true)

pub returns-then-not-sound : goal.returns-then-not-sound
returns-then-not-sound c =
    let a = c.args in
    asks-11 a.limit editions a.e a.events.now a.r.now (sym c.allowed.ensures ∙ c.if-not-allowed.false) (sym c.sound.ensures ∙ c.if-not-sound.true)

pub returns-in_err-header_of_whole : goal.returns-in_err-header_of_whole
returns-in_err-header_of_whole c =
    let a = c.args in
    let p = err_from_is_err_and c.from_residual.result c.from_residual.ensures.1 in
    rw (p.1, p.2)
    (c.in_err-header_of_whole.ensures.asked (λ (ys : List ℕ). 0)
    ∙ asks-rest a.limit editions a.e a.events.now a.r.now (sym c.allowed.ensures ∙ c.if-not-allowed.false) (sym c.sound.ensures ∙ c.if-not-sound.false))

pub returns : goal.returns
returns c =
    let a = c.args in
    c.in_ok-header_of_whole.ensures.asked (λ (ys : List ℕ). 0)
    ∙ asks-rest a.limit editions a.e a.events.now a.r.now (sym c.allowed.ensures ∙ c.if-not-allowed.false) (sym c.sound.ensures ∙ c.if-not-sound.false)
