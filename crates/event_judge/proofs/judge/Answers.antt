-- What the match refuses is the answer; where it finds an event, the answer is that event's own.
use Rattle.std.specs.Prelude.{refl, Ok, Err}
use Rattle.std.proofs.Common.{◌∙◌, arith}
use Rattle.std.proofs.lemmas.Result.{err_from_is_err_and}
use Rattle.laws.specs.Reasons.{number-some}
use Rattle.meaning.specs.Editions.{editions, known}
use Rattle.event_laws.specs.Match.{match_of, match-refused, match-there, match-own}
use Rattle.event_judge.proofs.judge.Goals as goal

pub returns-in_err-index : goal.returns-in_err-index
returns-in_err-index c =
    let a = c.args in
    let p = err_from_is_err_and c.from_residual.result c.from_residual.ensures.1 in
    let r = c.in_err-index.field-0.0 in
    rw (p.1, p.2) (match-refused (known editions a.e) a.events.now a.r.now (match_of (Err r)) c.in_err-index.ensures (number-some r))

pub attributes_at-requires : goal.attributes_at-requires
attributes_at-requires c =
    let a = c.args in
    omega (arith, match-there (known editions a.e) a.events.now a.r.now (match_of (Ok c.in_ok-index.index)) c.in_ok-index.ensures refl)

pub returns : goal.returns
returns c =
    let a = c.args in
    c.judge.ensures
    ∙ match-own (known editions a.e) a.events.now a.r.now (match_of (Ok c.in_ok-index.index)) c.in_ok-index.ensures refl _ c.attributes_at.ensures
