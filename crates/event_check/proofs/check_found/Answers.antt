-- What the match refuses is the answer; where it finds an event, it is what record check says under that event's attributes.
use Rattle.std.specs.Prelude.{◌≡◌, refl, ℕ, Result, Ok, Err}
use Rattle.std.proofs.Common.{sym, ◌∙◌, subst, arith}
use Rattle.std.proofs.lemmas.Result.{err_from_is_err_and}
use Rattle.laws.specs.Reasons.{number-some}
use Rattle.meaning.specs.declared.Reason.{Reason}
use Rattle.meaning.specs.Editions.{editions, known}
use Rattle.record.specs.Same.{accepted, or-dirty}
use Rattle.event_laws.specs.Match.{match_of, matched, match-there}
use Rattle.event_laws.specs.Asked.{check-none, check-own}
use Rattle.event_check.proofs.check_found.Goals as goal

pub returns-in_err-index : goal.returns-in_err-index
returns-in_err-index c =
    let a = c.args in
    let es = a.events.now in
    let p = err_from_is_err_and c.from_residual.result c.from_residual.ensures.1 in
    let r = c.in_err-index.field-0.0 in
    let m = subst (λ (x : Result ℕ Reason). match_of x ≡ matched (known editions a.e) es a.r.now) c.in_err-index.was c.requires in
    rw (p.1, p.2) (check-none editions a.e es a.r.now (match_of (Err r)) m (number-some r))

pub attributes_at-own-requires : goal.attributes_at-own-requires
attributes_at-own-requires c =
    let a = c.args in
    let es = a.events.now in
    let m = subst (λ (x : Result ℕ Reason). match_of x ≡ matched (known editions a.e) es a.r.now) c.in_ok-index.was c.requires in
    omega (arith, match-there (known editions a.e) es a.r.now (match_of (Ok c.in_ok-index.index)) m refl)

pub or_dirty-requires : goal.or_dirty-requires
or_dirty-requires c =
    let a = c.args in
    λ z. accepted editions a.e _ a.r.now (sym c.check.ensures ∙ z)

pub returns : goal.returns
returns c =
    let a = c.args in
    let es = a.events.now in
    let m = subst (λ (x : Result ℕ Reason). match_of x ≡ matched (known editions a.e) es a.r.now) c.in_ok-index.was c.requires in
    c.or_dirty.ensures ∙ or-dirty editions a.e _ a.r.now _ c.check.ensures
    ∙ check-own editions a.e es a.r.now (match_of (Ok c.in_ok-index.index)) m refl _ c.attributes_at-own.ensures
