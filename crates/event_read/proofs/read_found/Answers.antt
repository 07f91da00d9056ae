-- What the match refuses is the answer; where it finds an event, the record is read under that event's attributes.
use Rattle.std.specs.Prelude.{◌≡◌, refl, ℕ, Result, Ok, Err}
use Rattle.std.proofs.Common.{sym, ◌∙◌, subst, arith}
use Rattle.std.proofs.lemmas.Result.{err_from_is_err_and}
use Rattle.laws.specs.Reasons.{number-some}
use Rattle.meaning.specs.declared.Reason.{Reason}
use Rattle.meaning.specs.Editions.{editions, known}
use Rattle.event_laws.specs.Match.{match_of, matched, match-there}
use Rattle.event_laws.specs.Asked.{read_none, read-own}
use Rattle.event_read.proofs.read_found.Goals as goal

pub returns-in_err-index : goal.returns-in_err-index
returns-in_err-index c =
    let a = c.args in
    let es = a.events.now in
    let p = err_from_is_err_and c.from_residual.result c.from_residual.ensures.1 in
    let r = c.in_err-index.field-0.0 in
    let m = subst (λ (x : Result ℕ Reason). match_of x ≡ matched (known editions a.e) es a.r.now) c.in_err-index.was c.requires in
    let w = read_none editions a.e es a.r.now (match_of (Err r)) m (number-some r) a.words.now in
    record { value = rw (p.1, p.2) w.0; words_after = w.1 }

pub attributes_at-a-requires : goal.attributes_at-a-requires
attributes_at-a-requires c =
    let a = c.args in
    let es = a.events.now in
    let m = subst (λ (x : Result ℕ Reason). match_of x ≡ matched (known editions a.e) es a.r.now) c.in_ok-index.was c.requires in
    omega (arith, match-there (known editions a.e) es a.r.now (match_of (Ok c.in_ok-index.index)) m refl)

pub returns : goal.returns
returns c =
    let a = c.args in
    let es = a.events.now in
    let m = subst (λ (x : Result ℕ Reason). match_of x ≡ matched (known editions a.e) es a.r.now) c.in_ok-index.was c.requires in
    let w = read-own editions a.e es a.r.now (match_of (Ok c.in_ok-index.index)) m refl _ c.attributes_at-a.ensures a.words.now in
    record { value = c.read_into.ensures.value ∙ w.0; words_after = c.read_into.ensures.words_after ∙ w.1 }
