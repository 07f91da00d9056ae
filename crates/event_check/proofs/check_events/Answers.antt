-- What is refused before the record is looked at; else the record's own.
use Rattle.std.specs.Prelude.{ℕ, ◌<◌, length}
use Rattle.std.proofs.Common.{sym, ap, ◌∙◌, arith}
use Rattle.laws.specs.Reasons.{number-some}
use Rattle.meaning.specs.Editions.{editions}
use Rattle.meaning.specs.Events.{judged}
use Rattle.laws.specs.Inspected.{looked}
use Rattle.event_laws.specs.Sound.{sound-limit}
use Rattle.event_laws.specs.Asked.{check-refused, check-asked}
use Rattle.event_check.proofs.check_events.Goals as goal

pub check_event-requires : goal.check_event-requires
check_event-requires c =
    let a = c.args in
    let es = a.events.now in
    let w = looked a.limit editions a.e es a.r.now (sym c.in-Ok.ensures) in
    let n : length a.events.now < 4294967296 = omega (arith, c.ranges.limit.fits, sound-limit a.limit es w.table) in
    (w.low, n)

pub returns-in-Ok : goal.returns-in-Ok
returns-in-Ok c = let a = c.args in c.check_event.ensures ∙ check-asked a.limit editions a.e a.events.now a.r.now (sym c.in-Ok.ensures)

pub returns-in-Err : goal.returns-in-Err
returns-in-Err c =
    let a = c.args in
    let u = c.number.ensures ∙ c.in-Err.ensures in
    ap (λ (n : ℕ). judged n 0) u ∙ check-refused a.limit editions a.e a.events.now a.r.now (λ z. number-some c.in-Err.why (c.in-Err.ensures ∙ z))
