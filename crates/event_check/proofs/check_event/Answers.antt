-- The answer under the event, and the number inspected, which is that of the match.
use Rattle.std.proofs.Common.{refl, ap₂, ◌∙◌, arith}
use Rattle.meaning.specs.Editions.{editions, known}
use Rattle.meaning.specs.Events.{judged}
use Rattle.event_laws.specs.Match.{match_of, match-there, inspected-by}
use Rattle.event_check.proofs.check_event.Goals as goal

pub inspected-looked-requires : goal.inspected-looked-requires
inspected-looked-requires c =
    let a = c.args in
    let there = match-there (known editions a.e) a.events.now a.r.now (match_of c.match_event-m.result) c.match_event-m.ensures in
    ((λ z. let h = there z in omega (arith, h, c.requires.1)), c.requires.1)

pub returns : goal.returns
returns c =
    let a = c.args in
    let es = a.events.now in
    ap₂ judged (c.answer_number.ensures ∙ c.check_found-answer.ensures)
    (c.inspected-looked.ensures ∙ inspected-by (known editions a.e) es a.r.now _ c.match_event-m.ensures _ refl)
