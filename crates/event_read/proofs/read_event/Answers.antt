-- The answer under the event, and the number inspected, which is that of the match.
use Rattle.std.proofs.Common.{refl, ap₂, ◌∙◌, arith}
use Rattle.meaning.specs.Editions.{editions, known}
use Rattle.meaning.specs.Events.{judged}
use Rattle.event_laws.specs.Match.{match_of, match-there, inspected-by}
use Rattle.event_read.proofs.read_event.Goals as goal

pub inspected-inspected-requires : goal.inspected-inspected-requires
inspected-inspected-requires c =
    let a = c.args in
    let there = match-there (known editions a.e) a.events.now a.r.now (match_of c.match_event-m.result) c.match_event-m.ensures in
    ((λ z. let h = there z in omega (arith, h, c.requires.1)), c.requires.1)

pub returns : goal.returns
returns c =
    let a = c.args in
    let es = a.events.now in
    record {
      value = ap₂ judged (c.answer_number.ensures ∙ c.read_found-answer.ensures.value)
          (c.inspected-inspected.ensures ∙ inspected-by (known editions a.e) es a.r.now _ c.match_event-m.ensures _ refl);
      words_after = c.read_found-answer.ensures.words_after;
    }
