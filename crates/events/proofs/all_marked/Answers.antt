-- Each event is marked, or one is not.
use Rattle.std.proofs.Common.{rules, ◌∙◌}
use borrow.Author.Tests.{tests}
use Rattle.std.proofs.lemmas.Iterator.{YieldsList-from_slice}
use Rattle.std.proofs.lemmas.Iterator.Search.{all_from_yields_List}
use Rattle.meaning.specs.declared.Event.{Event}
use Rattle.meaning.specs.Events.{marked}
use Rattle.events.proofs.Laws.{all-marked}
use Rattle.events.proofs.all_marked.Goals as goal

pub returns : goal.returns
returns c =
    let es = c.args.events.now in
    all_from_yields_List (λ (v : Event). marked v) _ _ c.all.result c.all.ensures.ran (YieldsList-from_slice es c.iter.ensures.rest)
    (λ x b q k. search (rules, tests))
    ∙ all-marked es
