-- Each event and the next.
use Rattle.std.proofs.Common.{rules, ◌∙◌, ltb}
use borrow.Author.Tests.{tests}
use Rattle.std.proofs.lemmas.Iterator.{YieldsList-from_slice, YieldsList-from_zip}
use Rattle.std.proofs.lemmas.Iterator.Adapters.{YieldsList-from_skip}
use Rattle.std.proofs.lemmas.Iterator.Search.{all_from_yields_List}
use Rattle.meaning.specs.declared.Event.{Event}
use Rattle.events.proofs.Laws.{all-rise}
use Rattle.events.proofs.rises.Goals as goal

pub returns : goal.returns
returns c =
    let es = c.args.events.now in
    all_from_yields_List (λ (pair : Event × Event). ltb pair.0.identifier pair.1.identifier) c.all.new.self _ c.all.result c.all.ensures.ran
    (YieldsList-from_zip {s = c.zip.result} (YieldsList-from_slice es (search rules)) (YieldsList-from_skip 1 (YieldsList-from_slice es (search rules)) (search rules)))
    (λ x b q k. search (rules, tests))
    ∙ all-rise es
