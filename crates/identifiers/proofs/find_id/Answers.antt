-- The identifier of a word is the word.
use Rattle.std.proofs.Common.{ap, ◌∙◌}
use Rattle.std.proofs.lemmas.List.{map-id}
use Rattle.meaning.specs.Events.{index_of}
use Rattle.identifiers.proofs.find_id.Goals as goal

pub returns-clause-value : goal.returns-clause-value
returns-clause-value c = c.find.ensures.value ∙ ap (index_of c.args.id) (map-id c.args.ids.now)
