-- The identifier of a word is the word.
use Rattle.std.proofs.Common.{ap, ◌∙◌}
use Rattle.std.proofs.lemmas.List.{map-id}
use Rattle.meaning.specs.Events.{distinct}
use Rattle.identifiers.proofs.distinct.Goals as goal

pub returns : goal.returns
returns c = c.apart.ensures ∙ ap distinct (map-id c.args.ids.now)
