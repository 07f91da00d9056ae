-- An event of any version is one of the first or of the second.
use Rattle.std.specs.Prelude.{Bool, ◌||◌, [], ◌∷◌}
use Rattle.std.proofs.Common.{sym, ap, ◌∙◌}
use Rattle.entries.specs.Entries.{entry}
use Rattle.settings.specs.Versions.{one, two}
use Rattle.settings.specs.Reading.{is_event, is_event_of}
use Rattle.settings.specs.Firsts.{or_left}
use Rattle.settings.proofs.Steps.{event-one}
use Rattle.settings_entries.proofs.is_any_event.Goals as goal

pub returns-then-is_event : goal.returns-then-is_event
unfolding is_event_of
returns-then-is_event c = c.if-is_event.true ∙ sym (or_left _ _ (sym c.is_event.ensures ∙ c.if-is_event.true))

pub returns-else-is_event : goal.returns-else-is_event
unfolding is_event_of
returns-else-is_event c =
    let e = entry c.args.e.kind c.args.e.body c.args.e.length in
    c.is_event-else-is_event.ensures
    ∙ sym (event-one two e)
    ∙ sym (ap (λ (b : Bool). b || is_event_of (two ∷ []) e) (sym c.is_event.ensures ∙ c.if-is_event.false))
