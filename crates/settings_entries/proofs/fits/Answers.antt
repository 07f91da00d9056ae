-- The three tests are those of the definition, with one version alone.
use Rattle.settings.specs.Versions.{row_of}
use Rattle.std.specs.Prelude.{refl, false, true, [], ◌∷◌}
use Rattle.std.proofs.Common.{sym, ◌∙◌}
use Rattle.entries.specs.Entries.{Entry, entry}
use Rattle.settings.specs.Firsts.{or_left}
use Rattle.settings.specs.Reading.{fits, is_last}
use Rattle.settings.proofs.Steps.{fits_by, event-one}
use Rattle.settings_entries.proofs.fits.Goals as goal

pub returns-then-shows_version : goal.returns-then-shows_version
unfolding fits
returns-then-shows_version c = c.if-shows_version.true ∙ sym (or_left _ _ (sym c.shows_version.ensures ∙ c.if-shows_version.true))

pub returns-then-is_event : goal.returns-then-is_event
returns-then-is_event c =
    let a = c.args in
    let e : Entry = entry a.e.kind a.e.body a.e.length in
    c.if-is_event.true
    ∙ sym (fits_by (row_of a.v ∷ []) e false true (is_last e) (sym c.shows_version.ensures ∙ c.if-shows_version.false)
    (event-one (row_of a.v) e ∙ sym c.is_event.ensures ∙ c.if-is_event.true) refl)

pub returns-else-is_event : goal.returns-else-is_event
returns-else-is_event c =
    let a = c.args in
    let e : Entry = entry a.e.kind a.e.body a.e.length in
    sym (fits_by (row_of a.v ∷ []) e false false c.is_last.result (sym c.shows_version.ensures ∙ c.if-shows_version.false)
    (event-one (row_of a.v) e ∙ sym c.is_event.ensures ∙ c.if-is_event.false) (sym c.is_last.ensures))
