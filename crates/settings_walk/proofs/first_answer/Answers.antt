-- An entry that shows a version is 50 or passes by its number; another that fits is 52, and what fits nothing is 51.
use Rattle.std.specs.Prelude.{◌≡◌, ◌≤◌, refl, true, false, not}
use Rattle.std.proofs.Common.{sym, ap, ◌∙◌, arith, ne_eqb}
use Rattle.entries.specs.Entries.{Entry, no_entry, entry_at}
use Rattle.settings.specs.Versions.{Version, row_of, versions, no_version, version_of, is_known}
use Rattle.settings.specs.Reading.{shows_version, is_last, is_event_of, fits, shown}
use Rattle.settings.proofs.Only.{is-by, entry-room}
use Rattle.settings.proofs.Steps.{head-50, head-0, head-52, head-51, fits_by}
use Rattle.settings_walk.proofs.first_answer.Goals as goal

-- a version with a width is one
known : (v : Version) → 1 ≤ v.width → is_known v ≡ true
known v h = ap not (ne_eqb v.width 0 (λ e. omega (arith, e, h)))

-- no entry fits nothing
none-fits : fits versions no_entry ≡ false
unfolding fits is_event_of
none-fits = refl

pub returns-in_default-clause-answer : goal.returns-in_default-clause-answer
returns-in_default-clause-answer c =
    let xs = c.args.bytes.now in
    let q : entry_at xs 0 ≡ no_entry = sym c.in_default.ensures in
    sym (head-51 versions xs 0 (ap shows_version q) (ap (fits versions) q ∙ none-fits))

pub u16_at-requires : goal.u16_at-requires
u16_at-requires c =
    let i = is-by (entry_at c.args.bytes.now 0) 1 2 (ap shows_version (sym c.in-Some.ensures) ∙ sym c.shows_version.ensures ∙ c.if-shows_version.true) in
    entry-room c.args.bytes.now 0 2 i.whole i.length-is

pub returns-in_default-version_of-clause-answer : goal.returns-in_default-version_of-clause-answer
returns-in_default-version_of-clause-answer c =
    let xs = c.args.bytes.now in
    let k : shown versions xs ≡ no_version = sym (c.in_default-version_of.ensures ∙ ap (version_of versions) c.u16_at.ensures.0) in
    sym (head-50 versions xs 0 (ap shows_version (sym c.in-Some.ensures) ∙ sym c.shows_version.ensures ∙ c.if-shows_version.true) (ap is_known k))

pub returns-then-shows_version-clause-answer : goal.returns-then-shows_version-clause-answer
returns-then-shows_version-clause-answer c =
    let xs = c.args.bytes.now in
    let s = c.in-Some-version_of in
    let k : shown versions xs ≡ row_of s.v = sym (s.ensures ∙ ap (version_of versions) c.u16_at.ensures.0) in
    sym (head-0 versions xs 0 (ap shows_version (sym c.in-Some.ensures) ∙ sym c.shows_version.ensures ∙ c.if-shows_version.true) (ap is_known k ∙ known (row_of s.v) s.v.low))

pub returns-then-is_any_event-clause-answer : goal.returns-then-is_any_event-clause-answer
returns-then-is_any_event-clause-answer c =
    let xs = c.args.bytes.now in
    let e : Entry = entry_at xs 0 in
    let hidden : shows_version e ≡ false = ap shows_version (sym c.in-Some.ensures) ∙ sym c.shows_version.ensures ∙ c.if-shows_version.false in
    sym (head-52 versions xs 0 hidden (fits_by versions e false true (is_last e) hidden (ap (is_event_of versions) (sym c.in-Some.ensures) ∙ sym c.is_any_event.ensures ∙ c.if-is_any_event.true) refl))

pub returns-then-is_last-clause-answer : goal.returns-then-is_last-clause-answer
returns-then-is_last-clause-answer c =
    let xs = c.args.bytes.now in
    let e : Entry = entry_at xs 0 in
    let hidden : shows_version e ≡ false = ap shows_version (sym c.in-Some.ensures) ∙ sym c.shows_version.ensures ∙ c.if-shows_version.false in
    sym (head-52 versions xs 0 hidden (fits_by versions e false false true hidden (ap (is_event_of versions) (sym c.in-Some.ensures) ∙ sym c.is_any_event.ensures ∙ c.if-is_any_event.false) (ap is_last (sym c.in-Some.ensures) ∙ sym c.is_last.ensures ∙ c.if-is_last.true)))

pub returns-clause-answer : goal.returns-clause-answer
returns-clause-answer c =
    let xs = c.args.bytes.now in
    let e : Entry = entry_at xs 0 in
    let hidden : shows_version e ≡ false = ap shows_version (sym c.in-Some.ensures) ∙ sym c.shows_version.ensures ∙ c.if-shows_version.false in
    sym (head-51 versions xs 0 hidden (fits_by versions e false false false hidden (ap (is_event_of versions) (sym c.in-Some.ensures) ∙ sym c.is_any_event.ensures ∙ c.if-is_any_event.false) (ap is_last (sym c.in-Some.ensures) ∙ sym c.is_last.ensures ∙ c.if-is_last.false)))
