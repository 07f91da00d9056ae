-- The events filled so far are the first of the store, and the others are as they were; each turn adds one.
use Rattle.std.specs.Prelude.{◌≡◌, refl, List, ◌++◌, ℕ, drop, set}
use Rattle.std.proofs.Common.{ap, ◌∙◌, arith}
use Rattle.std.proofs.lemmas.List.{map-set}
use Rattle.settings.specs.Lent.{words_of, lent_rows, lent-length}
use Rattle.settings.specs.Versions.{row_of}
use Rattle.settings.specs.Reading.{row_from, rows_of}
use Rattle.settings.proofs.Steps.{rows_next}
use Rattle.settings_rows.proofs.Events.fill_rows.Goals as goal

pub loop-i-init : goal.loop-i-init
unfolding rows_of
loop-i-init c = refl

pub loop-i-preserved : goal.loop-i-preserved
loop-i-preserved c =
    let a = c.args in
    let l = c.loop-i in
    let v = row_of a.self.version in
    let xs = a.self.bytes.now in
    let rows = lent_rows a.events.now in
    map-set words_of l.events l.i c.event_at.result
    ∙ ap (λ (d : List (List ℕ)). set d l.i (words_of c.event_at.result)) l.invariant
    ∙ ap (λ (q : List ℕ). set (rows_of v xs l.i ++ drop l.i rows) l.i q) (c.event_at.ensures ∙ ap (row_from xs) c.words_at.ensures.value)
    ∙ rows_next v xs rows l.i (omega (arith, lent-length a.events.now, c.loop-i-test.true, c.requires))

pub returns : goal.returns
returns c =
    let a = c.args in
    let l = c.loop-i in
    let e : l.i ≡ a.self.count = omega (arith, c.loop-i-test.false, l.auto.i-end) in
    l.invariant ∙ (λ j. rows_of (row_of a.self.version) a.self.bytes.now (e j) ++ drop (e j) (lent_rows a.events.now))
