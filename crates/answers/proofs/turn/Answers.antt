-- `answers::turn` meets its contract: a row that is off changes nothing, else the step of its item. Assumes nothing.
use mathlib.Core.Path.{sym, ap₂, ◌∙◌}
use mathlib.Core.Bool.{Bool}
use Rattle.meaning.specs.declared.Shape.{Shape}
use Rattle.meaning.specs.Items.{step}
use Rattle.meaning.specs.Reasons.{cursor_of}
use Rattle.meaning.specs.Schema.{item}
use Rattle.table.specs.Rows.{item_of}
use Rattle.laws.specs.Walks.{step-off}
use Rattle.answers.proofs.turn.Goals as goal

pub returns-then-not-is_on : goal.returns-then-not-is_on
returns-then-not-is_on c =
    let a = c.args in
    sym (step-off a.s.now (item_of a.a a.misc a.kind a.row) (cursor_of a.spot) (sym c.is_on.ensures ∙ c.if-not-is_on.true))

pub returns : goal.returns
returns c =
    let a = c.args in
    c.step.ensures ∙ ap₂ (λ (on : Bool) (sh : Shape). step a.s.now (item on sh) (cursor_of a.spot)) (sym c.if-not-is_on.false ∙ c.is_on.ensures) c.shape_of-shape.ensures
