-- `item_pairs::pass_item` meets its contract: an item that is not selected leaves all as it is; else both steps, both extents, and their comparison.
use mathlib.Core.Path.{◌≡◌, refl, sym, ap, ◌∙◌}
use Rattle.std.proofs.lemmas.Bool.{not-true, not-false}
use Rattle.meaning.specs.States.{Cursor}
use Rattle.meaning.specs.Items.{step}
use Rattle.meaning.specs.Reasons.{cursor_of, stepped}
use Rattle.extents.specs.Extent.{extent_of}
use Rattle.item_pairs.proofs.Items.{shape-step, passed-off, passed_on, passing}
use Rattle.item_pairs.proofs.pass_item.Goals as goal

pub returns-then-not-i : goal.returns-then-not-i
returns-then-not-i c = let a = c.args in passed-off a.s.now a.t.now a.i a.w a.x (cursor_of a.c) (cursor_of a.d) _ (not-true _ c.if-not-i.true) refl refl refl

pub of_shape-e-requires-clause-s_value : goal.of_shape-e-requires-clause-s_value
of_shape-e-requires-clause-s_value c =
    let a = c.args in
    sym (ap (λ (z : Cursor). z.why) (shape-step a.s.now a.i (cursor_of a.c) (not-false _ c.if-not-i.false) refl)) ∙ c.requires.c_value.0

pub of_shape-e-requires-clause-end_value : goal.of_shape-e-requires-clause-end_value
of_shape-e-requires-clause-end_value c =
    let a = c.args in
    ap (λ (z : Cursor). z.at) (ap (stepped a.c) (sym c.unwrap-c1.ensures) ∙ c.step.ensures ∙ shape-step a.s.now a.i (cursor_of a.c) (not-false _ c.if-not-i.false) refl)

pub of_shape-g-requires-clause-s_value : goal.of_shape-g-requires-clause-s_value
of_shape-g-requires-clause-s_value c =
    let a = c.args in
    sym (ap (λ (z : Cursor). z.why) (shape-step a.t.now a.i (cursor_of a.d) (not-false _ c.if-not-i.false) refl)) ∙ c.requires.c_value.1

pub of_shape-g-requires-clause-end_value : goal.of_shape-g-requires-clause-end_value
of_shape-g-requires-clause-end_value c =
    let a = c.args in
    ap (λ (z : Cursor). z.at) (ap (stepped a.d) (sym c.unwrap-d1.ensures) ∙ c.step-2.ensures ∙ shape-step a.t.now a.i (cursor_of a.d) (not-false _ c.if-not-i.false) refl)

pub returns-then-not-same_fields : goal.returns-then-not-same_fields
returns-then-not-same_fields c =
    let a = c.args in
    let p : cursor_of c.unwrap-c1.result ≡ step a.s.now a.i (cursor_of a.c) = ap (stepped a.c) (sym c.unwrap-c1.ensures) ∙ c.step.ensures in
    let q : cursor_of c.unwrap-d1.result ≡ step a.t.now a.i (cursor_of a.d) = ap (stepped a.d) (sym c.unwrap-d1.ensures) ∙ c.step-2.ensures in
    passed_on a.s.now a.t.now a.i a.w a.x (cursor_of a.c) (cursor_of a.d) _ _ _ (extent_of c.of_shape-e.result) (extent_of c.of_shape-g.result) _ (not-false _ c.if-not-i.false)
    p q c.of_shape-e.ensures c.of_shape-g.ensures c.same_fields.ensures
    (passing _ _ c.of_shape-e.result c.of_shape-g.result _ _ _ c.is_some.ensures (sym c.if-not-same_fields.true))

pub returns : goal.returns
returns c =
    let a = c.args in
    let p : cursor_of c.unwrap-c1.result ≡ step a.s.now a.i (cursor_of a.c) = ap (stepped a.c) (sym c.unwrap-c1.ensures) ∙ c.step.ensures in
    let q : cursor_of c.unwrap-d1.result ≡ step a.t.now a.i (cursor_of a.d) = ap (stepped a.d) (sym c.unwrap-d1.ensures) ∙ c.step-2.ensures in
    passed_on a.s.now a.t.now a.i a.w a.x (cursor_of a.c) (cursor_of a.d) _ _ _ (extent_of c.of_shape-e.result) (extent_of c.of_shape-g.result) _ (not-false _ c.if-not-i.false)
    p q c.of_shape-e.ensures c.of_shape-g.ensures c.same_fields.ensures
    (passing _ _ c.of_shape-e.result c.of_shape-g.result _ _ _ c.is_some.ensures (sym c.if-not-same_fields.false))
