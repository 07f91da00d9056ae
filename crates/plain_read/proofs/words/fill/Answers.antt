-- `plain_read::words::fill` meets its contract: the loop has put the words of the rows so far. Assumes nothing.
use mathlib.Core.Path.{sym, ap, ◌∙◌}
use native.Mathlib.Omega.{arith}
use Rattle.meaning.specs.States.{Cursor}
use Rattle.meaning.specs.declared.Item.{Item}
use Rattle.meaning.specs.Items.{step}
use Rattle.meaning.specs.Reasons.{cursor_of, stepped}
use Rattle.meaning.specs.Values.{slot_item, tell}
use Rattle.table.specs.Rows.{item_of}
use Rattle.plain_read.proofs.Filling.{filling-start, filling-fine, filling-room, filling-next, filling-end, step_ok}
use Rattle.plain_read.proofs.words.fill.Goals as goal

pub loop-row-init : goal.loop-row-init
loop-row-init c = let a = c.args in filling-start (item_of a.a a.misc a.kind) a.s.now a.own.now (cursor_of a.first) a.out.now a.start c.requires

pub told-told-requires : goal.told-told-requires
told-told-requires c =
    let a = c.args in
    let l = c.loop-row in
    let f = item_of a.a a.misc a.kind in
    ap (λ (i : Item). (step a.s.now i (cursor_of l.spot)).why) c.item_of-item.ensures
    ∙ filling-fine f a.s.now a.own.now (cursor_of a.first) a.out.now a.start l.out (cursor_of l.spot) l.row-index l.at l.invariant (omega arith)

pub place-requires : goal.place-requires
place-requires c =
    let a = c.args in
    let l = c.loop-row in
    let f = item_of a.a a.misc a.kind in
    filling-room f a.s.now a.own.now (cursor_of a.first) a.out.now a.start l.out (cursor_of l.spot) l.row-index l.at l.invariant (omega arith) c.told-told.result
    (c.told-told.ensures ∙ ap (λ (i : Item). tell i.shape (slot_item a.s.now i (cursor_of l.spot))) c.item_of-item.ensures)

pub overflow_add-at : goal.overflow_add-at
overflow_add-at c =
    let a = c.args in
    let l = c.loop-row in
    let f = item_of a.a a.misc a.kind in
    let g =
    filling-room f a.s.now a.own.now (cursor_of a.first) a.out.now a.start l.out (cursor_of l.spot) l.row-index l.at l.invariant (omega arith) c.told-told.result
    (c.told-told.ensures ∙ ap (λ (i : Item). tell i.shape (slot_item a.s.now i (cursor_of l.spot))) c.item_of-item.ensures) in
    omega (arith, g, l.invariant.long, c.well_formed, c.count-at.ensures.0)

pub unwrap-spot-requires : goal.unwrap-spot-requires
unwrap-spot-requires c =
    let a = c.args in
    let l = c.loop-row in
    let f = item_of a.a a.misc a.kind in
    step_ok l.spot c.step.result
    (ap (λ (d : Cursor). d.why) c.step.ensures ∙ ap (λ (i : Item). (step a.s.now i (cursor_of l.spot)).why) c.item_of-item.ensures
    ∙ filling-fine f a.s.now a.own.now (cursor_of a.first) a.out.now a.start l.out (cursor_of l.spot) l.row-index l.at l.invariant (omega arith))

pub loop-row-preserved : goal.loop-row-preserved
loop-row-preserved c =
    let a = c.args in
    let l = c.loop-row in
    let f = item_of a.a a.misc a.kind in
    filling-next f a.s.now a.own.now (cursor_of a.first) a.out.now a.start l.out (cursor_of l.spot) l.row-index l.at l.invariant (omega arith) c.told-told.result _ _ _
    (c.told-told.ensures ∙ ap (λ (i : Item). tell i.shape (slot_item a.s.now i (cursor_of l.spot))) c.item_of-item.ensures) c.place.ensures
    (ap (stepped l.spot) (sym c.unwrap-spot.ensures) ∙ c.step.ensures ∙ ap (λ (i : Item). step a.s.now i (cursor_of l.spot)) c.item_of-item.ensures) c.count-at.ensures.0

pub returns : goal.returns
returns c =
    let a = c.args in
    let l = c.loop-row in
    let f = item_of a.a a.misc a.kind in
    filling-end f a.s.now a.own.now (cursor_of a.first) a.out.now a.start l.out (cursor_of l.spot) l.row-index l.at l.invariant (omega arith)
