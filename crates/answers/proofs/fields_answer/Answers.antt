-- `answers::fields_answer` meets its contract: 30 where the trailer is not there, else the walk over what comes before it. Assumes nothing.
use mathlib.Core.Path.{ap, ◌∙◌}
use mathlib.Core.Bool.{true, false}
use lib.ListN.{length, take}
use Prim.Native.Nat.{◌-◌}
use borrow.Author.Tests.{eq-eqb, ne_eqb}
use Rattle.meaning.specs.States.{Cursor}
use Rattle.meaning.specs.Items.{walk}
use Rattle.meaning.specs.Schema.{schema}
use Rattle.answers.proofs.Laws.{answer-short, answer-walked, closed-refused, closed-by}
use Rattle.answers.proofs.fields_answer.Goals as goal

pub returns-then-r-t : goal.returns-then-r-t
returns-then-r-t c = let a = c.args in answer-short (schema a.kind a.misc a.a) a.r.now _ _ c.trailer_room-t.ensures.0 c.if-r-t.true

pub returns-in-Err : goal.returns-in-Err
returns-in-Err c =
    let a = c.args in
    let is = schema a.kind a.misc a.a in
    let t = c.trailer_room-t.result in
    closed-refused (length a.r.now - t) _ c.in-Err.stopped.reason (ap (λ (d : Cursor). d.why) c.in-Err.ensures)
    ∙ answer-walked is a.r.now t _ c.trailer_room-t.ensures.0 _ c.if-r-t.false (ap (walk (take (length a.r.now - t) a.r.now) is) c.origin.ensures)

pub returns-then-last-end : goal.returns-then-last-end
returns-then-last-end c =
    let a = c.args in
    let is = schema a.kind a.misc a.a in
    let t = c.trailer_room-t.result in
    closed-by (length a.r.now - t) _ c.in-Ok.last false c.in-Ok.ensures (ne_eqb _ _ c.if-last-end.true)
    ∙ answer-walked is a.r.now t _ c.trailer_room-t.ensures.0 _ c.if-r-t.false (ap (walk (take (length a.r.now - t) a.r.now) is) c.origin.ensures)

pub returns : goal.returns
returns c =
    let a = c.args in
    let is = schema a.kind a.misc a.a in
    let t = c.trailer_room-t.result in
    closed-by (length a.r.now - t) _ c.in-Ok.last true c.in-Ok.ensures (eq-eqb _ _ c.if-last-end.false)
    ∙ answer-walked is a.r.now t _ c.trailer_room-t.ensures.0 _ c.if-r-t.false (ap (walk (take (length a.r.now - t) a.r.now) is) c.origin.ensures)
