-- `answers::walk` meets its contract: the loop leaves the walk over the rows that are still to come. Assumes nothing.
use mathlib.Core.Path.{refl, sym, ap, ◌∙◌}
use mathlib.Core.List.{List}
use Prim.Native.Nat.{ℕ, ◌-◌}
use native.Mathlib.Omega.{arith}
use lib.ListN.{take, drop}
use Rattle.meaning.specs.declared.Item.{Item}
use Rattle.meaning.specs.Items.{walk}
use Rattle.meaning.specs.Reasons.{cursor_of}
use Rattle.table.specs.Rows.{item_of}
use Rattle.answers.specs.Rows.{laid-out}
use Rattle.answers.proofs.Laws.{walk-row, walk-end, walk-stuck}
use Rattle.answers.proofs.walk.Goals as goal

pub loop-row-init : goal.loop-row-init
loop-row-init c = refl

pub loop-row-preserved : goal.loop-row-preserved
loop-row-preserved c =
    let a = c.args in
    c.loop-row.invariant ∙ walk-row a.s.now (item_of a.a a.misc a.kind) _ c.loop-row.row-index (cursor_of c.loop-row.spot) (cursor_of c.in-Ok.next) (omega arith) c.in-Ok.ensures

pub returns-in-Err : goal.returns-in-Err
returns-in-Err c =
    let a = c.args in
    let part = c.part_of-part in
    let f = item_of a.a a.misc a.kind in
    let own : List ℕ = take (part.result.to - part.result.from) (drop part.result.from c.all_rows-all.result) in
    walk-stuck a.s.now f own c.loop-row.row-index (cursor_of c.loop-row.spot) _ c.in-Err.reason (omega arith) c.in-Err.ensures refl
    ∙ sym c.loop-row.invariant
    ∙ ap (λ (is : List Item). walk a.s.now is (cursor_of a.first)) (laid-out a.kind a.misc a.a part.result part.ensures _ c.all_rows-all.ensures)

pub returns : goal.returns
returns c =
    let a = c.args in
    let part = c.part_of-part in
    let f = item_of a.a a.misc a.kind in
    let own : List ℕ = take (part.result.to - part.result.from) (drop part.result.from c.all_rows-all.result) in
    sym (walk-end a.s.now f own c.loop-row.row-index (cursor_of c.loop-row.spot) (omega arith))
    ∙ sym c.loop-row.invariant
    ∙ ap (λ (is : List Item). walk a.s.now is (cursor_of a.first)) (laid-out a.kind a.misc a.a part.result part.ensures _ c.all_rows-all.ensures)
