-- `writer_record::words_end` meets its contract: words so far and words still to come are the part's, turn by turn. Assumes nothing.
use Rattle.std.proofs.Common.{◌≡◌, ℕ, ◌+◌, subst, arith}
use Rattle.writer_parts.specs.Rows.{before-to, here, at-end}
use Rattle.writer_record.specs.Spare.{Summing, sum-start, sum-on, sum-end}
use Rattle.writer_record.proofs.words_end.Goals as goal

pub loop-row-init : goal.loop-row-init
loop-row-init c = sum-start c.args.p c.args.first c.requires.0 c.requires.2

pub overflow_add-end : goal.overflow_add-end
overflow_add-end c =
    let k = before-to c.args.p c.all_rows-all.result c.all_rows-all.ensures c.requires.1 c.loop-row.row-index c.loop-row-test.true in
    omega (arith, c.loop-row.invariant.few, c.words_of-end.ensures.1, k, c.requires.1)

pub loop-row-preserved : goal.loop-row-preserved
loop-row-preserved c =
    let a = c.args in
    let l = c.loop-row in
    let k = before-to a.p c.all_rows-all.result c.all_rows-all.ensures c.requires.1 l.row-index c.loop-row-test.true in
    let i = here a.p c.all_rows-all.result c.all_rows-all.ensures c.requires.1 l.row-index c.loop-row-test.true _ c.item.ensures in
    let n : a.p.from + l.row-index + 1 ≡ a.p.from + (l.row-index + 1) = omega arith in
    subst (λ (x : ℕ). Summing a.p a.first x (l.end + c.words_of-end.result)) n
    (sum-on a.p a.first _ l.end l.invariant c.item.result c.words_of-end.result i c.words_of-end.ensures.0 c.words_of-end.ensures.1 k c.requires.1)

pub returns : goal.returns
returns c =
    let a = c.args in
    let l = c.loop-row in
    sum-end a.p a.first _ l.end l.invariant (at-end a.p c.all_rows-all.result c.all_rows-all.ensures c.requires.1 l.row-index c.loop-row-test.false)
