-- `writer_parts::any_beyond` meets its contract: what is still to come is the whole, turn by turn (`Turns`), until an item passes the end or none is left. Assumes nothing.
use Rattle.std.proofs.Common.{◌≡◌, ℕ, ◌+◌, subst, arith}
use Rattle.writer_words.specs.Tellings.{slot_of}
use Rattle.writer_parts.specs.Turns.{Looking, look-start, look-found, look-on, look-end}
use Rattle.writer_parts.specs.Rows.{before-to, here, at-end}
use Rattle.writer_parts.proofs.any_beyond.Goals as goal

pub loop-row-init : goal.loop-row-init
loop-row-init c =
    let a = c.args in
    look-start a.source.now a.ws.now a.p a.first c.requires.0 c.requires.2

pub given_by-s-requires : goal.given_by-s-requires
given_by-s-requires c =
    let w = c.loop-row.invariant.within in
    let k = before-to c.args.p c.all_rows-all.result c.all_rows-all.ensures c.requires.1 c.loop-row.row-index c.loop-row-test.true in
    omega (arith, w.words, k, c.requires.1)

pub returns-then-beyond : goal.returns-then-beyond
returns-then-beyond c =
    let a = c.args in
    let l = c.loop-row in
    let k = before-to a.p c.all_rows-all.result c.all_rows-all.ensures c.requires.1 l.row-index c.loop-row-test.true in
    let i = here a.p c.all_rows-all.result c.all_rows-all.ensures c.requires.1 l.row-index c.loop-row-test.true _ c.item-i.ensures in
    look-found a.source.now a.ws.now a.p a.first _ l.t l.invariant c.item-i.result (slot_of c.given_by-s.result) c.beyond.result
    i c.given_by-s.ensures c.beyond.ensures k c.requires.1 c.if-beyond.true

pub loop-row-preserved : goal.loop-row-preserved
loop-row-preserved c =
    let a = c.args in
    let l = c.loop-row in
    let k = before-to a.p c.all_rows-all.result c.all_rows-all.ensures c.requires.1 l.row-index c.loop-row-test.true in
    let i = here a.p c.all_rows-all.result c.all_rows-all.ensures c.requires.1 l.row-index c.loop-row-test.true _ c.item-i.ensures in
    let n : a.p.from + l.row-index + 1 ≡ a.p.from + (l.row-index + 1) = omega arith in
    subst (λ (x : ℕ). Looking a.source.now a.ws.now a.p a.first x c.after-t.result) n
    (look-on a.source.now a.ws.now a.p a.first _ l.t l.invariant c.item-i.result (slot_of c.given_by-s.result) c.beyond.result
    i c.given_by-s.ensures c.beyond.ensures k c.requires.1 c.if-beyond.false c.after-t.result c.after-t.ensures)

pub returns : goal.returns
returns c =
    let a = c.args in
    let l = c.loop-row in
    look-end a.source.now a.ws.now a.p a.first _ l.t l.invariant
    (at-end a.p c.all_rows-all.result c.all_rows-all.ensures c.requires.1 l.row-index c.loop-row-test.false)
