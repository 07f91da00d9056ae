-- `writer_parts::put_all` meets its contract: the bytes that are still to come, put where the state says, make the whole (`Putting`). Assumes nothing.
use Rattle.std.proofs.Common.{◌≡◌, ℕ, ◌+◌, subst, arith}
use Rattle.laws.specs.Numbers.{small_of}
use Rattle.meaning.specs.Reasons.{cursor_of}
use Rattle.writer_forms.specs.Forms.{form_of}
use Rattle.writer_words.specs.Tellings.{slot_of}
use Rattle.writer_parts.proofs.Putting.{Putting, put-start, ready, put_on, put-end}
use Rattle.writer_parts.specs.Rows.{before-to, here, at-end}
use Rattle.writer_parts.proofs.put_all.Goals as goal

pub loop-row-init : goal.loop-row-init
loop-row-init c =
    let a = c.args in
    let r = c.requires in
    put-start a.source.now a.ws.now a.p a.first (cursor_of a.start) a.buffer.now r.0 r.2 r.3 r.4 r.5

pub given_by-s-requires : goal.given_by-s-requires
given_by-s-requires c =
    let w = c.loop-row.invariant.within in
    let k = before-to c.args.p c.all_rows-all.result c.all_rows-all.ensures c.requires.1 c.loop-row.row-index c.loop-row-test.true in
    omega (arith, w.words, k, c.requires.1)

pub put_item-c-requires : goal.put_item-c-requires
put_item-c-requires c =
    let a = c.args in
    let l = c.loop-row in
    let k = before-to a.p c.all_rows-all.result c.all_rows-all.ensures c.requires.1 l.row-index c.loop-row-test.true in
    let i = here a.p c.all_rows-all.result c.all_rows-all.ensures c.requires.1 l.row-index c.loop-row-test.true _ c.item-i.ensures in
    let r =
    ready a.source.now a.ws.now a.p a.first (cursor_of a.start) a.buffer.now _ l.t (cursor_of l.c) l.buffer l.invariant
    c.item-i.result (slot_of c.given_by-s.result) (form_of c.of_item-f.result) i c.given_by-s.ensures c.of_item-f.ensures k c.requires.1
    (small_of a.source.now c.type_inv.source) (omega (arith, c.given_by-s.type_inv)) in
    (r.width, r.inside, r.room)

pub loop-row-preserved : goal.loop-row-preserved
loop-row-preserved c =
    let a = c.args in
    let l = c.loop-row in
    let k = before-to a.p c.all_rows-all.result c.all_rows-all.ensures c.requires.1 l.row-index c.loop-row-test.true in
    let i = here a.p c.all_rows-all.result c.all_rows-all.ensures c.requires.1 l.row-index c.loop-row-test.true _ c.item-i.ensures in
    let n : a.p.from + l.row-index + 1 ≡ a.p.from + (l.row-index + 1) = omega arith in
    subst (λ (x : ℕ). Putting a.source.now a.ws.now a.p a.first (cursor_of a.start) a.buffer.now x c.after-t.result (cursor_of c.put_item-c.result) c.put_item-c.new.buffer) n
    (put_on a.source.now a.ws.now a.p a.first (cursor_of a.start) a.buffer.now _ l.t (cursor_of l.c) l.buffer l.invariant
    c.item-i.result (slot_of c.given_by-s.result) (form_of c.of_item-f.result) i c.given_by-s.ensures c.of_item-f.ensures k c.requires.1
    (small_of a.source.now c.type_inv.source) (omega (arith, c.given_by-s.type_inv)) _ (cursor_of c.put_item-c.result) c.after-t.result
    c.put_item-c.ensures.buffer_after c.put_item-c.ensures.next c.after-t.ensures)

pub returns : goal.returns
returns c =
    let a = c.args in
    let l = c.loop-row in
    put-end a.source.now a.ws.now a.p a.first (cursor_of a.start) a.buffer.now _ l.t (cursor_of l.c) l.buffer l.invariant
    (at-end a.p c.all_rows-all.result c.all_rows-all.ensures c.requires.1 l.row-index c.loop-row-test.false)
