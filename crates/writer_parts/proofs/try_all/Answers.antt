-- `writer_parts::try_all` meets its contract: what is still to come is the whole, turn by turn (`Turns`), until an item leaves no state or none is left. Assumes nothing.
use Rattle.std.proofs.Common.{◌≡◌, refl, ℕ, ◌+◌, subst, arith}
use Rattle.std.proofs.lemmas.Result.{err_from_is_err_and}
use Rattle.meaning.specs.Reasons.{cursor_of}
use Rattle.writer_words.specs.Tellings.{slot_of}
use Rattle.writer_parts.specs.Turns.{Trying, try-start, try-stop, try-on, try-end}
use Rattle.laws.specs.Reasons.{number-some}
use Rattle.writer_parts.specs.Rows.{before-to, here, at-end}
use Rattle.writer_parts.proofs.try_all.Goals as goal

pub loop-row-init : goal.loop-row-init
loop-row-init c =
    let a = c.args in
    let r = c.requires in
    try-start a.source.now a.ws.now a.p a.first (cursor_of a.start) r.0 r.2 r.3 refl

pub given_by-s-requires : goal.given_by-s-requires
given_by-s-requires c =
    let w = c.loop-row.invariant.within in
    let k = before-to c.args.p c.all_rows-all.result c.all_rows-all.ensures c.requires.1 c.loop-row.row-index c.loop-row-test.true in
    omega (arith, w.words, k, c.requires.1)

pub try_item-requires : goal.try_item-requires
try_item-requires c = c.loop-row.invariant.place

pub returns-in_err-c : goal.returns-in_err-c
returns-in_err-c c =
    let a = c.args in
    let l = c.loop-row in
    let k = before-to a.p c.all_rows-all.result c.all_rows-all.ensures c.requires.1 l.row-index c.loop-row-test.true in
    let i = here a.p c.all_rows-all.result c.all_rows-all.ensures c.requires.1 l.row-index c.loop-row-test.true _ c.item-i.ensures in
    let p = err_from_is_err_and c.from_residual.result c.from_residual.ensures.1 in
    rw (p.1, p.2)
    (try-stop a.source.now a.ws.now a.p a.first (cursor_of a.start) _ l.t (cursor_of l.c) l.invariant c.item-i.result (slot_of c.given_by-s.result) _
    i c.given_by-s.ensures c.in_err-c.ensures k c.requires.1 (number-some c.in_err-c.field-0.0))

pub loop-row-preserved : goal.loop-row-preserved
loop-row-preserved c =
    let a = c.args in
    let l = c.loop-row in
    let k = before-to a.p c.all_rows-all.result c.all_rows-all.ensures c.requires.1 l.row-index c.loop-row-test.true in
    let i = here a.p c.all_rows-all.result c.all_rows-all.ensures c.requires.1 l.row-index c.loop-row-test.true _ c.item-i.ensures in
    let n : a.p.from + l.row-index + 1 ≡ a.p.from + (l.row-index + 1) = omega arith in
    subst (λ (x : ℕ). Trying a.source.now a.ws.now a.p a.first (cursor_of a.start) x c.after-t.result (cursor_of c.in_ok-c.c)) n
    (try-on a.source.now a.ws.now a.p a.first (cursor_of a.start) _ l.t (cursor_of l.c) l.invariant c.item-i.result (slot_of c.given_by-s.result) _
    i c.given_by-s.ensures c.in_ok-c.ensures k c.requires.1 refl c.after-t.result c.after-t.ensures)

pub returns : goal.returns
returns c =
    let a = c.args in
    let l = c.loop-row in
    try-end a.source.now a.ws.now a.p a.first (cursor_of a.start) _ l.t (cursor_of l.c) l.invariant
    (at-end a.p c.all_rows-all.result c.all_rows-all.ensures c.requires.1 l.row-index c.loop-row-test.false)
