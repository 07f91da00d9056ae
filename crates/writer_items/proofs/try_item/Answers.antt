-- `writer_items::try_item` meets its contract: 41 and misfit leave no state; else the form's next state is the item's, by `Fitting`. Assumes nothing.
use Rattle.std.proofs.Common.{ap, sym, ◌∙◌, arith, leb}
use Rattle.std.proofs.Math.Bool.{cond}
use Rattle.laws.specs.Numbers.{small_of}
use Rattle.meaning.specs.Reasons.{cursor_of}
use Rattle.writer_forms.specs.Forms.{Form, form_of, fits_form, form_next}
use Rattle.writer_words.specs.Tellings.{slot_of}
use Rattle.writer_items.specs.Tries.{unfit, most_bytes}
use Rattle.writer_items.proofs.Tried.{try-beyond, try-misfit, try-fit, beyond-by, width-by, inside-by, name_by}
use Rattle.writer_items.proofs.try_item.Goals as goal

pub returns-then-passes : goal.returns-then-passes
returns-then-passes c =
    let a = c.args in
    try-beyond a.source.now a.i (slot_of a.s) (cursor_of a.c)
    (beyond-by a.i (cursor_of a.c) (slot_of a.s) a.source.now (form_of c.of_item-f.result) c.of_item-f.ensures c.passes.result c.passes.ensures ∙ c.if-passes.true)

pub fits-requires : goal.fits-requires
fits-requires c =
    let a = c.args in
    name_by a.i (cursor_of a.c) (slot_of a.s) a.source.now (form_of c.of_item-f.result) c.of_item-f.ensures c.passes.result c.passes.ensures c.if-passes.false

pub returns-then-not-fits : goal.returns-then-not-fits
returns-then-not-fits c =
    let a = c.args in
    try-misfit a.source.now a.i (slot_of a.s) (cursor_of a.c) (small_of a.source.now c.type_inv.source) (omega (arith, c.well_formed))
    (beyond-by a.i (cursor_of a.c) (slot_of a.s) a.source.now (form_of c.of_item-f.result) c.of_item-f.ensures c.passes.result c.passes.ensures ∙ c.if-passes.false)
    (ap (λ (f : Form). fits_form f a.source.now (slot_of a.s)) (sym c.of_item-f.ensures) ∙ sym c.fits.ensures ∙ c.if-not-fits.true)

pub advance-requires : goal.advance-requires
advance-requires c =
    let a = c.args in
    let f = form_of c.of_item-f.result in
    let q = inside-by a.i (cursor_of a.c) (slot_of a.s) a.source.now f c.of_item-f.ensures c.passes.result c.passes.ensures c.if-passes.false in
    (c.requires, width-by a.i (cursor_of a.c) (slot_of a.s) a.source.now f c.of_item-f.ensures, λ l. let h = q l in omega (arith, h, c.well_formed))

pub returns : goal.returns
returns c =
    let a = c.args in
    let e = c.of_item-f.ensures in
    c.advance.ensures
    ∙ ap (λ (f : Form). cond (leb (form_next f (slot_of a.s) (cursor_of a.c)).at most_bytes) (form_next f (slot_of a.s) (cursor_of a.c)) unfit) e
    ∙ try-fit a.source.now a.i (slot_of a.s) (cursor_of a.c) (small_of a.source.now c.type_inv.source) (omega (arith, c.well_formed))
    (beyond-by a.i (cursor_of a.c) (slot_of a.s) a.source.now (form_of c.of_item-f.result) e c.passes.result c.passes.ensures ∙ c.if-passes.false)
    (ap (λ (f : Form). fits_form f a.source.now (slot_of a.s)) (sym e) ∙ sym c.fits.ensures ∙ c.if-not-fits.false)
