-- `writer_items::put_item` meets its contract: number, list and zeros are put one after the other, and three puts that follow each other are one. Assumes nothing.
use Rattle.std.proofs.Common.{◌≡◌, ℕ, ◌+◌, ap, ◌∙◌, arith, length}
use Rattle.meaning.specs.Items.{cursor}
use Rattle.writer_forms.specs.Forms.{form_of, list_bytes, form_next}
use Rattle.writer_items.specs.Fitting.{list-long}
use Rattle.writer_words.specs.Tellings.{slot_of}
use Rattle.writer_items.proofs.Puts.{pieces}
use Rattle.writer_items.proofs.put_item.Goals as goal

pub returns-clause-buffer_after : goal.returns-clause-buffer_after
returns-clause-buffer_after c =
    let a = c.args in
    let r = c.requires in
    pieces (form_of a.f) a.source.now (slot_of a.s) a.buffer.now a.c.at c.le64-number.result c.listed-list.result.now _ _ _ c.width-width.result r.0 r.1 r.2
    c.le64-number.ensures c.width-width.ensures c.listed-list.ensures c.copy_at.ensures c.copy_at-2.ensures c.zero_at.ensures

pub returns-clause-next : goal.returns-clause-next
unfolding form_next
returns-clause-next c =
    let a = c.args in
    let l = ap length c.listed-list.ensures ∙ list-long (form_of a.f) a.source.now (slot_of a.s) c.requires.1 in
    let end : a.c.at + c.width-width.result + length c.listed-list.result.now + a.f.pad ≡ a.c.at + ((form_of a.f).width + list_bytes (form_of a.f) (slot_of a.s) + a.f.pad) = omega (arith, l) in
    ap (λ (n : ℕ). cursor n a.f.n a.f.old 0) end
