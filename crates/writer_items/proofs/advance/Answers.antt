-- `writer_items::advance` meets its contract: the sum is held below the largest number, and the end is the form's. Assumes nothing.
use Rattle.std.proofs.Common.{◌≡◌, ℕ, ◌+◌, ap, ◌∙◌, arith}
use Rattle.meaning.specs.Items.{cursor}
use Rattle.meaning.specs.Reasons.{cursor_of}
use Rattle.writer_forms.specs.Forms.{form_of}
use Rattle.writer_words.specs.Tellings.{slot_of}
use Rattle.writer_items.proofs.Tried.{past_end, before-end, bytes-few}
use Rattle.writer_items.proofs.advance.Goals as goal

pub overflow_add-c-2 : goal.overflow_add-c-2
overflow_add-c-2 c =
    let a = c.args in
    let few = bytes-few (form_of a.f) (slot_of a.s) c.requires.2 in
    omega (arith, few, c.list_bytes.ensures)

pub returns-then-at-gt-MOST_BYTES : goal.returns-then-at-gt-MOST_BYTES
returns-then-at-gt-MOST_BYTES c =
    let a = c.args in
    let few = bytes-few (form_of a.f) (slot_of a.s) c.requires.2 in
    past_end (form_of a.f) (slot_of a.s) (cursor_of a.c) c.list_bytes.result c.list_bytes.ensures (omega arith)

pub returns : goal.returns
returns c =
    let a = c.args in
    let few = bytes-few (form_of a.f) (slot_of a.s) c.requires.2 in
    let end : c.saturating_add-at.result ≡ a.c.at + ((form_of a.f).width + c.list_bytes.result + a.f.pad) = omega arith in
    ap (λ (n : ℕ). cursor n a.f.n a.f.old 0) end
    ∙ before-end (form_of a.f) (slot_of a.s) (cursor_of a.c) c.list_bytes.result c.list_bytes.ensures (omega (arith, end))
