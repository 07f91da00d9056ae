-- `writer_items::list_bytes` meets its contract: the product was bounded by the caller; without a list it is 0. Assumes nothing.
use Rattle.std.proofs.Common.{ℕ, ◌*◌, sym, ap, ◌∙◌}
use Rattle.writer_forms.specs.Forms.{form_of}
use Rattle.writer_words.specs.Tellings.{slot_of}
use Rattle.writer_items.proofs.Tried.{list_on, list-off}
use Rattle.writer_items.proofs.list_bytes.Goals as goal

pub returns-in-Some : goal.returns-in-Some
returns-in-Some c =
    let a = c.args in
    let e = c.in-Some.ensures in
    ap (λ (u : ℕ). a.s.count * u) e.value ∙ list_on (form_of a.f) (slot_of a.s) (sym e.listed)

pub returns-in-None : goal.returns-in-None
returns-in-None c =
    let a = c.args in
    list-off (form_of a.f) (slot_of a.s) (sym c.in-None.ensures.listed)
