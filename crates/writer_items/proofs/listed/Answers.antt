-- `writer_items::listed` meets its contract: the bytes of a list that does not pass the source's end are a part of it. Assumes nothing.
use Rattle.std.proofs.Common.{◌≡◌, ℕ, ◌+◌, ◌-◌, ◌*◌, take, drop, sym, ap, ◌∙◌, arith}
use Rattle.writer_forms.specs.Forms.{form_of}
use Rattle.writer_words.specs.Tellings.{slot_of}
use Rattle.writer_items.specs.Fitting.{inside-source}
use Rattle.writer_items.proofs.Tried.{list_on, list-off}
use Rattle.writer_items.proofs.listed.Goals as goal

pub returns-in_default : goal.returns-in_default
returns-in_default c =
    let a = c.args in
    ap (λ (n : ℕ). take n (drop a.s.place a.source.now)) (list-off (form_of a.f) (slot_of a.s) (sym c.in_default.ensures.listed))

pub overflow_mul-to : goal.overflow_mul-to
overflow_mul-to c =
    let a = c.args in
    let h = rw (← c.in-Some.ensures.value) at (inside-source (form_of a.f) a.source.now (slot_of a.s) c.requires (sym c.in-Some.ensures.listed)) in
    omega (arith, h, c.well_formed)

pub overflow_add-to : goal.overflow_add-to
overflow_add-to c =
    let a = c.args in
    let h = rw (← c.in-Some.ensures.value) at (inside-source (form_of a.f) a.source.now (slot_of a.s) c.requires (sym c.in-Some.ensures.listed)) in
    omega (arith, h, c.well_formed)

pub slice_bounds-result-end-2 : goal.slice_bounds-result-end-2
slice_bounds-result-end-2 c =
    let a = c.args in
    let h = rw (← c.in-Some.ensures.value) at (inside-source (form_of a.f) a.source.now (slot_of a.s) c.requires (sym c.in-Some.ensures.listed)) in
    omega (arith, h)

pub returns : goal.returns
returns c =
    let a = c.args in
    let e = c.in-Some.ensures in
    let n : a.s.place + a.s.count * c.in-Some.unit - a.s.place ≡ a.s.count * c.in-Some.unit = omega arith in
    ap (λ (k : ℕ). take k (drop a.s.place a.source.now)) (n ∙ ap (λ (u : ℕ). a.s.count * u) e.value ∙ list_on (form_of a.f) (slot_of a.s) (sym e.listed))
