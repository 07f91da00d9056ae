-- `writer_items::beyond` meets its contract: the form of an item has its list and its unit wherever it stands, so the test at place 0 is the definition's. Assumes nothing.
use Rattle.std.proofs.Common.{ap, sym, ◌∙◌}
use Rattle.meaning.specs.Reasons.{cursor_of}
use Rattle.writer_forms.specs.Forms.{Form, passes_end}
use Rattle.writer_words.specs.Tellings.{slot_of}
use Rattle.writer_items.specs.Fitting.{passes-is}
use Rattle.writer_items.proofs.beyond.Goals as goal

pub returns : goal.returns
returns c =
    let a = c.args in
    c.passes.ensures
    ∙ ap (λ (f : Form). passes_end a.source.now f.list f.unit a.s.place a.s.count) c.of_item.ensures
    ∙ sym (passes-is a.i (cursor_of c.start_at.result) a.source.now (slot_of a.s))
