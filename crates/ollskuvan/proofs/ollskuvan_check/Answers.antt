-- `ollskuvan_check` meets its contract: the answer that record check shares with the readers, and 44 in place of 0, for the attributes that C's
-- numbers give. Assumes nothing.
use mathlib.Core.Path.{sym, ap, ◌∙◌}
use Rattle.meaning.specs.declared.Attributes.{Attributes}
use Rattle.meaning.specs.Editions.{editions}
use Rattle.meaning.specs.Records.{record_check}
use Rattle.record.specs.Same.{accepted, or-dirty}
use borrow.Author.Rules.{rules}
use Rattle.ollskuvan.proofs.ollskuvan_check.Goals as goal

pub or_dirty-requires : goal.or_dirty-requires
or_dirty-requires c =
    let s = c.args in
    λ z. accepted editions s.edition _ s.bytes.now (sym c.check-answer.ensures ∙ z)

pub returns : goal.returns
returns c =
    let s = c.args in
    c.answer_number.ensures
    ∙ c.or_dirty.ensures
    ∙ or-dirty editions s.edition _ s.bytes.now _ c.check-answer.ensures
    ∙ ap (λ (a : Attributes). record_check editions s.edition a s.bytes.now) c.attributes-a.ensures
