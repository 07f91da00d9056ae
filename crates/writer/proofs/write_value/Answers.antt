-- `writer::write_value` meets its contract: rows 20 to 25 by the words' type and misc, then 43, and past them the answers of a type that is known. Assumes nothing.
use Rattle.std.proofs.Common.{refl, ap, ◌∙◌}
use Rattle.std.proofs.lemmas.Result.{err_from_is_err_and}
use Rattle.meaning.specs.declared.Known.{Known}
use Rattle.meaning.specs.Editions.{unreadable}
use Rattle.laws.specs.Reasons.{number-some}
use Rattle.writer.specs.Answers.{answers-unknown, answers-43, answers-known}
use Rattle.writer.proofs.write_value.Goals as goal

pub returns-in_err-unreadable : goal.returns-in_err-unreadable
returns-in_err-unreadable g c =
    let a = c.args in
    let why-is = c.in_err-unreadable.ensures ∙ ap (λ (k : Known). unreadable k a.a c.word-kind.result c.word-misc.result) c.edition.ensures in
    let old : _ × _ = answers-unknown a.e a.a a.source.now a.ws.now a.buffer.now c.requires.0 c.word-kind.result c.word-misc.result
    c.word-kind.ensures c.word-misc.ensures _ why-is (number-some c.in_err-unreadable.field-0.0) in
    let p = err_from_is_err_and c.from_residual.result c.from_residual.ensures.1 in
    record { value = rw (p.1, p.2) old.0; buffer_after = old.1 }

pub returns-then-flag_set : goal.returns-then-flag_set
returns-then-flag_set g c =
    let a = c.args in
    let why-is = c.in_ok-unreadable.ensures ∙ ap (λ (k : Known). unreadable k a.a c.word-kind.result c.word-misc.result) c.edition.ensures in
    let old : _ × _ = answers-43 a.e a.a a.source.now a.ws.now a.buffer.now c.requires.0 c.word-kind.result c.word-misc.result
    c.word-kind.ensures c.word-misc.ensures _ why-is refl c.flag_set.result c.flag_set.ensures c.if-flag_set.true in
    record { value = old.0; buffer_after = old.1 }

pub returns : goal.returns
returns g c =
    let a = c.args in
    let why-is = c.in_ok-unreadable.ensures ∙ ap (λ (k : Known). unreadable k a.a c.word-kind.result c.word-misc.result) c.edition.ensures in
    let old : _ × _ = answers-known a.e a.a a.source.now a.ws.now a.buffer.now c.requires.0 c.word-kind.result c.word-misc.result
    c.word-kind.ensures c.word-misc.ensures _ why-is refl c.flag_set.result c.flag_set.ensures c.if-flag_set.false _ _ (c.write_known.ensures.value, c.write_known.ensures.buffer_after) in
    record { value = old.0; buffer_after = old.1 }
