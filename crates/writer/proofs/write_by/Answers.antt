-- `writer::write_by` meets its contract: 2, then 42 for too few words, then the writer of a value on the first 56. Assumes nothing.
use mathlib.Core.Path.{sym, ◌∙◌}
use native.Mathlib.Omega.{arith}
use lib.Seq.{length-take-le}
use Rattle.meaning.specs.Values.{value_words}
use Rattle.writer.specs.Answers.{lent-2, too_few, enough}
use Rattle.writer.proofs.write_by.Goals as goal

pub returns-then-not-allowed : goal.returns-then-not-allowed
returns-then-not-allowed g c =
    let a = c.args in let old : _ × _ = lent-2 a.e a.a a.source.now a.words.now a.buffer.now (sym c.allowed.ensures ∙ c.if-not-allowed.true) in record { value = old.0; buffer_after = old.1 }

pub returns-then-words-lt-VALUE_WORDS : goal.returns-then-words-lt-VALUE_WORDS
returns-then-words-lt-VALUE_WORDS g c =
    let a = c.args in let old : _ × _ = too_few a.e a.a a.source.now a.words.now a.buffer.now (sym c.allowed.ensures ∙ c.if-not-allowed.false) c.if-words-lt-VALUE_WORDS.true in record { value = old.0; buffer_after = old.1 }

pub slice_bounds-write_value-end : goal.slice_bounds-write_value-end
slice_bounds-write_value-end g c = sym (length-take-le value_words c.args.words.now (omega (arith, c.if-words-lt-VALUE_WORDS.false)))

pub write_value-requires : goal.write_value-requires
write_value-requires g c =
    let n = length-take-le value_words c.args.words.now (omega (arith, c.if-words-lt-VALUE_WORDS.false)) in
    (sym c.allowed.ensures ∙ c.if-not-allowed.false, omega (arith, n))

pub returns : goal.returns
returns g c =
    let a = c.args in let old : _ × _ = enough a.e a.a a.source.now a.words.now a.buffer.now (sym c.allowed.ensures ∙ c.if-not-allowed.false) c.if-words-lt-VALUE_WORDS.false _ _
    c.write_value.ensures.value c.write_value.ensures.buffer_after in record { value = old.0; buffer_after = old.1 }
