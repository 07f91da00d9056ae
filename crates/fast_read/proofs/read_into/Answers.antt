-- `fast_read::read_into` meets its contract: refused and too few words leave them; else the first 56 are filled. Assumes nothing.
use mathlib.Core.Path.{refl, sym, ap, ◌∙◌}
use lib.ListN.{length}
use lib.Seq.{length-take-le}
use Rattle.std.proofs.lemmas.Result.{err_from_is_err_and}
use Rattle.meaning.specs.Editions.{editions}
use Rattle.laws.specs.Reasons.{number-some}
use Rattle.record.specs.Same.{accepted}
use Rattle.record.specs.Lent.{into-refused, into-short, into-filled}
use Rattle.fast_read.proofs.Laws.{first-put, words_long}
use Rattle.fast_read.proofs.read_into.Goals as goal

pub returns-in_err-check : goal.returns-in_err-check
returns-in_err-check c =
    let a = c.args in
    let p = err_from_is_err_and c.from_residual.result c.from_residual.ensures.1 in
    let old : _ × _ = into-refused editions a.e a.a a.r.now _ c.in_err-check.ensures a.words.now (number-some c.in_err-check.field-0.0) in
    record { value = rw (p.1, p.2) old.0; words_after = old.1 }

pub returns-then-words-lt-VALUE_WORDS : goal.returns-then-words-lt-VALUE_WORDS
returns-then-words-lt-VALUE_WORDS c =
    let a = c.args in
    let old : _ × _ = into-short editions a.e a.a a.r.now 0 c.in_ok-check.ensures a.words.now refl c.if-words-lt-VALUE_WORDS.true in
    record { value = old.0; words_after = old.1 }

pub slice_bounds-fill-end-2 : goal.slice_bounds-fill-end-2
slice_bounds-fill-end-2 c = sym (length-take-le 56 c.args.words.now c.if-words-lt-VALUE_WORDS.false)

pub fill-requires : goal.fill-requires
fill-requires c =
    let a = c.args in
    (accepted editions a.e a.a a.r.now (sym c.in_ok-check.ensures), length-take-le 56 a.words.now c.if-words-lt-VALUE_WORDS.false)

pub returns : goal.returns
returns c =
    let a = c.args in
    let old : _ × _ = into-filled editions a.e a.a a.r.now 0 c.in_ok-check.ensures a.words.now _ _ refl c.if-words-lt-VALUE_WORDS.false c.fill.ensures
    (first-put a.words.now _ (ap length c.fill.ensures ∙ words_long _ _ a.r.now) c.if-words-lt-VALUE_WORDS.false) in
    record { value = old.0; words_after = old.1 }
