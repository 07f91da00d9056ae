-- `plain_read::read_into` meets its contract: refused and too few words leave them; else they are copied. Assumes nothing.
use mathlib.Core.Path.{refl, sym, ap, ◌∙◌}
use native.Mathlib.Omega.{arith}
use mathlib.Core.List.{List, ◌++◌}
use Prim.Native.Nat.{ℕ}
use lib.ListN.{length, drop}
use lib.Seq.{length-take-le}
use Rattle.plain_read.proofs.Readers.{words_by-long, put-56}
use Rattle.std.proofs.lemmas.Result.{err_from_is_err_and}
use Rattle.meaning.specs.Editions.{editions}
use Rattle.laws.specs.Reasons.{number-some}
use Rattle.record.specs.Same.{accepted}
use Rattle.record.specs.Lent.{into-refused, into-short, into-filled}
use Rattle.plain_read.proofs.read_into.Goals as goal

pub returns-in_err-check-clause-value : goal.returns-in_err-check-clause-value
returns-in_err-check-clause-value c =
    let a = c.args in
    let p = err_from_is_err_and c.from_residual.result c.from_residual.ensures.1 in
    rw (p.1, p.2) (into-refused editions a.e a.a a.r.now _ c.in_err-check.ensures a.words.now (number-some c.in_err-check.field-0.0)).0

pub returns-in_err-check-clause-words_after : goal.returns-in_err-check-clause-words_after
returns-in_err-check-clause-words_after c =
    let a = c.args in (into-refused editions a.e a.a a.r.now _ c.in_err-check.ensures a.words.now (number-some c.in_err-check.field-0.0)).1

pub returns-then-words-lt-VALUE_WORDS-clause-value : goal.returns-then-words-lt-VALUE_WORDS-clause-value
returns-then-words-lt-VALUE_WORDS-clause-value c = let a = c.args in (into-short editions a.e a.a a.r.now 0 c.in_ok-check.ensures a.words.now refl c.if-words-lt-VALUE_WORDS.true).0

pub returns-then-words-lt-VALUE_WORDS-clause-words_after : goal.returns-then-words-lt-VALUE_WORDS-clause-words_after
returns-then-words-lt-VALUE_WORDS-clause-words_after c = let a = c.args in (into-short editions a.e a.a a.r.now 0 c.in_ok-check.ensures a.words.now refl c.if-words-lt-VALUE_WORDS.true).1

pub of_record-filled-requires : goal.of_record-filled-requires
of_record-filled-requires c = let a = c.args in accepted editions a.e a.a a.r.now (sym c.in_ok-check.ensures)

pub copy_from_slice-requires : goal.copy_from_slice-requires
copy_from_slice-requires c =
    let l = ap length c.of_record-filled.ensures ∙ words_by-long _ _ c.args.r.now in
    length-take-le 56 c.args.words.now (omega arith) ∙ sym l

pub returns-clause-value : goal.returns-clause-value
returns-clause-value c =
    let a = c.args in
    (into-filled editions a.e a.a a.r.now 0 c.in_ok-check.ensures a.words.now _ _ refl c.if-words-lt-VALUE_WORDS.false c.of_record-filled.ensures refl).0

pub returns-clause-words_after : goal.returns-clause-words_after
returns-clause-words_after c =
    let a = c.args in
    let l = ap length c.of_record-filled.ensures ∙ words_by-long _ _ a.r.now in
    (into-filled editions a.e a.a a.r.now 0 c.in_ok-check.ensures a.words.now _ _ refl c.if-words-lt-VALUE_WORDS.false c.of_record-filled.ensures
    (ap (λ (s : List ℕ). s ++ drop 56 a.words.now) c.copy_from_slice.ensures.after ∙ put-56 a.words.now c.of_record-filled.result l (omega arith))).1
