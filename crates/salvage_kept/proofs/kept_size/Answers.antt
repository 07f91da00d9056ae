-- Each refusal denies one of the four things that a kept record has (`Kept`); past the last test all four hold.
use mathlib.Core.Path.{◌≡◌, sym, ap, ◌∙◌}
use Prim.Native.Nat.{ℕ, ◌%◌}
use native.Mathlib.Omega.{arith}
use lib.ListN.{take}
use lib.Seq.{length-take-le}
use Rattle.meaning.specs.Editions.{editions}
use Rattle.meaning.specs.Records.{size_of}
use Rattle.salvage.specs.Salvage.{table_judge}
use Rattle.std.specs.Prelude.{Result, Ok, Err, true, false, refl}
use Rattle.std.specs.Result.{is_err}
use Rattle.laws.specs.Reasons.{number-some}
use Rattle.meaning.specs.declared.Reason.{Reason}
use Rattle.meaning.specs.Reasons.{answer_of}
use Rattle.salvage.proofs.Steps.{Kept}
use Rattle.salvage.proofs.Turns.{size_none, size-some}
use borrow.Author.Rules.{rules}
use Rattle.salvage_kept.proofs.kept_size.Goals as goal

accepted : (r : Result (Unit {0}) Reason) → is_err r ≡ false → answer_of r ≡ 0
accepted (Ok _) e = refl
accepted (Err r) e = cc

refused : (r : Result (Unit {0}) Reason) → is_err r ≡ true → answer_of r ≡ 0 → ⊥
refused (Ok _) e z = cc
refused (Err r) e z = number-some r z

pub returns-then-left-lt8-clause-value : goal.returns-then-left-lt8-clause-value
returns-then-left-lt8-clause-value c = let a = c.args in size_none _ a.left.now (λ (k : Kept (table_judge editions a.e a.events.now) a.left.now). omega (arith, k.low, k.inside, c.if-left-lt8.true))

pub returns-then-size-lt8-clause-value : goal.returns-then-size-lt8-clause-value
unfolding size_of
returns-then-size-lt8-clause-value c =
    let a = c.args in
    let z : size_of a.left.now ≡ c.u16_at-size.result = sym c.u16_at-size.ensures.0 in
    size_none _ a.left.now (λ (k : Kept (table_judge editions a.e a.events.now) a.left.now). omega (arith, z, k.low, c.if-size-lt8.true))

pub returns-then-size-ne0-clause-value : goal.returns-then-size-ne0-clause-value
unfolding size_of
returns-then-size-ne0-clause-value c =
    let a = c.args in
    let z : size_of a.left.now ≡ c.u16_at-size.result = sym c.u16_at-size.ensures.0 in
    size_none _ a.left.now (λ (k : Kept (table_judge editions a.e a.events.now) a.left.now). c.if-size-ne0.true (ap (λ (n : ℕ). n % 8) (sym z) ∙ k.eight))

pub returns-then-left-size-clause-value : goal.returns-then-left-size-clause-value
unfolding size_of
returns-then-left-size-clause-value c =
    let a = c.args in
    let z : size_of a.left.now ≡ c.u16_at-size.result = sym c.u16_at-size.ensures.0 in
    size_none _ a.left.now (λ (k : Kept (table_judge editions a.e a.events.now) a.left.now). omega (arith, z, k.inside, c.if-left-size.true))

pub slice_bounds-judge-end : goal.slice_bounds-judge-end
slice_bounds-judge-end c = sym (length-take-le _ _ c.if-left-size.false)

pub judge-requires : goal.judge-requires
judge-requires c = omega (arith, c.if-size-lt8.false, c.if-left-size.false, length-take-le c.u16_at-size.result c.args.left.now c.if-left-size.false)

pub returns-then-is_err-clause-value : goal.returns-then-is_err-clause-value
unfolding size_of
returns-then-is_err-clause-value c =
    let a = c.args in
    let z : size_of a.left.now ≡ c.u16_at-size.result = sym c.u16_at-size.ensures.0 in
    size_none _ a.left.now (λ (k : Kept (table_judge editions a.e a.events.now) a.left.now).
    refused c.judge.result (sym c.is_err.ensures.value ∙ c.if-is_err.true) (c.judge.ensures ∙ ap (λ (n : ℕ). table_judge editions a.e a.events.now (take n a.left.now)) (sym z) ∙ k.body))

pub returns-clause-value : goal.returns-clause-value
unfolding size_of
returns-clause-value c =
    let a = c.args in
    let z : size_of a.left.now ≡ c.u16_at-size.result = sym c.u16_at-size.ensures.0 in
    sym z ∙ size-some _ a.left.now
    (record {
      low = omega (arith, z, c.if-size-lt8.false);
      eight = ap (λ (n : ℕ). n % 8) z ∙ c.if-size-ne0.false;
      inside = omega (arith, z, c.if-left-size.false);
      body = ap (λ (n : ℕ). table_judge editions a.e a.events.now (take n a.left.now)) z ∙ sym c.judge.ensures ∙ accepted c.judge.result (sym c.is_err.ensures.value ∙ c.if-is_err.false);
    })
