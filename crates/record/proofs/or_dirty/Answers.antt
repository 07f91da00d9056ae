-- `record::or_dirty` meets its contract: a refusal is passed on; else 44 by the flag. Assumes nothing.
use mathlib.Core.Path.{refl, sym, ap, ◌∙◌}
use mathlib.Core.Bool.{Bool, cond}
use native.Mathlib.Omega.{arith}
use Rattle.std.proofs.lemmas.Result.{err_from_is_err_and}
use Prim.Native.Nat.{ℕ}
use Rattle.meaning.specs.Reasons.{answer_of}
use Rattle.meaning.specs.Records.{kind_of}
use Rattle.record.specs.Into.{or_dirty}
use Rattle.record.specs.Flag.{trailer-there}
use Rattle.record.proofs.Dirty.{or-refused, or-flagged}
use Rattle.record.proofs.or_dirty.Goals as goal

pub returns-in_err-answer : goal.returns-in_err-answer
returns-in_err-answer c =
    let a = c.args in
    let p = err_from_is_err_and c.from_residual.result c.from_residual.ensures.1 in
    let q = c.in_err-answer.was in
    rw (p.1, p.2, q) (or-refused a.a a.r.now c.in_err-answer.field-0.0)

pub u32_at-kind-requires : goal.u32_at-kind-requires
u32_at-kind-requires c =
    let h = trailer-there c.args.a c.args.r.now _ (c.requires (ap answer_of c.in_ok-answer.was)) _ refl in
    omega (arith, h)

pub is_dirty-requires : goal.is_dirty-requires
unfolding kind_of
is_dirty-requires c =
    let g = c.requires (ap answer_of c.in_ok-answer.was) in
    record { kind-is = c.u32_at-kind.ensures.0; eights = g.eights; answer-is = g.answer-is }

pub returns-then-is_dirty : goal.returns-then-is_dirty
returns-then-is_dirty c =
    let q = c.in_ok-answer.was in
    ap (λ (b : Bool). cond b 44 0) (sym c.if-is_dirty.true) ∙ or-flagged c.args.a c.args.r.now _ c.is_dirty.ensures ∙ ap (λ (n : ℕ). or_dirty n c.args.a c.args.r.now) (sym (ap answer_of q))

pub returns : goal.returns
returns c =
    let q = c.in_ok-answer.was in
    ap (λ (b : Bool). cond b 44 0) (sym c.if-is_dirty.false) ∙ or-flagged c.args.a c.args.r.now _ c.is_dirty.ensures ∙ ap (λ (n : ℕ). or_dirty n c.args.a c.args.r.now) (sym (ap answer_of q))
