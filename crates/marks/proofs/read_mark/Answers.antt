-- Refused by the edition; a group counts; else the sum of its fields.
use mathlib.Core.Path.{refl, sym, ap, ◌∙◌}
use mathlib.Core.Logic.{inl}
use Prim.Native.Nat.{ℕ, ◌%◌}
use native.Mathlib.Omega.{arith}
use Rattle.laws.specs.Reasons.{number-some}
use Rattle.marks.specs.Bases.{marked_refused, read-marked}
use Rattle.marks.specs.Marks.{as-counted, unreadable-most}
use Rattle.sums.specs.Sums.{read-eights}
use Rattle.marks.proofs.read_mark.Goals as goal

pub overflow_add-result : goal.overflow_add-result
overflow_add-result c = let e = c.number.ensures ∙ c.in-Err.ensures in let h = unreadable-most c.args.known c.args.a 8 0 in omega (arith, e, h)

pub returns-in-Err : goal.returns-in-Err
returns-in-Err c =
    let a = c.args in
    let e = c.number.ensures ∙ c.in-Err.ensures in
    let h = unreadable-most a.known a.a 8 0 in
    let n = number-some c.in-Err.why in
    marked_refused a.known a.a 8 c.number.result (λ q. omega (arith, q)) e (λ q. n (sym c.number.ensures ∙ q)) (omega (arith, e, h))

pub returns-then-has_bit : goal.returns-then-has_bit
returns-then-has_bit c =
    let a = c.args in
    as-counted a.known a.a 8 (sym c.in_default.ensures) (inl (refl, sym c.has_bit.ensures ∙ c.if-has_bit.true))

pub returns : goal.returns
returns c =
    let a = c.args in
    let r = c.read_values.ensures in
    let m = read-eights a.a in
    let r₀ = r.0 in
    read-marked a.known a.a c.read_values.result a.trail (sym c.in_default.ensures) (sym c.has_bit.ensures ∙ c.if-has_bit.false) r₀ r.1
    (ap (λ (n : ℕ). n % 8) r₀ ∙ m) c.requires.trail_value c.requires.trail_le_sum_most
