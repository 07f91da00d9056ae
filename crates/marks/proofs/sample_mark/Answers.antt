-- Refused by the edition; in stretches; else the sum of its first and last fields.
use mathlib.Core.Path.{◌≡◌, refl, sym, ◌∙◌}
use native.Mathlib.Omega.{arith}
use Rattle.meaning.specs.Editions.{unreadable}
use Rattle.laws.specs.Reasons.{number-some}
use Rattle.marks.specs.Bases.{plain-parts, marked_refused, sample-marked}
use Rattle.marks.specs.Marks.{as-stretched, one-weight, unreadable-most}
use Rattle.sums.specs.Sums.{first_small, last-small, sums-given}
use Rattle.marks.proofs.sample_mark.Goals as goal

pub overflow_add-result : goal.overflow_add-result
overflow_add-result c = let e = c.number.ensures ∙ c.in-Err.ensures in let h = unreadable-most c.args.known c.args.a 9 0 in omega (arith, e, h)

pub returns-in-Err : goal.returns-in-Err
returns-in-Err c =
    let a = c.args in
    let e = c.number.ensures ∙ c.in-Err.ensures in
    let h = unreadable-most a.known a.a 9 0 in
    let n = number-some c.in-Err.why in
    marked_refused a.known a.a 9 c.number.result (λ q. omega (arith, q)) e (λ q. n (sym c.number.ensures ∙ q)) (omega (arith, e, h))

pub returns-then-in_stretches : goal.returns-then-in_stretches
returns-then-in_stretches c = let a = c.args in as-stretched a.known a.a 9 refl (sym c.in_default.ensures)

pub overflow_add-result-2 : goal.overflow_add-result-2
overflow_add-result-2 c =
    let f = (first_small c.args.a c.args.sums.now c.requires).0 in
    let l = (last-small c.args.a c.args.sums.now c.requires).0 in
    omega (arith, f, l)

pub overflow_add-result-3 : goal.overflow_add-result-3
overflow_add-result-3 c =
    let f = (first_small c.args.a c.args.sums.now c.requires).0 in
    let l = (last-small c.args.a c.args.sums.now c.requires).0 in
    omega (arith, f, l)

pub returns : goal.returns
returns c =
    let a = c.args in
    let u : unreadable a.known a.a 9 0 ≡ 0 = sym c.in_default.ensures in
    let p = plain-parts a.a (sym c.in_stretches.ensures ∙ c.if-in_stretches.false) in
    let g = sums-given a.a a.sums.now c.requires in
    let f = first_small a.a a.sums.now c.requires in
    let l = last-small a.a a.sums.now c.requires in
    sample-marked a.a p.0 p.1.0 p.1.1 a.known u _ _ g.first (g.last (one-weight a.known a.a u) p.1.0) f.0 l.0 f.1 l.1
