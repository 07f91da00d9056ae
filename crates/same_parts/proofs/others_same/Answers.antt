-- `same_parts::others_same` meets its contract: a type that has no name starts none at 0.
use mathlib.Core.Path.{sym, ap, ◌∙◌}
use Prim.Native.Nat.{ℕ}
use native.Mathlib.Omega.{arith}
use borrow.Author.Tests.{eq-eqb, ne_eqb}
use Rattle.std.specs.Prelude.{Option, unwrap_or}
use Rattle.same_parts.specs.Parts.{name_at, name_same}
use Rattle.same_parts.proofs.others_same.Goals as goal

pub returns-in-Some : goal.returns-in-Some
unfolding Rattle.same_parts.specs.Parts.others_same
returns-in-Some c =
    let a = c.args in
    let e = ap (λ (o : Option ℕ). unwrap_or o 0) (sym c.in-Some.is) ∙ c.name_at.ensures.value in
    let p = c.in-Some.ensures.some in
    rw (ne_eqb (name_at a.kind) 0 (λ q. omega (arith, q, e, p))) (c.name_same.ensures ∙ ap (λ (n : ℕ). name_same a.s.now a.t.now 8 n) e)

pub returns-in-None : goal.returns-in-None
unfolding Rattle.same_parts.specs.Parts.others_same
returns-in-None c =
    let a = c.args in
    let e = ap (λ (o : Option ℕ). unwrap_or o 0) (sym c.in-None.is) ∙ c.name_at.ensures.value in
    rw (eq-eqb (name_at a.kind) 0 (sym e)) c.same_span.ensures
