-- The size as of raw; a size of 0 has neither bytes nor filled length, any other has both. Assumes nothing.
use mathlib.Core.Path.{◌≡◌, refl, sym, ap, ◌∙◌, subst}
use mathlib.Core.Bool.{true}
use mathlib.Core.List.{List}
use Prim.Native.Nat.{ℕ, ◌+◌, ◌-◌, ◌%◌, ◌≤◌}
use native.Mathlib.Omega.{arith}
use lib.ListN.{length}
use Rattle.std.proofs.lemmas.Result.{err_from_is_err_and}
use Rattle.meaning.specs.Bytes.{number_at}
use Rattle.blocks.specs.Seen.{place, Leaves}
use Rattle.laws.specs.Reasons.{number-some}
use Rattle.blocks.specs.Blocks.{stack_bytes, three-off, sized_place, sized-size, filled_answer, stack-short, stack-part, stack-none, stack-refused, stack-there}
use Rattle.blocks.proofs.stack.Goals as goal

pub returns-then-not-on-clause-leaves : goal.returns-then-not-on-clause-leaves
returns-then-not-on-clause-leaves c = let a = c.args in rw c.if-not-on.true (three-off a.s.now _ _ _ a.at)

pub returns-in_err-n-clause-leaves : goal.returns-in_err-n-clause-leaves
returns-in_err-n-clause-leaves c =
    let p = err_from_is_err_and c.from_residual.result c.from_residual.ensures.1 in
    rw (p.1, p.2, c.in_err-n.ensures.0, c.if-not-on.false) (stack-short c.args.s.now c.args.at c.in_err-n.ensures.1)

pub returns-in_err-end-clause-leaves : goal.returns-in_err-end-clause-leaves
returns-in_err-end-clause-leaves c =
    let p = err_from_is_err_and c.from_residual-in_err-end.result c.from_residual-in_err-end.ensures.1 in
    rw (p.1, p.2, c.if-not-on.false) (stack-part c.args.s.now c.args.at _ c.in_ok-n.ensures.0 c.in_ok-n.ensures.1 _ c.in_err-end.ensures (number-some _)).0

-- the size, where its bytes end
ends : (xs : List ℕ) (at n end : ℕ) → n ≡ number_at 8 xs at → place end 0 ≡ sized_place at (length xs - at) 8 n
    → ((number_at 8 xs at + 8) % 8 ≡ 0) × (number_at 8 xs at ≤ length xs - (at + 8)) × (end ≡ at + 8 + n)
ends xs at n end e p =
    let g = sized-size at (length xs - at) 8 n _ p refl in
    (subst (λ (i : ℕ). (i + 8) % 8 ≡ 0) e g.0, omega (arith, e, g.1), g.2)

pub returns-then-n-eq0-clause-leaves : goal.returns-then-n-eq0-clause-leaves
returns-then-n-eq0-clause-leaves c =
    let xs : List ℕ = c.args.s.now in
    let g = ends xs c.args.at _ _ c.in_ok-n.ensures.1 c.in_ok-end.ensures in
    let z : number_at 8 xs c.args.at ≡ 0 = sym c.in_ok-n.ensures.1 ∙ c.if-n-eq0.true in
    let e : c.in_ok-end.end ≡ c.args.at + 8 = omega (arith, g.2, c.if-n-eq0.true) in
    rw (c.if-not-on.false, e) (stack-none xs c.args.at (omega (arith, c.in_ok-n.ensures.0)) z)

-- inside the record
inside : (xs : List ℕ) (at n end : ℕ) → at + 8 ≤ length xs → n ≡ number_at 8 xs at → place end 0 ≡ sized_place at (length xs - at) 8 n → end ≤ length xs
inside xs at n end h e p = let g = ends xs at n end e p in omega (arith, g.1, g.2, h, e)

pub returns-then-n-eq0-clause-at_in_bounds : goal.returns-then-n-eq0-clause-at_in_bounds
returns-then-n-eq0-clause-at_in_bounds c = λ q. inside c.args.s.now c.args.at _ _ c.in_ok-n.ensures.0 c.in_ok-n.ensures.1 c.in_ok-end.ensures

pub filled-requires : goal.filled-requires
filled-requires c = inside c.args.s.now c.args.at _ _ c.in_ok-n.ensures.0 c.in_ok-n.ensures.1 c.in_ok-end.ensures

pub returns-in_err-filled-clause-leaves : goal.returns-in_err-filled-clause-leaves
returns-in_err-filled-clause-leaves c =
    let xs : List ℕ = c.args.s.now in
    let p = err_from_is_err_and c.from_residual-in_err-filled.result c.from_residual-in_err-filled.ensures.1 in
    let n = c.in_ok-n.ensures.1 in
    let g = ends xs c.args.at _ _ n c.in_ok-end.ensures in
    let w = ap (λ (k : ℕ). filled_answer xs k c.in_ok-n.n) g.2 in
    rw (p.1, p.2, c.if-not-on.false)
    (stack-refused xs c.args.at c.in_ok-n.n _ (sym n) (omega (arith, c.in_ok-n.ensures.0)) g.0 g.1 c.if-n-eq0.false (c.in_err-filled.ensures ∙ w) (number-some _))

-- what stands after the filled length
there : (xs : List ℕ) (at n end : ℕ) → at + 8 ≤ length xs → n ≡ number_at 8 xs at → (n ≡ 0 → ⊥) → place end 0 ≡ sized_place at (length xs - at) 8 n
    → 0 ≡ filled_answer xs end n → Leaves xs (stack_bytes true) at (place (end + 8) 0) × (end + 8 ≤ length xs)
there xs at n end h e z p f =
    let g = ends xs at n end e p in
    let w = ap (λ (i : ℕ). filled_answer xs i n) g.2 in
    subst (λ (i : ℕ). Leaves xs (stack_bytes true) at (place (i + 8) 0) × (i + 8 ≤ length xs)) (sym g.2)
    (stack-there xs at n 0 (sym e) (omega (arith, h)) g.0 g.1 z (f ∙ w) refl)

pub overflow_add-result : goal.overflow_add-result
overflow_add-result c =
    let t = there c.args.s.now c.args.at _ _ c.in_ok-n.ensures.0 c.in_ok-n.ensures.1 c.if-n-eq0.false c.in_ok-end.ensures c.in_ok-filled.ensures in omega (arith, t.1)

pub returns-clause-leaves : goal.returns-clause-leaves
returns-clause-leaves c =
    rw c.if-not-on.false (there c.args.s.now c.args.at _ _ c.in_ok-n.ensures.0 c.in_ok-n.ensures.1 c.if-n-eq0.false c.in_ok-end.ensures c.in_ok-filled.ensures).0

pub returns-clause-at_in_bounds : goal.returns-clause-at_in_bounds
returns-clause-at_in_bounds c =
    λ q. (there c.args.s.now c.args.at _ _ c.in_ok-n.ensures.0 c.in_ok-n.ensures.1 c.if-n-eq0.false c.in_ok-end.ensures c.in_ok-filled.ensures).1
