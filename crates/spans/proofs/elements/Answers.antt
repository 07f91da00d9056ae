-- `spans::elements` meets its contract: a quotient decides whether the product is there, so nothing wraps. Assumes nothing.
use native.Mathlib.Omega.{arith}
use native.Mathlib.Nat.{mul-zero}
use mathlib.Core.Path.{refl, sym, ap, ◌∙◌}
use Prim.Native.Nat.{ℕ, ◌*◌}
use lib.ListN.{drop}
use Rattle.meaning.specs.Items.{shape_step, span}
use Rattle.meaning.specs.Reasons.{cursor_of}
use Rattle.meaning.specs.declared.Shape.TheVariants.{Ignored}
use Rattle.laws.specs.Shapes.{shape-out, within, over}
use Rattle.spans.proofs.elements.Goals as goal

pub returns-then-k-eq0 : goal.returns-then-k-eq0
returns-then-k-eq0 c =
    let a = c.args in
    c.ignored.ensures
    ∙ ap (λ (m : ℕ). shape_step (Ignored m) (cursor_of a.c) (drop a.c.at a.s.now)) (sym (ap (λ (k : ℕ). a.n * k) c.if-k-eq0.true ∙ mul-zero a.n))

pub returns-then-most-n : goal.returns-then-most-n
unfolding span
returns-then-most-n c =
    let a = c.args in
    let h = over a.n a.k c.saturating_sub.result (omega arith) c.if-most-n.true in
    shape-out (Ignored (a.n * a.k)) a.s.now (cursor_of a.c) _ refl (omega (arith, h, c.saturating_sub.ensures))

pub overflow_mul-n : goal.overflow_mul-n
overflow_mul-n c =
    let a = c.args in
    omega (arith, within a.n a.k c.saturating_sub.result (omega arith) (omega arith), c.saturating_sub.ensures)
