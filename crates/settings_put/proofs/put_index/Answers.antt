-- One byte or two: a version has no other width.
use mathlib.Core.Path.{◌≡◌, sym, ap, ◌∙◌}
use Prim.Native.Nat.{ℕ}
use native.Mathlib.Omega.{arith}
use Rattle.meaning.specs.Bytes.{spell, put}
use borrow.Author.Rules.{rules}
use Rattle.settings_put.proofs.put_index.Goals as goal

pub returns-then-width-eq1 : goal.returns-then-width-eq1
returns-then-width-eq1 c = let a = c.args in c.put8.ensures ∙ ap (λ (k : ℕ). put a.d.now a.at (spell k a.n)) (sym c.if-width-eq1.true)

pub returns : goal.returns
returns c =
    let a = c.args in
    let w : 2 ≡ a.width = omega (arith, c.if-width-eq1.false, c.requires) in
    c.put16.ensures ∙ ap (λ (k : ℕ). put a.d.now a.at (spell k a.n)) w
