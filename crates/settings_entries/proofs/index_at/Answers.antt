-- One byte or two: a version has no other width.
use mathlib.Core.Path.{◌≡◌, sym, ap, ◌∙◌}
use Prim.Native.Nat.{ℕ}
use native.Mathlib.Omega.{arith}
use Rattle.meaning.specs.Bytes.{number_at}
use borrow.Author.Rules.{rules}
use Rattle.settings_entries.proofs.index_at.Goals as goal

pub returns-then-width-eq1 : goal.returns-then-width-eq1
returns-then-width-eq1 c = let a = c.args in c.u8_at.ensures.0 ∙ ap (λ (k : ℕ). number_at k a.bytes.now a.at) (sym c.if-width-eq1.true)

pub returns : goal.returns
returns c =
    let a = c.args in
    let w : 2 ≡ a.width = omega (arith, c.if-width-eq1.false, c.requires) in
    c.u16_at.ensures.0 ∙ ap (λ (k : ℕ). number_at k a.bytes.now a.at) w
