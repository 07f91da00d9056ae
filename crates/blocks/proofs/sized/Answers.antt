-- 32 is asked before 30; of the size only its lowest bits decide whether it and its own bytes are a multiple of 8.
use mathlib.Core.Path.{◌≡◌}
use Prim.Native.Nat.{ℕ, ◌+◌, ◌%◌}
use native.Mathlib.Omega.{arith}
use Rattle.blocks.specs.Blocks.{sized-rule, sized-past, sized-there}
use Rattle.blocks.proofs.sized.Goals as goal

-- the rule, of the number itself
even : (n width : ℕ) → (n % 8 + width) % 8 ≡ 0 → (n + width) % 8 ≡ 0
even n width h = omega arith

pub returns-then-n-width-ne0 : goal.returns-then-n-width-ne0
returns-then-n-width-ne0 c = let a = c.args in sized-rule a.at a.left a.width a.n (λ q. c.if-n-width-ne0.true (omega (arith, q)))

pub returns-then-left-width : goal.returns-then-left-width
returns-then-left-width c = let a = c.args in sized-past a.at a.left a.width a.n (even _ _ c.if-n-width-ne0.false) c.if-left-width.true

pub returns : goal.returns
returns c = let a = c.args in sized-there a.at a.left a.width a.n (even _ _ c.if-n-width-ne0.false) c.if-left-width.false
