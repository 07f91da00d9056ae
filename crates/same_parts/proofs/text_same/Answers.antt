-- `same_parts::text_same` meets its contract: the lengths are those of the left one.
use mathlib.Core.Path.{ap₂, ◌∙◌}
use Prim.Native.Nat.{◌+◌}
use native.Mathlib.Omega.{arith}
use Rattle.same_parts.proofs.Laws.{text-none, text-is}
use Rattle.same_parts.proofs.text_same.Goals as goal

pub returns-then-s-lt20 : goal.returns-then-s-lt20
returns-then-s-lt20 c = let a = c.args in text-none a.s.now a.t.now c.if-s-lt20.true

pub u16_at-requires : goal.u16_at-requires
u16_at-requires c = let h = c.if-s-lt20.false in omega (arith, h)

pub u16_at-requires-2 : goal.u16_at-requires-2
u16_at-requires-2 c = let h = c.if-s-lt20.false in omega (arith, h)

pub returns : goal.returns
returns c = let a = c.args in c.same_span.ensures ∙ text-is a.s.now a.t.now (c.u16_at.result + c.u16_at-2.result) (ap₂ ◌+◌ c.u16_at.ensures.0 c.u16_at-2.ensures.0)
