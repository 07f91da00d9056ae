-- `same_parts::build_same` meets its contract: its size is that of the left one.
use mathlib.Core.Path.{sym, ap, ◌∙◌}
use Prim.Native.Nat.{ℕ, ◌+◌}
use native.Mathlib.Omega.{arith}
use Rattle.same_parts.specs.Parts.{same_span}
use Rattle.same_parts.proofs.Laws.{span-there, build-no, build-other, build-is}
use Rattle.same_parts.proofs.build_same.Goals as goal

pub returns-then-not-same_span : goal.returns-then-not-same_span
returns-then-not-same_span c = let a = c.args in build-no a.s.now a.t.now (sym c.same_span.ensures ∙ c.if-not-same_span.true)

pub u8_at-requires : goal.u8_at-requires
u8_at-requires c = let a = c.args in let h = (span-there a.s.now a.t.now 8 41 (sym c.same_span.ensures ∙ c.if-not-same_span.false)).1 in omega (arith, h)

pub returns-then-not-same_span-2 : goal.returns-then-not-same_span-2
returns-then-not-same_span-2 c = let a = c.args in build-other a.s.now a.t.now (sym c.same_span.ensures ∙ c.if-not-same_span.false) (ap (λ (n : ℕ). same_span a.s.now a.t.now 44 (44 + n)) (sym c.u8_at.ensures.0) ∙ sym c.same_span-2.ensures ∙ c.if-not-same_span-2.true)

pub returns : goal.returns
returns c = let a = c.args in c.name_same.ensures ∙ build-is a.s.now a.t.now (sym c.same_span.ensures ∙ c.if-not-same_span.false) (ap (λ (n : ℕ). same_span a.s.now a.t.now 44 (44 + n)) (sym c.u8_at.ensures.0) ∙ sym c.same_span-2.ensures ∙ c.if-not-same_span-2.false)
