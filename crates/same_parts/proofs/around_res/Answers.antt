-- `same_parts::around_res` meets its contract: the cpu is selected or not.
use mathlib.Core.Path.{sym, ◌∙◌}
use Prim.Native.Nat.{◌+◌, ◌*◌}
use native.Mathlib.Omega.{arith}
use Rattle.same_parts.proofs.Laws.{span-past, four-no, res-none, res-is}
use Rattle.same_parts.proofs.around_res.Goals as goal

pub returns-then-not-has_bit : goal.returns-then-not-has_bit
returns-then-not-has_bit c = let a = c.args in c.same_span.ensures ∙ res-none a.s.now a.t.now a.x a.mask a.from (sym c.has_bit.ensures ∙ c.if-not-has_bit.true)

pub returns-then-s-from : goal.returns-then-s-from
returns-then-s-from c = let a = c.args in let n = c.count_ones.ensures.0 in let h = c.if-s-from.true in let p = c.requires in four-no a.s.now a.t.now a.from (a.from + (c.count_ones.result * 8 + 4)) (sym (span-past a.s.now a.t.now a.from (a.from + (c.count_ones.result * 8 + 4)) (omega (arith, h, p)))) ∙ res-is a.s.now a.t.now a.x a.mask a.from (c.count_ones.result * 8 + 4) (sym c.has_bit.ensures ∙ c.if-not-has_bit.false) (omega (arith, n))

pub returns : goal.returns
returns c = let a = c.args in let n = c.count_ones.ensures.0 in c.same_but_four.ensures ∙ res-is a.s.now a.t.now a.x a.mask a.from (c.count_ones.result * 8 + 4) (sym c.has_bit.ensures ∙ c.if-not-has_bit.false) (omega (arith, n))
