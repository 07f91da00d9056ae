-- `same_parts::same_but_four` meets its contract: both spans, one after the other.
use mathlib.Core.Path.{sym, ◌∙◌}
use Prim.Native.Nat.{◌+◌}
use native.Mathlib.Omega.{arith}
use lib.ListN.{length}
use Rattle.same_parts.proofs.Laws.{span-back, span-there, four-no, four_is}
use Rattle.same_parts.proofs.same_but_four.Goals as goal

pub returns-then-not-same_span : goal.returns-then-not-same_span
returns-then-not-same_span c = let a = c.args in four-no a.s.now a.t.now a.from a.res (sym c.same_span.ensures ∙ c.if-not-same_span.true)

pub overflow_sub-s : goal.overflow_sub-s
overflow_sub-s c = let a = c.args in let h = (span-there a.s.now a.t.now a.from a.res (sym c.same_span.ensures ∙ c.if-not-same_span.false)).1 in omega (arith, h)

pub returns-then-s-res-lt4 : goal.returns-then-s-res-lt4
returns-then-s-res-lt4 c = let a = c.args in let h = c.if-s-res-lt4.true in span-back a.s.now a.t.now (a.res + 4) (length a.s.now) (omega (arith, h)) ∙ four_is a.s.now a.t.now a.from a.res (sym c.same_span.ensures ∙ c.if-not-same_span.false)

pub returns : goal.returns
returns c = let a = c.args in c.same_span-2.ensures ∙ four_is a.s.now a.t.now a.from a.res (sym c.same_span.ensures ∙ c.if-not-same_span.false)
