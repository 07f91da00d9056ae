-- `same_parts::name_same` meets its contract: the zero is looked for in the left one.
use mathlib.Core.Path.{◌∙◌}
use native.Mathlib.Omega.{arith}
use Rattle.same_parts.proofs.Laws.{name-none, name-is}
use Rattle.same_parts.proofs.name_same.Goals as goal

pub returns-then-s-from : goal.returns-then-s-from
returns-then-s-from c = let a = c.args in let h = c.if-s-from.true in name-none a.s.now a.t.now a.begin a.from (omega (arith, h))

pub returns-then-s-zero : goal.returns-then-s-zero
returns-then-s-zero c = let a = c.args in let h = c.if-s-zero.true in let z = c.zero_from-zero.ensures.0 in name-none a.s.now a.t.now a.begin a.from (omega (arith, h, z))

pub returns : goal.returns
returns c = let a = c.args in c.same_span.ensures ∙ name-is a.s.now a.t.now a.begin a.from c.zero_from-zero.result c.zero_from-zero.ensures.0
