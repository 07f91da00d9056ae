-- `same_parts::same_span` meets its contract: where the bytes are there they are compared.
use mathlib.Core.Path.{◌∙◌}
use Rattle.same_parts.proofs.Laws.{span-back, span-past, span-past-right, span-is}
use Rattle.same_parts.proofs.same_span.Goals as goal

pub returns-then-j-i : goal.returns-then-j-i
returns-then-j-i c = let a = c.args in span-back a.s.now a.t.now a.i a.j c.if-j-i.true

pub returns-then-s-j : goal.returns-then-s-j
returns-then-s-j c = let a = c.args in span-past a.s.now a.t.now a.i a.j c.if-s-j.true

pub returns-then-t-j : goal.returns-then-t-j
returns-then-t-j c = let a = c.args in span-past-right a.s.now a.t.now a.i a.j c.if-t-j.true

pub returns : goal.returns
returns c = let a = c.args in c.same_bytes.ensures ∙ span-is a.s.now a.t.now a.i a.j c.if-j-i.false c.if-s-j.false c.if-t-j.false
