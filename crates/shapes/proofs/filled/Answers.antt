-- `shapes::filled` meets its contract: by the stack size: none, not there, above the size, or past it. Assumes nothing.
use native.Mathlib.Omega.{arith}
use Rattle.laws.specs.Shapes.{filled_none, filled-out, filled-bad, filled_in}
use Rattle.meaning.specs.Reasons.{cursor_of}
use Rattle.shapes.proofs.filled.Goals as goal

pub returns-then-size-eq0 : goal.returns-then-size-eq0
returns-then-size-eq0 c =
    let a = c.args in
    filled_none a.s.now (cursor_of a.c) c.if-size-eq0.true

pub returns-then-saturating_sub-lt8 : goal.returns-then-saturating_sub-lt8
returns-then-saturating_sub-lt8 c =
    let a = c.args in
    filled-out a.s.now (cursor_of a.c) c.if-size-eq0.false (omega arith)

pub returns-then-size-u64_at : goal.returns-then-size-u64_at
returns-then-size-u64_at c =
    let a = c.args in
    filled-bad a.s.now (cursor_of a.c) _ c.if-size-eq0.false (omega arith) c.u64_at.ensures c.if-size-u64_at.true

pub returns : goal.returns
returns c =
    let a = c.args in
    filled_in a.s.now (cursor_of a.c) _ c.if-size-eq0.false (omega arith) c.u64_at.ensures c.if-size-u64_at.false
