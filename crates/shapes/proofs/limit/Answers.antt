-- `shapes::limit` meets its contract: 30 where the byte is not there, then its rule, then past it. Assumes nothing.
use native.Mathlib.Omega.{arith}
use mathlib.Core.Path.{refl}
use Rattle.meaning.specs.declared.Shape.TheVariants.{Limit}
use Rattle.meaning.specs.Items.{span}
use Rattle.laws.specs.Shapes.{shape-out, limit-bad, limit-in}
use Rattle.meaning.specs.Reasons.{cursor_of}
use Rattle.shapes.proofs.limit.Goals as goal

pub returns-then-s-c : goal.returns-then-s-c
unfolding span
returns-then-s-c c =
    let a = c.args in
    shape-out (Limit a.most) a.s.now (cursor_of a.c) 1 refl (omega arith)

pub returns-then-most-n : goal.returns-then-most-n
returns-then-most-n c =
    let a = c.args in
    limit-bad a.s.now (cursor_of a.c) a.most _ (omega arith) c.u8_at-n.ensures.0 c.if-most-n.true

pub returns : goal.returns
returns c =
    let a = c.args in
    limit-in a.s.now (cursor_of a.c) a.most _ (omega arith) c.u8_at-n.ensures.0 c.if-most-n.false
