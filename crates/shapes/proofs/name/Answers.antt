-- `shapes::name` meets its contract: the next zero of the room decides: none, too early, or among the last 8 bytes. Assumes nothing.
use native.Mathlib.Omega.{arith}
use Rattle.laws.specs.Shapes.{name_in, name-early, name-none}
use Rattle.meaning.specs.Reasons.{cursor_of}
use Rattle.shapes.proofs.name.Goals as goal

pub returns-then-s-c : goal.returns-then-s-c
returns-then-s-c c =
    let a = c.args in
    name-none a.s.now (cursor_of a.c) (omega arith)

pub returns-then-z-s : goal.returns-then-z-s
returns-then-z-s c =
    let a = c.args in
    name-none a.s.now (cursor_of a.c) (omega arith)

pub returns-then-s-z-gt8 : goal.returns-then-s-z-gt8
returns-then-s-z-gt8 c =
    let a = c.args in
    name-early a.s.now (cursor_of a.c) (omega arith)

pub returns : goal.returns
returns c =
    let a = c.args in
    name_in a.s.now (cursor_of a.c) _ c.zero_from-z.ensures.0 (omega arith) (omega arith)
