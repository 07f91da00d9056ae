-- Items of one width take their sum or refuse with 30: the law over a list of them (`steady`). Assumes nothing.
use native.Mathlib.Omega.{arith}
use Rattle.blocks.specs.Steady.{steady-leaves, steady-refused}
use Rattle.blocks.proofs.sum.Goals as goal

pub returns-then-s-at-clause-leaves : goal.returns-then-s-at-clause-leaves
returns-then-s-at-clause-leaves c = λ is f e. let a = c.args in steady-refused a.s.now is a.at a.k f e (omega arith) (omega arith)

pub returns-clause-leaves : goal.returns-clause-leaves
returns-clause-leaves c = λ is f e. let a = c.args in steady-leaves a.s.now is a.at a.k f e (omega arith)
