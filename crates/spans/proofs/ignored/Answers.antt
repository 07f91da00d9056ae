-- `spans::ignored` meets its contract: the bytes are there, and are passed, or they are not, and 30 is given. Assumes nothing.
use native.Mathlib.Omega.{arith}
use mathlib.Core.Path.{refl}
use Rattle.meaning.specs.declared.Shape.TheVariants.{Ignored}
use Rattle.meaning.specs.Items.{span, rule, counted, before}
use Rattle.meaning.specs.Reasons.{cursor_of}
use Rattle.laws.specs.Shapes.{shape-in, shape-out}
use Rattle.spans.proofs.ignored.Goals as goal

pub returns-then-saturating_sub-k : goal.returns-then-saturating_sub-k
unfolding span
returns-then-saturating_sub-k c =
    let a = c.args in
    shape-out (Ignored a.k) a.s.now (cursor_of a.c) _ refl (omega arith)

pub returns : goal.returns
unfolding span rule counted before
returns c =
    let a = c.args in
    shape-in (Ignored a.k) a.s.now (cursor_of a.c) _ refl _ _ (omega arith) refl refl refl
