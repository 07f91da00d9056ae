-- `shapes::count` meets its contract: the width decides whether the number is there; the number read is the one the bytes spell. Assumes nothing.
use native.Mathlib.Omega.{arith}
use mathlib.Core.Path.{refl, sym}
use Rattle.meaning.specs.declared.Shape.TheVariants.{Count}
use Rattle.meaning.specs.Items.{span, rule, counted, before, holds}
use Rattle.laws.specs.Shapes.{shape-in, shape-out, word-num}
use Rattle.meaning.specs.Reasons.{cursor_of}
use Rattle.shapes.proofs.count.Goals as goal

pub returns-then-saturating_sub-k : goal.returns-then-saturating_sub-k
unfolding span
returns-then-saturating_sub-k c =
    let a = c.args in
    shape-out (Count a.w) a.s.now (cursor_of a.c) _ (sym c.bytes-k.ensures.0) (omega arith)

pub returns : goal.returns
unfolding span rule counted before holds
returns c =
    let a = c.args in
    let e = c.bytes-k.ensures.0 in
    let p = word-num a.w _ _ a.s.now a.c.at e c.word_at.ensures in
    shape-in (Count a.w) a.s.now (cursor_of a.c) _ (sym e) _ _ (omega arith) refl p refl
