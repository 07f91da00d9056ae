-- `shapes::sized` meets its contract: 30 where the number is not there, then its rule by remainders, then past it. Assumes nothing.
use native.Mathlib.Omega.{arith}
use mathlib.Core.Path.{refl, sym}
use Rattle.meaning.specs.declared.Shape.TheVariants.{Size}
use Rattle.meaning.specs.Items.{span, counted, before, holds}
use Rattle.laws.specs.Shapes.{shape-in, shape-out, shape-bad, word-num, size_ok, size-bad}
use Rattle.meaning.specs.Reasons.{cursor_of}
use Rattle.shapes.proofs.sized.Goals as goal

pub returns-then-saturating_sub-k : goal.returns-then-saturating_sub-k
unfolding span
returns-then-saturating_sub-k c =
    let a = c.args in
    shape-out (Size a.w) a.s.now (cursor_of a.c) _ (sym c.bytes-k.ensures.0) (omega arith)

pub returns-then-n-k-ne0 : goal.returns-then-n-k-ne0
unfolding span
returns-then-n-k-ne0 c =
    let a = c.args in
    let e = c.bytes-k.ensures.0 in
    let p = word-num a.w _ _ a.s.now a.c.at e c.word_at-n.ensures in
    shape-bad (Size a.w) a.s.now (cursor_of a.c) _ (sym e) 32 (omega arith) (size-bad a.w (cursor_of a.c) _ _ _ e p (λ q. c.if-n-k-ne0.true (omega arith))) (λ q. omega arith)

pub returns : goal.returns
unfolding span counted before holds
returns c =
    let a = c.args in
    let e = c.bytes-k.ensures.0 in
    let p = word-num a.w _ _ a.s.now a.c.at e c.word_at-n.ensures in
    shape-in (Size a.w) a.s.now (cursor_of a.c) _ (sym e) _ _ (omega arith) (size_ok a.w (cursor_of a.c) _ _ _ e p (omega arith)) p refl
