-- `shapes::abi` meets its contract: 30 where the word is not there; then none or the ones of the mask. Assumes nothing.
use native.Mathlib.Omega.{arith}
use mathlib.Core.Path.{refl}
use Rattle.meaning.specs.declared.Shape.TheVariants.{Abi}
use Rattle.meaning.specs.Items.{span}
use Rattle.meaning.specs.Reasons.{cursor_of}
use Rattle.laws.specs.Shapes.{shape-out, abi-none, abi-some}
use Rattle.shapes.proofs.abi.Goals as goal

pub returns-then-saturating_sub-lt8 : goal.returns-then-saturating_sub-lt8
unfolding span
returns-then-saturating_sub-lt8 c =
    let a = c.args in
    shape-out (Abi a.mask) a.s.now (cursor_of a.c) 8 refl (omega arith)

pub returns-then-u64_at-eq0 : goal.returns-then-u64_at-eq0
returns-then-u64_at-eq0 c =
    let a = c.args in
    abi-none a.s.now (cursor_of a.c) a.mask _ (omega arith) c.u64_at.ensures c.if-u64_at-eq0.true

pub returns : goal.returns
returns c =
    let a = c.args in
    abi-some a.s.now (cursor_of a.c) a.mask _ _ (omega arith) c.u64_at.ensures c.if-u64_at-eq0.false c.count_ones.ensures.0
