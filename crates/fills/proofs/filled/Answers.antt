-- `fills::filled` meets its contract: not selected, or of a stack of size 0, nothing changes; else the one word is the number at the cursor. Assumes nothing.
use mathlib.Core.Path.{◌≡◌, refl, sym, ap, ◌∙◌}
use mathlib.Core.List.{[], ◌∷◌}
use Prim.Native.Nat.{ℕ}
use native.Mathlib.Omega.{arith}
use lib.ListN.{length, take, drop}
use borrow.Author.Tests.{ne_eqb}
use Rattle.meaning.specs.declared.Shape.TheVariants.{Filled}
use Rattle.meaning.specs.Bytes.{num}
use Rattle.meaning.specs.Reasons.{cursor_of}
use Rattle.meaning.specs.Items.{span, part, holds, counted, before}
use Rattle.meaning.specs.Values.{tell, slot_shape}
use Rattle.fills.proofs.Shapes.{unfilled, off, has, room, one_word}
use Rattle.fills.proofs.filled.Goals as goal

pub returns-then-not-on : goal.returns-then-not-on
returns-then-not-on c = off c.requires c.if-not-on.true

pub returns-then-c-eq0 : goal.returns-then-c-eq0
returns-then-c-eq0 c = unfilled c.requires c.if-not-on.false c.if-c-eq0.true

pub u64_at-requires : goal.u64_at-requires
unfolding span
u64_at-requires c = has c.requires c.if-not-on.false {k = 8} (rw (ne_eqb _ 0 c.if-c-eq0.false)) (omega arith)

pub bounds-out-at : goal.bounds-out-at
unfolding tell
bounds-out-at c = let r = room c.requires c.if-not-on.false refl in omega (arith, r)

pub past-requires : goal.past-requires
unfolding span
past-requires c = let h = has c.requires c.if-not-on.false {k = 8} (rw (ne_eqb _ 0 c.if-c-eq0.false)) (omega arith) in omega (arith, h)

pub returns : goal.returns
unfolding span part tell slot_shape holds counted before
returns c =
    let a = c.args in
    let e : span Filled (cursor_of a.c) (length (drop a.c.at a.s.now)) ≡ 8 = rw (ne_eqb a.c.n 0 c.if-c-eq0.false) in
    one_word c.requires c.if-not-on.false (sym e) refl refl c.past.ensures refl (ap (λ (k : ℕ). num (take k (drop a.c.at a.s.now)) ∷ []) e ∙ ap (λ (v : ℕ). v ∷ []) (sym c.u64_at.ensures))
