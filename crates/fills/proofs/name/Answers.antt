-- `fills::name` meets its contract: not selected nothing changes; else the two words are the place and the bytes before the first zero, and the cursor stands at the end. Assumes nothing.
use mathlib.Core.Path.{◌≡◌, refl, sym, ap, ◌∙◌}
use mathlib.Core.List.{List, [], ◌∷◌}
use Prim.Native.Nat.{ℕ, ◌+◌, ◌-◌}
use native.Mathlib.Omega.{arith}
use lib.ListN.{length, drop, length-drop, length-set}
use lib.Seq.{take-length}
use Rattle.meaning.specs.Bytes.{zero_in}
use Rattle.meaning.specs.Items.{cursor, span, part, holds, counted, before}
use Rattle.meaning.specs.Values.{tell, slot_shape}
use Rattle.fills.proofs.Shapes.{name-has, off, room, two-words}
use Rattle.fills.proofs.name.Goals as goal

pub returns-then-not-on : goal.returns-then-not-on
returns-then-not-on c = off c.requires c.if-not-on.true

pub bounds-out-at : goal.bounds-out-at
unfolding tell
bounds-out-at c = let r = room c.requires c.if-not-on.false refl in omega (arith, r)

pub zero_of-requires : goal.zero_of-requires
zero_of-requires c = name-has c.requires c.if-not-on.false

pub bounds-out-at-2 : goal.bounds-out-at-2
unfolding tell
bounds-out-at-2 c =
    let a = c.args in
    let r = room c.requires c.if-not-on.false refl in
    omega (arith, r, length-set a.out.now a.at a.c.at)

pub returns : goal.returns
unfolding span part tell slot_shape holds counted before
returns c =
    let a = c.args in
    let xs = a.s.now in
    let at = a.c.at in
    let h = name-has c.requires c.if-not-on.false in
    let l = length-drop at xs in
    let z = c.zero_of.ensures.0 in
    let k : at + length (drop at xs) ≡ length xs = omega (arith, h.0, l) in
    let v : c.zero_of.result - at ≡ zero_in (drop at xs) = omega (arith, z) in
    two-words c.requires c.if-not-on.false refl refl refl (ap (λ (k : ℕ). cursor k a.c.n a.c.old 0) (sym k)) refl
    (ap (λ (ys : List ℕ). at ∷ zero_in ys ∷ []) (take-length (drop at xs)) ∙ ap (λ (n : ℕ). at ∷ n ∷ []) (sym v))
