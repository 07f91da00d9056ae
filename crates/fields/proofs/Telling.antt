-- The words of an item whose step is accepted: its bytes are there, and its words are those of its shape. Assumes nothing.
use mathlib.Core.Path.{◌≡◌, refl, sym, ap, subst, ◌∙◌}
use mathlib.Core.List.{List}
use mathlib.Core.Bool.{true, false}
use Prim.Native.Nat.{ℕ, ◌+◌, ◌≤◌}
use native.Mathlib.Omega.{arith}
use lib.Dec.{leb, ltb}
use lib.ListN.{length, drop, length-drop}
use borrow.Author.Tests.{ne_eqb, ltb-true}
use Rattle.meaning.specs.States.{Cursor}
use Rattle.meaning.specs.declared.Item.{Item}
use Rattle.meaning.specs.declared.Shape.{Shape}
use Rattle.meaning.specs.declared.Shape.TheVariants.{Number, Ignored, Count, Size, Times, Earlier, Registers, Filled, Abi, Limit, Listed, Bytes, Pad, Name}
use Rattle.meaning.specs.declared.Width.{Width}
use Rattle.meaning.specs.declared.Width.TheVariants.{W1, W2, W4, W8}
use Rattle.meaning.specs.Bytes.{zero_in, zeros}
use Rattle.meaning.specs.Items.{bytes, span, rule, part, step}
use Rattle.meaning.specs.Values.{slot, slot_shape, slot_item, tell, words_of}
use Rattle.laws.specs.Bytes.{and-true, unbroken}
use Rattle.laws.specs.Again.{ItemPassed}
use Rattle.laws.specs.Walks.{step-taken}

positive : (w : Width) → 1 ≤ bytes w
positive W1 = omega arith
positive W2 = omega arith
positive W4 = omega arith
positive W8 = omega arith

module _ (xs : List ℕ) (i : Item) (c : Cursor) (sh : Shape) (h : (step xs i c).why ≡ 0) (o : i.on ≡ true) (e : i.shape ≡ sh) where
  took : ItemPassed sh c (drop c.at xs)
  took = subst (λ (s : Shape). ItemPassed s c (drop c.at xs)) e (step-taken xs i c h o)

  -- an item that takes bytes has them
  pub has : (k : ℕ) → span sh c (length (drop c.at xs)) ≡ k → 1 ≤ k → c.at + k ≤ length xs
  has k s p = let t = took.there in let d = length-drop c.at xs in omega (arith, t, s, d)

module _ (xs : List ℕ) (i : Item) (c : Cursor) (h : (step xs i c).why ≡ 0) (o : i.on ≡ true) where
  pub has-number : (w : Width) → i.shape ≡ Number w → c.at + bytes w ≤ length xs
  unfolding span
  has-number w e = has xs i c (Number w) h o e (bytes w) refl (positive w)

  pub has-count : (w : Width) → i.shape ≡ Count w → c.at + bytes w ≤ length xs
  unfolding span
  has-count w e = has xs i c (Count w) h o e (bytes w) refl (positive w)

  pub has-size : (w : Width) → i.shape ≡ Size w → c.at + bytes w ≤ length xs
  unfolding span
  has-size w e = has xs i c (Size w) h o e (bytes w) refl (positive w)

  pub has-abi : (m : ℕ) → i.shape ≡ Abi m → c.at + 8 ≤ length xs
  unfolding span
  has-abi m e = has xs i c (Abi m) h o e 8 refl (omega arith)

  pub has-limit : (k : ℕ) → i.shape ≡ Limit k → c.at + 1 ≤ length xs
  unfolding span
  has-limit k e = has xs i c (Limit k) h o e 1 refl (omega arith)

  pub has-filled : i.shape ≡ Filled → (c.n ≡ 0 → ⊥) → c.at + 8 ≤ length xs
  unfolding span
  has-filled e n = has xs i c Filled h o e 8 (rw (ne_eqb c.n 0 n)) (omega arith)

  -- a name that is accepted has a zero, and so it has room
  pub has-name : i.shape ≡ Name → c.at ≤ length xs
  unfolding span rule
  has-name e =
      let t = took xs i c Name h o e in
      let ys : List ℕ = part Name c (drop c.at xs) in
      let u = and-true (ltb (zero_in ys) (length ys)) (leb (length ys) (zero_in ys + 8)) (unbroken _ 33 (omega arith) t.kept) in
      let z = ltb-true (zero_in ys) (length ys) u.0 in
      let l : length ys ≡ length (drop c.at xs) = t.long in
      let d = length-drop c.at xs in
      omega (arith, z, l, d)

-- ---- the words of each kind of shape

blanks : (sh : Shape) → tell sh (slot 0 0 0) ≡ zeros (words_of sh)
unfolding tell
blanks (Number w) = refl
blanks (Ignored k) = refl
blanks (Count w) = refl
blanks (Size w) = refl
blanks (Times k) = refl
blanks (Earlier k) = refl
blanks Registers = refl
blanks Filled = refl
blanks (Abi m) = refl
blanks (Limit k) = refl
blanks (Listed k) = refl
blanks (Bytes k) = refl
blanks Pad = refl
blanks Name = refl

-- as many zeros as a shape has words, by their number
pub blank-is : (sh : Shape) (n : ℕ) → n ≡ words_of sh → zeros n ≡ tell sh (slot 0 0 0)
blank-is sh n e = ap zeros e ∙ sym (blanks sh)

-- an item that is not selected tells those
pub told-off : (xs : List ℕ) (i : Item) (c : Cursor) → i.on ≡ false → tell i.shape (slot 0 0 0) ≡ tell i.shape (slot_item xs i c)
told-off xs i c o = rw o

-- the words of a selected item are its shape's, of its own bytes
pub told-on : (xs : List ℕ) (i : Item) (c : Cursor) (sh : Shape) → i.on ≡ true → i.shape ≡ sh
    → tell sh (slot_shape sh c (part sh c (drop c.at xs))) ≡ tell i.shape (slot_item xs i c)
told-on xs i c sh o e = rw (o, e)
