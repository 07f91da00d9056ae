-- The layouts of every edition and all attributes are sound: with it both round trips and the exact 42 (Whole) hold of them. Assumes nothing.
use Rattle.std.specs.Prelude.{◌≡◌, refl, ℕ, zero, suc, ◌+◌, ◌%◌, Bool, true, false, not, ◌&&◌, cond, List, [], ◌∷◌, get_or, eqb}
use Rattle.std.proofs.Common.{arith}
use Rattle.meaning.specs.Bytes.{bit}
use Rattle.meaning.specs.declared.Attributes.{Attributes}
use Rattle.meaning.specs.declared.Item.{Item}
use Rattle.meaning.specs.Writing.{ends, ends_last}
use Rattle.meaning.specs.Records.{layout, fixed_shape, fixed, room_shape, room}
use Rattle.meaning.specs.declared.Known.{Known}
use Rattle.meaning.specs.Schema.{schemas, trailer}
use Rattle.laws.specs.Bytes.{and-true}
use Rattle.laws.specs.Whole.{SoundLayout}

every : List (List Item) → Bool
every [] = true
every (is ∷ ls) = ends_last is && every ls

one_of : (ls : List (List Item)) (k : ℕ) → every ls ≡ true → ends_last (get_or ls k []) ≡ true
unfolding every ends_last
one_of [] k h = refl
one_of (is ∷ ls) zero h = (and-true (ends_last is) (every ls) h).0
one_of (is ∷ ls) (suc k) h = one_of ls k (and-true (ends_last is) (every ls) h).1

-- the whole table at once, for all misc and attributes
names-last : (misc : ℕ) (a : Attributes) → every (schemas misc a) ≡ true
unfolding every ends_last ends
names-last misc a = refl

pub trailer-fixed : (kind : ℕ) (a : Attributes) → fixed (trailer kind a) ≡ true
unfolding fixed fixed_shape
trailer-fixed kind a = refl

-- a multiple of 8: shut, so that `_` stands for the number
Eights : ℕ → Type 0
Eights n = n % 8 ≡ 0

two : (b : Bool) (n : ℕ) → Eights n → Eights (cond b 4 0 + (cond b 4 0 + n))
unfolding Eights
two true n h = omega (arith, h)
two false n h = omega (arith, h)

word : (b : Bool) (n : ℕ) → Eights n → Eights (cond b 8 0 + n)
unfolding Eights
word true n h = omega (arith, h)
word false n h = omega (arith, h)

none : Eights 0
unfolding Eights
none = refl

six : (b₁ b₂ b₃ b₄ b₅ b₆ : Bool) → Eights (cond b₁ 4 0 + (cond b₁ 4 0 + (cond b₂ 8 0 + (cond b₃ 8 0 + (cond b₄ 8 0 + (cond b₅ 4 0 + (cond b₅ 4 0 + (cond b₆ 8 0 + 0))))))))
six b₁ b₂ b₃ b₄ b₅ b₆ = two b₁ _ (word b₂ _ (word b₃ _ (word b₄ _ (two b₅ _ (word b₆ _ none)))))

pub trailer-eights : (kind : ℕ) (a : Attributes) → room (trailer kind a) % 8 ≡ 0
unfolding room room_shape Eights
trailer-eights kind a = six (on 1) (on 2) (on 6) (on 9) (on 7) (on 16)
  where
    on : ℕ → Bool
    on b = a.all && not (eqb kind 9) && bit a.sample b

pub sound : (k : Known) (a : Attributes) → SoundLayout (layout k a)
unfolding layout
sound k a = record { last = λ kind misc. one_of (schemas misc a) kind (names-last misc a); plain = λ kind. trailer-fixed kind a; whole = λ kind. trailer-eights kind a }
