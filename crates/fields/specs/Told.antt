-- The words of an item as a value, and that they are the item's words. Assumes nothing.
use Rattle.std.specs.Prelude.{◌≡◌, List, [], ◌∷◌, ℕ, ◌≤◌, length}
use Rattle.std.proofs.Common.{ap, ◌∙◌, arith}
use Rattle.meaning.specs.declared.Shape.{Shape}
use Rattle.meaning.specs.declared.Shape.TheVariants.{Number, Ignored, Count, Size, Times, Earlier, Registers, Filled, Abi, Limit, Listed, Bytes, Pad, Name}
use Rattle.meaning.specs.Values.{Slot, tell, words_of}
use Rattle.laws.specs.Words.{tell-length}
use Rattle.fields.specs.declared.Words.{Words}
use Rattle.fields.specs.declared.Words.TheVariants.{None, One, Two}

-- the words, in order
abbrev pub words_in : Words → List ℕ
words_in None = []
words_in (One first) = first ∷ []
words_in (Two first second) = first ∷ second ∷ []

-- a shape has at most two words
pub words-most : (sh : Shape) → words_of sh ≤ 2
unfolding tell
words-most (Number w) = omega arith
words-most (Ignored k) = omega arith
words-most (Count w) = omega arith
words-most (Size w) = omega arith
words-most (Times k) = omega arith
words-most (Earlier k) = omega arith
words-most Registers = omega arith
words-most Filled = omega arith
words-most (Abi m) = omega arith
words-most (Limit k) = omega arith
words-most (Listed k) = omega arith
words-most (Bytes k) = omega arith
words-most Pad = omega arith
words-most Name = omega arith

-- what a caller wants of `told` beside the words themselves: how many they are
pub record Tells (r : Words) (sh : Shape) (s : Slot) : Type 0 where
  pub held : words_in r ≡ tell sh s
  pub count : length (words_in r) ≡ words_of sh
  pub most : length (words_in r) ≤ 2

pub told-words : (r : Words) (sh : Shape) (s : Slot) → words_in r ≡ tell sh s → Tells r sh s
told-words r sh s e =
    let k : length (words_in r) ≡ words_of sh = ap (λ (ws : List ℕ). length ws) e ∙ tell-length sh s in
    let m = words-most sh in
    record { held = e; count = k; most = omega (arith, k, m) }
