-- Numbers put byte by byte. Assumes nothing.
use mathlib.Core.Path.{◌≡◌, sym, ap, ap₂, ◌∙◌}
use mathlib.Core.List.{List, [], ◌∷◌, ◌++◌}
use Prim.Native.Nat.{ℕ, ◌+◌, ◌/◌, ◌%◌, ◌≤◌}
use native.Mathlib.Omega.{arith}
use lib.ListN.{length, take, drop, set, length-drop}
use lib.Seq.{length-take-le}
use Rattle.meaning.specs.Bytes.{spell, put}
use Rattle.laws.specs.Put.{put_one, put-snoc, put-put}

pub put_byte : (d : List ℕ) (at x : ℕ) → at + 1 ≤ length d → set d at (x % 256) ≡ put d at (spell 1 x)
unfolding spell
put_byte d at x h = put_one d at (x % 256) (omega (arith, h))

pub put_two : (d : List ℕ) (at x : ℕ) → at + 2 ≤ length d → set (set d at (x % 256)) (at + 1) (x / 256 % 256) ≡ put d at (spell 2 x)
unfolding spell
put_two d at x h = ap (λ (l : List ℕ). set l (at + 1) (x / 256 % 256)) (put_one d at (x % 256) (omega (arith, h))) ∙ put-snoc d at (x % 256 ∷ []) (x / 256 % 256) (omega (arith, h))

-- two runs, one after the other
pub two-puts : (d d₁ d₂ : List ℕ) (at k : ℕ) (s t r : List ℕ) → length s ≡ k → d₁ ≡ put d at s → d₂ ≡ put d₁ (at + k) t → at + (k + length t) ≤ length d → s ++ t ≡ r → d₂ ≡ put d at r
two-puts d d₁ d₂ at k s t r l e₁ e₂ h e =
    e₂ ∙ ap₂ (λ (x : List ℕ) (n : ℕ). put x (at + n) t) e₁ (sym l) ∙ put-put d at s t (omega (arith, h, l)) ∙ ap (put d at) e

pub halves4 : (x : ℕ) → spell 2 x ++ spell 2 (x / 65536) ≡ spell 4 x
unfolding spell
halves4 x =
    let a : x / 65536 ≡ x / 256 / 256 = omega arith in
    ap (λ (y : ℕ). x % 256 ∷ x / 256 % 256 ∷ y % 256 ∷ y / 256 % 256 ∷ []) a

pub halves8 : (x : ℕ) → spell 4 x ++ spell 4 (x / 4294967296) ≡ spell 8 x
unfolding spell
halves8 x =
    let a : x / 4294967296 ≡ x / 256 / 256 / 256 / 256 = omega arith in
    ap (λ (y : ℕ). x % 256 ∷ x / 256 % 256 ∷ x / 256 / 256 % 256 ∷ x / 256 / 256 / 256 % 256 ∷ y % 256 ∷ y / 256 % 256 ∷ y / 256 / 256 % 256 ∷ y / 256 / 256 / 256 % 256 ∷ []) a

-- a part that lies inside
pub part-long : (src : List ℕ) (place n : ℕ) → place + n ≤ length src → length (take n (drop place src)) ≡ n
part-long src place n h = let d = length-drop place src in length-take-le n (drop place src) (omega (arith, d, h))
