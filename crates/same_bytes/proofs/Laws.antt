-- What `==` of two slices of bytes says, in the words of the definitions. Assumes nothing.
use Rattle.std.proofs.Common.{◌≡◌, refl, ap, Bool, ◌&&◌, ℕ, List, [], ◌∷◌, nat_eq}
use lib.Pointwise.{pointwise}
use Rattle.compare.specs.Compared.{same_bytes}

pub each-byte : (xs ys : List ℕ) → pointwise nat_eq xs ys ≡ same_bytes xs ys
unfolding same_bytes
each-byte [] [] = refl
each-byte [] (y ∷ ys) = refl
each-byte (x ∷ xs) [] = refl
each-byte (x ∷ xs) (y ∷ ys) = ap (λ (rest : Bool). nat_eq x y && rest) (each-byte xs ys)
