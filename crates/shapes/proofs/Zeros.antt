-- The first zero of a list is where a search for one ends, or the list's length. Assumes nothing.
use Rattle.std.specs.Prelude.{◌≡◌, refl, ℕ, ◌≤◌, Bool, true, false, cond, not, List, length, Option, Some, None, eqb, ltb}
use Rattle.std.proofs.Common.{sym, ap, ◌∙◌, arith}
use Rattle.std.specs.List.{position_or_len}
use Rattle.std.specs.Option.{unwrap_or}
use Rattle.std.proofs.lemmas.Bool.{ltb-false}
use Rattle.std.proofs.lemmas.List.Recursion.{is_position_or_len}
use Rattle.std.proofs.lemmas.List.Sums.{prefix_len-le-length}
use Rattle.meaning.specs.Bytes.{zero_in}

abbrev pub is_zero : ℕ → Bool
is_zero x = eqb x 0

pub zero-position : (ys : List ℕ) → zero_in ys ≡ position_or_len is_zero ys
unfolding zero_in
zero-position ys = is_position_or_len zero_in is_zero refl (λ x xs. ap (λ (n : ℕ). cond (is_zero x) 0 n) (omega arith)) ys

pub zero-most : (ys : List ℕ) → zero_in ys ≤ length ys
zero-most ys = let e = zero-position ys in let h : position_or_len is_zero ys ≤ length ys = prefix_len-le-length (λ x. not (is_zero x)) ys in omega (arith, e, h)

else-end : (p n : ℕ) → p ≤ n → (t : Bool) → ltb p n ≡ t → unwrap_or (cond t (Some p) None) n ≡ p
else-end p n h true e = refl
else-end p n h false e = let g = ltb-false p n e in omega (arith, g, h)

pub zero-found : (ys : List ℕ) (r : Option ℕ) → r ≡ cond (ltb (position_or_len is_zero ys) (length ys)) (Some (position_or_len is_zero ys)) None
    → unwrap_or r (length ys) ≡ zero_in ys
zero-found ys r e =
    ap (λ (o : Option ℕ). unwrap_or o (length ys)) e
    ∙ else-end (position_or_len is_zero ys) (length ys) (prefix_len-le-length (λ x. not (is_zero x)) ys) _ refl
    ∙ sym (zero-position ys)
