-- Identifiers that rise are distinct. Assumes nothing.
use Rattle.std.specs.Prelude.{◌≡◌, refl, Bool, true, false, not, ◌&&◌, ◌||◌, List, [], ◌∷◌, ℕ, ◌<◌, ◌≤◌, ltb}
use Rattle.std.proofs.Common.{ap, ◌∙◌, arith, ne_eqb, ltb-true}
use Rattle.meaning.specs.Editions.{is_in}
use Rattle.meaning.specs.Events.{distinct}
use Rattle.laws.specs.Bytes.{and-true, true-and}

-- each exceeds the one before it
unfoldable pub rises : List ℕ → Bool
rises [] = true
rises (x ∷ []) = true
rises (x ∷ y ∷ l) = ltb x y && rises (y ∷ l)

below_out : (x y : ℕ) (l : List ℕ) → rises (x ∷ l) ≡ true → y ≤ x → is_in y l ≡ false
unfolding rises
below_out x y [] r h = refl
below_out x y (z ∷ l) r h =
    let p = and-true (ltb x z) (rises (z ∷ l)) r in
    let q : x < z = ltb-true x z p.0 in
    ap (λ (b : Bool). b || is_in y l) (ne_eqb y z (λ e. omega arith)) ∙ below_out z y l p.1 (omega arith)

rises-tail : (x : ℕ) (l : List ℕ) → rises (x ∷ l) ≡ true → rises l ≡ true
unfolding rises
rises-tail x [] r = refl
rises-tail x (z ∷ l) r = (and-true (ltb x z) (rises (z ∷ l)) r).1

pub rises-distinct : (l : List ℕ) → rises l ≡ true → distinct l ≡ true
unfolding distinct
rises-distinct [] r = refl
rises-distinct (x ∷ l) r =
    true-and (not (is_in x l)) (distinct l) (ap not (below_out x x l r (omega arith))) (rises-distinct l (rises-tail x l r))
