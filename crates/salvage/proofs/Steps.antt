-- A step of a salvage: what is kept is an accepted record, and an accepted record is kept. Assumes nothing.
use Rattle.std.specs.Prelude.{◌≡◌, refl, Bool, true, false, ◌&&◌, List, [], ◌∷◌, ◌++◌, ℕ, zero, suc, ◌+◌, ◌%◌, ◌<◌, ◌≤◌, leb, eqb, length, take, drop}
use Rattle.std.proofs.Common.{sym, ap, ◌∙◌, subst, arith, le-leb, eq-eqb, leb-true, eqb-true, length-append, length-drop, length-take-le, take_at}
use Rattle.meaning.specs.Bytes.{num}
use Rattle.meaning.specs.Records.{size_of}
use Rattle.laws.specs.Bytes.{and-true, true-and, nil-of}
use Rattle.laws.specs.Put.{take_within}
use Rattle.runs.specs.Cutting.{framed}
use Rattle.runs.proofs.Streams.{framed-says, says-framed, framed-size}
use Rattle.salvage.specs.Salvage.{keeps, step, Piece, piece, pieces}

-- one record, and accepted
pub record Accepted (judge : List ℕ → ℕ) (r : List ℕ) : Type 0 where
  pub frame : framed r ≡ true
  pub body : judge r ≡ 0

abbrev pub AllAccepted : (List ℕ → ℕ) → List (List ℕ) → Type 0
AllAccepted judge [] = Unit {0}
AllAccepted judge (r ∷ rs) = Accepted judge r × AllAccepted judge rs

-- ---- what is kept

pub record Kept (judge : List ℕ → ℕ) (left : List ℕ) : Type 0 where
  pub low : 8 ≤ size_of left
  pub eight : size_of left % 8 ≡ 0
  pub inside : size_of left ≤ length left
  pub body : judge (take (size_of left) left) ≡ 0

pub keeps-says : (judge : List ℕ → ℕ) (left : List ℕ) → keeps judge left ≡ true → Kept judge left
unfolding keeps
keeps-says judge left h =
    let n : ℕ = size_of left in
    let s = and-true (leb 8 n && eqb (n % 8) 0) (leb n (length left) && eqb (judge (take n left)) 0) h in
    let a = and-true (leb 8 n) (eqb (n % 8) 0) s.0 in
    let b = and-true (leb n (length left)) (eqb (judge (take n left)) 0) s.1 in
    record { low = leb-true 8 n a.0; eight = eqb-true (n % 8) 0 a.1; inside = leb-true n (length left) b.0; body = eqb-true (judge (take n left)) 0 b.1 }

pub says-keeps : (judge : List ℕ → ℕ) (left : List ℕ) → Kept judge left → keeps judge left ≡ true
unfolding keeps
says-keeps judge left k =
    let n : ℕ = size_of left in
    true-and (leb 8 n && eqb (n % 8) 0) (leb n (length left) && eqb (judge (take n left)) 0)
    (true-and (leb 8 n) (eqb (n % 8) 0) (le-leb 8 n k.low) (eq-eqb (n % 8) 0 k.eight))
    (true-and (leb n (length left)) (eqb (judge (take n left)) 0) (le-leb n (length left) k.inside) (eq-eqb (judge (take n left)) 0 k.body))

-- what is kept is one record, and accepted
pub kept-accepted : (judge : List ℕ → ℕ) (left : List ℕ) → keeps judge left ≡ true → Accepted judge (take (size_of left) left)
unfolding size_of
kept-accepted judge left h =
    let k = keeps-says judge left h in
    let n : ℕ = size_of left in
    let low : 8 ≤ n = k.low in
    let l : length (take n left) ≡ n = length-take-le n left k.inside in
    let z : size_of (take n left) ≡ n = ap num (take_within 2 6 n left (omega arith)) in
    record { frame = says-framed (take n left) (omega arith) (ap (λ (m : ℕ). m % 8) z ∙ k.eight) (z ∙ sym l); body = k.body }

-- an accepted record is kept, whatever follows it
pub accepted-kept : (judge : List ℕ → ℕ) (r rest : List ℕ) → Accepted judge r → keeps judge (r ++ rest) ≡ true
accepted-kept judge r rest a =
    let f = framed-says r a.frame in
    let low : 8 ≤ length r = f.low in
    let z : size_of (r ++ rest) ≡ length r = framed-size r rest a.frame in
    says-keeps judge (r ++ rest)
    (record {
      low = omega arith;
      eight = ap (λ (m : ℕ). m % 8) (z ∙ sym f.size) ∙ f.eight;
      inside = omega (arith, length-append r rest);
      body = ap judge (take_at r rest (size_of (r ++ rest)) (sym z)) ∙ a.body;
    })

-- ---- a step

pub step_kept : (judge : List ℕ → ℕ) (left : List ℕ) → keeps judge left ≡ true → step judge left ≡ size_of left
unfolding step
step_kept judge left h = simp h

pub step-dropped : (judge : List ℕ → ℕ) (left : List ℕ) → keeps judge left ≡ false → step judge left ≡ 8
unfolding step
step-dropped judge left h = simp h

pub step-low : (judge : List ℕ → ℕ) (left : List ℕ) → 8 ≤ step judge left
step-low judge left = by (keeps judge left) refl
  where
    by : (b : Bool) → keeps judge left ≡ b → 8 ≤ step judge left
    by true e = omega (arith, step_kept judge left e, (keeps-says judge left e).low)
    by false e = omega (arith, step-dropped judge left e)

pub pieces-turn : (judge : List ℕ → ℕ) (n : ℕ) (left : List ℕ) → 0 < length left
    → pieces judge (suc n) left ≡ piece (keeps judge left) (take (step judge left) left) ∷ pieces judge n (drop (step judge left) left)
unfolding pieces
pieces-turn judge n [] h = absurd (omega arith)
pieces-turn judge n (x ∷ xs) h = refl

pub pieces_end : (judge : List ℕ → ℕ) (n : ℕ) → pieces judge n [] ≡ []
unfolding pieces
pieces_end judge zero = refl
pieces_end judge (suc n) = refl

-- ---- by induction over the steps: what holds of no steps, and of a step and those after it, holds of all. P takes the bytes left and their steps
pub steps : (judge : List ℕ → ℕ) (P : List ℕ → List Piece → Type 0) → P [] []
    → ((left : List ℕ) (ps : List Piece) → 0 < length left → P (drop (step judge left) left) ps
    → P left (piece (keeps judge left) (take (step judge left) left) ∷ ps))
    → (n : ℕ) (left : List ℕ) → length left ≤ n → P left (pieces judge n left)
unfolding pieces
steps judge P none more zero left h = subst (λ (l : List ℕ). P l []) (nil-of left (omega arith)) none
steps judge P none more (suc n) left h = by left h (λ l g. steps judge P none more n l g)
  where
    by : (left : List ℕ) → length left ≤ suc n → ((l : List ℕ) → length l ≤ n → P l (pieces judge n l)) → P left (pieces judge (suc n) left)
    by [] g next = none
    by (x ∷ xs) g next =
        let k : ℕ = step judge (x ∷ xs) in
        more (x ∷ xs) (pieces judge n (drop k (x ∷ xs))) (omega arith)
        (next (drop k (x ∷ xs)) (omega (arith, length-drop k (x ∷ xs), step-low judge (x ∷ xs))))
