-- The laws of `put`: bytes put into a buffer, at any place and in any number. And two of parts: a part of a part is a part of the whole. Assumes nothing.
use Rattle.std.specs.Prelude.{◌≡◌, refl, List, [], ◌∷◌, ◌++◌, ℕ, zero, suc, ◌+◌, ◌<◌, ◌≤◌, length, get_or, take, drop, set}
use Rattle.std.proofs.Common.{sym, ap, ◌∙◌, append_assoc, append-nil, ⊎_elim, add-zero, zero-add, add-one, arith, le-leb, length-append, length-drop, take-append-drop, drop-cons, length-take-le, take_at, drop_at, take-take, drop-drop}
use Rattle.std.proofs.lemmas.Bool.{lt-leb}
use Rattle.std.proofs.lemmas.List.{set_at}
use Rattle.std.proofs.Math.Seq.{append_snoc}
use Rattle.meaning.specs.Bytes.{put}
use Rattle.laws.specs.Bytes.{le-or-lt}

pub put-fits : (d : List ℕ) (at : ℕ) (s : List ℕ) → at + length s ≤ length d → put d at s ≡ take at d ++ s ++ drop (at + length s) d
unfolding put
put-fits d at s h = simp (le-leb _ _ h)

pub put-not : (d : List ℕ) (at : ℕ) (s : List ℕ) → length d < at + length s → put d at s ≡ d
unfolding put
put-not d at s h = simp (lt-leb _ _ h)

pub length-head : (d : List ℕ) (at : ℕ) (s : List ℕ) → at ≤ length d → length (take at d ++ s) ≡ at + length s
length-head d at s h = length-append (take at d) s ∙ ap (λ (k : ℕ). k + length s) (length-take-le at d h)

pub put-nil : (d : List ℕ) (at : ℕ) → at ≤ length d → put d at [] ≡ d
put-nil d at h =
    put-fits d at [] (omega arith)
    ∙ ap (λ (k : ℕ). take at d ++ [] ++ drop k d) (add-zero at)
    ∙ ap (λ (r : List ℕ). r ++ drop at d) (append-nil (take at d))
    ∙ take-append-drop at d

pub length-put : (d : List ℕ) (at : ℕ) (s : List ℕ) → length (put d at s) ≡ length d
length-put d at s =
    ⊎_elim
    (λ (h : at + length s ≤ length d).
    ap length (put-fits d at s h)
    ∙ length-append (take at d ++ s) (drop (at + length s) d)
    ∙ omega (arith, length-head d at s (omega arith), length-drop (at + length s) d))
    (λ (h : length d < at + length s). ap length (put-not d at s h))
    (le-or-lt (at + length s) (length d))

-- one more byte
pub put-snoc : (d : List ℕ) (at : ℕ) (s : List ℕ) (v : ℕ) → at + length s < length d
    → set (put d at s) (at + length s) v ≡ put d at (s ++ (v ∷ []))
put-snoc d at s v h =
    let n : ℕ = at + length s in
    let e : length (s ++ (v ∷ [])) ≡ suc (length s) = length-append s (v ∷ []) ∙ add-one (length s) in
    let f : suc n ≡ at + length (s ++ (v ∷ [])) = omega arith in
    ap (λ (l : List ℕ). set l n v) (put-fits d at s (omega arith))
    ∙ ap (λ (r : List ℕ). set (take at d ++ s ++ r) n v) (drop-cons d n 0 h)
    ∙ set_at (take at d ++ s) (get_or d n 0) (drop (suc n) d) v n (length-head d at s (omega arith))
    ∙ sym (append_snoc (take at d ++ s) v (drop (suc n) d))
    ∙ ap (λ (r : List ℕ). r ++ drop (suc n) d) (append_assoc (take at d) s (v ∷ []))
    ∙ ap (λ (k : ℕ). take at d ++ (s ++ (v ∷ [])) ++ drop k d) f
    ∙ sym (put-fits d at (s ++ (v ∷ [])) (omega (arith, e)))

-- one word, and two
pub put_one : (d : List ℕ) (at v : ℕ) → at < length d → set d at v ≡ put d at (v ∷ [])
put_one d at v h =
    ap (λ (l : List ℕ). set l at v) (sym (put-nil d at (omega arith)))
    ∙ ap (λ (n : ℕ). set (put d at []) n v) (sym (add-zero at))
    ∙ put-snoc d at [] v (omega arith)

pub put_two : (d : List ℕ) (at v w : ℕ) → at + 1 < length d → set (set d at v) (at + 1) w ≡ put d at (v ∷ w ∷ [])
put_two d at v w h = ap (λ (l : List ℕ). set l (at + 1) w) (put_one d at v (omega arith)) ∙ put-snoc d at (v ∷ []) w h

-- two runs, the second right after the first, are one
pub put-put : (d : List ℕ) (at : ℕ) (s t : List ℕ) → at + length s + length t ≤ length d
    → put (put d at s) (at + length s) t ≡ put d at (s ++ t)
put-put d at s t h =
    let n : ℕ = at + length s in
    let q : length (s ++ t) ≡ length s + length t = length-append s t in
    let f : n + length t ≡ at + length (s ++ t) = omega arith in
    let e : put d at s ≡ take at d ++ s ++ drop n d = put-fits d at s (omega arith) in
    put-fits (put d at s) n t (omega (arith, length-put d at s))
    ∙ ap (λ (l : List ℕ). take n l ++ t ++ drop (n + length t) l) e
    ∙ ap (λ (l : List ℕ). l ++ t ++ drop (n + length t) (take at d ++ s ++ drop n d)) (take_at (take at d ++ s) (drop n d) n (length-head d at s (omega arith)))
    ∙ ap (λ (l : List ℕ). take at d ++ s ++ t ++ l)
    (sym (drop-drop (length t) n (take at d ++ s ++ drop n d))
    ∙ ap (λ (l : List ℕ). drop (length t) l) (drop_at (take at d ++ s) (drop n d) n (length-head d at s (omega arith)))
    ∙ drop-drop (length t) n d)
    ∙ ap (λ (l : List ℕ). l ++ drop (n + length t) d) (append_assoc (take at d) s t)
    ∙ ap (λ (k : ℕ). take at d ++ (s ++ t) ++ drop k d) f
    ∙ sym (put-fits d at (s ++ t) (omega (arith, q)))

-- bytes put at the start: there they stand, and what follows is as it was
pub put-start : (d s : List ℕ) → length s ≤ length d → put d 0 s ≡ s ++ drop (length s) d
put-start d s h = put-fits d 0 s (omega arith) ∙ ap (λ (k : ℕ). s ++ drop k d) (zero-add (length s))

-- what was put is read back
pub put-there : (d : List ℕ) (at : ℕ) (s : List ℕ) → at + length s ≤ length d → take (length s) (drop at (put d at s)) ≡ s
put-there d at s h =
    ap (λ (l : List ℕ). take (length s) (drop at l)) (put-fits d at s h ∙ append_assoc (take at d) s (drop (at + length s) d))
    ∙ ap (take (length s)) (drop_at (take at d) (s ++ drop (at + length s) d) at (length-take-le at d (omega arith)))
    ∙ take_at s (drop (at + length s) d) (length s) refl

-- ---- a part of a part is a part of the whole
pub take_within : (w k n : ℕ) (l : List ℕ) → k + w ≤ n → take w (drop k (take n l)) ≡ take w (drop k l)
take_within w zero n l h = take-take w n l (omega arith)
take_within w (suc k) zero l h = absurd (omega arith)
take_within w (suc k) (suc n) [] h = refl
take_within w (suc k) (suc n) (x ∷ l) h = take_within w k n l (omega arith)

pub part_of : (at m n k : ℕ) (l : List ℕ) → m + n ≤ k → take n (drop m (take k (drop at l))) ≡ take n (drop (at + m) l)
part_of at m n k l h = take_within n m k (drop at l) h ∙ ap (take n) (drop-drop m at l)
