-- The list of holes: longest runs, ascending, apart, inside the input; the output is the input without them. Assumes nothing.
use Rattle.std.specs.Prelude.{◌≡◌, refl, Bool, true, false, cond, ℕ, ◌+◌, ◌-◌, ◌<◌, ◌≤◌, eqb, take, drop}
use Rattle.std.proofs.Math.Path.{sym, ap}
use Rattle.std.proofs.Common.{◌∙◌, subst, arith, eq-eqb, ne_eqb, eqb-true, take-append-drop, drop-drop, take-add}
use mathlib.Core.List.{List, [], ◌∷◌, ◌++◌, append_assoc}
use Rattle.std.proofs.lemmas.Bool.{eqb-false}
use Rattle.std.proofs.Math.ListN.{length, length-append}
use Rattle.std.proofs.Math.Seq.{take-append_seam, drop-append_seam}
use Rattle.laws.specs.Bytes.{take-length-by}
use Rattle.runs.proofs.Streams.{joined}
use Rattle.salvage.specs.Salvage.{keeps, step, Piece, piece, pieces, kept_in, Run, run, join, holes_in, dropped}
use Rattle.salvage.proofs.Steps.{Accepted, AllAccepted, kept-accepted, step_kept, step-low, steps}

-- holes from a place on, before an end: none is empty, each starts after the last one's end and does not touch it
abbrev pub Spaced : ℕ → List Run → ℕ → Type 0
Spaced low [] end = Unit {0}
Spaced low (h ∷ hs) end = (low ≤ h.start) × (0 < h.length) × (h.start + h.length ≤ end) × Spaced (h.start + h.length + 1) hs end

-- the bytes from a place on without the holes
unfoldable pub without : ℕ → List Run → List ℕ → List ℕ
without at [] xs = xs
without at (h ∷ hs) xs = take (h.start - at) xs ++ without (h.start + h.length) hs (drop (h.start - at + h.length) xs)

-- ---- a hole that is joined to those that follow

module _ (start n : ℕ) (h : Run) (hs : List Run) where
  pub join-touching : h.start ≡ start + n → join start n (h ∷ hs) ≡ run start (n + h.length) ∷ hs
  unfolding join
  join-touching e = simp (eq-eqb h.start (start + n) e)

  pub join_apart : (h.start ≡ start + n → ⊥) → join start n (h ∷ hs) ≡ run start n ∷ h ∷ hs
  unfolding join
  join_apart e = simp (ne_eqb h.start (start + n) e)

-- bytes dropped one after the other are one run
pub join-join : (start n m : ℕ) (hs : List Run) → 0 < m → join start n (join (start + n) m hs) ≡ join start (n + m) hs
unfolding join
join-join start n m [] p = simp (eq-eqb (start + n) (start + n) refl)
join-join start n m (h ∷ hs) p = by (eqb h.start (start + n + m)) refl
  where
    a : start + n + m ≡ start + (n + m)
    a = omega arith

    by : (b : Bool) → eqb h.start (start + n + m) ≡ b
        → join start n (cond (eqb h.start (start + n + m)) (run (start + n) (m + h.length) ∷ hs) (run (start + n) m ∷ h ∷ hs)) ≡ join start (n + m) (h ∷ hs)
    by true e =
        let f : h.start ≡ start + (n + m) = eqb-true h.start (start + n + m) e ∙ a in
        let g : n + (m + h.length) ≡ n + m + h.length = omega arith in
        ap (λ (b : Bool). join start n (cond b (run (start + n) (m + h.length) ∷ hs) (run (start + n) m ∷ h ∷ hs))) e
        ∙ join-touching start n (run (start + n) (m + h.length)) hs refl
        ∙ ap (λ (k : ℕ). run start k ∷ hs) g
        ∙ sym (join-touching start (n + m) h hs f)
    by false e =
        let f : h.start ≡ start + (n + m) → ⊥ = λ (q : h.start ≡ start + (n + m)). eqb-false h.start (start + n + m) e (q ∙ sym a) in
        ap (λ (b : Bool). join start n (cond b (run (start + n) (m + h.length) ∷ hs) (run (start + n) m ∷ h ∷ hs))) e
        ∙ join-touching start n (run (start + n) m) (h ∷ hs) refl
        ∙ sym (join_apart start (n + m) h hs f)

-- the first hole does not start at a place
abbrev pub Away : ℕ → List Run → Type 0
Away at [] = Unit {0}
Away at (h ∷ hs) = h.start ≡ at → ⊥

-- what holds of a joined list where it holds in both cases
pub joins : (start n : ℕ) (hs : List Run) (P : List Run → Type 0)
    → ((h : Run) (rest : List Run) → hs ≡ h ∷ rest → h.start ≡ start + n → P (run start (n + h.length) ∷ rest))
    → (Away (start + n) hs → P (run start n ∷ hs))
    → P (join start n hs)
unfolding join
joins start n [] P touching away = away tt
joins start n (h ∷ hs) P touching away = by (eqb h.start (start + n)) refl
  where
    by : (b : Bool) → eqb h.start (start + n) ≡ b → P (cond b (run start (n + h.length) ∷ hs) (run start n ∷ h ∷ hs))
    by true e = touching h hs refl (eqb-true h.start (start + n) e)
    by false e = away (eqb-false h.start (start + n) e)

-- ---- sums

join-dropped : (start n : ℕ) (hs : List Run) → dropped (join start n hs) ≡ n + dropped hs
unfolding dropped
join-dropped start n hs =
    joins start n hs (λ l. dropped l ≡ n + dropped hs)
    (λ h rest e f. let g : dropped hs ≡ h.length + dropped rest = ap dropped e in omega arith)
    (λ a. refl)

-- ---- longest runs, ascending, apart

spaced-lower : (low at end : ℕ) (hs : List Run) → low ≤ at → Spaced at hs end → Spaced low hs end
spaced-lower low at end [] h s = tt
spaced-lower low at end (x ∷ hs) h s = let g = s.0 in (omega arith, s.1, s.2, s.3)

spaced-away : (at end : ℕ) (hs : List Run) → Away at hs → Spaced at hs end → Spaced (at + 1) hs end
spaced-away at end [] a s = tt
spaced-away at end (x ∷ hs) a s = let g = s.0 in (above x.start a g, s.1, s.2, s.3)
  where
    above : (k : ℕ) → (k ≡ at → ⊥) → at ≤ k → at + 1 ≤ k
    above k f h = by (eqb k at) refl
      where
        by : (b : Bool) → eqb k at ≡ b → at + 1 ≤ k
        by true e = absurd (f (eqb-true k at e))
        by false e = omega (arith, eqb-false k at e)

spaced-join : (at n end : ℕ) (hs : List Run) → 0 < n → at + n ≤ end → Spaced (at + n) hs end → Spaced at (join at n hs) end
spaced-join at n end hs p q s =
    joins at n hs (λ l. Spaced at l end)
    (λ h rest e f.
    let t : Spaced (at + n) (h ∷ rest) end = subst (λ (l : List Run). Spaced (at + n) l end) e s in
    let r = t.2 in
    let k : h.start + h.length + 1 ≡ at + (n + h.length) + 1 = omega arith in
    (omega arith, omega arith, omega arith, subst (λ (m : ℕ). Spaced m rest end) k t.3))
    (λ a. (omega arith, p, q, spaced-away (at + n) end hs a s))

-- ---- the input without the holes

without-kept : (at k end : ℕ) (hs : List Run) (xs : List ℕ) → Spaced (at + k) hs end → without at hs xs ≡ take k xs ++ without (at + k) hs (drop k xs)
unfolding without
without-kept at k end [] xs s = sym (take-append-drop k xs)
without-kept at k end (h ∷ hs) xs s =
    let g = s.0 in
    let m : ℕ = h.start - (at + k) in
    let e : h.start - at ≡ k + m = omega arith in
    let f : k + m + h.length ≡ k + (m + h.length) = omega arith in
    ap (λ (j : ℕ). take j xs ++ without (h.start + h.length) hs (drop (j + h.length) xs)) e
    ∙ ap (λ (l : List ℕ). l ++ without (h.start + h.length) hs (drop (k + m + h.length) xs)) (take-add k m xs)
    ∙ append_assoc (take k xs) (take m (drop k xs)) (without (h.start + h.length) hs (drop (k + m + h.length) xs))
    ∙ ap (λ (l : List ℕ). take k xs ++ (take m (drop k xs) ++ without (h.start + h.length) hs l))
    (ap (λ (j : ℕ). drop j xs) f ∙ sym (drop-drop (m + h.length) k xs))

without-here : (at n : ℕ) (hs : List Run) (xs : List ℕ) → without at (run at n ∷ hs) xs ≡ without (at + n) hs (drop n xs)
unfolding without
without-here at n hs xs =
    let z : at - at ≡ 0 = omega arith in
    let y : 0 + n ≡ n = omega arith in
    ap (λ (j : ℕ). take j xs ++ without (at + n) hs (drop (j + n) xs)) z ∙ ap (λ (j : ℕ). without (at + n) hs (drop j xs)) y

without-join : (at n : ℕ) (hs : List Run) (xs : List ℕ) → without at (join at n hs) xs ≡ without (at + n) hs (drop n xs)
without-join at n hs xs =
    joins at n hs (λ l. without at l xs ≡ without (at + n) hs (drop n xs))
    (λ h rest e f.
    let k : at + (n + h.length) ≡ at + n + h.length = omega arith in
    let g : run (at + n) h.length ≡ h = ap (λ (m : ℕ). run m h.length) (sym f) in
    without-here at (n + h.length) rest xs
    ∙ ap (λ (m : ℕ). without m rest (drop (n + h.length) xs)) k
    ∙ ap (without (at + n + h.length) rest) (sym (drop-drop h.length n xs))
    ∙ sym (without-here (at + n) h.length rest (drop n xs))
    ∙ ap (λ (x : Run). without (at + n) (x ∷ rest) (drop n xs)) g
    ∙ ap (λ (l : List Run). without (at + n) l (drop n xs)) (sym e))
    (λ a. without-here at n hs xs)

-- ---- along the steps

pub record Along (judge : List ℕ → ℕ) (at : ℕ) (left : List ℕ) (ps : List Piece) : Type 0 where
  pub sum : length (joined (kept_in ps)) + dropped (holes_in at ps) ≡ length left
  pub spaced : Spaced at (holes_in at ps) (at + length left)
  pub rest : joined (kept_in ps) ≡ without at (holes_in at ps) left
  pub records : AllAccepted judge (kept_in ps)

along-none : (judge : List ℕ → ℕ) (at : ℕ) → Along judge at [] []
unfolding joined kept_in dropped holes_in without
along-none judge at = record { sum = refl; spaced = tt; rest = refl; records = tt }

module _ (judge : List ℕ → ℕ) (at : ℕ) (b rest : List ℕ) (ps : List Piece) (a : Along judge (at + length b) rest ps) where
  end : at + length b + length rest ≡ at + length (b ++ rest)
  end = omega (arith, length-append b rest)

  apart : Spaced (at + length b) (holes_in (at + length b) ps) (at + length (b ++ rest))
  apart = subst (Spaced (at + length b) (holes_in (at + length b) ps)) end a.spaced

  along-kept : Accepted judge b → Along judge at (b ++ rest) (piece true b ∷ ps)
  unfolding joined kept_in holes_in
  along-kept r =
      record {
        sum = omega (arith, a.sum, length-append b (joined (kept_in ps)), length-append b rest);
        spaced = spaced-lower at (at + length b) (at + length (b ++ rest)) (holes_in (at + length b) ps) (omega arith) apart;
        rest =
            ap (λ (x : List ℕ). b ++ x) a.rest
            ∙ (λ i. sym (take-append_seam b rest) i ++ without (at + length b) (holes_in (at + length b) ps) (sym (drop-append_seam b rest) i))
            ∙ sym (without-kept at (length b) (at + length (b ++ rest)) (holes_in (at + length b) ps) (b ++ rest) apart);
        records = (r, a.records);
      }

  along-dropped : 0 < length b → Along judge at (b ++ rest) (piece false b ∷ ps)
  unfolding kept_in holes_in
  along-dropped p =
      record {
        sum = omega (arith, a.sum, join-dropped at (length b) (holes_in (at + length b) ps), length-append b rest);
        spaced = spaced-join at (length b) (at + length (b ++ rest)) (holes_in (at + length b) ps) p (omega (arith, end)) apart;
        rest =
            a.rest
            ∙ ap (without (at + length b) (holes_in (at + length b) ps)) (sym (drop-append_seam b rest))
            ∙ sym (without-join at (length b) (holes_in (at + length b) ps) (b ++ rest));
        records = a.records;
      }

along-more : (judge : List ℕ → ℕ) (left : List ℕ) (ps : List Piece) → 0 < length left
    → ((at : ℕ) → Along judge at (drop (step judge left) left) ps)
    → (at : ℕ) → Along judge at left (piece (keeps judge left) (take (step judge left) left) ∷ ps)
along-more judge left ps p next at = by (keeps judge left) refl
  where
    k : ℕ
    k = step judge left

    b : List ℕ
    b = take k left

    by : (t : Bool) → keeps judge left ≡ t → Along judge at left (piece t b ∷ ps)
    by true e =
        let r : Accepted judge b = subst (λ (m : ℕ). Accepted judge (take m left)) (sym (step_kept judge left e)) (kept-accepted judge left e) in
        subst (λ (l : List ℕ). Along judge at l (piece true b ∷ ps)) (take-append-drop k left) (along-kept judge at b (drop k left) ps (next (at + length b)) r)
    by false e =
        subst (λ (l : List ℕ). Along judge at l (piece false b ∷ ps)) (take-append-drop k left)
        (along-dropped judge at b (drop k left) ps (next (at + length b)) (omega (arith, take-length-by k left, step-low judge left)))

pub along-from : (judge : List ℕ → ℕ) (left : List ℕ) (at : ℕ) → Along judge at left (pieces judge (length left) left)
along-from judge left =
    steps judge (λ l ps. (at : ℕ) → Along judge at l ps) (λ at. along-none judge at) (λ l ps p next. along-more judge l ps p next) (length left) left (omega arith)

-- a hole before holes that do not touch it
pub join-before : (start n low end : ℕ) (hs : List Run) → start + n < low → Spaced low hs end → join start n hs ≡ run start n ∷ hs
unfolding join
join-before start n low end [] h s = refl
join-before start n low end (x ∷ hs) h s = let g = s.0 in join_apart start n x hs (λ (e : x.start ≡ start + n). omega arith)
