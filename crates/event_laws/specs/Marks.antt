-- Identifiers that are distinct, found out from the last to the first: each marks its remainder by 8,192. Assumes nothing.
use Rattle.std.specs.Prelude.{◌≡◌, refl, Bool, true, false, not, ◌&&◌, ◌||◌, List, [], ◌∷◌, ℕ, zero, suc, ◌+◌, ◌-◌, ◌%◌, ◌<◌, ◌≤◌, eqb, length, get_or, take, drop, set}
use Rattle.std.proofs.Common.{sym, ap, ◌∙◌, subst, add-one, arith, length-drop, length-set, drop-cons, take_all, get_or-set_same, get_or-set_other, eqb-true}
use Rattle.std.proofs.Math.Seq.{drop-length}
use Rattle.std.proofs.lemmas.Bool.{eqb-false}
use Rattle.meaning.specs.Editions.{is_in}
use Rattle.meaning.specs.Events.{distinct}
use Rattle.laws.specs.Bytes.{apart, and-true}

-- ---- lists from a place on

pub next_of : {A : Type 0} (l : List A) (i : ℕ) (d : A) → i < length l → drop i l ≡ get_or l i d ∷ drop (i + 1) l
next_of l i d h = drop-cons l i d h ∙ ap (λ (k : ℕ). get_or l i d ∷ drop k l) (sym (add-one i))

-- a part up to the end, as the code says it
pub part_end : {A : Type 0} (l : List A) (i : ℕ) → take (length l - i) (drop i l) ≡ drop i l
part_end l i = take_all (length l - i) (drop i l) (omega (arith, length-drop i l))

-- ---- are they distinct?

pub distinct-drop : (l : List ℕ) (i : ℕ) → distinct (drop i l) ≡ false → distinct l ≡ false
unfolding distinct
distinct-drop l zero h = h
distinct-drop [] (suc i) h = h
distinct-drop (x ∷ l) (suc i) h = by (not (is_in x l)) (distinct-drop l i h)
  where
    by : (t : Bool) → distinct l ≡ false → t && distinct l ≡ false
    by true e = e
    by false e = refl

-- the one before place i is among those from i on, or it is not
pub distinct-no : (l : List ℕ) (i : ℕ) → i < length l → is_in (get_or l i 0) (drop (i + 1) l) ≡ true → distinct l ≡ false
unfolding distinct
distinct-no l i h e = distinct-drop l i (ap distinct (next_of l i 0 h) ∙ ap (λ (b : Bool). not b && distinct (drop (i + 1) l)) e)

pub distinct_more : (l : List ℕ) (i : ℕ) → i < length l → is_in (get_or l i 0) (drop (i + 1) l) ≡ false → distinct (drop (i + 1) l) ≡ true → distinct (drop i l) ≡ true
unfolding distinct
distinct_more l i h e d = ap distinct (next_of l i 0 h) ∙ ap (λ (b : Bool). not b && distinct (drop (i + 1) l)) e ∙ d

pub distinct_none : (l : List ℕ) → distinct (drop (length l) l) ≡ true
unfolding distinct
distinct_none l = ap distinct (drop-length l)

-- ---- marks: each identifier of a list has its mark at its remainder by 8,192

abbrev pub Marked : List ℕ → List ℕ → Type 0
Marked seen l = (y : ℕ) → is_in y l ≡ true → get_or seen (y % 8192) 0 ≡ 0 → ⊥

pub marked-nil : (seen l : List ℕ) → l ≡ [] → Marked seen l
marked-nil seen l e y h z = apart (sym (ap (is_in y) e) ∙ h)

pub unmarked : (seen l : List ℕ) (x : ℕ) → Marked seen l → get_or seen (x % 8192) 0 ≡ 0 → is_in x l ≡ false
unmarked seen l x m z = by (is_in x l) refl
  where
    by : (t : Bool) → is_in x l ≡ t → t ≡ false
    by true e = absurd (m x e z)
    by false e = refl

pub mark : (seen l : List ℕ) (x : ℕ) → Marked seen l → length seen ≡ 8192 → Marked (set seen (x % 8192) 1) (x ∷ l)
mark seen l x m n y h z = by (eqb (y % 8192) (x % 8192)) refl
  where
    le : x % 8192 < length seen
    le = omega (arith, n)

    from : (t : Bool) → eqb y x ≡ t → (y % 8192 ≡ x % 8192 → ⊥) → ⊥
    from true e d = d (ap (λ (k : ℕ). k % 8192) (eqb-true y x e))
    from false e d =
        m y (sym (ap (λ (b : Bool). b || is_in y l) e) ∙ h) (sym (get_or-set_other seen (x % 8192) (y % 8192) 1 0 d) ∙ z)

    by : (t : Bool) → eqb (y % 8192) (x % 8192) ≡ t → ⊥
    by true e =
        let q : get_or (set seen (x % 8192) 1) (y % 8192) 0 ≡ 1 =
        ap (λ (k : ℕ). get_or (set seen (x % 8192) 1) k 0) (eqb-true (y % 8192) (x % 8192) e) ∙ get_or-set_same seen (x % 8192) 1 0 le in
        let o : ◌≡◌ {A = ℕ} 1 0 = sym q ∙ z in
        omega (arith, o)
    by false e = from (eqb y x) refl (eqb-false (y % 8192) (x % 8192) e)

-- ---- the walk from the last to the first: what is behind place i is distinct, and is marked

abbrev pub Behind : List ℕ → List ℕ → ℕ → Type 0
Behind l seen i = (distinct (drop i l) ≡ true) × Marked seen (drop i l) × (i ≤ length l) × (length seen ≡ 8192)

-- was the one before place i met behind it?
abbrev pub is_met : List ℕ → List ℕ → ℕ → Bool
is_met l seen i = not (eqb (get_or seen (get_or l (i - 1) 0 % 8192) 0) 0) && is_in (get_or l (i - 1) 0) (take (length l - i) (drop i l))

pub behind-start : (l seen : List ℕ) → length seen ≡ 8192 → Behind l seen (length l)
behind-start l seen n = (distinct_none l, marked-nil seen (drop (length l) l) (drop-length l), omega arith, n)

pub behind-met : (l seen : List ℕ) (i : ℕ) → Behind l seen i → 0 < i → is_met l seen i ≡ true → distinct l ≡ false
behind-met l seen i h p e =
    let x : ℕ = get_or l (i - 1) 0 in
    let z : i - 1 + 1 ≡ i = omega arith in
    let q = and-true (not (eqb (get_or seen (x % 8192) 0) 0)) (is_in x (take (length l - i) (drop i l))) e in
    distinct-no l (i - 1) (omega (arith, h.2))
    (ap (λ (k : ℕ). is_in x (drop k l)) z ∙ ap (is_in x) (sym (part_end l i)) ∙ q.1)

pub behind-next : (l seen : List ℕ) (i : ℕ) → Behind l seen i → 0 < i → is_met l seen i ≡ false → Behind l (set seen (get_or l (i - 1) 0 % 8192) 1) (i - 1)
behind-next l seen i h p e =
    let x : ℕ = get_or l (i - 1) 0 in
    let z : i - 1 + 1 ≡ i = omega arith in
    let b : i - 1 < length l = omega (arith, h.2) in
    let out : is_in x (drop i l) ≡ false = new (eqb (get_or seen (x % 8192) 0) 0) refl in
    let c : drop (i - 1) l ≡ x ∷ drop i l = next_of l (i - 1) 0 b ∙ ap (λ (k : ℕ). x ∷ drop k l) z in (
      distinct_more l (i - 1) b (ap (λ (k : ℕ). is_in x (drop k l)) z ∙ out) (ap (λ (k : ℕ). distinct (drop k l)) z ∙ h.0),
      subst (Marked (set seen (x % 8192) 1)) (sym c) (mark seen (drop i l) x h.1 h.3),
      omega (arith, b),
      length-set seen (x % 8192) 1 ∙ h.3,
    )
  where
    new : (t : Bool) → eqb (get_or seen (get_or l (i - 1) 0 % 8192) 0) 0 ≡ t → is_in (get_or l (i - 1) 0) (drop i l) ≡ false
    new true q = unmarked seen (drop i l) (get_or l (i - 1) 0) h.1 (eqb-true _ _ q)
    new false q =
        sym (ap (is_in (get_or l (i - 1) 0)) (part_end l i))
        ∙ sym (ap (λ (t : Bool). not t && is_in (get_or l (i - 1) 0) (take (length l - i) (drop i l))) q)
        ∙ e

-- the same test with the identifier and what is behind it as a walk over rows has them
pub row-met : (l seen : List ℕ) (i x : ℕ) (b : Bool) → x ≡ get_or l (i - 1) 0 → b ≡ (not (eqb (get_or seen (x % 8192) 0) 0) && is_in x (drop i l)) → is_met l seen i ≡ b
row-met l seen i x b e h =
    sym (h ∙ (λ j. not (eqb (get_or seen (e j % 8192) 0) 0) && is_in (e j) (sym (part_end l i) j)))
