-- Laws of the lookup in a table of events: over a place in the list, as a loop goes; where identifiers are distinct; rows as events. Assumes nothing.
use Rattle.std.specs.Prelude.{◌≡◌, refl, Bool, true, false, cond, not, ◌||◌, List, [], ◌∷◌, ℕ, zero, suc, ◌+◌, ◌<◌, ◌≤◌, ltb, eqb, length, get_or, drop}
use Rattle.std.proofs.Common.{sym, ap, ◌∙◌, add-one, arith, drop_of_length-le, drop-cons, eq-eqb, ne_eqb, eqb-true, lt-ltb, le-ltb, ltb-true, ltb-false}
use Rattle.std.proofs.lemmas.Bool.{eqb-false, not-true}
use Rattle.meaning.specs.Editions.{is_in}
use Rattle.laws.specs.Bytes.{apart, and-true}
use Rattle.meaning.specs.declared.Event.{Event}
use Rattle.meaning.specs.Events.{event_at, event_of, events_of, identifiers, distinct, marked, all_marked, index_of, seen}

-- ---- over a place in the list
pub index-end : (x : ℕ) (l : List ℕ) (i : ℕ) → length l ≤ i → index_of x (drop i l) ≡ 0
unfolding index_of
index-end x l i h = ap (index_of x) (drop_of_length-le l h)

pub index-here : (x : ℕ) (l : List ℕ) (i : ℕ) → i < length l → get_or l i 0 ≡ x → index_of x (drop i l) ≡ 0
unfolding index_of
index-here x l i h e = ap (index_of x) (drop-cons l i 0 h) ∙ rw (eq-eqb (get_or l i 0) x e) refl

pub index-next : (x : ℕ) (l : List ℕ) (i : ℕ) → i < length l → (get_or l i 0 ≡ x → ⊥) → index_of x (drop i l) ≡ suc (index_of x (drop (i + 1) l))
unfolding index_of
index-next x l i h e =
    ap (index_of x) (drop-cons l i 0 h) ∙ rw (ne_eqb (get_or l i 0) x e) (ap (λ (k : ℕ). suc (index_of x (drop k l))) (sym (add-one i)))

-- ---- is it there, and where

pub index-most : (x : ℕ) (l : List ℕ) → index_of x l ≤ length l
unfolding index_of
index-most x [] = omega arith
index-most x (y ∷ ys) = by (eqb y x) (index-most x ys)
  where
    by : (b : Bool) → index_of x ys ≤ length ys → cond b 0 (suc (index_of x ys)) ≤ suc (length ys)
    by true h = omega arith
    by false h = omega arith

-- an equality, turned round
pub eqb-turn : (x y : ℕ) → eqb x y ≡ eqb y x
eqb-turn x y = by (eqb x y) refl
  where
    by : (b : Bool) → eqb x y ≡ b → b ≡ eqb y x
    by true e = sym (eq-eqb y x (sym (eqb-true x y e)))
    by false e = sym (ne_eqb y x (λ q. eqb-false x y e (sym q)))

-- in the list exactly where the index is below the length
pub in-index : (x : ℕ) (l : List ℕ) → is_in x l ≡ ltb (index_of x l) (length l)
unfolding index_of
in-index x [] = refl
in-index x (y ∷ ys) = by (eqb y x) (eqb-turn x y) (in-index x ys)
  where
    by : (b : Bool) → eqb x y ≡ b → is_in x ys ≡ ltb (index_of x ys) (length ys) → (eqb x y || is_in x ys) ≡ ltb (cond b 0 (suc (index_of x ys))) (suc (length ys))
    by true e h = rw e (sym (lt-ltb 0 (suc (length ys)) (omega arith)))
    by false e h = rw e (h ∙ step (index_of x ys) (length ys))
      where
        step : (m n : ℕ) → ltb m n ≡ ltb (suc m) (suc n)
        step m n = go (ltb m n) refl
          where
            go : (c : Bool) → ltb m n ≡ c → c ≡ ltb (suc m) (suc n)
            go true q = sym (lt-ltb (suc m) (suc n) (omega (arith, ltb-true m n q)))
            go false q = sym (le-ltb (suc m) (suc n) (omega (arith, ltb-false m n q)))

pub index_in : (x : ℕ) (l : List ℕ) → is_in x l ≡ true → index_of x l < length l
index_in x l h = ltb-true (index_of x l) (length l) (sym (in-index x l) ∙ h)

pub in-there : (x : ℕ) (l : List ℕ) → index_of x l < length l → is_in x l ≡ true
in-there x l h = in-index x l ∙ lt-ltb (index_of x l) (length l) h

pub in-none : (x : ℕ) (l : List ℕ) → length l ≤ index_of x l → is_in x l ≡ false
in-none x l h = in-index x l ∙ le-ltb (index_of x l) (length l) h

-- what stands at that index is x
pub index_is : (x : ℕ) (l : List ℕ) → index_of x l < length l → get_or l (index_of x l) 0 ≡ x
unfolding index_of
index_is x [] h = absurd (omega arith)
index_is x (y ∷ ys) h = by (eqb y x) refl h (index_is x ys)
  where
    by : (b : Bool) → eqb y x ≡ b → cond b 0 (suc (index_of x ys)) < suc (length ys) → (index_of x ys < length ys → get_or ys (index_of x ys) 0 ≡ x)
        → get_or (y ∷ ys) (cond b 0 (suc (index_of x ys))) 0 ≡ x
    by true e g r = eqb-true y x e
    by false e g r = r (omega arith)

-- ---- how many are inspected (M-112)

-- "equals the entry's index plus one"
seen_at : (x : ℕ) (l : List ℕ) → index_of x l < length l → seen x l ≡ index_of x l + 1
unfolding index_of seen
seen_at x [] h = absurd (omega arith)
seen_at x (y ∷ ys) h = by (eqb y x) h (seen_at x ys)
  where
    by : (b : Bool) → cond b 0 (suc (index_of x ys)) < suc (length ys) → (index_of x ys < length ys → seen x ys ≡ index_of x ys + 1)
        → suc (cond b 0 (seen x ys)) ≡ cond b 0 (suc (index_of x ys)) + 1
    by true g r = refl
    by false g r = omega (arith, r (omega arith))

pub seen-found : (x : ℕ) (l : List ℕ) → is_in x l ≡ true → seen x l ≡ index_of x l + 1
seen-found x l h = seen_at x l (index_in x l h)

-- "the table's length for 26"
seen_end : (x : ℕ) (l : List ℕ) → length l ≤ index_of x l → seen x l ≡ length l
unfolding index_of seen
seen_end x [] h = refl
seen_end x (y ∷ ys) h = by (eqb y x) h (seen_end x ys)
  where
    by : (b : Bool) → suc (length ys) ≤ cond b 0 (suc (index_of x ys)) → (length ys ≤ index_of x ys → seen x ys ≡ length ys)
        → suc (cond b 0 (seen x ys)) ≡ suc (length ys)
    by true g r = absurd (omega arith)
    by false g r = omega (arith, r (omega arith))

pub seen_none : (x : ℕ) (l : List ℕ) → is_in x l ≡ false → seen x l ≡ length l
seen_none x l h = seen_end x l (ltb-false (index_of x l) (length l) (sym (in-index x l) ∙ h))

-- ---- the events of a list
pub identifiers-length : (es : List Event) → length (identifiers es) ≡ length es
identifiers-length [] = refl
identifiers-length (v ∷ vs) = ap suc (identifiers-length vs)

pub identifier-at : (es : List Event) (i : ℕ) → get_or (identifiers es) i 0 ≡ (event_at es i).identifier
identifier-at [] i = refl
identifier-at (v ∷ vs) zero = refl
identifier-at (v ∷ vs) (suc i) = identifier-at vs i

pub marked-at : (es : List Event) (i : ℕ) → all_marked es ≡ true → i < length es → marked (event_at es i) ≡ true
unfolding all_marked
marked-at [] i m h = absurd (omega arith)
marked-at (v ∷ vs) zero m h = (and-true (marked v) (all_marked vs) m).0
marked-at (v ∷ vs) (suc i) m h = marked-at vs i (and-true (marked v) (all_marked vs) m).1 (omega arith)

-- ---- rows are events
pub rows-length : (rows : List (List ℕ)) → length (events_of rows) ≡ length rows
rows-length [] = refl
rows-length (r ∷ rs) = ap suc (rows-length rs)

pub row_at : (rows : List (List ℕ)) (i : ℕ) (d : List ℕ) → i < length rows → event_at (events_of rows) i ≡ event_of (get_or rows i d)
row_at [] i d h = absurd (omega arith)
row_at (r ∷ rs) zero d h = refl
row_at (r ∷ rs) (suc i) d h = row_at rs i d (omega arith)

-- ---- where identifiers are distinct, any row that matches is the first
-- what stands in a list is in it
pub is-in-at : (l : List ℕ) (i : ℕ) → i < length l → is_in (get_or l i 0) l ≡ true
is-in-at [] i h = absurd (omega arith)
is-in-at (y ∷ ys) zero h = rw (eq-eqb y y refl) refl
is-in-at (y ∷ ys) (suc i) h = by (eqb (get_or ys i 0) y) (is-in-at ys i (omega arith))
  where
    by : (b : Bool) → is_in (get_or ys i 0) ys ≡ true → (b || is_in (get_or ys i 0) ys) ≡ true
    by true q = refl
    by false q = q

-- where no two are equal, a row that matches is the first. kept: for a drain that remembers the event found last
pub index-unique : (l : List ℕ) (i : ℕ) → distinct l ≡ true → i < length l → index_of (get_or l i 0) l ≡ i
unfolding distinct index_of
index-unique [] i d h = absurd (omega arith)
index-unique (y ∷ ys) zero d h = rw (eq-eqb y y refl) refl
index-unique (y ∷ ys) (suc i) d h =
    let w = and-true (not (is_in y ys)) (distinct ys) d in
    let n : y ≡ get_or ys i 0 → ⊥ = λ e. apart (sym (not-true (is_in y ys) w.0) ∙ ap (λ (x : ℕ). is_in x ys) e ∙ is-in-at ys i (omega arith)) in
    rw (ne_eqb y (get_or ys i 0) n) (ap suc (index-unique ys i w.1 (omega arith)))
