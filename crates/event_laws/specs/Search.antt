-- The loops of the lookup and of row 11, of plain values. Assumes nothing.
use Rattle.std.specs.Prelude.{◌≡◌, refl, Bool, true, false, not, ◌&&◌, List, [], ◌∷◌, ℕ, ◌+◌, ◌<◌, ◌≤◌, ltb, length, get_or, drop}
use Rattle.std.proofs.Common.{sym, ap, ◌∙◌, add-one, arith, drop_of_length-le, length-drop, drop-cons, lt-ltb, le-ltb, ltb-true, ltb-false}
use Rattle.std.proofs.lemmas.Bool.{not-true, not-false}
use Rattle.meaning.specs.Editions.{is_in}
use Rattle.meaning.specs.declared.Event.{Event}
use Rattle.meaning.specs.Events.{no_event, event_at, event_of, events_of, identifiers, marked, all_marked, index_of}
use Rattle.laws.specs.Lookup.{index-end, index-here, index-next, in-there, in-none, identifiers-length, identifier-at, rows-length, row_at}
use Rattle.event_laws.specs.Rising.{rises}
use Rattle.event_laws.specs.Marks.{next_of}

-- ---- the lookup

-- what is still to come is the whole
abbrev pub LookupHolds : ℕ → List ℕ → ℕ → ℕ → Type 0
LookupHolds x l from i = i + index_of x (drop i l) ≡ from + index_of x (drop from l)

pub found : (x : ℕ) (l : List ℕ) (from i : ℕ) → LookupHolds x l from i → i < length l → get_or l i 0 ≡ x → i ≡ from + index_of x (drop from l)
found x l from i h g e = omega (arith, index-here x l i g e)

pub goes_on : (x : ℕ) (l : List ℕ) (from i : ℕ) → LookupHolds x l from i → i < length l → (get_or l i 0 ≡ x → ⊥) → LookupHolds x l from (i + 1)
goes_on x l from i h g e = omega (arith, index-next x l i g e)

pub none : (x : ℕ) (l : List ℕ) (from i : ℕ) → LookupHolds x l from i → length l ≤ i → i ≡ from + index_of x (drop from l)
none x l from i h g = omega (arith, index-end x l i g)

-- ---- rows
abbrev pub keys : List (List ℕ) → List ℕ
keys rows = identifiers (events_of rows)

pub keys_length : (rows : List (List ℕ)) → length (keys rows) ≡ length rows
keys_length rows = identifiers-length (events_of rows) ∙ rows-length rows

pub key-at : (rows : List (List ℕ)) (i : ℕ) (d : List ℕ) → i < length rows → get_or (keys rows) i 0 ≡ get_or (get_or rows i d) 0 0
unfolding event_of
key-at rows i d h = identifier-at (events_of rows) i ∙ ap (λ (v : Event). v.identifier) (row_at rows i d h)

-- ---- row 11: what is left from a place on decides

abbrev pub LeftMarked : List (List ℕ) → ℕ → Type 0
LeftMarked rows i = all_marked (events_of rows) ≡ all_marked (drop i (events_of rows))

marked_next : (es : List Event) (i : ℕ) → i < length es → all_marked (drop i es) ≡ (marked (event_at es i) && all_marked (drop (i + 1) es))
unfolding all_marked
marked_next es i h =
    ap all_marked (drop-cons es i no_event h) ∙ ap (λ (k : ℕ). marked (event_at es i) && all_marked (drop k es)) (sym (add-one i))

pub marked-end : (rows : List (List ℕ)) (i : ℕ) → LeftMarked rows i → length rows ≤ i → true ≡ all_marked (events_of rows)
unfolding all_marked
marked-end rows i t h =
    let l : length (events_of rows) ≤ i = omega (arith, rows-length rows) in
    sym (t ∙ ap all_marked (drop_of_length-le (events_of rows) l))

module _ (rows : List (List ℕ)) (i : ℕ) (d : List ℕ) (t : LeftMarked rows i) (h : i < length rows) (b : Bool) (e : b ≡ marked (event_of (get_or rows i d))) where
  -- this row, and the rest
  turn : all_marked (events_of rows) ≡ (b && all_marked (drop (i + 1) (events_of rows)))
  turn =
      t
      ∙ marked_next (events_of rows) i (omega (arith, rows-length rows))
      ∙ ap (λ (x : Bool). x && all_marked (drop (i + 1) (events_of rows))) (ap marked (row_at rows i d h) ∙ sym e)

  pub marked-not : not b ≡ true → false ≡ all_marked (events_of rows)
  marked-not g = sym (turn ∙ ap (λ (x : Bool). x && all_marked (drop (i + 1) (events_of rows))) (not-true b g))

  pub marked-on : not b ≡ false → LeftMarked rows (i + 1)
  marked-on g = turn ∙ ap (λ (x : Bool). x && all_marked (drop (i + 1) (events_of rows))) (not-false b g)

-- ---- identifiers that rise

two-of : (l : List ℕ) (i : ℕ) → i + 1 < length l → drop i l ≡ get_or l i 0 ∷ get_or l (i + 1) 0 ∷ drop (i + 1 + 1) l
two-of l i h = next_of l i 0 (omega arith) ∙ ap (λ (k : List ℕ). get_or l i 0 ∷ k) (next_of l (i + 1) 0 h)

pub rises-not : (l : List ℕ) (i : ℕ) → i + 1 < length l → get_or l (i + 1) 0 ≤ get_or l i 0 → rises (drop i l) ≡ false
unfolding rises
rises-not l i h e =
    ap rises (two-of l i h) ∙ ap (λ (b : Bool). b && rises (get_or l (i + 1) 0 ∷ drop (i + 1 + 1) l)) (le-ltb (get_or l i 0) (get_or l (i + 1) 0) e)

pub rises_next : (l : List ℕ) (i : ℕ) → i + 1 < length l → get_or l i 0 < get_or l (i + 1) 0 → rises (drop i l) ≡ rises (drop (i + 1) l)
unfolding rises
rises_next l i h e =
    ap rises (two-of l i h)
    ∙ ap (λ (b : Bool). b && rises (get_or l (i + 1) 0 ∷ drop (i + 1 + 1) l)) (lt-ltb (get_or l i 0) (get_or l (i + 1) 0) e)
    ∙ ap rises (sym (next_of l (i + 1) 0 h))

rises-short : (l : List ℕ) → length l ≤ 1 → rises l ≡ true
unfolding rises
rises-short [] h = refl
rises-short (x ∷ []) h = refl
rises-short (x ∷ y ∷ l) h = absurd (omega arith)

pub rises-end : (l : List ℕ) (i : ℕ) → length l ≤ i + 1 → rises (drop i l) ≡ true
rises-end l i h = rises-short (drop i l) (omega (arith, length-drop i l))

-- ---- is it the identifier of a row from a place on?

pub met-there : (x : ℕ) (l : List ℕ) (from j n : ℕ) → j ≡ from + index_of x (drop from l) → length l ≡ n → ltb j n ≡ is_in x (drop from l)
met-there x l from j n e h = by (ltb j n) refl
  where
    by : (b : Bool) → ltb j n ≡ b → b ≡ is_in x (drop from l)
    by true q = sym (in-there x (drop from l) (omega (arith, length-drop from l, ltb-true j n q)))
    by false q = sym (in-none x (drop from l) (omega (arith, length-drop from l, ltb-false j n q)))
