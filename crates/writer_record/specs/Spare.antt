-- How many words the parts of a type have, and the words that no item has. Assumes nothing.
use Rattle.std.specs.Prelude.{◌≡◌, refl, ℕ, suc, ◌+◌, ◌-◌, min, ◌*◌, ◌<◌, ◌≤◌, Bool, ◌&&◌, List, [], ◌∷◌, ◌++◌, length, take, drop, get_or, leb, eqb}
use Rattle.std.proofs.Common.{sym, ap₂, take_all, length-drop, ◌∙◌, add-one, arith, drop_of_length-le, drop-cons, get_or-take, leb-true, leb-false, eq-eqb, ne_eqb}
use Rattle.std.proofs.Math.Path.{ap}
use Rattle.std.proofs.Math.Bool.{true, false}
use Rattle.std.proofs.Math.ListN.{get_or-eq_default}
use Rattle.std.specs.List.{list_all}
use Rattle.meaning.specs.declared.Attributes.{Attributes}
use Rattle.meaning.specs.declared.Item.{Item}
use Rattle.meaning.specs.Bytes.{all_zero}
use Rattle.meaning.specs.Schema.{schema, trailer}
use Rattle.meaning.specs.Writing.{named}
use Rattle.meaning.specs.Values.{tell, words_of, width, flag_words, body_width, spare_by, body_words, trail_words, value_words}
use Rattle.laws.specs.Bytes.{take-length-by}
use Rattle.laws.specs.Told.{fields-few}
use Rattle.table.specs.Flags.{flag_at, flag-none, flag-some}
use Rattle.table.specs.Rows.{all_rows}
use Rattle.writer_parts.specs.declared.TypePart.{TypePart}
use Rattle.writer_parts.specs.Parts.{item_here, items_from, part_items, Lays}
use Rattle.writer_parts.specs.Turns.{items-next, items-over}
use Rattle.writer_record.specs.Measures.{Fields}

-- ---- how many words

pub record Summing (p : TypePart) (first k end : ℕ) : Type 0 where
  pub same : end + width (items_from p k) ≡ first + width (items_from p p.from)
  pub rows : k ≤ p.to
  pub few : end ≤ trail_words + 2 * k

pub sum-start : (p : TypePart) (first : ℕ) → p.from ≤ p.to → first ≤ trail_words → Summing p first (p.from + 0) first
sum-start p first o w =
    let n : p.from ≡ p.from + 0 = omega arith in
    record { same = ap (λ (k : ℕ). first + width (items_from p k)) (sym n); rows = omega (arith, o); few = omega (arith, w) }

module _ (p : TypePart) (first k end : ℕ) (l : Summing p first k end) where
  pub sum-on : (i : Item) (n : ℕ) → i ≡ item_here p k → n ≡ words_of i.shape → n ≤ 2 → k < p.to → p.to ≤ all_rows → Summing p first (k + 1) (end + n)
  unfolding width
  sum-on i n eᵢ eₙ two h m =
      let w : width (items_from p k) ≡ words_of (item_here p k).shape + width (items_from p (k + 1)) = ap width (items-next p k h m) in
      let q : n ≡ words_of (item_here p k).shape = eₙ ∙ ap (λ (j : Item). words_of j.shape) eᵢ in
      let s = l.same in
      let f = l.few in
      record { same = omega (arith, w, q, s); rows = omega (arith, h); few = omega (arith, two, f) }

  pub sum-end : p.to ≤ k → end ≡ first + width (items_from p p.from)
  unfolding width
  sum-end h =
      let r = l.rows in
      let e : k ≡ p.to = omega (arith, h, r) in
      let w : width (items_from p k) ≡ 0 = ap (λ (n : ℕ). width (items_from p n)) e ∙ ap width (items-over p) in
      let s = l.same in
      omega (arith, w, s)

-- ---- the words that are zero

pub zero_turn : (ws : List ℕ) (to k : ℕ) → k < to → all_zero (drop k (take to ws)) ≡ eqb (get_or ws k 0) 0 && all_zero (drop (k + 1) (take to ws))
unfolding all_zero
zero_turn ws to k h = go (leb (suc k) (length ws)) refl
  where
    go : (t : Bool) → leb (suc k) (length ws) ≡ t → all_zero (drop k (take to ws)) ≡ eqb (get_or ws k 0) 0 && all_zero (drop (k + 1) (take to ws))
    go true e =
        let l = leb-true (suc k) (length ws) e in
        let n = take-length-by to ws in
        rw (drop-cons (take to ws) k 0 (omega (arith, l, n, h)), get_or-take to ws k 0 h, add-one k)
    go false e =
        let l = leb-false (suc k) (length ws) e in
        let n = take-length-by to ws in
        rw (drop_of_length-le (take to ws) {i = k} (omega (arith, l, n)), drop_of_length-le (take to ws) {i = k + 1} (omega (arith, l, n)), get_or-eq_default ws 0 {n = k} (omega (arith, l)))

abbrev pub zeros_from : List ℕ → ℕ → ℕ → Bool
zeros_from ws to k = all_zero (drop k (take to ws))

module _ (ws : List ℕ) (from to k w : ℕ) (l : zeros_from ws to k ≡ zeros_from ws to from) where
  module _ (h : k < to) (e : w ≡ get_or ws k 0) where
    pub zero-stop : (w ≡ 0 → ⊥) → false ≡ zeros_from ws to from
    zero-stop n = sym (sym l ∙ zero_turn ws to k h ∙ ap (λ (b : Bool). b && zeros_from ws to (k + 1)) (ap (λ (x : ℕ). eqb x 0) (sym e) ∙ ne_eqb w 0 n))

    pub zero-on : w ≡ 0 → zeros_from ws to (k + 1) ≡ zeros_from ws to from
    zero-on z = sym (zero_turn ws to k h ∙ ap (λ (b : Bool). b && zeros_from ws to (k + 1)) (ap (λ (x : ℕ). eqb x 0) (sym e) ∙ eq-eqb w 0 z)) ∙ l

pub zero-end : (ws : List ℕ) (from to k : ℕ) → zeros_from ws to k ≡ zeros_from ws to from → to ≤ k → true ≡ zeros_from ws to from
unfolding all_zero
zero-end ws from to k l h = let n = take-length-by to ws in ap all_zero (sym (drop_of_length-le (take to ws) {i = k} (omega (arith, n, h)))) ∙ l

pub all-zero : (xs : List ℕ) → list_all (λ (x : ℕ). eqb x 0) xs ≡ all_zero xs
unfolding all_zero
all-zero [] = refl
all-zero (x ∷ xs) = ap (λ (b : Bool). eqb x 0 && b) (all-zero xs)

take-most : (xs : List ℕ) (n : ℕ) → take (min n (length xs)) xs ≡ take n xs
take-most xs n = go (leb n (length xs)) refl
  where
    go : (t : Bool) → leb n (length xs) ≡ t → take (min n (length xs)) xs ≡ take n xs
    go true e = let h = leb-true n (length xs) e in let m : min n (length xs) ≡ n = omega (arith, h) in ap (λ (k : ℕ). take k xs) m
    go false e =
        let h = leb-false n (length xs) e in
        take_all (min n (length xs)) xs (omega (arith, h)) ∙ sym (take_all n xs (omega (arith, h)))

drop-most : (xs : List ℕ) (n : ℕ) → drop (min n (length xs)) xs ≡ drop n xs
drop-most xs n = go (leb n (length xs)) refl
  where
    go : (t : Bool) → leb n (length xs) ≡ t → drop (min n (length xs)) xs ≡ drop n xs
    go true e = let h = leb-true n (length xs) e in let m : min n (length xs) ≡ n = omega (arith, h) in ap (λ (k : ℕ). drop k xs) m
    go false e =
        let h = leb-false n (length xs) e in
        drop_of_length-le xs {i = min n (length xs)} (omega (arith, h)) ∙ sym (drop_of_length-le xs {i = n} (omega (arith, h)))

-- both ends of a part held within the words
pub between-is : (ws : List ℕ) (from to n m : ℕ) → n ≡ min to (length ws) → m ≡ min from (length (take n ws))
    → take (length (take n ws) - m) (drop m (take n ws)) ≡ drop from (take to ws)
between-is ws from to n m e f =
    take_all (length (take n ws) - m) (drop m (take n ws)) (omega (arith, length-drop m (take n ws)))
    ∙ ap (λ (k : ℕ). drop k (take n ws)) f ∙ drop-most (take n ws) from
    ∙ ap (λ (k : ℕ). drop from (take k ws)) e ∙ ap (λ (xs : List ℕ). drop from xs) (take-most ws to)

all-and : (xs ys : List ℕ) → all_zero (xs ++ ys) ≡ all_zero xs && all_zero ys
unfolding all_zero
all-and [] ys = refl
all-and (x ∷ xs) ys = go (eqb x 0) (all-and xs ys)
  where
    go : (b : Bool) → all_zero (xs ++ ys) ≡ all_zero xs && all_zero ys → b && all_zero (xs ++ ys) ≡ (b && all_zero xs) && all_zero ys
    go true e = e
    go false e = refl

-- the trailer has seven words, so the last one is free
abbrev pub free_word : ℕ
free_word = 55

pub spare-is : (is : List Item) (kind : ℕ) (a : Attributes) (ws : List ℕ) (n : ℕ) (x y : Bool) → n ≡ body_words + body_width is
    → x ≡ all_zero (drop n (take trail_words ws)) → y ≡ all_zero (drop free_word (take value_words ws)) → x && y ≡ all_zero (spare_by is (trailer kind a) ws)
unfolding spare_by width tell
spare-is is kind a ws n x y e p q =
    ap₂ (λ (b d : Bool). b && d) (p ∙ ap (λ (k : ℕ). all_zero (drop k (take trail_words ws))) e) q
    ∙ sym (all-and (drop (body_words + body_width is) (take trail_words ws)) (drop free_word (take value_words ws)))

-- ---- where a type's own words end

pub fields-of : (p : TypePart) (a : Attributes) (kind misc : ℕ) → Lays p a kind (schema kind misc a) → Fields p
fields-of p a kind misc l = record { misc = misc; items-are = l.items ∙ ap₂ (λ (k : ℕ) (b : Attributes). schema k misc b) (sym l.kind) (sym l.attributes) }

module _ (p : TypePart) (f : Fields p) where
  abbrev own : List Item
  own = part_items p

  named-is : (b : Bool) → named (schema p.kind f.misc p.attributes) ≡ b → named own ≡ b
  named-is b h = ap named f.items-are ∙ h

  pub end_none : (n : ℕ) → flag_at p.kind ≡ 0 → n ≡ body_words + width own → n ≡ body_words + body_width own
  unfolding flag_words
  end_none n z e = rw (named-is false (flag-none p.kind f.misc p.attributes z)) (let q : n ≡ body_words + (width own + 0) = omega (arith, e) in q)

  pub end-some : (n : ℕ) → n ≡ flag_at p.kind → (n ≡ 0 → ⊥) → n + 1 ≡ body_words + body_width own
  unfolding flag_words
  end-some n e z =
      let s = flag-some p.kind f.misc p.attributes (λ q. z (e ∙ q)) in
      let w = ap width f.items-are in
      let a = s.1 in
      rw (named-is true s.0) (let q : n + 1 ≡ body_words + (width own + 1) = omega (arith, e, a, w) in q)

  pub end-few : (n : ℕ) → n ≡ flag_at p.kind → (n ≡ 0 → ⊥) → n ≤ trail_words
  end-few n e z =
      let s = (flag-some p.kind f.misc p.attributes (λ q. z (e ∙ q))).1 in
      let h = fields-few p.kind f.misc p.attributes in
      omega (arith, e, s, h)
