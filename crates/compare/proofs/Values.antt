-- The fields of an accepted record give back its value, with anything after them. Assumes nothing.
use Rattle.std.specs.Prelude.{◌≡◌, refl, ℕ, zero, suc, ◌+◌, ◌*◌, ◌^◌, Bool, true, false, cond, ◌&&◌, List, [], ◌∷◌, ◌++◌, length, take, drop, eqb, ltb}
use Rattle.std.proofs.Common.{sym, ap, ap₂, ◌∙◌, append_assoc, take-append-drop, eqb-true}
use Rattle.meaning.specs.declared.Attributes.{Attributes}
use Rattle.meaning.specs.States.{Cursor}
use Rattle.meaning.specs.declared.Item.{Item}
use Rattle.meaning.specs.declared.Known.{Known}
use Rattle.meaning.specs.declared.Shape.{Shape}
use Rattle.meaning.specs.declared.Shape.TheVariants.{Number, Ignored, Count, Size, Times, Earlier, Registers, Filled, Abi, Limit, Listed, Bytes, Pad, Name}
use Rattle.meaning.specs.declared.Width.TheVariants.{W8}
use Rattle.meaning.specs.Bytes.{bit, spell}
use Rattle.meaning.specs.Items.{Con, con, counted, before, past}
use Rattle.meaning.specs.Writing.{emit, blank, fit_shape, next, fit, named}
use Rattle.meaning.specs.Schema.{item, sample, schema, trailer}
use Rattle.meaning.specs.Records.{Layout, Value, layout, fixed_shape, fixed, origin, unflagged, field_bytes, fits_by, fits}
use Rattle.laws.specs.Every.{trailer-fixed}
use Rattle.laws.specs.Bytes.{apart, and-true, true-and}
use Rattle.laws.specs.Whole.{value_of}
use Rattle.compare.specs.Fields.{numbered, first, one, body_fields, tail_fields, flag_field, other_fields}
use Rattle.compare.proofs.Numbered.{paid, numbered-back, level-start, same-top, same_rest}
use Rattle.compare.proofs.Told.{schema-tells, sample-tells, trailer-tells}

-- ---- what fits

-- numbers and ignored bytes fit wherever they stand
fixed-fit : (sh : Shape) (c d : Cursor) (v : Con) → fixed_shape sh ≡ true → fit_shape sh c v ≡ true → fit_shape sh d v ≡ true
unfolding fixed_shape fit_shape
fixed-fit (Number w) c d v e f = f
fixed-fit (Ignored k) c d v e f = f
fixed-fit (Count w) c d v e f = absurd (apart e)
fixed-fit (Size w) c d v e f = absurd (apart e)
fixed-fit (Times k) c d v e f = absurd (apart e)
fixed-fit (Earlier k) c d v e f = absurd (apart e)
fixed-fit Registers c d v e f = absurd (apart e)
fixed-fit Filled c d v e f = absurd (apart e)
fixed-fit (Abi m) c d v e f = absurd (apart e)
fixed-fit (Limit k) c d v e f = absurd (apart e)
fixed-fit (Listed k) c d v e f = absurd (apart e)
fixed-fit (Bytes k) c d v e f = absurd (apart e)
fixed-fit Pad c d v e f = absurd (apart e)
fixed-fit Name c d v e f = absurd (apart e)

item-fit : (on : Bool) (sh : Shape) (c d : Cursor) (v : Con) → fixed_shape sh ≡ true → cond on (fit_shape sh c v) (blank v) ≡ true → cond on (fit_shape sh d v) (blank v) ≡ true
item-fit true sh c d v e f = fixed-fit sh c d v e f
item-fit false sh c d v e f = f

-- the first j of them, from anywhere
first-fit : (j : ℕ) (is : List Item) (us : List Con) (c d : Cursor) → fixed is ≡ true → fit is us c ≡ true → fit (take j is) (take j us) d ≡ true
unfolding fixed fit
first-fit zero is us c d p f = refl
first-fit (suc j) [] [] c d p f = refl
first-fit (suc j) [] (u ∷ us) c d p f = absurd (apart f)
first-fit (suc j) (i ∷ is) [] c d p f = absurd (apart f)
first-fit (suc j) (i ∷ is) (u ∷ us) c d p f =
    let q = and-true (fixed_shape i.shape) (fixed is) p in
    let s = and-true (cond i.on (fit_shape i.shape c u) (blank u)) (fit is us (next i u c)) f in
    true-and _ _ (item-fit i.on i.shape c d u q.0 s.0) (first-fit j is us (next i u c) (next i u d) q.1 s.1)

-- all but the first
top : List Con → Con
top [] = con 0 []
top (v ∷ vs) = v

rest-fit : (i : Item) (is : List Item) (us : List Con) (c : Cursor) → fit (i ∷ is) us c ≡ true → fit is (drop 1 us) (next i (top us) c) ≡ true
unfolding fit top
rest-fit i is [] c f = absurd (apart f)
rest-fit i is (u ∷ us) c f = (and-true (cond i.on (fit_shape i.shape c u) (blank u)) (fit is us (next i u c)) f).1

-- past a word of a record's start
past_word : (v : Con) → next (item true (Number W8)) v (origin 8) ≡ origin 16
unfolding next past emit counted before spell
past_word v = refl

-- ---- body and trailer

body-by : (a : Attributes) (t : Bool) (kind misc : ℕ) (us vs P Q : List Con) → eqb kind 9 ≡ t → bit a.sample 16 ≡ true
    → fit (schema kind misc a) us (origin 8) ≡ true → fit (schema kind misc a) vs (origin 8) ≡ true
    → take (cond t 1 0) us ≡ take (cond t 1 0) vs
    → numbered (drop (cond t 1 0) (schema kind misc a)) (drop (cond t 1 0) us) 0 (origin (8 + 8 * cond t 1 0)) ++ P
    ≡ numbered (drop (cond t 1 0) (schema kind misc a)) (drop (cond t 1 0) vs) 0 (origin (8 + 8 * cond t 1 0)) ++ Q
    → (us ≡ vs) × (P ≡ Q)
body-by a false kind misc us vs P Q z m f g e h =
    let b = numbered-back (schema kind misc a) us vs 0 0 (origin 8) (origin 8) P Q paid level-start (schema-tells kind misc a) f g h in
    (b.contents, b.rest)
body-by a true kind misc us vs P Q z m f g e h =
    let n : kind ≡ 9 = eqb-true kind 9 z in
    let is : List Item = drop 1 (sample a) in
    let s : schema kind misc a ≡ item true (Number W8) ∷ is =
    ap (λ (k : ℕ). schema k misc a) n ∙ ap (λ (b : Bool). item b (Number W8) ∷ is) m in
    let f₁ = rest-fit (item true (Number W8)) is us (origin 8) (ap (λ (l : List Item). fit l us (origin 8)) (sym s) ∙ f) in
    let g₁ = rest-fit (item true (Number W8)) is vs (origin 8) (ap (λ (l : List Item). fit l vs (origin 8)) (sym s) ∙ g) in
    let d : drop 1 (schema kind misc a) ≡ is = ap (λ (l : List Item). drop 1 l) s in
    let b = numbered-back is (drop 1 us) (drop 1 vs) 0 0 (origin 16) (origin 16) P Q paid level-start (sample-tells a)
    (ap (λ (c : Cursor). fit is (drop 1 us) c) (sym (past_word (top us))) ∙ f₁)
    (ap (λ (c : Cursor). fit is (drop 1 vs) c) (sym (past_word (top vs))) ∙ g₁)
    (ap (λ (l : List Item). numbered l (drop 1 us) 0 (origin 16) ++ P) (sym d) ∙ h ∙ ap (λ (l : List Item). numbered l (drop 1 vs) 0 (origin 16) ++ Q) d) in
    (sym (take-append-drop 1 us) ∙ ap₂ (λ (x y : List Con). x ++ y) e b.contents ∙ take-append-drop 1 vs, b.rest)

tail-by : (a : Attributes) (kind : ℕ) (us vs P Q : List Con) (c d : Cursor) → fit (trailer kind a) us c ≡ true → fit (trailer kind a) vs d ≡ true
    → drop 7 us ≡ drop 7 vs
    → numbered (take 7 (trailer kind a)) (take 7 us) 0 (origin 0) ++ P ≡ numbered (take 7 (trailer kind a)) (take 7 vs) 0 (origin 0) ++ Q
    → (us ≡ vs) × (P ≡ Q)
tail-by a kind us vs P Q c d f g e h =
    let b = numbered-back (take 7 (trailer kind a)) (take 7 us) (take 7 vs) 0 0 (origin 0) (origin 0) P Q paid level-start (trailer-tells kind a)
    (first-fit 7 (trailer kind a) us c (origin 0) (trailer-fixed kind a) f) (first-fit 7 (trailer kind a) vs d (origin 0) (trailer-fixed kind a) g) h in
    (sym (take-append-drop 7 us) ∙ ap₂ (λ (x y : List Con). x ++ y) b.contents e ∙ take-append-drop 7 vs, b.rest)

-- ---- values

fits-parts : (lay : Layout) (v : Value) → fits lay (unflagged v) ≡ true
    → (fit (lay.body v.kind v.misc) v.body (origin 8) ≡ true)
    × (fit (lay.trail v.kind) v.tail (origin (length (field_bytes (lay.body v.kind v.misc) (unflagged v)))) ≡ true)
unfolding fits fits_by unflagged
fits-parts lay v f =
    let is : List Item = lay.body v.kind v.misc in
    let ts : List Item = lay.trail v.kind in
    let n : ℕ = length (field_bytes is (unflagged v)) in
    let p = and-true (eqb (lay.unknown v.kind v.misc) 0) _ f in
    let q = and-true (ltb v.kind (256 ^ 4) && (ltb v.misc (256 ^ 2) && ltb v.size (256 ^ 2))) _ p.1 in
    let t = and-true (fit is v.body (origin 8) && fit ts v.tail (origin n)) _ q.1 in
    and-true (fit is v.body (origin 8)) _ t.0

-- the flag is told where there is a name, and is 0 elsewhere
flag_by : (t : Bool) (m n : ℕ) (P Q : List Con) → (t ≡ false → m ≡ 0) → (t ≡ false → n ≡ 0) → cond t (one m ∷ []) [] ++ P ≡ cond t (one n ∷ []) [] ++ Q
    → (m ≡ n) × (P ≡ Q)
flag_by true m n P Q y z h = (ap (λ (v : Con). v.num) (same-top (one m) (one n) P Q h), same_rest (one m) (one n) P Q h)
flag_by false m n P Q y z h = (y refl ∙ sym (z refl), h)

regroup : (A B C D : List Con) → (A ++ (B ++ C)) ++ D ≡ A ++ (B ++ (C ++ D))
regroup A B C D = append_assoc A (B ++ C) D ∙ ap (λ (l : List Con). A ++ l) (append_assoc B C D)

-- what is asked of a value: without its flag it can be written, and it has no flag where there is no name
pub record Whole (lay : Layout) (v : Value) : Type 0 where
  pub fits : fits lay (unflagged v) ≡ true
  pub clean : named (lay.body v.kind v.misc) ≡ false → v.flag ≡ 0

-- two values of one layout, with the same header and identifier, whose other fields are the same, with anything after them
pub values-back : (k : Known) (a : Attributes) (v w : Value) (P Q : List Con) → bit a.sample 16 ≡ true → Whole (layout k a) v → Whole (layout k a) w
    → v.kind ≡ w.kind → v.misc ≡ w.misc → v.size ≡ w.size → take (first v.kind) v.body ≡ take (first v.kind) w.body → drop 7 v.tail ≡ drop 7 w.tail
    → other_fields (layout k a) v ++ P ≡ other_fields (layout k a) w ++ Q
    → (v ≡ w) × (P ≡ Q)
unfolding layout other_fields body_fields tail_fields flag_field
values-back k a v w P Q m f g ek em es b t e =
    let p = fits-parts (layout k a) v f.fits in
    let q = fits-parts (layout k a) w g.fits in
    let c : Cursor = origin (length (field_bytes (schema v.kind v.misc a) (unflagged v))) in
    let d : Cursor = origin (length (field_bytes (schema w.kind w.misc a) (unflagged w))) in
    let q₀ : fit (schema v.kind v.misc a) w.body (origin 8) ≡ true = ap₂ (λ (x y : ℕ). fit (schema x y a) w.body (origin 8)) ek em ∙ q.0 in
    let q₁ : fit (trailer v.kind a) w.tail d ≡ true = ap (λ (x : ℕ). fit (trailer x a) w.tail d) ek ∙ q.1 in
    let F : ℕ → ℕ → List Con = λ (x y : ℕ). cond (named (schema x y a)) (one w.flag ∷ []) [] in
    let T : ℕ → ℕ → List Con = λ (x y : ℕ). numbered (take 7 (trailer x a)) (take 7 w.tail) 0 (origin 0) ++ (F x y ++ Q) in
    let B : ℕ → ℕ → List Con = λ (x y : ℕ). numbered (drop (first x) (schema x y a)) (drop (first x) w.body) 0 (origin (8 + 8 * first x)) ++ T x y in
    let e₁ = sym (regroup (body_fields (layout k a) v) (tail_fields (layout k a) v) (flag_field (layout k a) v) P) ∙ e
    ∙ regroup (body_fields (layout k a) w) (tail_fields (layout k a) w) (flag_field (layout k a) w) Q in
    let r = body-by a (eqb v.kind 9) v.kind v.misc v.body w.body _ (T v.kind v.misc) refl m p.0 q₀ b (e₁ ∙ ap₂ B (sym ek) (sym em)) in
    let s = tail-by a v.kind v.tail w.tail _ (F v.kind v.misc ++ Q) c d p.1 q₁ t r.1 in
    let h = flag_by (named (schema v.kind v.misc a)) v.flag w.flag P Q f.clean
    (λ n. g.clean (ap₂ (λ (x y : ℕ). named (schema x y a)) (sym ek) (sym em) ∙ n)) s.1 in
    (value_of w _ _ _ _ _ _ ek em es r.0 s.0 h.0, h.1)
