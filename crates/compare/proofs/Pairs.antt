-- Two records: no field differs exactly when they are equal; else the named field is the first that differs. Assumes nothing.
use Rattle.std.specs.Prelude.{◌≡◌, Bool, true, false, ◌&&◌, length, take, drop, eqb, leb}
use Rattle.std.proofs.Math.Path.{refl, sym, ap, ap₂}
use Rattle.std.proofs.Common.{◌∙◌, subst, arith, eqb-true, eq-eqb}
use Prim.Native.Nat.{ℕ, zero, suc, ◌%◌, ◌<◌}
use Rattle.std.proofs.Math.Bool.{cond}
use mathlib.Core.List.{List, [], ◌∷◌, ◌++◌}
use Rattle.std.proofs.lemmas.Bool.{eqb-false}
use Rattle.meaning.specs.declared.Attributes.{Attributes}
use Rattle.meaning.specs.declared.Known.{Known}
use Rattle.meaning.specs.Bytes.{bit, small}
use Rattle.meaning.specs.Items.{Con, con}
use Rattle.meaning.specs.Records.{Layout, Value, layout, kind_of, misc_of, size_of, check_by, judge, value, fits}
use Rattle.laws.specs.Bytes.{apart, and-true, true-and, con-of}
use Rattle.laws.specs.Whole.{record-again, nameless-clean}
use Rattle.laws.specs.Every.{sound}
use Rattle.runs.specs.Cutting.{framed}
use Rattle.meaning.specs.Events.{identifier_of}
use Rattle.compare.specs.Fields.{other_fields, Reads, layout_of, value_of, one, accepted, fields}
use Rattle.compare.specs.Compared.{same_bytes, same, alike, agree}
use Rattle.compare.specs.Promise.{SoundReads, Whole, Same, decoded, refused, First}
use Rattle.compare.proofs.Numbered.{same-top, same_rest}
use Rattle.compare.proofs.Identifier.{body-first, tail-last}
use Rattle.compare.proofs.Values.{values-back, Whole as WholeValue}

-- ---- an accepted record of a ring is one that record check accepts

whole-checked : (lay : Layout) (xs : List ℕ) → framed xs ≡ true → judge lay xs ≡ 0 → check_by lay xs ≡ 0
unfolding check_by
whole-checked lay xs w h =
    let p = and-true (leb 8 (length xs)) _ w in
    let q = and-true (leb 8 (size_of xs) && eqb (size_of xs % 8) 0) _ p.1 in
    rw (p.0, q.0, q.1) h

-- ---- fields give back the value

append-nil : (l : List Con) → l ++ [] ≡ l
append-nil [] = refl
append-nil (x ∷ l) = ap (λ (m : List Con). x ∷ m) (append-nil l)

num_of : (m n : ℕ) → one m ≡ one n → m ≡ n
num_of m n e = ap (λ (v : Con). v.num) e

-- two records of one layout
first-same : (k : Known) (a : Attributes) (xs ys : List ℕ) (t : Bool) → eqb (kind_of xs) 9 ≡ t → check_by (layout k a) xs ≡ 0 → check_by (layout k a) ys ≡ 0
    → bit a.sample 16 ≡ true → kind_of xs ≡ kind_of ys → identifier_of xs ≡ identifier_of ys
    → take (cond t 1 0) (value (layout k a) xs).body ≡ take (cond t 1 0) (value (layout k a) ys).body
first-same k a xs ys true z h g m ek ei =
    let n : kind_of xs ≡ 9 = eqb-true (kind_of xs) 9 z in
    body-first k a xs h m n ∙ ap (λ (i : ℕ). one i ∷ []) ei ∙ sym (body-first k a ys g m (sym ek ∙ n))
first-same k a xs ys false z h g m ek ei = refl

last-same : (k : Known) (a : Attributes) (xs ys : List ℕ) → check_by (layout k a) xs ≡ 0 → check_by (layout k a) ys ≡ 0
    → bit a.sample 16 ≡ true → a.all ≡ true → kind_of xs ≡ kind_of ys → identifier_of xs ≡ identifier_of ys
    → drop 7 (value (layout k a) xs).tail ≡ drop 7 (value (layout k a) ys).tail
last-same k a xs ys h g m o ek ei =
    tail-last k a xs h m o ∙ ap₂ (λ (n i : ℕ). cond (eqb n 9) (con 0 []) (one i) ∷ []) ek ei ∙ sym (tail-last k a ys g m o)

-- the value of a record that is accepted
whole-value : (k : Known) (a : Attributes) (xs : List ℕ) → small xs ≡ true → check_by (layout k a) xs ≡ 0 → WholeValue (layout k a) (value (layout k a) xs)
unfolding value
whole-value k a xs s h = record { fits = (record-again (layout k a) xs (sound k a) s h).0; clean = λ n. nameless-clean (layout k a) xs n }

same_layout : (k : Known) (a : Attributes) (xs ys : List ℕ) (P Q : List Con) → small xs ≡ true → small ys ≡ true → check_by (layout k a) xs ≡ 0 → check_by (layout k a) ys ≡ 0
    → bit a.sample 16 ≡ true → a.all ≡ true → kind_of xs ≡ kind_of ys → misc_of xs ≡ misc_of ys → size_of xs ≡ size_of ys → identifier_of xs ≡ identifier_of ys
    → other_fields (layout k a) (value (layout k a) xs) ++ P ≡ other_fields (layout k a) (value (layout k a) ys) ++ Q
    → (value (layout k a) xs ≡ value (layout k a) ys) × (P ≡ Q)
unfolding value
same_layout k a xs ys P Q s t h g m o ek em es ei e =
    values-back k a (value (layout k a) xs) (value (layout k a) ys) P Q m (whole-value k a xs s h) (whole-value k a ys t g) ek em es
    (first-same k a xs ys (eqb (kind_of xs) 9) refl h g m ek ei) (last-same k a xs ys h g m o ek ei) e

module _ (R : Reads) (good : SoundReads R) (xs ys : List ℕ) (wx : Whole xs) (wy : Whole ys) where
  abbrev lay : ℕ → Layout
  lay n = layout R.known (R.attributes n)

  abbrev others : ℕ → List ℕ → List Con → List Con
  others n zs P = other_fields (lay n) (value (lay n) zs) ++ P

  accepted-back : (P Q : List Con) → R.judge xs ≡ 0 → R.judge ys ≡ 0 → accepted R xs ++ P ≡ accepted R ys ++ Q → Same R xs ys × (P ≡ Q)
  unfolding accepted
  accepted-back P Q hx hy e₁ =
      let A : List Con = other_fields (layout_of R xs) (value_of R xs) ++ P in
      let B : List Con = other_fields (layout_of R ys) (value_of R ys) ++ Q in
      let e₂ = same_rest (one (kind_of xs)) (one (kind_of ys)) _ _ e₁ in
      let e₃ = same_rest (one (misc_of xs)) (one (misc_of ys)) _ _ e₂ in
      let e₄ = same_rest (one (size_of xs)) (one (size_of ys)) _ _ e₃ in
      let e₅ : A ≡ B = same_rest (one (identifier_of xs)) (one (identifier_of ys)) A B e₄ in
      let ek : kind_of xs ≡ kind_of ys = num_of _ _ (same-top (one (kind_of xs)) (one (kind_of ys)) _ _ e₁) in
      let em : misc_of xs ≡ misc_of ys = num_of _ _ (same-top (one (misc_of xs)) (one (misc_of ys)) _ _ e₂) in
      let es : size_of xs ≡ size_of ys = num_of _ _ (same-top (one (size_of xs)) (one (size_of ys)) _ _ e₃) in
      let ei : identifier_of xs ≡ identifier_of ys = num_of _ _ (same-top (one (identifier_of xs)) (one (identifier_of ys)) A B e₄) in
      let i : ℕ = identifier_of xs in
      let cx : check_by (lay i) xs ≡ 0 = whole-checked (lay i) xs wx.1 (good.own xs hx) in
      let cy : check_by (lay i) ys ≡ 0 = ap (λ (n : ℕ). check_by (lay n) ys) ei ∙ whole-checked (layout_of R ys) ys wy.1 (good.own ys hy) in
      let m = good.marked xs hx in
      let e₆ : others i xs P ≡ others i ys Q = e₅ ∙ ap (λ (n : ℕ). others n ys Q) (sym ei) in
      let r = same_layout R.known (R.attributes i) xs ys P Q wx.0 wy.0 cx cy m.0 m.1 ek em es ei e₆ in
      (decoded hx hy (r.0 ∙ ap (λ (n : ℕ). value (lay n) ys) ei), r.1)

  -- records with the same fields, with anything after them, are equal
  pub fields_back : (P Q : List Con) → fields R xs ++ P ≡ fields R ys ++ Q → Same R xs ys × (P ≡ Q)
  unfolding fields
  fields_back P Q e = by (eqb (R.judge xs) 0) (eqb (R.judge ys) 0) refl refl (same_rest (one (R.judge xs)) (one (R.judge ys)) _ _ e)
    where
      ej : R.judge xs ≡ R.judge ys
      ej = num_of _ _ (same-top (one (R.judge xs)) (one (R.judge ys)) _ _ e)

      by : (s t : Bool) → eqb (R.judge xs) 0 ≡ s → eqb (R.judge ys) 0 ≡ t
          → cond s (accepted R xs) (con 0 xs ∷ []) ++ P ≡ cond t (accepted R ys) (con 0 ys ∷ []) ++ Q → Same R xs ys × (P ≡ Q)
      by true true p q h = accepted-back P Q (eqb-true _ _ p) (eqb-true _ _ q) h
      by true false p q h = absurd (apart (sym q ∙ ap (λ (n : ℕ). eqb n 0) (sym ej) ∙ p))
      by false true p q h = absurd (apart (sym p ∙ ap (λ (n : ℕ). eqb n 0) ej ∙ q))
      by false false p q h = (
        refused (eqb-false _ _ p) (ap (λ (v : Con). v.list) (same-top (con 0 xs) (con 0 ys) P Q h)),
        same_rest (con 0 xs) (con 0 ys) P Q h,
      )

  -- ---- and the other way: equal records have the same identifier, and so the same fields

  sample-id : kind_of xs ≡ 9 → kind_of ys ≡ 9 → R.judge xs ≡ 0 → R.judge ys ≡ 0 → value_of R xs ≡ value_of R ys → identifier_of xs ≡ identifier_of ys
  sample-id kx ky hx hy v =
      let p = body-first R.known (R.attributes (identifier_of xs)) xs (whole-checked (layout_of R xs) xs wx.1 (good.own xs hx)) (good.marked xs hx).0 kx in
      let q = body-first R.known (R.attributes (identifier_of ys)) ys (whole-checked (layout_of R ys) ys wy.1 (good.own ys hy)) (good.marked ys hy).0 ky in
      num_of _ _ (same-top (one (identifier_of xs)) (one (identifier_of ys)) [] [] (sym p ∙ ap (λ (w : Value). take 1 w.body) v ∙ q))

  other-id : eqb (kind_of xs) 9 ≡ false → eqb (kind_of ys) 9 ≡ false → R.judge xs ≡ 0 → R.judge ys ≡ 0 → value_of R xs ≡ value_of R ys → identifier_of xs ≡ identifier_of ys
  other-id kx ky hx hy v =
      let p = tail-last R.known (R.attributes (identifier_of xs)) xs (whole-checked (layout_of R xs) xs wx.1 (good.own xs hx)) (good.marked xs hx).0 (good.marked xs hx).1 in
      let q = tail-last R.known (R.attributes (identifier_of ys)) ys (whole-checked (layout_of R ys) ys wy.1 (good.own ys hy)) (good.marked ys hy).0 (good.marked ys hy).1 in
      let p₁ = p ∙ ap (λ (b : Bool). cond b (con 0 []) (one (identifier_of xs)) ∷ []) kx in
      let q₁ = q ∙ ap (λ (b : Bool). cond b (con 0 []) (one (identifier_of ys)) ∷ []) ky in
      num_of _ _ (same-top (one (identifier_of xs)) (one (identifier_of ys)) [] [] (sym p₁ ∙ ap (λ (w : Value). drop 7 w.tail) v ∙ q₁))

  kinds : value_of R xs ≡ value_of R ys → kind_of xs ≡ kind_of ys
  unfolding value
  kinds v = ap (λ (w : Value). w.kind) v

  miscs : value_of R xs ≡ value_of R ys → misc_of xs ≡ misc_of ys
  unfolding value
  miscs v = ap (λ (w : Value). w.misc) v

  sizes : value_of R xs ≡ value_of R ys → size_of xs ≡ size_of ys
  unfolding value
  sizes v = ap (λ (w : Value). w.size) v

  -- two accepted records of one value carry one identifier, and so are read under the same attributes
  pub same_id : R.judge xs ≡ 0 → R.judge ys ≡ 0 → value_of R xs ≡ value_of R ys → identifier_of xs ≡ identifier_of ys
  same_id hx hy v = by (eqb (kind_of xs) 9) refl
    where
      by : (t : Bool) → eqb (kind_of xs) 9 ≡ t → identifier_of xs ≡ identifier_of ys
      by true e = sample-id (eqb-true _ _ e) (sym (kinds v) ∙ eqb-true _ _ e) hx hy v
      by false e = other-id e (ap (λ (n : ℕ). eqb n 9) (sym (kinds v)) ∙ e) hx hy v

  accepted-same : R.judge xs ≡ 0 → R.judge ys ≡ 0 → value_of R xs ≡ value_of R ys → accepted R xs ≡ accepted R ys
  unfolding accepted
  accepted-same hx hy v =
      let ei = same_id hx hy v in
      let o : other_fields (layout_of R xs) (value_of R xs) ≡ other_fields (layout_of R ys) (value_of R ys) = ap₂ (λ (x : Layout) (w : Value). other_fields x w) (ap lay ei) v in
      let k = kinds v in
      let m = miscs v in
      let s = sizes v in
      λ j. one (k j) ∷ one (m j) ∷ one (s j) ∷ one (ei j) ∷ o j

  pub same-fields : Same R xs ys → fields R xs ≡ fields R ys
  unfolding fields
  same-fields (decoded hx hy v) =
      ap (λ (n : ℕ). one n ∷ cond (eqb n 0) (accepted R xs) (con 0 xs ∷ [])) hx
      ∙ ap (λ (l : List Con). one 0 ∷ l) (accepted-same hx hy v)
      ∙ sym (ap (λ (n : ℕ). one n ∷ cond (eqb n 0) (accepted R ys) (con 0 ys ∷ [])) hy)
  same-fields (refused h e) = ap (λ (zs : List ℕ). one (R.judge zs) ∷ cond (eqb (R.judge zs) 0) (accepted R zs) (con 0 zs ∷ [])) e

-- ---- tests of equality

pub same_bytes_lem : (xs ys : List ℕ) → same_bytes xs ys ≡ true → xs ≡ ys
unfolding same_bytes
same_bytes_lem [] [] h = refl
same_bytes_lem [] (y ∷ ys) h = absurd (apart h)
same_bytes_lem (x ∷ xs) [] h = absurd (apart h)
same_bytes_lem (x ∷ xs) (y ∷ ys) h = let p = and-true (eqb x y) (same_bytes xs ys) h in ap₂ (λ (a : ℕ) (l : List ℕ). a ∷ l) (eqb-true x y p.0) (same_bytes_lem xs ys p.1)

bytes_same : (xs : List ℕ) → same_bytes xs xs ≡ true
unfolding same_bytes
bytes_same [] = refl
bytes_same (x ∷ xs) = true-and _ _ (eq-eqb x x refl) (bytes_same xs)

pub same-con : (u v : Con) → same u v ≡ true → u ≡ v
unfolding same
same-con u v h = let p = and-true (eqb u.num v.num) (same_bytes u.list v.list) h in con-of v u.num u.list (eqb-true _ _ p.0) (same_bytes_lem _ _ p.1)

con-same : (u : Con) → same u u ≡ true
unfolding same
con-same u = true-and _ _ (eq-eqb u.num u.num refl) (bytes_same u.list)

pub alike_same : (us vs : List Con) → alike us vs ≡ true → us ≡ vs
unfolding alike
alike_same [] [] h = refl
alike_same [] (v ∷ vs) h = absurd (apart h)
alike_same (u ∷ us) [] h = absurd (apart h)
alike_same (u ∷ us) (v ∷ vs) h = let p = and-true (same u v) (alike us vs) h in ap₂ (λ (a : Con) (l : List Con). a ∷ l) (same-con u v p.0) (alike_same us vs p.1)

pub same_alike : (us : List Con) → alike us us ≡ true
unfolding alike
same_alike [] = refl
same_alike (u ∷ us) = true-and _ _ (con-same u) (same_alike us)

-- neither goes on where the other ends
pub record Free (us vs : List Con) : Type 0 where
  pub left : (S : List Con) → us ≡ vs ++ S → [] ≡ S
  pub right : (S : List Con) → vs ≡ us ++ S → [] ≡ S

nothing : {A : Type 0} (v : Con) (vs : List Con) → ◌≡◌ {A = List Con} [] (v ∷ vs) → A
nothing v vs e = absurd (let l : 0 ≡ suc (length vs) = ap length e in omega arith)

next-free : (u v : Con) (us vs : List Con) → u ≡ v → Free (u ∷ us) (v ∷ vs) → Free us vs
next-free u v us vs e f = record {
  left = λ S h. f.left S (ap₂ (λ (a : Con) (l : List Con). a ∷ l) e h);
  right = λ S h. f.right S (ap₂ (λ (a : Con) (l : List Con). a ∷ l) (sym e) h);
}

pub first-differs : (us vs : List Con) → Free us vs → alike us vs ≡ false → First us vs (agree us vs)
unfolding alike agree
first-differs [] [] f h = absurd (apart (sym h))
first-differs [] (v ∷ vs) f h = nothing v vs (f.right (v ∷ vs) refl)
first-differs (u ∷ us) [] f h = nothing u us (f.left (u ∷ us) refl)
first-differs (u ∷ us) (v ∷ vs) f h = by (same u v) refl h (first-differs us vs)
  where
    by : (t : Bool) → same u v ≡ t → t && alike us vs ≡ false → (Free us vs → alike us vs ≡ false → First us vs (agree us vs)) → First (u ∷ us) (v ∷ vs) (cond t (suc (agree us vs)) 0)
    by true e g r =
        let d = r (next-free u v us vs (same-con u v e) f) g in
        record { left = omega (arith, d.left); right = omega (arith, d.right); before = ap₂ (λ (a : Con) (l : List Con). a ∷ l) (same-con u v e) d.before; here = d.here }
    by false e g r = record {
      left = omega arith;
      right = omega arith;
      before = refl;
      here = λ q. apart (sym e ∙ ap (λ (z : Con). same u z) (sym q) ∙ con-same u);
    }

-- only one field is the first that differs
pub first-only : (us vs : List Con) (k : ℕ) → First us vs k → (alike us vs ≡ false) × (agree us vs ≡ k)
unfolding alike agree
first-only [] vs k f = absurd (let l : k < 0 = f.left in omega (arith, l))
first-only (u ∷ us) [] k f = absurd (let l : k < 0 = f.right in omega (arith, l))
first-only (u ∷ us) (v ∷ vs) zero f = by (same u v) refl
  where
    by : (t : Bool) → same u v ≡ t → (t && alike us vs ≡ false) × (cond t (suc (agree us vs)) 0 ≡ 0)
    by true e = absurd (f.here (same-con u v e))
    by false e = (refl, refl)
first-only (u ∷ us) (v ∷ vs) (suc k) f =
    let e : u ≡ v = same-top u v (take k us) (take k vs) f.before in
    let p : same u v ≡ true = subst (λ (z : Con). same u z ≡ true) e (con-same u) in
    let l : suc k < suc (length us) = f.left in
    let m : suc k < suc (length vs) = f.right in
    let r = first-only us vs k (record { left = omega (arith, l); right = omega (arith, m); before = same_rest u v (take k us) (take k vs) f.before; here = f.here }) in
    (rw p r.0, rw p (ap suc r.1))

-- ---- the two theorems

module _ (R : Reads) (good : SoundReads R) (xs ys : List ℕ) (wx : Whole xs) (wy : Whole ys) where
  fields_free : Free (fields R xs) (fields R ys)
  fields_free = record {
    left = λ S h. (fields_back R good xs ys wx wy [] S (append-nil (fields R xs) ∙ h)).1;
    right = λ S h. (fields_back R good ys xs wy wx [] S (append-nil (fields R ys) ∙ h)).1;
  }

  -- no field differs exactly when the records are equal
  pub alike-exactly : (alike (fields R xs) (fields R ys) ≡ true → Same R xs ys) × (Same R xs ys → alike (fields R xs) (fields R ys) ≡ true)
  alike-exactly = (
    λ h. (fields_back R good xs ys wx wy [] [] (ap (λ (l : List Con). l ++ []) (alike_same (fields R xs) (fields R ys) h))).0,
    λ s. subst (λ (l : List Con). alike (fields R xs) l ≡ true) (same-fields R good xs ys wx wy s) (same_alike (fields R xs)),
  )

  -- else the field that is named is the first that differs
  pub named-differs : alike (fields R xs) (fields R ys) ≡ false → First (fields R xs) (fields R ys) (agree (fields R xs) (fields R ys))
  named-differs h = first-differs (fields R xs) (fields R ys) fields_free h
