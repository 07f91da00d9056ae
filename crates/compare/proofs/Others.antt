-- The other fields of an accepted record as a reader meets them: the items of its body after a SAMPLE's identifier, then those of its trailer before the
-- identifier. And the five fields before them. Assumes nothing.
use Rattle.std.specs.Prelude.{◌≡◌, ℕ, zero, suc, ◌+◌, ◌-◌, ◌*◌, ◌≤◌, Bool}
use Rattle.std.proofs.Math.Path.{refl, ap, ap₂, subst}
use Rattle.std.proofs.Common.{sym, ◌∙◌, arith, eqb-true, eq-eqb, ne_eqb}
use Rattle.std.proofs.Math.Bool.{true, false, cond}
use mathlib.Core.List.{List, [], ◌∷◌, ◌++◌}
use Rattle.std.proofs.Math.ListN.{length, take, drop, length-drop}
use Rattle.std.proofs.Math.Dec.{eqb}
use Rattle.meaning.specs.declared.Attributes.{Attributes}
use Rattle.meaning.specs.States.{Cursor}
use Rattle.meaning.specs.declared.Item.{Item}
use Rattle.meaning.specs.declared.Known.{Known}
use Rattle.meaning.specs.declared.Shape.TheVariants.{Number}
use Rattle.meaning.specs.declared.Width.TheVariants.{W8}
use Rattle.meaning.specs.Bytes.{bit}
use Rattle.meaning.specs.Items.{Con, con, span, holds, counted, before, past, part, step, walk, content, contents}
use Rattle.meaning.specs.Schema.{item, sample, schema, trailer}
use Rattle.meaning.specs.Records.{layout, fixed_shape, fixed, room, kind_of, misc_of, size_of, origin, fields_of, fields_answer, body_of, tail_of, flag_by, flag_of, value}
use Rattle.meaning.specs.Writing.{named}
use Rattle.meaning.specs.Events.{identifier_of}
use Rattle.laws.specs.Again.{fine, stepped, item-passed}
use Rattle.laws.specs.Answers.{fields-zero}
use Rattle.laws.specs.Fixed.{fixed-run}
use Rattle.laws.specs.Whole.{length_fields}
use Rattle.compare.specs.Fields.{numbered, first, one, body_fields, tail_fields, flag_field, other_fields, Reads, layout_of, value_of, accepted, fields}
use Rattle.compare.specs.Compared.{same, same_bytes, alike, agree}
use Rattle.compare.proofs.Numbered.{paid, tells, level-start}
use Rattle.compare.proofs.Told.{schema-tells, sample-tells, trailer-tells}
use Rattle.compare.proofs.Identifier.{word-there, room_split}
use Rattle.compare.proofs.Pairs.{same_alike}
use Rattle.compare.proofs.Inner.{met, met-numbered, Steady}

contents-take : (j : ℕ) (is : List Item) (xs : List ℕ) (c : Cursor) → take j (contents xs is c) ≡ contents xs (take j is) c
unfolding contents
contents-take zero is xs c = refl
contents-take (suc j) [] xs c = refl
contents-take (suc j) (i ∷ is) xs c = ap (λ (l : List Con). content xs i c ∷ l) (contents-take j is xs (step xs i c))

-- past a SAMPLE's identifier
past_first : (F : List ℕ) (is : List Item) → (walk F (item true (Number W8) ∷ is) (origin 8)).why ≡ 0 → step F (item true (Number W8)) (origin 8) ≡ origin 16
unfolding walk past counted before span
past_first F is h =
    let z = fine F is (step F (item true (Number W8)) (origin 8)) h in
    let e = stepped true (Number W8) F (origin 8) refl in
    let t = item-passed (Number W8) (origin 8) (drop 8 F) (ap (λ (c : Cursor). c.why) (sym e) ∙ z) in
    e ∙ t.is ∙ ap (λ (k : ℕ). past (Number W8) (holds (Number W8) (origin 8) (part (Number W8) (origin 8) (drop 8 F))) k (origin 8)) t.long

module _ (a : Attributes) (xs : List ℕ) (h : fields_answer (schema (kind_of xs) (misc_of xs) a) (room (trailer (kind_of xs) a)) xs ≡ 0) (m : bit a.sample 16 ≡ true) where
  abbrev S : List Item
  S = schema (kind_of xs) (misc_of xs) a

  abbrev T : List Item
  T = trailer (kind_of xs) a

  abbrev F : List ℕ
  F = fields_of (room T) xs

  zero-all : (8 + room T ≤ length xs) × ((walk F S (origin 8)).why ≡ 0) × ((walk F S (origin 8)).at ≡ length xs - room T)
  zero-all = fields-zero S (room T) xs h

  -- the body, by whether it is a SAMPLE's
  record Body (t : Bool) : Type 0 where
    there : 8 + 8 * cond t 1 0 ≤ length F
    fine : (walk F (drop (cond t 1 0) S) (origin (8 + 8 * cond t 1 0))).why ≡ 0
    told : tells paid (drop (cond t 1 0) S) ≡ true
    read : drop (cond t 1 0) (contents F S (origin 8)) ≡ contents F (drop (cond t 1 0) S) (origin (8 + 8 * cond t 1 0))

  body-of : (t : Bool) → eqb (kind_of xs) 9 ≡ t → Body t
  unfolding walk contents
  body-of false e =
      let l = length_fields (room T) xs in
      let z = zero-all.0 in
      record { there = omega (arith, l, z); fine = zero-all.1; told = schema-tells (kind_of xs) (misc_of xs) a; read = refl }
  body-of true e =
      let is : List Item = drop 1 (sample a) in
      let i : Item = item true (Number W8) in
      let s : S ≡ i ∷ is = ap (λ (z : ℕ). schema z (misc_of xs) a) (eqb-true (kind_of xs) 9 e) ∙ ap (λ (b : Bool). item b (Number W8) ∷ is) m in
      let w : (walk F (i ∷ is) (origin 8)).why ≡ 0 = ap (λ (l : List Item). (walk F l (origin 8)).why) (sym s) ∙ zero-all.1 in
      let n = word-there F is (origin 8) refl w in
      let d = length-drop 8 F in
      let p = past_first F is w in
      let r : drop 1 S ≡ is = ap (λ (l : List Item). drop 1 l) s in
      record {
        there = omega (arith, n, d);
        fine = ap (λ (l : List Item). (walk F l (origin 16)).why) r ∙ ap (λ (c : Cursor). (walk F is c).why) (sym p) ∙ w;
        told = ap (λ (l : List Item). tells paid l) r ∙ sample-tells a;
        read = ap (λ (l : List Item). drop 1 (contents F l (origin 8))) s ∙ ap (λ (c : Cursor). contents F is c) p ∙ ap (λ (l : List Item). contents F l (origin 16)) (sym r);
      }

  -- the trailer before its identifier
  tail-fine : (walk xs (take 7 T) (origin (length xs - room T))).why ≡ 0
  unfolding fixed fixed_shape
  tail-fine =
      let z = zero-all.0 in
      let r = room_split 7 T in
      (fixed-run (take 7 T) xs (origin (length xs - room T)) refl refl (omega (arith, z, r))).0

  abbrev body_met : List Con
  body_met = met F (drop (first (kind_of xs)) S) 0 (origin (8 + 8 * first (kind_of xs)))

  abbrev tail_met : List Con
  tail_met = met xs (take 7 T) 0 (origin (length xs - room T))

  body-met : (k : Known) → body_fields (layout k a) (value (layout k a) xs) ≡ body_met
  unfolding body_fields layout value body_of
  body-met k =
      let b = body-of (eqb (kind_of xs) 9) refl in
      let c : Cursor = origin (8 + 8 * first (kind_of xs)) in
      let is : List Item = drop (first (kind_of xs)) S in
      ap (λ (vs : List Con). numbered is vs 0 c) b.read ∙ met-numbered is F 0 c c refl refl b.fine

  tail-met : (k : Known) → tail_fields (layout k a) (value (layout k a) xs) ≡ tail_met
  unfolding tail_fields layout value tail_of
  tail-met k =
      let c : Cursor = origin (length xs - room T) in
      ap (λ (vs : List Con). numbered (take 7 T) vs 0 (origin 0)) (contents-take 7 T xs c) ∙ met-numbered (take 7 T) xs 0 c (origin 0) refl refl tail-fine

  abbrev flag_met : List Con
  flag_met = cond (named S) (one (flag_by S (room T) xs) ∷ []) []

  flag-met : (k : Known) → flag_field (layout k a) (value (layout k a) xs) ≡ flag_met
  unfolding flag_field layout value flag_of
  flag-met k = refl

  pub others-met : (k : Known) → other_fields (layout k a) (value (layout k a) xs) ≡ body_met ++ (tail_met ++ flag_met)
  unfolding other_fields
  others-met k =
      let b = body-met k in
      let t = tail-met k in
      let f = flag-met k in
      λ j. b j ++ (t j ++ f j)

-- ---- two records of one layout and length

module _ (a : Attributes) (xs ys : List ℕ)
    (h : fields_answer (schema (kind_of xs) (misc_of xs) a) (room (trailer (kind_of xs) a)) xs ≡ 0)
    (g : fields_answer (schema (kind_of ys) (misc_of ys) a) (room (trailer (kind_of ys) a)) ys ≡ 0)
    (ek : kind_of ys ≡ kind_of xs) (em : misc_of ys ≡ misc_of xs) (el : length ys ≡ length xs) where
  abbrev kind : ℕ
  kind = kind_of xs

  abbrev misc : ℕ
  misc = misc_of xs

  abbrev Tx : List Item
  Tx = trailer kind a

  abbrev end : ℕ
  end = length xs - room Tx

  g₁ : fields_answer (schema kind misc a) (room Tx) ys ≡ 0
  g₁ = ap₂ (λ (k m : ℕ). fields_answer (schema k m a) (room (trailer k a)) ys) (sym ek) (sym em) ∙ g

  pub body-steady : bit a.sample 16 ≡ true
      → Steady (take end xs) (take end ys) (drop (first kind) (schema kind misc a)) 0 0 (origin (8 + 8 * first kind)) (origin (8 + 8 * first kind))
  unfolding fields_of
  body-steady m =
      let b = body-of a xs h m (eqb kind 9) refl in
      let c : Cursor = origin (8 + 8 * first kind) in
      let is : List Item = drop (first kind) (schema kind misc a) in
      let d = body-of a ys g m (eqb kind 9) (ap (λ (z : ℕ). eqb z 9) ek) in
      let e : take (length ys - room (trailer (kind_of ys) a)) ys ≡ take end ys = ap₂ (λ (n k : ℕ). take (n - room (trailer k a)) ys) el ek in
      let q : schema (kind_of ys) (misc_of ys) a ≡ schema kind misc a = ap₂ (λ (k m : ℕ). schema k m a) ek em in
      record {
        m = paid;
        level = level-start;
        told = b.told;
        s-in = b.there;
        t-in = subst (λ (l : List ℕ). 8 + 8 * first kind ≤ length l) e d.there;
        s-fine = b.fine;
        t-fine = ap₂ (λ (l : List ℕ) (js : List Item). (walk l (drop (first kind) js) c).why) (sym e) (sym q) ∙ d.fine;
      }

  pub tail-steady : bit a.sample 16 ≡ true → Steady xs ys (take 7 Tx) 0 0 (origin end) (origin end)
  tail-steady m =
      let p : length ys - room (trailer (kind_of ys) a) ≡ end = ap₂ (λ (n k : ℕ). n - room (trailer k a)) el ek in
      record {
        m = paid;
        level = level-start;
        told = trailer-tells kind a;
        s-in = omega arith;
        t-in = omega (arith, el);
        s-fine = tail-fine a xs h m;
        t-fine = ap₂ (λ (n k : ℕ). (walk ys (take 7 (trailer k a)) (origin n)).why) (sym p) (sym ek) ∙ tail-fine a ys g m;
      }

-- ---- the five fields before the others

same-one : (m n : ℕ) → m ≡ n → same (one m) (one n) ≡ true
unfolding same same_bytes
same-one m n e = rw (eq-eqb m n e)

other-one : (m n : ℕ) → (m ≡ n → ⊥) → same (one m) (one n) ≡ false
unfolding same same_bytes
other-one m n e = rw (ne_eqb m n e)

-- the first n fields are equal, and the rest are these
record After (us vs : List Con) (n : ℕ) (A B : List Con) : Type 0 where
  number : agree us vs ≡ n + agree A B
  test : alike us vs ≡ alike A B

none_after : (us vs : List Con) → After us vs 0 us vs
none_after us vs = record { number = omega arith; test = refl }

after_one : (us vs : List Con) (n m k : ℕ) (A B : List Con) → After us vs n (one m ∷ A) (one k ∷ B) → m ≡ k → After us vs (suc n) A B
unfolding agree alike
after_one us vs n m k A B h e =
    let a = h.number in
    let b : agree (one m ∷ A) (one k ∷ B) ≡ suc (agree A B) = rw (same-one m k e) in
    let c : alike (one m ∷ A) (one k ∷ B) ≡ alike A B = rw (same-one m k e) in
    record { number = omega (arith, a, b); test = h.test ∙ c }

-- or the next one differs
after-other : (us vs : List Con) (n m k : ℕ) (A B : List Con) → After us vs n (one m ∷ A) (one k ∷ B) → (m ≡ k → ⊥) → (alike us vs ≡ false) × (agree us vs ≡ n)
unfolding agree alike
after-other us vs n m k A B h e =
    let a = h.number in
    let b : agree (one m ∷ A) (one k ∷ B) ≡ 0 = rw (other-one m k e) in
    let c : alike (one m ∷ A) (one k ∷ B) ≡ false = rw (other-one m k e) in
    (h.test ∙ c, omega (arith, a, b))

module _ (R : Reads) (xs ys : List ℕ) where
  abbrev us : List Con
  us = fields R xs

  abbrev vs : List Con
  vs = fields R ys

  abbrev rest : List ℕ → List Con
  rest zs = cond (eqb (R.judge zs) 0) (accepted R zs) (con 0 zs ∷ [])

  -- "The comparison stops at the first field": equal bytes have none that differs
  pub same-record : xs ≡ ys → alike us vs ≡ true
  same-record e = subst (λ (l : List ℕ). alike us (fields R l) ≡ true) e (same_alike us)

  pub other-answer : (R.judge xs ≡ R.judge ys → ⊥) → (alike us vs ≡ false) × (agree us vs ≡ 0)
  unfolding fields
  other-answer e = after-other us vs 0 (R.judge xs) (R.judge ys) (rest xs) (rest ys) (none_after us vs) e

  module _ (ej : R.judge xs ≡ R.judge ys) where
    after-answer : After us vs 1 (rest xs) (rest ys)
    unfolding fields
    after-answer = after_one us vs 0 (R.judge xs) (R.judge ys) (rest xs) (rest ys) (none_after us vs) ej

    -- "Records refused alike compare by their bytes, as field 1"
    pub other-refused : (R.judge xs ≡ 0 → ⊥) → same_bytes xs ys ≡ false → (alike us vs ≡ false) × (agree us vs ≡ 1)
    unfolding agree alike same
    other-refused n b =
        let p : rest xs ≡ con 0 xs ∷ [] = ap (λ (t : Bool). cond t (accepted R xs) (con 0 xs ∷ [])) (ne_eqb (R.judge xs) 0 n) in
        let q : rest ys ≡ con 0 ys ∷ [] = ap (λ (t : Bool). cond t (accepted R ys) (con 0 ys ∷ [])) (ne_eqb (R.judge ys) 0 (λ z. n (ej ∙ z))) in
        let a = after-answer.number ∙ ap₂ (λ (x y : List Con). 1 + agree x y) p q in
        let c : agree (con 0 xs ∷ []) (con 0 ys ∷ []) ≡ 0 = rw b in
        let d : alike (con 0 xs ∷ []) (con 0 ys ∷ []) ≡ false = rw b in
        (after-answer.test ∙ ap₂ (λ (x y : List Con). alike x y) p q ∙ d, omega (arith, a, c))

    module _ (hx : R.judge xs ≡ 0) where
      hy : R.judge ys ≡ 0
      hy = sym ej ∙ hx

      after-accepted : After us vs 1 (accepted R xs) (accepted R ys)
      after-accepted =
          let p : rest xs ≡ accepted R xs = ap (λ (t : Bool). cond t (accepted R xs) (con 0 xs ∷ [])) (eq-eqb (R.judge xs) 0 hx) in
          let q : rest ys ≡ accepted R ys = ap (λ (t : Bool). cond t (accepted R ys) (con 0 ys ∷ [])) (eq-eqb (R.judge ys) 0 hy) in
          record {
            number = after-answer.number ∙ ap₂ (λ (x y : List Con). 1 + agree x y) p q;
            test = after-answer.test ∙ ap₂ (λ (x y : List Con). alike x y) p q;
          }

      abbrev from4 : List ℕ → List Con
      from4 zs = one (identifier_of zs) ∷ other_fields (layout_of R zs) (value_of R zs)

      abbrev from3 : List ℕ → List Con
      from3 zs = one (size_of zs) ∷ from4 zs

      abbrev from2 : List ℕ → List Con
      from2 zs = one (misc_of zs) ∷ from3 zs

      pub other-kind : (kind_of xs ≡ kind_of ys → ⊥) → (alike us vs ≡ false) × (agree us vs ≡ 1)
      unfolding accepted
      other-kind e = after-other us vs 1 (kind_of xs) (kind_of ys) (from2 xs) (from2 ys) after-accepted e

      module _ (ek : kind_of xs ≡ kind_of ys) where
        after-kind : After us vs 2 (from2 xs) (from2 ys)
        unfolding accepted
        after-kind = after_one us vs 1 (kind_of xs) (kind_of ys) (from2 xs) (from2 ys) after-accepted ek

        pub other-misc : (misc_of xs ≡ misc_of ys → ⊥) → (alike us vs ≡ false) × (agree us vs ≡ 2)
        other-misc e = after-other us vs 2 (misc_of xs) (misc_of ys) (from3 xs) (from3 ys) after-kind e

        module _ (em : misc_of xs ≡ misc_of ys) where
          after-misc : After us vs 3 (from3 xs) (from3 ys)
          after-misc = after_one us vs 2 (misc_of xs) (misc_of ys) (from3 xs) (from3 ys) after-kind em

          pub other-size : (size_of xs ≡ size_of ys → ⊥) → (alike us vs ≡ false) × (agree us vs ≡ 3)
          other-size e = after-other us vs 3 (size_of xs) (size_of ys) (from4 xs) (from4 ys) after-misc e

          module _ (es : size_of xs ≡ size_of ys) where
            after-size : After us vs 4 (from4 xs) (from4 ys)
            after-size = after_one us vs 3 (size_of xs) (size_of ys) (from4 xs) (from4 ys) after-misc es

            pub other-identifier : (identifier_of xs ≡ identifier_of ys → ⊥) → (alike us vs ≡ false) × (agree us vs ≡ 4)
            other-identifier e = after-other us vs 4 (identifier_of xs) (identifier_of ys) (other_fields (layout_of R xs) (value_of R xs)) (other_fields (layout_of R ys) (value_of R ys)) after-size e

            -- five are equal, and the others come
            pub five : identifier_of xs ≡ identifier_of ys
                → (agree us vs ≡ 5 + agree (other_fields (layout_of R xs) (value_of R xs)) (other_fields (layout_of R ys) (value_of R ys)))
                × (alike us vs ≡ alike (other_fields (layout_of R xs) (value_of R xs)) (other_fields (layout_of R ys) (value_of R ys)))
            five e =
                let a = after_one us vs 4 (identifier_of xs) (identifier_of ys) (other_fields (layout_of R xs) (value_of R xs)) (other_fields (layout_of R ys) (value_of R ys)) after-size e in
                (a.number, a.test)
