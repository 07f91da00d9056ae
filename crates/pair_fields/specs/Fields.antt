-- The loop over the fields of a pair, as laws about plain values: its start, one row, the step to the trailer, the flag. Assumes nothing.
use Rattle.std.proofs.Math.Path.{◌≡◌, refl, sym, ap, ap₂, subst}
use Rattle.std.proofs.Common.{◌∙◌, length-take-le, take_all}
use Rattle.std.specs.Prelude.{Bool, ◌&&◌, ℕ, ◌+◌, ◌-◌, ◌*◌, ◌%◌, ◌<◌, ◌≤◌, length, take, drop, get_or}
use Rattle.std.proofs.Math.Bool.{true, false, cond}
use mathlib.Core.List.{List, [], ◌∷◌, ◌++◌, map}
use native.Mathlib.Omega.{arith}
use Rattle.std.proofs.Math.Seq.{slice}
use Rattle.std.proofs.Math.Dec.{eqb}
use Rattle.meaning.specs.declared.Attributes.{Attributes}
use Rattle.meaning.specs.States.{Cursor}
use Rattle.meaning.specs.declared.Item.{Item}
use Rattle.meaning.specs.declared.Known.{Known}
use Rattle.meaning.specs.Bytes.{small}
use Rattle.meaning.specs.Items.{Con, step, content}
use Rattle.meaning.specs.Writing.{named, dirty}
use Rattle.meaning.specs.Schema.{schema, trailer}
use Rattle.meaning.specs.Records.{layout, room, kind_of, misc_of, origin, fields_of, flag_by, value}
use Rattle.laws.specs.Bytes.{apart, small-take}
use Rattle.laws.specs.Answers.{fields-zero}
use Rattle.laws.specs.Every.{trailer-eights}
use Rattle.table.specs.Rows.{rows, field_rows, all_rows, item_of}
use Rattle.table.specs.Turns.{rows_next, rows-over}
use Rattle.table.specs.Flags.{flag_at, flag-none, flag-some}
use Rattle.record.specs.Into.{Accepted, record_flag, name_dirty, or_dirty}
use Rattle.compare.specs.Fields.{first, one, other_fields}
use Rattle.compare.specs.Compared.{same, same_bytes, alike, agree}
use Rattle.compare.proofs.Inner.{met, fields_at, Steady, step-fine, turn-other, turn-same, turn_on}
use Rattle.compare.proofs.Others.{others-met, body-steady, tail-steady}
use Rattle.item_pairs.specs.Passed.{Both, Passed}
use Rattle.pair_fields.specs.Inner.{Pos, trail, items, flags, later, to_left, to_right, is_alike, is_field, to_go, Settled, begun_at, Begun, moved, trailing, Pair, Ready, FieldsStand}

eight-less : (n t : ℕ) → n % 8 ≡ 0 → t % 8 ≡ 0 → t ≤ n → (n - t) % 8 ≡ 0
eight-less n t a b l = omega (arith, a, b, l)

module _ (xs ys : List ℕ) where
  -- ---- nothing is left to be looked at

  pub settled-stands : (b : Bool) (n k : ℕ) (same : Bool) (r : Pos) → Settled k same r → same ≡ b → (b ≡ false → k ≡ n) → FieldsStand b n xs ys r
  unfolding is_alike is_field
  settled-stands b n k same r s e f = record {
    test = ap (λ (t : Bool). cond t r.same (alike (to_left r xs) (to_right r ys))) s.done-is ∙ s.same-is ∙ e;
    number = λ z. ap (λ (t : Bool). cond t r.k (r.k + agree (to_left r xs) (to_right r ys))) s.done-is ∙ s.k-is ∙ f z;
    ready = λ z. absurd (apart (sym z ∙ s.done-is));
    shut = λ z. s.done-is;
  }

  pub settled-less : (p r : Pos) (k : ℕ) (same : Bool) → Settled k same r → p.done ≡ false → to_go r < to_go p
  unfolding to_go
  settled-less p r k same s d = rw (s.done-is, d) (let h : 0 < 1 + (cond p.last 0 all_rows + (p.to - p.row)) = omega arith in h)

  pub differs-stands : (b : Bool) (n k : ℕ) (r : Pos) → Settled k false r → (b ≡ false) × (n ≡ k) → FieldsStand b n xs ys r
  differs-stands b n k r s o = settled-stands b n k false r s (sym o.0) (λ z. sym o.1)

  -- what is known at the end
  pub stands-ended : (b : Bool) (n : ℕ) (p : Pos) → FieldsStand b n xs ys p → p.same ≡ true → p.done ≡ true → b ≡ true
  unfolding is_alike
  stands-ended b n p h s d = sym h.test ∙ ap (λ (t : Bool). cond t p.same (alike (to_left p xs) (to_right p ys))) d ∙ s

  pub stands-other : (b : Bool) (n : ℕ) (p : Pos) → FieldsStand b n xs ys p → p.same ≡ false → (b ≡ false) × (n ≡ p.k)
  unfolding is_alike is_field
  stands-other b n p h s =
      let d = h.shut s in
      let e = sym h.test ∙ ap (λ (t : Bool). cond t p.same (alike (to_left p xs) (to_right p ys))) d ∙ s in
      (e, sym (h.number e) ∙ ap (λ (t : Bool). cond t p.k (p.k + agree (to_left p xs) (to_right p ys))) d)

  -- from one state to the next
  pub stands_on : (b : Bool) (n : ℕ) (p r : Pos) → FieldsStand b n xs ys p → FieldsStand (is_alike p xs ys) (is_field p xs ys) xs ys r → FieldsStand b n xs ys r
  stands_on b n p r h s = record {
    test = s.test ∙ h.test;
    number = λ z. s.number (h.test ∙ z) ∙ h.number z;
    ready = s.ready;
    shut = s.shut;
  }

  -- ---- the pair

  module _ (p : Pos) (r : Ready xs ys p) (d : p.done ≡ false) where
    open-alike : is_alike p xs ys ≡ alike (to_left p xs) (to_right p ys)
    unfolding is_alike
    open-alike = ap (λ (t : Bool). cond t p.same (alike (to_left p xs) (to_right p ys))) d

    open-field : is_field p xs ys ≡ p.k + agree (to_left p xs) (to_right p ys)
    unfolding is_field
    open-field = ap (λ (t : Bool). cond t p.k (p.k + agree (to_left p xs) (to_right p ys))) d

    trail-x : trailer (kind_of xs) p.a ≡ trail p
    trail-x = ap (λ (k : ℕ). trailer k p.a) (sym r.pair.x-kind)

    room_in : room (trail p) ≤ length xs
    room_in =
        let z = (fields-zero (schema (kind_of xs) (misc_of xs) p.a) (room (trailer (kind_of xs) p.a)) xs r.pair.x-fine).0 in
        let e : room (trailer (kind_of xs) p.a) ≡ room (trail p) = ap room trail-x in
        omega (arith, z, e)

    -- where the walks end
    pub end-in : (p.end ≤ length xs) × (p.end ≤ length ys)
    end-in = by p.last r.end_is
      where
        by : (t : Bool) → p.end ≡ cond t (length xs) (length xs - room (trail p)) → (p.end ≤ length xs) × (p.end ≤ length ys)
        by true e = let l = r.pair.long in (omega (arith, e), omega (arith, e, l))
        by false e = let l = r.pair.long in (omega (arith, e), omega (arith, e, l))

    end-eights : p.end % 8 ≡ 0
    end-eights = by p.last r.end_is
      where
        by : (t : Bool) → p.end ≡ cond t (length xs) (length xs - room (trail p)) → p.end % 8 ≡ 0
        by true e = ap (λ (n : ℕ). n % 8) e ∙ r.pair.eights
        by false e = ap (λ (n : ℕ). n % 8) e ∙ eight-less (length xs) (room (trail p)) r.pair.eights (trailer-eights p.kind p.a) room_in

    abbrev s : List ℕ
    s = take p.end xs

    abbrev t : List ℕ
    t = take p.end ys

    s-long : length s ≡ p.end
    s-long = length-take-le p.end xs end-in.0

    t-long : length t ≡ p.end
    t-long = length-take-le p.end ys end-in.1

    -- ---- one row

    module _ (i : Item) (ei : i ≡ item_of p.a p.misc p.kind (get_or rows p.row 0)) (l : p.row < p.to) where
      abbrev is : List Item
      is = map (item_of p.a p.misc p.kind) (slice (p.row + 1) p.to rows)

      items-are : items p ≡ i ∷ is
      items-are = rows_next (item_of p.a p.misc p.kind) p.row p.to l r.within ∙ ap (λ (j : Item). j ∷ is) (sym ei)

      steady-at : Steady s t (i ∷ is) p.w p.x p.c p.d
      steady-at = subst (λ (js : List Item). Steady s t js p.w p.x p.c p.d) items-are r.steady

      -- what passing the item asks for
      pub row-needs : ((p.c.at ≤ length s) × (p.d.at ≤ length t)) × (((p.c.why ≡ 0) × (p.d.why ≡ 0)) × (((step s i p.c).why ≡ 0) × ((step t i p.d).why ≡ 0)))
      row-needs =
          let a = step-fine s i is p.c steady-at.s-fine in
          let b = step-fine t i is p.d steady-at.t-fine in
          ((steady-at.s-in, steady-at.t-in), ((a.before, b.before), (a.after, b.after)))

      abbrev A : List Con
      A = fields_at s i p.w p.c

      abbrev B : List Con
      B = fields_at t i p.x p.d

      left_is : to_left p xs ≡ met s (i ∷ is) p.w p.c ++ later p xs
      left_is = ap (λ (js : List Item). met s js p.w p.c ++ later p xs) items-are

      right_is : to_right p ys ≡ met t (i ∷ is) p.x p.d ++ later p ys
      right_is = ap (λ (js : List Item). met t js p.x p.d ++ later p ys) items-are

      module _ (sx : small xs ≡ true) (sy : small ys ≡ true) (b : Both) (q : Passed s t i p.w p.x p.c p.d b) where
        es : length s % 8 ≡ 0
        es = ap (λ (n : ℕ). n % 8) s-long ∙ end-eights

        et : length t % 8 ≡ 0
        et = ap (λ (n : ℕ). n % 8) t-long ∙ end-eights

        -- the fields differ
        pub row_other : b.same ≡ false → (is_alike p xs ys ≡ false) × (is_field p xs ys ≡ p.k)
        row_other e =
            let o = turn-other s t (small-take p.end xs sx) (small-take p.end ys sy) es et i is p.w p.x p.c p.d steady-at (later p xs) (later p ys) (sym q.same-is ∙ e) in
            let n = open-field ∙ ap₂ (λ (a b : List Con). p.k + agree a b) left_is right_is in
            let o₀ = o.0 in
            (open-alike ∙ ap₂ (λ (a b : List Con). alike a b) left_is right_is ∙ o.1, omega (arith, n, o₀))

        -- or are equal, and on
        told-count : (c : Bool) (k : ℕ) → cond c (k + 1) k ≡ k + cond c 1 0
        told-count true k = refl
        told-count false k = omega arith

        pub row_same : b.same ≡ true → FieldsStand (is_alike p xs ys) (is_field p xs ys) xs ys (moved p b)
        unfolding is_alike is_field later flags
        row_same e =
            let ss = small-take p.end xs sx in
            let st = small-take p.end ys sy in
            let a = sym q.same-is ∙ e in
            let o = turn-same s t ss st es et i is p.w p.x p.c p.d steady-at (later p xs) (later p ys) a in
            let m = turn_on s t ss st es et i is p.w p.x p.c p.d steady-at a in
            let f : to_left (moved p b) xs ≡ met s is (content s i p.c).num (step s i p.c) ++ later p xs = ap₂ (λ (w : ℕ) (c : Cursor). met s is w c ++ later p xs) q.w-is q.c-is in
            let g : to_right (moved p b) ys ≡ met t is (content t i p.d).num (step t i p.d) ++ later p ys = ap₂ (λ (w : ℕ) (c : Cursor). met t is w c ++ later p ys) q.x-is q.d-is in
            let z = ap₂ (λ (a b : List Con). agree a b) f g in
            let y = open-field ∙ ap₂ (λ (a b : List Con). p.k + agree a b) left_is right_is in
            let o₀ = o.0 in
            let h = q.told_is in
            let u = told-count b.told p.k in
            let k : cond b.told (p.k + 1) p.k + agree (to_left (moved p b) xs) (to_right (moved p b) ys) ≡ is_field p xs ys = omega (arith, z, y, o₀, h, u) in
            record {
              test = ap₂ (λ (a b : List Con). alike a b) f g ∙ sym (open-alike ∙ ap₂ (λ (a b : List Con). alike a b) left_is right_is ∙ o.1);
              number = λ v. k;
              ready = λ v. record {
                pair = r.pair;
                going = refl;
                ordered = omega (arith, l);
                within = r.within;
                body = r.body;
                few = let w = r.few in by b.told w;
                end_is = r.end_is;
                steady = subst (λ (w : ℕ). Steady s t is w b.x b.c b.d) (sym q.w-is) (subst (λ (x : ℕ). Steady s t is (content s i p.c).num x b.c b.d) (sym q.x-is)
                    (subst (λ (c : Cursor). Steady s t is (content s i p.c).num (content t i p.d).num c b.d) (sym q.c-is) (subst (λ (c : Cursor). Steady s t is (content s i p.c).num (content t i p.d).num (step s i p.c) c) (sym q.d-is) m)));
              };
              shut = λ v. absurd (apart (sym v));
            }
          where
            by : (c : Bool) → p.k ≤ p.row + 5 → cond c (p.k + 1) p.k ≤ p.row + 1 + 5
            by true w = omega (arith, w)
            by false w = omega (arith, w)

        pub row-less : to_go (moved p b) < to_go p
        unfolding to_go
        row-less = rw d (let h : 1 + (cond p.last 0 all_rows + (p.to - (p.row + 1))) < 1 + (cond p.last 0 all_rows + (p.to - p.row)) = omega (arith, l) in h)

    -- ---- the rows are over

    module _ (l : p.to ≤ p.row) where
      none_left : items p ≡ []
      none_left =
          let o = r.ordered in
          let e : p.row ≡ p.to = omega (arith, l, o) in
          ap (λ (n : ℕ). map (item_of p.a p.misc p.kind) (slice n p.to rows)) e ∙ rows-over (item_of p.a p.misc p.kind) p.to

      left-later : to_left p xs ≡ later p xs
      unfolding met
      left-later = ap (λ (js : List Item). met s js p.w p.c ++ later p xs) none_left

      right-later : to_right p ys ≡ later p ys
      unfolding met
      right-later = ap (λ (js : List Item). met t js p.x p.d ++ later p ys) none_left

      -- of the body: the trailer's come
      module _ (b : p.last ≡ false) where
        end-start : p.end ≡ length xs - room (trail p)
        end-start = r.end_is ∙ ap (λ (v : Bool). cond v (length xs) (length xs - room (trail p))) b

        trail-items : items (trailing xs p) ≡ take 7 (trail p)
        trail-items = refl

        take-xs : take (length xs) xs ≡ xs
        take-xs = take_all (length xs) xs (omega arith)

        take-ys : take (length xs) ys ≡ ys
        take-ys = take_all (length xs) ys (let e = r.pair.long in omega (arith, e))

        left-trailing : to_left (trailing xs p) xs ≡ later p xs
        unfolding later flags
        left-trailing =
            ap₂ (λ (zs : List ℕ) (n : ℕ). met zs (take 7 (trail p)) 0 (origin n) ++ flags p xs) take-xs end-start
            ∙ ap (λ (v : Bool). cond v (flags p xs) (met xs (take 7 (trail p)) 0 (origin (length xs - room (trail p))) ++ flags p xs)) (sym b)

        right-trailing : to_right (trailing xs p) ys ≡ later p ys
        unfolding later flags
        right-trailing =
            ap₂ (λ (zs : List ℕ) (n : ℕ). met zs (take 7 (trail p)) 0 (origin n) ++ flags p ys) take-ys (end-start ∙ ap (λ (n : ℕ). n - room (trail p)) (sym r.pair.long))
            ∙ ap (λ (v : Bool). cond v (flags p ys) (met ys (take 7 (trail p)) 0 (origin (length ys - room (trail p))) ++ flags p ys)) (sym b)

        trail-steady : Steady (take (length xs) xs) (take (length xs) ys) (take 7 (trail p)) 0 0 (origin p.end) (origin p.end)
        trail-steady =
            let g = r.pair in
            let z = tail-steady p.a xs ys g.x-fine g.y-fine (sym g.y-kind ∙ g.x-kind) (sym g.y-misc ∙ g.x-misc) g.long g.marked in
            let z₁ = subst (λ (js : List Item). Steady xs ys (take 7 js) 0 0 (origin (length xs - room js)) (origin (length xs - room js))) trail-x z in
            let z₂ = subst (λ (n : ℕ). Steady xs ys (take 7 (trail p)) 0 0 (origin n) (origin n)) (sym end-start) z₁ in
            subst (λ (zs : List ℕ). Steady zs (take (length xs) ys) (take 7 (trail p)) 0 0 (origin p.end) (origin p.end)) (sym take-xs)
            (subst (λ (zs : List ℕ). Steady xs zs (take 7 (trail p)) 0 0 (origin p.end) (origin p.end)) (sym take-ys) z₂)

        pub trailing-stands : FieldsStand (is_alike p xs ys) (is_field p xs ys) xs ys (trailing xs p)
        unfolding is_alike is_field
        trailing-stands = record {
          test = ap₂ (λ (a b : List Con). alike a b) (left-trailing ∙ sym left-later) (right-trailing ∙ sym right-later) ∙ sym open-alike;
          number = λ v. ap₂ (λ (a b : List Con). p.k + agree a b) (left-trailing ∙ sym left-later) (right-trailing ∙ sym right-later) ∙ sym open-field;
          ready = λ v. record {
            pair = r.pair;
            going = refl;
            ordered = omega arith;
            within = omega arith;
            body = λ v. absurd (apart (sym v));
            few = let w = r.few in let v = r.body b in let u = r.ordered in omega (arith, w, v, u);
            end_is = refl;
            steady = trail-steady;
          };
          shut = λ v. absurd (apart (sym v));
        }

        pub trailing-less : to_go (trailing xs p) < to_go p
        unfolding to_go
        trailing-less = rw (d, b) (let h : 1 + (0 + (all_rows - 1 - field_rows)) < 1 + (all_rows + (p.to - p.row)) = omega arith in h)

      -- of the trailer: the flag
      module _ (b : p.last ≡ true) where
        later-flag : (zs : List ℕ) → later p zs ≡ flags p zs
        unfolding later
        later-flag zs = ap (λ (v : Bool). cond v (flags p zs) (met zs (take 7 (trail p)) 0 (origin (length zs - room (trail p))) ++ flags p zs)) b

        flags-alike : is_alike p xs ys ≡ alike (flags p xs) (flags p ys)
        flags-alike = open-alike ∙ ap₂ (λ (a b : List Con). alike a b) (left-later ∙ later-flag xs) (right-later ∙ later-flag ys)

        flags-field : is_field p xs ys ≡ p.k + agree (flags p xs) (flags p ys)
        flags-field = open-field ∙ ap₂ (λ (a b : List Con). p.k + agree a b) (left-later ∙ later-flag xs) (right-later ∙ later-flag ys)

        pub flag-nameless : flag_at p.kind ≡ 0 → is_alike p xs ys ≡ true
        unfolding flags alike
        flag-nameless z = flags-alike ∙ rw (flag-none p.kind p.misc p.a z) refl

        flag-x : record_flag p.a xs ≡ flag_by (schema p.kind p.misc p.a) (room (trail p)) xs
        flag-x = ap₂ (λ (k m : ℕ). flag_by (schema k m p.a) (room (trailer k p.a)) xs) (sym r.pair.x-kind) (sym r.pair.x-misc)

        flag-y : record_flag p.a ys ≡ flag_by (schema p.kind p.misc p.a) (room (trail p)) ys
        flag-y = ap₂ (λ (k m : ℕ). flag_by (schema k m p.a) (room (trailer k p.a)) ys) (sym r.pair.y-kind) (sym r.pair.y-misc)

        -- 44 and 44, or 0 and 0, where the flags are the same
        two-flags : (u v : Bool) → eqb (cond (eqb (cond u 1 0) 0) 0 44) (cond (eqb (cond v 1 0) 0) 0 44) ≡ alike (one (cond u 1 0) ∷ []) (one (cond v 1 0) ∷ [])
        unfolding alike same same_bytes
        two-flags true true = refl
        two-flags true false = refl
        two-flags false true = refl
        two-flags false false = refl

        no_agree : (m n : ℕ) → alike (one m ∷ []) (one n ∷ []) ≡ false → agree (one m ∷ []) (one n ∷ []) ≡ 0
        unfolding alike agree
        no_agree m n e = by (same (one m) (one n)) e
          where
            by : (t : Bool) → t && true ≡ false → ◌≡◌ {A = ℕ} (cond t 1 0) 0
            by true e = absurd (apart (sym e))
            by false e = refl

        module _ (n : flag_at p.kind ≡ 0 → ⊥) where
          has-name : named (schema p.kind p.misc p.a) ≡ true
          has-name = (flag-some p.kind p.misc p.a n).0

          flags-are : (zs : List ℕ) → flags p zs ≡ one (flag_by (schema p.kind p.misc p.a) (room (trail p)) zs) ∷ []
          unfolding flags
          flags-are zs = ap (λ (v : Bool). cond v (one (flag_by (schema p.kind p.misc p.a) (room (trail p)) zs) ∷ []) []) has-name

          pub flag-test : eqb (or_dirty 0 p.a xs) (or_dirty 0 p.a ys) ≡ is_alike p xs ys
          unfolding or_dirty flag_by
          flag-test =
              ap₂ (λ (m k : ℕ). eqb (cond (eqb m 0) 0 44) (cond (eqb k 0) 0 44)) flag-x flag-y
              ∙ two-flags (dirty (fields_of (room (trail p)) xs) (schema p.kind p.misc p.a) (origin 8)) (dirty (fields_of (room (trail p)) ys) (schema p.kind p.misc p.a) (origin 8))
              ∙ sym (flags-alike ∙ ap₂ (λ (a b : List Con). alike a b) (flags-are xs) (flags-are ys))

          -- and so are the tests of the flags
          same-flags : (u v : Bool) → u ≡ v → eqb (cond (eqb (cond u 1 0) 0) 0 44) (cond (eqb (cond v 1 0) 0) 0 44) ≡ true
          same-flags u true e = rw e
          same-flags u false e = rw e

          other-flags : (u v : Bool) → (u ≡ v → ⊥) → eqb (cond (eqb (cond u 1 0) 0) 0 44) (cond (eqb (cond v 1 0) 0) 0 44) ≡ false
          other-flags true true n = absurd (n refl)
          other-flags true false n = refl
          other-flags false true n = refl
          other-flags false false n = absurd (n refl)

          pub flags-same : name_dirty p.a xs ≡ name_dirty p.a ys → is_alike p xs ys ≡ true
          unfolding or_dirty flag_by
          flags-same e = sym flag-test ∙ same-flags (name_dirty p.a xs) (name_dirty p.a ys) e

          pub flags-other : (name_dirty p.a xs ≡ name_dirty p.a ys → ⊥) → is_alike p xs ys ≡ false
          unfolding or_dirty flag_by
          flags-other n = sym flag-test ∙ other-flags (name_dirty p.a xs) (name_dirty p.a ys) n

          pub flag-number : is_alike p xs ys ≡ false → p.k ≡ is_field p xs ys
          flag-number e =
              let f = flags-field ∙ ap₂ (λ (a b : List Con). p.k + agree a b) (flags-are xs) (flags-are ys) in
              let g = no_agree (flag_by (schema p.kind p.misc p.a) (room (trail p)) xs) (flag_by (schema p.kind p.misc p.a) (room (trail p)) ys)
              (sym (flags-alike ∙ ap₂ (λ (a b : List Con). alike a b) (flags-are xs) (flags-are ys)) ∙ e) in
              omega (arith, f, g)

  -- what the flag of an accepted record asks for
  pub pair-accepted : (kind misc : ℕ) (a : Attributes) → Pair xs ys kind misc a → Accepted a xs (kind_of xs) × Accepted a ys (kind_of ys)
  pair-accepted kind misc a g = (
    record { kind-is = refl; eights = g.eights; answer-is = g.x-fine },
    record { kind-is = refl; eights = ap (λ (n : ℕ). n % 8) g.long ∙ g.eights; answer-is = g.y-fine },
  )

  -- ---- the start

  module _ (kind misc : ℕ) (a : Attributes) (g : Pair xs ys kind misc a) (k : Known) (row to : ℕ) (o : row ≤ to) (w : to ≤ field_rows)
      (e : map (item_of a misc kind) (slice row to rows) ≡ drop (first kind) (schema kind misc a)) where
    abbrev q : Pos
    q = begun_at xs kind misc a row to

    start-steady : Steady (take q.end xs) (take q.end ys) (items q) 0 0 q.c q.d
    start-steady =
        let z = body-steady a xs ys g.x-fine g.y-fine (sym g.y-kind ∙ g.x-kind) (sym g.y-misc ∙ g.x-misc) g.long g.marked in
        let z₁ = subst (λ (j : ℕ). Steady (take (length xs - room (trailer j a)) xs) (take (length xs - room (trailer j a)) ys) (drop (first j) (schema j (misc_of xs) a)) 0 0 (origin (8 + 8 * first j)) (origin (8 + 8 * first j)))
        (sym g.x-kind) z in
        let z₂ = subst (λ (m : ℕ). Steady (take q.end xs) (take q.end ys) (drop (first kind) (schema kind m a)) 0 0 q.c q.d) (sym g.x-misc) z₁ in
        subst (λ (js : List Item). Steady (take q.end xs) (take q.end ys) js 0 0 q.c q.d) (sym e) z₂

    abbrev Met : List ℕ → ℕ → ℕ → List Con
    Met zs j m =
        met (take (length zs - room (trailer j a)) zs) (drop (first j) (schema j m a)) 0 (origin (8 + 8 * first j))
        ++ (met zs (take 7 (trailer j a)) 0 (origin (length zs - room (trailer j a))) ++ cond (named (schema j m a)) (one (flag_by (schema j m a) (room (trailer j a)) zs) ∷ []) [])

    left-start : to_left q xs ≡ other_fields (layout k a) (value (layout k a) xs)
    unfolding later flags fields_of
    left-start =
        ap (λ (js : List Item). met (take q.end xs) js 0 q.c ++ later q xs) e
        ∙ ap₂ (λ (j m : ℕ). Met xs j m) g.x-kind g.x-misc
        ∙ sym (others-met a xs g.x-fine g.marked k)

    right-start : to_right q ys ≡ other_fields (layout k a) (value (layout k a) ys)
    unfolding later flags fields_of
    right-start =
        ap (λ (js : List Item). met (take q.end ys) js 0 q.d ++ later q ys) e
        ∙ ap (λ (n : ℕ). met (take (n - room (trailer kind a)) ys) (drop (first kind) (schema kind misc a)) 0 q.d ++ later q ys) (sym g.long)
        ∙ ap₂ (λ (j m : ℕ). Met ys j m) g.y-kind g.y-misc
        ∙ sym (others-met a ys g.y-fine g.marked k)

    start-stands : (b : Bool) (n : ℕ) → b ≡ alike (other_fields (layout k a) (value (layout k a) xs)) (other_fields (layout k a) (value (layout k a) ys))
        → n ≡ 5 + agree (other_fields (layout k a) (value (layout k a) xs)) (other_fields (layout k a) (value (layout k a) ys)) → FieldsStand b n xs ys q
    unfolding is_alike is_field
    start-stands b n eb en = record {
      test = ap₂ (λ (u v : List Con). alike u v) left-start right-start ∙ sym eb;
      number = λ z. ap₂ (λ (u v : List Con). 5 + agree u v) left-start right-start ∙ sym en;
      ready = λ z. record { pair = g; going = refl; ordered = o; within = omega (arith, w); body = λ v. w; few = omega arith; end_is = refl; steady = start-steady };
      shut = λ z. absurd (apart (sym z));
    }

  pub begun-stands : (kind misc : ℕ) (a : Attributes) (k : Known) (p : Pos) (b : Bool) (n : ℕ) → Pair xs ys kind misc a → Begun xs kind misc a p
      → b ≡ alike (other_fields (layout k a) (value (layout k a) xs)) (other_fields (layout k a) (value (layout k a) ys))
      → n ≡ 5 + agree (other_fields (layout k a) (value (layout k a) xs)) (other_fields (layout k a) (value (layout k a) ys)) → FieldsStand b n xs ys p
  begun-stands kind misc a k p b n g h eb en =
      subst (FieldsStand b n xs ys) (sym h.is) (start-stands kind misc a g k p.row p.to h.ordered h.within h.layout_is b n eb en)
