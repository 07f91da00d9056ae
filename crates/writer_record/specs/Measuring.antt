-- What the two loops that test say of `fits`. Assumes nothing.
use Rattle.std.specs.Prelude.{◌≡◌, Bool, false, cond, not, ◌&&◌, ◌||◌, drop, get_or, leb, eqb, ltb}
use Rattle.std.proofs.Math.Path.{refl, sym, ap, subst}
use Rattle.std.proofs.Common.{ap₂, ◌∙◌, arith, leb-true, le-leb, ltb-true, eqb-true, eq-eqb, lt-ltb}
use Prim.Native.Nat.{ℕ, suc, ◌%◌, ◌^◌, ◌≤◌}
use Rattle.std.proofs.Math.Bool.{true, and-false}
use mathlib.Core.List.{List, [], ◌∷◌}
use Rattle.std.proofs.Math.ListN.{length, length-append}
use Rattle.meaning.specs.declared.Attributes.{Attributes}
use Rattle.meaning.specs.States.{Cursor}
use Rattle.meaning.specs.declared.Item.{Item}
use Rattle.meaning.specs.declared.Shape.{Shape}
use Rattle.meaning.specs.declared.Shape.TheVariants.{Number, Ignored, Count, Size, Times, Earlier, Registers, Filled, Abi, Limit, Listed, Bytes, Pad, Name}
use Rattle.meaning.specs.Bytes.{all_zero}
use Rattle.meaning.specs.Items.{Con}
use Rattle.meaning.specs.Writing.{next, nexts, fit, write}
use Rattle.meaning.specs.Records.{Value, fixed_shape, fixed, origin, header, field_bytes, written, fits_by}
use Rattle.meaning.specs.Values.{Slot, lists, held, means, beyond, any_beyond, slots_told, spare_by, body_words, trail_words}
use Rattle.laws.specs.Bytes.{apart, and-true, true-and}
use Rattle.laws.specs.There.{next-why}
use Rattle.laws.specs.Whole.{header-length}
use Rattle.laws.specs.More.{nexts-at, fields-end, record-end}
use Rattle.meaning.specs.Schema.{trailer}
use Rattle.writer_parts.specs.declared.TypePart.{TypePart}
use Rattle.meaning.specs.declared.Spot.{Spot}
use Rattle.writer_words.specs.Tellings.{start_at}
use Rattle.writer_items.specs.Tries.{unfit, fits_item, good, most_bytes}
use Rattle.writer_parts.specs.Parts.{try_items, items_from, slots_from, Lays}
use Rattle.writer_record.specs.Measures.{value_meant, measured}
use Rattle.writer_parts.specs.Turns.{good-parts, no-state, tried-is}

pub slots_length : (is : List Item) (ws : List ℕ) (n old : ℕ) → length (slots_told is ws n old) ≡ length is
unfolding slots_told
slots_length [] ws n old = refl
slots_length (i ∷ is) ws n old = ap suc (slots_length is _ _ _)

-- a walk that ends as a state: every item fits
pub tried-fit : (src : List ℕ) (is : List Item) (ss : List Slot) (c : Cursor) → length ss ≡ length is → (try_items src is ss c).why ≡ 0 → fit is (means src is ss) c ≡ true
unfolding try_items fit means
tried-fit src [] ss c l z = refl
tried-fit src (i ∷ is) [] c l z = absurd (omega (arith, l))
tried-fit src (i ∷ is) (s ∷ ss) c l z =
    let u = no-state (good src i s c) (try_items src is ss (next i (held src i s) c)) z in
    let n : length ss ≡ length is = omega (arith, l) in
    true-and (fits_item src i s c) _ (good-parts src i s c u.0).0
    (tried-fit src is ss (next i (held src i s) c) n (ap (λ (x : Cursor). x.why) (sym u.1) ∙ z))

or_parts : (a b : Bool) → a || b ≡ false → (a ≡ false) × (b ≡ false)
or_parts true b h = absurd (apart (sym h))
or_parts false b h = (refl, h)

-- and the other way: where every item fits, none passes the source's end, and the end lies where a record's may, the walk ends as a state
pub fit-tried : (src : List ℕ) (is : List Item) (ss : List Slot) (c : Cursor) → c.why ≡ 0 → fit is (means src is ss) c ≡ true → any_beyond src is ss ≡ false
    → (nexts is (means src is ss) c).at ≤ most_bytes → (try_items src is ss c).why ≡ 0
unfolding try_items fit means any_beyond nexts good
fit-tried src [] ss c w f o m = w
fit-tried src (i ∷ is) [] c w f o m = w
fit-tried src (i ∷ is) (s ∷ ss) c w f o m =
    let v : Con = held src i s in
    let p = and-true (fits_item src i s c) (fit is (means src is ss) (next i v c)) f in
    let q = or_parts (beyond src i s) (any_beyond src is ss) o in
    let n = nexts-at is (means src is ss) (next i v c) in
    let g : good src i s c ≡ true =
    true-and (fits_item src i s c) _ p.0 (true-and (not (beyond src i s)) _ (ap not q.0) (le-leb (next i v c).at most_bytes (omega (arith, n, m)))) in
    let r = fit-tried src is ss (next i v c) (next-why i.on i.shape v c ∙ w) p.1 q.1 m in
    ap (λ (b : Bool). (cond b (try_items src is ss (next i v c)) unfit).why) g ∙ r

-- a trailer has no lists
fixed-lists : (sh : Shape) → fixed_shape sh ≡ true → lists sh ≡ false
unfolding fixed_shape lists
fixed-lists (Number w) e = refl
fixed-lists (Ignored k) e = refl
fixed-lists (Count w) e = absurd (apart e)
fixed-lists (Size w) e = absurd (apart e)
fixed-lists (Times k) e = absurd (apart e)
fixed-lists (Earlier k) e = absurd (apart e)
fixed-lists Registers e = absurd (apart e)
fixed-lists Filled e = absurd (apart e)
fixed-lists (Abi m) e = absurd (apart e)
fixed-lists (Limit k) e = absurd (apart e)
fixed-lists (Listed k) e = absurd (apart e)
fixed-lists (Bytes k) e = absurd (apart e)
fixed-lists Pad e = absurd (apart e)
fixed-lists Name e = absurd (apart e)

and_none : (a : Bool) (b : Bool) → (a && false) && b ≡ false
and_none true b = refl
and_none false b = refl

pub fixed-inside : (src : List ℕ) (ts : List Item) (ss : List Slot) → fixed ts ≡ true → any_beyond src ts ss ≡ false
unfolding fixed any_beyond beyond
fixed-inside src [] ss f = refl
fixed-inside src (i ∷ ts) [] f = refl
fixed-inside src (i ∷ ts) (s ∷ ss) f =
    let p = and-true (fixed_shape i.shape) (fixed ts) f in
    rw (fixed-lists i.shape p.0, and_none i.on) (fixed-inside src ts ss p.1)

-- what a value that fits is
pub record Fits (is ts : List Item) (v : Value) : Type 0 where
  pub kind : v.kind ≤ 4294967295
  pub misc : v.misc ≤ 65535
  pub body : fit is v.body (origin 8) ≡ true
  pub tail : fit ts v.tail (origin (length (field_bytes is v))) ≡ true
  pub size : v.size ≡ length (written is ts v)
  pub most : v.size ≤ most_bytes
  pub eights : v.size % 8 ≡ 0

pub fits-parts : (is ts : List Item) (v : Value) → fits_by is ts v ≡ true → Fits is ts v
unfolding fits_by
fits-parts is ts v f =
    let q = and-true (ltb v.kind (256 ^ 4) && (ltb v.misc (256 ^ 2) && ltb v.size (256 ^ 2))) _ f in
    let r = and-true (ltb v.kind (256 ^ 4)) _ q.0 in
    let s = and-true (ltb v.misc (256 ^ 2)) (ltb v.size (256 ^ 2)) r.1 in
    let t = and-true (fit is v.body (origin 8) && fit ts v.tail (origin (length (field_bytes is v)))) _ q.1 in
    let u = and-true (fit is v.body (origin 8)) _ t.0 in
    let w = and-true (eqb v.size (length (written is ts v))) (eqb (v.size % 8) 0) t.1 in
    let k = ltb-true v.kind (256 ^ 4) r.0 in
    let m = ltb-true v.misc (256 ^ 2) s.0 in
    let n = ltb-true v.size (256 ^ 2) s.1 in
    record { kind = omega (arith, k); misc = omega (arith, m); body = u.0; tail = u.1; size = eqb-true _ _ w.0; most = omega (arith, n); eights = eqb-true _ _ w.1 }

pub parts-fit : (is ts : List Item) (v : Value) → Fits is ts v → fits_by is ts v ≡ true
unfolding fits_by
parts-fit is ts v f =
    let k = f.kind in
    let m = f.misc in
    let n = f.most in
    true-and _ _ (true-and _ _ (lt-ltb v.kind (256 ^ 4) (omega (arith, k))) (true-and _ _ (lt-ltb v.misc (256 ^ 2) (omega (arith, m))) (lt-ltb v.size (256 ^ 2) (omega (arith, n)))))
    (true-and _ _ (true-and _ _ f.body f.tail) (true-and _ _ (eq-eqb _ _ f.size) (eq-eqb _ _ f.eights)))

pub never : (b : Bool) → (b ≡ true → ⊥) → b ≡ false
never true n = absurd (n refl)
never false n = refl

-- a walk that ends as a state ends where a record may
pub tried-most : (src : List ℕ) (is : List Item) (ss : List Slot) (c : Cursor) → c.at ≤ most_bytes → (try_items src is ss c).why ≡ 0 → (try_items src is ss c).at ≤ most_bytes
unfolding try_items
tried-most src [] ss c m z = m
tried-most src (i ∷ is) [] c m z = m
tried-most src (i ∷ is) (s ∷ ss) c m z =
    let u = no-state (good src i s c) (try_items src is ss (next i (held src i s) c)) z in
    subst (λ (x : Cursor). x.at ≤ most_bytes) (sym u.1)
    (tried-most src is ss (next i (held src i s) c) (good-parts src i s c u.0).2 (ap (λ (x : Cursor). x.why) (sym u.1) ∙ z))

-- a record has a header
pub long-enough : (is ts : List Item) (v : Value) → 8 ≤ length (written is ts v)
unfolding written field_bytes
long-enough is ts v =
    let h = header-length v in
    let F : List ℕ = field_bytes is v in
    let e = length-append F (write ts v.tail (origin (length F))) in
    let d = length-append (header v) (write is v.body (origin 8)) in
    omega (arith, h, e, d)

module _ (is ts : List Item) (src ws : List ℕ) (plain : fixed ts ≡ true) (inside : any_beyond src is (slots_told is (drop body_words ws) 0 0) ≡ false) (c₁ : Cursor)
    (e₁ : c₁ ≡ try_items src is (slots_from is (start_at body_words) ws) (origin 8)) where
  unmeasured : (fits_by is ts (value_meant is ts src ws) ≡ true → ⊥) → 0 ≡ measured is ts src ws
  unfolding measured
  unmeasured n = rw (never (fits_by is ts (value_meant is ts src ws)) n, and-false (all_zero (spare_by is ts ws)))

  pub bad-body : (c₁.why ≡ 0 → ⊥) → 0 ≡ measured is ts src ws
  unfolding value_meant slots_from
  bad-body n =
      unmeasured (λ t. let f = fits-parts is ts (value_meant is ts src ws) t in
      let a = fields-end is (value_meant is ts src ws) in
      let b = record-end is ts (value_meant is ts src ws) in
      let d = nexts-at ts (value_meant is ts src ws).tail (origin (length (field_bytes is (value_meant is ts src ws)))) in
      let p = f.size in
      let q = f.most in
      n (ap (λ (x : Cursor). x.why) e₁ ∙ fit-tried src is (slots_told is (drop body_words ws) 0 0) (origin 8) refl f.body inside (omega (arith, a, b, d, p, q))))

  module _ (z₁ : c₁.why ≡ 0) (c₂ : Cursor) (e₂ : c₂ ≡ try_items src ts (slots_from ts (start_at trail_words) ws) (origin c₁.at)) where
    fields_at : length (field_bytes is (value_meant is ts src ws)) ≡ c₁.at
    unfolding value_meant slots_from
    fields_at =
        fields-end is (value_meant is ts src ws)
        ∙ ap (λ (x : Cursor). x.at) (sym (e₁ ∙ tried-is src is (slots_told is (drop body_words ws) 0 0) (origin 8) (ap (λ (x : Cursor). x.why) (sym e₁) ∙ z₁)))

    pub bad-tail : (c₂.why ≡ 0 → ⊥) → 0 ≡ measured is ts src ws
    unfolding value_meant slots_from
    bad-tail n =
        unmeasured (λ t. let f = fits-parts is ts (value_meant is ts src ws) t in
        let ss : List Slot = slots_told ts (drop trail_words ws) 0 0 in
        let o : ℕ = length (field_bytes is (value_meant is ts src ws)) in
        let b = record-end is ts (value_meant is ts src ws) in
        let p = f.size in
        let q = f.most in
        let g : (try_items src ts ss (origin o)).why ≡ 0 = fit-tried src ts ss (origin o) refl f.tail (fixed-inside src ts ss plain) (omega (arith, b, p, q)) in
        n (ap (λ (x : Cursor). x.why) (e₂ ∙ ap (λ (k : ℕ). try_items src ts ss (origin k)) (sym fields_at)) ∙ g))

    module _ (z₂ : c₂.why ≡ 0) (m₁ : c₁.at ≤ most_bytes) where
      pub end-at : length (written is ts (value_meant is ts src ws)) ≡ c₂.at
      unfolding value_meant slots_from
      end-at =
          let ss : List Slot = slots_told ts (drop trail_words ws) 0 0 in
          let o : ℕ = length (field_bytes is (value_meant is ts src ws)) in
          let q : c₂ ≡ try_items src ts ss (origin o) = e₂ ∙ ap (λ (k : ℕ). try_items src ts ss (origin k)) (sym fields_at) in
          record-end is ts (value_meant is ts src ws)
          ∙ ap (λ (x : Cursor). x.at) (sym (q ∙ tried-is src ts ss (origin o) (ap (λ (x : Cursor). x.why) (sym q) ∙ z₂)))

      end-most : c₂.at ≤ most_bytes
      unfolding slots_from
      end-most =
          let ss : List Slot = slots_told ts (drop trail_words ws) 0 0 in
          subst (λ (x : Cursor). x.at ≤ most_bytes) (sym e₂) (tried-most src ts ss (origin c₁.at) m₁ (ap (λ (x : Cursor). x.why) (sym e₂) ∙ z₂))

      -- the tests of the header and of the other words
      pub record Right : Type 0 where
        pub kind : get_or ws 0 0 ≤ 4294967295
        pub misc : get_or ws 1 0 ≤ 65535
        pub size : get_or ws 2 0 ≡ c₂.at
        pub eights : get_or ws 2 0 % 8 ≡ 0
        pub spared : all_zero (spare_by is ts ws) ≡ true

      pub measured-right : Right → c₂.at ≡ measured is ts src ws
      unfolding measured value_meant slots_from
      measured-right r =
          let ss : List Slot = slots_told is (drop body_words ws) 0 0 in
          let tt₁ : List Slot = slots_told ts (drop trail_words ws) 0 0 in
          let m = end-most in
          let s = r.size in
          let o : ℕ = length (field_bytes is (value_meant is ts src ws)) in
          let q : c₂ ≡ try_items src ts tt₁ (origin o) = e₂ ∙ ap (λ (k : ℕ). try_items src ts tt₁ (origin k)) (sym fields_at) in
          let f : fits_by is ts (value_meant is ts src ws) ≡ true = parts-fit is ts (value_meant is ts src ws) (record {
            kind = r.kind;
            misc = r.misc;
            body = tried-fit src is ss (origin 8) (slots_length is (drop body_words ws) 0 0) (ap (λ (x : Cursor). x.why) (sym e₁) ∙ z₁);
            tail = tried-fit src ts tt₁ (origin o) (slots_length ts (drop trail_words ws) 0 0) (ap (λ (x : Cursor). x.why) (sym q) ∙ z₂);
            size = s ∙ sym end-at;
            most = omega (arith, m, s);
            eights = r.eights;
          }) in
          sym (rw (f, r.spared) end-at)

      pub measured-wrong : (Right → ⊥) → 0 ≡ measured is ts src ws
      unfolding measured value_meant
      measured-wrong n =
          rw (never (all_zero (spare_by is ts ws) && fits_by is ts (value_meant is ts src ws)) (λ t.
          let u = and-true (all_zero (spare_by is ts ws)) (fits_by is ts (value_meant is ts src ws)) t in
          let f = fits-parts is ts (value_meant is ts src ws) u.1 in
          n (record { kind = f.kind; misc = f.misc; size = f.size ∙ end-at; eights = f.eights; spared = u.0 })))

      module _ (kind misc size : ℕ) (spare : Bool) (eₖ : kind ≡ get_or ws 0 0) (eₘ : misc ≡ get_or ws 1 0) (eₛ : size ≡ get_or ws 2 0) (eₚ : spare ≡ all_zero (spare_by is ts ws)) where
        abbrev tests : Bool
        tests = ((leb kind 4294967295 && leb misc 65535) && (eqb size c₂.at && eqb (size % 8) 0)) && spare

        pub measured-yes : tests ≡ true → c₂.at ≡ measured is ts src ws
        measured-yes h =
            let p = and-true ((leb kind 4294967295 && leb misc 65535) && (eqb size c₂.at && eqb (size % 8) 0)) spare h in
            let q = and-true (leb kind 4294967295 && leb misc 65535) (eqb size c₂.at && eqb (size % 8) 0) p.0 in
            let r = and-true (leb kind 4294967295) (leb misc 65535) q.0 in
            let s = and-true (eqb size c₂.at) (eqb (size % 8) 0) q.1 in
            let k = leb-true kind 4294967295 r.0 in
            let m = leb-true misc 65535 r.1 in
            measured-right (record {
              kind = omega (arith, k, eₖ);
              misc = omega (arith, m, eₘ);
              size = sym eₛ ∙ eqb-true size c₂.at s.0;
              eights = ap (λ (n : ℕ). n % 8) (sym eₛ) ∙ eqb-true (size % 8) 0 s.1;
              spared = sym eₚ ∙ p.1;
            })

        pub measured-no : tests ≡ false → 0 ≡ measured is ts src ws
        measured-no h = measured-wrong (λ r. apart (sym h ∙ (let k = r.kind in let m = r.misc in
            true-and _ _ (true-and _ _ (true-and _ _ (le-leb kind 4294967295 (omega (arith, k, eₖ))) (le-leb misc 65535 (omega (arith, m, eₘ))))
            (true-and _ _ (eq-eqb size c₂.at (eₛ ∙ r.size)) (eq-eqb (size % 8) 0 (ap (λ (n : ℕ). n % 8) eₛ ∙ r.eights)))) (eₚ ∙ r.spared))))

-- the code's loop over a part is the walk over the part's items
pub tried-lays : (src ws : List ℕ) (p : TypePart) (a : Attributes) (kind : ℕ) (is : List Item) (first f : Spot) (start o c : Cursor) → Lays p a kind is → first ≡ f → start ≡ o
    → c ≡ try_items src (items_from p p.from) (slots_from (items_from p p.from) first ws) start → c ≡ try_items src is (slots_from is f ws) o
tried-lays src ws p a kind is first f start o c l e₁ e₂ e =
    e ∙ ap (λ (x : List Item). try_items src x (slots_from x first ws) start) l.items
    ∙ ap₂ (λ (x : Spot) (y : Cursor). try_items src is (slots_from is x ws) y) e₁ e₂

pub spare-lays : (ws : List ℕ) (p : TypePart) (a : Attributes) (kind : ℕ) (is : List Item) (r : Bool) → Lays p a kind is
    → r ≡ all_zero (spare_by (items_from p p.from) (trailer p.kind p.attributes) ws) → r ≡ all_zero (spare_by is (trailer kind a) ws)
spare-lays ws p a kind is r l e =
    e ∙ ap (λ (x : List Item). all_zero (spare_by x (trailer p.kind p.attributes) ws)) l.items
    ∙ ap₂ (λ (x : ℕ) (y : Attributes). all_zero (spare_by is (trailer x y) ws)) l.kind l.attributes
