-- A whole record beside an accepted one: where all bytes are the same but the ignored ones, and the flags of their names, it is accepted too, with the same value. Assumes nothing.
use Rattle.std.specs.Prelude.{◌≡◌, refl, Bool, true, false, List, ℕ, ◌+◌, ◌-◌, ◌≤◌, take, eqb}
use Rattle.std.proofs.Math.Path.{sym, ap, ap₂}
use Rattle.std.proofs.Common.{◌∙◌, arith, length-take-le}
use Rattle.std.proofs.Math.Bool.{cond}
use Rattle.std.proofs.Math.ListN.{length}
use Rattle.meaning.specs.declared.Attributes.{Attributes}
use Rattle.meaning.specs.States.{Cursor}
use Rattle.meaning.specs.declared.Item.{Item}
use Rattle.meaning.specs.Items.{walk, contents}
use Rattle.meaning.specs.Schema.{schema, trailer}
use Rattle.meaning.specs.Records.{layout, room, kind_of, misc_of, origin, fields_of, fields_answer, body_of, tail_of, flag_by, flag_of, value}
use Rattle.laws.specs.Bytes.{apart, and-true}
use Rattle.laws.specs.Answers.{fields-zero, fields-pass}
use Rattle.laws.specs.Every.{trailer-fixed}
use Rattle.laws.specs.Fixed.{fixed-run}
use Rattle.record.specs.Into.{or_dirty, record_flag, name_dirty}
use Rattle.twins.specs.Twins.{Twins, Beside, Like}
use Rattle.same_parts.specs.Parts.{around_res, body_same}
use Rattle.twins.specs.Same.{trail_bits, trail_before, same_but}
use Rattle.twins.proofs.ByType.{body-twins, trail-twins}

-- its flag, by record check's 44
flag-back : (u v : Bool) → eqb (cond (eqb (cond u 1 0) 0) 0 44) (cond (eqb (cond v 1 0) 0) 0 44) ≡ true → u ≡ v
flag-back true true e = refl
flag-back true false e = absurd (apart e)
flag-back false true e = absurd (apart e)
flag-back false false e = refl

module _ (xs ys : List ℕ) (kind misc : ℕ) (a : Attributes) (g : Beside xs ys kind misc a) where
  abbrev B : List Item
  B = schema kind misc a

  abbrev R : List Item
  R = trailer kind a

  abbrev end : ℕ
  end = length xs - room R

  fine-here : fields_answer B (room R) xs ≡ 0
  fine-here = ap₂ (λ (k m : ℕ). fields_answer (schema k m a) (room (trailer k a)) xs) g.x-kind g.x-misc ∙ g.fine

  pub room-there : 8 + room R ≤ length xs
  room-there = (fields-zero B (room R) xs fine-here).0

  -- what the walk over the body asks for
  body-fine : (walk (take end xs) B (origin 8)).why ≡ 0
  unfolding fields_of
  body-fine = (fields-zero B (room R) xs fine-here).1

  pub body-long : (length (take end xs) ≡ end) × (length (take end ys) ≡ length (take end xs))
  body-long =
      let r = room-there in
      let l = g.long in
      let p = length-take-le end xs (omega arith) in
      let q = length-take-le end ys (omega (arith, l)) in
      (p, q ∙ sym p)

  -- and that over the trailer
  trailer-fine : (walk xs R (origin end)).why ≡ 0
  trailer-fine = let r = room-there in (fixed-run R xs (origin end) (trailer-fixed kind a) refl (omega (arith, r))).0

  module _ (w : Twins (take end xs) (take end ys) B (origin 8)) where
    y-here : fields_answer B (room R) ys ≡ 0
    unfolding fields_of
    y-here =
        let l = g.long in
        let r = room-there in
        let z = fields-zero B (room R) xs fine-here in
        let e : length ys - room R ≡ end = ap (λ (n : ℕ). n - room R) l in
        let f : walk (take (length ys - room R) ys) B (origin 8) ≡ walk (take end xs) B (origin 8) = ap (λ (n : ℕ). walk (take n ys) B (origin 8)) e ∙ w.walk_is in
        fields-pass B (room R) ys (omega (arith, l, r)) (ap (λ (c : Cursor). c.why) f ∙ z.1) (ap (λ (c : Cursor). c.at) f ∙ z.2 ∙ sym e)

    y-fine : fields_answer (schema (kind_of ys) (misc_of ys) a) (room (trailer (kind_of ys) a)) ys ≡ 0
    y-fine = ap₂ (λ (k m : ℕ). fields_answer (schema k m a) (room (trailer k a)) ys) (sym g.y-kind) (sym g.y-misc) ∙ y-here

    module _ (v : Twins xs ys R (origin end)) (d : eqb (or_dirty 0 a xs) (or_dirty 0 a ys) ≡ true) where
      kinds : kind_of ys ≡ kind_of xs
      kinds = sym g.y-kind ∙ g.x-kind

      miscs : misc_of ys ≡ misc_of xs
      miscs = sym g.y-misc ∙ g.x-misc

      body_same_lem : body_of (schema (kind_of ys) (misc_of ys) a) (room (trailer (kind_of ys) a)) ys ≡ body_of (schema (kind_of xs) (misc_of xs) a) (room (trailer (kind_of xs) a)) xs
      unfolding body_of fields_of
      body_same_lem =
          ap₂ (λ (k m : ℕ). contents (take (length ys - room (trailer k a)) ys) (schema k m a) (origin 8)) (sym g.y-kind) (sym g.y-misc)
          ∙ ap (λ (n : ℕ). contents (take (n - room R) ys) B (origin 8)) g.long
          ∙ w.held
          ∙ ap₂ (λ (k m : ℕ). contents (take (length xs - room (trailer k a)) xs) (schema k m a) (origin 8)) g.x-kind g.x-misc

      tail-same : tail_of (trailer (kind_of ys) a) ys ≡ tail_of (trailer (kind_of xs) a) xs
      unfolding tail_of
      tail-same =
          ap (λ (k : ℕ). contents ys (trailer k a) (origin (length ys - room (trailer k a)))) (sym g.y-kind)
          ∙ ap (λ (n : ℕ). contents ys R (origin (n - room R))) g.long
          ∙ v.held
          ∙ ap (λ (k : ℕ). contents xs (trailer k a) (origin (length xs - room (trailer k a)))) g.x-kind

      flag_same : record_flag a ys ≡ record_flag a xs
      unfolding or_dirty flag_by
      flag_same = ap (λ (b : Bool). cond b 1 0) (sym (flag-back (name_dirty a xs) (name_dirty a ys) d))

      like_is : Like xs ys a
      unfolding value layout flag_of
      like_is = record {
        fine = y-fine;
        value-is = λ k j. record { kind = kinds j; misc = miscs j; size = g.size_is j; body = body_same_lem j; tail = tail-same j; flag = flag_same j };
      }

  body-read : body_same (take end xs) (take end ys) kind misc a.sample ≡ true → Twins (take end xs) (take end ys) B (origin 8)
  body-read h = body-twins (take end xs) (take end ys) body-long.1 kind misc a body-fine h

  -- the other one is accepted
  pub body-accepted : body_same (take end xs) (take end ys) kind misc a.sample ≡ true → fields_answer (schema (kind_of ys) (misc_of ys) a) (room (trailer (kind_of ys) a)) ys ≡ 0
  body-accepted h = y-fine (body-read h)

  -- and no value differs
  pub same-like : same_but xs ys kind misc a ≡ true → Like xs ys a
  unfolding same_but
  same-like h =
      let p = and-true (body_same (take end xs) (take end ys) kind misc a.sample) _ h in
      let q = and-true (around_res xs ys (trail_bits kind a) trail_before end) (eqb (or_dirty 0 a xs) (or_dirty 0 a ys)) p.1 in
      like_is (body-read p.0) (trail-twins xs ys g.long kind a end trailer-fine q.0) q.1
