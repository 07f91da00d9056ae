-- What an answer of 0 says, and what gives it. Assumes nothing.
use Rattle.std.specs.Prelude.{◌≡◌, refl, ℕ, ◌+◌, ◌-◌, ◌%◌, ◌<◌, ◌≤◌, Bool, true, false, ◌&&◌, cond, List, length, leb, eqb}
use Rattle.std.proofs.Common.{arith, le-leb, leb-true, eq-eqb, eqb-true}
use Rattle.std.proofs.lemmas.Bool.{eqb-false}
use Rattle.meaning.specs.States.{Cursor}
use Rattle.meaning.specs.declared.Item.{Item}
use Rattle.meaning.specs.Items.{walk}
use Rattle.meaning.specs.Refusals.{or_else}
use Rattle.meaning.specs.Records.{Layout, room, kind_of, misc_of, size_of, origin, fields_of, closed, fields_answer, judge, check_by}
use Rattle.laws.specs.Bytes.{and-true}

pub tested : (t : Bool) (why rest : ℕ) → 0 < why → cond t rest why ≡ 0 → (t ≡ true) × (rest ≡ 0)
tested true why rest p h = (refl, h)
tested false why rest p h = absurd (omega (arith, p, h))

pub or-zero : (x y : ℕ) → or_else x y ≡ 0 → (x ≡ 0) × (y ≡ 0)
or-zero x y h = go (eqb x 0) refl h
  where
    go : (t : Bool) → eqb x 0 ≡ t → cond t y x ≡ 0 → (x ≡ 0) × (y ≡ 0)
    go true e g = (eqb-true x 0 e, g)
    go false e g = absurd (eqb-false x 0 e g)

pub fields-zero : (is : List Item) (t : ℕ) (xs : List ℕ) → fields_answer is t xs ≡ 0
    → (8 + t ≤ length xs) × ((walk (fields_of t xs) is (origin 8)).why ≡ 0) × ((walk (fields_of t xs) is (origin 8)).at ≡ length xs - t)
unfolding fields_answer closed
fields-zero is t xs h =
    let d : Cursor = walk (fields_of t xs) is (origin 8) in
    let p = tested (leb (8 + t) (length xs)) 30 _ (omega arith) h in
    let q = or-zero d.why (cond (eqb d.at (length xs - t)) 0 31) p.1 in
    let r = tested (eqb d.at (length xs - t)) 31 0 (omega arith) q.1 in
    (leb-true _ _ p.0, q.0, eqb-true _ _ r.0)

pub fields-pass : (is : List Item) (t : ℕ) (xs : List ℕ) → 8 + t ≤ length xs → (walk (fields_of t xs) is (origin 8)).why ≡ 0
    → (walk (fields_of t xs) is (origin 8)).at ≡ length xs - t → fields_answer is t xs ≡ 0
unfolding fields_answer closed
fields-pass is t xs l w a = rw (le-leb (8 + t) (length xs) l, eq-eqb (walk (fields_of t xs) is (origin 8)).why 0 w, eq-eqb (walk (fields_of t xs) is (origin 8)).at (length xs - t) a)

pub check-zero : (lay : Layout) (xs : List ℕ) → check_by lay xs ≡ 0
    → (8 ≤ length xs) × (size_of xs ≡ length xs) × (size_of xs % 8 ≡ 0) × (lay.unknown (kind_of xs) (misc_of xs) ≡ 0)
    × (fields_answer (lay.body (kind_of xs) (misc_of xs)) (room (lay.trail (kind_of xs))) xs ≡ 0)
unfolding check_by judge
check-zero lay xs h =
    let p = tested (leb 8 (length xs)) 7 _ (omega arith) h in
    let q = tested (leb 8 (size_of xs) && eqb (size_of xs % 8) 0) 6 _ (omega arith) p.1 in
    let r = tested (eqb (size_of xs) (length xs)) 7 _ (omega arith) q.1 in
    let s = or-zero _ _ r.1 in
    let m = and-true (leb 8 (size_of xs)) (eqb (size_of xs % 8) 0) q.0 in
    (leb-true 8 (length xs) p.0, eqb-true _ _ r.0, eqb-true _ _ m.1, s.0, s.1)

pub check-pass : (lay : Layout) (xs : List ℕ) → 8 ≤ length xs → size_of xs ≡ length xs → size_of xs % 8 ≡ 0 → lay.unknown (kind_of xs) (misc_of xs) ≡ 0
    → fields_answer (lay.body (kind_of xs) (misc_of xs)) (room (lay.trail (kind_of xs))) xs ≡ 0 → check_by lay xs ≡ 0
unfolding check_by judge
check-pass lay xs l s m u f =
    let e : 8 ≤ size_of xs = omega (arith, l, s) in
    rw (
      le-leb 8 (length xs) l,
      le-leb 8 (size_of xs) e,
      eq-eqb (size_of xs % 8) 0 m,
      eq-eqb (size_of xs) (length xs) s,
      eq-eqb (lay.unknown (kind_of xs) (misc_of xs)) 0 u,
    ) f
