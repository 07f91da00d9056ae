-- `twins::same_but` meets its contract: the body is read alike, so the record is accepted; then the trailer, and the flags.
use mathlib.Core.Path.{◌≡◌, refl, sym, ap, ap₂, ◌∙◌}
use mathlib.Core.Bool.{Bool, true, false, not, cond, beq, ◌&&◌}
use mathlib.Core.List.{List}
use Prim.Native.Nat.{ℕ, ◌-◌, ◌%◌}
use native.Mathlib.Omega.{arith}
use lib.ListN.{length, take}
use lib.Seq.{length-take-le}
use lib.Dec.{eqb}
use Rattle.meaning.specs.declared.Attributes.{Attributes}
use Rattle.meaning.specs.Schema.{trailer}
use Rattle.meaning.specs.Records.{room, flag_by}
use Rattle.record.specs.Into.{name_dirty, or_dirty}
use Rattle.same_parts.specs.Parts.{around_res, body_same}
use Rattle.twins.specs.Same.{trail_bits, body_end, trail_before}
use Rattle.twins.proofs.Whole.{room-there, body-accepted}
use Rattle.twins.proofs.Laws.{but-body, but-trail, but-flags}
use Rattle.twins.proofs.same_but.Goals as goal

bits-are : (kind : ℕ) (a : Attributes) → cond (a.all && not (eqb kind 9)) a.sample 0 ≡ trail_bits kind a
unfolding trail_bits
bits-are kind a = refl

-- what the test of the body says, where n is the trailer's length
body : (xs ys : List ℕ) (kind misc : ℕ) (a : Attributes) (n : ℕ) (r b : Bool) → n ≡ room (trailer kind a) → r ≡ body_same (take (length xs - n) xs) (take (length xs - n) ys) kind misc a.sample → r ≡ b
    → body_same (take (body_end xs kind a) xs) (take (body_end xs kind a) ys) kind misc a.sample ≡ b
body xs ys kind misc a n r b e h t = sym (ap (λ (m : ℕ). body_same (take (length xs - m) xs) (take (length xs - m) ys) kind misc a.sample) e) ∙ sym h ∙ t

-- and that of the trailer, where m are its bits
trail : (xs ys : List ℕ) (kind : ℕ) (a : Attributes) (m n : ℕ) (r b : Bool) → m ≡ trail_bits kind a → n ≡ room (trailer kind a) → r ≡ around_res xs ys m trail_before (length xs - n) → r ≡ b
    → around_res xs ys (trail_bits kind a) trail_before (body_end xs kind a) ≡ b
trail xs ys kind a m n r b d e h t = sym (ap₂ (λ (j k : ℕ). around_res xs ys j trail_before (length xs - k)) d e) ∙ sym h ∙ t

pub overflow_sub-end : goal.overflow_sub-end
overflow_sub-end c = let a = c.args in let r = room-there a.x.now a.y.now a.kind a.misc a.a c.requires in let e = c.trailer_room.ensures.0 in omega (arith, r, e)

pub body_same-requires : goal.body_same-requires
body_same-requires c =
    let a = c.args in
    let r = room-there a.x.now a.y.now a.kind a.misc a.a c.requires in
    let e = c.trailer_room.ensures.0 in
    let l = length-take-le (length a.x.now - c.trailer_room.result) a.x.now (omega arith) in
    omega (arith, r, e, l)

pub returns-then-not-body_same : goal.returns-then-not-body_same
returns-then-not-body_same c =
    let a = c.args in
    but-body a.x.now a.y.now a.kind a.misc a.a (body a.x.now a.y.now a.kind a.misc a.a _ _ _ c.trailer_room.ensures.0 c.body_same.ensures c.if-not-body_same.true)

pub returns-then-not-around_res : goal.returns-then-not-around_res
returns-then-not-around_res c =
    let a = c.args in
    but-trail a.x.now a.y.now a.kind a.misc a.a
    (body a.x.now a.y.now a.kind a.misc a.a _ _ _ c.trailer_room.ensures.0 c.body_same.ensures c.if-not-body_same.false)
    (trail a.x.now a.y.now a.kind a.a _ _ _ _ (c.trailer_bits.ensures ∙ bits-are a.kind a.a) c.trailer_room.ensures.0 c.around_res.ensures c.if-not-around_res.true)

-- the flags are the same where record check's answers are
two-flags : (u v : Bool) → beq u v ≡ eqb (cond (eqb (cond u 1 0) 0) 0 44) (cond (eqb (cond v 1 0) 0) 0 44)
two-flags true true = refl
two-flags true false = refl
two-flags false true = refl
two-flags false false = refl

by-flags : (xs ys : List ℕ) (a : Attributes) (u v : Bool) → u ≡ name_dirty a xs → v ≡ name_dirty a ys → beq u v ≡ eqb (or_dirty 0 a xs) (or_dirty 0 a ys)
unfolding or_dirty flag_by
by-flags xs ys a u v p q = ap₂ beq p q ∙ two-flags (name_dirty a xs) (name_dirty a ys)

pub is_dirty-requires-2 : goal.is_dirty-requires-2
is_dirty-requires-2 c =
    let a = c.args in
    record {
      kind-is = c.requires.y-kind;
      eights = ap (λ (n : ℕ). n % 8) c.requires.long ∙ c.requires.eights;
      answer-is = body-accepted a.x.now a.y.now a.kind a.misc a.a c.requires (body a.x.now a.y.now a.kind a.misc a.a _ _ _ c.trailer_room.ensures.0 c.body_same.ensures c.if-not-body_same.false);
    }

pub returns : goal.returns
returns c =
    let a = c.args in
    by-flags a.x.now a.y.now a.a _ _ c.is_dirty.ensures c.is_dirty-2.ensures
    ∙ but-flags a.x.now a.y.now a.kind a.misc a.a
    (body a.x.now a.y.now a.kind a.misc a.a _ _ _ c.trailer_room.ensures.0 c.body_same.ensures c.if-not-body_same.false)
    (trail a.x.now a.y.now a.kind a.a _ _ _ _ (c.trailer_bits.ensures ∙ bits-are a.kind a.a) c.trailer_room.ensures.0 c.around_res.ensures c.if-not-around_res.false)
