-- Of what the edition knows 23 alone is left, which is of the form with a build id; the trailer is there; then the count or the name decides.
use mathlib.Core.Path.{◌≡◌, sym, ap, ◌∙◌}
use Prim.Native.Nat.{ℕ, ◌-◌, ◌%◌, ◌<◌}
use native.Mathlib.Omega.{arith}
use lib.Dec.{eqb}
use lib.ListN.{length, take}
use lib.Seq.{length-take-le}
use borrow.Author.Tests.{eqb-true}
use Rattle.meaning.specs.Bytes.{bit}
use Rattle.meaning.specs.Editions.{unreadable}
use Rattle.laws.specs.Bytes.{and-true}
use Rattle.meaning.specs.Records.{misc_of, fields_of, room}
use Rattle.meaning.specs.Schema.{schema, trailer}
use Rattle.meaning.specs.declared.Attributes.{Attributes}
use Rattle.meaning.specs.declared.Known.{Known}
use Rattle.marks.specs.Marks.{open_mark, stretched_mark, opened-reads, plain-unreadable, plain_of, plain_body, trail-eights, fields-short, fields-judged, name-judged}
use Rattle.plan.proofs.opened.Goals as goal

-- a trailer is whole words
trail-words : (known : Known) (a : Attributes) (t : ℕ) → t ≡ room (trailer 1 a) → t % 8 ≡ 0
trail-words known a t e = ap (λ (n : ℕ). n % 8) e ∙ trail-eights known a

pub build_id-requires : goal.build_id-requires
build_id-requires c =
    let a = c.args in
    let b = and-true (eqb a.p.r.kind 10) (bit (misc_of a.p.r.bytes.now) 14) (sym c.has_build.ensures ∙ c.if-has_build.true) in
    let e = eqb-true a.p.r.kind 10 b.0 in
    let o = opened-reads a.p.known a.p.a a.p.r.kind a.p.mark c.args.p.marked c.requires.open_mark_le_mark c.requires.mark_lt_refused_mark c.requires.fact in
    record {
      value = sym e;
      r_value = b.1;
      a_value = ap (λ (t : ℕ). unreadable a.p.known a.p.a t 0) (sym e) ∙ o.0;
    }

pub returns-then-has_build : goal.returns-then-has_build
returns-then-has_build c = c.build_id.ensures

pub overflow_add-p : goal.overflow_add-p
overflow_add-p c = let l = c.args.p.short in omega (arith, l)

pub returns-then-p : goal.returns-then-p
returns-then-p c =
    let a = c.args in
    let o = opened-reads a.p.known a.p.a a.p.r.kind a.p.mark c.args.p.marked c.requires.open_mark_le_mark c.requires.mark_lt_refused_mark c.requires.fact in
    let p = plain_of a.p.r.kind (misc_of a.p.r.bytes.now) (sym c.has_build.ensures ∙ c.if-has_build.false) in
    let u = plain-unreadable a.p.known a.p.a a.p.r.kind (misc_of a.p.r.bytes.now) p ∙ o.0 in
    fields-short a.p.known a.p.a a.p.r.bytes.now a.p.r.kind c.args.p.r.typed _ a.p.trailed o.1 u c.if-p.true

pub slice_bounds-f-end : goal.slice_bounds-f-end
slice_bounds-f-end c = sym (length-take-le _ _ (omega arith))

pub invariant_of-f : goal.invariant_of-f
invariant_of-f c =
    let a = c.args in
    let l : length (take (length a.p.r.bytes.now - a.p.trail) a.p.r.bytes.now) ≡ length a.p.r.bytes.now - a.p.trail = length-take-le _ _ (omega arith) in
    let m = c.args.p.r.words in
    let t = trail-words a.p.known a.p.a a.p.trail a.p.trailed in
    let g = c.if-p.false in
    let z = c.args.p.r.bounded in
    record { headed = omega (arith, l, g); bounded = omega (arith, l, z); words = omega (arith, l, m, t, g) }

pub counted-requires : goal.counted-requires
counted-requires c = (c.args.p.marked.counted c.if-p-eq-OPEN.true).1

pub returns-then-p-eq-OPEN : goal.returns-then-p-eq-OPEN
unfolding fields_of
returns-then-p-eq-OPEN c =
    let a = c.args in
    let o = opened-reads a.p.known a.p.a a.p.r.kind a.p.mark c.args.p.marked c.requires.open_mark_le_mark c.requires.mark_lt_refused_mark c.requires.fact in
    let p = plain_of a.p.r.kind (misc_of a.p.r.bytes.now) (sym c.has_build.ensures ∙ c.if-has_build.false) in
    let u = plain-unreadable a.p.known a.p.a a.p.r.kind (misc_of a.p.r.bytes.now) p ∙ o.0 in
    fields-judged a.p.known a.p.a a.p.r.bytes.now a.p.r.kind c.args.p.r.typed _ a.p.trailed o.1 (schema a.p.r.kind 0 a.p.a) _ u
    (plain_body a.p.r.kind (misc_of a.p.r.bytes.now) a.p.a p) c.if-p.false c.counted.ensures

pub invariant_of-f-2 : goal.invariant_of-f-2
invariant_of-f-2 c =
    let a = c.args in
    let l : length (take (length a.p.r.bytes.now - a.p.trail) a.p.r.bytes.now) ≡ length a.p.r.bytes.now - a.p.trail = length-take-le _ _ (omega arith) in
    let m = c.args.p.r.words in
    let t = trail-words a.p.known a.p.a a.p.trail a.p.trailed in
    let g = c.if-p.false in
    let z = c.args.p.r.bounded in
    record { headed = omega (arith, l, g); bounded = omega (arith, l, z); words = omega (arith, l, m, t, g) }

pub named-requires : goal.named-requires
named-requires c =
    let a = c.args in
    let x = c.requires.open_mark_le_mark in
    let z = c.requires.fact in
    let y = c.if-p-eq-OPEN.false in
    let w : stretched_mark < a.p.mark = omega (arith, x, y, z) in
    let d = (c.args.p.marked.named w c.requires.mark_lt_refused_mark).2 in
    omega (arith, d, w)

pub returns : goal.returns
unfolding fields_of
returns c =
    let a = c.args in
    let o = opened-reads a.p.known a.p.a a.p.r.kind a.p.mark c.args.p.marked c.requires.open_mark_le_mark c.requires.mark_lt_refused_mark c.requires.fact in
    let p = plain_of a.p.r.kind (misc_of a.p.r.bytes.now) (sym c.has_build.ensures ∙ c.if-has_build.false) in
    let x = c.requires.open_mark_le_mark in
    let z = c.requires.fact in
    let y = c.if-p-eq-OPEN.false in
    let w : stretched_mark < a.p.mark = omega (arith, x, y, z) in
    let d = c.args.p.marked.named w c.requires.mark_lt_refused_mark in
    let e = d.3 in
    name-judged a.p.known a.p.a a.p.r.bytes.now a.p.r.kind c.args.p.r.typed _ a.p.trailed o.1 (a.p.mark - open_mark) _ o.0 p (omega (arith, e, w)) (λ z. omega (arith, z, w)) c.if-p.false c.named.ensures
