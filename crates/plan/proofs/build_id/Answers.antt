-- 23; the trailer is there; then the build id's own fields decide.
use mathlib.Core.Path.{◌≡◌, refl, sym, ap, ◌∙◌}
use mathlib.Core.Bool.{true}
use mathlib.Core.List.{List}
use Prim.Native.Nat.{ℕ, ◌-◌, ◌%◌}
use native.Mathlib.Omega.{arith}
use lib.ListN.{length, take}
use lib.Seq.{length-take-le}
use Rattle.meaning.specs.Records.{fields_of}
use Rattle.meaning.specs.Schema.{mmap2}
use Rattle.marks.specs.Marks.{trail-eights, build-refused, build-reads, build-body, fields-short, fields-judged}
use Rattle.plan.proofs.build_id.Goals as goal

pub returns-then-not-p : goal.returns-then-not-p
returns-then-not-p c =
    let a = c.args in
    let v = c.requires.value ∙ a.p.r.typed in
    build-refused a.p.known a.p.a a.p.r.bytes.now 10 v refl c.requires.a_value c.requires.r_value c.if-not-p.true

pub returns-then-p : goal.returns-then-p
returns-then-p c =
    let a = c.args in
    let v = c.requires.value ∙ a.p.r.typed in
    let u = build-reads a.p.known a.p.a a.p.r.bytes.now 10 v refl c.requires.a_value c.requires.r_value c.if-not-p.false in
    fields-short a.p.known a.p.a a.p.r.bytes.now 10 v _ a.p.trailed (λ z. omega (arith, z)) u c.if-p.true

pub slice_bounds-f-end : goal.slice_bounds-f-end
slice_bounds-f-end c = sym (length-take-le _ _ (omega arith))

pub invariant_of-f : goal.invariant_of-f
invariant_of-f c =
    let a = c.args in
    let v = c.requires.value ∙ a.p.r.typed in
    let xs : List ℕ = a.p.r.bytes.now in
    let l : length (take (length xs - a.p.trail) xs) ≡ length xs - a.p.trail = length-take-le _ _ (omega arith) in
    let m = c.args.p.r.words in
    let t = ap (λ (n : ℕ). n % 8) a.p.trailed ∙ trail-eights a.p.known a.p.a in
    let g = c.if-p.false in
    let z = c.args.p.r.bounded in
    record { headed = omega (arith, l, g); bounded = omega (arith, l, z); words = omega (arith, l, m, t, g) }

pub returns : goal.returns
unfolding fields_of
returns c =
    let a = c.args in
    let v = c.requires.value ∙ a.p.r.typed in
    let u = build-reads a.p.known a.p.a a.p.r.bytes.now 10 v refl c.requires.a_value c.requires.r_value c.if-not-p.false in
    fields-judged a.p.known a.p.a a.p.r.bytes.now 10 v _ a.p.trailed (λ z. omega (arith, z)) (mmap2 true) _ u
    (build-body a.p.known a.p.a a.p.r.bytes.now 10 v refl c.requires.a_value c.requires.r_value) c.if-p.false c.built.ensures
