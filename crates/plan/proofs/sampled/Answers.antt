-- A SAMPLE by its mark: stretches, a size, or a refusal.
use mathlib.Core.Path.{◌≡◌, sym, ap, ◌∙◌, subst}
use mathlib.Core.Bool.{false}
use mathlib.Core.Logic.{⊎_elim}
use Prim.Native.Nat.{ℕ, ◌-◌, ◌≤◌, ◌<◌}
use native.Mathlib.Omega.{arith}
use Rattle.laws.specs.Bytes.{le-or-lt}
use Rattle.meaning.specs.declared.Attributes.{Attributes}
use Rattle.meaning.specs.declared.Known.{Known}
use Rattle.meaning.specs.Editions.{unreadable}
use Rattle.meaning.specs.Records.{misc_of}
use Rattle.exact.specs.Stretches.{weights}
use Rattle.sums.specs.Sums.{sums-given}
use Rattle.marks.specs.Marks.{Marked, Refusal, open_mark, stretched_mark, refused_mark, opened-reads, sample-judged, one-weight, size-judged, refused-judged, unreadable-named}
use Rattle.plan.proofs.sampled.Goals as goal

-- a SAMPLE has no mark between a size and a refusal
refuses : (known : Known) (a : Attributes) (kind mark : ℕ) → Marked known a kind mark → kind ≡ 9 → (mark ≡ stretched_mark → ⊥) → open_mark ≤ mark → refused_mark ≤ mark
refuses known a kind mark h e z l =
    ⊎_elim (λ (y : refused_mark ≤ mark). y) (λ (y : mark < refused_mark). absurd ((opened-reads known a kind mark h l y z).1 e)) (le-or-lt refused_mark mark)

-- a SAMPLE that is read has one weight at the most
weighs : (known : Known) (a : Attributes) (kind mark : ℕ) → Marked known a kind mark → mark ≡ stretched_mark → weights a ≡ false
weighs known a kind mark h e =
    let m = h.stretched e in
    one-weight known a (ap (λ (t : ℕ). unreadable known a t 0) (sym m.0) ∙ m.1)

pub invariant_of-w : goal.invariant_of-w
invariant_of-w c = record { right = sums-given c.args.a c.args.sums.now c.requires.sums_value; single = weighs _ _ _ _ c.requires.marked c.if-mark-eq-STRETCHED.true }

pub returns-then-mark-eq-STRETCHED : goal.returns-then-mark-eq-STRETCHED
returns-then-mark-eq-STRETCHED c =
    let a = c.args in
    let m = c.requires.marked.stretched c.if-mark-eq-STRETCHED.true in
    sample-judged a.known a.a a.r.bytes.now a.r.kind c.args.r.typed _ m.0 m.1 c.args.r.headed c.sample.ensures

pub returns-then-mark-lt-OPEN : goal.returns-then-mark-lt-OPEN
returns-then-mark-lt-OPEN c =
    let a = c.args in
    c.sized.ensures ∙ size-judged a.known a.a a.r.bytes.now a.r.kind a.r.typed a.mark (c.requires.marked.fixed c.if-mark-lt-OPEN.true)

pub overflow_sub-mark : goal.overflow_sub-mark
overflow_sub-mark c = let a = c.args in refuses a.known a.a a.r.kind a.mark c.requires.marked c.requires.sample c.if-mark-eq-STRETCHED.false c.if-mark-lt-OPEN.false

pub refusal-requires : goal.refusal-requires
refusal-requires c =
    let a = c.args in
    let m = c.requires.marked.refused (refuses a.known a.a a.r.kind a.mark c.requires.marked c.requires.sample c.if-mark-eq-STRETCHED.false c.if-mark-lt-OPEN.false) in
    let l = m.0 in
    let u = m.2 0 in
    subst Refusal u (unreadable-named a.known a.a a.r.kind 0 (λ z. let w = sym u ∙ z in omega (arith, w, l)))

pub returns : goal.returns
returns c =
    let a = c.args in
    let m = c.requires.marked.refused (refuses a.known a.a a.r.kind a.mark c.requires.marked c.requires.sample c.if-mark-eq-STRETCHED.false c.if-mark-lt-OPEN.false) in
    let l = m.0 in
    c.refusal.ensures
    ∙ refused-judged a.known a.a a.r.bytes.now a.r.kind a.r.typed (a.mark - refused_mark) (m.2 (misc_of a.r.bytes.now)) (λ z. omega (arith, z, l))
