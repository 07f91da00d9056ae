-- A SAMPLE in stretches; any other by its mark.
use mathlib.Core.Path.{◌≡◌, sym, ap, ◌∙◌}
use mathlib.Core.Bool.{false}
use Prim.Native.Nat.{ℕ}
use Rattle.meaning.specs.Editions.{unreadable}
use Rattle.meaning.specs.declared.Attributes.{Attributes}
use Rattle.meaning.specs.declared.Known.{Known}
use Rattle.exact.specs.Stretches.{weights}
use Rattle.marks.specs.Marks.{Marked, stretched_mark, sample-judged, one-weight}
use Rattle.sums.specs.Sums.{trail-small, sums-given}
use Rattle.plan.proofs.judge.Goals as goal

-- a SAMPLE that is read has one weight at the most
weighs : (known : Known) (a : Attributes) (kind mark : ℕ) → Marked known a kind mark → mark ≡ stretched_mark → weights a ≡ false
weighs known a kind mark h e =
    let m = h.stretched e in
    one-weight known a (ap (λ (t : ℕ). unreadable known a t 0) (sym m.0) ∙ m.1)

pub invariant_of-w : goal.invariant_of-w
invariant_of-w c = record { right = sums-given c.args.a c.args.sums.now c.requires.sums_value; single = weighs _ _ _ _ c.requires.marked c.if-mark-eq-STRETCHED.true }

pub returns-then-mark-eq-STRETCHED : goal.returns-then-mark-eq-STRETCHED
returns-then-mark-eq-STRETCHED c =
    let a = c.args in
    let m = c.requires.marked.stretched c.if-mark-eq-STRETCHED.true in
    sample-judged a.known a.a a.r.bytes.now a.r.kind c.args.r.typed _ m.0 m.1 c.args.r.headed c.sample.ensures

pub invariant_of-p : goal.invariant_of-p
invariant_of-p c =
    let g = sums-given c.args.a c.args.sums.now c.requires.sums_value in record { marked = c.requires.marked; trailed = g.trail; short = trail-small c.args.a c.args.sums.now c.requires.sums_value; grouped = (λ e. g.group) }
