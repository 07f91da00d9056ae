-- `answers::header_of_whole` meets its contract: test by test, in the order of the definition. Assumes nothing.
use mathlib.Core.Path.{◌≡◌, sym, ap, ◌∙◌}
use Prim.Native.Nat.{ℕ, ◌%◌}
use native.Mathlib.Omega.{arith}
use lib.Dec.{leb, eqb}
use borrow.Author.Tests.{eqb-true, eq-eqb, ne_eqb}
use Rattle.laws.specs.Bytes.{and-true}
use Rattle.answers.specs.Checks.{asked-short, asked-odd, asked-other, asked-whole}
use Rattle.answers.proofs.Laws.{size-few}
use Rattle.answers.proofs.header_of_whole.Goals as goal

pub returns-then-r-lt8-clause-asked : goal.returns-then-r-lt8-clause-asked
returns-then-r-lt8-clause-asked c = λ answer. asked-short answer c.args.r.now c.if-r-lt8.true

pub returns-then-not-even-clause-asked : goal.returns-then-not-even-clause-asked
returns-then-not-even-clause-asked c = λ answer. asked-odd answer c.args.r.now c.if-r-lt8.false _ c.whole_header-h.ensures.size_is c.if-not-even.true

pub returns-then-h-r-clause-asked : goal.returns-then-h-r-clause-asked
returns-then-h-r-clause-asked c = λ answer. asked-other answer c.args.r.now c.if-r-lt8.false _ c.whole_header-h.ensures.size_is c.if-not-even.false (ne_eqb _ _ c.if-h-r.true)

pub returns-clause-whole : goal.returns-clause-whole
returns-clause-whole c =
    let xs = c.args.r.now in
    let h = c.whole_header-h.ensures in
    let size = c.whole_header-h.result.size in
    let w : size ≡ _ = c.if-h-r.false in
    let d = eqb-true (size % 8) 0 (and-true (leb 8 size) (eqb (size % 8) 0) c.if-not-even.false).1 in
    let f = size-few xs c.type_inv.r in
    let z = h.size_is in
    record {
      there = c.if-r-lt8.false;
      few = omega (arith, f, w, z);
      eights = sym (ap (λ (i : ℕ). i % 8) w) ∙ d;
      kind-is = h.kind_is;
      misc-is = h.misc_is;
      size_is = w;
    }

pub returns-clause-asked : goal.returns-clause-asked
returns-clause-asked c = λ answer. asked-whole answer c.args.r.now c.if-r-lt8.false _ c.whole_header-h.ensures.size_is c.if-not-even.false (eq-eqb _ _ c.if-h-r.false)
