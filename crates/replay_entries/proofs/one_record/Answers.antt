-- The tests of the definition, in its order.
use mathlib.Core.Path.{◌≡◌, sym, ap, ◌∙◌, subst}
use mathlib.Core.List.{List}
use Prim.Native.Nat.{ℕ, ◌%◌, ◌<◌, ◌≤◌}
use native.Mathlib.Omega.{arith}
use mathlib.Core.Bool.{and-false}
use lib.Dec.{eqb}
use lib.ListN.{length}
use borrow.Author.Rules.{rules}
use borrow.Author.Tests.{le-leb, lt-leb, eq-eqb, ne_eqb}
use Rattle.meaning.specs.Bytes.{number_at}
use Rattle.meaning.specs.Records.{size_of}
use Rattle.replay_entries.proofs.one_record.Goals as goal

-- the size that was read is the header's
size_is : (r : List ℕ) (n : ℕ) → n ≡ number_at 2 r 6 → n ≡ size_of r
unfolding size_of
size_is r n e = e

pub returns-then-r-lt8 : goal.returns-then-r-lt8
returns-then-r-lt8 c = simp (lt-leb 8 _ c.if-r-lt8.true)

pub returns-then-size-lt8 : goal.returns-then-size-lt8
returns-then-size-lt8 c =
    let r = c.args.r.now in
    let z : size_of r < 8 = subst (λ (k : ℕ). k < 8) (size_is r _ c.u16_at-size.ensures.0) c.if-size-lt8.true in
    simp (lt-leb 8 (size_of r) z, and-false)

pub returns-then-size-ne0 : goal.returns-then-size-ne0
returns-then-size-ne0 c =
    let r = c.args.r.now in
    let z : size_of r % 8 ≡ 0 → ⊥ = subst (λ (k : ℕ). k % 8 ≡ 0 → ⊥) (size_is r _ c.u16_at-size.ensures.0) c.if-size-ne0.true in
    simp (ne_eqb (size_of r % 8) 0 z, and-false)

pub returns : goal.returns
returns c =
    let r = c.args.r.now in
    let e = size_is r _ c.u16_at-size.ensures.0 in
    let l : 8 ≤ size_of r = subst (λ (k : ℕ). 8 ≤ k) e (omega (arith, c.if-size-lt8.false)) in
    let z : size_of r % 8 ≡ 0 = ap (λ (k : ℕ). k % 8) (sym e) ∙ c.if-size-ne0.false in
    ap (λ (k : ℕ). eqb k (length r)) e ∙ simp (le-leb 8 (length r) (omega (arith, c.if-r-lt8.false)), le-leb 8 (size_of r) l, eq-eqb (size_of r % 8) 0 z)
