-- None that the edition has; READ; else the type's own.
use mathlib.Core.Path.{◌≡◌, ◌∙◌, refl, sym, subst}
use mathlib.Core.Bool.{Bool, true, false, ◌||◌}
use mathlib.Core.Logic.{◌⊎◌, inl, inr}
use Prim.Native.Nat.{ℕ, ◌<◌}
use native.Mathlib.Omega.{arith}
use lib.Dec.{eqb, ltb}
use borrow.Author.Tests.{eqb-true, eqb-false, ltb-true, ltb-false}
use Rattle.laws.specs.Rows.{or-false}
use Rattle.marks.specs.Bases.{no-type}
use Rattle.marks.specs.Marks.{Marked}
use Rattle.marks.proofs.other_mark.Goals as goal

either : (kind kinds : ℕ) → (eqb kind 0 || ltb kinds kind) ≡ true → (kind ≡ 0) ⊎ (kinds < kind)
either kind kinds h = by (eqb kind 0) refl h
  where
    by : (b : Bool) → eqb kind 0 ≡ b → (b || ltb kinds kind) ≡ true → (kind ≡ 0) ⊎ (kinds < kind)
    by true e h = inl (eqb-true kind 0 e)
    by false e h = inr (ltb-true kinds kind h)

pub returns-then-kind-known : goal.returns-then-kind-known
returns-then-kind-known c =
    let a = c.args in
    no-type a.known a.a a.trail c.requires.trail_value c.requires.trail_le_sum_most c.requires.kinds_le_last_type a.kind (either a.kind a.known.kinds c.if-kind-known.true)

pub returns-then-kind-eq-READ : goal.returns-then-kind-eq-READ
returns-then-kind-eq-READ c =
    let a = c.args in
    subst (λ (k : ℕ). Marked a.known a.a k c.read_mark.result) (sym c.if-kind-eq-READ.true) c.read_mark.ensures

pub type_mark-requires : goal.type_mark-requires
type_mark-requires c =
    let a = c.args in
    let o = or-false (eqb a.kind 0) (ltb a.known.kinds a.kind) c.if-kind-known.false in
    let z = eqb-false a.kind 0 o.0 in record { kinds_le_last_type = c.requires.kinds_le_last_type; why_value = c.answer_number-why.ensures ∙ c.unreadable.ensures; trail_value = c.requires.trail_value; trail_le_sum_most = c.requires.trail_le_sum_most; le_kind = omega (arith, z); kind_le_kinds = ltb-false a.known.kinds a.kind o.1; fact = (c.if-kind-eq-READ.false, c.requires.fact) }
