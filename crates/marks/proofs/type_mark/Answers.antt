-- What the edition refuses of all; a base below `OPEN` with the trailer's bytes; else the base.
use mathlib.Core.Path.{◌≡◌, sym, ap, ◌∙◌, subst}
use mathlib.Core.Bool.{Bool, cond}
use Prim.Native.Nat.{ℕ, ◌+◌, ◌≤◌}
use native.Mathlib.Omega.{arith}
use borrow.Author.Tests.{lt-ltb, le-ltb}
use lib.ListN.{get_or}
use Rattle.meaning.specs.declared.Known.{Known}
use Rattle.meaning.specs.declared.Attributes.{Attributes}
use Rattle.meaning.specs.Editions.{unreadable}
use Rattle.meaning.specs.Schema.{trailer}
use Rattle.meaning.specs.Records.{room}
use Rattle.sums.specs.Sums.{sum_most}
use Rattle.marks.specs.Bases.{bases, with_trailer, base-marked, type-refused}
use Rattle.marks.specs.Marks.{last_type, open_mark, Marked, as-refused, unreadable-most}
use Rattle.marks.proofs.type_mark.Goals as goal

-- the base that was found, with the trailer's bytes where it is a size
marked : (known : Known) (a : Attributes) (kind why trail base : ℕ) → known.kinds ≤ last_type → why ≡ unreadable known a 1 0
    → trail ≡ room (trailer 1 a) → trail ≤ sum_most → 1 ≤ kind → kind ≤ known.kinds → (kind ≡ 8 → ⊥) × (kind ≡ 9 → ⊥) → why ≡ 0
    → base ≡ get_or bases kind 0 → Marked known a kind (with_trailer trail base)
marked known a kind why trail base k w r m l h n z e =
    subst (λ (i : ℕ). Marked known a kind (with_trailer trail i)) (sym e) (base-marked known a trail r m k kind l h n.0 n.1 (sym w ∙ z))

pub returns-then-why-ne0 : goal.returns-then-why-ne0
returns-then-why-ne0 c =
    let a = c.args in
    let e = c.requires.why_value in
    let h = unreadable-most a.known a.a 1 0 in
    as-refused a.known a.a a.kind a.why c.if-why-ne0.true (omega (arith, e, h))
    (type-refused a.known a.a a.kind c.requires.le_kind c.requires.kind_le_kinds c.requires.fact.0 c.requires.fact.1 a.why (sym e) c.if-why-ne0.true)

pub returns-then-base-lt-OPEN : goal.returns-then-base-lt-OPEN
returns-then-base-lt-OPEN c =
    let a = c.args in
    let b = c.base_of-base.result in
    subst (Marked a.known a.a a.kind) (ap (λ (t : Bool). cond t (b + a.trail) b) (lt-ltb b open_mark c.if-base-lt-OPEN.true)) (marked a.known a.a a.kind a.why a.trail b c.requires.kinds_le_last_type c.requires.why_value c.requires.trail_value c.requires.trail_le_sum_most
    c.requires.le_kind c.requires.kind_le_kinds c.requires.fact c.if-why-ne0.false c.base_of-base.ensures)

pub returns : goal.returns
returns c =
    let a = c.args in
    let b = c.base_of-base.result in
    subst (Marked a.known a.a a.kind) (ap (λ (t : Bool). cond t (b + a.trail) b) (le-ltb b open_mark c.if-base-lt-OPEN.false)) (marked a.known a.a a.kind a.why a.trail b c.requires.kinds_le_last_type c.requires.why_value c.requires.trail_value c.requires.trail_le_sum_most
    c.requires.le_kind c.requires.kind_le_kinds c.requires.fact c.if-why-ne0.false c.base_of-base.ensures)
