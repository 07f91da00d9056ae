-- `pair_fields::flag` meets its contract: a type without a name has no field more; else the flags are the last.
use mathlib.Core.Path.{◌≡◌, refl, sym, ap, ◌∙◌}
use mathlib.Core.Bool.{Bool, true, false, not, beq}
use Prim.Native.Nat.{ℕ}
use native.Mathlib.Omega.{arith}
use Rattle.std.specs.Prelude.{Option, unwrap_or}
use Rattle.table.specs.Flags.{flag_at}
use Rattle.laws.specs.Bytes.{apart}
use Rattle.pair_fields.specs.States.{pos_of, settled_at, settled-at}
use Rattle.pair_fields.specs.Fields.{settled-stands, settled-less, flag-nameless, flags-same, flags-other, flag-number}
use Rattle.pair_fields.proofs.flag.Goals as goal

two-same : (u v : Bool) → not (beq u v) ≡ false → u ≡ v
two-same true true e = refl
two-same true false e = absurd (apart (sym e))
two-same false true e = absurd (apart (sym e))
two-same false false e = refl

two-differ : (u v : Bool) → not (beq u v) ≡ true → (u ≡ v → ⊥)
two-differ true true e = λ q. apart e
two-differ true false e = λ q. apart (sym q)
two-differ false true e = λ q. apart q
two-differ false false e = λ q. apart e

pub returns-in_default-clause-fields_stand : goal.returns-in_default-clause-fields_stand
returns-in_default-clause-fields_stand c =
    let a = c.args in
    let n = ap (λ (o : Option ℕ). unwrap_or o 0) (sym c.in_default.is) ∙ c.flag_at.ensures.value in
    let z = flag-nameless a.x.now a.y.now (pos_of a.p) c.requires.ready refl c.requires.last_value.1 c.requires.last_value.0 (sym n) in
    settled-stands a.x.now a.y.now _ _ 0 true (settled_at 0 true) (settled-at 0 true) (sym z) (λ e. absurd (apart (sym e ∙ z)))

pub returns-in_default-clause-result_bound : goal.returns-in_default-clause-result_bound
returns-in_default-clause-result_bound c =
    let a = c.args in
    settled-less a.x.now a.y.now (pos_of a.p) (settled_at 0 true) _ _ (settled-at 0 true) refl

pub returns-then-is_dirty-clause-fields_stand : goal.returns-then-is_dirty-clause-fields_stand
returns-then-is_dirty-clause-fields_stand c =
    let a = c.args in
    let n = ap (λ (o : Option ℕ). unwrap_or o 0) (sym c.in-Some.is) ∙ c.flag_at.ensures.value in
    let p = c.in-Some.ensures.some in
    let m : flag_at a.p.kind ≡ 0 → ⊥ = λ q. omega (arith, q, n, p) in
    let r = c.requires in
    let z = flags-other a.x.now a.y.now (pos_of a.p) r.ready refl r.last_value.1 r.last_value.0 m (λ e. two-differ _ _ c.if-is_dirty.true (c.is_dirty.ensures ∙ e ∙ sym c.is_dirty-2.ensures)) in
    settled-stands a.x.now a.y.now _ _ a.p.k false (settled_at a.p.k false) (settled-at a.p.k false) (sym z)
    (λ e. flag-number a.x.now a.y.now (pos_of a.p) r.ready refl r.last_value.1 r.last_value.0 m e)

pub returns-then-is_dirty-clause-result_bound : goal.returns-then-is_dirty-clause-result_bound
returns-then-is_dirty-clause-result_bound c =
    let a = c.args in
    settled-less a.x.now a.y.now (pos_of a.p) (settled_at a.p.k false) _ _ (settled-at a.p.k false) refl

pub returns-clause-fields_stand : goal.returns-clause-fields_stand
returns-clause-fields_stand c =
    let a = c.args in
    let n = ap (λ (o : Option ℕ). unwrap_or o 0) (sym c.in-Some.is) ∙ c.flag_at.ensures.value in
    let p = c.in-Some.ensures.some in
    let m : flag_at a.p.kind ≡ 0 → ⊥ = λ q. omega (arith, q, n, p) in
    let r = c.requires in
    let z = flags-same a.x.now a.y.now (pos_of a.p) r.ready refl r.last_value.1 r.last_value.0 m (sym c.is_dirty.ensures ∙ two-same _ _ c.if-is_dirty.false ∙ c.is_dirty-2.ensures) in
    settled-stands a.x.now a.y.now _ _ 0 true (settled_at 0 true) (settled-at 0 true) (sym z) (λ e. absurd (apart (sym e ∙ z)))

pub returns-clause-result_bound : goal.returns-clause-result_bound
returns-clause-result_bound c =
    let a = c.args in
    settled-less a.x.now a.y.now (pos_of a.p) (settled_at 0 true) _ _ (settled-at 0 true) refl
