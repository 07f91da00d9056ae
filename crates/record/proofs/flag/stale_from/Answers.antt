-- `record::flag::stale_from` meets its contract: what follows the first zero is looked at. Assumes nothing.
use Rattle.std.proofs.Common.{rules, tests, arith, ap, ◌∙◌, ◌≡◌, ◌-◌, drop, take, length, take_all}
use mathlib.Core.Bool.{not}
use mathlib.Core.List.{List}
use Prim.Native.Nat.{ℕ}
use lib.ListN.{length-drop}
use Rattle.std.proofs.lemmas.Iterator.{YieldsList-from_slice, cases_from_any}
use Rattle.meaning.specs.Bytes.{all_zero}
use Rattle.record.proofs.Dirty.{any-set, stale-at}
use Rattle.record.proofs.flag.stale_from.Goals as goal

pub returns : goal.returns
returns c =
    let a = c.args in
    let s = a.s.now in
    let z = c.zero_from.result in
    let e : take (length s - z) (drop z s) ≡ drop z s = take_all _ _ (omega (arith, length-drop z s)) in
    let f = cases_from_any _ _ _ (λ x. x ≡ 0 → ⊥) (λ x. x ≡ 0) c.any.ensures.ran (YieldsList-from_slice (take (length s - z) (drop z s)) (search rules)) (λ x q k. search (rules, tests)) (λ x q k. search (rules, tests)) in
    stale-at s a.at z _ c.zero_from.ensures.0 (any-set (take (length s - z) (drop z s)) c.any.result f ∙ ap (λ (l : List ℕ). not (all_zero l)) e)
