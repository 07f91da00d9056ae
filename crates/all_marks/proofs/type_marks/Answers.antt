-- The list of bases, with 20 above the edition's types; and 21 below where the trailer is not known.
use mathlib.Core.Path.{◌≡◌, sym, ap, ◌∙◌, subst}
use mathlib.Core.List.{List}
use Prim.Native.Nat.{ℕ, ◌+◌, ◌-◌, ◌≤◌}
use native.Mathlib.Omega.{arith}
use lib.ListN.{length, take, drop, replicate}
use borrow.Rule.Slice.PartMut.{put_mid}
use Rattle.std.proofs.lemmas.Grind.{common_steps}
use Rattle.marks.specs.Bases.{bases_with, bases-long, FilledRange, types-marked, types-refused}
use Rattle.marks.specs.Marks.{last_type, no_type, unreadable-most, number-some}
use Rattle.all_marks.proofs.type_marks.Goals as goal

-- a part that is filled with one number
filled : (p : List ℕ) (from to v : ℕ) (ys : List ℕ) → from ≤ to → to ≤ length p → ys ≡ replicate (length (take (to - from) (drop from p))) v
    → FilledRange p from to v (put_mid from (to - from) p ys)
filled p from to v ys l h q =
    let n : length (take (to - from) (drop from p)) ≡ to - from = grind (arith, common_steps) in
    let e : ys ≡ replicate (to - from) v = q ∙ ap (λ (k : ℕ). replicate k v) n in
    record {
      long = rw e (grind (arith, common_steps));
      inside = λ j g k. rw e (grind (arith, common_steps));
      low = λ j k. grind (arith, common_steps);
      high = λ j k. rw e (grind (arith, common_steps));
    }

-- 20 above the edition's types
above : (trail kinds : ℕ) (p ys : List ℕ) → kinds ≤ last_type → p ≡ bases_with trail → ys ≡ replicate (length (take (22 - (kinds + 1)) (drop (kinds + 1) p))) no_type
    → FilledRange (bases_with trail) (kinds + 1) (last_type + 1) no_type (put_mid (kinds + 1) (22 - (kinds + 1)) p ys)
above trail kinds p ys h e q =
    subst (λ (b : List ℕ). FilledRange b (kinds + 1) (last_type + 1) no_type (put_mid (kinds + 1) (22 - (kinds + 1)) p ys)) e
    (filled p (kinds + 1) 22 no_type ys (omega (arith, h)) (let l = ap length e ∙ bases-long trail in omega (arith, l)) q)

pub returns-in-Err-clause-by_index : goal.returns-in-Err-clause-by_index
returns-in-Err-clause-by_index c =
    let a = c.args in
    let m = above a.trail a.known.kinds _ _ c.requires.kinds_le_last_type c.bases-marks.ensures (c.fill.ensures.after (λ y q. q)) in
    let e = c.number.ensures ∙ c.in-Err.ensures in
    let h = unreadable-most a.known a.a 1 0 in
    let n = number-some c.in-Err.why in
    let l = m.long ∙ bases-long a.trail in
    let k = c.requires.kinds_le_last_type in
    types-refused a.known a.a a.trail c.requires.trail_value c.requires.trail_le_sum_most c.requires.kinds_le_last_type _ m c.number.result (sym e) (λ q. n (sym c.number.ensures ∙ q))
    (omega (arith, e, h)) _ (filled _ 1 (a.known.kinds + 1) _ _ (omega arith) (omega (arith, l, k)) (c.fill-in-Err.ensures.after (λ y q. q)))

pub returns-in_default-clause-by_index : goal.returns-in_default-clause-by_index
returns-in_default-clause-by_index c =
    let a = c.args in
    let m = above a.trail a.known.kinds _ _ c.requires.kinds_le_last_type c.bases-marks.ensures (c.fill.ensures.after (λ y q. q)) in
    types-marked a.known a.a a.trail c.requires.trail_value c.requires.trail_le_sum_most c.requires.kinds_le_last_type _ m (sym c.in_default.ensures)
