-- Sixteen bytes at a time have no zero, so the first zero is among the last eight or it is not there.
use native.Mathlib.Omega.{arith}
use mathlib.Core.Path.{◌≡◌, refl, sym, ap, subst, ◌∙◌}
use mathlib.Core.Bool.{Bool}
use mathlib.Core.List.{List, []}
use Prim.Native.Nat.{ℕ, ◌+◌, ◌-◌, ◌*◌, ◌/◌, ◌<◌}
use lib.ListN.{length, get_or, take, drop}
use Rattle.std.specs.Simd.{first_chunks}
use Rattle.blocks.specs.Scan.{has_zero}
use Rattle.blocks.specs.ScanLaws.{Scanned, scan-on, scan-hit, scan-last, scan-short, zero-sixteen}
use Rattle.blocks.proofs.scan.name_ok.Goals as goal
use Rattle.blocks.proofs.scan.name_ok.Goals.{then-rest-eq8+else-zero_among-2, else-rest-eq8}

-- what is asked of a group of sixteen is asked of the place where it stands
group-at : (xs : List ℕ) (at room i : ℕ) (groups : List (List ℕ)) (r : Bool) → groups ≡ first_chunks 16 (length (take room (drop at xs)) / 16) (take room (drop at xs))
    → i < length (take room (drop at xs)) / 16 → length (take room (drop at xs)) ≡ room → r ≡ has_zero 16 (get_or groups i []) 0 → r ≡ has_zero 16 xs (at + i * 16)
group-at xs at room i groups r e h l q =
    q
    ∙ ap (λ (gs : List (List ℕ)). has_zero 16 (get_or gs i []) 0) e
    ∙ zero-sixteen xs at room (length (take room (drop at xs)) / 16) i [] h (omega arith)

pub returns-then-s-at-lt8 : goal.returns-then-s-at-lt8
returns-then-s-at-lt8 c = let a = c.args in scan-short a.s.now a.at (omega arith) (omega arith) c.requires.at_value

pub returns-then-zero_among : goal.returns-then-zero_among
returns-then-zero_among c =
    let a = c.args in
    let l = c.loop-sixteen in
    let r = group-at a.s.now a.at (length a.s.now - 8 - a.at) l.sixteen-index _ _ c.as_chunks.ensures.front (omega arith) (omega arith) c.zero_among.ensures in
    scan-hit a.s.now a.at 16 (a.at + l.sixteen-index * 16) _ r c.if-zero_among.true (omega arith) l.invariant

pub loop-sixteen-preserved : goal.loop-sixteen-preserved
loop-sixteen-preserved c =
    let a = c.args in
    let l = c.loop-sixteen in
    let r = group-at a.s.now a.at (length a.s.now - 8 - a.at) l.sixteen-index _ _ c.as_chunks.ensures.front (omega arith) (omega arith) c.zero_among.ensures in
    let e : a.at + l.sixteen-index * 16 + 16 ≡ a.at + (l.sixteen-index + 1) * 16 = omega arith in
    subst (Scanned a.s.now a.at) e (scan-on a.s.now a.at 16 (a.at + l.sixteen-index * 16) _ r c.if-zero_among.false (omega arith) l.invariant)

pub returns-then-zero_among-2 : goal.returns-then-zero_among-2
returns-then-zero_among-2 c =
    let a = c.args in
    let l = c.loop-sixteen in
    let e : a.at + l.sixteen-index * 16 ≡ length a.s.now - 8 - 8 = omega arith in
    scan-hit a.s.now a.at 8 (length a.s.now - 8 - 8) _ c.zero_among-then-rest-eq8.ensures c.if-zero_among-2.true (omega arith) (subst (Scanned a.s.now a.at) e l.invariant)

pub returns : goal.returns
returns c =
    let a = c.args in
    let l = c.loop-sixteen in
    let xs = a.s.now in
    let last : ℕ = length xs - 8 in
    elim c.if-rest-eq8.branch [
      | then-rest-eq8+else-zero_among-2 w ↦
          let e : a.at + l.sixteen-index * 16 ≡ last - 8 = omega (arith, w.if-rest-eq8.true) in
          let s : last - 8 + 8 ≡ last = omega (arith, w.if-rest-eq8.true) in
          scan-last xs a.at last _ c.zero_among-2.ensures (omega arith)
          (subst (Scanned xs a.at) s
          (scan-on xs a.at 8 (last - 8) _ w.zero_among-then-rest-eq8.ensures w.if-zero_among-2.false (omega arith) (subst (Scanned xs a.at) e l.invariant)))
      | else-rest-eq8 w ↦
          let e : a.at + l.sixteen-index * 16 ≡ last = omega (arith, w.if-rest-eq8.false) in
          scan-last xs a.at last _ c.zero_among-2.ensures (omega arith) (subst (Scanned xs a.at) e l.invariant)
    ]
