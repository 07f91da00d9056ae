-- A budget of one record for every 8 bytes of the ring, a journal of twice its length and a scratch of its length always suffice: 8, 9 and 3 then do not
-- occur. Assumes nothing.
use Rattle.std.specs.Prelude.{◌≡◌, List, [], ◌∷◌, true, ℕ, ◌*◌, ◌^◌, ◌<◌, ◌≤◌, length}
use Rattle.std.proofs.Common.{arith, leb-true}
use Rattle.meaning.specs.Ring.{Asked}
use Rattle.meaning.specs.Drain.{End}
use Rattle.meaning.specs.Backward.{walk_by}
use Rattle.laws.specs.Bytes.{and-true}
use Rattle.runs.specs.Cutting.{Cut, total, All, framed}
use Rattle.backward.specs.Promise.{walk_cuts}
use Rattle.backward.proofs.Walks.{walk-walks}
use Rattle.backward.proofs.Reasons.{walk-ended}

-- a record has eight bytes at least
eights : (cs : List Cut) → All (λ (c : Cut). framed c.record-bytes ≡ true) cs → 8 * length cs ≤ total cs
unfolding total
eights [] a = omega arith
eights (c ∷ cs) a =
    let l = leb-true 8 (length c.record-bytes) (and-true _ _ a.0).0 in
    omega (arith, l, eights cs a.1)

module _ (asked : Asked) (judge : List ℕ → ℕ) (ring : List ℕ) (head budget : ℕ) (journal scratch : List ℕ) (hd : head < 2 ^ 64) where
  abbrev d : End
  d = walk_by asked judge ring head budget journal scratch

  pub walk-eights : 8 * d.state.taken ≤ d.state.bytes
  walk-eights =
      let w = walk-walks asked judge ring head budget journal scratch hd in
      omega (arith, w.count, w.sum, eights (walk_cuts asked ring head budget (length journal) scratch).records w.shaped)

  pub enough-budget : length ring ≤ 8 * budget → d.stop ≡ 8 → ⊥
  enough-budget h e =
      let q = (walk-ended asked judge ring head budget journal scratch hd).budget-used e in
      omega (arith, h, q.0, q.1.0, q.1.1, walk-eights)

  pub enough-journal : 2 * length ring ≤ length journal → d.stop ≡ 9 → ⊥
  enough-journal h e =
      let q = (walk-ended asked judge ring head budget journal scratch hd).journal-full e in
      omega (arith, h, q.0, q.1.0, q.1.1, walk-eights)

  pub enough-scratch : length ring ≤ length scratch → d.stop ≡ 3 → ⊥
  enough-scratch h e =
      let q = (walk-ended asked judge ring head budget journal scratch hd).scratch-short e in
      omega (arith, h, q.0, q.1.1)
