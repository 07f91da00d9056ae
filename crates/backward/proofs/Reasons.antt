-- Why a walk ended, row by row: what the number told says of the place where it ended. Assumes nothing.
use Rattle.std.specs.Prelude.{◌≡◌, refl, List, Bool, true, false, not, ◌||◌, ◌⊎◌, ℕ, ◌+◌, ◌-◌, ◌*◌, ◌%◌, ◌^◌, ◌<◌, leb, ltb, eqb, length}
use Rattle.std.proofs.Common.{sym, ap, ◌∙◌, subst, ⊎_elim, inl, inr, eq-zero-or-pos, arith, eqb-true, ltb-true, ltb-false, leb-true, leb-false}
use Rattle.std.proofs.lemmas.Bool.{eqb-false, not-true, not-false}
use Rattle.meaning.specs.Refusals.{Refusal}
use Rattle.meaning.specs.Ring.{Asked, whole, stop_at}
use Rattle.meaning.specs.Drain.{End}
use Rattle.meaning.specs.Backward.{walk_by}
use Rattle.laws.specs.Bytes.{and-true}
use Rattle.laws.specs.Rows.{or-false, gives, before, Passed, passed-by}
use Rattle.backward.specs.Promise.{walk_cuts, Walks, end_place, end_size, Ended}
use Rattle.backward.specs.Frames.{back_rows, placed_rows, back-reason}
use Rattle.backward.proofs.Walks.{walk-walks}

positive : (n : ℕ) → eqb n 0 ≡ false → 0 < n
positive n e = ⊎_elim (λ (h : n ≡ 0). absurd (eqb-false n 0 e h)) (λ (h : 0 < n). h) (eq-zero-or-pos n)

module _ (asked : Asked) (judge : List ℕ → ℕ) (ring : List ℕ) (head budget : ℕ) (journal scratch : List ℕ) where
  abbrev d : End
  d = walk_by asked judge ring head budget journal scratch

  -- a row with its number holds, where the walk ended
  pub walk-reason : head < 2 ^ 64
      → gives d.stop (back_rows asked ring head d.state.tail (budget - d.state.taken) (length journal - 16 * d.state.taken) (length scratch)) ≡ true
  walk-reason hd =
      (back-reason asked ring head d.state.tail (budget - d.state.taken) (length journal - 16 * d.state.taken) (length scratch) d.stop
      (walk-walks asked judge ring head budget journal scratch hd).reason).0

module _ (asked : Asked) (judge : List ℕ → ℕ) (ring : List ℕ) (head budget : ℕ) (journal scratch : List ℕ) (hd : head < 2 ^ 64) where
  abbrev e : End
  e = walk_by asked judge ring head budget journal scratch

  abbrev n : ℕ
  n = length ring

  abbrev way : ℕ
  way = e.state.bytes

  abbrev size : ℕ
  size = end_size ring e

  -- the rows there, by the way that is told
  abbrev rows : List Refusal
  rows = placed_rows asked ring head way e.state.tail (budget - e.state.taken) (length journal - 16 * e.state.taken) (length scratch)

  w : Walks asked judge ring head budget journal scratch (walk_cuts asked ring head budget (length journal) scratch) e
  w = walk-walks asked judge ring head budget journal scratch hd

  -- for its own reason
  because : (k : ℕ) → e.stop ≡ k → (gives k rows ≡ true) × Passed (before k rows)
  because k q =
      subst (λ (x : ℕ). (gives k (placed_rows asked ring head x e.state.tail (budget - e.state.taken) (length journal - 16 * e.state.taken) (length scratch)) ≡ true)
      × Passed (before k (placed_rows asked ring head x e.state.tail (budget - e.state.taken) (length journal - 16 * e.state.taken) (length scratch))))
      (sym w.way)
      (back-reason asked ring head e.state.tail (budget - e.state.taken) (length journal - 16 * e.state.taken) (length scratch) k (w.reason ∙ ap stop_at q))

  -- of the rows before it none holds
  passed : (k : ℕ) → e.stop ≡ k → (m : ℕ) → gives m (before k rows) ≡ false
  passed k q = passed-by (before k rows) (because k q).1

  zero-case : (b : Bool) → leb n way ≡ b → (b || eqb size 0) ≡ true → (way ≡ n) ⊎ ((way < n) × (size ≡ 0))
  zero-case true h q = let a = leb-true n way h in inl (omega (arith, a, w.within))
  zero-case false h q = inr (leb-false n way h, eqb-true size 0 q)

  six-case : (b : Bool) → ltb size 8 ≡ b → (b || not (eqb (size % 8) 0)) ≡ true → (size < 8) ⊎ (0 < size % 8)
  six-case true h q = inl (ltb-true size 8 h)
  six-case false h q = inr (positive (size % 8) (not-true _ q))

  pub walk-ended : Ended ring budget journal scratch e
  walk-ended =
      record {
        nothing-more = λ q. zero-case (leb n way) refl (because 0 q).0;
        no_size = λ q. (positive size (or-false (leb n way) (eqb size 0) (passed 6 q 0)).1, six-case (ltb size 8) refl (because 6 q).0);
        overwritten = λ q. let s = or-false (ltb size 8) (not (eqb (size % 8) 0)) (passed 13 q 6) in
            (ltb-false size 8 s.0, (eqb-true (size % 8) 0 (not-false _ s.1), ltb-true n (way + size) (because 13 q).0));
        budget-used = λ q. let s = or-false (ltb size 8) (not (eqb (size % 8) 0)) (passed 8 q 6) in
            let z = eqb-true (budget - e.state.taken) 0 (because 8 q).0 in
            (ltb-false size 8 s.0, (ltb-false n (way + size) (passed 8 q 13), omega (arith, z, w.most)));
        journal-full = λ q. let s = or-false (ltb size 8) (not (eqb (size % 8) 0)) (passed 9 q 6) in
            let z = ltb-true (length journal - 16 * e.state.taken) 16 (because 9 q).0 in
            (ltb-false size 8 s.0, (ltb-false n (way + size) (passed 9 q 13), omega (arith, z, w.fits)));
        scratch-short = λ q. let z = and-true (not (whole ring (end_place ring e) size)) (ltb (length scratch) size) (because 3 q).0 in
            (ltb-false n (way + size) (passed 3 q 13), (leb-false _ _ (not-true _ z.0), ltb-true (length scratch) size z.1));
      }
