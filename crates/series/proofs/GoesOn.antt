-- The one drain of a series takes what the series took, and goes on from there. Assumes nothing.
use Rattle.std.specs.Prelude.{◌≡◌, List, ◌++◌, refl, ℕ, ◌+◌, ◌-◌, ◌*◌, ◌%◌, ◌^◌, ◌<◌, ◌≤◌, length}
use Rattle.std.proofs.Common.{sym, ap, ◌∙◌, subst, arith, length-append}
use Rattle.meaning.specs.Ring.{Asked}
use Rattle.meaning.specs.Drain.{End}
use Rattle.runs.specs.Cutting.{Cut, begin, entries, Chained}
use Rattle.runs.proofs.Runs.{entries-append}
use Rattle.series.specs.Series.{Step, Given, drain_at, one_drain, GoesOn}
use Rattle.series.proofs.Chains.{step_cuts, drain-reads, chain-cuts}
use Rattle.series.proofs.Steps.{Along}

module _ (asked : Asked) (judge : List ℕ → ℕ) (tail : ℕ) (tl : tail < 2 ^ 64) (z : Step) where
  abbrev one : ℕ → List ℕ → List ℕ → End
  one budget journal scratch = drain_at asked judge tail (one_drain z budget journal scratch)

  -- the one drain takes what the series took, and goes on from there
  pub along-goes-on : (eight : z.head % 8 ≡ 0) (g : Given) (far : ℕ) → Along asked tail tl z eight judge g far
      → (budget : ℕ) (journal scratch journal' scratch' : List ℕ) → length scratch ≡ length z.scratch → length scratch' ≡ length z.scratch
      → g.taken ≤ budget → 16 * g.taken + length journal' ≡ length journal
      → GoesOn g (one budget journal scratch) (drain_at asked judge g.tail (one_drain z (budget - g.taken) journal' scratch'))
  along-goes-on eight g far a budget journal scratch journal' scratch' s s' b j =
      let d = drain-reads asked judge tail (one_drain z budget journal scratch) in
      let v = drain-reads asked judge g.tail (one_drain z (budget - g.taken) journal' scratch') in
      let cs : List Cut = a.records in
      let ds : List Cut = (step_cuts asked g.tail (one_drain z (budget - g.taken) journal' scratch')).records in
      let e : (tail + 0) % 2 ^ 64 ≡ tail = omega arith in
      let k = a.taken in
      let t = chain-cuts asked z.ring z.head (length z.scratch) cs g.tail (begin tail (length journal) scratch) (begin g.tail (length journal') scratch')
      budget (budget - g.taken) (subst (λ (x : ℕ). Chained x cs g.tail) e a.way.tails) a.way.links refl s s' (omega arith) (omega arith) in
      record {
        taken = omega (arith, d.taken, v.taken, ap (λ (x : List Cut). length x) t.records, length-append cs ds);
        entries = d.entries-are
            ∙ ap (entries judge) t.records
            ∙ entries-append judge cs ds
            ∙ ap (λ (x : List ℕ). x ++ entries judge ds) (sym a.entries-are)
            ∙ ap (λ (x : List ℕ). g.entries ++ x) (sym v.entries-are);
        tail = d.tail ∙ t.tail ∙ sym v.tail;
        stop = d.stop ∙ t.stop ∙ sym v.stop;
      }
