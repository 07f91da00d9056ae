-- The sums and the mark are those of the attributes; the type is SAMPLE.
use mathlib.Core.Path.{sym, subst}
use Prim.Native.Nat.{ℕ}
use Rattle.marks.specs.Marks.{Marked}
use Rattle.fast_check.proofs.sampled.Goals as goal

pub sampled-requires : goal.sampled-requires
sampled-requires c =
    let a = c.args in record { sample = c.requires; marked = subst (λ (k : ℕ). Marked a.known a.a k c.sample_mark-mark.result) (sym c.requires) c.sample_mark-mark.ensures; sums_value = c.sums-sums.ensures }
