-- Bit 14 of misc, of type 10 alone.
use mathlib.Core.Path.{◌∙◌, ap}
use mathlib.Core.Bool.{Bool, ◌&&◌}
use Prim.Native.Nat.{ℕ}
use lib.Dec.{eqb}
use Rattle.meaning.specs.Bytes.{bit}
use Rattle.meaning.specs.Records.{misc_of}
use Rattle.plan.proofs.has_build.Goals as goal

pub returns : goal.returns
unfolding misc_of
returns c =
    let a = c.args in
    ap (λ (b : Bool). eqb a.r.kind 10 && b) (c.has_bit.ensures ∙ ap (λ (n : ℕ). bit n 14) c.u16_at.ensures.0)
