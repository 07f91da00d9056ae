-- `writer_items::no_zero` meets its contract: the first zero is at the end exactly when no byte is zero. Assumes nothing.
use mathlib.Core.Path.{◌≡◌, ap, ◌∙◌}
use Prim.Native.Nat.{ℕ}
use native.Mathlib.Omega.{arith}
use lib.ListN.{length}
use lib.Dec.{eqb}
use Rattle.meaning.specs.Bytes.{zero_in}
use Rattle.writer_items.proofs.Tests.{no-zeros}
use Rattle.writer_items.proofs.no_zero.Goals as goal

pub returns : goal.returns
returns c =
    let xs = c.args.s.now in
    let e : c.zero_from.result ≡ zero_in xs = omega (arith, c.zero_from.ensures.0) in
    ap (λ (n : ℕ). eqb n (length xs)) e ∙ no-zeros xs
