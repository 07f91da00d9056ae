-- `rules::past` meets its contract: what a shift leaves says whether a bit is above. Assumes nothing.
use mathlib.Core.Path.{sym, ◌∙◌}
use Prim.Native.Nat.{◌^◌, ◌≤◌}
use native.Mathlib.Omega.{arith}
use lib.Pow.{pow_mono}
use borrow.Author.Tests.{lt-leb}
use Rattle.std.proofs.lemmas.Bool.{le-ltb}
use Rattle.rules.proofs.Laws.{shifted}
use Rattle.rules.proofs.past.Goals as goal

pub returns-then-known-lt64 : goal.returns-then-known-lt64
returns-then-known-lt64 c = shifted c.args.x c.args.known

pub returns-else-known-lt64 : goal.returns-else-known-lt64
returns-else-known-lt64 c = let p : 2 ^ 64 ≤ 2 ^ c.args.known = pow_mono c.if-known-lt64.false in le-ltb c.args.known 64 c.if-known-lt64.false ∙ sym (lt-leb _ c.args.x (omega (arith, p, c.ranges.x.fits)))
