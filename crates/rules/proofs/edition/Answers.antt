-- `rules::edition` meets its contract: by the arms of the `match`: a row of the table, or nothing. Assumes nothing.
use mathlib.Core.Path.{◌≡◌, sym, ap}
use Prim.Native.Nat.{ℕ, ◌-◌}
use native.Mathlib.Omega.{arith}
use lib.ListN.{get_or}
use Rattle.meaning.specs.Editions.{nothing_known, editions, known}
use Rattle.rules.proofs.Laws.{known_past}
use Rattle.rules.proofs.edition.Goals as goal

pub returns-in-2 : goal.returns-in-2
unfolding known
returns-in-2 c = ap (known editions) (sym c.in-2.is)

pub returns-in-3 : goal.returns-in-3
unfolding known
returns-in-3 c = ap (known editions) (sym c.in-3.is)

pub returns-in-4 : goal.returns-in-4
unfolding known
returns-in-4 c = ap (known editions) (sym c.in-4.is)

pub returns-in-0 : goal.returns-in-0
unfolding known
returns-in-0 c = let z : 0 ≡ c.args.e - 1 = omega arith in ap (λ (i : ℕ). get_or editions i nothing_known) z

pub returns-in_default : goal.returns-in_default
returns-in_default c = known_past editions c.args.e (omega arith)
