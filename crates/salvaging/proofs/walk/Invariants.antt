use Rattle.std.specs.Prelude.{ℕ, ◌-◌, length}
use Rattle.meaning.specs.Editions.{editions}
use Rattle.salvage.specs.Salvage.{table_judge}
use Rattle.salvaging.proofs.Held.{Held, writes}
use Rattle.salvaging.proofs.walk.Given as goal

abbrev pub invariant-loop-w : goal.invariant-loop-w
invariant-loop-w g l = Held (writes g.row.WRITES) (table_judge editions l.e l.events) l.xs l.initial.out l.initial.list l.w l.out l.list

abbrev pub decreases-loop-w : goal.decreases-loop-w
decreases-loop-w g l = length l.xs - l.w.at
