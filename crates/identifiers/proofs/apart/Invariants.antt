-- The identifiers behind place i are distinct and marked.
use Rattle.std.proofs.Common.{map, length, ◌≤◌}
use Rattle.event_laws.specs.Marks.{Behind}
use Rattle.identifiers.proofs.apart.Given as goal

abbrev pub invariant-loop-i : goal.invariant-loop-i
invariant-loop-i g l = Behind (map g.T.Identified.identifier_of l.table) l.seen l.i × (l.i ≤ length l.table)
