use mathlib.Core.Path.{◌≡◌}
use Prim.Native.Nat.{◌+◌, ◌*◌}
use Rattle.blocks.specs.ScanLaws.{Scanned}
use Rattle.blocks.proofs.scan.name_ok.Given as goal

abbrev pub invariant-loop-sixteen : goal.invariant-loop-sixteen
invariant-loop-sixteen l = Scanned l.s l.at (l.at + l.sixteen-index * 16)
