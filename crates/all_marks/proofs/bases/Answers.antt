-- The list with the trailer added, computed.
use mathlib.Core.Path.{refl}
use Rattle.marks.specs.Bases.{bases_with}
use Rattle.all_marks.proofs.bases.Goals as goal

pub returns : goal.returns
unfolding bases_with
returns c = refl
