-- The bits, joined as the definition joins them.
use Rattle.marks.specs.Bases.{stretched}
use Rattle.marks.proofs.in_stretches.Goals as goal

pub returns : goal.returns
unfolding stretched
returns c = cc
