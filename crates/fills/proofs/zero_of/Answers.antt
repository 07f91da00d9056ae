-- `fills::zero_of` meets its contract: the search finds the first zero from the place, or, where eight bytes and more follow, in the last eight, before which the contract has none. Assumes nothing.
use Rattle.fills.proofs.Shapes.{zero-from-end}
use Rattle.fills.proofs.zero_of.Goals as goal

pub returns : goal.returns
returns c =
    zero-from-end c.args.s.now c.args.at _ c.requires.0 c.if-s-at-lt8.false c.requires.1 c.zero_from-2.ensures.0
