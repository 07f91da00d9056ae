-- `pass_types::trailer` meets its contract: the list is its parts one after the other, and each call passes the next part and leaves what the part after it asks. Assumes nothing.
-- Written by tools/chains.py from the rows of crate table.
use Rattle.meaning.specs.Values.{tell, width}
use Rattle.layouts.specs.Lists as lists
use Rattle.pass.specs.Laws.{start, head, next}
use Rattle.pass_types.proofs.trailer.Goals as goal

pub trailer_1-requires : goal.trailer_1-requires
unfolding tell width
trailer_1-requires g c = head g.P.Pass.laws (lists.trailer-1 c.args.x) (lists.trailer-2 c.args.x) (start c.requires)

pub trailer_2-requires : goal.trailer_2-requires
unfolding tell width
trailer_2-requires g c = (next g.P.Pass.laws (lists.trailer-1 c.args.x) (lists.trailer-2 c.args.x) (start c.requires) c.trailer_1.ensures).ready

pub returns : goal.returns
unfolding tell width
returns g c = (next g.P.Pass.laws (lists.trailer-1 c.args.x) (lists.trailer-2 c.args.x) (start c.requires) c.trailer_1.ensures).last _ c.trailer_2.ensures
