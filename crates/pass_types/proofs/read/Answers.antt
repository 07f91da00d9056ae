-- `pass_types::read` meets its contract: the list is its parts one after the other, and each call passes the next part and leaves what the part after it asks. Assumes nothing.
-- Written by tools/chains.py from the rows of crate table.
use Rattle.meaning.specs.Values.{tell, width}
use Rattle.layouts.specs.Lists as lists
use Rattle.pass.specs.Laws.{start, head, next}
use Rattle.pass_types.proofs.read.Goals as goal

pub read_1-requires : goal.read_1-requires
unfolding tell width
read_1-requires g c = head g.P.Pass.laws (lists.read-1 c.args.f) (lists.read-2 c.args.f) (start c.requires)

pub read_2-requires : goal.read_2-requires
unfolding tell width
read_2-requires g c = (next g.P.Pass.laws (lists.read-1 c.args.f) (lists.read-2 c.args.f) (start c.requires) c.read_1.ensures).ready

pub returns : goal.returns
unfolding tell width
returns g c = (next g.P.Pass.laws (lists.read-1 c.args.f) (lists.read-2 c.args.f) (start c.requires) c.read_1.ensures).last _ c.read_2.ensures
