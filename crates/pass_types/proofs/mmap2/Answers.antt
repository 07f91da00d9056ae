-- `pass_types::mmap2` meets its contract: the list is its parts one after the other, and each call passes the next part and leaves what the part after it asks. Assumes nothing.
-- Written by tools/chains.py from the rows of crate table.
use mathlib.Core.List.{◌++◌}
use Rattle.meaning.specs.Values.{tell, width}
use Rattle.layouts.specs.Lists as lists
use Rattle.pass.specs.Laws.{start, head, next}
use Rattle.pass_types.proofs.mmap2.Goals as goal

pub mmap2_1-requires : goal.mmap2_1-requires
unfolding tell width
mmap2_1-requires g c = head g.P.Pass.laws lists.mmap2-1 ((lists.mmap2-2 c.args.misc) ++ ((lists.mmap2-3 c.args.misc))) (start c.requires)

pub mmap2_2-requires : goal.mmap2_2-requires
unfolding tell width
mmap2_2-requires g c = head g.P.Pass.laws (lists.mmap2-2 c.args.misc) (lists.mmap2-3 c.args.misc) (next g.P.Pass.laws lists.mmap2-1 ((lists.mmap2-2 c.args.misc) ++ ((lists.mmap2-3 c.args.misc))) (start c.requires) c.mmap2_1.ensures)

pub mmap2_3-requires : goal.mmap2_3-requires
unfolding tell width
mmap2_3-requires g c = (next g.P.Pass.laws (lists.mmap2-2 c.args.misc) (lists.mmap2-3 c.args.misc) (next g.P.Pass.laws lists.mmap2-1 ((lists.mmap2-2 c.args.misc) ++ ((lists.mmap2-3 c.args.misc))) (start c.requires) c.mmap2_1.ensures) c.mmap2_2.ensures).ready

pub returns : goal.returns
unfolding tell width
returns g c = (next g.P.Pass.laws (lists.mmap2-2 c.args.misc) (lists.mmap2-3 c.args.misc) (next g.P.Pass.laws lists.mmap2-1 ((lists.mmap2-2 c.args.misc) ++ ((lists.mmap2-3 c.args.misc))) (start c.requires) c.mmap2_1.ensures) c.mmap2_2.ensures).last _ c.mmap2_3.ensures
