-- `pass_sample::sample` meets its contract: the list is its parts one after the other, and each call passes the next part and leaves what the part after it asks. Assumes nothing.
-- Written by tools/chains.py from the rows of crate table.
use mathlib.Core.List.{◌++◌}
use Rattle.meaning.specs.Values.{tell, width}
use Rattle.layouts.specs.Lists as lists
use Rattle.pass.specs.Laws.{start, head, next}
use Rattle.pass_sample.proofs.sample.Goals as goal

pub sample_1-requires : goal.sample_1-requires
unfolding tell width
sample_1-requires g c = head g.P.Pass.laws (lists.sample-1 c.args.x) ((lists.sample-2 c.args.x c.args.f) ++ ((lists.sample-3 c.args.x c.args.f) ++ ((lists.sample-4 c.args.x c.args.b) ++ ((lists.sample-5 c.args.x c.args.user) ++ ((lists.sample-6 c.args.x c.args.interrupt) ++ ((lists.sample-7 c.args.x))))))) (start c.requires)

pub sample_2-requires : goal.sample_2-requires
unfolding tell width
sample_2-requires g c = head g.P.Pass.laws (lists.sample-2 c.args.x c.args.f) ((lists.sample-3 c.args.x c.args.f) ++ ((lists.sample-4 c.args.x c.args.b) ++ ((lists.sample-5 c.args.x c.args.user) ++ ((lists.sample-6 c.args.x c.args.interrupt) ++ ((lists.sample-7 c.args.x)))))) (next g.P.Pass.laws (lists.sample-1 c.args.x) ((lists.sample-2 c.args.x c.args.f) ++ ((lists.sample-3 c.args.x c.args.f) ++ ((lists.sample-4 c.args.x c.args.b) ++ ((lists.sample-5 c.args.x c.args.user) ++ ((lists.sample-6 c.args.x c.args.interrupt) ++ ((lists.sample-7 c.args.x))))))) (start c.requires) c.sample_1.ensures)

pub sample_3-requires : goal.sample_3-requires
unfolding tell width
sample_3-requires g c = head g.P.Pass.laws (lists.sample-3 c.args.x c.args.f) ((lists.sample-4 c.args.x c.args.b) ++ ((lists.sample-5 c.args.x c.args.user) ++ ((lists.sample-6 c.args.x c.args.interrupt) ++ ((lists.sample-7 c.args.x))))) (next g.P.Pass.laws (lists.sample-2 c.args.x c.args.f) ((lists.sample-3 c.args.x c.args.f) ++ ((lists.sample-4 c.args.x c.args.b) ++ ((lists.sample-5 c.args.x c.args.user) ++ ((lists.sample-6 c.args.x c.args.interrupt) ++ ((lists.sample-7 c.args.x)))))) (next g.P.Pass.laws (lists.sample-1 c.args.x) ((lists.sample-2 c.args.x c.args.f) ++ ((lists.sample-3 c.args.x c.args.f) ++ ((lists.sample-4 c.args.x c.args.b) ++ ((lists.sample-5 c.args.x c.args.user) ++ ((lists.sample-6 c.args.x c.args.interrupt) ++ ((lists.sample-7 c.args.x))))))) (start c.requires) c.sample_1.ensures) c.sample_2.ensures)

pub sample_4-requires : goal.sample_4-requires
unfolding tell width
sample_4-requires g c = head g.P.Pass.laws (lists.sample-4 c.args.x c.args.b) ((lists.sample-5 c.args.x c.args.user) ++ ((lists.sample-6 c.args.x c.args.interrupt) ++ ((lists.sample-7 c.args.x)))) (next g.P.Pass.laws (lists.sample-3 c.args.x c.args.f) ((lists.sample-4 c.args.x c.args.b) ++ ((lists.sample-5 c.args.x c.args.user) ++ ((lists.sample-6 c.args.x c.args.interrupt) ++ ((lists.sample-7 c.args.x))))) (next g.P.Pass.laws (lists.sample-2 c.args.x c.args.f) ((lists.sample-3 c.args.x c.args.f) ++ ((lists.sample-4 c.args.x c.args.b) ++ ((lists.sample-5 c.args.x c.args.user) ++ ((lists.sample-6 c.args.x c.args.interrupt) ++ ((lists.sample-7 c.args.x)))))) (next g.P.Pass.laws (lists.sample-1 c.args.x) ((lists.sample-2 c.args.x c.args.f) ++ ((lists.sample-3 c.args.x c.args.f) ++ ((lists.sample-4 c.args.x c.args.b) ++ ((lists.sample-5 c.args.x c.args.user) ++ ((lists.sample-6 c.args.x c.args.interrupt) ++ ((lists.sample-7 c.args.x))))))) (start c.requires) c.sample_1.ensures) c.sample_2.ensures) c.sample_3.ensures)

pub sample_5-requires : goal.sample_5-requires
unfolding tell width
sample_5-requires g c = head g.P.Pass.laws (lists.sample-5 c.args.x c.args.user) ((lists.sample-6 c.args.x c.args.interrupt) ++ ((lists.sample-7 c.args.x))) (next g.P.Pass.laws (lists.sample-4 c.args.x c.args.b) ((lists.sample-5 c.args.x c.args.user) ++ ((lists.sample-6 c.args.x c.args.interrupt) ++ ((lists.sample-7 c.args.x)))) (next g.P.Pass.laws (lists.sample-3 c.args.x c.args.f) ((lists.sample-4 c.args.x c.args.b) ++ ((lists.sample-5 c.args.x c.args.user) ++ ((lists.sample-6 c.args.x c.args.interrupt) ++ ((lists.sample-7 c.args.x))))) (next g.P.Pass.laws (lists.sample-2 c.args.x c.args.f) ((lists.sample-3 c.args.x c.args.f) ++ ((lists.sample-4 c.args.x c.args.b) ++ ((lists.sample-5 c.args.x c.args.user) ++ ((lists.sample-6 c.args.x c.args.interrupt) ++ ((lists.sample-7 c.args.x)))))) (next g.P.Pass.laws (lists.sample-1 c.args.x) ((lists.sample-2 c.args.x c.args.f) ++ ((lists.sample-3 c.args.x c.args.f) ++ ((lists.sample-4 c.args.x c.args.b) ++ ((lists.sample-5 c.args.x c.args.user) ++ ((lists.sample-6 c.args.x c.args.interrupt) ++ ((lists.sample-7 c.args.x))))))) (start c.requires) c.sample_1.ensures) c.sample_2.ensures) c.sample_3.ensures) c.sample_4.ensures)

pub sample_6-requires : goal.sample_6-requires
unfolding tell width
sample_6-requires g c = head g.P.Pass.laws (lists.sample-6 c.args.x c.args.interrupt) (lists.sample-7 c.args.x) (next g.P.Pass.laws (lists.sample-5 c.args.x c.args.user) ((lists.sample-6 c.args.x c.args.interrupt) ++ ((lists.sample-7 c.args.x))) (next g.P.Pass.laws (lists.sample-4 c.args.x c.args.b) ((lists.sample-5 c.args.x c.args.user) ++ ((lists.sample-6 c.args.x c.args.interrupt) ++ ((lists.sample-7 c.args.x)))) (next g.P.Pass.laws (lists.sample-3 c.args.x c.args.f) ((lists.sample-4 c.args.x c.args.b) ++ ((lists.sample-5 c.args.x c.args.user) ++ ((lists.sample-6 c.args.x c.args.interrupt) ++ ((lists.sample-7 c.args.x))))) (next g.P.Pass.laws (lists.sample-2 c.args.x c.args.f) ((lists.sample-3 c.args.x c.args.f) ++ ((lists.sample-4 c.args.x c.args.b) ++ ((lists.sample-5 c.args.x c.args.user) ++ ((lists.sample-6 c.args.x c.args.interrupt) ++ ((lists.sample-7 c.args.x)))))) (next g.P.Pass.laws (lists.sample-1 c.args.x) ((lists.sample-2 c.args.x c.args.f) ++ ((lists.sample-3 c.args.x c.args.f) ++ ((lists.sample-4 c.args.x c.args.b) ++ ((lists.sample-5 c.args.x c.args.user) ++ ((lists.sample-6 c.args.x c.args.interrupt) ++ ((lists.sample-7 c.args.x))))))) (start c.requires) c.sample_1.ensures) c.sample_2.ensures) c.sample_3.ensures) c.sample_4.ensures) c.sample_5.ensures)

pub sample_7-requires : goal.sample_7-requires
unfolding tell width
sample_7-requires g c = (next g.P.Pass.laws (lists.sample-6 c.args.x c.args.interrupt) (lists.sample-7 c.args.x) (next g.P.Pass.laws (lists.sample-5 c.args.x c.args.user) ((lists.sample-6 c.args.x c.args.interrupt) ++ ((lists.sample-7 c.args.x))) (next g.P.Pass.laws (lists.sample-4 c.args.x c.args.b) ((lists.sample-5 c.args.x c.args.user) ++ ((lists.sample-6 c.args.x c.args.interrupt) ++ ((lists.sample-7 c.args.x)))) (next g.P.Pass.laws (lists.sample-3 c.args.x c.args.f) ((lists.sample-4 c.args.x c.args.b) ++ ((lists.sample-5 c.args.x c.args.user) ++ ((lists.sample-6 c.args.x c.args.interrupt) ++ ((lists.sample-7 c.args.x))))) (next g.P.Pass.laws (lists.sample-2 c.args.x c.args.f) ((lists.sample-3 c.args.x c.args.f) ++ ((lists.sample-4 c.args.x c.args.b) ++ ((lists.sample-5 c.args.x c.args.user) ++ ((lists.sample-6 c.args.x c.args.interrupt) ++ ((lists.sample-7 c.args.x)))))) (next g.P.Pass.laws (lists.sample-1 c.args.x) ((lists.sample-2 c.args.x c.args.f) ++ ((lists.sample-3 c.args.x c.args.f) ++ ((lists.sample-4 c.args.x c.args.b) ++ ((lists.sample-5 c.args.x c.args.user) ++ ((lists.sample-6 c.args.x c.args.interrupt) ++ ((lists.sample-7 c.args.x))))))) (start c.requires) c.sample_1.ensures) c.sample_2.ensures) c.sample_3.ensures) c.sample_4.ensures) c.sample_5.ensures) c.sample_6.ensures).ready

pub returns : goal.returns
unfolding tell width
returns g c = (next g.P.Pass.laws (lists.sample-6 c.args.x c.args.interrupt) (lists.sample-7 c.args.x) (next g.P.Pass.laws (lists.sample-5 c.args.x c.args.user) ((lists.sample-6 c.args.x c.args.interrupt) ++ ((lists.sample-7 c.args.x))) (next g.P.Pass.laws (lists.sample-4 c.args.x c.args.b) ((lists.sample-5 c.args.x c.args.user) ++ ((lists.sample-6 c.args.x c.args.interrupt) ++ ((lists.sample-7 c.args.x)))) (next g.P.Pass.laws (lists.sample-3 c.args.x c.args.f) ((lists.sample-4 c.args.x c.args.b) ++ ((lists.sample-5 c.args.x c.args.user) ++ ((lists.sample-6 c.args.x c.args.interrupt) ++ ((lists.sample-7 c.args.x))))) (next g.P.Pass.laws (lists.sample-2 c.args.x c.args.f) ((lists.sample-3 c.args.x c.args.f) ++ ((lists.sample-4 c.args.x c.args.b) ++ ((lists.sample-5 c.args.x c.args.user) ++ ((lists.sample-6 c.args.x c.args.interrupt) ++ ((lists.sample-7 c.args.x)))))) (next g.P.Pass.laws (lists.sample-1 c.args.x) ((lists.sample-2 c.args.x c.args.f) ++ ((lists.sample-3 c.args.x c.args.f) ++ ((lists.sample-4 c.args.x c.args.b) ++ ((lists.sample-5 c.args.x c.args.user) ++ ((lists.sample-6 c.args.x c.args.interrupt) ++ ((lists.sample-7 c.args.x))))))) (start c.requires) c.sample_1.ensures) c.sample_2.ensures) c.sample_3.ensures) c.sample_4.ensures) c.sample_5.ensures) c.sample_6.ensures).last _ c.sample_7.ensures
