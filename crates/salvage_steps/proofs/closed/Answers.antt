-- A hole ends at the place exactly where its start is before the place: the two branches.
use borrow.Author.Tests.{lt-ltb, le-ltb}
use borrow.Author.Rules.{rules}
use Rattle.salvage_steps.proofs.closed.Goals as goal

pub returns-then-w : goal.returns-then-w
returns-then-w c = let w = c.args.w in simp (lt-ltb w.start w.at c.if-w.true)

pub returns-else-w : goal.returns-else-w
returns-else-w c = let w = c.args.w in simp (le-ltb w.start w.at c.if-w.false)
