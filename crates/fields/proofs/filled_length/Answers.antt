-- `fields::filled_length` meets its contract: by the size of the stack, 0 or not. Assumes nothing.
use borrow.Author.Tests.{eq-eqb, ne_eqb}
use Rattle.meaning.specs.Bytes.{num}
use Rattle.meaning.specs.Items.{span, part}
use Rattle.fields.proofs.filled_length.Goals as goal

pub returns-then-c-eq0 : goal.returns-then-c-eq0
unfolding part span num
returns-then-c-eq0 c = rw (eq-eqb _ 0 c.if-c-eq0.true)

pub u64_at-requires : goal.u64_at-requires
u64_at-requires c = c.requires c.if-c-eq0.false

pub returns : goal.returns
unfolding part span
returns c = rw (ne_eqb _ 0 c.if-c-eq0.false) c.u64_at.ensures
