-- `write_fits::none` meets its contract: a word that is not 0 is refused. Assumes nothing.
use mathlib.Core.Path.{sym, ◌∙◌}
use borrow.Author.Tests.{eq-eqb, ne_eqb}
use Rattle.write_fits.proofs.none.Goals as goal

pub returns-then-v-eq0 : goal.returns-then-v-eq0
returns-then-v-eq0 c = sym (rw (eq-eqb _ 0 c.if-v-eq0.true))

pub returns-else-v-eq0 : goal.returns-else-v-eq0
returns-else-v-eq0 c = c.refuse.ensures ∙ sym (rw (ne_eqb _ 0 c.if-v-eq0.false))
