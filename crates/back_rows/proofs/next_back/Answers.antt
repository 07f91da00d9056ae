-- Each test is a row's, in the order of the rows of the call; what passes them is left to the rows of the place, whose header lies whole.
use Rattle.std.proofs.Common.{sym, ◌∙◌, arith, eq-eqb, ne_eqb}
use Rattle.meaning.specs.Ring.{stopped}
use Rattle.meaning.specs.Backward.{back_frame}
use Rattle.laws.specs.Rings.{length-bounds}
use Rattle.laws.proofs.Framing.{header-whole}
use Rattle.back_rows.proofs.next_back.Goals as goal

pub returns-then-not-length_allowed : goal.returns-then-not-length_allowed
unfolding back_frame stopped
returns-then-not-length_allowed c = simp (sym c.length_allowed.ensures ∙ c.if-not-length_allowed.true)

pub returns-then-not-ok : goal.returns-then-not-ok
unfolding back_frame stopped
returns-then-not-ok c = simp (
  sym c.length_allowed.ensures ∙ c.if-not-length_allowed.false,
  c.if-not-ok.true,
)

pub returns-then-head-ne0 : goal.returns-then-head-ne0
unfolding back_frame stopped
returns-then-head-ne0 c = simp (
  sym c.length_allowed.ensures ∙ c.if-not-length_allowed.false,
  c.if-not-ok.false,
  ne_eqb _ _ c.if-head-ne0.true,
)

pub returns-then-not-table : goal.returns-then-not-table
unfolding back_frame stopped
returns-then-not-table c = simp (
  sym c.length_allowed.ensures ∙ c.if-not-length_allowed.false,
  c.if-not-ok.false,
  eq-eqb _ _ c.if-head-ne0.false,
  c.if-not-table.true,
)

pub nonzero_rem-place : goal.nonzero_rem-place
nonzero_rem-place c = omega (arith, length-bounds _ (sym c.length_allowed.ensures ∙ c.if-not-length_allowed.false))

-- past 1 and 5 the count is a multiple of 8: the header lies whole (M-104)
pub placed_at-requires : goal.placed_at-requires
placed_at-requires c = header-whole _ _ (sym c.length_allowed.ensures ∙ c.if-not-length_allowed.false) (c.requires c.if-head-ne0.false)

pub returns : goal.returns
unfolding back_frame stopped
returns c = simp (
  c.placed_at.ensures,
  c.distance-way.ensures,
  sym c.length_allowed.ensures ∙ c.if-not-length_allowed.false,
  c.if-not-ok.false,
  eq-eqb _ _ c.if-head-ne0.false,
  c.if-not-table.false,
)
