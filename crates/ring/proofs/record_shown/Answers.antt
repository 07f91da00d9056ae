-- The code asks what the definition asks, in the same order, and each answer is the part that the definition takes.
use Rattle.std.proofs.Common.{sym, ◌∙◌, le-leb}
use native.Mathlib.Nat.{add-sub_cancel_left}
use borrow.Author.Tests.{lt-leb}
use Rattle.meaning.specs.Ring.{shown}
use Rattle.ring.specs.Part.{shown_from}
use Rattle.ring.proofs.record_shown.Goals as goal

pub returns-then-lies_whole-clause-result_value : goal.returns-then-lies_whole-clause-result_value
unfolding shown
returns-then-lies_whole-clause-result_value c = simp (sym c.lies_whole.ensures ∙ c.if-lies_whole.true, add-sub_cancel_left)

pub returns-then-lies_whole-clause-ref_ptr_value : goal.returns-then-lies_whole-clause-ref_ptr_value
unfolding shown_from
returns-then-lies_whole-clause-ref_ptr_value c = simp (sym c.lies_whole.ensures ∙ c.if-lies_whole.true)

pub returns-then-f-scratch-clause-result_value : goal.returns-then-f-scratch-clause-result_value
unfolding shown
returns-then-f-scratch-clause-result_value c = simp (sym c.lies_whole.ensures ∙ c.if-lies_whole.false, le-leb _ _ c.if-f-scratch.true)

pub returns-then-f-scratch-clause-ref_ptr_value : goal.returns-then-f-scratch-clause-ref_ptr_value
unfolding shown_from
returns-then-f-scratch-clause-ref_ptr_value c = simp (sym c.lies_whole.ensures ∙ c.if-lies_whole.false, le-leb _ _ c.if-f-scratch.true)

pub returns-clause-result_value : goal.returns-clause-result_value
unfolding shown
returns-clause-result_value c = simp (sym c.lies_whole.ensures ∙ c.if-lies_whole.false, lt-leb _ _ c.if-f-scratch.false)

pub returns-clause-ref_ptr_value : goal.returns-clause-ref_ptr_value
unfolding shown_from
returns-clause-ref_ptr_value c = simp (sym c.lies_whole.ensures ∙ c.if-lies_whole.false, lt-leb _ _ c.if-f-scratch.false)
