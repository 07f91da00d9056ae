-- `writer_forms::of_item` meets its contract: an item that is off has a blank form, and the other way is `of_shape`. Assumes nothing.
use Rattle.writer_forms.specs.Forms.{form}
use Rattle.writer_forms.proofs.of_item.Goals as goal

pub returns-then-i : goal.returns-then-i
unfolding form
returns-then-i c = rw c.if-i.true c.of_shape.ensures

pub returns-else-i : goal.returns-else-i
unfolding form
returns-else-i c = rw c.if-i.false c.blank.ensures
