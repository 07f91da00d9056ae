-- `writer_parts::trailing` meets its contract: the last rows of the table stand for the trailer, by computation. Assumes nothing.
use Rattle.writer_parts.proofs.Laws.{trail-lays}
use Rattle.writer_parts.proofs.trailing.Goals as goal

pub returns : goal.returns
returns c =
    let a = c.args in
    trail-lays a.attributes a.kind a.misc
