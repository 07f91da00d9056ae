-- `writer_parts::body` meets its contract: the table's part of a type stands for the type's fields. Assumes nothing.
use Rattle.writer_parts.proofs.Laws.{body-lays}
use Rattle.writer_parts.proofs.body.Goals as goal

pub returns : goal.returns
returns c =
    let a = c.args in
    body-lays a.attributes a.kind a.misc c.part_of-p.result c.part_of-p.ensures
