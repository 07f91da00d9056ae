-- `writer_record::spare_zero` meets its contract: the words after the body's and the one after the trailer's are those that the type does not have. Assumes nothing.
use Rattle.writer_parts.specs.Parts.{items_from}
use Rattle.writer_record.specs.Spare.{spare-is}
use Rattle.writer_record.proofs.spare_zero.Goals as goal

pub returns : goal.returns
returns c =
    let a = c.args in
    spare-is (items_from a.p a.p.from) a.p.kind a.p.attributes a.ws.now c.body_end-own.result _ _ c.body_end-own.ensures c.zero_between-between.ensures c.zero_between.ensures
