-- `writer_record::put_header` meets its contract: three numbers, one after the other. Assumes nothing.
use Rattle.writer_items.specs.Header.{header-put}
use Rattle.writer_record.proofs.put_header.Goals as goal

pub returns : goal.returns
returns c =
    let a = c.args in
    header-put a.kind a.misc a.size a.buffer.now _ _ _ c.requires c.put32.ensures c.put16.ensures c.put16-2.ensures
