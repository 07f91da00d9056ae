-- `write_puts::header` meets its contract: three numbers, one after the other. Assumes nothing.
use Rattle.writer_items.specs.Header.{header-put}
use Rattle.write_puts.proofs.header.Goals as goal

pub returns : goal.returns
returns c =
    header-put c.args.kind c.args.misc c.args.size c.args.buffer.now _ _ _ c.requires
    c.store4.ensures c.store2.ensures c.store2-2.ensures
