-- `put_chains::fields` meets its contract: the words of a value are enough. Assumes nothing.
use Rattle.write_fits.specs.Words.{fields-words}
use Rattle.put_chains.proofs.fields.Goals as goal

pub fields-requires : goal.fields-requires
fields-requires c = (c.requires.0, fields-words c.args.kind c.args.misc c.args.a _ c.requires.1)
