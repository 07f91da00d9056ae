-- `put_chains::trail` meets its contract: the words of a value are enough. Assumes nothing.
use Rattle.write_fits.specs.Words.{trailer-words}
use Rattle.put_chains.proofs.trail.Goals as goal

pub trail-requires : goal.trail-requires
trail-requires c = (c.requires.0, trailer-words c.args.kind c.args.a _ c.requires.1)
