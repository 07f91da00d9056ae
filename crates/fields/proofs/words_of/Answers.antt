-- `fields::words_of` meets its contract: by cases of the shape. Assumes nothing.
use mathlib.Core.Path.{sym, ap}
use native.Mathlib.Omega.{arith}
use Rattle.meaning.specs.Values.{tell, words_of}
use Rattle.fields.proofs.words_of.Goals as goal

pub returns-in-Number : goal.returns-in-Number
unfolding tell
returns-in-Number c = (ap words_of (sym c.in-Number.is), omega arith)

pub returns-in-Ignored : goal.returns-in-Ignored
unfolding tell
returns-in-Ignored c = (ap words_of (sym c.in-Ignored.is), omega arith)

pub returns-in-Count : goal.returns-in-Count
unfolding tell
returns-in-Count c = (ap words_of (sym c.in-Count.is), omega arith)

pub returns-in-Size : goal.returns-in-Size
unfolding tell
returns-in-Size c = (ap words_of (sym c.in-Size.is), omega arith)

pub returns-in-Times : goal.returns-in-Times
unfolding tell
returns-in-Times c = (ap words_of (sym c.in-Times.is), omega arith)

pub returns-in-Earlier : goal.returns-in-Earlier
unfolding tell
returns-in-Earlier c = (ap words_of (sym c.in-Earlier.is), omega arith)

pub returns-in-Registers : goal.returns-in-Registers
unfolding tell
returns-in-Registers c = (ap words_of (sym c.in-Registers.is), omega arith)

pub returns-in-Filled : goal.returns-in-Filled
unfolding tell
returns-in-Filled c = (ap words_of (sym c.in-Filled.is), omega arith)

pub returns-in-Abi : goal.returns-in-Abi
unfolding tell
returns-in-Abi c = (ap words_of (sym c.in-Abi.is), omega arith)

pub returns-in-Limit : goal.returns-in-Limit
unfolding tell
returns-in-Limit c = (ap words_of (sym c.in-Limit.is), omega arith)

pub returns-in-Listed : goal.returns-in-Listed
unfolding tell
returns-in-Listed c = (ap words_of (sym c.in-Listed.is), omega arith)

pub returns-in-Bytes : goal.returns-in-Bytes
unfolding tell
returns-in-Bytes c = (ap words_of (sym c.in-Bytes.is), omega arith)

pub returns-in-Pad : goal.returns-in-Pad
unfolding tell
returns-in-Pad c = (ap words_of (sym c.in-Pad.is), omega arith)

pub returns-in-Name : goal.returns-in-Name
unfolding tell
returns-in-Name c = (ap words_of (sym c.in-Name.is), omega arith)
