-- `fields::blank` meets its contract: by the number of words. Assumes nothing.
use Rattle.std.proofs.Common.{sym, ◌∙◌, arith}
use Rattle.fields.proofs.Telling.{blank-is}
use Rattle.fields.proofs.blank.Goals as goal

pub returns-in-0 : goal.returns-in-0
returns-in-0 c = blank-is c.args.shape 0 (sym c.in-0.is ∙ c.words_of.ensures.0)

pub returns-in-1 : goal.returns-in-1
returns-in-1 c = blank-is c.args.shape 1 (sym c.in-1.is ∙ c.words_of.ensures.0)

pub returns-in_default : goal.returns-in_default
returns-in_default c = blank-is c.args.shape 2 (omega (arith, c.in_default, c.words_of.ensures.0, c.words_of.ensures.1))
