-- `pairs::same_record` meets its contract: unlike lengths are unlike bytes; else all bytes of both are compared.
use mathlib.Core.Path.{◌∙◌}
use Rattle.pairs.specs.Start.{other_length, whole-bytes}
use Rattle.pairs.proofs.same_record.Goals as goal

pub returns-then-x-y : goal.returns-then-x-y
returns-then-x-y c = let a = c.args in other_length a.x.now a.y.now c.if-x-y.true

pub returns : goal.returns
returns c = let a = c.args in c.same_bytes.ensures ∙ whole-bytes a.x.now a.y.now c.if-x-y.false
