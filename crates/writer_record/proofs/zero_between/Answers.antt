-- `writer_record::zero_between` meets its contract: past the words' end there is nothing, on both sides. Assumes nothing.
use Rattle.std.proofs.Common.{rules, ◌∙◌, ap, ℕ, eqb}
use borrow.Author.Tests.{tests}
use Rattle.std.proofs.lemmas.Iterator.{YieldsList-from_slice}
use Rattle.std.proofs.lemmas.Iterator.Search.{all_from_yields_List}
use Rattle.meaning.specs.Bytes.{all_zero}
use Rattle.writer_record.specs.Spare.{all-zero, between-is}
use Rattle.writer_record.proofs.zero_between.Goals as goal

pub returns : goal.returns
returns c =
    all_from_yields_List (λ (word : ℕ). eqb word 0) _ _ c.all.result c.all.ensures.ran (YieldsList-from_slice _ c.iter.ensures.rest)
    (λ x b q k. search (rules, tests))
    ∙ all-zero _ ∙ ap all_zero (between-is c.args.ws.now c.args.from c.args.to _ _ c.min.ensures c.min-2.ensures)
