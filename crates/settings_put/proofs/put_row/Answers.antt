-- Head, index and words are put one right after the other: together they are the entry.
use Rattle.std.specs.Prelude.{ℕ, ◌+◌, ◌++◌}
use Rattle.std.proofs.Common.{ap, ◌∙◌}
use Rattle.meaning.specs.Bytes.{spell, put}
use Rattle.settings.specs.Lent.{words_of}
use Rattle.settings.specs.Versions.{row_of}
use Rattle.settings.proofs.Puts.{row_put}
use borrow.Author.Rules.{rules}
use Rattle.settings_put.proofs.put_row.Goals as goal

pub returns : goal.returns
returns c =
    let a = c.args in
    let head = c.put_head.ensures ∙ ap (λ (k : ℕ). put a.d.now a.at (spell 4 (6 + (a.v.width + 48)) ++ spell 2 k)) c.number.ensures in
    row_put (row_of a.v) a.d.now _ _ _ a.at a.n (words_of a.event.now) c.requires head c.put_index.ensures c.put_words.ensures
