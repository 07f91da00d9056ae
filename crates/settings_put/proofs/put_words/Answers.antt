-- Six words are put one right after the other.
use Rattle.settings.specs.Lent.{words_of}
use Rattle.settings.proofs.Puts.{words-put}
use borrow.Author.Rules.{rules}
use Rattle.settings_put.proofs.put_words.Goals as goal

pub returns : goal.returns
returns c =
    let a = c.args in
    words-put a.d.now _ _ _ _ _ _ a.at (words_of a.event.now) c.requires c.put64.ensures c.put64-2.ensures c.put64-3.ensures
    c.put64-4.ensures c.put64-5.ensures c.put64-6.ensures
