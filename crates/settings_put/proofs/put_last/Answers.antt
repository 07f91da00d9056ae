-- Head, ring length, edition and budget are put one right after the other: together they are the entry.
use Rattle.std.specs.Prelude.{ℕ, ◌+◌, ◌++◌}
use Rattle.std.proofs.Common.{ap, ◌∙◌}
use Rattle.meaning.specs.Bytes.{spell, put}
use Rattle.settings.proofs.Puts.{last-put}
use borrow.Author.Rules.{rules}
use Rattle.settings_put.proofs.put_last.Goals as goal

pub returns : goal.returns
returns c =
    let a = c.args in
    let head = c.put_head.ensures ∙ ap (λ (k : ℕ). put a.d.now a.at (spell 4 (6 + 13) ++ spell 2 k)) c.number.ensures in
    last-put a.d.now _ _ _ _ a.at a.ring a.edition a.budget c.requires head c.put64.ensures c.put8.ensures c.put32.ensures
