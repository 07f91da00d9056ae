-- Head, start and length stand one behind the other: together they are the entry's bytes, by computing.
use Rattle.std.proofs.Common.{ap, ◌∙◌, ℕ, List, ◌+◌, ◌++◌}
use Rattle.meaning.specs.Bytes.{spell, put, zeros}
use Rattle.entries.specs.Entries.{entry_bytes}
use Rattle.salvage_steps.proofs.hole_entry.Goals as goal

pub returns : goal.returns
unfolding entry_bytes spell put
returns c =
    let a = c.args in
    c.put64-2.ensures
    ∙ ap (λ (l : List ℕ). put l 14 (spell 8 a.n))
    (c.put64.ensures
    ∙ ap (λ (l : List ℕ). put l 6 (spell 8 a.start)) (c.put_head.ensures ∙ ap (λ (k : ℕ). put (zeros 22) 0 (spell 4 (6 + 16) ++ spell 2 k)) c.number.ensures))
