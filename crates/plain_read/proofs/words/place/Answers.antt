-- `plain_read::words::place` meets its contract: none, one or two words. Assumes nothing.
use mathlib.Core.Path.{sym, ap, ◌∙◌}
use native.Mathlib.Omega.{arith}
use Rattle.meaning.specs.Bytes.{put}
use Rattle.laws.specs.Put.{put-nil, put_one, put_two}
use Rattle.fields.specs.Told.{words_in}
use Rattle.fields.specs.declared.Words.{Words}
use Rattle.plain_read.proofs.words.place.Goals as goal

pub returns-in-None : goal.returns-in-None
returns-in-None c =
    let a = c.args in
    let l = rw c.in-None.is at c.requires in
    sym (ap (λ (t : Words). put a.out.now a.at (words_in t)) c.in-None.is ∙ put-nil a.out.now a.at (omega (arith, l)))

pub returns-in-One : goal.returns-in-One
returns-in-One c =
    let a = c.args in
    let l = rw c.in-One.is at c.requires in
    put_one a.out.now a.at c.in-One.first (omega (arith, l)) ∙ sym (ap (λ (t : Words). put a.out.now a.at (words_in t)) c.in-One.is)

pub returns-in-Two : goal.returns-in-Two
returns-in-Two c =
    let a = c.args in
    let l = rw c.in-Two.is at c.requires in
    put_two a.out.now a.at c.in-Two.first c.in-Two.second (omega (arith, l)) ∙ sym (ap (λ (t : Words). put a.out.now a.at (words_in t)) c.in-Two.is)
