-- `record::flag::set` meets its contract: the flag goes to the word after those of the fields, which there is; a type without a name has none. Assumes nothing.
use mathlib.Core.Path.{sym, ap, ◌∙◌}
use native.Mathlib.Omega.{arith}
use Prim.Native.Nat.{ℕ}
use lib.ListN.{set}
use Rattle.record.specs.Flag.{word_none, word_some, number_is}
use Rattle.record.specs.Flag.{byte_is}
use Rattle.record.proofs.flag.set.Goals as goal

pub returns-in-Some : goal.returns-in-Some
returns-in-Some c =
    let a = c.args in
    let f = c.in-Some.ensures in
    ap (λ (k : ℕ). set a.out.now k c.from.result) f.value
    ∙ word_some a.a a.r.now a.kind c.requires.0 a.misc (λ z. omega (arith, f.value, f.some, z)) a.out.now _ c.requires.1
    (c.from.ensures ∙ byte_is c.is_dirty.result ∙ number_is a.a a.r.now a.kind c.requires.0 _ c.is_dirty.ensures)

pub returns-in_default : goal.returns-in_default
returns-in_default c =
    let a = c.args in
    word_none a.a a.r.now a.kind c.requires.0 a.misc a.out.now c.requires.1 (sym c.in_default.ensures.value)
