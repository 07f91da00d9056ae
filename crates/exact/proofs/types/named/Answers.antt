-- The three cases of the definition, by the scan of the name's room.
use mathlib.Core.Path.{◌≡◌, sym, ◌∙◌}
use mathlib.Core.Bool.{true, false}
use native.Mathlib.Omega.{arith}
use Rattle.blocks.specs.Scan.{name_ok}
use Rattle.exact.specs.Types.{name-short, name-there}
use Rattle.exact.proofs.types.named.Goals as goal

pub returns-then-f-from : goal.returns-then-f-from
returns-then-f-from c = sym (name-short _ _ c.if-f-from.true)

pub name_ok-requires : goal.name_ok-requires
name_ok-requires c = let l = c.if-f-from.false in let m = c.args.f.words in let n = c.requires in record { at_in_bounds = l; at_value = omega arith }

pub returns-then-name_ok : goal.returns-then-name_ok
returns-then-name_ok c =
    let a = c.args in
    let e : name_ok a.f.bytes.now a.from ≡ true = sym c.name_ok.ensures ∙ c.if-name_ok.true in
    sym (name-there a.f.bytes.now a.from c.if-f-from.false ∙ rw e)

pub returns-else-name_ok : goal.returns-else-name_ok
returns-else-name_ok c =
    let a = c.args in
    let e : name_ok a.f.bytes.now a.from ≡ false = sym c.name_ok.ensures ∙ c.if-name_ok.false in
    sym (name-there a.f.bytes.now a.from c.if-f-from.false ∙ rw e)
