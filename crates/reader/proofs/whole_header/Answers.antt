-- `reader::whole_header` meets its contract: a record of 8 bytes has a header. Assumes nothing.
use mathlib.Core.Path.{◌≡◌, ap, ◌∙◌}
use native.Mathlib.Omega.{arith}
use Rattle.reader.specs.Field.{Header}
use Rattle.reader.specs.Laws.{header-whole, headed}
use Rattle.reader.proofs.whole_header.Goals as goal

pub unreachable-requires : goal.unreachable-requires
unreachable-requires c =
    let e : 30 ≡ 0 = ap (λ (h : Header). h.why) (c.in-Err.ensures ∙ header-whole c.args.bytes.now c.requires) in
    omega (arith, e)

pub returns-clause-kind_is : goal.returns-clause-kind_is
returns-clause-kind_is c = (headed c.args.bytes.now _ c.in-Ok.ensures c.requires).kind-is

pub returns-clause-misc_is : goal.returns-clause-misc_is
returns-clause-misc_is c = (headed c.args.bytes.now _ c.in-Ok.ensures c.requires).misc-is

pub returns-clause-size_is : goal.returns-clause-size_is
returns-clause-size_is c = (headed c.args.bytes.now _ c.in-Ok.ensures c.requires).size_is
