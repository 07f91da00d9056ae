-- By the type, which of three it is.
use mathlib.Core.Path.{subst}
use mathlib.Core.List.{List}
use Rattle.blocks.specs.Seen.{Closes}
use Rattle.meaning.specs.declared.Item.{Item}
use Rattle.meaning.specs.Reasons.{answer_of}
use Rattle.marks.specs.Marks.{counted-group, counted-namespaces, counted-poke}
use Rattle.plan.proofs.counted.Goals as goal

pub group_read-requires : goal.group_read-requires
group_read-requires c = c.args.p.grouped c.if-p-eq-READ.true

pub returns-then-p-eq-READ : goal.returns-then-p-eq-READ
returns-then-p-eq-READ c =
    subst (λ (is : List Item). Closes c.args.f.bytes.now is 8 (answer_of c.group_read.result)) (counted-group c.args.p.a c.args.p.r.kind c.requires c.if-p-eq-READ.true) c.group_read.ensures

pub returns-then-p-eq-NAMESPACES : goal.returns-then-p-eq-NAMESPACES
returns-then-p-eq-NAMESPACES c =
    subst (λ (is : List Item). Closes c.args.f.bytes.now is 8 (answer_of c.namespaces.result)) (counted-namespaces c.args.p.a c.args.p.r.kind c.requires c.if-p-eq-NAMESPACES.true) c.namespaces.ensures

pub returns : goal.returns
returns c =
    subst (λ (is : List Item). Closes c.args.f.bytes.now is 8 (answer_of c.text_poke.result))
    (counted-poke c.args.p.a c.args.p.r.kind c.requires c.if-p-eq-READ.false c.if-p-eq-NAMESPACES.false) c.text_poke.ensures
