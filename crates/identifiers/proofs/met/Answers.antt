-- No mark: not asked. A mark: among them exactly where it is found.
use Rattle.std.proofs.Common.{ap, sym, ◌∙◌, Bool, not, ◌&&◌, map, ne_eqb}
use Rattle.meaning.specs.Editions.{is_in}
use Rattle.identifiers.proofs.Laws.{is_in-found}
use Rattle.identifiers.proofs.met.Goals as goal

pub returns-then-mark-ne0 : goal.returns-then-mark-ne0
returns-then-mark-ne0 g c =
    let a = c.args in
    let key = g.T.Identified.identifier_of in
    c.is_some.ensures
    ∙ is_in-found key a.table.now a.x c.find.result c.find.ensures.value c.find.ensures.found
    ∙ sym (ap (λ (b : Bool). not b && is_in a.x (map key a.table.now)) (ne_eqb a.mark 0 c.if-mark-ne0.true))
