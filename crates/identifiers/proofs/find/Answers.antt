-- The lookup goes from the first on: where it ends is the index.
use Rattle.std.proofs.Common.{rules, ◌≡◌, refl, sym, map, eq-eqb, ne_eqb, add-one}
use borrow.Author.Tests.{tests}
use Rattle.std.proofs.lemmas.Iterator.{YieldsList-from_slice, IsFirst-from_position, index_from_first}
use Rattle.meaning.specs.Events.{index_of}
use Rattle.identifiers.proofs.find.Goals as goal

pub returns-clause-value : goal.returns-clause-value
unfolding index_of
returns-clause-value g c =
    let key = g.T.Identified.identifier_of in
    let id = c.args.id in
    sym (index_from_first (λ xs. index_of id (map key xs)) (λ x. key x ≡ id) (λ x. key x ≡ id → ⊥) refl
    (λ x xs e. simp (eq-eqb (key x) id e))
    (λ x xs e. simp (ne_eqb (key x) id e, add-one))
    c.args.table.now
    c.position.result
    (IsFirst-from_position _ _ _ (λ x. key x ≡ id) (λ x. key x ≡ id → ⊥) c.position.ensures.ran
    (YieldsList-from_slice c.args.table.now c.iter.ensures.rest) (λ x q k. search (rules, tests)) (λ x q k. search (rules, tests))))
