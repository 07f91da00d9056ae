-- What is behind place i is distinct and marked; one that is met there ends the walk, one that is not is marked too.
use Rattle.std.proofs.Common.{◌≡◌, refl, sym, ap, ◌∙◌, subst, arith, ℕ, ◌-◌, ◌%◌, ◌<◌, not, ◌&&◌, eqb, map, length, drop, get_or, set, List}
use Rattle.std.proofs.lemmas.List.{get_or-map, length-map}
use Rattle.meaning.specs.Bytes.{zeros}
use Rattle.meaning.specs.Editions.{is_in}
use Rattle.meaning.specs.Events.{distinct}
use Rattle.event_laws.specs.Marks.{Behind, behind-start, behind-met, behind-next, row-met}
use Rattle.identifiers.proofs.Laws.{behind_keys}
use Rattle.identifiers.proofs.apart.Goals as goal

pub loop-i-init : goal.loop-i-init
loop-i-init g c =
    let key = g.T.Identified.identifier_of in
    let t = c.args.table.now in
    (subst (Behind (map key t) (zeros 8192)) (length-map t key) (behind-start (map key t) (zeros 8192) refl), omega arith)

pub returns-then-met : goal.returns-then-met
returns-then-met g c =
    let key = g.T.Identified.identifier_of in
    let t = c.args.table.now in
    let l = c.loop-i in
    let p : 0 < l.i = omega (arith, c.loop-i-test.true) in
    let b : l.i - 1 < length t = omega (arith, p, l.invariant.1) in
    let x = c.identifier-x.ensures ∙ ap key c.index-table-i.is ∙ sym (get_or-map key t (l.i - 1) _ 0 b) in
    let q = c.met.ensures ∙ ap (λ (ys : List ℕ). not (eqb (get_or l.seen (c.identifier-x.result % 8192) 0) 0) && is_in c.identifier-x.result ys) (behind_keys key t l.i p) in
    sym (behind-met (map key t) l.seen l.i l.invariant.0 p (row-met (map key t) l.seen l.i _ _ x q ∙ c.if-met.true))

pub loop-i-preserved : goal.loop-i-preserved
loop-i-preserved g c =
    let key = g.T.Identified.identifier_of in
    let t = c.args.table.now in
    let l = c.loop-i in
    let p : 0 < l.i = omega (arith, c.loop-i-test.true) in
    let b : l.i - 1 < length t = omega (arith, p, l.invariant.1) in
    let x = c.identifier-x.ensures ∙ ap key c.index-table-i.is ∙ sym (get_or-map key t (l.i - 1) _ 0 b) in
    let q = c.met.ensures ∙ ap (λ (ys : List ℕ). not (eqb (get_or l.seen (c.identifier-x.result % 8192) 0) 0) && is_in c.identifier-x.result ys) (behind_keys key t l.i p) in (
      subst (λ (y : ℕ). Behind (map key t) (set l.seen (y % 8192) 1) (l.i - 1)) (sym x)
          (behind-next (map key t) l.seen l.i l.invariant.0 p (row-met (map key t) l.seen l.i _ _ x q ∙ c.if-met.false)),
      omega (arith, l.invariant.1),
    )

pub returns : goal.returns
returns g c =
    let key = g.T.Identified.identifier_of in
    let l = c.loop-i in
    let z : l.i ≡ 0 = omega (arith, c.loop-i-test.false) in
    sym (sym (ap (λ (k : ℕ). distinct (drop k (map key c.args.table.now))) z) ∙ l.invariant.0.0)
