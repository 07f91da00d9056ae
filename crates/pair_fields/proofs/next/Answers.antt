-- `pair_fields::next` meets its contract: a row, then the trailer's rows, then the flag; each leaves what is found as it was, and fewer turns to go.
use mathlib.Core.Path.{refl, sym, subst}
use Prim.Native.Nat.{◌<◌}
use Rattle.pair_fields.specs.Inner.{Pos, is_alike, is_field, to_go, FieldsStand}
use Rattle.pair_fields.specs.States.{pos_of}
use Rattle.pair_fields.specs.Fields.{trailing-stands, trailing-less}
use Rattle.pair_fields.proofs.next.Goals as goal

pub returns-clause-fields_stand : goal.returns-clause-fields_stand
returns-clause-fields_stand c =
    let a = c.args in
    subst (FieldsStand (is_alike (pos_of a.p) a.x.now a.y.now) (is_field (pos_of a.p) a.x.now a.y.now) a.x.now a.y.now) (sym c.trailing.ensures)
    (trailing-stands a.x.now a.y.now (pos_of a.p) c.requires.ready refl c.if-p.false c.if-p-2.false)

pub returns-clause-result_bound : goal.returns-clause-result_bound
returns-clause-result_bound c =
    let a = c.args in
    subst (λ (r : Pos). to_go r < to_go (pos_of a.p)) (sym c.trailing.ensures) (trailing-less a.x.now a.y.now (pos_of a.p) c.requires.ready refl c.if-p.false c.if-p-2.false)
