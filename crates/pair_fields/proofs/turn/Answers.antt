-- `pair_fields::turn` meets its contract: both walks pass the row's item; equal fields lead on, and others are the first that differ.
use mathlib.Core.Path.{refl, sym, subst}
use mathlib.Core.Bool.{false}
use Prim.Native.Nat.{◌<◌}
use Rattle.std.specs.Prelude.{Ok}
use Rattle.laws.specs.Numbers.{small_of}
use Rattle.item_pairs.specs.Passed.{both_of}
use Rattle.pair_fields.specs.Inner.{Pos, is_alike, is_field, to_go, FieldsStand}
use Rattle.pair_fields.specs.States.{pos_of, settled_at, settled-at}
use Rattle.pair_fields.specs.Fields.{differs-stands, settled-less, row-needs, row_other, row_same, row-less}
use Rattle.pair_fields.proofs.turn.Goals as goal

pub pass_item-requires-clause-c_value : goal.pass_item-requires-clause-c_value
pass_item-requires-clause-c_value c =
    let a = c.args in
    (row-needs a.x.now a.y.now (pos_of a.p) c.requires.ready refl c.item_at-i.result c.item_at-i.ensures c.requires.row_value).1.1

pub returns-in-Ok-clause-fields_stand : goal.returns-in-Ok-clause-fields_stand
returns-in-Ok-clause-fields_stand c =
    let a = c.args in
    let i = c.item_at-i in
    let x = small_of a.x.now c.type_inv.x in
    let y = small_of a.y.now c.type_inv.y in
    subst (FieldsStand (is_alike (pos_of a.p) a.x.now a.y.now) (is_field (pos_of a.p) a.x.now a.y.now) a.x.now a.y.now) (sym c.moved.ensures)
    (row_same a.x.now a.y.now (pos_of a.p) c.requires.ready refl i.result i.ensures c.requires.row_value x y (both_of (Ok c.in-Ok.b)) c.in-Ok.ensures refl)

pub returns-in-Ok-clause-result_bound : goal.returns-in-Ok-clause-result_bound
returns-in-Ok-clause-result_bound c =
    let a = c.args in
    let i = c.item_at-i in
    let x = small_of a.x.now c.type_inv.x in
    let y = small_of a.y.now c.type_inv.y in
    subst (λ (r : Pos). to_go r < to_go (pos_of a.p)) (sym c.moved.ensures)
    (row-less a.x.now a.y.now (pos_of a.p) c.requires.ready refl i.result i.ensures c.requires.row_value x y (both_of (Ok c.in-Ok.b)) c.in-Ok.ensures)

pub returns-in-Err-clause-fields_stand : goal.returns-in-Err-clause-fields_stand
returns-in-Err-clause-fields_stand c =
    let a = c.args in
    let i = c.item_at-i in
    let x = small_of a.x.now c.type_inv.x in
    let y = small_of a.y.now c.type_inv.y in
    differs-stands a.x.now a.y.now _ _ a.p.k (settled_at a.p.k false) (settled-at a.p.k false)
    (row_other a.x.now a.y.now (pos_of a.p) c.requires.ready refl i.result i.ensures c.requires.row_value x y _ c.in-Err.ensures refl)

pub returns-in-Err-clause-result_bound : goal.returns-in-Err-clause-result_bound
returns-in-Err-clause-result_bound c =
    let a = c.args in
    settled-less a.x.now a.y.now (pos_of a.p) (settled_at a.p.k false) _ _ (settled-at a.p.k false) refl
