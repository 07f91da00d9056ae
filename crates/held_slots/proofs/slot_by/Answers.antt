-- The index that is noted is the identifier's, which is in the table; where none is, the identifier is looked up.
use native.Mathlib.Omega.{arith}
use Rattle.slots.specs.Slots.{slot-noted}
use Rattle.held_slots.proofs.slot_by.Goals as goal

pub planned-requires : goal.planned-requires
planned-requires c =
    let a = c.args in
    let n = slot-noted a.known a.events.now a.id a.slot.now c.requires c.if-slot-id.false c.in-Indexed.is in
    record { lt_samples = n.known-there; i_value = n.index; i_in_bounds = omega (arith, n.index, n.inside) }
