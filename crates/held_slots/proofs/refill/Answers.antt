-- The slot is made anew, by what stood at its place.
use lib.ListN.{length-set}
use Rattle.slots.specs.Slots.{memo-filled}
use Rattle.held_slots.proofs.refill.Goals as goal

pub slot_by-requires : goal.slot_by-requires
slot_by-requires c = c.requires.memo.at c.args.h c.requires.h_in_bounds

pub returns : goal.returns
returns c =
    let a = c.args in
    let x = memo-filled a.events.now.known a.events.now.table.now a.memo.now a.h a.id c.slot_by.result c.requires.memo c.requires.h_in_bounds c.slot_by.ensures in record { memo_2 = x.0; memo_len_unchanged = length-set a.memo.now a.h _; slot_of = x.1 }
