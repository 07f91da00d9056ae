-- The place is below the number of slots; the slot there is the identifier's, and tells the answer.
use native.Mathlib.Omega.{arith}
use lib.ListN.{length}
use Rattle.slots.specs.Slots.{slot-inside}
use Rattle.event_plan.proofs.judge.Goals as goal

pub hold-requires : goal.hold-requires
hold-requires c = record { h_in_bounds = slot-inside c.identifier_of-id.result (length c.args.memo.now) c.requires.in_bounds_2; memo = c.requires.memo }

pub slot_answer-requires : goal.slot_answer-requires
slot_answer-requires c =
    let i = c.identifier_of-id in
    let l = slot-inside i.result (length c.args.memo.now) c.requires.in_bounds_2 in record { in_bounds = c.requires.in_bounds; r_len_bound = c.requires.r_len_bound; r_len = c.requires.r_len; kind_value = c.requires.kind_value; kinds_le_last_type = c.requires.kinds_le_last_type; le_kind = c.requires.le_kind; kind_le_kinds = c.requires.kind_le_kinds; h_in_bounds = omega (arith, l, c.hold.ensures.memo_len_unchanged); id_value = i.ensures; slot_of = c.hold.ensures.slot_of }

pub returns : goal.returns
returns c = record { value = c.slot_answer.ensures; memo_2 = c.hold.ensures.memo_2; memo_len_unchanged = c.hold.ensures.memo_len_unchanged }
