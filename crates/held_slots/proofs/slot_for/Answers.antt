-- 21 by the edition, 26 past the table's end; else what is fixed of the event.
use Rattle.std.specs.Prelude.{refl, length}
use native.Mathlib.Omega.{arith}
use borrow.Author.Rules.{rules}
use Rattle.slots.specs.Slots.{filled-unknown, filled-absent}
use Rattle.held_slots.proofs.slot_for.Goals as goal

pub returns-then-known-le16 : goal.returns-then-known-le16
returns-then-known-le16 c = let a = c.args in filled-unknown a.known a.events.now a.id _ c.if-known-le16.true refl refl

pub returns-in_default : goal.returns-in_default
returns-in_default c =
    let a = c.args in
    filled-absent a.known a.events.now a.id c.if-known-le16.false (length a.events.now) c.in_default.ensures.value _ (omega arith) refl refl

pub planned-requires : goal.planned-requires
planned-requires c = record { lt_samples = c.if-known-le16.false; i_value = c.in-Some.ensures.value; i_in_bounds = c.in-Some.ensures.found }

pub returns : goal.returns
returns c = c.planned.ensures
