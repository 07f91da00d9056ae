-- A slot of this identifier that is filled is kept.
use mathlib.Core.Path.{refl}
use borrow.Author.Rules.{rules}
use Rattle.slots.specs.Slots.{memo-held}
use Rattle.held_slots.proofs.hold.Goals as goal

pub returns-then-is_filled : goal.returns-then-is_filled
returns-then-is_filled c =
    let a = c.args in
    record {
      memo_2 = c.requires.memo;
      memo_len_unchanged = refl;
      slot_of = memo-held a.events.now.known a.events.now.table.now a.memo.now a.h a.id c.requires.memo c.requires.h_in_bounds c.if-memo-h.true (cc);
    }
