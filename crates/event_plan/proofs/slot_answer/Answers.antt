-- What the slot says of its identifier is the record's answer; where it says that there is an event, the event's own is.
use Rattle.std.specs.Prelude.{true}
use mathlib.Core.Path.{◌≡◌, ap, ◌∙◌, subst}
use mathlib.Core.List.{List}
use Prim.Native.Nat.{ℕ, ◌≤◌}
use native.Mathlib.Omega.{arith}
use lib.ListN.{length, get_or}
use Rattle.meaning.specs.declared.Event.{Event}
use Rattle.meaning.specs.declared.Known.{Known}
use Rattle.meaning.specs.Records.{kind_of, layout, judge}
use Rattle.meaning.specs.Events.{identifier_of, judge_events}
use Rattle.slots.specs.declared.Slot.{Slot}
use Rattle.slots.specs.declared.State.TheVariants.{InTable}
use Rattle.slots.specs.Slots.{SlotOf, attributes_for, empty_slot, is_filled, refused_by, standing-filled, slot-refused, slot-judged}
use Rattle.event_plan.proofs.slot_answer.Goals as goal

-- the slot of an identifier is filled
filled : (k : Known) (es : List Event) (id : ℕ) (slot : Slot) → SlotOf k es id slot → is_filled slot.state ≡ true
filled k es id slot held = ap is_filled held.stands ∙ standing-filled k es id

-- a slot without an event tells the answer
refused : (k : Known) (es : List Event) (r : List ℕ) (id : ℕ) (slot : Slot) (kind : ℕ) → kind ≡ kind_of r → id ≡ identifier_of r → 16 ≤ length r → 1 ≤ kind
    → kind ≤ k.kinds → SlotOf k es id slot → (slot.state ≡ InTable → ⊥) → refused_by slot.state ≡ judge_events k es r
refused k es r id slot kind is_kind whose long from to held none =
    slot-refused k es r (omega (arith, is_kind, from)) (omega (arith, is_kind, to)) long slot (subst (λ (n : ℕ). SlotOf k es n slot) whose held) none

pub found-requires : goal.found-requires
found-requires c =
    let l = c.requires.in_bounds in
    record {
      in_bounds = omega (arith, l);
      r_len_bound = c.requires.r_len_bound;
      r_len = c.requires.r_len;
      kind_value = c.requires.kind_value;
      kinds_le_last_type = c.requires.kinds_le_last_type;
      le_kind = c.requires.le_kind;
      kind_le_kinds = c.requires.kind_le_kinds;
      slot_of = c.requires.slot_of;
      slot_value = c.in-InTable.is;
    }

pub returns-in-InTable : goal.returns-in-InTable
returns-in-InTable c =
    let a = c.args in
    let q = c.requires in
    let es = a.events.now.table.now in
    c.found.ensures ∙ ap (λ (n : ℕ). judge (layout a.events.now.known (attributes_for es n)) a.r.now) q.id_value
    ∙ slot-judged a.events.now.known es a.r.now (omega (arith, q.kind_value, q.le_kind)) (omega (arith, q.kind_value, q.kind_le_kinds)) q.in_bounds (get_or a.memo.now a.h empty_slot)
    (subst (λ (n : ℕ). SlotOf a.events.now.known es n (get_or a.memo.now a.h empty_slot)) q.id_value q.slot_of) c.in-InTable.is

pub refusal-requires : goal.refusal-requires
refusal-requires c =
    let a = c.args in
    record { filled = filled a.events.now.known a.events.now.table.now a.id _ c.requires.slot_of; no_event = c.in_default.not-InTable }

pub returns-in_default : goal.returns-in_default
returns-in_default c =
    let a = c.args in
    let q = c.requires in
    c.refusal.ensures
    ∙ refused a.events.now.known a.events.now.table.now a.r.now a.id _ a.kind q.kind_value q.id_value q.in_bounds q.le_kind q.kind_le_kinds q.slot_of c.in_default.not-InTable
