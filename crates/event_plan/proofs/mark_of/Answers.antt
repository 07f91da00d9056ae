-- SAMPLE's and READ's marks are noted; the other types' follow from what is noted of the event.
use mathlib.Core.Path.{◌≡◌, sym, ap, ◌∙◌, subst}
use mathlib.Core.List.{List}
use Prim.Native.Nat.{ℕ}
use native.Mathlib.Omega.{arith}
use Rattle.meaning.specs.declared.Attributes.{Attributes}
use Rattle.meaning.specs.declared.Event.{Event}
use Rattle.meaning.specs.declared.Known.{Known}
use Rattle.meaning.specs.Editions.{unreadable}
use Rattle.meaning.specs.Schema.{trailer}
use Rattle.meaning.specs.Records.{room}
use Rattle.meaning.specs.Events.{attributes_of, event_at}
use Rattle.sums.specs.Sums.{trail-small, sums-given}
use Rattle.marks.specs.Marks.{Marked, unreadable-most}
use Rattle.slots.specs.declared.Slot.{Slot}
use Rattle.slots.specs.declared.State.TheVariants.{InTable}
use Rattle.slots.specs.Slots.{SlotOf, attributes_for}
use Rattle.event_plan.proofs.mark_of.Goals as goal

-- the attributes at the noted index are the event's
same : (k : Known) (es : List Event) (id : ℕ) (slot : Slot) (a : Attributes) → SlotOf k es id slot → slot.state ≡ InTable
    → a ≡ attributes_of (event_at es slot.index) → a ≡ attributes_for es id
same k es id slot a held there is = is ∙ ap (λ (j : ℕ). attributes_of (event_at es j)) (held.index there).0

pub returns-then-kind-eq-SAMPLE : goal.returns-then-kind-eq-SAMPLE
returns-then-kind-eq-SAMPLE c =
    subst (λ (n : ℕ). Marked c.args.events.now.known (attributes_for c.args.events.now.table.now c.args.id) n c.args.slot.now.sample) (sym c.if-kind-eq-SAMPLE.true) (c.requires.slot_of.planned c.requires.slot_value).sample

pub returns-then-kind-eq-READ : goal.returns-then-kind-eq-READ
returns-then-kind-eq-READ c =
    subst (λ (n : ℕ). Marked c.args.events.now.known (attributes_for c.args.events.now.table.now c.args.id) n c.args.slot.now.read) (sym c.if-kind-eq-READ.true) (c.requires.slot_of.planned c.requires.slot_value).read

pub attributes_at-a-requires : goal.attributes_at-a-requires
attributes_at-a-requires c =
    let i = c.requires.slot_of.index c.requires.slot_value in
    omega (arith, i.0, i.1)

pub overflow_cast-slot : goal.overflow_cast-slot
overflow_cast-slot c =
    omega (arith, (c.requires.slot_of.planned c.requires.slot_value).why, unreadable-most c.args.events.now.known (attributes_for c.args.events.now.table.now c.args.id) 1 0)

pub type_mark-requires : goal.type_mark-requires
type_mark-requires c =
    let p = c.requires.slot_of.planned c.requires.slot_value in
    let e = same c.args.events.now.known c.args.events.now.table.now c.args.id c.args.slot.now c.attributes_at-a.result c.requires.slot_of c.requires.slot_value c.attributes_at-a.ensures in
    let k = c.args.events.now.known in
    let l = trail-small _ _ p.sums in record { kinds_le_last_type = c.requires.kinds_le_last_type; why_value = p.why ∙ ap (λ (x : Attributes). unreadable k x 1 0) (sym e); trail_value = (sums-given _ _ p.sums).trail ∙ ap (λ (x : Attributes). room (trailer 1 x)) (sym e); trail_le_sum_most = omega (arith, l); le_kind = c.requires.le_kind; kind_le_kinds = c.requires.kind_le_kinds; fact = (c.if-kind-eq-READ.false, c.if-kind-eq-SAMPLE.false) }

pub returns : goal.returns
returns c =
    subst (λ (x : Attributes). Marked c.args.events.now.known x c.args.kind c.type_mark.result) (same c.args.events.now.known c.args.events.now.table.now c.args.id c.args.slot.now c.attributes_at-a.result c.requires.slot_of c.requires.slot_value c.attributes_at-a.ensures) c.type_mark.ensures
