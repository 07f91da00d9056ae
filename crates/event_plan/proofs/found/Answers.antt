-- The size that the mark names is answer 0; else the event's judge answers by the mark.
use mathlib.Core.Path.{◌≡◌, refl, sym, ap, ◌∙◌, subst}
use mathlib.Core.List.{List}
use Prim.Native.Nat.{ℕ}
use native.Mathlib.Omega.{arith}
use lib.ListN.{length}
use Rattle.meaning.specs.declared.Attributes.{Attributes}
use Rattle.meaning.specs.declared.Event.{Event}
use Rattle.meaning.specs.declared.Known.{Known}
use Rattle.meaning.specs.Records.{layout, judge}
use Rattle.meaning.specs.Events.{attributes_of, event_at}
use Rattle.blocks.specs.Steady.{sizes-same}
use Rattle.sums.specs.Sums.{sums_of}
use Rattle.marks.specs.Marks.{Wanted, Marked, size-judged}
use Rattle.slots.specs.declared.Slot.{Slot}
use Rattle.slots.specs.declared.State.TheVariants.{InTable}
use Rattle.slots.specs.Slots.{SlotOf, attributes_for}
use Rattle.event_plan.proofs.found.Goals as goal

-- the attributes at the noted index are the event's
same : (k : Known) (es : List Event) (id : ℕ) (slot : Slot) (a : Attributes) → SlotOf k es id slot → slot.state ≡ InTable
    → a ≡ attributes_of (event_at es slot.index) → a ≡ attributes_for es id
same k es id slot a held there is = is ∙ ap (λ (j : ℕ). attributes_of (event_at es j)) (held.index there).0

pub returns-then-mark-r : goal.returns-then-mark-r
returns-then-mark-r c =
    let a = c.args in
    let xs : List ℕ = a.r.now in
    let its : Attributes = attributes_for a.events.now.table.now a.id in
    let e = c.if-mark-r.true in
    let z = c.requires.r_len_bound in
    let w : Wanted a.events.now.known its a.kind (length xs) = subst (Wanted a.events.now.known its a.kind) e (c.mark_of-mark.ensures.fixed (omega (arith, e, z))) in
    sym (sizes-same (length xs) (length xs) refl) ∙ size-judged a.events.now.known its xs a.kind c.requires.kind_value (length xs) w

pub attributes_at-a-requires : goal.attributes_at-a-requires
attributes_at-a-requires c =
    let i = c.requires.slot_of.index c.requires.slot_value in
    omega (arith, i.0, i.1)

pub judge-requires : goal.judge-requires
judge-requires c =
    let a = c.args in
    let m = c.mark_of-mark in
    let e = same c.args.events.now.known c.args.events.now.table.now c.args.id c.args.slot.now c.attributes_at-a.result c.requires.slot_of c.requires.slot_value c.attributes_at-a.ensures in record { marked = subst (λ (x : Attributes). Marked a.events.now.known x a.kind m.result) (sym e) m.ensures; sums_value = c.unpacked-sums.ensures ∙ (c.requires.slot_of.planned c.requires.slot_value).sums ∙ ap sums_of (sym e) }

pub returns : goal.returns
returns c =
    let a = c.args in
    c.judge.ensures ∙ ap (λ (x : Attributes). judge (layout a.events.now.known x) a.r.now) (same c.args.events.now.known c.args.events.now.table.now c.args.id c.args.slot.now c.attributes_at-a.result c.requires.slot_of c.requires.slot_value c.attributes_at-a.ensures)
