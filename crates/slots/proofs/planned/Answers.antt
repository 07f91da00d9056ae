-- What edition and attributes fix of the event at the index.
use mathlib.Core.Path.{refl, subst, ◌∙◌}
use native.Mathlib.Omega.{arith}
use borrow.Author.Rules.{rules}
use Rattle.meaning.specs.declared.Attributes.{Attributes}
use Rattle.slots.specs.declared.Slot.{Slot}
use Rattle.slots.specs.declared.State.TheVariants.{InTable}
use Rattle.sums.specs.Sums.{trail-small, sums-given}
use Rattle.slots.specs.Slots.{narrow, unpacks, Planned, filled-found}
use Rattle.slots.proofs.planned.Goals as goal

pub read_mark-read-requires : goal.read_mark-read-requires
read_mark-read-requires c =
    let x = c.sums-sums in
    let l = trail-small _ x.result x.ensures in record { trail_value = (sums-given _ x.result x.ensures).trail; trail_le_sum_most = omega (arith, l) }

pub packed-early-requires : goal.packed-early-requires
packed-early-requires c =
    let x = c.sums-sums in
    let n = narrow _ x.result x.ensures in
    (n.0, n.1, n.2, n.3)

pub packed-late-requires : goal.packed-late-requires
packed-late-requires c =
    let x = c.sums-sums in
    let n = narrow _ x.result x.ensures in
    (n.4, n.5, n.6, n.7)

pub returns : goal.returns
returns c =
    let a = c.args in
    let m = c.sums-sums in
    let s : Slot =
    record {
      identifier = a.id;
      state = InTable;
      why = c.answer_number-why.result;
      sample = c.sample_mark-sample.result;
      read = c.read_mark-read.result;
      index = a.i;
      early = c.packed-early.result;
      late = c.packed-late.result;
    } in
    filled-found a.known a.events.now a.id c.requires.lt_samples a.i c.requires.i_value s (omega (arith, c.requires.i_in_bounds)) refl refl refl
    (subst (λ (x : Attributes). Planned a.known x s) c.attributes_at-a.ensures
    (record { why = c.answer_number-why.ensures ∙ c.unreadable.ensures; sample = c.sample_mark-sample.ensures; read = c.read_mark-read.ensures; sums = unpacks _ m.result m.ensures _ _ c.packed-early.ensures c.packed-late.ensures }))
