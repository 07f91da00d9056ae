-- `item_pairs::same_fields` meets its contract: both have a field and it is the same, or neither has one.
use mathlib.Core.Path.{subst, ◌∙◌}
use Prim.Native.Nat.{◌+◌, ◌≤◌}
use lib.ListN.{length}
use Rattle.std.specs.Prelude.{Option}
use Rattle.extents.specs.declared.Stretch.{Stretch}
use Rattle.extents.specs.Extent.{stretched}
use Rattle.item_pairs.proofs.Laws.{both_some, left_alone, right_by}
use Rattle.item_pairs.proofs.same_fields.Goals as goal

pub same_stretches-requires : goal.same_stretches-requires
same_stretches-requires c =
    let a = c.args in
    record {
      e_inside = subst (λ (o : Option Stretch). (stretched o a.e.number).at + (stretched o a.e.number).len ≤ length a.s.now) c.in-Some.is c.requires.e_inside;
      g_inside = subst (λ (o : Option Stretch). (stretched o a.g.number).at + (stretched o a.g.number).len ≤ length a.t.now) c.in-Some-field.is c.requires.g_inside;
    }

pub returns-in-Some-field : goal.returns-in-Some-field
returns-in-Some-field c = let a = c.args in c.same_stretches.ensures ∙ both_some a.s.now a.t.now a.e a.g _ _ c.in-Some.is c.in-Some-field.is

pub returns-in-None-field : goal.returns-in-None-field
returns-in-None-field c = let a = c.args in left_alone a.s.now a.t.now a.e a.g _ c.in-Some.is c.in-None-field.is

pub returns-in-None : goal.returns-in-None
returns-in-None c = let a = c.args in right_by a.s.now a.t.now a.e a.g _ c.in-None.is c.is_none.ensures
