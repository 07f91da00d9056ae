-- `item_pairs::same_stretches` meets its contract: the same number, the same length and the same bytes, or the test is false.
use mathlib.Core.Path.{refl}
use Rattle.extents.specs.Extent.{stretch_in}
use Rattle.item_pairs.proofs.Laws.{other-number, other_length, by_bytes}
use Rattle.item_pairs.proofs.same_stretches.Goals as goal

pub returns-then-e-g : goal.returns-then-e-g
returns-then-e-g c = let a = c.args in other-number a.s.now a.t.now (stretch_in a.e) (stretch_in a.g) refl refl c.if-e-g.true

pub returns-then-e-g-2 : goal.returns-then-e-g-2
returns-then-e-g-2 c = let a = c.args in other_length a.s.now a.t.now (stretch_in a.e) (stretch_in a.g) refl refl c.if-e-g.false c.requires.e_inside c.requires.g_inside c.if-e-g-2.true

pub returns : goal.returns
returns c = let a = c.args in by_bytes a.s.now a.t.now (stretch_in a.e) (stretch_in a.g) c.same_bytes.result refl refl c.if-e-g.false c.if-e-g-2.false c.same_bytes.ensures
