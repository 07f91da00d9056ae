-- `pairs::others` meets its contract: the rows are those of the type, and a SAMPLE's first is passed over.
use mathlib.Core.Path.{◌≡◌, ap, ◌∙◌}
use mathlib.Core.List.{map}
use Prim.Native.Nat.{ℕ, ◌+◌, ◌-◌, ◌*◌}
use native.Mathlib.Omega.{arith}
use lib.ListN.{length}
use lib.Seq.{slice}
use Rattle.meaning.specs.Records.{origin}
use Rattle.table.specs.Rows.{rows, item_of}
use Rattle.compare.specs.Fields.{first}
use Rattle.pair_fields.specs.Inner.{begun_at}
use Rattle.pairs.specs.Start.{first-at, first-none, rows-begun}
use Rattle.pairs.proofs.others.Goals as goal
use Rattle.pairs.proofs.others.Goals.{then-kind-eq-SAMPLE, else-kind-eq-SAMPLE}

pub returns : goal.returns
returns c =
    let a = c.args in
    let h = c.part_of-p.ensures in
    let p = c.part_of-p.result in
    let s : c.if-kind-eq-SAMPLE.skip ≡ first a.kind = elim c.if-kind-eq-SAMPLE.branch [ then-kind-eq-SAMPLE w ↦ w.skip-is ∙ first-at a.kind w.if-kind-eq-SAMPLE.true | else-kind-eq-SAMPLE w ↦ w.skip-is ∙ first-none a.kind w.if-kind-eq-SAMPLE.false ] in
    let r = rows-begun a.kind a.misc a.a p h in
    let w = h.within in
    let t = c.trailer_room.ensures.0 in
    let o = c.origin-start.ensures ∙ ap (λ (n : ℕ). origin (8 + 8 * n)) s in
    let r₀ = r.0 in
    record {
      is = λ j. record {
        k = 5;
        same = (begun_at a.x.now a.kind a.misc a.a 0 0).same;
        done = (begun_at a.x.now a.kind a.misc a.a 0 0).done;
        last = (begun_at a.x.now a.kind a.misc a.a 0 0).last;
        row = p.from + c.if-kind-eq-SAMPLE.skip;
        to = p.to;
        end = length a.x.now - t j;
        kind = a.kind;
        misc = a.misc;
        a = a.a;
        w = 0;
        x = 0;
        c = o j;
        d = o j;
      };
      ordered = omega (arith, r₀, s);
      within = omega (arith, w);
      layout_is = ap (λ (n : ℕ). map (item_of a.a a.misc a.kind) (slice (p.from + n) p.to rows)) s ∙ r.1;
    }
