-- The loop over records, as laws about plain values: where it stands, one turn of it, and each of its ends. Assumes nothing.
use Rattle.std.proofs.Math.Path.{◌≡◌, refl, ap, ap₂}
use Rattle.std.proofs.Common.{sym, ◌∙◌, mod-lt, add-zero, add-one, arith}
use Prim.Native.Nat.{ℕ, zero, suc, ◌+◌, ◌^◌, ◌<◌, ◌≤◌}
use Rattle.std.specs.Prelude.{Bool, cond, ◌&&◌}
use Rattle.std.proofs.Math.Bool.{true, false}
use mathlib.Core.List.{List, [], ◌∷◌}
use Rattle.std.proofs.Math.ListN.{length}
use Rattle.std.proofs.Math.Dec.{eqb}
use borrow.Author.Tests.{ne_eqb, eq-eqb, eqb-true, eqb-false}
use Rattle.meaning.specs.States.{Frame}
use Rattle.meaning.specs.Ring.{distance, record_at}
use Rattle.laws.specs.Bytes.{apart}
use Rattle.laws.specs.Rings.{distance-on}
use Rattle.runs.specs.Cutting.{Cut, Spot, Cuts, begin, cut_at, spot_after, halt, cut_by}
use Rattle.runs.proofs.Runs.{cut-go, cut-stop}
use Rattle.compare.specs.declared.Compared.{Compared}
use Rattle.compare.specs.Fields.{Reads, fields}
use Rattle.compare.specs.Compared.{alike, agree, all_alike, differs, ends_first, stops, meet, Side, side_cuts, compared, pairs, scratch_then}

-- what is told of two frames of which one does not go on, after n equal records
unfoldable pub end_of : Frame → Frame → ℕ → Compared
end_of f g n =
    cond f.go (cond (eqb g.stop 0) (ends_first 3 n) (stops 5 g.stop n))
    (cond (eqb f.stop 0) (cond g.go (ends_first 2 n) (cond (eqb g.stop 0) (all_alike n) (stops 5 g.stop n))) (stops 4 f.stop n))
