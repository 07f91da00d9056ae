-- The types' marks, and then the two that are made apart.
use native.Mathlib.Omega.{arith}
use Rattle.marks.specs.Marks.{marks-made}
use Rattle.sums.specs.Sums.{trail-small, sums-given}
use Rattle.all_marks.proofs.marks.Goals as goal

pub type_marks-p-requires : goal.type_marks-p-requires
type_marks-p-requires c =
    let l = trail-small c.args.a c.args.sums.now c.requires.sums_value in record { kinds_le_last_type = c.requires.kinds_le_last_type; trail_value = (sums-given c.args.a c.args.sums.now c.requires.sums_value).trail; trail_le_sum_most = omega (arith, l) }

pub read_mark-requires : goal.read_mark-requires
read_mark-requires c =
    let l = trail-small c.args.a c.args.sums.now c.requires.sums_value in record { trail_value = (sums-given c.args.a c.args.sums.now c.requires.sums_value).trail; trail_le_sum_most = omega (arith, l) }

pub returns : goal.returns
returns c =
    marks-made _ _ c.type_marks-p.result _ _ c.requires.kinds_le_last_type c.type_marks-p.ensures.result_len c.type_marks-p.ensures.by_index c.read_mark.ensures c.sample_mark.ensures
