-- SAMPLE apart; any other type by its mark, which is not that of a SAMPLE in stretches.
use mathlib.Core.Path.{sym, ap, ◌∙◌, subst}
use Prim.Native.Nat.{◌≤◌}
use native.Mathlib.Omega.{arith}
use Rattle.meaning.specs.declared.Known.{Known}
use Rattle.meaning.specs.Records.{layout, judge}
use Rattle.marks.specs.Marks.{last_type, kinds-most}
use Rattle.fast_check.proofs.planned.Goals as goal

pub returns-then-r-eq-SAMPLE : goal.returns-then-r-eq-SAMPLE
returns-then-r-eq-SAMPLE c =
    let a = c.args in
    c.sampled.ensures ∙ ap (λ (k : Known). judge (layout k a.a) a.r.bytes.now) c.edition-row.ensures

pub other_mark-mark-requires : goal.other_mark-mark-requires
other_mark-mark-requires c =
    let t = c.trailer_room-trail.ensures in
    let l = t.1 in record { kinds_le_last_type = subst (λ (k : Known). k.kinds ≤ last_type) (sym c.edition-row.ensures) (kinds-most c.args.e); trail_value = t.0; trail_le_sum_most = omega (arith, l); fact = c.if-r-eq-SAMPLE.false }

pub invariant_of-p : goal.invariant_of-p
invariant_of-p c =
    let t = c.trailer_room-trail.ensures in
    let l = t.1 in record { marked = c.other_mark-mark.ensures; trailed = t.0; short = omega (arith, l); grouped = c.group_words-group.ensures }

pub other-requires : goal.other-requires
other-requires c =
    let m = c.other_mark-mark.ensures in
    let z = c.if-r-eq-SAMPLE.false in λ e. z (m.stretched e).0

pub returns : goal.returns
returns c =
    let a = c.args in
    c.other.ensures ∙ ap (λ (k : Known). judge (layout k a.a) a.r.bytes.now) c.edition-row.ensures
