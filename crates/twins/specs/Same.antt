-- Which bytes of two records are compared: all but the ignored ones, of the fields and of the trailer. Assumes nothing: these are definitions; that they
-- leave out nothing else is `same-like` of Whole.
use Rattle.std.specs.Prelude.{Bool, cond, not, ◌&&◌, List, ℕ, ◌-◌, eqb, length, take}
use Rattle.meaning.specs.declared.Attributes.{Attributes}
use Rattle.meaning.specs.Schema.{trailer}
use Rattle.meaning.specs.Records.{room}
use Rattle.record.specs.Into.{or_dirty}
use Rattle.same_parts.specs.Parts.{around_res, body_same}

unfoldable pub trail_bits : ℕ → Attributes → ℕ
trail_bits kind a = cond (a.all && not (eqb kind 9)) a.sample 0

abbrev pub body_end : List ℕ → ℕ → Attributes → ℕ
body_end xs kind a = length xs - room (trailer kind a)

-- what stands before a trailer's res, but for the cpu: pid and tid, time, id, stream id (1, 2, 6, 9)
abbrev pub trail_before : ℕ
trail_before = 582

-- fields and trailer of two records with equal headers, and the flag of a name
unfoldable pub same_but : List ℕ → List ℕ → ℕ → ℕ → Attributes → Bool
same_but xs ys kind misc a =
    body_same (take (body_end xs kind a) xs) (take (body_end xs kind a) ys) kind misc a.sample
    && (around_res xs ys (trail_bits kind a) trail_before (body_end xs kind a) && eqb (or_dirty 0 a xs) (or_dirty 0 a ys))
