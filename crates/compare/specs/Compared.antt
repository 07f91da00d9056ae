-- M-108, two rings: "Tell whether two ring images, each with pointers and a scratch, decode alike under one edition and one table. The comparison stops
-- at the first field of the first record that differs, and names the record's number from 0 and the field's number".
-- Assumes nothing: these are definitions.
use Rattle.std.specs.Prelude.{ℕ, suc, ◌+◌, Bool, true, false, cond, ◌&&◌, List, [], ◌∷◌, length, eqb}
use Rattle.meaning.specs.declared.Event.{Event}
use Rattle.meaning.specs.States.{Frame}
use Rattle.meaning.specs.declared.Known.{Known}
use Rattle.meaning.specs.Items.{Con}
use Rattle.meaning.specs.Ring.{Asked, frame}
use Rattle.meaning.specs.Events.{attributes_of, event_at, identifiers, index_of, judge_events}
unfoldable pub use Rattle.laws.specs.Bytes.{same_bytes}
use Rattle.runs.specs.Cutting.{Cut, Cuts, begin, cut_by}
use Rattle.compare.specs.declared.Compared.{Compared}
use Rattle.compare.specs.Fields.{Reads, fields}

-- ---- two records

unfoldable pub same : Con → Con → Bool
same u v = eqb u.num v.num && same_bytes u.list v.list

-- are all fields equal?
unfoldable pub alike : List Con → List Con → Bool
alike [] [] = true
alike [] (v ∷ vs) = false
alike (u ∷ us) [] = false
alike (u ∷ us) (v ∷ vs) = same u v && alike us vs

-- how many are equal before the first that differs: that one's number
unfoldable pub agree : List Con → List Con → ℕ
agree [] vs = 0
agree (u ∷ us) [] = 0
agree (u ∷ us) (v ∷ vs) = cond (same u v) (suc (agree us vs)) 0

-- ---- what is told

abbrev pub report : ℕ → ℕ → ℕ → ℕ → Compared
report what stop records field = record { records = records; what = what; field = field; stop = stop }

abbrev pub all_alike : ℕ → Compared
all_alike n = report 0 0 n 0

abbrev pub differs : ℕ → ℕ → Compared
differs n k = report 1 0 n k

-- "If one side ends first, that is said, with the number of equal records": 2 is the left side, 3 the right
abbrev pub ends_first : ℕ → ℕ → Compared
ends_first side n = report side 0 n 0

-- "A stop other than 0 on either side goes first and is reported with the side and the count before it": 4 is the left side, 5 the right
abbrev pub stops : ℕ → ℕ → ℕ → Compared
stops side why n = report side why n 0

-- ---- two rings, each cut into records until it stops. "the left side first if both stop at the same record"
unfoldable pub meet : Reads → ℕ → ℕ → ℕ → List Cut → List Cut → Compared
meet R left right n [] [] = cond (eqb left 0) (cond (eqb right 0) (all_alike n) (stops 5 right n)) (stops 4 left n)
meet R left right n [] (y ∷ ys) = cond (eqb left 0) (ends_first 2 n) (stops 4 left n)
meet R left right n (x ∷ xs) [] = cond (eqb right 0) (ends_first 3 n) (stops 5 right n)
meet R left right n (x ∷ xs) (y ∷ ys) =
    cond (alike (fields R x.record-bytes) (fields R y.record-bytes))
    (meet R left right (suc n) xs ys)
    (differs n (agree (fields R x.record-bytes) (fields R y.record-bytes)))

-- a side is a ring, its tail, its scratch, and the frames that its head gives: by tail count and scratch length. No budget and no journal: 8 and 9
-- do not occur
pub record Side : Type 0 where
  pub ring : List ℕ
  pub tail : ℕ
  pub scratch : List ℕ
  pub frame : ℕ → ℕ → Frame

-- what every call asks of its ring, its counts and what stands beside: the rows 1, 2, 4, 5, 11, 0, 6, 7, 3
abbrev pub side_of : Asked → List ℕ → ℕ → ℕ → List ℕ → Side
side_of asked ring head tail scratch = record { ring = ring; tail = tail; scratch = scratch; frame = λ t m. frame asked ring head t 1 16 m }

-- "under one edition and one table": the answer under a table, and the attributes of the event that an identifier selects
abbrev pub event_reads : Known → List Event → Reads
event_reads k es = record { judge = judge_events k es; known = k; attributes = λ id. attributes_of (event_at es (index_of id (identifiers es))) }

-- the first n records of a side
abbrev pub side_cuts : Side → ℕ → Cuts
side_cuts s n = cut_by (λ t k room m. s.frame t m) s.ring n (begin s.tail 0 s.scratch)

-- all of them: each has 8 bytes or more, and all lie within one ring length
abbrev pub cutting_all : Side → Cuts
cutting_all s = side_cuts s (length s.ring)

unfoldable pub compared : Reads → Side → Side → Compared
compared R l r = meet R (cutting_all l).stop (cutting_all r).stop 0 (cutting_all l).records (cutting_all r).records

-- the pairs that were looked at: the equal ones, and the one that differs
abbrev pub pairs : Compared → ℕ
pairs c = c.records + cond (eqb c.what 1) 1 0

-- "each with .. a scratch": what it then holds is what the records that were looked at left there
abbrev pub scratch_then : Compared → Side → List ℕ
scratch_then c s = (side_cuts s (pairs c)).last.scratch
