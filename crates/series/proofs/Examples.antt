-- A series that meets every premise of M-113, across the ring's end and across 2^64, with heads behind the first tail, inside a record and no multiple of 8; and
-- for each premise a series that lacks it alone and goes wrong. The checker computes them. Assumes nothing.
use Rattle.std.specs.Prelude.{◌≡◌, refl, List, [], ◌∷◌, ◌++◌, Bool, true, false, not, ◌&&◌, ℕ, ◌+◌, ◌-◌, ◌^◌, ltb, eqb, length, take, drop}
use Rattle.std.proofs.Common.{arith}
use Rattle.meaning.specs.Bytes.{num, spell, zeros, put}
use Rattle.meaning.specs.Records.{kind_of}
use Rattle.meaning.specs.Ring.{Asked, asking, length_allowed, distance, record_at, stopped, sized, frame, scratch_after}
use Rattle.meaning.specs.Drain.{End, journal_kind, entry, run}
use Rattle.laws.specs.Bytes.{same_bytes}
use Rattle.series.specs.Series.{Step, Given, drain_at, entries_of, from, onward, series, series_to, reach, Steady, one_drain, Same}
use Rattle.series.proofs.Anywhere.{drains-cut-anywhere}

-- records: a switch of 8 bytes, a record of 24 bytes, a fork of 8 bytes that ends before its fields do
abbrev switch : List ℕ
switch = spell 4 14 ++ (spell 2 0 ++ spell 2 8)

abbrev lost : List ℕ
lost = spell 4 2 ++ (spell 2 0 ++ (spell 2 24 ++ (spell 8 7 ++ spell 8 9)))

abbrev fork : List ℕ
fork = spell 4 7 ++ (spell 2 0 ++ spell 2 8)

-- a ring of 64 bytes, first tail 2^64 - 16, whose place is 48: the switch at 48, the 24 bytes from 56 round the end to 15, the fork at 16. First it holds the
-- switch, then besides the first 16 bytes of the second record, then all three; what is not written yet is something else
abbrev pub first_tail : ℕ
first_tail = 2 ^ 64 - 16

abbrev ring_1 : List ℕ
ring_1 = zeros 48 ++ (switch ++ zeros 8)

abbrev ring_2 : List ℕ
ring_2 = take 8 (drop 8 lost) ++ (spell 8 77 ++ (zeros 32 ++ (switch ++ take 8 lost)))

abbrev ring_3 : List ℕ
ring_3 = drop 8 lost ++ (fork ++ (zeros 24 ++ (switch ++ take 8 lost)))

abbrev pub step : List ℕ → ℕ → ℕ → ℕ → Step
step ring head budget room = record { ring = ring; head = head; budget = budget; journal = zeros room; scratch = zeros 24 }

abbrev pub steps : List Step
steps =
    -- a head behind the first tail: 4
    step ring_1 (2 ^ 64 - 24) 9 64
    -- the switch is taken: 0
    ∷ step ring_1 (2 ^ 64 - 8) 9 64
    -- a head inside the second record: 7; one that is no multiple of 8: 5
    ∷ step ring_2 8 9 64
    ∷ step ring_3 12 9 64
    -- a budget of one: the second record is taken, then 8; a journal with no room: 9
    ∷ step ring_3 24 1 64
    ∷ step ring_3 24 9 15
    ∷ []

abbrev pub last_step : Step
last_step = step ring_3 24 9 64

-- an edition that is one, and no table; any judge serves: this one answers the record's length
abbrev pub known : Asked
known = asking true

abbrev pub judge : List ℕ → ℕ
judge r = length r

-- every premise is met
pub steps-steady : Steady first_tail 0 steps last_step
unfolding reach distance record_at spell
steps-steady = (
  omega arith,
  record { ring-length = refl; scratch-length = refl; bytes = refl },
  (
    omega arith,
    record { ring-length = refl; scratch-length = refl; bytes = refl },
    (
      omega arith,
      record { ring-length = refl; scratch-length = refl; bytes = refl },
      (
        omega arith,
        record { ring-length = refl; scratch-length = refl; bytes = refl },
        (
          omega arith,
          record { ring-length = refl; scratch-length = refl; bytes = refl },
          (omega arith, record { ring-length = refl; scratch-length = refl; bytes = refl }, omega arith),
        ),
      ),
    ),
  ),
)

-- three records are taken, in three of the seven drains, and the series ends with 0
abbrev gave : Given
gave = series_to known judge first_tail steps last_step

pub series-computed : (gave.taken ≡ 3) × (gave.stop ≡ 0) × (gave.tail ≡ 24)
    × (gave.entries ≡ entry 14 8 (2 ^ 64 - 16) ++ (entry 2 24 (2 ^ 64 - 8) ++ entry 7 8 16))
unfolding series run entry journal_kind kind_of frame stopped sized length_allowed distance record_at scratch_after put num spell
series-computed = (refl, refl, refl, refl)

-- so the theorem says it of one drain, with a budget of 3 and a journal of 48 bytes
pub one-drain-gives-it : Same gave (drain_at known judge first_tail (one_drain last_step 3 (zeros 48) (zeros 24)))
one-drain-gives-it =
    let c = series-computed in
    let t = c.0 in
    drains-cut-anywhere known judge first_tail (omega arith) last_step steps steps-steady c.1 3 (zeros 48) (zeros 24) refl (omega arith) (omega arith)

-- ---- premises that cannot go

pub record Case : Type 0 where
  pub tail : ℕ
  pub before : List Step
  pub last : Step
  pub stop : ℕ
  pub one : Step

-- the four parts of `Same`
abbrev pub agree : Given → End → Bool
agree g d = (eqb d.state.taken g.taken && same_bytes (entries_of d) g.entries) && (eqb d.state.tail g.tail && eqb d.stop g.stop)

-- the series ended as said, and the one drain gives something else
pub parts : Case → Bool
parts c =
    eqb (series_to known judge c.tail c.before c.last).stop c.stop
    && not (agree (series_to known judge c.tail c.before c.last) (drain_at known judge c.tail c.one))

-- the series ended as said, and the one drain takes fewer records: not even what was before agrees
pub falls-short : Case → Bool
falls-short c =
    eqb (series_to known judge c.tail c.before c.last).stop c.stop
    && ltb (drain_at known judge c.tail c.one).state.taken (series_to known judge c.tail c.before c.last).taken

pub all : (Case → Bool) → List Case → Bool
all f [] = true
all f (c ∷ cs) = f c && all f cs

abbrev pub case : ℕ → List Step → Step → ℕ → Step → Case
case tail before last stop one = record { tail = tail; before = before; last = last; stop = stop; one = one }

-- a ring full of 8-byte records; one in which the third has a size of 0
abbrev pub ring_4 : List ℕ
ring_4 = switch ++ (switch ++ (switch ++ (switch ++ (switch ++ (switch ++ (switch ++ switch))))))

abbrev ring_5 : List ℕ
ring_5 = switch ++ (switch ++ zeros 48)

-- 16 bytes at 56: whole in a ring of 128 bytes, across the end of one of 64
abbrev long : List ℕ
long = spell 4 3 ++ (spell 2 0 ++ (spell 2 16 ++ spell 8 5))

abbrev step_with : List ℕ → ℕ → ℕ → ℕ → ℕ → Step
step_with ring head budget room scratch = record { ring = ring; head = head; budget = budget; journal = zeros room; scratch = zeros scratch }

-- of `drains-cut-anywhere`, where the series ended with 0
pub cases : List Case
cases =
    -- "bytes .. that stay as written": those of a record that was taken are overwritten; the switch has become a fork
    case 0 (step (switch ++ (switch ++ zeros 48)) 8 9 64 ∷ []) (step (fork ++ (switch ++ zeros 48)) 16 9 64) 0 (step (fork ++ (switch ++ zeros 48)) 16 9 64)
    -- "the same .. scratch length": a shorter one in the last drain, then in the one drain alone; 3 at the record that goes round the end
    ∷ case first_tail steps (step_with ring_3 24 9 64 23) 0 (step_with ring_3 24 9 64 23)
    ∷ case first_tail steps last_step 0 (step_with ring_3 24 9 64 23)
    -- "the same ring length": the record at 56 is whole in a ring of 128 bytes, and needs a scratch in one of 64
    ∷ case 56 (step_with (zeros 56 ++ (long ++ zeros 56)) 72 9 64 8 ∷ []) (step_with (drop 8 long ++ (zeros 48 ++ take 8 long)) 72 9 64 8) 0
    (step_with (drop 8 long ++ (zeros 48 ++ take 8 long)) 72 9 64 8)
    -- "enough budget and journal room"
    ∷ case first_tail steps last_step 0 (step ring_3 24 2 64)
    ∷ case first_tail steps last_step 0 (step ring_3 24 9 47)
    -- "the last at most one ring length past the first tail": 4
    ∷ case 0 (step ring_4 64 9 160 ∷ []) (step ring_4 72 9 64) 0 (step ring_4 72 99 640)
    -- "provided the series itself ended with stop 0": 8, and the one drain takes more
    ∷ case 0 (step ring_4 16 9 64 ∷ []) (step ring_4 64 1 64) 8 (step ring_4 64 9 160)
    ∷ []

pub every-case : all parts cases ≡ true
unfolding all parts cases series run entry journal_kind kind_of frame stopped sized length_allowed distance record_at scratch_after put num spell same_bytes
every-case = refl

-- "heads that never go back", and what `agrees-before` asks besides
pub cases-before : List Case
cases-before =
    -- a drain stopped with 6 after two records; then the head goes back: 4, and one drain at that head takes only what is before it
    case 0 (step ring_5 24 9 64 ∷ []) (step ring_5 8 9 64) 4 (step ring_5 8 9 64)
    -- the last head is no multiple of 8: 5, and the one drain takes nothing
    ∷ case 0 (step ring_4 8 9 64 ∷ []) (step ring_4 12 9 64) 5 (step ring_4 12 9 64)
    ∷ []

pub every-case-before : all falls-short cases-before ≡ true
unfolding all falls-short cases-before series run entry journal_kind kind_of frame stopped sized length_allowed distance record_at scratch_after put num spell
every-case-before = refl

-- of `stops-alike` and `stays-stopped`
pub cases-stopped : List Case
cases-stopped =
    -- 7, with a budget or a room of as many as were taken: 8 and 9
    case first_tail (step ring_1 (2 ^ 64 - 8) 9 64 ∷ []) (step ring_2 8 9 64) 7 (step ring_2 8 1 64)
    ∷ case first_tail (step ring_1 (2 ^ 64 - 8) 9 64 ∷ []) (step ring_2 8 9 64) 7 (step ring_2 8 9 16)
    -- 7 does not stay: at a later head the record is whole, and the one drain goes on
    ∷ case first_tail (step ring_1 (2 ^ 64 - 8) 9 64 ∷ []) (step ring_2 8 9 64) 7 (step ring_3 24 9 64)
    ∷ []

pub every-case-stopped : all parts cases-stopped ≡ true
unfolding all parts cases-stopped series run entry journal_kind kind_of frame stopped sized length_allowed distance record_at scratch_after put num spell same_bytes
every-case-stopped = refl

-- "every drain used the same .. table, edition": the first drain under another judge, the series ended with 0, and the entries are not those of one drain
abbrev other : List ℕ → ℕ
other r = 20

abbrev pub mixed : Given
mixed = onward known judge (series known other (from 0) (step ring_4 8 9 64 ∷ [])) (step ring_4 16 9 64)

pub other-judge : (mixed.stop ≡ 0) × (agree mixed (drain_at known judge 0 (step ring_4 16 9 64)) ≡ false)
unfolding series run entry journal_kind kind_of frame stopped sized length_allowed distance record_at scratch_after put num spell same_bytes
other-judge = (refl, refl)

-- "each starting at the last one's tail": the second drain starts at the first tail again
abbrev pub again : Given
again = record {
  taken = 1 + (drain_at known judge 0 (step ring_4 16 9 64)).state.taken;
  entries = (series_to known judge 0 [] (step ring_4 8 9 64)).entries ++ entries_of (drain_at known judge 0 (step ring_4 16 9 64));
  tail = (drain_at known judge 0 (step ring_4 16 9 64)).state.tail;
  stop = (drain_at known judge 0 (step ring_4 16 9 64)).stop;
}

pub other-tail : (again.stop ≡ 0) × (agree again (drain_at known judge 0 (step ring_4 16 9 64)) ≡ false)
unfolding series run entry journal_kind kind_of frame stopped sized length_allowed distance record_at scratch_after put num spell
other-tail = (refl, refl)
