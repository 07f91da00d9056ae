-- M-113, "Drains cut anywhere", in its own words: "any series of drains, each starting at the last one's tail, with heads that never go back, the last at
-- most one ring length past the first tail, and bytes between the first tail and each head that stay as written to the end, gives the same journal
-- entries and the same last tail as one drain at the last head with enough budget and journal room, provided the series itself ended with stop 0 at that
-- head and every drain used the same ring length, table, edition and scratch length."
-- `Steady` says the heads, the bytes and the lengths; `series_to` starts each drain at the last one's tail, all of them under one edition and one table; `z` is the
-- last drain. Each theorem stands twice: for the drain with one attribute set and for the drain with a table of events. That every premise is needed
-- is computed in series/specs/Examples. Assumes nothing.
use Rattle.std.specs.Prelude.{◌≡◌, refl, List, [], ◌∷◌, ◌++◌, true, false, ℕ, ◌+◌, ◌-◌, ◌*◌, ◌%◌, ◌^◌, ◌<◌, ◌≤◌, length, take}
use Rattle.std.proofs.Common.{arith}
use Rattle.meaning.specs.declared.Attributes.{Attributes}
use Rattle.meaning.specs.declared.Event.{Event}
use Rattle.meaning.specs.declared.Known.{Known}
use Rattle.meaning.specs.Bytes.{num, bit, spell, zeros, put}
use Rattle.meaning.specs.Refusals.{first}
use Rattle.meaning.specs.Editions.{editions, known, is_in}
use Rattle.meaning.specs.Records.{layout, judge, kind_of}
use Rattle.meaning.specs.Ring.{asked_of, length_allowed, distance, record_at, stopped, sized, frame, scratch_after}
use Rattle.meaning.specs.Drain.{End, drain, run, entry, journal_kind}
use Rattle.meaning.specs.Events.{asked_events, judge_events, drain_events, event_limit, sound, distinct, all_marked, identifier_of}
use Rattle.series.specs.Series.{Step, Given, drain_at, entries_of, from, series, series_to, Steady, one_drain, Same, GoesOn}
use Rattle.series.proofs.Stops.{lasting, staying}
use Rattle.series.proofs.Anywhere.{drains-cut-anywhere, stops-alike, agrees-before, begins-alike, stays-stopped, always-enough}
use Rattle.series.proofs.Examples.{first_tail, steps, last_step, steps-steady}
use Rattle.series.proofs.Examples as examples

-- ---- the drains of 01 and of M-100, each from a tail, with what a step lends

module _ (rows : List Known) (e : ℕ) (a : Attributes) where
  abbrev pub one_set : ℕ → Step → End
  one_set tail s = drain rows e a s.ring s.head tail s.budget s.journal s.scratch

  abbrev pub one_set_series : ℕ → List Step → Given
  one_set_series tail ss = series (asked_of rows e) (judge (layout (known rows e) a)) (from tail) ss

  abbrev pub one_set_series_to : ℕ → List Step → Step → Given
  one_set_series_to tail ss z = series_to (asked_of rows e) (judge (layout (known rows e) a)) tail ss z

module _ (limit : ℕ) (rows : List Known) (e : ℕ) (es : List Event) where
  abbrev pub with_table : ℕ → Step → End
  with_table tail s = drain_events limit rows e es s.ring s.head tail s.budget s.journal s.scratch

  abbrev pub table_series : ℕ → List Step → Given
  table_series tail ss = series (asked_events limit rows e es) (judge_events (known rows e) es) (from tail) ss

  abbrev pub table_series_to : ℕ → List Step → Step → Given
  table_series_to tail ss z = series_to (asked_events limit rows e es) (judge_events (known rows e) es) tail ss z

-- ---- what is said of any series: `drained` is the drain, `gave` and `gave_to` the series of it

module _ (drained : ℕ → Step → End) (gave : ℕ → List Step → Given) (gave_to : ℕ → List Step → Step → Given) where
  -- "the same journal entries and the same last tail as one drain at the last head with enough budget and journal room, provided the series itself ended with
  -- stop 0 at that head": enough are as many records as the series took
  abbrev pub CutAnywhere : Type 0
  CutAnywhere =
      (tail : ℕ) → tail < 2 ^ 64 → (z : Step) (ss : List Step) → Steady tail 0 ss z → (gave_to tail ss z).stop ≡ 0
      → (budget : ℕ) (journal scratch : List ℕ) → length scratch ≡ length z.scratch → (gave_to tail ss z).taken ≤ budget → 16 * (gave_to tail ss z).taken ≤ length journal
      → Same (gave_to tail ss z) (drained tail (one_drain z budget journal scratch))

  -- "Where a drain stops with 3, 6 or 7, everything before that place agrees": the last drain of the series; the one drain stops there too
  abbrev pub StopsAlike : Type 0
  StopsAlike =
      (tail : ℕ) → tail < 2 ^ 64 → (z : Step) (ss : List Step) → Steady tail 0 ss z → is_in (gave_to tail ss z).stop lasting ≡ true
      → (budget : ℕ) (journal scratch : List ℕ) → length scratch ≡ length z.scratch → (gave_to tail ss z).taken < budget → 16 * (gave_to tail ss z).taken + 16 ≤ length journal
      → Same (gave_to tail ss z) (drained tail (one_drain z budget journal scratch))

  -- the same of a drain in the middle, whatever it stopped with: one drain at a later head gives the series' entries, and goes on as a drain from its last tail
  abbrev pub AgreesBefore : Type 0
  AgreesBefore =
      (tail : ℕ) → tail < 2 ^ 64 → (z : Step) (ss : List Step) → Steady tail 0 ss z → z.head % 8 ≡ 0
      → (budget : ℕ) (journal scratch journal' scratch' : List ℕ) → length scratch ≡ length z.scratch → length scratch' ≡ length z.scratch
      → (gave tail ss).taken ≤ budget → 16 * (gave tail ss).taken + length journal' ≡ length journal
      → GoesOn (gave tail ss) (drained tail (one_drain z budget journal scratch)) (drained (gave tail ss).tail (one_drain z (budget - (gave tail ss).taken) journal' scratch'))

  -- and 3 and 6 in the middle stay: the one drain stops at that place too
  abbrev pub StaysStopped : Type 0
  StaysStopped =
      (tail : ℕ) → tail < 2 ^ 64 → (z : Step) (ss : List Step) (s : Step) → Steady tail 0 (ss ++ (s ∷ [])) z → z.head % 8 ≡ 0 → s.head < 2 ^ 64
      → is_in (gave_to tail ss s).stop staying ≡ true
      → (budget : ℕ) (journal scratch : List ℕ) → length scratch ≡ length z.scratch → (gave_to tail ss s).taken < budget → 16 * (gave_to tail ss s).taken + 16 ≤ length journal
      → Same (gave_to tail ss s) (drained tail (one_drain z budget journal scratch))

  -- so the one drain's entries begin with the series'
  abbrev pub BeginsAlike : Type 0
  BeginsAlike =
      (tail : ℕ) → tail < 2 ^ 64 → (z : Step) (ss : List Step) → Steady tail 0 ss z → z.head % 8 ≡ 0
      → (budget : ℕ) (journal scratch : List ℕ) → length scratch ≡ length z.scratch → (gave tail ss).taken ≤ budget → 16 * (gave tail ss).taken ≤ length journal
      → take (length (gave tail ss).entries) (entries_of (drained tail (one_drain z budget journal scratch))) ≡ (gave tail ss).entries

  -- how much always suffices: one record for every 8 bytes of the ring
  abbrev pub AlwaysEnough : Type 0
  AlwaysEnough =
      (tail : ℕ) → tail < 2 ^ 64 → (z : Step) (ss : List Step) → Steady tail 0 ss z → is_in (gave_to tail ss z).stop lasting ≡ true
      → 8 * (gave_to tail ss z).taken ≤ length z.ring

  pub record Series113 : Type 0 where
    pub cut-anywhere : CutAnywhere
    pub stopped-alike : StopsAlike
    pub before-agrees : AgreesBefore
    pub begins : BeginsAlike
    pub stopped-stays : StaysStopped
    pub enough : AlwaysEnough

-- "every drain used the same .. edition", and one attribute set
pub one_set_lem : (rows : List Known) (e : ℕ) (a : Attributes) → Series113 (one_set rows e a) (one_set_series rows e a) (one_set_series_to rows e a)
one_set_lem rows e a =
    record {
      cut-anywhere = drains-cut-anywhere (asked_of rows e) (judge (layout (known rows e) a));
      stopped-alike = stops-alike (asked_of rows e) (judge (layout (known rows e) a));
      before-agrees = agrees-before (asked_of rows e) (judge (layout (known rows e) a));
      begins = begins-alike (asked_of rows e) (judge (layout (known rows e) a));
      stopped-stays = stays-stopped (asked_of rows e) (judge (layout (known rows e) a));
      enough = always-enough (asked_of rows e) (judge (layout (known rows e) a));
    }

-- "every drain used the same .. table, edition"
pub with-table : (limit : ℕ) (rows : List Known) (e : ℕ) (es : List Event)
    → Series113 (with_table limit rows e es) (table_series limit rows e es) (table_series_to limit rows e es)
with-table limit rows e es =
    record {
      cut-anywhere = drains-cut-anywhere (asked_events limit rows e es) (judge_events (known rows e) es);
      stopped-alike = stops-alike (asked_events limit rows e es) (judge_events (known rows e) es);
      before-agrees = agrees-before (asked_events limit rows e es) (judge_events (known rows e) es);
      begins = begins-alike (asked_events limit rows e es) (judge_events (known rows e) es);
      stopped-stays = stays-stopped (asked_events limit rows e es) (judge_events (known rows e) es);
      enough = always-enough (asked_events limit rows e es) (judge_events (known rows e) es);
    }

-- ---- not empty: the series of series/specs/Examples meets every premise, whatever the judge; here with a table of one event, under edition 3
abbrev kiln : List Event
kiln = record { identifier = 7; sample = 2 ^ 16; format = 0; user = 0; interrupt = 0; branch = 0; all = 1 } ∷ []

abbrev kiln_gave : Given
kiln_gave = table_series_to event_limit editions 3 kiln first_tail steps last_step

-- in three of seven drains three records are taken, of 8, 24 and 8 bytes: 27, 26 and 27; and the last stopped with 0
pub table-series : (kiln_gave.taken ≡ 3) × (kiln_gave.stop ≡ 0) × (kiln_gave.tail ≡ 24)
    × (kiln_gave.entries ≡ entry 14 27 (2 ^ 64 - 16) ++ (entry 2 26 (2 ^ 64 - 8) ++ entry 7 27 16))
unfolding series run entry journal_kind kind_of frame stopped sized length_allowed distance record_at scratch_after put num spell bit sound distinct all_marked judge_events first identifier_of known
table-series = (refl, refl, refl, refl)

pub one-drain-with-table : Same kiln_gave (with_table event_limit editions 3 kiln first_tail (one_drain last_step 3 (zeros 48) (zeros 24)))
one-drain-with-table =
    let c = table-series in
    let t = c.0 in
    (with-table event_limit editions 3 kiln).cut-anywhere first_tail (omega arith) last_step steps steps-steady c.1 3 (zeros 48) (zeros 24) refl (omega arith) (omega arith)

-- ---- each premise is needed: for each a series that lacks it alone, of which one drain gives something else, or not even what was before
pub each-premise : (examples.all examples.parts examples.cases ≡ true) × (examples.all examples.falls-short examples.cases-before ≡ true)
    × (examples.all examples.parts examples.cases-stopped ≡ true)
each-premise = (examples.every-case, examples.every-case-before, examples.every-case-stopped)

-- "the same .. table, edition" and "each starting at the last one's tail": two drains under two judges, and two from one tail, that ended with 0
pub one-judge-one-way :
    (examples.agree examples.mixed (drain_at examples.known examples.judge 0 (examples.step examples.ring_4 16 9 64)) ≡ false)
    × (examples.agree examples.again (drain_at examples.known examples.judge 0 (examples.step examples.ring_4 16 9 64)) ≡ false)
one-judge-one-way = ((examples.other-judge).1, (examples.other-tail).1)

-- with the record's length as the judge's answer, one drain gives what the seven gave
pub seven-as-one : Same (series_to examples.known examples.judge first_tail steps last_step) (drain_at examples.known examples.judge first_tail (one_drain last_step 3 (zeros 48) (zeros 24)))
seven-as-one = examples.one-drain-gives-it
