-- The backward ring (M-109): demand 1 for the walk (its numbers, each for its own reason; what it counts, and what journal and scratch then hold), and demand 3,
-- which "reads 'end at the same place' for this walk"; with one attribute set and with a table of events. Demand 2 is the record's: a walk judges by the
-- drain's judge. That no tail moves is in what is told, which has none. Assumes nothing.
use Rattle.std.specs.Prelude.{◌≡◌, refl, List, Bool, true, false, ℕ, ◌+◌, ◌-◌, ◌*◌, ◌^◌, ◌<◌, ◌≤◌, length, get_or}
use Rattle.std.proofs.Common.{sym, ap, ◌∙◌, arith}
use Rattle.meaning.specs.declared.Attributes.{Attributes}
use Rattle.meaning.specs.declared.Drained.{Drained}
use Rattle.meaning.specs.declared.Event.{Event}
use Rattle.meaning.specs.States.{Frame}
use Rattle.meaning.specs.declared.Known.{Known}
use Rattle.meaning.specs.Bytes.{number_at}
use Rattle.meaning.specs.Editions.{editions, allowed, known, outside, is_in}
use Rattle.meaning.specs.Records.{layout, judge, check}
use Rattle.meaning.specs.Ring.{Asked, asked_of, asking}
use Rattle.meaning.specs.Drain.{End, start, ended, told, drain}
use Rattle.meaning.specs.Events.{sound, asked_events, judge_events, event_depends, drain_events}
use Rattle.meaning.specs.Backward.{back_frame, walk_by, walk_back, walk_events}
use Rattle.laws.specs.Bytes.{apart}
use Rattle.runs.specs.Cutting.{Cut, nothing_cut, record_of}
use Rattle.runs.proofs.Entries.{all-at}
use Rattle.editions.specs.Fairness.{rising, Words, depends_of}
use Rattle.editions.specs.Numbers.{record_numbers, event_numbers, walk_numbers, table_walk_numbers}
use Rattle.editions.proofs.InTable.{judge-in, judge-small, not_in}
use Rattle.editions.proofs.OneRecord.{editions-rise, check-framed}
use Rattle.editions.specs.Promise.{EntryFair}
use Rattle.editions.proofs.Demand3.{answer-in}
use Rattle.editions.specs.EventPromise.{EventWords, asks_table}
use Rattle.editions.proofs.EventRecord.{event-in, event-small}
use Rattle.backward.specs.Promise.{walk_cuts, FairWalks}
use Rattle.backward.specs.Frames.{back-goes}
use Rattle.backward.proofs.Walks.{walk-walks, walk-entry, walk-stop, walk-crosses-once, walk-scratch-kept, walk-scratch-copied}
use Rattle.backward.proofs.Reasons.{walk-reason, walk-ended}
use Rattle.backward.proofs.Enough.{walk-eights, enough-budget, enough-journal, enough-scratch}
use Rattle.backward.proofs.Twin.{round_from, walk-as-drain}
use Rattle.backward.proofs.Demand3.{demand3-back, demand3-back-entry, demand3-walk-events, demand3-walk-events-entry}
use Rattle.promises.specs.Backward.{Promised}
use Rattle.promises.proofs.WalkNumbers.{walk-numbers, walk-events-numbers}

-- ---- what is promised of a walk, under any judge and whatever the rows ask beside the ring
module _ (asked : Asked) (judge : List ℕ → ℕ) (ring : List ℕ) (head budget : ℕ) (journal scratch : List ℕ) where
  -- where it ends, and the records as the ring is cut
  abbrev end : End
  end = walk_by asked judge ring head budget journal scratch

  abbrev records : List Cut
  records = (walk_cuts asked ring head budget (length journal) scratch).records

  pub walk-promised : head < 2 ^ 64 → Promised asked judge ring head budget journal scratch
  walk-promised hd =
      record {
        counted = walk-walks asked judge ring head budget journal scratch hd;
        entry = walk-entry asked judge ring head budget journal scratch;
        reason = walk-reason asked judge ring head budget journal scratch hd;
        ended_so = walk-ended asked judge ring head budget journal scratch hd;
        crosses-once = walk-crosses-once asked judge ring head budget journal scratch hd;
        scratch-copied = walk-scratch-copied asked judge ring head budget journal scratch hd;
        scratch-kept = walk-scratch-kept asked judge ring head budget journal scratch hd;
        eights = walk-eights asked judge ring head budget journal scratch hd;
        budget-enough = enough-budget asked judge ring head budget journal scratch hd;
        journal-enough = enough-journal asked judge ring head budget journal scratch hd;
        scratch-enough = enough-scratch asked judge ring head budget journal scratch hd;
      }

  -- a walk that ends where it began leaves counts, journal and scratch as they were
  pub walk-stop-leaves : (back_frame asked ring head head budget (length journal) (length scratch)).go ≡ false
      → (end.state.taken ≡ 0) × (end.state.bytes ≡ 0) × (end.state.journal ≡ journal) × (end.state.scratch ≡ scratch)
  walk-stop-leaves g =
      let s = walk-stop asked judge ring head budget journal scratch g in (
        ap (λ (x : End). x.state.taken) s,
        ap (λ (x : End). x.state.bytes) s,
        ap (λ (x : End). x.state.journal) s,
        ap (λ (x : End). x.state.scratch) s,
      )

-- ---- with one attribute set
module _ (e : ℕ) (a : Attributes) (ring : List ℕ) (head budget : ℕ) (journal scratch : List ℕ) where
  abbrev walked : End
  walked = walk_back editions e a ring head budget journal scratch

  abbrev record-at : ℕ → Cut
  record-at i = get_or (walk_cuts (asked_of editions e) ring head budget (length journal) scratch).records i nothing_cut

  pub walk-others : (k : ℕ) → is_in k walk_numbers ≡ false → walked.stop ≡ k → ⊥
  walk-others k out = not_in walk_numbers k walked.stop out (walk-numbers e a ring head budget journal scratch)

  pub walk-back-promised : head < 2 ^ 64 → Promised (asked_of editions e) (judge (layout (known editions e) a)) ring head budget journal scratch
  walk-back-promised = walk-promised (asked_of editions e) (judge (layout (known editions e) a)) ring head budget journal scratch

  -- it takes and leaves what a drain does whose tail is head and whose head lies one ring length on; only the number that ends it is another
  pub walk-like-drain : head < 2 ^ 64 → walked.state ≡ (drain editions e a ring (round_from ring head) head budget journal scratch).state
  walk-like-drain = walk-as-drain (asked_of editions e) (judge (layout (known editions e) a)) ring head budget journal scratch

  -- the answer in an entry is the record's: a number of the table, and record check's for those bytes but for 44, which is 0 here
  answered : (i : ℕ) → i < walked.state.taken → number_at 2 walked.state.journal (16 * i + 6) ≡ judge (layout (known editions e) a) (record-at i).record-bytes
  answered i h =
      answer-in (judge (layout (known editions e) a)) walked.state.journal (record-at i).record-bytes i (record-at i).tail (judge-small (known editions e) a (record-at i).record-bytes)
      (walk-entry (asked_of editions e) (judge (layout (known editions e) a)) ring head budget journal scratch i h)

  pub walk-entry-numbers : (i : ℕ) → i < walked.state.taken → is_in (number_at 2 walked.state.journal (16 * i + 6)) record_numbers ≡ true
  walk-entry-numbers i h = rw (answered i h) (judge-in (known editions e) a (record-at i).record-bytes)

  pub walk-checks : allowed editions e ≡ true → head < 2 ^ 64 → (i : ℕ) → i < walked.state.taken
      → number_at 2 walked.state.journal (16 * i + 6) ≡ check editions e a (record-at i).record-bytes
  walk-checks g hd i h =
      let w = (walk-back-promised hd).counted in
      answered i h
      ∙ sym (check-framed editions e g a (record-at i).record-bytes
      (all-at _ (walk_cuts (asked_of editions e) ring head budget (length journal) scratch).records i w.shaped (omega (arith, h, w.count))))

-- ---- with a table of events
module _ (limit e : ℕ) (es : List Event) (ring : List ℕ) (head budget : ℕ) (journal scratch : List ℕ) where
  abbrev walked_events : End
  walked_events = walk_events limit editions e es ring head budget journal scratch

  abbrev event_record_at : ℕ → Cut
  event_record_at i = get_or (walk_cuts (asked_events limit editions e es) ring head budget (length journal) scratch).records i nothing_cut

  pub walk-events-others : (k : ℕ) → is_in k table_walk_numbers ≡ false → walked_events.stop ≡ k → ⊥
  walk-events-others k out = not_in table_walk_numbers k walked_events.stop out (walk-events-numbers limit e es ring head budget journal scratch)

  pub walk-events-promised : head < 2 ^ 64 → Promised (asked_events limit editions e es) (judge_events (known editions e) es) ring head budget journal scratch
  walk-events-promised = walk-promised (asked_events limit editions e es) (judge_events (known editions e) es) ring head budget journal scratch

  pub walk-like-drain-events : head < 2 ^ 64 → walked_events.state ≡ (drain_events limit editions e es ring (round_from ring head) head budget journal scratch).state
  walk-like-drain-events = walk-as-drain (asked_events limit editions e es) (judge_events (known editions e) es) ring head budget journal scratch

  pub walk-events-entry-numbers : (i : ℕ) → i < walked_events.state.taken → is_in (number_at 2 walked_events.state.journal (16 * i + 6)) event_numbers ≡ true
  walk-events-entry-numbers i h =
      let r : List ℕ = (event_record_at i).record-bytes in
      rw (answer-in (judge_events (known editions e) es) walked_events.state.journal r i (event_record_at i).tail (event-small (known editions e) es r)
      (walk-entry (asked_events limit editions e es) (judge_events (known editions e) es) ring head budget journal scratch i h))
      (event-in (known editions e) es r)

  -- a table that is refused: nothing is taken, and the stop is that of the first row that holds
  pub walk-events-unsound : sound limit es ≡ false
      → walked_events ≡ ended (start head journal scratch) (back_frame (asked_events limit editions e es) ring head head budget (length journal) (length scratch))
  walk-events-unsound h = walk-stop (asked_events limit editions e es) (judge_events (known editions e) es) ring head budget journal scratch (stays _ refl)
    where
      next : Frame
      next = back_frame (asked_events limit editions e es) ring head head budget (length journal) (length scratch)

      stays : (b : Bool) → next.go ≡ b → b ≡ false
      stays true g = absurd (apart (sym h ∙ (back-goes (asked_events limit editions e es) ring head head budget (length journal) (length scratch) g).table))
      stays false g = refl

-- ---- demand 3: over any table of editions that rises
module _ (rows : List Known) (up : rising rows ≡ true) (e₁ e₂ : ℕ) (order : e₁ ≤ e₂) (is₁ : allowed rows e₁ ≡ true) (is₂ : allowed rows e₂ ≡ true)
    (ring : List ℕ) (head budget : ℕ) (journal scratch : List ℕ) where
  pub fair-walk : (a : Attributes) → Words a
      → FairWalks (asking true) (judge (layout (known rows e₁) a)) (judge (layout (known rows e₂) a)) (λ (r : List ℕ). outside (known rows e₁) (depends_of a r))
      ring head budget journal scratch (walk_back rows e₁ a ring head budget journal scratch) (walk_back rows e₂ a ring head budget journal scratch)
  fair-walk a ws = demand3-back rows up e₁ e₂ order is₁ is₂ a ws ring head budget journal scratch

  pub fair-walk-entry : (a : Attributes) → Words a → (i : ℕ) → i < (walk_back rows e₁ a ring head budget journal scratch).state.taken
      → EntryFair (walk_back rows e₁ a ring head budget journal scratch).state.journal (walk_back rows e₂ a ring head budget journal scratch).state.journal i
      (outside (known rows e₁) (depends_of a (record_of (walk_cuts (asking true) ring head budget (length journal) scratch) i)))
  fair-walk-entry a ws = demand3-back-entry rows up e₁ e₂ order is₁ is₂ a ws ring head budget journal scratch

  pub fair-walk-events : (limit : ℕ) (es : List Event) → EventWords es
      → FairWalks (asks_table limit es) (judge_events (known rows e₁) es) (judge_events (known rows e₂) es) (λ (r : List ℕ). outside (known rows e₁) (event_depends es r))
      ring head budget journal scratch (walk_events limit rows e₁ es ring head budget journal scratch) (walk_events limit rows e₂ es ring head budget journal scratch)
  fair-walk-events limit es ws = demand3-walk-events rows up e₁ e₂ order is₁ is₂ limit es ws ring head budget journal scratch

  pub fair-walk-events-entry : (limit : ℕ) (es : List Event) → EventWords es → (i : ℕ) → i < (walk_events limit rows e₁ es ring head budget journal scratch).state.taken
      → EntryFair (walk_events limit rows e₁ es ring head budget journal scratch).state.journal (walk_events limit rows e₂ es ring head budget journal scratch).state.journal i
      (outside (known rows e₁) (event_depends es (record_of (walk_cuts (asks_table limit es) ring head budget (length journal) scratch) i)))
  fair-walk-events-entry limit es ws = demand3-walk-events-entry rows up e₁ e₂ order is₁ is₂ limit es ws ring head budget journal scratch

-- "end at the same place": as many records and bytes, the same place and stop; and the same scratch
pub record SamePlace (older newer : End) : Type 0 where
  pub records-alike : older.state.taken ≡ newer.state.taken
  pub bytes-alike : older.state.bytes ≡ newer.state.bytes
  pub place-alike : older.state.tail ≡ newer.state.tail
  pub stop-alike : older.stop ≡ newer.stop
  pub scratch-alike : older.state.scratch ≡ newer.state.scratch

at-one-place : (older newer : End) → told older ≡ told newer → older.state.scratch ≡ newer.state.scratch → SamePlace older newer
at-one-place older newer t s =
    record {
      records-alike = ap (λ (d : Drained). d.taken) t;
      bytes-alike = ap (λ (d : Drained). d.bytes) t;
      place-alike = ap (λ (d : Drained). d.tail) t;
      stop-alike = ap (λ (d : Drained). d.stop) t;
      scratch-alike = s;
    }

-- ---- "two of the editions that 01 lists"
module _ (e₁ e₂ : ℕ) (order : e₁ ≤ e₂) (is₁ : allowed editions e₁ ≡ true) (is₂ : allowed editions e₂ ≡ true) (ring : List ℕ) (head budget : ℕ) (journal scratch : List ℕ) where
  pub older-walk : (a : Attributes) → Words a
      → FairWalks (asking true) (judge (layout (known editions e₁) a)) (judge (layout (known editions e₂) a)) (λ (r : List ℕ). outside (known editions e₁) (depends_of a r))
      ring head budget journal scratch (walk_back editions e₁ a ring head budget journal scratch) (walk_back editions e₂ a ring head budget journal scratch)
  older-walk = fair-walk editions editions-rise e₁ e₂ order is₁ is₂ ring head budget journal scratch

  pub older-walk-events : (limit : ℕ) (es : List Event) → EventWords es
      → FairWalks (asks_table limit es) (judge_events (known editions e₁) es) (judge_events (known editions e₂) es) (λ (r : List ℕ). outside (known editions e₁) (event_depends es r))
      ring head budget journal scratch (walk_events limit editions e₁ es ring head budget journal scratch) (walk_events limit editions e₂ es ring head budget journal scratch)
  older-walk-events = fair-walk-events editions editions-rise e₁ e₂ order is₁ is₂ ring head budget journal scratch

  -- "end at the same place", with one attribute set and with a table
  pub same_place : (a : Attributes) → Words a
      → SamePlace (walk_back editions e₁ a ring head budget journal scratch) (walk_back editions e₂ a ring head budget journal scratch)
  same_place a ws = let b = (older-walk a ws).beside in at-one-place _ _ b.told-alike b.scratch-alike

  pub same-place-events : (limit : ℕ) (es : List Event) → EventWords es
      → SamePlace (walk_events limit editions e₁ es ring head budget journal scratch) (walk_events limit editions e₂ es ring head budget journal scratch)
  same-place-events limit es ws = let b = (older-walk-events limit es ws).beside in at-one-place _ _ b.told-alike b.scratch-alike
