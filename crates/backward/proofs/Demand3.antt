-- Demand 3 for the walk, once over all pairs of editions: any two judges that are fair record by record; then with one attribute set and with a table of
-- events. Assumes nothing.
use Rattle.std.specs.Prelude.{◌≡◌, List, Bool, true, ℕ, ◌<◌, ◌≤◌, length}
use Rattle.meaning.specs.declared.Attributes.{Attributes}
use Rattle.meaning.specs.declared.Event.{Event}
use Rattle.meaning.specs.declared.Known.{Known}
use Rattle.meaning.specs.Editions.{allowed, known, outside}
use Rattle.meaning.specs.Records.{layout, judge}
use Rattle.meaning.specs.Ring.{asking_with, asking}
use Rattle.meaning.specs.Events.{sound, judge_events, event_depends}
use Rattle.meaning.specs.Backward.{back_frame, walk_by, walk_back, walk_events}
use Rattle.runs.specs.Cutting.{record_of}
use Rattle.runs.proofs.Runs.{runs-beside}
use Rattle.runs.proofs.Entries.{all_of}
use Rattle.editions.specs.Fairness.{rising, Words, depends_of, Fair}
use Rattle.editions.specs.Promise.{EntryFair}
use Rattle.editions.proofs.InTable.{judge-small}
use Rattle.editions.proofs.OneRecord.{record-fair}
use Rattle.editions.proofs.Demand3.{entries-fair}
use Rattle.editions.specs.EventPromise.{EventWords, asks_table}
use Rattle.editions.proofs.EventRecord.{event-fair, event-small}
use Rattle.backward.specs.Promise.{walk_cuts, FairWalks}
use Rattle.backward.specs.Frames.{back-roomy}

-- any two editions that are such, each with a judge; the table is shared
module _ (table : Bool) (judge₁ judge₂ : List ℕ → ℕ) (out : List ℕ → Bool) (fair : (r : List ℕ) → Fair (judge₁ r) (judge₂ r) (out r))
    (ok₁ ok₂ : Bool) (is₁ : ok₁ ≡ true) (is₂ : ok₂ ≡ true) (ring : List ℕ) (head budget : ℕ) (journal scratch : List ℕ) where
  pub fair-walks : FairWalks (asking_with true table) judge₁ judge₂ out ring head budget journal scratch
      (walk_by (asking_with ok₁ table) judge₁ ring head budget journal scratch) (walk_by (asking_with ok₂ table) judge₂ ring head budget journal scratch)
  fair-walks =
      record {
        beside = rw (is₁, is₂) (runs-beside (back_frame (asking_with true table) ring head) (back-roomy (asking_with true table) ring head) ring head budget journal scratch judge₁ judge₂);
        fair = all_of _ (λ c. fair c.record-bytes) (walk_cuts (asking_with true table) ring head budget (length journal) scratch).records;
      }

  -- the same, read off the two journals
  pub fair-walks-entry : ((r : List ℕ) → judge₁ r < 65536) → ((r : List ℕ) → judge₂ r < 65536)
      → (i : ℕ) → i < (walk_by (asking_with ok₁ table) judge₁ ring head budget journal scratch).state.taken
      → EntryFair (walk_by (asking_with ok₁ table) judge₁ ring head budget journal scratch).state.journal (walk_by (asking_with ok₂ table) judge₂ ring head budget journal scratch).state.journal i
      (out (record_of (walk_cuts (asking_with true table) ring head budget (length journal) scratch) i))
  fair-walks-entry small₁ small₂ =
      entries-fair (walk_cuts (asking_with true table) ring head budget (length journal) scratch) judge₁ judge₂ out journal _ _ fair-walks.beside small₁ small₂ fair

-- any table of editions that rises
module _ (rows : List Known) (up : rising rows ≡ true) (e₁ e₂ : ℕ) (order : e₁ ≤ e₂) (is₁ : allowed rows e₁ ≡ true) (is₂ : allowed rows e₂ ≡ true) where
  -- with one attribute set
  module _ (a : Attributes) (ws : Words a) (ring : List ℕ) (head budget : ℕ) (journal scratch : List ℕ) where
    pub demand3-back : FairWalks (asking true) (judge (layout (known rows e₁) a)) (judge (layout (known rows e₂) a)) (λ (r : List ℕ). outside (known rows e₁) (depends_of a r))
        ring head budget journal scratch (walk_back rows e₁ a ring head budget journal scratch) (walk_back rows e₂ a ring head budget journal scratch)
    demand3-back =
        fair-walks true (judge (layout (known rows e₁) a)) (judge (layout (known rows e₂) a)) (λ (r : List ℕ). outside (known rows e₁) (depends_of a r))
        (record-fair rows up e₁ e₂ order is₂ a ws) (allowed rows e₁) (allowed rows e₂) is₁ is₂ ring head budget journal scratch

    pub demand3-back-entry : (i : ℕ) → i < (walk_back rows e₁ a ring head budget journal scratch).state.taken
        → EntryFair (walk_back rows e₁ a ring head budget journal scratch).state.journal (walk_back rows e₂ a ring head budget journal scratch).state.journal i
        (outside (known rows e₁) (depends_of a (record_of (walk_cuts (asking true) ring head budget (length journal) scratch) i)))
    demand3-back-entry =
        fair-walks-entry true (judge (layout (known rows e₁) a)) (judge (layout (known rows e₂) a)) (λ (r : List ℕ). outside (known rows e₁) (depends_of a r))
        (record-fair rows up e₁ e₂ order is₂ a ws) (allowed rows e₁) (allowed rows e₂) is₁ is₂ ring head budget journal scratch
        (judge-small (known rows e₁) a) (judge-small (known rows e₂) a)

  -- with a table of events, which both share
  module _ (limit : ℕ) (es : List Event) (ws : EventWords es) (ring : List ℕ) (head budget : ℕ) (journal scratch : List ℕ) where
    pub demand3-walk-events : FairWalks (asks_table limit es) (judge_events (known rows e₁) es) (judge_events (known rows e₂) es) (λ (r : List ℕ). outside (known rows e₁) (event_depends es r))
        ring head budget journal scratch (walk_events limit rows e₁ es ring head budget journal scratch) (walk_events limit rows e₂ es ring head budget journal scratch)
    demand3-walk-events =
        fair-walks (sound limit es) (judge_events (known rows e₁) es) (judge_events (known rows e₂) es) (λ (r : List ℕ). outside (known rows e₁) (event_depends es r))
        (event-fair rows up e₁ e₂ order is₂ es ws) (allowed rows e₁) (allowed rows e₂) is₁ is₂ ring head budget journal scratch

    pub demand3-walk-events-entry : (i : ℕ) → i < (walk_events limit rows e₁ es ring head budget journal scratch).state.taken
        → EntryFair (walk_events limit rows e₁ es ring head budget journal scratch).state.journal (walk_events limit rows e₂ es ring head budget journal scratch).state.journal i
        (outside (known rows e₁) (event_depends es (record_of (walk_cuts (asks_table limit es) ring head budget (length journal) scratch) i)))
    demand3-walk-events-entry =
        fair-walks-entry (sound limit es) (judge_events (known rows e₁) es) (judge_events (known rows e₂) es) (λ (r : List ℕ). outside (known rows e₁) (event_depends es r))
        (event-fair rows up e₁ e₂ order is₂ es ws) (allowed rows e₁) (allowed rows e₂) is₁ is₂ ring head budget journal scratch
        (event-small (known rows e₁) es) (event-small (known rows e₂) es)
