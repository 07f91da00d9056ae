-- Demand 3 under a table of events: "Demand 3 stands, with the table shared and bit 16 selected for every record." Assumes nothing: these are definitions.
use Rattle.std.specs.Prelude.{◌≡◌, ℕ, Bool, true, false, ◌&&◌, List, length}
use Rattle.meaning.specs.declared.Event.{Event}
use Rattle.meaning.specs.declared.Known.{Known}
use Rattle.meaning.specs.Bytes.{zeros}
use Rattle.meaning.specs.Editions.{known, outside}
use Rattle.meaning.specs.Ring.{Asked, asking_with, record_at}
use Rattle.meaning.specs.Events.{attributes_of, event_at, sound, judge_events, event_depends, drain_events, one_events_frame, read_one_events, one_events_scratch}
use Rattle.runs.specs.Cutting.{Cut, Cuts, cutting_by, All}
use Rattle.runs.proofs.Runs.{Beside}
use Rattle.editions.specs.Fairness.{Words, Fair}

-- "any attributes": the words of every event are words of 64 bits, as they are in the code
abbrev pub EventWords : List Event → Type 0
EventWords es = (i : ℕ) → Words (attributes_of (event_at es i))

-- how a ring is cut under a table: no edition is an argument
abbrev pub asks_table : ℕ → List Event → Asked
asks_table limit es = asking_with true (sound limit es)

abbrev pub table_cutting : ℕ → List Event → List ℕ → ℕ → ℕ → ℕ → ℕ → List ℕ → Cuts
table_cutting limit es = cutting_by (asks_table limit es)

-- the same records, tail, stop and scratch under both editions; and each record's answers fair, where its reading depends on what `event_depends` lists
pub record Demand3Events (limit : ℕ) (rows : List Known) (e₁ e₂ : ℕ) (es : List Event) (ring : List ℕ) (head tail budget : ℕ) (journal scratch : List ℕ) : Type 0 where
  pub beside : Beside (table_cutting limit es ring head tail budget (length journal) scratch) (judge_events (known rows e₁) es) (judge_events (known rows e₂) es) journal
      (drain_events limit rows e₁ es ring head tail budget journal scratch) (drain_events limit rows e₂ es ring head tail budget journal scratch)
  pub fair : All (λ (c : Cut). Fair (judge_events (known rows e₁) es c.record-bytes) (judge_events (known rows e₂) es c.record-bytes)
      (outside (known rows e₁) (event_depends es c.record-bytes)))
      (table_cutting limit es ring head tail budget (length journal) scratch).records

-- the reader of one record: does something lie outside? A stop has no record
abbrev pub one_events_outside : ℕ → List Known → ℕ → List Event → List ℕ → ℕ → ℕ → List ℕ → Bool
one_events_outside limit rows e es ring head tail scratch =
    (one_events_frame limit rows e es ring head tail scratch).go
    && outside (known rows e)
    (event_depends es (record_at ring (one_events_frame limit rows e es ring head tail scratch).place (one_events_frame limit rows e es ring head tail scratch).size))

-- the same stop or record, tail and scratch; the answers fair; where nothing lies outside the words are the same too, and where something does the
-- older edition shows no value
pub record OneEventsFair (limit : ℕ) (rows : List Known) (e₁ e₂ : ℕ) (es : List Event) (ring : List ℕ) (head tail : ℕ) (scratch : List ℕ) : Type 0 where
  pub frame-alike : (read_one_events limit rows e₁ es ring head tail scratch).frame ≡ (read_one_events limit rows e₂ es ring head tail scratch).frame
  pub tail-alike : (read_one_events limit rows e₁ es ring head tail scratch).tail ≡ (read_one_events limit rows e₂ es ring head tail scratch).tail
  pub scratch-alike : one_events_scratch limit rows e₁ es ring head tail scratch ≡ one_events_scratch limit rows e₂ es ring head tail scratch
  pub fair : Fair (read_one_events limit rows e₁ es ring head tail scratch).answer (read_one_events limit rows e₂ es ring head tail scratch).answer
      (one_events_outside limit rows e₁ es ring head tail scratch)
  pub same : one_events_outside limit rows e₁ es ring head tail scratch ≡ false
      → read_one_events limit rows e₁ es ring head tail scratch ≡ read_one_events limit rows e₂ es ring head tail scratch
  pub empty : one_events_outside limit rows e₁ es ring head tail scratch ≡ true → (read_one_events limit rows e₁ es ring head tail scratch).words ≡ zeros 56
