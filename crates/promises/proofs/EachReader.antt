-- M-105, "Demands 2 and 3 hold for each reader alone": demand 2, of the record at either reader's tail. What the reader of one record accepts there, as C calls
-- it, means the record shown, and is written again as its bytes but for those that 01 ignores. Demand 3 is in Readers; of one record, and of any tail, in
-- CalledFair. Assumes nothing.
use Rattle.std.specs.Prelude.{◌≡◌, List, true, ℕ, ◌<◌, ◌≤◌, length, take}
use Rattle.meaning.specs.declared.Attributes.{Attributes}
use Rattle.meaning.specs.declared.Event.{Event}
use Rattle.meaning.specs.Bytes.{small}
use Rattle.meaning.specs.Editions.{editions, known}
use Rattle.meaning.specs.Records.{layout, check, flag_of, value}
use Rattle.meaning.specs.Values.{meant}
use Rattle.meaning.specs.Ring.{one_scratch}
use Rattle.meaning.specs.Events.{attributes_of, event_for, one_events_scratch}
use Rattle.one.specs.Told.{one_told, one_words}
use Rattle.event_one.specs.Told.{one_events_told, one_events_words}
use Rattle.readers.specs.declared.Readers.{Readers}
use Rattle.readers.specs.Turns.{Lent}
use Rattle.promises.proofs.Called.{part, WrittenAgain, told-means, told-writes-again, event-told-means, event-told-writes-again}

-- of a record and its words, under an edition and attributes: record check accepts it, the first 56 words mean its value, and it is written again
pub record Demand2 (e : ℕ) (a : Attributes) (r words buffer : List ℕ) : Type 0 where
  pub accepted : check editions e a r ≡ 0
  pub means : meant (layout (known editions e) a) r (take 56 words) ≡ value (layout (known editions e) a) r
  pub written-again : small r ≡ true → flag_of (layout (known editions e) a) r ≡ 0 → length r ≤ length buffer → WrittenAgain e a r words buffer

-- ---- with one attribute set
module _ (e : ℕ) (a : Attributes) (words buffer : List ℕ) where
  -- of the record at a tail, if one is taken and accepted
  abbrev pub Demand2At : List ℕ → ℕ → ℕ → List ℕ → Type 0
  Demand2At ring head tail scratch =
      0 < (one_told editions e a ring head tail scratch words).size → (one_told editions e a ring head tail scratch words).answer ≡ 0
      → Demand2 e a (part ring (one_scratch editions e ring head tail scratch) (one_told editions e a ring head tail scratch words)) (one_words editions e a ring head tail scratch words) buffer

  pub demand-2-at : (ring : List ℕ) (head tail : ℕ) (scratch : List ℕ) → Demand2At ring head tail scratch
  demand-2-at ring head tail scratch h z =
      let m = told-means e a ring head tail scratch words h z in
      record { accepted = m.0; means = m.1; written-again = λ s n room. told-writes-again e a ring head tail scratch words buffer s h z n room }

  pub demand-2-each : (r : Readers) (l m : Lent) → Demand2At l.ring l.head r.first l.scratch × Demand2At m.ring m.head r.second m.scratch
  demand-2-each r l m = (demand-2-at l.ring l.head r.first l.scratch, demand-2-at m.ring m.head r.second m.scratch)

-- ---- with the table that both share: under the attributes of the record's event
module _ (limit e : ℕ) (es : List Event) (words buffer : List ℕ) where
  abbrev pub Demand2EventAt : List ℕ → ℕ → ℕ → List ℕ → Type 0
  Demand2EventAt ring head tail scratch =
      0 < (one_events_told limit editions e es ring head tail scratch words).size → (one_events_told limit editions e es ring head tail scratch words).answer ≡ 0
      → Demand2 e
      (attributes_of (event_for es (part ring (one_events_scratch limit editions e es ring head tail scratch) (one_events_told limit editions e es ring head tail scratch words))))
      (part ring (one_events_scratch limit editions e es ring head tail scratch) (one_events_told limit editions e es ring head tail scratch words))
      (one_events_words limit editions e es ring head tail scratch words) buffer

  pub demand-2-event-at : (ring : List ℕ) (head tail : ℕ) (scratch : List ℕ) → Demand2EventAt ring head tail scratch
  demand-2-event-at ring head tail scratch h z =
      let m = event-told-means limit e es ring head tail scratch words h z in
      record { accepted = m.1; means = m.2; written-again = λ s n room. event-told-writes-again limit e es ring head tail scratch words buffer s h z n room }

  pub demand-2-each-table : (r : Readers) (l m : Lent) → Demand2EventAt l.ring l.head r.first l.scratch × Demand2EventAt m.ring m.head r.second m.scratch
  demand-2-each-table r l m = (demand-2-event-at l.ring l.head r.first l.scratch, demand-2-event-at m.ring m.head r.second m.scratch)
