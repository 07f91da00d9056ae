-- M-105, "Two readers, one ring and one table", in its own words. `Readers` are the two tails, `published` is the tail handed to the kernel, with its answer: what
-- `Readers::publish` and `ollskuvan_publish` are proved equal to. Assumes nothing.
use Rattle.std.specs.Prelude.{◌≡◌, List, ◌∷◌, Bool, true, ◌⊎◌, ℕ, ◌^◌, ◌<◌, ◌≤◌, length}
use Rattle.meaning.specs.declared.Attributes.{Attributes}
use Rattle.meaning.specs.declared.Event.{Event}
use Rattle.meaning.specs.declared.Known.{Known}
use Rattle.meaning.specs.Editions.{editions, allowed}
use Rattle.meaning.specs.Ring.{Asked, asking_with, distance, stop_at, frame}
use Rattle.meaning.specs.Drain.{End, start, run}
use Rattle.editions.specs.Fairness.{Words}
use Rattle.editions.specs.Promise.{Demand3}
use Rattle.editions.specs.EventPromise.{EventWords, Demand3Events}
use Rattle.readers.specs.declared.Readers.{Readers}
use Rattle.readers.specs.Readers.{readers_at, first_moved, second_moved, tail_answer, further_tail, published}
use Rattle.readers.proofs.Laws as laws
use Rattle.readers.specs.Turns.{Lent, Turn, table-replaced, turns, first_alone, second_alone, first-as-alone, second-as-alone, both-see-it, one_set_drain, table_drain}
use Rattle.readers.proofs.Turns.{first-by-itself, second-by-itself}
use Rattle.promises.proofs.Demand3.{older-drain}
use Rattle.promises.proofs.Events.{older-events}

-- ---- "The tail handed to the kernel is the one at the greater distance from head"
module _ (n head : ℕ) (r : Readers) where
  pub one-of-the-two : (published n head r).answer ≡ 0 → ((published n head r).tail ≡ r.first) ⊎ ((published n head r).tail ≡ r.second)
  one-of-the-two = laws.is-one-of-them n head r

  -- so no byte that a reader has not taken is given back: what lies between its tail and head lies between this one and head
  pub greater-distance : (published n head r).answer ≡ 0
      → (distance head r.first ≤ distance head (published n head r).tail) × (distance head r.second ≤ distance head (published n head r).tail)
      × (distance head (published n head r).tail ≤ n)
  greater-distance = laws.passes-neither n head r

  -- "if either is refused by 1, 4 or 5, that refusal is the answer, the first reader's if both are, and no tail is handed out": it is told as 0
  pub first-refused : (tail_answer n head r.first ≡ 0 → ⊥) → published n head r ≡ record { tail = 0; answer = tail_answer n head r.first }
  first-refused = laws.published-first n head r

  pub second-refused : tail_answer n head r.first ≡ 0 → (tail_answer n head r.second ≡ 0 → ⊥)
      → published n head r ≡ record { tail = 0; answer = tail_answer n head r.second }
  second-refused = laws.published-second n head r

  pub none-handed-out : ((published n head r).answer ≡ 0 → ⊥) → (published n head r).tail ≡ 0
  none-handed-out = laws.no-tail n head r

-- the refusal is the one that a drain at that tail stops with, where the edition is one, whatever the table
pub refused-as-drained : (table : Bool) (ring : List ℕ) (head tail left room scratch : ℕ) → (tail_answer (length ring) head tail ≡ 0 → ⊥)
    → frame (asking_with true table) ring head tail left room scratch ≡ stop_at (tail_answer (length ring) head tail)
refused-as-drained = laws.refused-as-a-drain

-- ---- a reader that has taken bytes: then it stands at its drain's new tail, with one attribute set or a table, and the kernel's tail does not go back
module _ (asked : Asked) (judge : List ℕ → ℕ) (ring : List ℕ) (head : ℕ) (r : Readers) (budget : ℕ) (journal scratch : List ℕ) (hd : head < 2 ^ 64) where
  abbrev from : ℕ → End
  from tail = run (frame asked ring head) judge ring budget (start tail journal scratch)

  pub first-stands : r.first < 2 ^ 64 → (first_moved r (from r.first).state.bytes).first ≡ (from r.first).state.tail
  first-stands = laws.first-drain-moves asked judge ring head r budget journal scratch hd

  pub second-stands : r.second < 2 ^ 64 → (second_moved r (from r.second).state.bytes).second ≡ (from r.second).state.tail
  second-stands = laws.second-drain-moves asked judge ring head r budget journal scratch hd

pub first-moves-on : (head : ℕ) (r : Readers) (bytes : ℕ) → head < 2 ^ 64 → r.first < 2 ^ 64 → bytes ≤ distance head r.first
    → distance head (further_tail head (first_moved r bytes)) ≤ distance head (further_tail head r)
first-moves-on = laws.first-moves-on

pub second-moves-on : (head : ℕ) (r : Readers) (bytes : ℕ) → head < 2 ^ 64 → r.second < 2 ^ 64 → bytes ≤ distance head r.second
    → distance head (further_tail head (second_moved r bytes)) ≤ distance head (further_tail head r)
second-moves-on = laws.second-moves-on

-- ---- "Each reader's answers depend on ring, head, table, edition, its own tail, scratch, budget and journal and not on the other's tail": over any list of
-- turns, in which a reader drains or the table is replaced; with a table of events, and with one attribute set
module _ (limit : ℕ) (rows : List Known) (e : ℕ) (ts : List (Turn (List Event))) (es : List Event) where
  abbrev drained : List Event → Lent → ℕ → End
  drained = table_drain limit rows e

  pub not-on-the-others : (tail other other' : ℕ)
      → ((turns (List Event) drained es (readers_at tail other) ts).first ≡ (turns (List Event) drained es (readers_at tail other') ts).first)
      × ((turns (List Event) drained es (readers_at other tail) ts).second ≡ (turns (List Event) drained es (readers_at other' tail) ts).second)
  not-on-the-others tail other other' = (first-by-itself (List Event) drained ts es tail other other', second-by-itself (List Event) drained ts es tail other other')

  -- each is told what it would be told if the other were not there
  pub as-alone : (r : Readers)
      → ((turns (List Event) drained es r ts).first ≡ first_alone (List Event) drained es r.first ts)
      × ((turns (List Event) drained es r ts).second ≡ second_alone (List Event) drained es r.second ts)
  as-alone r = (first-as-alone (List Event) drained ts es r, second-as-alone (List Event) drained ts es r)

  -- "The table is replaced whole, between drains; both see the new one from their next drain"
  pub replaced-whole : (new : List Event) (r : Readers) → turns (List Event) drained es r (table-replaced new ∷ ts) ≡ turns (List Event) drained new r ts
  replaced-whole new r = both-see-it (List Event) drained ts es new r

module _ (rows : List Known) (e : ℕ) (ts : List (Turn Attributes)) (a : Attributes) where
  pub as-alone-one-set : (r : Readers)
      → ((turns Attributes (one_set_drain rows e) a r ts).first ≡ first_alone Attributes (one_set_drain rows e) a r.first ts)
      × ((turns Attributes (one_set_drain rows e) a r ts).second ≡ second_alone Attributes (one_set_drain rows e) a r.second ts)
  as-alone-one-set r = (first-as-alone Attributes (one_set_drain rows e) ts a r, second-as-alone Attributes (one_set_drain rows e) ts a r)

-- ---- "Demands 2 and 3 hold for each reader alone": demand 2 speaks of records and of no tail; demand 3 of any tail, and so of each reader's
pub demand-3-each : (e₁ e₂ : ℕ) → e₁ ≤ e₂ → allowed editions e₁ ≡ true → allowed editions e₂ ≡ true → (a : Attributes) → Words a
    → (r : Readers) (l m : Lent)
    → Demand3 editions e₁ e₂ a l.ring l.head r.first l.budget l.journal l.scratch
    × Demand3 editions e₁ e₂ a m.ring m.head r.second m.budget m.journal m.scratch
demand-3-each e₁ e₂ order is₁ is₂ a ws r l m = (
  older-drain e₁ e₂ order is₁ is₂ a ws l.ring l.head r.first l.budget l.journal l.scratch,
  older-drain e₁ e₂ order is₁ is₂ a ws m.ring m.head r.second m.budget m.journal m.scratch,
)

-- the same with the table that both share
pub demand-3-each-table : (limit e₁ e₂ : ℕ) → e₁ ≤ e₂ → allowed editions e₁ ≡ true → allowed editions e₂ ≡ true → (es : List Event) → EventWords es
    → (r : Readers) (l m : Lent)
    → Demand3Events limit editions e₁ e₂ es l.ring l.head r.first l.budget l.journal l.scratch
    × Demand3Events limit editions e₁ e₂ es m.ring m.head r.second m.budget m.journal m.scratch
demand-3-each-table limit e₁ e₂ order is₁ is₂ es ws r l m = (
  older-events limit e₁ e₂ order is₁ is₂ es ws l.ring l.head r.first l.budget l.journal l.scratch,
  older-events limit e₁ e₂ order is₁ is₂ es ws m.ring m.head r.second m.budget m.journal m.scratch,
)
