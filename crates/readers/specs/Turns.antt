-- Two readers in turn, over one ring and one table: "Each reader's answers depend on ring, head, table, edition, its own tail, scratch, budget and journal
-- and not on the other's tail. The table is replaced whole, between drains; both see the new one from their next drain." For any drain: a function of the table,
-- of what is lent, and of one tail. Assumes nothing.
use Rattle.std.specs.Prelude.{◌≡◌, ℕ, List, [], ◌∷◌}
use Rattle.std.proofs.Math.Path.{refl, ap}
use Rattle.std.proofs.Common.{sym, ◌∙◌}
use Rattle.meaning.specs.declared.Attributes.{Attributes}
use Rattle.meaning.specs.declared.Event.{Event}
use Rattle.meaning.specs.declared.Known.{Known}
use Rattle.meaning.specs.Drain.{End, drain}
use Rattle.meaning.specs.Events.{drain_events}
use Rattle.readers.specs.declared.Readers.{Readers}
use Rattle.readers.specs.Readers.{readers_at}

-- what the ring holds at a drain, the head then, and what its reader lends
pub record Lent : Type 0 where
  pub ring : List ℕ
  pub head : ℕ
  pub budget : ℕ
  pub journal : List ℕ
  pub scratch : List ℕ

-- what happens, one thing after the other
pub data Turn (T : Type 0) : Type 0 where
  first-drains : Lent → Turn T
  second-drains : Lent → Turn T
  table-replaced : T → Turn T

-- what each reader was told, drain by drain
pub record BothTold : Type 0 where
  pub first : List End
  pub second : List End

module _ (T : Type 0) (drain : T → Lent → ℕ → End) where
  unfoldable pub turns : T → Readers → List (Turn T) → BothTold
  turns t r [] = record { first = []; second = [] }
  turns t r (first-drains l ∷ ts) =
      record {
        first = drain t l r.first ∷ (turns t (readers_at (drain t l r.first).state.tail r.second) ts).first;
        second = (turns t (readers_at (drain t l r.first).state.tail r.second) ts).second;
      }
  turns t r (second-drains l ∷ ts) =
      record {
        first = (turns t (readers_at r.first (drain t l r.second).state.tail) ts).first;
        second = drain t l r.second ∷ (turns t (readers_at r.first (drain t l r.second).state.tail) ts).second;
      }
  turns t r (table-replaced u ∷ ts) = turns u r ts

  -- a reader alone: the other's drains are not there
  unfoldable pub first_alone : T → ℕ → List (Turn T) → List End
  first_alone t tail [] = []
  first_alone t tail (first-drains l ∷ ts) = drain t l tail ∷ first_alone t (drain t l tail).state.tail ts
  first_alone t tail (second-drains l ∷ ts) = first_alone t tail ts
  first_alone t tail (table-replaced u ∷ ts) = first_alone u tail ts

  unfoldable pub second_alone : T → ℕ → List (Turn T) → List End
  second_alone t tail [] = []
  second_alone t tail (first-drains l ∷ ts) = second_alone t tail ts
  second_alone t tail (second-drains l ∷ ts) = drain t l tail ∷ second_alone t (drain t l tail).state.tail ts
  second_alone t tail (table-replaced u ∷ ts) = second_alone u tail ts

  -- each is told what it would be told alone: the other's tail is no argument
  pub first-as-alone : (ts : List (Turn T)) (t : T) (r : Readers) → (turns t r ts).first ≡ first_alone t r.first ts
  unfolding turns first_alone
  first-as-alone [] t r = refl
  first-as-alone (first-drains l ∷ ts) t r =
      ap (λ (x : List End). drain t l r.first ∷ x) (first-as-alone ts t (readers_at (drain t l r.first).state.tail r.second))
  first-as-alone (second-drains l ∷ ts) t r = first-as-alone ts t (readers_at r.first (drain t l r.second).state.tail)
  first-as-alone (table-replaced u ∷ ts) t r = first-as-alone ts u r

  pub second-as-alone : (ts : List (Turn T)) (t : T) (r : Readers) → (turns t r ts).second ≡ second_alone t r.second ts
  unfolding turns second_alone
  second-as-alone [] t r = refl
  second-as-alone (first-drains l ∷ ts) t r = second-as-alone ts t (readers_at (drain t l r.first).state.tail r.second)
  second-as-alone (second-drains l ∷ ts) t r =
      ap (λ (x : List End). drain t l r.second ∷ x) (second-as-alone ts t (readers_at r.first (drain t l r.second).state.tail))
  second-as-alone (table-replaced u ∷ ts) t r = second-as-alone ts u r

  -- "both see the new one from their next drain"
  pub both-see-it : (ts : List (Turn T)) (t u : T) (r : Readers) → turns t r (table-replaced u ∷ ts) ≡ turns u r ts
  unfolding turns
  both-see-it ts t u r = refl

-- the drain with one attribute set, and the drain with a table of events, as such drains
abbrev pub one_set_drain : List Known → ℕ → Attributes → Lent → ℕ → End
one_set_drain rows e a l tail = drain rows e a l.ring l.head tail l.budget l.journal l.scratch

abbrev pub table_drain : ℕ → List Known → ℕ → List Event → Lent → ℕ → End
table_drain limit rows e es l tail = drain_events limit rows e es l.ring l.head tail l.budget l.journal l.scratch
