-- `comparing::differing` meets its contract: what the loop over fields says of a pair is what its fields say.
use Rattle.std.proofs.Common.{◌≡◌, refl, subst, Bool, ℕ, List}
use Rattle.meaning.specs.Editions.{editions, known}
use Rattle.compare.specs.Fields.{fields}
use Rattle.compare.specs.Compared.{alike, agree, event_reads}
use Rattle.std.specs.Prelude.{true, false}
use Rattle.meaning.specs.declared.Event.{Event}
use Rattle.pair_fields.specs.declared.State.{State}
use Rattle.pair_fields.specs.declared.State.TheVariants.{Alike, Differs}
use Rattle.pair_fields.specs.Inner.{FieldsStand}
use Rattle.pair_fields.specs.States.{state_of}
use Rattle.pair_fields.specs.Fields.{stands-ended, stands-other}
use Rattle.comparing.proofs.differing.Goals as goal

module _ (e : ℕ) (es : List Event) (x y : List ℕ) where
  abbrev B : Bool
  B = alike (fields (event_reads (known editions e) es) x) (fields (event_reads (known editions e) es) y)

  abbrev N : ℕ
  N = agree (fields (event_reads (known editions e) es) x) (fields (event_reads (known editions e) es) y)

  abbrev Stands : State → Type 0
  Stands s = FieldsStand B N x y (state_of s)

  ended : (s : State) → s ≡ Alike → Stands s → B ≡ true
  ended s i h = stands-ended x y B N (state_of Alike) (subst Stands i h) refl refl

  other : (s : State) (k : ℕ) → s ≡ Differs k → Stands s → (B ≡ false) × (N ≡ k)
  other s k i h = stands-other x y B N (state_of (Differs k)) (subst Stands i h) refl

pub returns-in-Alike : goal.returns-in-Alike
returns-in-Alike c = let a = c.args in ended a.e a.events.now a.x.now a.y.now c.loop-state.state c.in-Alike.is c.loop-state.invariant

pub returns-in-Differs : goal.returns-in-Differs
returns-in-Differs c = let a = c.args in other a.e a.events.now a.x.now a.y.now c.loop-state.state c.in-Differs.k c.in-Differs.is c.loop-state.invariant
