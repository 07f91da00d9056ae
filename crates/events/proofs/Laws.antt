-- A test of each event, and of each and the next, as row 11 has them. Assumes nothing.
use Rattle.std.proofs.Common.{◌≡◌, refl, ap, Bool, ◌&&◌, List, [], ◌∷◌, drop, ltb}
use Rattle.std.specs.List.{list_all, zip}
use Rattle.meaning.specs.declared.Event.{Event}
use Rattle.meaning.specs.Events.{identifiers, marked, all_marked}
use Rattle.event_laws.specs.Rising.{rises}

-- each event is marked
pub all-marked : (es : List Event) → list_all (λ (v : Event). marked v) es ≡ all_marked es
unfolding all_marked
all-marked [] = refl
all-marked (v ∷ vs) = ap (λ (rest : Bool). marked v && rest) (all-marked vs)

-- each event and the next
pub all-rise : (es : List Event) → list_all (λ (pair : Event × Event). ltb pair.0.identifier pair.1.identifier) (zip es (drop 1 es)) ≡ rises (identifiers es)
unfolding rises
all-rise [] = refl
all-rise (v ∷ []) = refl
all-rise (v ∷ next ∷ vs) = ap (λ (rest : Bool). ltb v.identifier next.identifier && rest) (all-rise (next ∷ vs))
