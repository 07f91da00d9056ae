-- A lent table of events as the rows of words that a store speaks of: each event's seven words, in the order of the struct. Assumes nothing.
use Rattle.std.specs.Prelude.{◌≡◌, refl, ℕ, List, [], ◌∷◌, map, length}
use Rattle.std.proofs.Common.{sym, ap, ◌∙◌}
use Rattle.std.proofs.lemmas.List.{length-map}
use Rattle.meaning.specs.declared.Event.{Event}
use Rattle.meaning.specs.Events.{event_of, events_of}

abbrev pub words_of : Event → List ℕ
words_of v = v.identifier ∷ v.sample ∷ v.format ∷ v.user ∷ v.interrupt ∷ v.branch ∷ v.all ∷ []

abbrev pub lent_rows : List Event → List (List ℕ)
lent_rows es = map words_of es

pub lent-length : (es : List Event) → length (lent_rows es) ≡ length es
lent-length es = length-map es words_of

-- no event is lost: the events of those rows are the table
pub same-events : (es : List Event) → events_of (lent_rows es) ≡ es
unfolding event_of
same-events [] = refl
same-events (v ∷ vs) = ap (λ (rest : List Event). v ∷ rest) (same-events vs)

-- so tables of the same rows are the same
pub same-table : (es fs : List Event) → lent_rows es ≡ lent_rows fs → es ≡ fs
same-table es fs e = sym (same-events es) ∙ ap events_of e ∙ same-events fs
