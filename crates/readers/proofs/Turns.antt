-- Two readers in turn: another tail of the other reader changes nothing. Assumes nothing.
use Rattle.std.specs.Prelude.{◌≡◌, ℕ, List}
use Rattle.std.proofs.Common.{sym, ◌∙◌}
use Rattle.meaning.specs.Drain.{End}
use Rattle.readers.specs.Readers.{readers_at}
use Rattle.readers.specs.Turns.{Lent, Turn, turns, first-as-alone, second-as-alone}

module _ (T : Type 0) (drain : T → Lent → ℕ → End) where
  -- so another tail of the other reader changes nothing
  pub first-by-itself : (ts : List (Turn T)) (t : T) (tail other other' : ℕ) → (turns T drain t (readers_at tail other) ts).first ≡ (turns T drain t (readers_at tail other') ts).first
  first-by-itself ts t tail other other' = first-as-alone T drain ts t (readers_at tail other) ∙ sym (first-as-alone T drain ts t (readers_at tail other'))

  pub second-by-itself : (ts : List (Turn T)) (t : T) (tail other other' : ℕ) → (turns T drain t (readers_at other tail) ts).second ≡ (turns T drain t (readers_at other' tail) ts).second
  second-by-itself ts t tail other other' = second-as-alone T drain ts t (readers_at other tail) ∙ sym (second-as-alone T drain ts t (readers_at other' tail))
