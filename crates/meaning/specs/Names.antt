-- "Name copy, in this order: 41 if place plus count, as plain numbers, passes the record's end; 12 if the name and one zero don't fit the
-- buffer. Refused: buffer unchanged. Accepted: name, zero, the rest unchanged."
-- Assumes nothing: these are definitions.
use Rattle.std.specs.Prelude.{ℕ, ◌+◌, cond, List, [], ◌∷◌, ◌++◌, ltb, eqb, length, take, drop}
use Rattle.meaning.specs.Bytes.{put}
use Rattle.meaning.specs.Refusals.{refusal, first}

unfoldable pub name_answer : List ℕ → ℕ → ℕ → List ℕ → ℕ
name_answer xs place count buffer =
    first (refusal (ltb (length xs) (place + count)) 41 ∷ refusal (ltb (length buffer) (count + 1)) 12 ∷ []) 0

unfoldable pub name_buffer : List ℕ → ℕ → ℕ → List ℕ → List ℕ
name_buffer xs place count buffer =
    cond (eqb (name_answer xs place count buffer) 0) (put buffer 0 (take count (drop place xs) ++ (0 ∷ []))) buffer
