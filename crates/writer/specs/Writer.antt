-- The writer, of words that a caller lends: "2" before anything else; then 42 for fewer words than a value has, which tell no record and have no type
-- that could be asked; then as the writer of a value answers.
-- Assumes nothing: these are definitions.
use Rattle.std.specs.Prelude.{ℕ, cond, List, length, take, leb}
use Rattle.meaning.specs.declared.Attributes.{Attributes}
use Rattle.meaning.specs.Editions.{editions, allowed}
use Rattle.meaning.specs.Values.{value_words, write_answer, write_buffer}

-- the answer, of words, a source and a room in bytes; and the buffer after it
unfoldable pub write_words_answer : ℕ → Attributes → List ℕ → List ℕ → ℕ → ℕ
write_words_answer e a src ws space =
    cond (allowed editions e) (cond (leb value_words (length ws)) (write_answer editions e a src (take value_words ws) space) 42) 2

unfoldable pub write_words_buffer : ℕ → Attributes → List ℕ → List ℕ → List ℕ → List ℕ
write_words_buffer e a src ws buffer = cond (leb value_words (length ws)) (write_buffer editions e a src (take value_words ws) buffer) buffer
