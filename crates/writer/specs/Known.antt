-- 43, and the answers from 41 on, of a type that the edition knows, by the size that was measured. Not what must be believed: Answers says that they
-- are the writer's of `meaning`. Assumes nothing: these are definitions.
use Rattle.std.specs.Prelude.{ℕ, Bool, false, cond, not, List, length, drop, get_or, leb, eqb}
use Rattle.meaning.specs.declared.Attributes.{Attributes}
use Rattle.meaning.specs.Bytes.{put}
use Rattle.meaning.specs.Schema.{schema}
use Rattle.meaning.specs.Values.{any_beyond, slots_told, body_words}
use Rattle.table.specs.Flags.{flag_at}
use Rattle.writer_record.specs.Measures.{size_meant, bytes_meant}

-- "The writer refuses a value with the flag set with 43": any word but 0, of a type that has the flag
unfoldable pub flag_set : ℕ → List ℕ → Bool
flag_set kind ws = cond (eqb (flag_at kind) 0) false (not (eqb (get_or ws (flag_at kind) 0) 0))

abbrev pub passes : List ℕ → List ℕ → Attributes → ℕ → ℕ → Bool
passes src ws a kind misc = any_beyond src (schema kind misc a) (slots_told (schema kind misc a) (drop body_words ws) 0 0)

unfoldable pub known_answer : List ℕ → List ℕ → Attributes → ℕ → ℕ → ℕ → ℕ
known_answer src ws a kind misc space =
    cond (passes src ws a kind misc) 41 (cond (eqb (size_meant src ws a kind misc) 0) 42 (cond (leb (size_meant src ws a kind misc) space) 0 40))

unfoldable pub known_buffer : List ℕ → List ℕ → Attributes → ℕ → ℕ → List ℕ → List ℕ
known_buffer src ws a kind misc buffer =
    cond (eqb (known_answer src ws a kind misc (length buffer)) 0) (put buffer 0 (bytes_meant src ws a kind misc)) buffer
