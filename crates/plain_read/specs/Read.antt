-- What the reader of a record's bytes tells, as the definition has it: the answer 0 and the words, or the refusal and zeros. Assumes nothing: this is a
-- definition.
use Rattle.std.specs.Prelude.{ℕ, List, Result, Ok, Err}
use Rattle.meaning.specs.States.{Reading}
use Rattle.meaning.specs.declared.Reason.{Reason}
use Rattle.meaning.specs.Bytes.{zeros}
use Rattle.meaning.specs.Reasons.{number_of}
use Rattle.meaning.specs.Values.{value_words}

abbrev pub reading_of : Result (List ℕ) Reason → Reading
reading_of (Ok words) = record { answer = 0; words = words }
reading_of (Err reason) = record { answer = number_of reason; words = zeros value_words }
