-- Two readers of one ring, in M-105's words: "each with its own tail", and "the tail handed to the kernel". Assumes nothing: these are definitions.
use Rattle.std.specs.Prelude.{ℕ, ◌+◌, ◌%◌, ◌^◌, cond, not, List, [], ◌∷◌, ◌==◌, nat_lt, Result, Ok, Err}
use Rattle.meaning.specs.declared.Reason.{Reason}
use Rattle.meaning.specs.Reasons.{number_of}
use Rattle.meaning.specs.Refusals.{Refusal, refusal, first, or_else}
use Rattle.meaning.specs.Ring.{length_allowed, distance}
use Rattle.readers.specs.declared.Readers.{Readers}
use Rattle.readers.specs.declared.Published.{Published}

abbrev pub readers_at : ℕ → ℕ → Readers
readers_at a b = record { first = a; second = b }

-- one reader has taken so many bytes
abbrev pub first_moved : Readers → ℕ → Readers
first_moved r bytes = record { first = (r.first + bytes) % 2 ^ 64; second = r.second }

abbrev pub second_moved : Readers → ℕ → Readers
second_moved r bytes = record { first = r.first; second = (r.second + bytes) % 2 ^ 64 }

-- a tail "refused by 1, 4 or 5", by a ring length n and a head: the rows of a call but 2 and 11, which ask nothing of the tail
abbrev pub tail_rows : ℕ → ℕ → ℕ → List Refusal
tail_rows n head tail =
    refusal (not (length_allowed n)) 1
    ∷ refusal (nat_lt n (distance head tail)) 4
    ∷ refusal (not (head % 8 == 0)) 5
    ∷ refusal (not (tail % 8 == 0)) 5
    ∷ []

unfoldable pub tail_answer : ℕ → ℕ → ℕ → ℕ
tail_answer n head tail = first (tail_rows n head tail) 0

-- "if either is refused .., that refusal is the answer, the first reader's if both are"
unfoldable pub publish_answer : ℕ → ℕ → Readers → ℕ
publish_answer n head r = or_else (tail_answer n head r.first) (tail_answer n head r.second)

-- "the one at the greater distance from head"
unfoldable pub further_tail : ℕ → Readers → ℕ
further_tail head r = cond (nat_lt (distance head r.first) (distance head r.second)) r.second r.first

-- "and no tail is handed out": it is told as 0
unfoldable pub published : ℕ → ℕ → Readers → Published
published n head r = record { tail = cond (publish_answer n head r == 0) (further_tail head r) 0; answer = publish_answer n head r }

-- a tail that is handed out, or the refusal that is told in its place
abbrev pub published_of : Result ℕ Reason → Published
published_of (Ok tail) = record { tail = tail; answer = 0 }
published_of (Err reason) = record { tail = 0; answer = number_of reason }
