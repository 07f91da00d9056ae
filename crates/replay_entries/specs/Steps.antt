-- What an entry of a trace asks for, as the code tells it, beside the entry that stands there. Assumes nothing: these are definitions.
use Rattle.std.specs.Prelude.{◌≡◌, ℕ, ◌+◌, List, length, Result, Ok, Err}
use Rattle.meaning.specs.declared.Reason.{Reason}
use Rattle.meaning.specs.Bytes.{number_at}
use Rattle.entries.specs.Entries.{entry, entry_at}
use Rattle.replay.specs.Replay.{body_of}
use Rattle.replay_entries.specs.declared.Step.{Step}
use Rattle.replay_entries.specs.declared.Step.TheVariants.{Offer, Drain}

-- the answer alone
abbrev pub asked : Result Step Reason → Result (Unit {0}) Reason
asked (Ok _) = Ok tt
asked (Err reason) = Err reason

-- the bytes of the body
abbrev pub size_of : Step → ℕ
size_of (Offer r) = length r.now
size_of (Drain _) = 4

-- the entry that stands at a place asks for that: the record is its body where it stands in the trace, which lies at `from`
abbrev pub StepIs : List ℕ → ℕ × ℕ → ℕ → Step → Type 0
StepIs xs from at (Offer r) =
    (entry_at xs at ≡ entry 16 (at + 6) (length r.now)) × (r.now ≡ body_of xs (entry_at xs at)) × (r.ref_ptr ≡ (from.0, at + 6 + from.1))
StepIs xs from at (Drain budget) = (entry_at xs at ≡ entry 17 (at + 6) 4) × (budget ≡ number_at 4 xs (at + 6))
