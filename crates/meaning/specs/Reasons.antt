-- The numbers of reasons, as the rows of document 01 and of the requests have them; 0 where nothing is refused; and what a reader of a ring is told of
-- its next record. Assumes nothing: these are definitions.
use Rattle.std.specs.Prelude.{ℕ, Result, Ok, Err, Option, Some, None, true, false}
use Rattle.meaning.specs.declared.Reason.{Reason}
use Rattle.meaning.specs.declared.Reason.TheVariants.{RingLength, UnknownEdition, ShortScratch, FarApart, Unaligned, RecordSize, NotWhole, BudgetSpent, JournalFull, BadTable, NameRoom, Overwritten, UnknownType, SampleBits, FormatBits, BuildIdForm, TwoWeights, BranchBits, UnknownIdentifier, NoIdentifier, TooShort, LeftOver, InnerRule, NameZero, NoRoom, OutsideSource, NoSuchRecord, FlagSet, DirtyName, UnknownVersion, BrokenEntry, Misplaced, BadOffer, SalvageRoom}
use Rattle.meaning.specs.States.{Cursor, Frame}
use Rattle.meaning.specs.declared.Found.{Found}
use Rattle.meaning.specs.declared.Spot.{Spot}

abbrev pub number_of : Reason → ℕ
number_of RingLength = 1
number_of UnknownEdition = 2
number_of ShortScratch = 3
number_of FarApart = 4
number_of Unaligned = 5
number_of RecordSize = 6
number_of NotWhole = 7
number_of BudgetSpent = 8
number_of JournalFull = 9
number_of BadTable = 11
number_of NameRoom = 12
number_of Overwritten = 13
number_of UnknownType = 20
number_of SampleBits = 21
number_of FormatBits = 22
number_of BuildIdForm = 23
number_of TwoWeights = 24
number_of BranchBits = 25
number_of UnknownIdentifier = 26
number_of NoIdentifier = 27
number_of TooShort = 30
number_of LeftOver = 31
number_of InnerRule = 32
number_of NameZero = 33
number_of NoRoom = 40
number_of OutsideSource = 41
number_of NoSuchRecord = 42
number_of FlagSet = 43
number_of DirtyName = 44
number_of UnknownVersion = 50
number_of BrokenEntry = 51
number_of Misplaced = 52
number_of BadOffer = 53
number_of SalvageRoom = 54

-- the number of an answer
abbrev pub answer_of : Result (Unit {0}) Reason → ℕ
answer_of (Ok _) = 0
answer_of (Err reason) = number_of reason

-- the next record; none at the head, which stops a reader with 0; or why a reader stops
abbrev pub frame_of : Result (Option Found) Reason → Frame
frame_of (Ok (Some f)) = record { go = true; stop = 0; place = f.place; size = f.size }
frame_of (Ok None) = record { go = false; stop = 0; place = 0; size = 0 }
frame_of (Err reason) = record { go = false; stop = number_of reason; place = 0; size = 0 }

-- the state of a walk that nothing has refused
abbrev pub cursor_of : Spot → Cursor
cursor_of s = record { at = s.at; n = s.n; old = s.old; why = 0 }

-- the state after a step from a spot: a refusal leaves place and counts as they were
abbrev pub stepped : Spot → Result Spot Reason → Cursor
stepped s (Ok next) = cursor_of next
stepped s (Err reason) = record { at = s.at; n = s.n; old = s.old; why = number_of reason }
