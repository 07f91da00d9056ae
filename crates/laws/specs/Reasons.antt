-- No reason has the number 0, which says that nothing is refused. Assumes nothing.
use Rattle.std.specs.Prelude.{◌≡◌}
use Rattle.meaning.specs.declared.Reason.{Reason}
use Rattle.meaning.specs.declared.Reason.TheVariants.{RingLength, UnknownEdition, ShortScratch, FarApart, Unaligned, RecordSize, NotWhole, BudgetSpent, JournalFull, BadTable, NameRoom, Overwritten, UnknownType, SampleBits, FormatBits, BuildIdForm, TwoWeights, BranchBits, UnknownIdentifier, NoIdentifier, TooShort, LeftOver, InnerRule, NameZero, NoRoom, OutsideSource, NoSuchRecord, FlagSet, DirtyName, UnknownVersion, BrokenEntry, Misplaced, BadOffer, SalvageRoom}
use Rattle.meaning.specs.Reasons.{number_of}

pub number-some : (r : Reason) → number_of r ≡ 0 → ⊥
number-some RingLength e = cc
number-some UnknownEdition e = cc
number-some ShortScratch e = cc
number-some FarApart e = cc
number-some Unaligned e = cc
number-some RecordSize e = cc
number-some NotWhole e = cc
number-some BudgetSpent e = cc
number-some JournalFull e = cc
number-some BadTable e = cc
number-some NameRoom e = cc
number-some Overwritten e = cc
number-some UnknownType e = cc
number-some SampleBits e = cc
number-some FormatBits e = cc
number-some BuildIdForm e = cc
number-some TwoWeights e = cc
number-some BranchBits e = cc
number-some UnknownIdentifier e = cc
number-some NoIdentifier e = cc
number-some TooShort e = cc
number-some LeftOver e = cc
number-some InnerRule e = cc
number-some NameZero e = cc
number-some NoRoom e = cc
number-some OutsideSource e = cc
number-some NoSuchRecord e = cc
number-some FlagSet e = cc
number-some DirtyName e = cc
number-some UnknownVersion e = cc
number-some BrokenEntry e = cc
number-some Misplaced e = cc
number-some BadOffer e = cc
number-some SalvageRoom e = cc
