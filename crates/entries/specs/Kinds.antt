-- The numbers of the kinds of entries. Assumes nothing: these are definitions.
use Rattle.std.specs.Prelude.{ℕ}
use Rattle.entries.specs.declared.EntryKind.{EntryKind}
use Rattle.entries.specs.declared.EntryKind.TheVariants.{Version, Event, Last, Offer, Drain, Hole}

abbrev pub entry_kind_number : EntryKind → ℕ
entry_kind_number Version = 1
entry_kind_number Event = 2
entry_kind_number Last = 3
entry_kind_number Offer = 16
entry_kind_number Drain = 17
entry_kind_number Hole = 32
