use Rattle.std.specs.Prelude.{◌≡◌, ◌++◌, drop}
use Rattle.settings.specs.Versions.{row_of}
use Rattle.settings.specs.Reading.{rows_of}
use Rattle.meaning.specs.Events.{identifiers, events_of, all_marked}
use Rattle.settings_rows.proofs.Events.list.Given as goal

abbrev pub invariant-loop-i : goal.invariant-loop-i
invariant-loop-i l =
    (l.ids ≡ identifiers (events_of (rows_of (row_of l.self.version) l.self.bytes.now l.i)) ++ drop l.i l.initial.ids)
    × (l.ok ≡ all_marked (events_of (rows_of (row_of l.self.version) l.self.bytes.now l.i)))
