use Rattle.std.specs.Prelude.{◌≡◌, ◌++◌, drop}
use Rattle.settings.specs.Lent.{lent_rows}
use Rattle.settings.specs.Versions.{row_of}
use Rattle.settings.specs.Reading.{rows_of}
use Rattle.settings_rows.proofs.Events.fill_rows.Given as goal

abbrev pub invariant-loop-i : goal.invariant-loop-i
invariant-loop-i l = lent_rows l.events ≡ rows_of (row_of l.self.version) l.self.bytes.now l.i ++ drop l.i (lent_rows l.initial.events)
