use Rattle.std.proofs.Common.{◌≡◌, take}
use Rattle.settings.specs.Lent.{lent_rows}
use Rattle.settings.specs.Versions.{row_of}
use Rattle.meaning.specs.Bytes.{put}
use Rattle.settings.specs.Writing.{rows_bytes}
use Rattle.settings_put.proofs.put_rows.Given as goal

abbrev pub invariant-loop-i : goal.invariant-loop-i
invariant-loop-i l = l.d ≡ put l.initial.d 8 (rows_bytes (row_of l.v) 0 (take l.i (lent_rows l.events)))
