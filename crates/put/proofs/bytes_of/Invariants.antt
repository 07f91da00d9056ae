-- The bytes that stand are those of the number, and the others are those of what is left of it.
use Rattle.std.proofs.Common.{◌≡◌, ◌-◌, ◌++◌, length, take}
use Rattle.meaning.specs.Bytes.{spell}
use Rattle.put.proofs.bytes_of.Given as goal

abbrev pub invariant-loop-byte : goal.invariant-loop-byte
invariant-loop-byte g l =
    (length l.byte-items ≡ g.row.N) × (spell g.row.N l.x ≡ take l.byte-index l.byte-items ++ spell (g.row.N - l.byte-index) l.rest)
