-- The bytes so far are zeros.
use Rattle.std.proofs.Common.{◌≡◌, length, take}
use Rattle.meaning.specs.Bytes.{zeros}
use Rattle.put.proofs.zero_at.Given as goal

abbrev pub invariant-loop-byte : goal.invariant-loop-byte
invariant-loop-byte l = (length l.byte-items ≡ l.k) × (take l.byte-index l.byte-items ≡ zeros l.byte-index)
