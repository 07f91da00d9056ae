-- "Trailer, read values and registers share one fact over the count": eight bytes for each bit of a mask that is set. The fact is `eights-ones` of
-- laws/Counting; the three are its cases. Assumes nothing.
use Rattle.std.specs.Prelude.{◌≡◌, true, false, cond, not, ◌&&◌, ℕ, ◌+◌, ◌-◌, ◌*◌, ◌^◌, eqb}
use Rattle.std.specs.Int.Bits.{bit_and}
use Rattle.meaning.specs.declared.Attributes.{Attributes}
use Rattle.meaning.specs.declared.Shape.TheVariants.{Registers}
use Rattle.meaning.specs.Bytes.{bit, ones}
use Rattle.meaning.specs.Items.{cursor, span}
use Rattle.meaning.specs.Schema.{trailer, group_bytes, read_values}
use Rattle.meaning.specs.Records.{room}
use Rattle.laws.specs.Counting.{bits_from, eights, eights-ones, trailer-count, read_count, entry-count, register-bytes}

-- the one fact: 8 times the ones of a masked number is 8 for each bit of the mask that it has
pub one-fact : (x m : ℕ) → 8 * ones 64 (bit_and x m) ≡ eights x (bits_from 64 0 m)
one-fact = eights-ones

-- "The trailer is 8 bytes for each selected bit of 66,246"
pub trailer-bytes : (kind : ℕ) (a : Attributes) → room (trailer kind a) ≡ cond (a.all && not (eqb kind 9)) (8 * ones 64 (bit_and a.sample 66246)) 0
trailer-bytes = trailer-count

-- read values without bit 3: the value, and a word for each bit of 23 (0, 1, 2 and 4). An entry of a group: a value, and a word for each bit of 20
-- (2 and 4)
pub read-bytes : (a : Attributes) → bit a.format 3 ≡ false → room (read_values a true) ≡ 8 + 8 * ones 64 (bit_and a.format 23)
read-bytes = read_count

pub entry-bytes : (format : ℕ) → group_bytes format ≡ 8 + 8 * ones 64 (bit_and format 20)
entry-bytes = entry-count

-- "as many registers as the mask has ones": each of 64 bits counts
pub register-bytes-of : (at old mask r : ℕ) → span Registers (cursor at (ones 64 mask) old 0) r ≡ eights mask (bits_from 64 0 (2 ^ 64 - 1))
register-bytes-of = register-bytes
