-- `write_puts::store4` meets its contract: two halves. Assumes nothing.
use Prim.Native.Nat.{◌/◌}
use native.Mathlib.Omega.{arith}
use Rattle.laws.specs.Bytes.{length-spell}
use Rattle.meaning.specs.Bytes.{spell}
use Rattle.write_puts.proofs.Stores.{two-puts, halves4}
use Rattle.write_puts.proofs.store4.Goals as goal

pub returns : goal.returns
returns c =
    let x = c.args.x in
    let l = length-spell 2 (x / 65536) in
    two-puts c.args.d.now _ _ c.args.at 2 (spell 2 x) (spell 2 (x / 65536)) (spell 4 x) (length-spell 2 x) c.store2.ensures c.store2-2.ensures (omega (arith, l, c.requires)) (halves4 x)
