-- `write_puts::store8` meets its contract: two halves. Assumes nothing.
use Prim.Native.Nat.{◌/◌}
use native.Mathlib.Omega.{arith}
use Rattle.laws.specs.Bytes.{length-spell}
use Rattle.meaning.specs.Bytes.{spell}
use Rattle.write_puts.proofs.Stores.{two-puts, halves8}
use Rattle.write_puts.proofs.store8.Goals as goal

pub returns : goal.returns
returns c =
    let x = c.args.x in
    let l = length-spell 4 (x / 4294967296) in
    two-puts c.args.d.now _ _ c.args.at 4 (spell 4 x) (spell 4 (x / 4294967296)) (spell 8 x) (length-spell 4 x) c.store4.ensures c.store4-2.ensures (omega (arith, l, c.requires)) (halves8 x)
