-- `write_puts::store2` meets its contract: the two writes are the two bytes of the number, the low one first. Assumes nothing.
use native.Mathlib.Omega.{arith}
use lib.ListN.{length-set}
use Prim.Native.Nat.{◌%◌}
use Rattle.write_puts.proofs.Stores.{put_two}
use Rattle.write_puts.proofs.store2.Goals as goal

pub bounds-d-at-2 : goal.bounds-d-at-2
bounds-d-at-2 c = let l = length-set c.args.d.now c.args.at (c.args.x % 256) in omega (arith, l, c.requires)

pub returns : goal.returns
returns c = put_two c.args.d.now c.args.at c.args.x c.requires
