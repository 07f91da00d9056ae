-- `write_puts::copy` meets its contract: the part is what stands at the place. Assumes nothing.
use mathlib.Core.Path.{◌≡◌, ap, ◌∙◌}
use Prim.Native.Nat.{ℕ, ◌+◌, ◌-◌}
use native.Mathlib.Omega.{arith}
use lib.ListN.{take, drop}
use Rattle.meaning.specs.Bytes.{put}
use Rattle.write_puts.proofs.copy.Goals as goal

pub returns : goal.returns
returns c = c.copy_at.ensures ∙ ap (λ (n : ℕ). put c.args.buffer.now c.args.at (take n (drop c.args.place c.args.source.now))) (let z : c.args.place + c.args.many - c.args.place ≡ c.args.many = omega arith in z)
