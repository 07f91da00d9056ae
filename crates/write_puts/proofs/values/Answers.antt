-- `write_puts::values` meets its contract: by the bytes of an entry. Assumes nothing.
use mathlib.Core.Path.{sym, ap}
use mathlib.Core.List.{[], ◌∷◌}
use Prim.Native.Nat.{ℕ}
use Rattle.meaning.specs.declared.Shape.TheVariants.{Times}
use Rattle.meaning.specs.Schema.{item}
use Rattle.write_puts.specs.Puts.{ready-as, placed-as}
use Rattle.write_puts.proofs.values.Goals as goal

pub times-requires : goal.times-requires
times-requires c = (ready-as (ap (λ (k : ℕ). item c.args.on (Times k) ∷ []) (sym c.group_bytes.ensures.value)) c.requires.0, c.requires.1)

pub returns : goal.returns
returns c = placed-as (ap (λ (k : ℕ). item c.args.on (Times k) ∷ []) c.group_bytes.ensures.value) c.times.ensures
