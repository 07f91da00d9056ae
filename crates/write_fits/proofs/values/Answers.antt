-- `write_fits::values` meets its contract: by the bytes of an entry. Assumes nothing.
use mathlib.Core.Path.{ap}
use mathlib.Core.List.{[], ◌∷◌}
use Prim.Native.Nat.{ℕ}
use Rattle.meaning.specs.declared.Shape.TheVariants.{Times}
use Rattle.meaning.specs.Schema.{item}
use Rattle.write_fits.specs.Steps.{tried-as}
use Rattle.write_fits.proofs.values.Goals as goal

pub returns : goal.returns
returns c = tried-as (ap (λ (k : ℕ). item c.args.on (Times k) ∷ []) c.group_bytes.ensures.value) c.times.ensures
