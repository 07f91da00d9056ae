-- `fills::values` meets its contract: as many entries as the count says, of the bytes that the read format gives them. Assumes nothing.
use mathlib.Core.Path.{sym, ap}
use mathlib.Core.List.{[], ◌∷◌}
use Prim.Native.Nat.{ℕ}
use Rattle.meaning.specs.declared.Shape.TheVariants.{Times}
use Rattle.meaning.specs.Schema.{item}
use Rattle.fills.specs.Chains.{ready-as, filling-as}
use Rattle.fills.proofs.values.Goals as goal

pub times-requires : goal.times-requires
times-requires c = ready-as (ap (λ (k : ℕ). item c.args.on (Times k) ∷ []) (sym c.group_bytes.ensures.value)) c.requires

pub returns : goal.returns
returns c = filling-as (ap (λ (k : ℕ). item c.args.on (Times k) ∷ []) c.group_bytes.ensures.value) c.times.ensures
