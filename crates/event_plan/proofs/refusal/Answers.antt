-- Of the filled slots without an event all but that of an edition without bit 16 are of an identifier that is not in the table.
use Rattle.std.specs.Prelude.{◌≡◌, true, refl}
use Rattle.std.proofs.Common.{sym, ap}
use Rattle.laws.specs.Bytes.{apart}
use Rattle.slots.specs.declared.State.{State}
use Rattle.slots.specs.declared.State.TheVariants.{Empty, Indexed, InTable, UnknownBit, Absent}
use Rattle.slots.specs.Slots.{is_filled, refused_by}
use Rattle.event_plan.proofs.refusal.Goals as goal

-- a filled slot that is neither the one nor the other
absent : (state : State) → is_filled state ≡ true → (state ≡ InTable → ⊥) → (state ≡ UnknownBit → ⊥) → 26 ≡ refused_by state
absent Empty held a b = absurd (apart held)
absent Indexed held a b = absurd (apart held)
absent InTable held a b = absurd (a refl)
absent UnknownBit held a b = absurd (b refl)
absent Absent held a b = refl

pub returns-in-UnknownBit : goal.returns-in-UnknownBit
returns-in-UnknownBit c = sym (ap refused_by c.in-UnknownBit.is)

pub returns-in_default : goal.returns-in_default
returns-in_default c = absent _ c.requires.filled c.requires.no_event c.in_default.not-UnknownBit
