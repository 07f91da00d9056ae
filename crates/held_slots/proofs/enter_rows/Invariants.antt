use mathlib.Core.Path.{◌≡◌, refl, sym, ◌∙◌, subst}
use mathlib.Core.List.{[]}
use Prim.Native.Nat.{ℕ, ◌-◌, ◌≤◌, ◌<◌}
use native.Mathlib.Omega.{arith}
use lib.Bits.{bit_and}
use lib.ListN.{length, get_or, length-set}
use borrow.Author.Rules.{rules, scaled_Fits}
use Rattle.meaning.specs.declared.Known.{Known}
use Rattle.slots.specs.Slots.{Memo, slot-inside, memo-entered}
use Rattle.held_slots.proofs.enter_rows.Given as goal

abbrev pub invariant-loop-i : goal.invariant-loop-i
invariant-loop-i l = ((k : Known) → 16 < k.samples → Memo k l.events l.initial.memo → Memo k l.events l.memo) × (length l.memo ≡ length l.initial.memo) × (1 ≤ length l.memo)
