-- What is noted so far is right under every edition that knows bit 16; the event at hand is the first with its identifier, since no two are equal.
use mathlib.Core.Path.{◌≡◌, refl, sym, ◌∙◌, subst}
use Prim.Native.Nat.{ℕ, ◌-◌, ◌≤◌, ◌<◌}
use native.Mathlib.Omega.{arith}
use lib.Bits.{bit_and}
use lib.ListN.{length, length-set}
use borrow.Author.Rules.{rules, scaled_Fits}
use Rattle.meaning.specs.declared.Known.{Known}
use Rattle.meaning.specs.Events.{event_at}
use Rattle.slots.specs.Slots.{Memo, slot-inside, memo-entered}
use Rattle.held_slots.proofs.enter_rows.Goals as goal

pub returns-then-known-lt17 : goal.returns-then-known-lt17
returns-then-known-lt17 c = record { memo_2 = c.requires.memo; memo_len_unchanged = refl }

pub loop-i-init : goal.loop-i-init
loop-i-init c = ((λ k b w. w), refl, c.requires.in_bounds)

pub offset_bounds-memo-h : goal.offset_bounds-memo-h
offset_bounds-memo-h c =
    let l = c.loop-i in
    let id : ℕ = (event_at c.args.events.now l.i).identifier in
    scaled_Fits (bit_and id (length l.memo - 1)) (length l.memo) 64 (slot-inside id (length l.memo) l.invariant.2) (search rules)

pub bounds-memo-h : goal.bounds-memo-h
bounds-memo-h c = search (rules, slot-inside)

pub loop-i-preserved : goal.loop-i-preserved
loop-i-preserved c =
    let l = c.loop-i in (
      λ k b w. memo-entered k c.args.events.now l.memo _ l.i _ (l.invariant.0 k b w) b c.requires.events_value c.loop-i-test.true refl refl refl,
      length-set l.memo _ _ ∙ l.invariant.1,
      subst (λ (n : ℕ). 1 ≤ n) (sym (length-set l.memo _ _)) l.invariant.2,
    )

pub shape_of-memo : goal.shape_of-memo
shape_of-memo c = c.loop-i.invariant.1

pub returns : goal.returns
returns c =
    let l = c.loop-i in record { memo_2 = l.invariant.0 c.args.known (omega (arith, c.if-known-lt17.false)) c.requires.memo; memo_len_unchanged = l.invariant.1 }
