-- What was counted and what stands from here on are the whole count; an event in its turn takes at least a byte, so the walk ends.
use mathlib.Core.Path.{◌≡◌, refl, sym, ap, ◌∙◌}
use mathlib.Core.Bool.{true}
use Prim.Native.Nat.{ℕ, ◌+◌, ◌-◌, ◌≤◌}
use native.Mathlib.Omega.{arith}
use lib.ListN.{length}
use Rattle.settings.specs.Versions.{row_of, row_length, place_of}
use Rattle.settings.specs.Reading.{in_turn, turns_from, count_of}
use Rattle.settings.proofs.Back.{place-most, turns-end}
use Rattle.settings.proofs.Steps.{turns_more, turn-room, place-next}
use Rattle.settings_walk.proofs.count_events.Goals as goal

pub overflow_add-size : goal.overflow_add-size
overflow_add-size c = omega (arith, c.args.v.high)

pub loop-v-init : goal.loop-v-init
unfolding place_of
loop-v-init c =
    let xs = c.args.bytes.now in
    let z : length xs - 0 ≡ length xs = omega arith in
    (ap (λ (k : ℕ). turns_from (row_of c.args.v) xs k 0) z, refl, refl)

pub in_turn-requires : goal.in_turn-requires
in_turn-requires c = c.loop-v.invariant.1

pub overflow_add-n : goal.overflow_add-n
overflow_add-n c = omega (arith, turn-room (row_of c.args.v) c.args.bytes.now c.loop-v.n (sym c.in_turn.ensures ∙ c.loop-v-test.true), place-most (row_of c.args.v) c.loop-v.n, c.well_formed)

pub overflow_add-at : goal.overflow_add-at
overflow_add-at c = omega (arith, turn-room (row_of c.args.v) c.args.bytes.now c.loop-v.n (sym c.in_turn.ensures ∙ c.loop-v-test.true), c.loop-v.invariant.1, c.loop-v.invariant.2, c.well_formed)

pub loop-v-smaller : goal.loop-v-smaller
loop-v-smaller c = omega (arith, turn-room (row_of c.args.v) c.args.bytes.now c.loop-v.n (sym c.in_turn.ensures ∙ c.loop-v-test.true), place-most (row_of c.args.v) c.loop-v.n)

pub loop-v-preserved : goal.loop-v-preserved
loop-v-preserved c =
    let a = c.args in
    let l = c.loop-v in
    let xs = a.bytes.now in (
      sym (turns_more (row_of a.v) xs l.n (omega (arith, turn-room (row_of c.args.v) c.args.bytes.now c.loop-v.n (sym c.in_turn.ensures ∙ c.loop-v-test.true), place-most (row_of a.v) l.n)) (sym c.in_turn.ensures ∙ c.loop-v-test.true)) ∙ l.invariant.0,
      omega (arith, l.invariant.1, l.invariant.2, place-next (row_of a.v) l.n),
      l.invariant.2,
    )

pub returns : goal.returns
returns c =
    let a = c.args in
    let l = c.loop-v in
    (sym (turns-end (row_of a.v) a.bytes.now l.n (length a.bytes.now - l.n) (sym c.in_turn.ensures ∙ c.loop-v-test.false)) ∙ l.invariant.0, l.invariant.1)
