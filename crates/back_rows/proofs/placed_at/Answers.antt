-- Each test is a row's, in the order of the rows, of the size that the header says; what passes them all goes on.
use Rattle.std.proofs.Common.{◌≡◌, ℕ, ◌+◌, ◌-◌, ◌<◌, ◌≤◌, Bool, true, false, not, ◌&&◌, sym, ap, ◌∙◌, arith, ltb, le-ltb, lt-ltb, le-leb, eq-eqb, ne_eqb}
use borrow.Author.Tests.{lt-leb}
use Rattle.meaning.specs.Ring.{whole, stopped}
use Rattle.meaning.specs.Backward.{placed}
use Rattle.std.proofs.Math.Bool.{and-false}
use Rattle.back_rows.proofs.placed_at.Goals as goal
use Rattle.back_rows.proofs.placed_at.Goals.{else-not-lies_whole-via-then-not-lies_whole+else-scratch-size, else-not-lies_whole-via-else-not-lies_whole}

-- row 13, as the code asks it: no sum is made
near : (n way size : ℕ) → way < n → size ≤ n - way → ltb n (way + size) ≡ false
near n way size h e = le-ltb n (way + size) (omega arith)

far : (n way size : ℕ) → way < n → n - way < size → ltb n (way + size) ≡ true
far n way size h e = lt-ltb n (way + size) (omega arith)

pub returns-then-len-way : goal.returns-then-len-way
unfolding placed stopped
returns-then-len-way c = simp (sym c.u16_at-size.ensures.0, le-leb _ _ c.if-len-way.true)

pub returns-then-size-eq0 : goal.returns-then-size-eq0
unfolding placed stopped
returns-then-size-eq0 c = simp (
  sym c.u16_at-size.ensures.0,
  lt-leb _ _ c.if-len-way.false,
  eq-eqb _ _ c.if-size-eq0.true,
)

pub returns-then-size-lt8 : goal.returns-then-size-lt8
unfolding placed stopped
returns-then-size-lt8 c = simp (
  sym c.u16_at-size.ensures.0,
  lt-leb _ _ c.if-len-way.false,
  ne_eqb _ _ c.if-size-eq0.false,
  lt-ltb _ _ c.if-size-lt8.true,
)

pub returns-then-size-ne0 : goal.returns-then-size-ne0
unfolding placed stopped
returns-then-size-ne0 c = simp (
  sym c.u16_at-size.ensures.0,
  lt-leb _ _ c.if-len-way.false,
  ne_eqb _ _ c.if-size-eq0.false,
  le-ltb _ _ c.if-size-lt8.false,
  ne_eqb _ _ c.if-size-ne0.true,
)

pub returns-then-len-way-2 : goal.returns-then-len-way-2
unfolding placed stopped
returns-then-len-way-2 c = simp (
  sym c.u16_at-size.ensures.0,
  lt-leb _ _ c.if-len-way.false,
  ne_eqb _ _ c.if-size-eq0.false,
  le-ltb _ _ c.if-size-lt8.false,
  eq-eqb _ _ c.if-size-ne0.false,
  far _ _ _ c.if-len-way.false c.if-len-way-2.true,
)

pub returns-then-left-eq0 : goal.returns-then-left-eq0
unfolding placed stopped
returns-then-left-eq0 c = simp (
  sym c.u16_at-size.ensures.0,
  lt-leb _ _ c.if-len-way.false,
  ne_eqb _ _ c.if-size-eq0.false,
  le-ltb _ _ c.if-size-lt8.false,
  eq-eqb _ _ c.if-size-ne0.false,
  near _ _ _ c.if-len-way.false c.if-len-way-2.false,
  eq-eqb _ _ c.if-left-eq0.true,
)

pub returns-then-journal-lt16 : goal.returns-then-journal-lt16
unfolding placed stopped
returns-then-journal-lt16 c = simp (
  sym c.u16_at-size.ensures.0,
  lt-leb _ _ c.if-len-way.false,
  ne_eqb _ _ c.if-size-eq0.false,
  le-ltb _ _ c.if-size-lt8.false,
  eq-eqb _ _ c.if-size-ne0.false,
  near _ _ _ c.if-len-way.false c.if-len-way-2.false,
  ne_eqb _ _ c.if-left-eq0.false,
  lt-ltb _ _ c.if-journal-lt16.true,
)

pub returns-then-scratch-size : goal.returns-then-scratch-size
unfolding placed stopped
returns-then-scratch-size c = simp (
  sym c.u16_at-size.ensures.0,
  lt-leb _ _ c.if-len-way.false,
  ne_eqb _ _ c.if-size-eq0.false,
  le-ltb _ _ c.if-size-lt8.false,
  eq-eqb _ _ c.if-size-ne0.false,
  near _ _ _ c.if-len-way.false c.if-len-way-2.false,
  ne_eqb _ _ c.if-left-eq0.false,
  le-ltb _ _ c.if-journal-lt16.false,
  sym c.lies_whole.ensures ∙ c.if-not-lies_whole.true,
  lt-ltb _ _ c.if-scratch-size.true,
)

pub returns : goal.returns
unfolding placed stopped
returns c =
    let a = c.args in
    let row : (not (whole a.ring.now a.place c.u16_at-size.result) && ltb a.scratch c.u16_at-size.result) ≡ false =
    elim c.else-not-lies_whole.branch [
      | else-not-lies_whole-via-then-not-lies_whole+else-scratch-size w ↦ ap (λ (t : Bool). not (whole a.ring.now a.place c.u16_at-size.result) && t) (le-ltb _ _ w.if-scratch-size.false) ∙ and-false _
      | else-not-lies_whole-via-else-not-lies_whole w ↦ simp (sym c.lies_whole.ensures ∙ w.if-not-lies_whole.false)
    ] in simp (
      sym c.u16_at-size.ensures.0,
      lt-leb _ _ c.if-len-way.false,
      ne_eqb _ _ c.if-size-eq0.false,
      le-ltb _ _ c.if-size-lt8.false,
      eq-eqb _ _ c.if-size-ne0.false,
      near _ _ _ c.if-len-way.false c.if-len-way-2.false,
      ne_eqb _ _ c.if-left-eq0.false,
      le-ltb _ _ c.if-journal-lt16.false,
      row,
    )
