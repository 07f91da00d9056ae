-- `fields::step` meets its contract: a switch that is off changes nothing; else each arm cites the step of its shape. Assumes nothing.
use mathlib.Core.Path.{refl, sym, ap, ◌∙◌}
use Prim.Native.Nat.{ℕ}
use lib.ListN.{drop}
use Rattle.std.proofs.lemmas.Bool.{not-true, not-false}
use Rattle.meaning.specs.declared.Shape.TheVariants.{Ignored}
use Rattle.meaning.specs.Reasons.{cursor_of}
use Rattle.meaning.specs.Items.{shape_step}
use Rattle.laws.specs.Walks.{step-off}
use Rattle.laws.specs.Shapes.{as_number, as-times, as-earlier, as-registers, as-listed, as_bytes, as-pad, step_is}
use Rattle.fields.proofs.step.Goals as goal

pub returns-then-not-i : goal.returns-then-not-i
returns-then-not-i c =
    let a = c.args in
    sym (step-off a.s.now a.i (cursor_of a.c) (not-true _ c.if-not-i.true))

pub returns-in-Number : goal.returns-in-Number
returns-in-Number c = c.ignored.ensures ∙ ap (λ (k : ℕ). shape_step (Ignored k) (cursor_of c.args.c) (drop c.args.c.at c.args.s.now)) c.bytes.ensures.0 ∙ as_number (cursor_of c.args.c) (drop c.args.c.at c.args.s.now) _ ∙ step_is c.args.s.now (cursor_of c.args.c) c.args.i _ refl (not-false _ c.if-not-i.false) c.in-Number.is

pub returns-in-Ignored : goal.returns-in-Ignored
returns-in-Ignored c = c.ignored-in-Ignored.ensures ∙ step_is c.args.s.now (cursor_of c.args.c) c.args.i _ refl (not-false _ c.if-not-i.false) c.in-Ignored.is

pub returns-in-Count : goal.returns-in-Count
returns-in-Count c = c.count.ensures ∙ step_is c.args.s.now (cursor_of c.args.c) c.args.i _ refl (not-false _ c.if-not-i.false) c.in-Count.is

pub returns-in-Size : goal.returns-in-Size
returns-in-Size c = c.sized.ensures ∙ step_is c.args.s.now (cursor_of c.args.c) c.args.i _ refl (not-false _ c.if-not-i.false) c.in-Size.is

pub returns-in-Times : goal.returns-in-Times
returns-in-Times c = c.elements.ensures ∙ as-times (cursor_of c.args.c) (drop c.args.c.at c.args.s.now) _ ∙ step_is c.args.s.now (cursor_of c.args.c) c.args.i _ refl (not-false _ c.if-not-i.false) c.in-Times.is

pub returns-in-Earlier : goal.returns-in-Earlier
returns-in-Earlier c = c.elements-in-Earlier.ensures ∙ as-earlier (cursor_of c.args.c) (drop c.args.c.at c.args.s.now) _ ∙ step_is c.args.s.now (cursor_of c.args.c) c.args.i _ refl (not-false _ c.if-not-i.false) c.in-Earlier.is

pub returns-in-Registers : goal.returns-in-Registers
returns-in-Registers c = c.elements-in-Registers.ensures ∙ as-registers (cursor_of c.args.c) (drop c.args.c.at c.args.s.now) ∙ step_is c.args.s.now (cursor_of c.args.c) c.args.i _ refl (not-false _ c.if-not-i.false) c.in-Registers.is

pub returns-in-Filled : goal.returns-in-Filled
returns-in-Filled c = c.filled.ensures ∙ step_is c.args.s.now (cursor_of c.args.c) c.args.i _ refl (not-false _ c.if-not-i.false) c.in-Filled.is

pub returns-in-Abi : goal.returns-in-Abi
returns-in-Abi c = c.abi.ensures ∙ step_is c.args.s.now (cursor_of c.args.c) c.args.i _ refl (not-false _ c.if-not-i.false) c.in-Abi.is

pub returns-in-Limit : goal.returns-in-Limit
returns-in-Limit c = c.limit.ensures ∙ step_is c.args.s.now (cursor_of c.args.c) c.args.i _ refl (not-false _ c.if-not-i.false) c.in-Limit.is

pub returns-in-Listed : goal.returns-in-Listed
returns-in-Listed c = c.ignored-in-Listed.ensures ∙ as-listed (cursor_of c.args.c) (drop c.args.c.at c.args.s.now) _ ∙ step_is c.args.s.now (cursor_of c.args.c) c.args.i _ refl (not-false _ c.if-not-i.false) c.in-Listed.is

pub returns-in-Bytes : goal.returns-in-Bytes
returns-in-Bytes c = c.ignored-in-Bytes.ensures ∙ as_bytes (cursor_of c.args.c) (drop c.args.c.at c.args.s.now) _ ∙ step_is c.args.s.now (cursor_of c.args.c) c.args.i _ refl (not-false _ c.if-not-i.false) c.in-Bytes.is

pub returns-in-Pad : goal.returns-in-Pad
returns-in-Pad c = c.ignored-in-Pad.ensures ∙ as-pad (cursor_of c.args.c) (drop c.args.c.at c.args.s.now) ∙ step_is c.args.s.now (cursor_of c.args.c) c.args.i _ refl (not-false _ c.if-not-i.false) c.in-Pad.is

pub returns-in-Name : goal.returns-in-Name
returns-in-Name c = c.name.ensures ∙ step_is c.args.s.now (cursor_of c.args.c) c.args.i _ refl (not-false _ c.if-not-i.false) c.in-Name.is
