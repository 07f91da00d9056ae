-- `writer_items::passes` meets its contract: the count is compared with a quotient, which is the product compared without wrapping. Assumes nothing.
use Rattle.std.proofs.Common.{ℕ, ◌/◌, sym, ap₂, ◌∙◌, arith, ltb}
use Rattle.writer_items.proofs.Tests.{passes-off, passes-far, passes_none, passes-by}
use Rattle.writer_items.proofs.passes.Goals as goal

pub returns-in_default : goal.returns-in_default
returns-in_default c =
    let a = c.args in
    passes-off a.source.now _ _ a.s.place a.s.count (sym c.in_default.ensures.listed)

pub returns-in_default-checked_sub : goal.returns-in_default-checked_sub
returns-in_default-checked_sub c =
    let a = c.args in
    let far = c.in_default-checked_sub.ensures in
    passes-far a.source.now _ _ a.s.place a.s.count (sym c.in-Some.ensures.listed) (omega (arith, far))

pub returns-then-unit-eq0 : goal.returns-then-unit-eq0
returns-then-unit-eq0 c =
    let a = c.args in
    passes_none a.source.now _ _ a.s.place a.s.count (sym c.in-Some.ensures.listed) c.in-Some-checked_sub.ensures.0 (sym c.in-Some.ensures.value ∙ c.if-unit-eq0.true)

pub returns : goal.returns
returns c =
    let a = c.args in
    let value = c.in-Some.ensures.value in
    ap₂ (λ (x u : ℕ). ltb (x / u) a.s.count) c.in-Some-checked_sub.ensures.1 value
    ∙ passes-by a.source.now _ _ a.s.place a.s.count (sym c.in-Some.ensures.listed) c.in-Some-checked_sub.ensures.0 (omega (arith, value))
