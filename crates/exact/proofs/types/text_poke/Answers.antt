-- Both lengths are read before they are added; the padding ends with the record where fewer than 8 bytes are left.
use native.Mathlib.Omega.{arith}
use Rattle.exact.specs.Types.{poke-short, poke-long, poke-good, poke-over}
use Rattle.exact.proofs.types.text_poke.Goals as goal

pub returns-then-f-lt20 : goal.returns-then-f-lt20
returns-then-f-lt20 c = poke-short c.args.f.bytes.now c.args.f.headed c.if-f-lt20.true

pub overflow_add-end : goal.overflow_add-end
overflow_add-end c = omega (arith, c.u16_at-2.ensures.1, c.u16_at.ensures.1)

pub overflow_add-end-2 : goal.overflow_add-end-2
overflow_add-end-2 c = omega (arith, c.u16_at-2.ensures.1, c.u16_at.ensures.1)

pub returns-then-f-end : goal.returns-then-f-end
returns-then-f-end c = poke-long c.args.f.bytes.now c.if-f-lt20.false (omega (arith, c.u16_at-2.ensures.0, c.u16_at.ensures.0, c.if-f-end.true))

pub returns-then-f-end-lt8 : goal.returns-then-f-end-lt8
returns-then-f-end-lt8 c =
    let x = c.u16_at-2.ensures.0 in
    let y = c.u16_at.ensures.0 in
    poke-good c.args.f.bytes.now c.if-f-lt20.false c.args.f.words (omega (arith, x, y, c.if-f-end.false)) (omega (arith, x, y, c.if-f-end-lt8.true))

pub returns-else-f-end-lt8 : goal.returns-else-f-end-lt8
returns-else-f-end-lt8 c =
    let x = c.u16_at-2.ensures.0 in
    let y = c.u16_at.ensures.0 in
    poke-over c.args.f.bytes.now c.if-f-lt20.false c.args.f.words (omega (arith, x, y, c.if-f-end.false)) (omega (arith, x, y, c.if-f-end-lt8.false))
