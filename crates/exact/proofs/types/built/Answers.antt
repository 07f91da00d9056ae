-- The size byte by its limit, then a name after fields of one width.
use mathlib.Core.Path.{refl, sym, subst}
use mathlib.Core.Bool.{true}
use mathlib.Core.List.{List}
use Prim.Native.Nat.{ℕ}
use native.Mathlib.Omega.{arith}
use Rattle.blocks.specs.Seen.{Closes}
use Rattle.meaning.specs.Schema.{mmap2}
use Rattle.exact.specs.Types.{build-short, build-bad, build-good}
use Rattle.exact.proofs.types.built.Goals as goal

pub returns-then-f-lt48 : goal.returns-then-f-lt48
returns-then-f-lt48 c = build-short c.args.f.bytes.now c.args.f.headed c.args.f.words c.if-f-lt48.true

pub returns-then-u8_at-gt20 : goal.returns-then-u8_at-gt20
returns-then-u8_at-gt20 c = build-bad c.args.f.bytes.now c.args.f.headed c.if-f-lt48.false (omega (arith, c.u8_at.ensures.0, c.if-u8_at-gt20.true))

pub named-requires : goal.named-requires
named-requires c = refl

pub returns : goal.returns
returns c =
    let xs : List ℕ = c.args.f.bytes.now in
    subst (Closes xs (mmap2 true) 8) (sym c.named.ensures) (build-good xs c.args.f.headed c.if-f-lt48.false (omega (arith, c.u8_at.ensures.0, c.if-u8_at-gt20.false)))
