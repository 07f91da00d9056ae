-- The abi word is there, then as many registers as the mask has ones, or none where the abi is 0: the walk over both items. Assumes nothing.
use mathlib.Core.Path.{◌≡◌, sym, ◌∙◌, subst}
use mathlib.Core.Bool.{true, cond}
use mathlib.Core.List.{List}
use Prim.Native.Nat.{ℕ, ◌+◌, ◌*◌}
use native.Mathlib.Omega.{arith}
use borrow.Author.Tests.{eq-eqb, ne_eqb}
use lib.Dec.{eqb}
use Rattle.meaning.specs.Bytes.{number_at, ones}
use Rattle.blocks.specs.Seen.{place, Leaves}
use Rattle.blocks.specs.Blocks.{register_list, two-off, registers-short, registers-long, registers-there}
use Rattle.blocks.proofs.registers.Goals as goal

pub returns-then-not-on-clause-leaves : goal.returns-then-not-on-clause-leaves
returns-then-not-on-clause-leaves c = let a = c.args in rw c.if-not-on.true (two-off a.s.now _ _ a.at)

pub returns-then-left-lt8-clause-leaves : goal.returns-then-left-lt8-clause-leaves
returns-then-left-lt8-clause-leaves c = let a = c.args in rw c.if-not-on.false (registers-short a.s.now a.mask a.at (omega arith))

pub returns-then-u64_at-eq0-clause-leaves : goal.returns-then-u64_at-eq0-clause-leaves
returns-then-u64_at-eq0-clause-leaves c = let a = c.args in let xs : List ℕ = a.s.now in
    let z : cond (eqb (number_at 8 xs a.at) 0) 0 (ones 64 a.mask) * 8 ≡ 0 = rw (eq-eqb (number_at 8 xs a.at) 0 (sym c.u64_at.ensures ∙ c.if-u64_at-eq0.true)) in
    let f : a.at + 8 + cond (eqb (number_at 8 xs a.at) 0) 0 (ones 64 a.mask) * 8 ≡ a.at + 8 = omega (arith, z) in
    rw c.if-not-on.false (subst (λ (n : ℕ). Leaves xs (register_list true a.mask) a.at (place n 0)) f (registers-there xs a.mask a.at (omega arith) (omega (arith, z))))

-- what follows an abi word that is not 0
follows : (xs : List ℕ) (mask at wide n : ℕ) → n ≡ number_at 8 xs at → (n ≡ 0 → ⊥) → wide ≡ ones 64 mask * 8 → cond (eqb (number_at 8 xs at) 0) 0 (ones 64 mask) * 8 ≡ wide
follows xs mask at wide n e z h = rw (ne_eqb (number_at 8 xs at) 0 (λ q. z (e ∙ q))) (sym h)

pub returns-then-left-wide-clause-leaves : goal.returns-then-left-wide-clause-leaves
returns-then-left-wide-clause-leaves c = let a = c.args in
    let z = follows a.s.now a.mask a.at a.wide _ c.u64_at.ensures c.if-u64_at-eq0.false (c.requires.wide_value c.if-not-on.false) in rw c.if-not-on.false (registers-long a.s.now a.mask a.at (omega arith) (omega (arith, z, c.if-left-wide.true)))

pub returns-clause-leaves : goal.returns-clause-leaves
returns-clause-leaves c = let a = c.args in let xs : List ℕ = a.s.now in
    let z = follows a.s.now a.mask a.at a.wide _ c.u64_at.ensures c.if-u64_at-eq0.false (c.requires.wide_value c.if-not-on.false) in
    let f : a.at + 8 + cond (eqb (number_at 8 xs a.at) 0) 0 (ones 64 a.mask) * 8 ≡ a.at + 8 + a.wide = omega (arith, z) in
    rw c.if-not-on.false (subst (λ (n : ℕ). Leaves xs (register_list true a.mask) a.at (place n 0)) f (registers-there xs a.mask a.at (omega arith) (omega (arith, z, c.if-left-wide.false))))
