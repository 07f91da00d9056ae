-- The count is at most what is left before it is multiplied, so the product is small, and each bound that fails is the definition's one bound.
use mathlib.Core.Path.{◌≡◌, ap, ◌∙◌}
use mathlib.Core.List.{List}
use Prim.Native.Nat.{ℕ, ◌+◌, ◌-◌, ◌*◌, ◌≤◌, ◌<◌}
use native.Mathlib.Nat.{mul-le-mul, le-mul_of_pos_right}
use native.Mathlib.Omega.{arith}
use lib.ListN.{length}
use Rattle.meaning.specs.Bytes.{number_at}
use Rattle.blocks.specs.Seen.{place}
use Rattle.blocks.specs.Blocks.{counted-past, counted-there}
use Rattle.blocks.proofs.elements.Goals as goal

-- the product, before it is made
small : (c : goal.Else-left-n) → c.u64_at-n.result * c.args.unit ≤ 65535 * 24
small c =
    let h : c.u64_at-n.result ≤ 65535 = omega (arith, c.if-left-n.false, c.requires.s_len_bound) in
    mul-le-mul h c.requires.unit_bound

pub returns-then-left-fixed : goal.returns-then-left-fixed
returns-then-left-fixed c =
    let a = c.args in
    let h : length a.s.now - a.at < a.fixed + number_at 8 a.s.now a.at * a.unit = omega (arith, c.if-left-fixed.true) in
    counted-past a.s.now a.at a.fixed a.unit h

pub returns-then-left-n : goal.returns-then-left-n
returns-then-left-n c =
    let a = c.args in
    let xs : List ℕ = a.s.now in
    let e = c.u64_at-n.ensures in
    let g : number_at 8 xs a.at ≤ number_at 8 xs a.at * a.unit = le-mul_of_pos_right (number_at 8 xs a.at) c.requires.le_unit in
    counted-past xs a.at a.fixed a.unit (omega (arith, e, g, c.if-left-n.true))

pub overflow_mul-k : goal.overflow_mul-k
overflow_mul-k c = omega (arith, small c)

pub overflow_add-k : goal.overflow_add-k
overflow_add-k c = omega (arith, small c, c.requires.fixed_le_size_bound)

pub returns-then-left-k : goal.returns-then-left-k
returns-then-left-k c =
    let a = c.args in
    let xs : List ℕ = a.s.now in
    let e : c.u64_at-n.result * a.unit ≡ number_at 8 xs a.at * a.unit = ap (λ (n : ℕ). n * a.unit) c.u64_at-n.ensures in
    counted-past xs a.at a.fixed a.unit (omega (arith, e, c.if-left-k.true))

pub returns : goal.returns
returns c =
    let a = c.args in
    let xs : List ℕ = a.s.now in
    let e : c.u64_at-n.result * a.unit ≡ number_at 8 xs a.at * a.unit = ap (λ (n : ℕ). n * a.unit) c.u64_at-n.ensures in
    ap (λ (k : ℕ). place (a.at + (a.fixed + k)) 0) e ∙ counted-there xs a.at a.fixed a.unit (omega (arith, e, c.if-left-k.false))
