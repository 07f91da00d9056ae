-- A product that is bounded. Assumes nothing.
use Prim.Native.Nat.{ℕ, ◌*◌, ◌≤◌}
use native.Mathlib.Nat.{mul-le-mul_left, mul-le-mul_right}
use native.Mathlib.Omega.{arith}
use Rattle.writer_items.specs.Tries.{most_bytes}

pub product-most : (n k : ℕ) → n ≤ most_bytes → k ≤ 4096 → n * k ≤ 268431360
product-most n k p q =
    let a : n * k ≤ n * 4096 = mul-le-mul_left n q in
    let d : n * 4096 ≤ most_bytes * 4096 = mul-le-mul_right 4096 p in
    omega (arith, a, d)
