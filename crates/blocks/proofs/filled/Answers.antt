-- The filled word is there, and not above the size: 30, then 32, as the item says. Assumes nothing.
use mathlib.Core.List.{List}
use Prim.Native.Nat.{ℕ, ◌-◌}
use native.Mathlib.Omega.{arith}
use lib.ListN.{length}
use Rattle.meaning.specs.Bytes.{number_at}
use borrow.Author.Tests.{le-leb, lt-leb}
use Rattle.blocks.specs.Blocks.{filled_answer}
use Rattle.blocks.proofs.filled.Goals as goal

pub returns-then-s-at-lt8 : goal.returns-then-s-at-lt8
unfolding filled_answer
returns-then-s-at-lt8 c = let a = c.args in let xs : List ℕ = a.s.now in
    rw (lt-leb 8 (length xs - a.at) (omega arith))

pub returns-then-size-u64_at : goal.returns-then-size-u64_at
unfolding filled_answer
returns-then-size-u64_at c = let a = c.args in let xs : List ℕ = a.s.now in
    let e = c.u64_at.ensures in
    rw (le-leb 8 (length xs - a.at) (omega arith), lt-leb (number_at 8 xs a.at) a.size (omega (arith, e)))

pub returns : goal.returns
unfolding filled_answer
returns c = let a = c.args in let xs : List ℕ = a.s.now in
    let e = c.u64_at.ensures in
    rw (le-leb 8 (length xs - a.at) (omega arith), le-leb (number_at 8 xs a.at) a.size (omega (arith, e)))
