-- An event entry more is its bytes more.
use Rattle.std.specs.Prelude.{◌≡◌, ℕ, zero, suc, ◌+◌, ◌*◌}
use Rattle.std.proofs.Common.{arith}
use Rattle.settings.specs.Versions.{Version, row_of, place_of}
use Rattle.settings.proofs.Version.place_of.Goals as goal

place-is : (v : Version) (n : ℕ) → 8 + n * (v.width + 54) ≡ place_of v n
unfolding place_of
place-is v zero = omega arith
place-is v (suc n) = omega (arith, place-is v n)

pub overflow_mul-result : goal.overflow_mul-result
overflow_mul-result c = omega (arith, place-is (row_of c.args.self) c.args.n, c.requires)

pub overflow_add-result-2 : goal.overflow_add-result-2
overflow_add-result-2 c = omega (arith, place-is (row_of c.args.self) c.args.n, c.requires)

pub returns : goal.returns
returns c = place-is (row_of c.args.self) c.args.n
