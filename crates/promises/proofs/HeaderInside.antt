-- M-104: "Once 1 and 5 pass, the eight header bytes can't cross the end." That refusal 10 never happens is in Header. Assumes nothing.
use Rattle.std.specs.Prelude.{◌≡◌, false, not, ℕ, ◌+◌, ◌%◌, ◌≤◌, eqb}
use Rattle.std.proofs.Common.{eqb-true}
use Rattle.std.proofs.lemmas.Bool.{not-false}
use Rattle.meaning.specs.Ring.{Asked, length_allowed, call_rows}
use Rattle.laws.specs.Rows.{or-false, gives}
use Rattle.laws.proofs.Framing.{header-whole}

-- ---- "Once 1 and 5 pass, the eight header bytes can't cross the end": they lie inside a ring of n bytes, whatever the other rows say

pub header-never-crosses : (asked : Asked) (n head tail : ℕ) → gives 1 (call_rows asked n head tail) ≡ false → gives 5 (call_rows asked n head tail) ≡ false
    → tail % n + 8 ≤ n
header-never-crosses asked n head tail one five =
    let t = (or-false (not (eqb (head % 8) 0)) (not (eqb (tail % 8) 0)) five).1 in
    header-whole tail n (not-false (length_allowed n) one) (eqb-true (tail % 8) 0 (not-false (eqb (tail % 8) 0) t))
