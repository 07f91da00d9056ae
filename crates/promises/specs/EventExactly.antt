-- M-112: "the number inspected is reported with the answer and equals .. 0 without a lookup": where nothing is looked up. That it is told so is in
-- proofs/EventExactly.
use Rattle.std.specs.Prelude.{◌≡◌, ℕ}

-- what is told where nothing was looked up
abbrev pub Unlooked : ℕ → ℕ → ℕ → Type 0
Unlooked e answer inspected = (answer ≡ 20 → inspected ≡ 0) × (e ≡ 1 → inspected ≡ 0) × (answer ≡ 27 → inspected ≡ 0)
