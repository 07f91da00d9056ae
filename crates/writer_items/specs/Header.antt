-- The header of a record, put as three numbers, one after the other. Assumes nothing.
use Rattle.std.specs.Prelude.{◌≡◌, List, ◌++◌, ℕ, ◌+◌, ◌≤◌, length}
use Rattle.std.proofs.Common.{ap, ◌∙◌, append_assoc, arith, length-append}
use Rattle.meaning.specs.Bytes.{spell, put}
use Rattle.laws.specs.Bytes.{length-spell}
use Rattle.laws.specs.Put.{put-put}

pub header-put : (kind misc size : ℕ) (b b₁ b₂ b₃ : List ℕ) → 8 ≤ length b → b₁ ≡ put b 0 (spell 4 kind) → b₂ ≡ put b₁ 4 (spell 2 misc) → b₃ ≡ put b₂ 6 (spell 2 size)
    → b₃ ≡ put b 0 (spell 4 kind ++ (spell 2 misc ++ spell 2 size))
header-put kind misc size b b₁ b₂ b₃ h e₁ e₂ e₃ =
    let K : List ℕ = spell 4 kind in
    let M : List ℕ = spell 2 misc in
    let S : List ℕ = spell 2 size in
    let l_k : length K ≡ 4 = length-spell 4 kind in
    let l_m : length M ≡ 2 = length-spell 2 misc in
    let l_s : length S ≡ 2 = length-spell 2 size in
    let l_km = length-append K M in
    let p₂ : b₂ ≡ put b 0 (K ++ M) =
    e₂ ∙ ap (λ (x : List ℕ). put x 4 M) e₁ ∙ ap (λ (k : ℕ). put (put b 0 K) k M) (let z : 4 ≡ 0 + length K = omega (arith, l_k) in z) ∙ put-put b 0 K M (omega (arith, l_k, l_m, h)) in
    e₃ ∙ ap (λ (x : List ℕ). put x 6 S) p₂
    ∙ ap (λ (k : ℕ). put (put b 0 (K ++ M)) k S) (let z : 6 ≡ 0 + length (K ++ M) = omega (arith, l_k, l_m, l_km) in z)
    ∙ put-put b 0 (K ++ M) S (omega (arith, l_k, l_m, l_s, l_km, h))
    ∙ ap (λ (x : List ℕ). put b 0 x) (append_assoc K M S)
