-- Laws of the loop that puts: one item's three pieces, all items, the whole record. Assumes nothing.
use mathlib.Core.Path.{◌≡◌, refl, ap, ap₂, ◌∙◌}
use Prim.Native.Nat.{ℕ, zero, suc, ◌+◌, ◌/◌, ◌%◌, ◌≤◌}
use native.Mathlib.Omega.{arith}
use mathlib.Core.Bool.{false}
use mathlib.Core.List.{List, ◌∷◌, ◌++◌}
use lib.ListN.{length, take, drop, length-append, length-replicate}
use Rattle.meaning.specs.Bytes.{spell, zeros, put}
use Rattle.meaning.specs.Values.{Slot}
use Rattle.laws.specs.Bytes.{length-spell}
use Rattle.laws.specs.Put.{put-put}
use Rattle.writer_forms.specs.Forms.{Form, passes_end, list_bytes, form_bytes}
use Rattle.writer_items.specs.Fitting.{list-long}

spell-front : (w k x : ℕ) → w ≤ k → take w (spell k x) ≡ spell w x
unfolding spell
spell-front zero k x h = refl
spell-front (suc w) zero x h = absurd (omega arith)
spell-front (suc w) (suc k) x h = ap (λ (l : List ℕ). x % 256 ∷ l) (spell-front w k (x / 256) (omega arith))

-- three pieces, one after the other
three-puts : (b : List ℕ) (at : ℕ) (A B C : List ℕ) (m n : ℕ) → at + (length A + length B + length C) ≤ length b → m ≡ at + length A → n ≡ at + length A + length B
    → put (put (put b at A) m B) n C ≡ put b at ((A ++ B) ++ C)
three-puts b at A B C m n h p q =
    let l = length-append A B in
    let n₁ : n ≡ at + length (A ++ B) = omega (arith, q, l) in
    ap (λ (k : ℕ). put (put (put b at A) k B) n C) p
    ∙ ap (λ (d : List ℕ). put d n C) (put-put b at A B (omega (arith, h)))
    ∙ ap (λ (k : ℕ). put (put b at (A ++ B)) k C) n₁
    ∙ put-put b at (A ++ B) C (omega (arith, h, l))

-- `put_item`: the buffer after each of its three calls
pub pieces : (f : Form) (src : List ℕ) (s : Slot) (b : List ℕ) (at : ℕ) (N L b₁ b₂ b₃ : List ℕ) (w : ℕ) → f.width ≤ 8
    → passes_end src f.list f.unit s.place s.count ≡ false → at + (f.width + list_bytes f s + f.pad) ≤ length b
    → N ≡ spell 8 s.num → w ≡ f.width → L ≡ take (list_bytes f s) (drop s.place src) → b₁ ≡ put b at (take w N) → b₂ ≡ put b₁ (at + w) L
    → b₃ ≡ put b₂ (at + w + length L) (zeros f.pad) → b₃ ≡ put b at (form_bytes f src s)
unfolding form_bytes
pieces f src s b at N L b₁ b₂ b₃ w most o h e_n ew el e₁ e₂ e₃ =
    let A : List ℕ = spell f.width s.num in
    let B : List ℕ = take (list_bytes f s) (drop s.place src) in
    let C : List ℕ = zeros f.pad in
    let l_a : length A ≡ f.width = length-spell f.width s.num in
    let l_b : length B ≡ list_bytes f s = list-long f src s o in
    let l_c : length C ≡ f.pad = length-replicate {A = ℕ} f.pad 0 in
    let m : length L ≡ list_bytes f s = ap length el ∙ l_b in
    let p₁ : b₁ ≡ put b at A = e₁ ∙ ap (λ (l : List ℕ). put b at l) (ap₂ (λ (k : ℕ) (l : List ℕ). take k l) ew e_n ∙ spell-front f.width 8 s.num most) in
    let p₂ : b₂ ≡ put (put b at A) (at + w) B = e₂ ∙ ap₂ (λ (d l : List ℕ). put d (at + w) l) p₁ el in
    let p₃ : b₃ ≡ put (put (put b at A) (at + w) B) (at + w + length L) C = e₃ ∙ ap (λ (d : List ℕ). put d (at + w + length L) C) p₂ in
    p₃ ∙ three-puts b at A B C (at + w) (at + w + length L) (omega (arith, h, l_a, l_b, l_c)) (omega (arith, l_a, ew)) (omega (arith, l_a, l_b, ew, m))
