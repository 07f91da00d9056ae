-- The bytes of a number, one after the other: i of them stand in a list, the others are those of what is left of the number. Assumes nothing.
use Rattle.std.proofs.Common.{◌≡◌, sym, ap, ◌∙◌, arith, append_assoc, ℕ, zero, suc, ◌+◌, ◌-◌, ◌/◌, ◌%◌, ◌<◌, List, [], ◌∷◌, ◌++◌, length, take, set}
use Rattle.std.proofs.lemmas.List.{take_more_set}
use Rattle.meaning.specs.Bytes.{spell}

spell-more : (n v : ℕ) → 0 < n → spell n v ≡ v % 256 ∷ spell (n - 1) (v / 256)
unfolding spell
spell-more zero v h = absurd (omega (arith, h))
spell-more (suc n) v h = ap (λ (k : ℕ). v % 256 ∷ spell k (v / 256)) (omega arith)

-- one byte more
pub spelled-more : (l : List ℕ) (i n x r : ℕ) → length l ≡ n → i < n → spell n x ≡ take i l ++ spell (n - i) r
    → spell n x ≡ take (i + 1) (set l i (r % 256)) ++ spell (n - (i + 1)) (r / 256)
spelled-more l i n x r h b e =
    let p : n - i - 1 ≡ n - (i + 1) = omega arith in
    e
    ∙ ap (λ (s : List ℕ). take i l ++ s) (spell-more (n - i) r (omega arith))
    ∙ ap (λ (k : ℕ). take i l ++ (r % 256 ∷ spell k (r / 256))) p
    ∙ sym (append_assoc (take i l) (r % 256 ∷ []) (spell (n - (i + 1)) (r / 256)))
    ∙ ap (λ (s : List ℕ). s ++ spell (n - (i + 1)) (r / 256)) (sym (take_more_set l i (r % 256) (omega arith)))
