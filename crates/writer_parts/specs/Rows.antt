-- The rows of a part, as a loop over the slice of them has them. Assumes nothing.
use Rattle.std.proofs.Common.{◌≡◌, ℕ, ◌+◌, ◌-◌, ◌<◌, ◌≤◌, List, length, get_or, take, drop, ap, ◌∙◌, arith, length-drop, length-take-le}
use Rattle.std.proofs.Math.Seq.{get_or-drop}
use Rattle.std.proofs.lemmas.List.{get_or-take}
use Rattle.meaning.specs.declared.Item.{Item}
use Rattle.table.specs.Rows.{rows, item_of, all_rows}
use Rattle.writer_parts.specs.declared.TypePart.{TypePart}
use Rattle.writer_parts.specs.Parts.{item_here}

module _ (p : TypePart) (all : List ℕ) (e : all ≡ rows) (m : p.to ≤ all_rows) where
  pub own-length : length (take (p.to - p.from) (drop p.from all)) ≡ p.to - p.from
  own-length =
      let l : length all ≡ all_rows = ap length e in
      length-take-le (p.to - p.from) (drop p.from all) (omega (arith, length-drop p.from all, l, m))

  module _ (j : ℕ) (h : j < length (take (p.to - p.from) (drop p.from all))) where
    pub before-to : p.from + j < p.to
    before-to = omega (arith, own-length, h)

    pub here : (i : Item) → i ≡ item_of p.attributes p.misc p.kind (get_or (take (p.to - p.from) (drop p.from all)) j 0) → i ≡ item_here p (p.from + j)
    unfolding item_here
    here i q =
        let k : j < p.to - p.from = omega (arith, own-length, h) in
        let row : get_or (take (p.to - p.from) (drop p.from all)) j 0 ≡ get_or rows (p.from + j) 0 =
        get_or-take (p.to - p.from) (drop p.from all) j 0 k ∙ get_or-drop p.from all j 0 ∙ ap (λ (xs : List ℕ). get_or xs (p.from + j) 0) e in
        q ∙ ap (item_of p.attributes p.misc p.kind) row

  pub at-end : (j : ℕ) → length (take (p.to - p.from) (drop p.from all)) ≤ j → p.to ≤ p.from + j
  at-end j h = omega (arith, own-length, h)
