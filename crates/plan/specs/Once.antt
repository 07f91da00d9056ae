-- What a mark says has one proof at most, so that a record beside its mark can keep it. Assumes nothing.
use Rattle.std.specs.Prelude.{ℕ, ◌⊎◌}
use Rattle.std.specs.Coded.{×_prop, →_prop, le_prop}
use Rattle.std.proofs.Common.{inl, inr, arith}
use mathlib.Core.Bool.{Bool-set}
use mathlib.Core.HLevel.{⊥_prop}
use native.Mathlib.Nat.{ℕ_set}
use Rattle.meaning.specs.declared.Attributes.{Attributes}
use Rattle.meaning.specs.declared.Known.{Known}
use Rattle.marks.specs.Marks.{Wanted, Counted, Marked}

wanted-prop : (k : Known) (a : Attributes) (kind n : ℕ) → IsProp (Wanted k a kind n)
wanted-prop k a kind n x y = λ i. record {
  readable = ℕ_set _ _ x.readable y.readable i;
  one_width_lem = Bool-set _ _ x.one_width_lem y.one_width_lem i;
  size = ℕ_set _ _ x.size y.size i;
  eights = ℕ_set _ _ x.eights y.eights i;
}

-- no type is two of the three
counted-prop : (a : Attributes) (kind : ℕ) → IsProp (Counted a kind)
counted-prop a kind (inl x) (inl y) = λ i. inl (×_prop (ℕ_set _ _) (Bool-set _ _) x y i)
counted-prop a kind (inl x) (inr (inl y)) = absurd (omega (arith, x.0, y))
counted-prop a kind (inl x) (inr (inr y)) = absurd (omega (arith, x.0, y))
counted-prop a kind (inr (inl x)) (inl y) = absurd (omega (arith, x, y.0))
counted-prop a kind (inr (inr x)) (inl y) = absurd (omega (arith, x, y.0))
counted-prop a kind (inr (inl x)) (inr (inl y)) = λ i. inr (inl (ℕ_set _ _ x y i))
counted-prop a kind (inr (inl x)) (inr (inr y)) = absurd (omega (arith, x, y))
counted-prop a kind (inr (inr x)) (inr (inl y)) = absurd (omega (arith, x, y))
counted-prop a kind (inr (inr x)) (inr (inr y)) = λ i. inr (inr (ℕ_set _ _ x y i))

pub marked-prop : (k : Known) (a : Attributes) (kind mark : ℕ) → IsProp (Marked k a kind mark)
marked-prop k a kind mark x y = λ i. record {
  fixed = λ h. wanted-prop k a kind mark (x.fixed h) (y.fixed h) i;
  counted = λ h. ×_prop (ℕ_set _ _) (counted-prop a kind) (x.counted h) (y.counted h) i;
  stretched = λ h. ×_prop (ℕ_set _ _) (ℕ_set _ _) (x.stretched h) (y.stretched h) i;
  named = λ g h. let u = x.named g h in let v = y.named g h in (ℕ_set _ _ u.0 v.0 i, →_prop ⊥_prop u.1 v.1 i, ℕ_set _ _ u.2 v.2 i, ℕ_set _ _ u.3 v.3 i);
  refused = λ h. let u = x.refused h in let v = y.refused h in (le_prop u.0 v.0 i, le_prop u.1 v.1 i, λ misc. ℕ_set _ _ (u.2 misc) (v.2 misc) i);
}
