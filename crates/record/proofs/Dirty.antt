-- The flag, as the code finds it: byte by byte, and as record check's 44. Assumes nothing.
use mathlib.Core.Path.{◌≡◌, refl, sym, ap, ◌∙◌}
use mathlib.Core.Bool.{Bool, true, false, cond, not, ◌&&◌}
use mathlib.Core.List.{List, [], ◌∷◌}
use Rattle.std.specs.Prelude.{Option, Some, None, is_some, IfSome}
use Rattle.std.specs.Bool.{MatchBool}
use Rattle.std.specs.List.{HoldsAt, AllWithin}
use Rattle.std.specs.Option.{unwrap_or}
use Prim.Native.Nat.{ℕ, zero, suc, ◌+◌, ◌<◌}
use native.Mathlib.Omega.{arith}
use mir.Val.{bool_byte}
use lib.ListN.{length, get_or, drop}
use lib.Seq.{drop-drop}
use lib.Dec.{eqb}
use borrow.Author.Tests.{eq-eqb, ne_eqb}
use Rattle.meaning.specs.declared.Attributes.{Attributes}
use Rattle.meaning.specs.Bytes.{zero_in, all_zero, stale}
use Rattle.meaning.specs.declared.Reason.{Reason}
use Rattle.meaning.specs.Reasons.{number_of}
use Rattle.meaning.specs.Records.{flag_by}
use Rattle.laws.specs.Reasons.{number-some}
use Rattle.record.specs.Into.{name_dirty, or_dirty}

-- ---- bytes

later : (b t : Bool) → true ≡ not t → true ≡ not (b && t)
later true t h = h
later false t h = refl

some-set : (xs : List ℕ) (k : ℕ) → k < length xs → (get_or xs k 0 ≡ 0 → ⊥) → true ≡ not (all_zero xs)
unfolding all_zero
some-set [] k h n = absurd (omega (arith, h))
some-set (x ∷ xs) zero h n = rw (ne_eqb x 0 n)
some-set (x ∷ xs) (suc k) h n = later (eqb x 0) (all_zero xs) (some-set xs k (omega arith) n)

none-set : (xs : List ℕ) → ((k : ℕ) → k < length xs → get_or xs k 0 ≡ 0) → false ≡ not (all_zero xs)
unfolding all_zero
none-set [] h = refl
none-set (x ∷ xs) h = rw (eq-eqb x 0 (h 0 (omega arith))) (none-set xs (λ k l. h (suc k) (omega arith)))

pub any-set : (xs : List ℕ) (r : Bool) → MatchBool r ((k : ℕ) × (k < length xs) × HoldsAt (λ x. x ≡ 0 → ⊥) xs k) (AllWithin (λ x. x ≡ 0) xs 0 (length xs))
    → r ≡ not (all_zero xs)
any-set xs true h = some-set xs h.0 h.1 (h.2 0)
any-set xs false h = none-set xs (λ k l. h k 0 (omega arith) l)

pub stale-at : (xs : List ℕ) (at z : ℕ) (r : Bool) → z ≡ at + zero_in (drop at xs) → r ≡ not (all_zero (drop z xs)) → r ≡ stale (drop at xs)
unfolding stale
stale-at xs at z r ez er =
    er ∙ ap (λ (k : ℕ). not (all_zero (drop k xs))) ez ∙ ap (λ (l : List ℕ). not (all_zero l)) (sym (drop-drop (zero_in (drop at xs)) at xs))

-- ---- the flag's word, where there is one

pub no-word : (o : Option ℕ) (n : ℕ) → is_some o ≡ false → unwrap_or o 0 ≡ n → n ≡ 0
no-word None n h e = sym e
no-word (Some w) n h e = cc

pub some-word : (o : Option ℕ) (n : ℕ) → is_some o ≡ true → unwrap_or o 0 ≡ n → IfSome o (λ w. 0 < w) → n ≡ 0 → ⊥
some-word None n h e p z = cc
some-word (Some w) n h e p z = omega (arith, e, z, p)

-- ---- record check

module _ (a : Attributes) (xs : List ℕ) where
  pub or-refused : (reason : Reason) → number_of reason ≡ or_dirty (number_of reason) a xs
  unfolding or_dirty
  or-refused reason = rw (ne_eqb (number_of reason) 0 (number-some reason))

  pub or-flagged : (r : Bool) → r ≡ name_dirty a xs → cond r 44 0 ≡ or_dirty 0 a xs
  unfolding or_dirty flag_by
  or-flagged r e = rw (sym e) (go r)
    where
      go : (b : Bool) → ◌≡◌ {A = ℕ} (cond b 44 0) (cond (eqb (cond b 1 0) 0) 0 44)
      go true = refl
      go false = refl
