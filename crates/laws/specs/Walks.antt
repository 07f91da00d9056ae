-- Laws of a step over an item: refused before, off, on, taken. None of them opens a shape. Assumes nothing.
use Rattle.std.specs.Prelude.{◌≡◌, List, Bool, ℕ, eqb, drop}
use Rattle.std.proofs.Math.Path.{refl}
use Rattle.std.proofs.Common.{sym, ap, ◌∙◌, eq-eqb, ne_eqb}
use Rattle.std.proofs.Math.Bool.{true, false, cond}
use Rattle.meaning.specs.States.{Cursor}
use Rattle.meaning.specs.declared.Item.{Item}
use Rattle.meaning.specs.Items.{shape_step, step}
use Rattle.laws.specs.Again.{ItemPassed, item-passed, fine₁}

module _ (xs : List ℕ) (i : Item) (c : Cursor) where
  pub step-refused : (c.why ≡ 0 → ⊥) → step xs i c ≡ c
  unfolding step
  step-refused n = rw (ne_eqb c.why 0 n)

  pub step-off : i.on ≡ false → step xs i c ≡ c
  unfolding step
  step-off o = go (eqb c.why 0)
    where
      go : (t : Bool) → cond t (cond i.on (shape_step i.shape c (drop c.at xs)) c) c ≡ c
      go true = rw o
      go false = refl

  pub step-on : c.why ≡ 0 → i.on ≡ true → step xs i c ≡ shape_step i.shape c (drop c.at xs)
  unfolding step
  step-on z o = rw (eq-eqb c.why 0 z, o)

  -- a selected item whose step was not refused was taken
  pub step-taken : (step xs i c).why ≡ 0 → i.on ≡ true → ItemPassed i.shape c (drop c.at xs)
  step-taken h o = item-passed i.shape c (drop c.at xs) (ap (λ (d : Cursor). d.why) (sym (step-on (fine₁ xs i c h) o)) ∙ h)
