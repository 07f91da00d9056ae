-- The event that an accepted record has; and that what is no refusal is accepted. Assumes nothing.
use Rattle.std.specs.Prelude.{◌≡◌, refl, ℕ, ◌<◌, Option, Some, None, IsSome, unwrap_or, Result, Ok, Err, is_err, false}
use Rattle.std.proofs.Common.{sym, ap, ◌∙◌, arith}
use Rattle.meaning.specs.declared.Reason.{Reason}
use Rattle.meaning.specs.Reasons.{answer_of}
use Rattle.laws.specs.Bytes.{apart}

pub is-there : (o : Option ℕ) (n i : ℕ) → unwrap_or o n ≡ i → i < n → IsSome o
is-there None n i e l = absurd (omega (arith, e, l))
is-there (Some v) n i e l = search

pub there-is : (o : Option ℕ) (n i v : ℕ) → unwrap_or o n ≡ i → o ≡ Some v → v ≡ i
there-is o n i v e s = ap (λ (p : Option ℕ). unwrap_or p n) (sym s) ∙ e

pub no-refusal : (r : Result (Unit {0}) Reason) → is_err r ≡ false → answer_of r ≡ 0
no-refusal (Ok _) h = refl
no-refusal (Err reason) h = absurd (apart (sym h))
