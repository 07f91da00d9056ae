-- What the tests of a whole record say, case by case. Assumes nothing.
use mathlib.Core.Path.{◌≡◌}
use mathlib.Core.Bool.{Bool, true, false}
use mathlib.Core.List.{List}
use Prim.Native.Nat.{ℕ}
use lib.Dec.{eqb}
use lib.ListN.{take}
use Rattle.meaning.specs.declared.Attributes.{Attributes}
use Rattle.record.specs.Into.{or_dirty}
use Rattle.same_parts.specs.Parts.{around_res, body_same}
use Rattle.twins.specs.Same.{trail_bits, body_end, trail_before, same_but}

module _ (xs ys : List ℕ) (kind misc : ℕ) (a : Attributes) where
  abbrev body : Bool
  body = body_same (take (body_end xs kind a) xs) (take (body_end xs kind a) ys) kind misc a.sample

  abbrev trail : Bool
  trail = around_res xs ys (trail_bits kind a) trail_before (body_end xs kind a)

  pub but-body : body ≡ false → false ≡ same_but xs ys kind misc a
  unfolding same_but
  but-body e = rw e

  pub but-trail : body ≡ true → trail ≡ false → false ≡ same_but xs ys kind misc a
  unfolding same_but
  but-trail e f = rw (e, f)

  pub but-flags : body ≡ true → trail ≡ true → eqb (or_dirty 0 a xs) (or_dirty 0 a ys) ≡ same_but xs ys kind misc a
  unfolding same_but
  but-flags e f = rw (e, f)
