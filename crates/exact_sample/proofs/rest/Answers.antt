-- One sum up to the end; or two stretches, and what is left over after them.
use mathlib.Core.Path.{◌≡◌, refl, sym, subst}
use mathlib.Core.Bool.{false}
use mathlib.Core.List.{List}
use Prim.Native.Nat.{ℕ, ◌-◌, ◌≤◌}
use Rattle.meaning.specs.declared.Attributes.{Attributes}
use lib.ListN.{length, get_or}
use Rattle.blocks.specs.Seen.{Closes, closes-then, closes-stuck, closes-end}
use Rattle.std.proofs.lemmas.Result.{err_from_is_err_and}
use Rattle.laws.specs.Reasons.{number-some}
use Rattle.blocks.specs.Steady.{sizes, sizes-same}
use Rattle.meaning.specs.Schema.{sample_last}
use Rattle.exact.specs.Stretches.{Sums, weights, late, weighed, paged, last-closes}
use Rattle.exact_sample.proofs.rest.Goals as goal

-- one sum, compared with what is left
one-sum : (xs sums : List ℕ) (a : Attributes) (at : ℕ) → late a ≡ false → Sums a sums → weights a ≡ false → at ≤ length xs →
    Closes xs (sample_last a) at (sizes (length xs - at) (get_or sums 2 0))
one-sum xs sums a at e s w h = last-closes xs a at _ e (s.last w e) h

pub returns-then-left-last : goal.returns-then-left-last
returns-then-left-last c =
    let e : late c.args.w.a ≡ false = cc (c.if-not-late.true, c.has_bit.ensures, c.has_bit-2.ensures) in
    subst (Closes c.args.s.now (sample_last c.args.w.a) c.args.at) (sizes-same _ _ c.if-left-last.true)
    (one-sum c.args.s.now c.args.w.sums.now c.args.w.a c.args.at e c.args.w.right c.args.w.single c.requires)

pub returns-then-not-late : goal.returns-then-not-late
returns-then-not-late c =
    let e : late c.args.w.a ≡ false = cc (c.if-not-late.true, c.has_bit.ensures, c.has_bit-2.ensures) in
    subst (Closes c.args.s.now (sample_last c.args.w.a) c.args.at) (sym c.sized.ensures)
    (one-sum c.args.s.now c.args.w.sums.now c.args.w.a c.args.at e c.args.w.right c.args.w.single c.requires)

pub returns-in_err-past : goal.returns-in_err-past
returns-in_err-past c =
    let p = err_from_is_err_and c.from_residual.result c.from_residual.ensures.1 in
    rw (p.1, p.2) (closes-stuck c.args.s.now (weighed c.args.w.a) (paged c.args.w.a) c.args.at _ c.in_err-past.ensures.0 (number-some _))

pub paged-requires : goal.paged-requires
paged-requires c = c.in_ok-past.ensures.1 refl

pub returns : goal.returns
returns c =
    let xs : List ℕ = c.args.s.now in
    let a = c.args.w.a in
    subst (Closes xs (sample_last a) c.args.at) (sym c.ended.ensures)
    (closes-then xs (weighed a) (paged a) c.args.at _ _ c.in_ok-past.ensures.0 refl
    (closes-end xs (paged a) _ _ c.paged.ensures.0))
