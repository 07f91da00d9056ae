-- Each byte is looked at, from the first to the last. Assumes nothing.
use mathlib.Core.Path.{◌≡◌, refl, sym, ap, ◌∙◌}
use mathlib.Core.Bool.{Bool, false, ◌||◌}
use mathlib.Core.List.{List, [], ◌∷◌}
use Prim.Native.Nat.{ℕ, zero, suc, ◌+◌, ◌-◌, ◌≤◌, ◌<◌}
use native.Mathlib.Omega.{arith}
use borrow.Author.Rules.{rules}
use lib.Dec.{eqb}
use lib.ListN.{length, get_or, take, drop}
use Rattle.std.proofs.Math.Bool.{or-false, or_assoc}
use Rattle.std.proofs.Math.Seq.{drop-cons}
use Rattle.std.proofs.lemmas.Fn.{fold_over, slice_gives, fronts}
use Rattle.std.proofs.lemmas.Grind.{fold-append}
use Rattle.std.specs.List.{fold}
use Rattle.blocks.specs.Scan.{has_zero}
use Rattle.blocks.proofs.scan.zero_among.Goals as goal

-- one byte more
look : Bool → ℕ → Bool
look found x = found || eqb x 0

all-looked : (n : ℕ) (b : Bool) (xs : List ℕ) (at : ℕ) → at + n ≤ length xs → fold look b (take n (drop at xs)) ≡ (b || has_zero n xs at)
unfolding has_zero look
all-looked zero b xs at h = sym (or-false b)
all-looked (suc n) b xs at h =
    let l : at < length xs = omega (arith, h) in
    let r : at + 1 + n ≤ length xs = omega (arith, h) in
    let e : drop at xs ≡ get_or xs at 0 ∷ drop (at + 1) xs =
    drop-cons xs at 0 l ∙ (let q : suc at ≡ at + 1 = omega arith in ap (λ (i : ℕ). get_or xs at 0 ∷ drop i xs) q)
    in
    rw e (all-looked n (b || eqb (get_or xs at 0) 0) xs (at + 1) r ∙ or_assoc b (eqb (get_or xs at 0) 0) (has_zero n xs (at + 1)))

pub returns : goal.returns
unfolding look
returns g c =
    let e : c.fold.result ≡ fold look false c.iter.result.rest.now =
    fold_over fronts (λ y. y.now) _ (λ ys r. r ≡ fold look false ys) _ (λ ys a x b f' j k.
    let w : b ≡ (a || eqb x.now 0) = search rules in (w ∙ ap (λ (t : Bool). t || eqb x.now 0) j ∙ sym (fold-append look false ys (x.now ∷ [])), search rules))
    _ _ _ _ (slice_gives c.iter.result) refl c.fold.ensures.ran
    in
    let at : ℕ = c.args.at in
    let n : at + g.row.N - at ≡ g.row.N = omega arith in
    e ∙ ap (fold look false) (c.iter.ensures.rest ∙ ap (λ (k : ℕ). take k (drop at c.args.s.now)) n) ∙ all-looked g.row.N false c.args.s.now at c.requires
