-- What does not fit leaves the slice; what fits is put between what stands before it and after it.
use Rattle.std.proofs.Common.{◌≡◌, refl, sym, ap, ◌∙◌, arith, List, [], ◌∷◌, ℕ, ◌++◌, ◌+◌, ◌-◌, length, take, drop, length-set, length-take-le, length-drop, take_all}
use Rattle.std.proofs.Math.Seq.{take-length}
use Rattle.std.proofs.Math.ListN.{replicate-append-replicate}
use Rattle.std.proofs.lemmas.List.{length-replicate, take_more_set}
use Rattle.std.proofs.lemmas.Slice.{put_mid-paste}
use Rattle.meaning.specs.Bytes.{zeros}
use Rattle.laws.specs.Put.{put-not, put-fits}
use Rattle.put.proofs.zero_at.Goals as goal

pub returns-then-dst-at : goal.returns-then-dst-at
returns-then-dst-at c = sym (put-not _ _ _ (omega (arith, length-replicate {A = ℕ} c.args.k 0)))

pub returns-then-dst-at-2 : goal.returns-then-dst-at-2
returns-then-dst-at-2 c = sym (put-not _ _ _ (omega (arith, length-replicate {A = ℕ} c.args.k 0)))

pub loop-byte-init : goal.loop-byte-init
loop-byte-init c =
    let at = c.args.at in
    let m = length-take-le (at + c.args.k - at) (drop at c.args.dst.now) (omega (arith, length-drop at c.args.dst.now)) in
    (m ∙ omega arith, refl)

pub loop-byte-preserved : goal.loop-byte-preserved
loop-byte-preserved c =
    let l = c.loop-byte in (
      length-set l.byte-items l.byte-index 0 ∙ l.invariant.0,
      take_more_set l.byte-items l.byte-index 0 (omega (arith, l.invariant.0, c.loop-byte-test.true))
          ∙ ap (λ (z : List ℕ). z ++ 0 ∷ []) l.invariant.1
          ∙ replicate-append-replicate l.byte-index 1 0,
    )

pub returns : goal.returns
returns c =
    let d = c.args.dst.now in
    let at = c.args.at in
    let k = c.args.k in
    let l = c.loop-byte in
    let n : length (zeros k) ≡ k = length-replicate {A = ℕ} k 0 in
    let i : l.byte-index ≡ k = omega (arith, l.invariant.0, c.loop-byte-test.false) in
    let z : l.byte-items ≡ zeros k = sym (take_all l.byte-index l.byte-items (omega (arith, l.invariant.0, i))) ∙ l.invariant.1 ∙ ap zeros i in
    put_mid-paste at _ d _ (zeros k) (length (zeros k)) z (omega (arith, n)) refl
    ∙ ap (λ (r : List ℕ). take at d ++ r ++ drop (at + length (zeros k)) d) (take-length (zeros k))
    ∙ sym (put-fits d at (zeros k) (omega (arith, n)))
