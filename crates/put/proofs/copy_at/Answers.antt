-- What does not fit leaves the slice; what fits is put between what stands before it and after it.
use Rattle.std.proofs.Common.{sym, ap, ◌∙◌, arith, refl, List, ℕ, ◌++◌, ◌+◌, length, take, drop}
use Rattle.std.proofs.Math.Seq.{take-length}
use Rattle.std.proofs.lemmas.Slice.{put_mid-paste}
use Rattle.laws.specs.Put.{put-not, put-fits}
use Rattle.put.proofs.copy_at.Goals as goal

pub returns-then-dst-at : goal.returns-then-dst-at
returns-then-dst-at c = sym (put-not _ _ _ (omega arith))

pub returns-then-dst-at-2 : goal.returns-then-dst-at-2
returns-then-dst-at-2 c = sym (put-not _ _ _ (omega arith))

pub returns : goal.returns
returns c =
    let d = c.args.dst.now in
    let at = c.args.at in
    let s = c.args.src.now in
    put_mid-paste at _ d _ s (length s) c.copy_from_slice.ensures.after (omega arith) refl
    ∙ ap (λ (l : List ℕ). take at d ++ l ++ drop (at + length s) d) (take-length s)
    ∙ sym (put-fits d at s (omega arith))
