-- Each entry of the table is its callee's.
use mathlib.Core.Path.{sym, ap, ◌∙◌}
use mathlib.Core.Bool.{Bool, cond}
use mathlib.Core.List.{[], ◌∷◌}
use Prim.Native.Nat.{◌+◌, ◌*◌}
use borrow.Author.Rules.{rules}
use Rattle.meaning.specs.Bytes.{ones}
use Rattle.sums.specs.Sums.{sums_of, group-count}
use Rattle.sums.proofs.sums.Goals as goal

pub returns : goal.returns
unfolding sums_of
returns c =
    let a = c.args.a in
    let u = c.registers-user.ensures ∙ ap (λ (b : Bool). cond b (ones 64 a.user * 8) 0) c.has_bit.ensures in
    let i = c.registers-interrupt.ensures ∙ ap (λ (b : Bool). cond b (ones 64 a.interrupt * 8) 0) c.has_bit-2.ensures in
    λ j.
    (c.trailer_room-trail.ensures.0 j)
    ∷ ((c.eights.ensures.0 j) + (c.reads.ensures.0 j))
    ∷ (c.eights-last.ensures.0 j)
    ∷ u j
    ∷ (c.eights-early.ensures.0 j)
    ∷ (c.eights-after.ensures.0 j)
    ∷ i j
    ∷ ((c.group.ensures.0 ∙ sym (group-count a.format)) j)
    ∷ []
