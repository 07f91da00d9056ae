-- `record::flag::is_dirty` meets its contract: a type without a name has no flag; of the others the fields' last eight bytes say it. Assumes nothing.
use mathlib.Core.Path.{sym}
use native.Mathlib.Omega.{arith}
use Prim.Native.Nat.{ℕ, ◌-◌}
use lib.ListN.{length}
use lib.Seq.{length-take-le}
use Rattle.record.specs.Flag.{trailer-there, dirty-none, dirty-some}
use Rattle.record.proofs.Dirty.{no-word, some-word}
use Rattle.record.proofs.flag.is_dirty.Goals as goal

pub returns-then-is_none : goal.returns-then-is_none
returns-then-is_none c =
    let f = c.flag_at in
    dirty-none c.args.a c.args.r.now c.args.kind c.requires (no-word f.result _ c.if-is_none.ensures f.ensures.value)

pub overflow_sub-end : goal.overflow_sub-end
overflow_sub-end c =
    let h = trailer-there c.args.a c.args.r.now c.args.kind c.requires _ c.trailer_room.ensures.0 in
    omega (arith, h)

pub slice_bounds-stale_from-end : goal.slice_bounds-stale_from-end
slice_bounds-stale_from-end c = sym (length-take-le _ _ (omega arith))

pub overflow_sub-end-2 : goal.overflow_sub-end-2
overflow_sub-end-2 c =
    let h = trailer-there c.args.a c.args.r.now c.args.kind c.requires _ c.trailer_room.ensures.0 in
    omega (arith, h)

pub stale_from-requires : goal.stale_from-requires
stale_from-requires c =
    let h = trailer-there c.args.a c.args.r.now c.args.kind c.requires _ c.trailer_room.ensures.0 in
    let n : ℕ = length c.args.r.now - c.trailer_room.result in
    let l = length-take-le n c.args.r.now (omega arith) in
    omega (arith, h, l)

pub returns : goal.returns
returns c =
    let f = c.flag_at in
    dirty-some c.args.a c.args.r.now c.args.kind c.requires (some-word f.result _ c.if-is_none.ensures f.ensures.value f.ensures.some) _ c.trailer_room.ensures.0 _ c.stale_from.ensures
