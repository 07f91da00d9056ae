-- `fast_read::fill` meets its contract: zeros, the header, the fields' chain, the flag and the trailer's chain, each put in its place. Assumes nothing.
use mathlib.Core.Path.{◌≡◌, refl, sym, ap, ◌∙◌}
use mathlib.Core.List.{List}
use Prim.Native.Nat.{ℕ, ◌-◌}
use native.Mathlib.Omega.{arith}
use lib.ListN.{length}
use lib.Seq.{length-take-le}
use Rattle.meaning.specs.declared.Attributes.{Attributes}
use Rattle.meaning.specs.Bytes.{zeros}
use Rattle.meaning.specs.Schema.{trailer}
use Rattle.meaning.specs.Records.{kind_of, misc_of, room}
use Rattle.record.specs.Into.{Accepted}
use Rattle.record.specs.Lent.{Header, trailer-fits}
use Rattle.record.specs.Flag.{trailer-there}
use Rattle.fills.specs.Chains as chains
use Rattle.fast_read.proofs.Laws.{headed, two-set, fields-ready, one-long, trailer-ready, mid-long, words-filled}
use Rattle.fast_read.proofs.fill.Goals as goal

-- what is known once the trailer's room is
header : (a : Attributes) (xs : List ℕ) (kind misc : ℕ) → kind ≡ kind_of xs → misc ≡ misc_of xs → Accepted a xs (kind_of xs) → (t : ℕ) → t ≡ room (trailer kind a)
    → Header a xs kind misc t
header a xs kind misc k m g t r = record { kind-is = k; misc-is = m; room-is = r; accepted = g.answer-is }

pub whole_header-kind-requires : goal.whole_header-kind-requires
whole_header-kind-requires c = let k = trailer-there c.args.a c.args.r.now (kind_of c.args.r.now) c.requires.0 _ refl in omega (arith, k)

pub bounds-out-2 : goal.bounds-out-2
bounds-out-2 c = two-set _ _ _ (c.fill.ensures.after (λ y q. q) ∙ ap zeros c.requires.1)

pub overflow_sub-end : goal.overflow_sub-end
overflow_sub-end c = let a = c.args in trailer-fits a.a a.r.now _ _ _ (header c.args.a c.args.r.now _ _ c.whole_header-kind.ensures.kind_is c.whole_header-kind.ensures.misc_is c.requires.0 _ c.trailer_room.ensures.0)

pub slice_bounds-fields-end : goal.slice_bounds-fields-end
slice_bounds-fields-end c = let a = c.args in let h = trailer-fits a.a a.r.now _ _ _ (header c.args.a c.args.r.now _ _ c.whole_header-kind.ensures.kind_is c.whole_header-kind.ensures.misc_is c.requires.0 _ c.trailer_room.ensures.0) in sym (length-take-le _ _ (omega arith))

pub fields-requires : goal.fields-requires
fields-requires c =
    fields-ready c.args.a c.args.r.now _ _ _ (header c.args.a c.args.r.now _ _ c.whole_header-kind.ensures.kind_is c.whole_header-kind.ensures.misc_is c.requires.0 _ c.trailer_room.ensures.0) _ _ (headed _ _ _ _ (c.fill.ensures.after (λ y q. q) ∙ ap zeros c.requires.1)) _ c.origin.ensures

pub set_flag-requires : goal.set_flag-requires
set_flag-requires c =
    let h = header c.args.a c.args.r.now _ _ c.whole_header-kind.ensures.kind_is c.whole_header-kind.ensures.misc_is c.requires.0 c.trailer_room.result c.trailer_room.ensures.0 in (
      record { kind-is = h.kind-is; eights = c.requires.0.eights; answer-is = c.requires.0.answer-is },
      ap (λ (k : ℕ). length c.args.r.now - k) h.room-is,
      one-long c.args.a c.args.r.now _ _ _ h _ _ (headed _ _ _ _ (c.fill.ensures.after (λ y q. q) ∙ ap zeros c.requires.1)) _ c.origin.ensures _ _ c.fields.ensures,
    )

pub trail-requires : goal.trail-requires
trail-requires c =
    trailer-ready c.args.a c.args.r.now _ _ _ (header c.args.a c.args.r.now _ _ c.whole_header-kind.ensures.kind_is c.whole_header-kind.ensures.misc_is c.requires.0 _ c.trailer_room.ensures.0) _ _ (headed _ _ _ _ (c.fill.ensures.after (λ y q. q) ∙ ap zeros c.requires.1)) _ c.origin.ensures _ _ c.fields.ensures _ c.set_flag.ensures _ c.origin-2.ensures

pub shape_of-out : goal.shape_of-out
shape_of-out c =
    chains.long c.trail.ensures
    ∙ mid-long c.args.a c.args.r.now _ _ _ (header c.args.a c.args.r.now _ _ c.whole_header-kind.ensures.kind_is c.whole_header-kind.ensures.misc_is c.requires.0 _ c.trailer_room.ensures.0) _ _ (headed _ _ _ _ (c.fill.ensures.after (λ y q. q) ∙ ap zeros c.requires.1)) _ c.origin.ensures _ _ c.fields.ensures _ c.set_flag.ensures _ c.origin-2.ensures
    ∙ sym c.requires.1

pub returns : goal.returns
returns c =
    words-filled c.args.a c.args.r.now _ _ _ (header c.args.a c.args.r.now _ _ c.whole_header-kind.ensures.kind_is c.whole_header-kind.ensures.misc_is c.requires.0 _ c.trailer_room.ensures.0) _ _ (headed _ _ _ _ (c.fill.ensures.after (λ y q. q) ∙ ap zeros c.requires.1)) _ c.origin.ensures _ _ c.fields.ensures _ c.set_flag.ensures _ c.origin-2.ensures c.whole_header-kind.ensures.size_is _ _ c.trail.ensures
