-- `plain_read::words::of_record` meets its contract: header, fields, flag and trailer, each put in its place. Assumes nothing.
use mathlib.Core.Path.{◌≡◌, refl, sym, ap, ◌∙◌}
use Prim.Native.Nat.{ℕ}
use native.Mathlib.Omega.{arith}
use lib.ListN.{length}
use lib.Seq.{length-take-le}
use mathlib.Core.List.{List}
use Rattle.meaning.specs.declared.Attributes.{Attributes}
use Rattle.meaning.specs.Schema.{trailer}
use Rattle.meaning.specs.Records.{kind_of, misc_of, room}
use Rattle.laws.specs.Put.{length-put}
use Rattle.answers.specs.Rows.{laid-out}
use Rattle.record.specs.Into.{Accepted}
use Rattle.record.specs.Flag.{trailer-there}
use Rattle.record.specs.Lent.{Header, trailer-fits}
use Rattle.plain_read.proofs.Readers.{fields-fill, trailer-fill, trailer_laid, words_are}
use Rattle.plain_read.proofs.words.of_record.Goals as goal

module _ (a : Attributes) (xs : List ℕ) (g : Accepted a xs (kind_of xs)) (kind misc : ℕ) (ek : kind ≡ kind_of xs) (em : misc ≡ misc_of xs) where
  -- what is known once the trailer's room is
  header : (t : ℕ) → t ≡ room (trailer kind a) → Header a xs kind misc t
  header t r = record { kind-is = ek; misc-is = em; room-is = r; accepted = g.answer-is }

  -- and of the flag
  taken : Accepted a xs kind
  taken = record { kind-is = ek; eights = g.eights; answer-is = g.answer-is }

pub whole_header-h-requires : goal.whole_header-h-requires
whole_header-h-requires c = let k = trailer-there c.args.a c.args.r.now _ c.requires _ refl in omega (arith, k)

pub overflow_sub-end : goal.overflow_sub-end
overflow_sub-end c =
    let a = c.args in
    let h = c.whole_header-h.ensures in
    trailer-fits a.a a.r.now _ _ _ (header a.a a.r.now c.requires _ _ h.kind_is h.misc_is _ c.trailer_room.ensures.0)

pub slice_bounds-fill-end : goal.slice_bounds-fill-end
slice_bounds-fill-end c =
    let a = c.args in
    let h = c.whole_header-h.ensures in
    let l = trailer-fits a.a a.r.now _ _ _ (header a.a a.r.now c.requires _ _ h.kind_is h.misc_is _ c.trailer_room.ensures.0) in
    sym (length-take-le _ _ (omega arith))

pub fill-requires : goal.fill-requires
fill-requires c =
    let a = c.args in
    let h = c.whole_header-h.ensures in
    fields-fill a.a a.r.now _ _ _ (header a.a a.r.now c.requires _ _ h.kind_is h.misc_is _ c.trailer_room.ensures.0) _ _ _
    (laid-out _ _ a.a c.part_of-part.result c.part_of-part.ensures _ c.all_rows-all.ensures) c.origin.ensures refl

pub set-requires : goal.set-requires
set-requires c =
    let a = c.args in
    let h = c.whole_header-h.ensures in
    (taken a.a a.r.now c.requires _ _ h.kind_is h.misc_is, ap length c.fill.ensures ∙ length-put _ 3 _)

pub fill-requires-2 : goal.fill-requires-2
fill-requires-2 c =
    let a = c.args in
    let h = c.whole_header-h.ensures in
    trailer-fill a.a a.r.now _ _ _ (header a.a a.r.now c.requires _ _ h.kind_is h.misc_is _ c.trailer_room.ensures.0) _ _ _
    (trailer_laid _ _ a.a _ c.all_rows-all.ensures) c.origin-2.ensures (ap length c.set.ensures ∙ length-put _ _ _ ∙ ap length c.fill.ensures ∙ length-put _ 3 _)

pub returns : goal.returns
returns c =
    let a = c.args in
    let h = c.whole_header-h.ensures in
    words_are a.a a.r.now _ _ _ (header a.a a.r.now c.requires _ _ h.kind_is h.misc_is _ c.trailer_room.ensures.0) _ _ _ _ _ _ _ _ h.size_is
    (laid-out _ _ a.a c.part_of-part.result c.part_of-part.ensures _ c.all_rows-all.ensures) (trailer_laid _ _ a.a _ c.all_rows-all.ensures)
    c.origin.ensures c.origin-2.ensures c.fill.ensures c.set.ensures c.fill-2.ensures
