-- `comparing::compare_rings` meets its contract: after n turns n pairs are equal, and what is still to come is the whole.
use Rattle.std.proofs.Common.{◌≡◌, ℕ, Bool, true, List, length, refl, sym, ap, ◌∙◌, ap₂, le_trans, le_of_lt, add-one, arith}
use Rattle.std.specs.Prelude.{Ok, Some}
use Rattle.meaning.specs.declared.Event.{Event}
use Rattle.meaning.specs.States.{Frame}
use Rattle.meaning.specs.Editions.{editions, known, allowed}
use Rattle.meaning.specs.Ring.{asking_with, frame, record_at, scratch_after, shown}
use Rattle.meaning.specs.Events.{asked_events, sound}
use Rattle.meaning.specs.Reasons.{frame_of}
use Rattle.laws.specs.Matched.{sound-marked}
use Rattle.laws.proofs.Refused.{going-sound}
use Rattle.laws.specs.Rings.{Going, shown-record}
use Rattle.laws.proofs.Framing.{frame-going}
use Rattle.laws.specs.Numbers.{small_of}
use Rattle.runs.specs.Cutting.{framed}
use Rattle.runs.proofs.Forward.{going-framed}
use Rattle.compare.specs.Fields.{Reads, fields}
use Rattle.compare.specs.Compared.{alike, agree, event_reads}
use Rattle.compare.proofs.Here.{here-start, here-ends, here-pair, here-same, ensured-same}
use Rattle.comparing.proofs.compare_rings.Goals as goal

-- one side: a frame that was asked with what both tests told, from t on, with the scratch s
module _ (limit e : ℕ) (es : List Event) (ring : List ℕ) (head t : ℕ) (s : List ℕ) (f : Frame) where
  asked : (ok table : Bool) → f ≡ frame (asking_with ok table) ring head t 1 16 (length s) → ok ≡ allowed editions e → table ≡ sound limit es
      → f ≡ frame (asked_events limit editions e es) ring head t 1 16 (length s)
  asked ok table h p q = h ∙ ap₂ (λ (x y : Bool). frame (asking_with x y) ring head t 1 16 (length s)) p q

  module _ (h : f ≡ frame (asked_events limit editions e es) ring head t 1 16 (length s)) (g : f.go ≡ true) where
    going : Going (asked_events limit editions e es) ring head t 1 16 (length s) f
    going = frame-going (asked_events limit editions e es) ring head t 1 16 (length s) f h g

    -- what is shown is the record
    bytes : (x l : List ℕ) → x ≡ shown ring l f → l ≡ scratch_after ring f.place f.size s → x ≡ record_at ring f.place f.size
    bytes x l p q =
        let w = going in
        p ∙ ap (λ (z : List ℕ). shown ring z f) q ∙ shown-record ring s f g (le_of_lt w.inside) (le_trans w.size-near w.near) w.fits

    -- which is whole
    whole : framed (record_at ring f.place f.size) ≡ true
    whole = (going-framed (asked_events limit editions e es) ring head t 1 16 (length s) f going).1

pub loop-pair-init : goal.loop-pair-init
loop-pair-init c =
    let a = c.args in
    here-start (event_reads (known editions a.e) a.events.now) (asked_events a.limit editions a.e a.events.now) a.left.now a.right.now a.lhead a.rhead a.ltail a.rtail a.lscratch.now a.rscratch.now
    (small_of a.left.now c.type_inv.left) (small_of a.right.now c.type_inv.right) c.ranges.lhead.fits c.ranges.rhead.fits
    c.ranges.ltail.fits c.ranges.rtail.fits

pub returns-in-Err : goal.returns-in-Err
returns-in-Err c =
    let a = c.args in
    let l = c.loop-pair in
    let es = a.events.now in
    let f = c.next_frame-from_left in
    let g = c.next_frame-from_right in
    let p = asked a.limit a.e es a.left.now a.lhead l.tl l.lscratch (frame_of f.result) _ _ f.ensures c.allowed-ok.ensures c.sound-table.ensures in
    let q = asked a.limit a.e es a.right.now a.rhead l.tr l.rscratch (frame_of g.result) _ _ g.ensures c.allowed-ok.ensures c.sound-table.ensures in
    let r =
    here-ends (event_reads (known editions a.e) es) (asked_events a.limit editions a.e es) a.left.now a.right.now a.lhead a.rhead a.ltail a.rtail a.lscratch.now a.rscratch.now
    (small_of a.left.now c.type_inv.left) (small_of a.right.now c.type_inv.right) c.ranges.lhead.fits c.ranges.rhead.fits
    l.n l.tl l.tr l.lscratch l.rscratch (frame_of f.result) (frame_of g.result) c.in-Err.told l.invariant p q c.in-Err.ensures.0 c.in-Err.ensures.1 in record { value = r.result; lscratch_after = r.left; rscratch_after = r.right }

-- a frame that goes on has a sound table, and its record is whole
pub differing-requires : goal.differing-requires
differing-requires c =
    let a = c.args in
    let l = c.loop-pair in
    let es = a.events.now in
    let f = c.next_frame-from_left in
    let g = c.next_frame-from_right in
    let F : Frame = frame_of (Ok (Some c.in-Ok.pair.0)) in
    let G : Frame = frame_of (Ok (Some c.in-Ok.pair.1)) in
    let p = asked a.limit a.e es a.left.now a.lhead l.tl l.lscratch F _ _ (ap frame_of (sym c.in-Ok.ensures.0) ∙ f.ensures) c.allowed-ok.ensures c.sound-table.ensures in
    let q = asked a.limit a.e es a.right.now a.rhead l.tr l.rscratch G _ _ (ap frame_of (sym c.in-Ok.ensures.1) ∙ g.ensures) c.allowed-ok.ensures c.sound-table.ensures in
    let x = bytes a.limit a.e es a.left.now a.lhead l.tl l.lscratch F p refl _ _ c.record_shown-x.ensures.result_value c.gather.ensures in
    let y = bytes a.limit a.e es a.right.now a.rhead l.tr l.rscratch G q refl _ _ c.record_shown-y.ensures.result_value c.gather-in-loop-pair.ensures in
    let t = going-sound _ _ _ _ _ _ _ (ap (λ (z : Frame). z.go) (sym p)) in
    record {
      x_value = (
        ap (λ (z : List ℕ). framed z) x ∙ whole a.limit a.e es a.left.now a.lhead l.tl l.lscratch F p refl,
        ap (λ (z : List ℕ). framed z) y ∙ whole a.limit a.e es a.right.now a.rhead l.tr l.rscratch G q refl,
      );
      events_value = sound-marked a.limit es t;
    }

pub returns-in-Some : goal.returns-in-Some
returns-in-Some c =
    let a = c.args in
    let l = c.loop-pair in
    let es = a.events.now in
    let R : Reads = event_reads (known editions a.e) es in
    let f = c.next_frame-from_left in
    let g = c.next_frame-from_right in
    let F : Frame = frame_of (Ok (Some c.in-Ok.pair.0)) in
    let G : Frame = frame_of (Ok (Some c.in-Ok.pair.1)) in
    let p = asked a.limit a.e es a.left.now a.lhead l.tl l.lscratch F _ _ (ap frame_of (sym c.in-Ok.ensures.0) ∙ f.ensures) c.allowed-ok.ensures c.sound-table.ensures in
    let q = asked a.limit a.e es a.right.now a.rhead l.tr l.rscratch G _ _ (ap frame_of (sym c.in-Ok.ensures.1) ∙ g.ensures) c.allowed-ok.ensures c.sound-table.ensures in
    let h = here-pair R (asked_events a.limit editions a.e es) a.left.now a.right.now a.lhead a.rhead a.ltail a.rtail a.lscratch.now a.rscratch.now
    (small_of a.left.now c.type_inv.left) (small_of a.right.now c.type_inv.right) c.ranges.lhead.fits c.ranges.rhead.fits
    l.n l.tl l.tr l.lscratch l.rscratch F G l.invariant p q refl refl in
    let x = bytes a.limit a.e es a.left.now a.lhead l.tl l.lscratch F p refl _ _ c.record_shown-x.ensures.result_value c.gather.ensures in
    let y = bytes a.limit a.e es a.right.now a.rhead l.tr l.rscratch G q refl _ _ c.record_shown-y.ensures.result_value c.gather-in-loop-pair.ensures in
    let s = ap₂ (λ (u v : List ℕ). alike (fields R u) (fields R v)) (sym x) (sym y) ∙ c.in-Some.ensures.0 in
    let t = ap₂ (λ (u v : List ℕ). agree (fields R u) (fields R v)) (sym x) (sym y) ∙ c.in-Some.ensures.1 in
    let r = ensured-same R (asked_events a.limit editions a.e es) a.left.now a.right.now a.lhead a.rhead a.ltail a.rtail a.lscratch.now a.rscratch.now c.tell.result _ _ _ _
    (sym c.gather.ensures) (sym c.gather-in-loop-pair.ensures) (h.differ s _ t c.tell.result c.tell.ensures) in record { value = r.result; lscratch_after = r.left; rscratch_after = r.right }

pub loop-pair-smaller : goal.loop-pair-smaller
loop-pair-smaller c =
    let a = c.args in
    let l = c.loop-pair in
    let es = a.events.now in
    let R : Reads = event_reads (known editions a.e) es in
    let f = c.next_frame-from_left in
    let g = c.next_frame-from_right in
    let F : Frame = frame_of (Ok (Some c.in-Ok.pair.0)) in
    let G : Frame = frame_of (Ok (Some c.in-Ok.pair.1)) in
    let p = asked a.limit a.e es a.left.now a.lhead l.tl l.lscratch F _ _ (ap frame_of (sym c.in-Ok.ensures.0) ∙ f.ensures) c.allowed-ok.ensures c.sound-table.ensures in
    let q = asked a.limit a.e es a.right.now a.rhead l.tr l.rscratch G _ _ (ap frame_of (sym c.in-Ok.ensures.1) ∙ g.ensures) c.allowed-ok.ensures c.sound-table.ensures in
    let h = here-pair R (asked_events a.limit editions a.e es) a.left.now a.right.now a.lhead a.rhead a.ltail a.rtail a.lscratch.now a.rscratch.now
    (small_of a.left.now c.type_inv.left) (small_of a.right.now c.type_inv.right) c.ranges.lhead.fits c.ranges.rhead.fits
    l.n l.tl l.tr l.lscratch l.rscratch F G l.invariant p q refl refl in
    let n = h.count in
    omega (arith, n)

pub loop-pair-preserved : goal.loop-pair-preserved
loop-pair-preserved c =
    let a = c.args in
    let l = c.loop-pair in
    let es = a.events.now in
    let R : Reads = event_reads (known editions a.e) es in
    let f = c.next_frame-from_left in
    let g = c.next_frame-from_right in
    let F : Frame = frame_of (Ok (Some c.in-Ok.pair.0)) in
    let G : Frame = frame_of (Ok (Some c.in-Ok.pair.1)) in
    let p = asked a.limit a.e es a.left.now a.lhead l.tl l.lscratch F _ _ (ap frame_of (sym c.in-Ok.ensures.0) ∙ f.ensures) c.allowed-ok.ensures c.sound-table.ensures in
    let q = asked a.limit a.e es a.right.now a.rhead l.tr l.rscratch G _ _ (ap frame_of (sym c.in-Ok.ensures.1) ∙ g.ensures) c.allowed-ok.ensures c.sound-table.ensures in
    let h = here-pair R (asked_events a.limit editions a.e es) a.left.now a.right.now a.lhead a.rhead a.ltail a.rtail a.lscratch.now a.rscratch.now
    (small_of a.left.now c.type_inv.left) (small_of a.right.now c.type_inv.right) c.ranges.lhead.fits c.ranges.rhead.fits
    l.n l.tl l.tr l.lscratch l.rscratch F G l.invariant p q refl refl in
    let x = bytes a.limit a.e es a.left.now a.lhead l.tl l.lscratch F p refl _ _ c.record_shown-x.ensures.result_value c.gather.ensures in
    let y = bytes a.limit a.e es a.right.now a.rhead l.tr l.rscratch G q refl _ _ c.record_shown-y.ensures.result_value c.gather-in-loop-pair.ensures in
    let t = ap₂ (λ (u v : List ℕ). alike (fields R u) (fields R v)) (sym x) (sym y) ∙ c.in_default.ensures in
    here-same R (asked_events a.limit editions a.e es) a.left.now a.right.now a.lhead a.rhead a.ltail a.rtail a.lscratch.now a.rscratch.now
    _ _ _ _ _ _ _ _ _ _ (sym (add-one l.n)) refl refl (sym c.gather.ensures) (sym c.gather-in-loop-pair.ensures)
    (h.again t)
