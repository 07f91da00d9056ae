-- M-108, "each with pointers and a scratch": what a comparison leaves in each scratch. Of the records of a side that were looked at at most one crosses its ring's
-- end, so at most one is copied: "After a copy the scratch begins with the record and its other bytes are unchanged"; "In all other cases the scratch is unchanged".
-- Assumes nothing.
use Rattle.std.specs.Prelude.{◌≡◌, List, ◌∷◌, true, false, length, get_or, take, drop}
use Rattle.std.proofs.Math.Path.{refl, subst}
use Rattle.std.proofs.Common.{sym, ap, ◌∙◌, arith}
use Rattle.std.proofs.Math.Bool.{Bool, cond}
use Prim.Native.Nat.{ℕ, zero, suc, ◌-◌, ◌*◌, ◌^◌, ◌<◌, ◌≤◌}
use borrow.Author.Tests.{ne_eqb, le-ltb}
use Rattle.meaning.specs.declared.Event.{Event}
use Rattle.meaning.specs.States.{Frame}
use Rattle.meaning.specs.Bytes.{put}
use Rattle.meaning.specs.Editions.{editions, known}
use Rattle.meaning.specs.Ring.{Asked, distance, frame}
use Rattle.meaning.specs.Events.{asked_events}
use Rattle.runs.specs.Cutting.{Cut, Spot, Cuts, begin, add, cut_at, spot_after, halt, cut_by, All, nothing_cut}
use Rattle.runs.proofs.Crossing.{OneCrosses, one-crosses}
use Rattle.runs.proofs.Forward.{Kept, Shaped, frame-steps, frame-lies}
use Rattle.compare.specs.declared.Compared.{Compared}
use Rattle.compare.specs.Compared.{compared, pairs, scratch_then, event_reads, Side, side_of, side_cuts}
use Rattle.comparing.specs.Table.{left_side, right_side}
use Rattle.promises.proofs.Scratch.{lies_whole, drain-all-whole, drain-copied, put_holds}

module _ (asked : Asked) (ring : List ℕ) (head : ℕ) where
  -- of budget and journal room a frame asks whether there is a record's
  frame-any : (t left room m : ℕ) → 0 < left → 16 ≤ room → frame asked ring head t left room m ≡ frame asked ring head t 1 16 m
  unfolding frame
  frame-any t left room m l r = rw (ne_eqb left 0 (λ z. omega (arith, l, z)), le-ltb room 16 r) refl

  abbrev narrow : ℕ → ℕ → ℕ → ℕ → Frame
  narrow t n room m = frame asked ring head t 1 16 m

  abbrev Same : Cuts → Cuts → Type 0
  Same v w = (v.records ≡ w.records) × (v.last.scratch ≡ w.last.scratch)

  abbrev spot : ℕ → ℕ → ℕ → List ℕ → Spot
  spot tail bytes room scratch = record { tail = tail; bytes = bytes; room = room; scratch = scratch }

  -- n records of a side are the first n that a drain takes, with a budget and a journal for n
  as-drain : (n tail bytes any room : ℕ) (scratch : List ℕ) → 16 * n ≤ room
      → Same (cut_by narrow ring n (spot tail bytes any scratch)) (cut_by (frame asked ring head) ring n (spot tail bytes room scratch))
  unfolding cut_by
  as-drain zero tail bytes any room scratch r = (refl, refl)
  as-drain (suc n) tail bytes any room scratch r =
      let f : Frame = frame asked ring head tail 1 16 (length scratch) in
      let p : Spot = spot_after ring (spot tail bytes any scratch) f in
      subst (λ (g : Frame). Same (cut_by narrow ring (suc n) (spot tail bytes any scratch)) (drained g g.go)) (sym (frame-any tail (suc n) room (length scratch) (omega arith) (omega (arith, r))))
      (by f f.go (as-drain n p.tail p.bytes (any - 16) (room - 16) p.scratch (omega (arith, r))))
    where
      compares : Frame → Bool → Cuts
      compares g b = cond b (add (cut_at ring (spot tail bytes any scratch) g) (cut_by narrow ring n (spot_after ring (spot tail bytes any scratch) g))) (halt (spot tail bytes any scratch) g)

      drained : Frame → Bool → Cuts
      drained g b =
          cond b (add (cut_at ring (spot tail bytes room scratch) g) (cut_by (frame asked ring head) ring n (spot_after ring (spot tail bytes room scratch) g))) (halt (spot tail bytes room scratch) g)

      by : (g : Frame) (b : Bool)
          → Same (cut_by narrow ring n (spot_after ring (spot tail bytes any scratch) g)) (cut_by (frame asked ring head) ring n (spot_after ring (spot tail bytes room scratch) g))
          → Same (compares g b) (drained g b)
      by g true w = (ap (λ (cs : List Cut). cut_at ring (spot tail bytes any scratch) g ∷ cs) w.0, w.1)
      by g false w = (refl, refl)

  module _ (tail : ℕ) (scratch : List ℕ) (hd : head < 2 ^ 64) (n : ℕ) where
    abbrev looked : List Cut
    looked = (side_cuts (side_of asked ring head tail scratch) n).records

    abbrev left_there : List ℕ
    left_there = (side_cuts (side_of asked ring head tail scratch) n).last.scratch

    alike : Same (side_cuts (side_of asked ring head tail scratch) n) (cut_by (frame asked ring head) ring n (begin tail (16 * n) scratch))
    alike = as-drain n tail 0 0 (16 * n) scratch (omega arith)

    abbrev bytes-at : ℕ → List ℕ
    bytes-at i = (get_or looked i nothing_cut).record-bytes

    -- at most one crosses the ring's end
    side-crosses-once : tail < 2 ^ 64 → OneCrosses ring looked
    side-crosses-once tl =
        let all : ℕ = distance head tail in
        subst (OneCrosses ring) (sym alike.0)
        (one-crosses ring (Kept ring head all) Shaped (λ (q : Spot). distance head q.tail) (frame asked ring head) (frame-steps asked ring head hd all) (frame-lies asked ring head hd all) n
        (begin tail (16 * n) scratch) (tl, omega arith))

    -- every record that was looked at lies whole: the scratch is unchanged
    side-kept : All (λ (c : Cut). lies_whole ring c ≡ true) looked → left_there ≡ scratch
    side-kept w =
        alike.1
        ∙ drain-all-whole asked ring head hd n (begin tail (16 * n) scratch) (subst (λ (cs : List Cut). All (λ (c : Cut). lies_whole ring c ≡ true) cs) alike.0 w)

    abbrev Copied : ℕ → List Cut → List ℕ → Type 0
    Copied i cs l = i < length cs → lies_whole ring (get_or cs i nothing_cut) ≡ false
        → (l ≡ put scratch 0 (get_or cs i nothing_cut).record-bytes) × (length (get_or cs i nothing_cut).record-bytes ≤ length scratch)

    -- the one that crosses the end is what the scratch begins with, the other bytes unchanged
    side-copied : tail < 2 ^ 64 → (i : ℕ) → i < length looked → lies_whole ring (get_or looked i nothing_cut) ≡ false
        → (take (length (bytes-at i)) left_there ≡ bytes-at i) × (drop (length (bytes-at i)) left_there ≡ drop (length (bytes-at i)) scratch)
    side-copied tl i h w =
        let q : Spot = begin tail (16 * n) scratch in
        let drained : Cuts = cut_by (frame asked ring head) ring n q in
        let k : Copied i looked left_there =
        subst (λ (cs : List Cut). Copied i cs left_there) (sym alike.0)
        (subst (Copied i drained.records) (sym alike.1) (drain-copied asked ring head hd n q tl i)) in
        let c = k h w in
        rw c.0 (put_holds scratch (bytes-at i) (length (bytes-at i)) refl c.1)

-- ---- as `ollskuvan_compare` takes two rings
module _ (limit e : ℕ) (es : List Event) (ring₁ ring₂ : List ℕ) (head₁ head₂ tail₁ tail₂ : ℕ) (scratch₁ scratch₂ : List ℕ) where
  abbrev left : Side
  left = left_side limit editions e es ring₁ ring₂ head₁ head₂ tail₁ tail₂ scratch₁ scratch₂

  abbrev right : Side
  right = right_side limit editions e es ring₁ ring₂ head₁ head₂ tail₁ tail₂ scratch₁ scratch₂

  abbrev report : Compared
  report = compared (event_reads (known editions e) es) left right

  -- the records of a side that were looked at: those of the equal pairs, and of the one that differs
  abbrev looked_at : Side → List Cut
  looked_at s = (side_cuts s (pairs report)).records

  abbrev record-at : Side → ℕ → List ℕ
  record-at s i = (get_or (looked_at s) i nothing_cut).record-bytes

  pub left-crosses-once : head₁ < 2 ^ 64 → tail₁ < 2 ^ 64 → OneCrosses ring₁ (looked_at left)
  left-crosses-once hd = side-crosses-once (asked_events limit editions e es) ring₁ head₁ tail₁ scratch₁ hd (pairs report)

  pub right-crosses-once : head₂ < 2 ^ 64 → tail₂ < 2 ^ 64 → OneCrosses ring₂ (looked_at right)
  right-crosses-once hd = side-crosses-once (asked_events limit editions e es) ring₂ head₂ tail₂ scratch₂ hd (pairs report)

  pub left-scratch-kept : head₁ < 2 ^ 64 → All (λ (c : Cut). lies_whole ring₁ c ≡ true) (looked_at left) → scratch_then report left ≡ scratch₁
  left-scratch-kept hd = side-kept (asked_events limit editions e es) ring₁ head₁ tail₁ scratch₁ hd (pairs report)

  pub right-scratch-kept : head₂ < 2 ^ 64 → All (λ (c : Cut). lies_whole ring₂ c ≡ true) (looked_at right) → scratch_then report right ≡ scratch₂
  right-scratch-kept hd = side-kept (asked_events limit editions e es) ring₂ head₂ tail₂ scratch₂ hd (pairs report)

  pub left-scratch-copied : head₁ < 2 ^ 64 → tail₁ < 2 ^ 64 → (i : ℕ) → i < length (looked_at left) → lies_whole ring₁ (get_or (looked_at left) i nothing_cut) ≡ false
      → (take (length (record-at left i)) (scratch_then report left) ≡ record-at left i)
      × (drop (length (record-at left i)) (scratch_then report left) ≡ drop (length (record-at left i)) scratch₁)
  left-scratch-copied hd = side-copied (asked_events limit editions e es) ring₁ head₁ tail₁ scratch₁ hd (pairs report)

  pub right-scratch-copied : head₂ < 2 ^ 64 → tail₂ < 2 ^ 64 → (i : ℕ) → i < length (looked_at right) → lies_whole ring₂ (get_or (looked_at right) i nothing_cut) ≡ false
      → (take (length (record-at right i)) (scratch_then report right) ≡ record-at right i)
      × (drop (length (record-at right i)) (scratch_then report right) ≡ drop (length (record-at right i)) scratch₂)
  right-scratch-copied hd = side-copied (asked_events limit editions e es) ring₂ head₂ tail₂ scratch₂ hd (pairs report)
