-- A side of a comparison: its records are whole, it is cut to its true end, and what its scratch then holds. Assumes nothing.
use Rattle.std.specs.Prelude.{◌≡◌, Bool, length, drop}
use Rattle.std.proofs.Math.Path.{refl}
use Rattle.std.proofs.Common.{ap, ◌∙◌, mod-lt, arith}
use Prim.Native.Nat.{ℕ, zero, suc, ◌+◌, ◌^◌, ◌<◌, ◌≤◌}
use Rattle.std.proofs.Math.Bool.{true, false}
use mathlib.Core.List.{List, [], ◌∷◌, ◌++◌}
use Rattle.std.proofs.Math.ListN.{take}
use Rattle.meaning.specs.States.{Frame}
use Rattle.meaning.specs.Bytes.{small}
use Rattle.meaning.specs.Ring.{Asked, distance, record_at, stop_at, frame}
use Rattle.laws.specs.Bytes.{small-append, small-take, small-drop}
use Rattle.laws.specs.Rings.{frame-stop, distance-on, scratch-length}
use Rattle.runs.specs.Cutting.{Cut, Spot, Cuts, begin, add, cut_at, spot_after, halt, cut_by, All}
use Rattle.runs.proofs.Forward.{frame-going, going-framed}
use Rattle.runs.proofs.Runs.{cut-go, cut-stop}
use Rattle.compare.specs.declared.Compared.{Compared}
use Rattle.compare.specs.Fields.{Reads}
use Rattle.compare.specs.Compared.{Side, side_of, side_cuts, cutting_all, compared, pairs, scratch_then}
use Rattle.compare.specs.Promise.{SoundReads, Whole, TrueReport}
use Rattle.compare.proofs.Meeting.{met, only}

-- what the frames of a side must have, for its head: a record is whole, lies before head, and within one ring length; what does not go on is a stop
pub record Framed (s : Side) (head : ℕ) : Type 0 where
  pub whole : (t m : ℕ) → (s.frame t m).go ≡ true → Whole (record_at s.ring (s.frame t m).place (s.frame t m).size)
  pub low : (t m : ℕ) → (s.frame t m).go ≡ true → 8 ≤ (s.frame t m).size
  pub near : (t m : ℕ) → (s.frame t m).go ≡ true → (s.frame t m).size ≤ distance head t
  pub far : (t m : ℕ) → (s.frame t m).go ≡ true → distance head t ≤ length s.ring
  pub stop : (t m : ℕ) → (s.frame t m).go ≡ false → s.frame t m ≡ stop_at (s.frame t m).stop

small-record : (ring : List ℕ) (place size : ℕ) → small ring ≡ true → small (record_at ring place size) ≡ true
unfolding record_at
small-record ring place size s = small-take size (drop place (ring ++ ring)) (small-drop place (ring ++ ring) (small-append ring ring s s))

-- the frames of a call have it
pub framed-side : (asked : Asked) (ring : List ℕ) (head tail : ℕ) (scratch : List ℕ) → small ring ≡ true → Framed (side_of asked ring head tail scratch) head
framed-side asked ring head tail scratch s = record {
  whole = λ t m g. (
    small-record ring (frame asked ring head t 1 16 m).place (frame asked ring head t 1 16 m).size s,
    (going-framed asked ring head t 1 16 m (frame asked ring head t 1 16 m) (frame-going asked ring head t 1 16 m g)).1,
  );
  low = λ t m g. (frame-going asked ring head t 1 16 m g).size_low;
  near = λ t m g. (frame-going asked ring head t 1 16 m g).size-near;
  far = λ t m g. (frame-going asked ring head t 1 16 m g).near;
  stop = λ t m g. frame-stop asked ring head t 1 16 m g;
}

module _ (s : Side) (head : ℕ) (f : Framed s head) where
  abbrev frames : ℕ → ℕ → ℕ → ℕ → Frame
  frames t k room m = s.frame t m

  abbrev cut : ℕ → Spot → Cuts
  cut n p = cut_by frames s.ring n p

  abbrev at : Spot → Frame
  at p = s.frame p.tail (length p.scratch)

  abbrev moved : Spot → Spot
  moved p = spot_after s.ring p (at p)

  -- by cases: one record more, or the end
  cases : (P : ℕ → Spot → Cuts → Type 0) → ((p : Spot) → P 0 p (halt p (at p))) → ((n : ℕ) (p : Spot) → (at p).go ≡ false → P (suc n) p (halt p (at p)))
      → ((n : ℕ) (p : Spot) → (at p).go ≡ true → P n (moved p) (cut n (moved p)) → P (suc n) p (add (cut_at s.ring p (at p)) (cut n (moved p))))
      → (n : ℕ) (p : Spot) → P n p (cut n p)
  unfolding cut_by
  cases P z e g zero p = z p
  cases P z e g (suc n) p = by (at p).go refl (cases P z e g n (moved p))
    where
      by : (b : Bool) → (at p).go ≡ b → P n (moved p) (cut n (moved p)) → P (suc n) p (cut_by frames s.ring (suc n) p)
      by true q r = rw (cut-go frames s.ring n p q) (g n p q r)
      by false q r = rw (cut-stop frames s.ring (suc n) p q) (e n p q)

  abbrev WholeCut : Cut → Type 0
  WholeCut c = Whole c.record-bytes

  all_whole : (n : ℕ) (p : Spot) → All WholeCut (cut n p).records
  all_whole =
      cases (λ (n : ℕ) (p : Spot) (w : Cuts). All WholeCut w.records) (λ p. tt) (λ n p e. tt)
      (λ n p g r. (f.whole p.tail (length p.scratch) g, r))

  pub side-whole : All WholeCut (cutting_all s).records
  side-whole = all_whole (length s.ring) (begin s.tail 0 s.scratch)

  same-scratch : (n : ℕ) (p : Spot) → length (cut n p).last.scratch ≡ length p.scratch
  same-scratch =
      cases (λ (n : ℕ) (p : Spot) (w : Cuts). length w.last.scratch ≡ length p.scratch) (λ p. refl) (λ n p e. refl)
      (λ n p g r. r ∙ scratch-length s.ring (at p).place (at p).size p.scratch)

  -- a scratch keeps its length
  pub scratch-long : (c : Compared) → length (scratch_then c s) ≡ length s.scratch
  scratch-long c = same-scratch (pairs c) (begin s.tail 0 s.scratch)

  -- the records that were looked at are the first ones
  first-records : (n : ℕ) (p : Spot) (j : ℕ) → j ≤ n → (cut j p).records ≡ take j (cut n p).records
  unfolding cut_by
  first-records =
      cases (λ (n : ℕ) (p : Spot) (w : Cuts). (j : ℕ) → j ≤ n → (cut j p).records ≡ take j w.records) (λ p. start p) (λ n p e. at-end n p e) (λ n p g r. go n p g r)
    where
      start : (p : Spot) (j : ℕ) → j ≤ 0 → (cut j p).records ≡ take j []
      start p zero h = refl
      start p (suc j) h = absurd (omega (arith, h))

      at-end : (n : ℕ) (p : Spot) → (at p).go ≡ false → (j : ℕ) → j ≤ suc n → (cut j p).records ≡ take j []
      at-end n p e zero h = refl
      at-end n p e (suc j) h = ap (λ (w : Cuts). w.records) (cut-stop frames s.ring (suc j) p e)

      go : (n : ℕ) (p : Spot) → (at p).go ≡ true → ((j : ℕ) → j ≤ n → (cut j (moved p)).records ≡ take j (cut n (moved p)).records)
          → (j : ℕ) → j ≤ suc n → (cut j p).records ≡ take j (cut_at s.ring p (at p) ∷ (cut n (moved p)).records)
      go n p g r zero h = refl
      go n p g r (suc j) h =
          ap (λ (w : Cuts). w.records) (cut-go frames s.ring j p g) ∙ ap (λ (cs : List Cut). cut_at s.ring p (at p) ∷ cs) (r j (omega (arith, h)))

  pub side-first : (j : ℕ) → j ≤ length s.ring → (side_cuts s j).records ≡ take j (cutting_all s).records
  side-first j h = first-records (length s.ring) (begin s.tail 0 s.scratch) j h

  -- the length of the ring is enough: what ends the cutting is a stop of the frames, at the last place
  abbrev Enough : ℕ → Spot → Cuts → Type 0
  Enough n p w = ((at p).go ≡ true → distance head p.tail ≤ n) → p.tail < 2 ^ 64 → at w.last ≡ stop_at w.stop

  enough : head < 2 ^ 64 → (n : ℕ) (p : Spot) → Enough n p (cut n p)
  enough hd = cases Enough (λ p h t. start p h (at p).go refl) (λ n p e h t. f.stop p.tail (length p.scratch) e) (λ n p g r h t. go n p g r (h g) t)
    where
      start : (p : Spot) → ((at p).go ≡ true → distance head p.tail ≤ 0) → (b : Bool) → (at p).go ≡ b → at p ≡ stop_at (at p).stop
      start p h true e =
          absurd (let d = h e in let a = f.low p.tail (length p.scratch) e in let b = f.near p.tail (length p.scratch) e in omega (arith, d, a, b))
      start p h false e = f.stop p.tail (length p.scratch) e

      go : (n : ℕ) (p : Spot) → (at p).go ≡ true → Enough n (moved p) (cut n (moved p)) → distance head p.tail ≤ suc n → p.tail < 2 ^ 64
          → at (cut n (moved p)).last ≡ stop_at (cut n (moved p)).stop
      go n p g r d t =
          let a = f.low p.tail (length p.scratch) g in
          let b = f.near p.tail (length p.scratch) g in
          let e = distance-on head p.tail (at p).size t b in
          r (λ q. omega (arith, a, d, e)) (mod-lt (p.tail + (at p).size) {m = 2 ^ 64} (omega arith))

  pub side-ends : head < 2 ^ 64 → s.tail < 2 ^ 64 → s.frame (cutting_all s).last.tail (length (cutting_all s).last.scratch) ≡ stop_at (cutting_all s).stop
  side-ends hd t = enough hd (length s.ring) (begin s.tail 0 s.scratch) (λ g. f.far s.tail (length s.scratch) g) t

-- ---- the comparison

-- "Each pair before the reported place is equal under demand 2, and the named field differs"
pub compared-told : (R : Reads) (l r : Side) (hl hr : ℕ) → SoundReads R → Framed l hl → Framed r hr → TrueReport R (cutting_all l) (cutting_all r) (compared R l r)
unfolding compared
compared-told R l r hl hr good fl fr = met R good (cutting_all l) (cutting_all r) (side-whole l hl fl) (side-whole r hr fr)

-- and no other report would say so
pub compared-only : (R : Reads) (l r : Side) (hl hr : ℕ) (c : Compared) → SoundReads R → Framed l hl → Framed r hr → TrueReport R (cutting_all l) (cutting_all r) c → c ≡ compared R l r
unfolding compared
compared-only R l r hl hr c good fl fr t = only R good (cutting_all l) (cutting_all r) (side-whole l hl fl) (side-whole r hr fr) c t
