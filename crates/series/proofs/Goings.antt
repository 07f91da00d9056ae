-- Where a frame goes on whatever is left of budget and room; the same record under a later head, in a later ring; places and counts. Assumes nothing.
use Rattle.std.specs.Prelude.{◌≡◌, refl, List, ◌++◌, Bool, true, false, cond, ℕ, ◌+◌, ◌-◌, ◌%◌, ◌^◌, ◌<◌, ◌≤◌, leb, length, take, drop}
use Rattle.std.proofs.Common.{sym, ap, ◌∙◌, subst, ⊎_elim, mod-lt, mod-eq_of_lt, arith, leb-true, leb-false, length-drop}
use Rattle.std.proofs.Math.Nat.{mod-eq-sub-mod}
use Rattle.std.proofs.lemmas.List.{take-append-le, drop-append-le}
use Rattle.std.proofs.Math.Seq.{drop-append-add}
use Rattle.meaning.specs.States.{Frame}
use Rattle.meaning.specs.Bytes.{number_at}
use Rattle.meaning.specs.Ring.{Asked, length_allowed, distance, record_at, go_at, frame}
use Rattle.laws.specs.Bytes.{le-or-lt}
use Rattle.laws.specs.Put.{part_of}
use Rattle.laws.specs.Rings.{Goes, goes-frame, length-bounds, place-moves, record-number, distance-on, apart-counts}
use Rattle.laws.proofs.Framing.{frame-going, header-whole}
use Rattle.series.specs.Series.{Step, reach, between}

-- ---- a record that is there: a budget of one and the room of one entry suffice for it

abbrev pub There : Asked → List ℕ → ℕ → ℕ → ℕ → ℕ → Type 0
There asked ring head tail scratch size = Goes asked ring head tail 1 16 scratch size

-- budget and room may be others
with-means : (asked : Asked) (ring : List ℕ) (head tail left room left' room' scratch size : ℕ) → Goes asked ring head tail left room scratch size
    → 0 < left' → 16 ≤ room' → Goes asked ring head tail left' room' scratch size
with-means asked ring head tail left room left' room' scratch size w l j =
    record {
      beside = w.beside;
      allowed = w.allowed;
      near = w.near;
      head-eights = w.head-eights;
      tail-eights = w.tail-eights;
      unequal = w.unequal;
      budget = l;
      entry = j;
      size_is = w.size_is;
      size_low = w.size_low;
      size-eight = w.size-eight;
      size-near = w.size-near;
      fits = w.fits;
    }

pub there-frame : (asked : Asked) (ring : List ℕ) (head tail left room scratch size : ℕ) → There asked ring head tail scratch size → 0 < left → 16 ≤ room
    → frame asked ring head tail left room scratch ≡ go_at (tail % length ring) size
there-frame asked ring head tail left room scratch size w l j =
    goes-frame asked ring head tail left room scratch size (with-means asked ring head tail 1 16 left room scratch size w l j)

pub frame-there : (asked : Asked) (ring : List ℕ) (head tail left room scratch : ℕ) (f : Frame) → f ≡ frame asked ring head tail left room scratch → f.go ≡ true
    → tail < 2 ^ 64 → There asked ring head tail scratch f.size
frame-there asked ring head tail left room scratch f e g tl =
    let w = frame-going asked ring head tail left room scratch f e g in
    record {
      beside = w.beside;
      allowed = w.allowed;
      near = w.near;
      head-eights = w.head-eights;
      tail-eights = w.tail-eights;
      unequal = apart-counts head tail tl (omega (arith, w.size_low, w.size-near));
      budget = omega arith;
      entry = omega arith;
      size_is = w.size_is ∙ ap (λ (k : ℕ). number_at 2 ring (k + 6)) w.at;
      size_low = w.size_low;
      size-eight = w.size-eight;
      size-near = w.size-near;
      fits = λ h. w.fits (omega (arith, h, w.at));
    }

-- ---- a record under a later head, in a later ring that has the same bytes

pub there-later : (asked : Asked) (ring later : List ℕ) (head onhead tail scratch size : ℕ) → There asked ring head tail scratch size
    → tail < 2 ^ 64 → length ring ≡ length later → onhead % 8 ≡ 0 → distance head tail ≤ distance onhead tail → distance onhead tail ≤ length later
    → record_at ring (tail % length ring) size ≡ record_at later (tail % length later) size
    → There asked later onhead tail scratch size
there-later asked ring later head onhead tail scratch size w tl q h8 near far same =
    let n : ℕ = length ring in
    let m : ℕ = length later in
    let low = w.size_low in
    let allowed : length_allowed m ≡ true = subst (λ (k : ℕ). length_allowed k ≡ true) q w.allowed in
    record {
      beside = w.beside;
      allowed = allowed;
      near = far;
      head-eights = h8;
      tail-eights = w.tail-eights;
      unequal = apart-counts onhead tail tl (omega (arith, low, w.size-near, near));
      budget = omega arith;
      entry = omega arith;
      size_is = w.size_is
          ∙ sym (record-number ring (tail % n) size 2 6 (omega arith) (omega (arith, header-whole tail n w.allowed w.tail-eights)))
          ∙ ap (λ (r : List ℕ). number_at 2 r 6) same
          ∙ record-number later (tail % m) size 2 6 (omega arith) (omega (arith, header-whole tail m allowed w.tail-eights));
      size_low = low;
      size-eight = w.size-eight;
      size-near = omega (arith, w.size-near, near);
      fits = subst (λ (k : ℕ). k < tail % k + size → size ≤ scratch) q w.fits;
    }

-- ---- places

-- the same bytes once round
once-round : (ring : List ℕ) (k n : ℕ) → k + n ≤ length ring → take n (drop (length ring + k) (ring ++ ring)) ≡ take n (drop k (ring ++ ring))
once-round ring k n h =
    ap (take n) (drop-append-add ring ring k)
    ∙ sym (take-append-le n (drop k ring) ring (omega (arith, length-drop k ring)))
    ∙ ap (take n) (sym (drop-append-le k ring ring (omega arith)))

-- a record x bytes past the first tail is a part of the bytes between the first tail and a head
pub between-part : (ring : List ℕ) (tail x n far : ℕ) → length_allowed (length ring) ≡ true → x + n ≤ far → far ≤ length ring
    → record_at ring ((tail + x) % 2 ^ 64 % length ring) n ≡ take n (drop x (between ring tail far))
unfolding record_at
between-part ring tail x n far ok h near =
    let len : ℕ = length ring in
    let pos = (length-bounds len ok).0 in
    let p : ℕ = tail % len in
    let b : p < len = mod-lt tail {m = len} (omega arith) in
    ap (λ (k : ℕ). take n (drop k (ring ++ ring))) (place-moves tail x len ok)
    ∙ ⊎_elim
    (λ (i : len ≤ p + x).
    let e : (p + x) % len ≡ p + x - len = mod-eq-sub-mod i ∙ mod-eq_of_lt (omega arith) in
    let f : len + (p + x - len) ≡ p + x = omega arith in
    ap (λ (k : ℕ). take n (drop k (ring ++ ring))) e
    ∙ sym (once-round ring (p + x - len) n (omega arith))
    ∙ ap (λ (k : ℕ). take n (drop k (ring ++ ring))) f)
    (λ (i : p + x < len). ap (λ (k : ℕ). take n (drop k (ring ++ ring))) (mod-eq_of_lt i))
    (le-or-lt len (p + x))
    ∙ sym (part_of p x n far (ring ++ ring) h)

-- ---- how far a head is

pub reach-most : (tail : ℕ) (s : Step) → reach tail s ≤ length s.ring
unfolding reach
reach-most tail s = by (leb (distance s.head tail) (length s.ring)) refl
  where
    by : (b : Bool) → leb (distance s.head tail) (length s.ring) ≡ b → cond b (distance s.head tail) 0 ≤ length s.ring
    by true e = leb-true (distance s.head tail) (length s.ring) e
    by false e = omega arith

-- a head that is past the first tail
pub reach-past : (tail : ℕ) (s : Step) → 0 < reach tail s → reach tail s ≡ distance s.head tail
unfolding reach
reach-past tail s = by (leb (distance s.head tail) (length s.ring))
  where
    by : (b : Bool) → 0 < cond b (distance s.head tail) 0 → cond b (distance s.head tail) 0 ≡ distance s.head tail
    by true h = refl
    by false h = absurd (omega arith)

-- a head at which something goes on is past the first tail, and as far as its distance says
pub reach_near : (tail x : ℕ) (s : Step) → tail < 2 ^ 64 → x ≤ reach tail s → distance s.head ((tail + x) % 2 ^ 64) ≤ length s.ring
    → x + distance s.head ((tail + x) % 2 ^ 64) ≡ reach tail s
unfolding reach
reach_near tail x s tl h near = by (leb (distance s.head tail) (length s.ring)) refl h
  where
    d : ℕ
    d = distance s.head tail

    by : (b : Bool) → leb d (length s.ring) ≡ b → x ≤ cond b d 0 → x + distance s.head ((tail + x) % 2 ^ 64) ≡ cond b d 0
    by true e i = distance-on s.head tail x tl i
    by false e i =
        let t : (tail + x) % 2 ^ 64 ≡ tail = omega arith in
        absurd (omega (arith, near, ap (distance s.head) t, leb-false d (length s.ring) e))
