-- The loop over records, as laws about plain values: where it stands, one turn of it, and each of its ends. Assumes nothing.
use Rattle.std.proofs.Math.Path.{◌≡◌, refl, ap, ap₂}
use Rattle.std.proofs.Common.{sym, ◌∙◌, mod-lt, add-zero, add-one, arith}
use Prim.Native.Nat.{ℕ, zero, suc, ◌+◌, ◌^◌, ◌<◌, ◌≤◌}
use Rattle.std.specs.Prelude.{Bool, cond, ◌&&◌}
use Rattle.std.proofs.Math.Bool.{true, false}
use mathlib.Core.List.{List, [], ◌∷◌}
use Rattle.std.proofs.Math.ListN.{length}
use Rattle.std.proofs.Math.Dec.{eqb}
use borrow.Author.Tests.{ne_eqb, eq-eqb, eqb-true, eqb-false}
use Rattle.meaning.specs.States.{Frame}
use Rattle.meaning.specs.Ring.{distance, record_at}
use Rattle.laws.specs.Bytes.{apart}
use Rattle.laws.specs.Rings.{distance-on}
use Rattle.runs.specs.Cutting.{Cut, Spot, Cuts, begin, cut_at, spot_after, halt, cut_by}
use Rattle.runs.proofs.Runs.{cut-go, cut-stop}
use Rattle.compare.specs.declared.Compared.{Compared}
use Rattle.compare.specs.Fields.{Reads, fields}
use Rattle.compare.specs.Compared.{alike, agree, all_alike, differs, ends_first, stops, meet, Side, side_cuts, compared, pairs, scratch_then}
use Rattle.compare.proofs.Sides.{Framed}
use Rattle.compare.specs.Turns.{end_of}

-- the next frame of a side, and the place after its record
abbrev pub side_frame : Side → Spot → Frame
side_frame s p = s.frame p.tail (length p.scratch)

abbrev pub cut_from : Side → ℕ → Spot → Cuts
cut_from s n p = cut_by (λ t k room m. s.frame t m) s.ring n p

abbrev pub place_after : Side → Spot → Spot
place_after s p = spot_after s.ring p (side_frame s p)

abbrev pub shown_at : Side → Spot → List ℕ
shown_at s p = record_at s.ring (side_frame s p).place (side_frame s p).size

-- one record more, at the end of n
more_by : (s : Side) (n : ℕ) (p : Spot) → (cut_from s (suc n) p).last ≡ (cut_from s 1 (cut_from s n p).last).last
unfolding cut_by
more_by s zero p = refl
more_by s (suc n) p = by (side_frame s p).go refl (more_by s n (place_after s p))
  where
    by : (b : Bool) → (side_frame s p).go ≡ b → (cut_from s (suc n) (place_after s p)).last ≡ (cut_from s 1 (cut_from s n (place_after s p)).last).last
        → (cut_from s (suc (suc n)) p).last ≡ (cut_from s 1 (cut_from s (suc n) p).last).last
    by true g h =
        ap (λ (w : Cuts). w.last) (cut-go (λ t k room m. s.frame t m) s.ring (suc n) p g) ∙ h
        ∙ ap (λ (w : Cuts). (cut_from s 1 w.last).last) (sym (cut-go (λ t k room m. s.frame t m) s.ring n p g))
    by false g h =
        let e = cut-stop (λ t k room m. s.frame t m) s.ring (suc n) p g in
        ap (λ (w : Cuts). w.last) (cut-stop (λ t k room m. s.frame t m) s.ring (suc (suc n)) p g)
        ∙ ap (λ (w : Cuts). w.last) (sym (cut-stop (λ t k room m. s.frame t m) s.ring 1 p g))
        ∙ ap (λ (w : Cuts). (cut_from s 1 w.last).last) (sym e)

one-go : (s : Side) (p : Spot) → (side_frame s p).go ≡ true → (cut_from s 1 p).last ≡ place_after s p
unfolding cut_by
one-go s p g = ap (λ (w : Cuts). w.last) (cut-go (λ t k room m. s.frame t m) s.ring 0 p g)

-- where a side stands after n records: j more are enough
pub record SideStands (s : Side) (head n j : ℕ) (p : Spot) : Type 0 where
  pub here : (side_cuts s n).last ≡ p
  pub enough : (side_frame s p).go ≡ true → distance head p.tail ≤ j
  pub tail : p.tail < 2 ^ 64

pub stands-start : (s : Side) (head : ℕ) → Framed s head → s.tail < 2 ^ 64 → SideStands s head 0 (length s.ring) (begin s.tail 0 s.scratch)
unfolding cut_by
stands-start s head f t = record { here = refl; enough = λ g. f.far s.tail (length s.scratch) g; tail = t }

-- nothing is left where nothing is enough
some_left : (s : Side) (head n j : ℕ) (p : Spot) → Framed s head → SideStands s head n j p → (side_frame s p).go ≡ true → 8 ≤ j
some_left s head n j p f h g =
    let a = f.low p.tail (length p.scratch) g in
    let b = f.near p.tail (length p.scratch) g in
    let c = h.enough g in
    omega (arith, a, b, c)

pub stands-next : (s : Side) (head n j : ℕ) (p : Spot) → head < 2 ^ 64 → Framed s head → SideStands s head n (suc j) p → (side_frame s p).go ≡ true → SideStands s head (suc n) j (place_after s p)
stands-next s head n j p hd f h g =
    let a = f.low p.tail (length p.scratch) g in
    let b = f.near p.tail (length p.scratch) g in
    let c = h.enough g in
    let d = distance-on head p.tail (side_frame s p).size h.tail b in
    record {
      here = more_by s n (begin s.tail 0 s.scratch) ∙ ap (λ (q : Spot). (cut_from s 1 q).last) h.here ∙ one-go s p g;
      enough = λ q. omega (arith, a, c, d);
      tail = mod-lt (p.tail + (side_frame s p).size) {m = 2 ^ 64} (omega arith);
    }

-- where the comparison stands: n pairs are equal, and what is still to come is the whole
pub record ComparedHolds (R : Reads) (l r : Side) (hl hr n : ℕ) (p q : Spot) : Type 0 where
  pub j : ℕ
  pub k : ℕ
  pub left : SideStands l hl n j p
  pub right : SideStands r hr n k q
  pub whole : meet R (cut_from l j p).stop (cut_from r k q).stop n (cut_from l j p).records (cut_from r k q).records ≡ compared R l r
  -- the count has room: a record has 8 bytes
  pub count : n + j ≤ length l.ring

module _ (R : Reads) (l r : Side) (hl hr : ℕ) (fl : Framed l hl) (fr : Framed r hr) where
  pub holds-start : l.tail < 2 ^ 64 → r.tail < 2 ^ 64 → ComparedHolds R l r hl hr 0 (begin l.tail 0 l.scratch) (begin r.tail 0 r.scratch)
  unfolding compared
  holds-start a b = record {
    j = length l.ring;
    k = length r.ring;
    left = stands-start l hl fl a;
    right = stands-start r hr fr b;
    whole = refl;
    count = omega arith;
  }

  -- ---- what is told at an end, and what both scratches then hold
  pub record Ends (n : ℕ) (p q : Spot) (c : Compared) : Type 0 where
    pub told : c ≡ compared R l r
    pub left : scratch_then c l ≡ p.scratch
    pub right : scratch_then c r ≡ q.scratch

  ends_at : (n : ℕ) (p q : Spot) (c : Compared) → ComparedHolds R l r hl hr n p q → c ≡ compared R l r → pairs c ≡ n → Ends n p q c
  ends_at n p q c h e m = record {
    told = e;
    left = ap (λ (i : ℕ). (side_cuts l i).last.scratch) m ∙ ap (λ (x : Spot). x.scratch) h.left.here;
    right = ap (λ (i : ℕ). (side_cuts r i).last.scratch) m ∙ ap (λ (x : Spot). x.scratch) h.right.here;
  }

  stop-left : (j : ℕ) (p : Spot) → (side_frame l p).go ≡ false → cut_from l j p ≡ halt p (side_frame l p)
  stop-left j p g = cut-stop (λ t k room m. l.frame t m) l.ring j p g

  stop-right : (k : ℕ) (q : Spot) → (side_frame r q).go ≡ false → cut_from r k q ≡ halt q (side_frame r q)
  stop-right k q g = cut-stop (λ t i room m. r.frame t m) r.ring k q g

  first-stop : (n s t : ℕ) (ys : List Cut) → (s ≡ 0 → ⊥) → meet R s t n [] ys ≡ stops 4 s n
  unfolding meet
  first-stop n s t [] e = rw (ne_eqb s 0 e)
  first-stop n s t (y ∷ ys) e = rw (ne_eqb s 0 e)

  second-stop : (n s t : ℕ) (xs : List Cut) → (t ≡ 0 → ⊥) → (xs ≡ [] → s ≡ 0) → meet R s t n xs [] ≡ stops 5 t n
  unfolding meet
  second-stop n s t [] e z = rw (ne_eqb t 0 e, z refl)
  second-stop n s t (x ∷ xs) e z = rw (ne_eqb t 0 e)

  left-met : (n s t : ℕ) (y : Cut) (ys : List Cut) → s ≡ 0 → meet R s t n [] (y ∷ ys) ≡ ends_first 2 n
  unfolding meet
  left-met n s t y ys e = rw (eq-eqb s 0 e)

  right-met : (n s t : ℕ) (x : Cut) (xs : List Cut) → t ≡ 0 → meet R s t n (x ∷ xs) [] ≡ ends_first 3 n
  unfolding meet
  right-met n s t x xs e = rw (eq-eqb t 0 e)

  same_met : (n s t : ℕ) (x y : Cut) (xs ys : List Cut) → alike (fields R x.record-bytes) (fields R y.record-bytes) ≡ true
      → meet R s t n (x ∷ xs) (y ∷ ys) ≡ meet R s t (suc n) xs ys
  unfolding meet
  same_met n s t x y xs ys e = rw e

  other-met : (n s t : ℕ) (x y : Cut) (xs ys : List Cut) → alike (fields R x.record-bytes) (fields R y.record-bytes) ≡ false
      → meet R s t n (x ∷ xs) (y ∷ ys) ≡ differs n (agree (fields R x.record-bytes) (fields R y.record-bytes))
  unfolding meet
  other-met n s t x y xs ys e = rw e

  -- the left side stops
  pub left-stops : (n : ℕ) (p q : Spot) → ComparedHolds R l r hl hr n p q → (side_frame l p).go ≡ false → ((side_frame l p).stop ≡ 0 → ⊥) → Ends n p q (stops 4 (side_frame l p).stop n)
  left-stops n p q h g e =
      let w = h.whole in
      let a = stop-left h.j p g in
      ends_at n p q _ h
      (sym (first-stop n (side_frame l p).stop (cut_from r h.k q).stop (cut_from r h.k q).records e)
      ∙ ap (λ (x : Cuts). meet R x.stop (cut_from r h.k q).stop n x.records (cut_from r h.k q).records) (sym a) ∙ w)
      (add-zero n)

  -- the left side has ended or goes on, and the right side stops
  pub right-stops : (n : ℕ) (p q : Spot) → ComparedHolds R l r hl hr n p q → ((side_frame l p).go ≡ false → (side_frame l p).stop ≡ 0) → (side_frame r q).go ≡ false
      → ((side_frame r q).stop ≡ 0 → ⊥) → Ends n p q (stops 5 (side_frame r q).stop n)
  unfolding cut_by
  right-stops n p q h z g e =
      let b = stop-right h.k q g in
      ends_at n p q _ h
      (sym (second-stop n (cut_from l h.j p).stop (side_frame r q).stop (cut_from l h.j p).records e (ended h.j h.left))
      ∙ ap (λ (x : Cuts). meet R (cut_from l h.j p).stop x.stop n (cut_from l h.j p).records x.records) (sym b) ∙ h.whole)
      (add-zero n)
    where
      -- a side that shows no record more has ended
      by : (j : ℕ) (b : Bool) → (side_frame l p).go ≡ b → SideStands l hl n j p → (cut_from l j p).records ≡ [] → (cut_from l j p).stop ≡ 0
      by j false g h e = ap (λ (x : Cuts). x.stop) (stop-left j p g) ∙ z g
      by zero true g h e = absurd (let a = some_left l hl n 0 p fl h g in omega (arith, a))
      by (suc j) true g h e =
          let c = ap (λ (x : Cuts). x.records) (cut-go (λ t k room m. l.frame t m) l.ring j p g) in
          absurd (let a : ◌≡◌ {A = ℕ} (suc (length (cut_from l j (place_after l p)).records)) 0 = ap length (sym c ∙ e) in omega (arith, a))

      ended : (j : ℕ) → SideStands l hl n j p → (cut_from l j p).records ≡ [] → (cut_from l j p).stop ≡ 0
      ended j h e = by j (side_frame l p).go refl h e

  -- both have ended
  pub both-ended : (n : ℕ) (p q : Spot) → ComparedHolds R l r hl hr n p q → (side_frame l p).go ≡ false → (side_frame l p).stop ≡ 0 → (side_frame r q).go ≡ false → (side_frame r q).stop ≡ 0
      → Ends n p q (all_alike n)
  unfolding meet
  both-ended n p q h g y g₁ z =
      let a = stop-left h.j p g in
      let b = stop-right h.k q g₁ in
      let m : meet R (side_frame l p).stop (side_frame r q).stop n [] [] ≡ all_alike n = rw (y, z) in
      ends_at n p q (all_alike n) h
      (sym m ∙ ap₂ (λ (x y : Cuts). meet R x.stop y.stop n x.records y.records) (sym a) (sym b) ∙ h.whole)
      (add-zero n)

  -- one has ended, and the other goes on
  pub left-ends : (n : ℕ) (p q : Spot) → ComparedHolds R l r hl hr n p q → (side_frame l p).go ≡ false → (side_frame l p).stop ≡ 0 → (side_frame r q).go ≡ true → Ends n p q (ends_first 2 n)
  left-ends n p q h g z g₁ = ends_at n p q (ends_first 2 n) h (by h.k h.right h.whole) (add-zero n)
    where
      by : (k : ℕ) → SideStands r hr n k q → meet R (cut_from l h.j p).stop (cut_from r k q).stop n (cut_from l h.j p).records (cut_from r k q).records ≡ compared R l r
          → ends_first 2 n ≡ compared R l r
      by zero s w = absurd (let a = some_left r hr n 0 q fr s g₁ in omega (arith, a))
      by (suc k) s w =
          sym (left-met n (side_frame l p).stop (cut_from r k (place_after r q)).stop (cut_at r.ring q (side_frame r q)) (cut_from r k (place_after r q)).records z)
          ∙ ap₂ (λ (x y : Cuts). meet R x.stop y.stop n x.records y.records) (sym (stop-left h.j p g)) (sym (cut-go (λ t i room m. r.frame t m) r.ring k q g₁)) ∙ w

  pub right-ends : (n : ℕ) (p q : Spot) → ComparedHolds R l r hl hr n p q → (side_frame l p).go ≡ true → (side_frame r q).go ≡ false → (side_frame r q).stop ≡ 0 → Ends n p q (ends_first 3 n)
  right-ends n p q h g₁ g z = ends_at n p q (ends_first 3 n) h (by h.j h.left h.whole) (add-zero n)
    where
      by : (j : ℕ) → SideStands l hl n j p → meet R (cut_from l j p).stop (cut_from r h.k q).stop n (cut_from l j p).records (cut_from r h.k q).records ≡ compared R l r
          → ends_first 3 n ≡ compared R l r
      by zero s w = absurd (let a = some_left l hl n 0 p fl s g₁ in omega (arith, a))
      by (suc j) s w =
          sym (right-met n (cut_from l j (place_after l p)).stop (side_frame r q).stop (cut_at l.ring p (side_frame l p)) (cut_from l j (place_after l p)).records z)
          ∙ ap₂ (λ (x y : Cuts). meet R x.stop y.stop n x.records y.records) (sym (cut-go (λ t i room m. l.frame t m) l.ring j p g₁)) (sym (stop-right h.k q g)) ∙ w

  -- ---- one pair: equal, and on; or not, and the end

  pub record Pair (n : ℕ) (p q : Spot) : Type 0 where
    pub again : alike (fields R (shown_at l p)) (fields R (shown_at r q)) ≡ true → ComparedHolds R l r hl hr (suc n) (place_after l p) (place_after r q)
    pub differ : alike (fields R (shown_at l p)) (fields R (shown_at r q)) ≡ false
        → Ends (suc n) (place_after l p) (place_after r q) (differs n (agree (fields R (shown_at l p)) (fields R (shown_at r q))))
    pub count : n < length l.ring

  pub pair : hl < 2 ^ 64 → hr < 2 ^ 64 → (n : ℕ) (p q : Spot) → ComparedHolds R l r hl hr n p q → (side_frame l p).go ≡ true → (side_frame r q).go ≡ true → Pair n p q
  pair dl dr n p q h g₁ g₂ = by h.j h.k h.left h.right h.whole h.count
    where
      by : (j k : ℕ) → SideStands l hl n j p → SideStands r hr n k q
          → meet R (cut_from l j p).stop (cut_from r k q).stop n (cut_from l j p).records (cut_from r k q).records ≡ compared R l r → n + j ≤ length l.ring → Pair n p q
      by zero k s t w m = absurd (let a = some_left l hl n 0 p fl s g₁ in omega (arith, a))
      by (suc j) zero s t w m = absurd (let a = some_left r hr n 0 q fr t g₂ in omega (arith, a))
      by (suc j) (suc k) s t w m =
          let x = cut_from l j (place_after l p) in
          let y = cut_from r k (place_after r q) in
          let s₁ = stands-next l hl n j p dl fl s g₁ in
          let t₁ = stands-next r hr n k q dr fr t g₂ in
          let e : meet R x.stop y.stop n (cut_at l.ring p (side_frame l p) ∷ x.records) (cut_at r.ring q (side_frame r q) ∷ y.records) ≡ compared R l r =
          ap₂ (λ (x y : Cuts). meet R x.stop y.stop n x.records y.records) (sym (cut-go (λ t i room m. l.frame t m) l.ring j p g₁)) (sym (cut-go (λ t i room m. r.frame t m) r.ring k q g₂)) ∙ w in
          record {
            again = λ a. record {
              j = j;
              k = k;
              left = s₁;
              right = t₁;
              whole = sym (same_met n x.stop y.stop (cut_at l.ring p (side_frame l p)) (cut_at r.ring q (side_frame r q)) x.records y.records a) ∙ e;
              count = omega (arith, m);
            };
            differ = λ a. record {
              told = sym (other-met n x.stop y.stop (cut_at l.ring p (side_frame l p)) (cut_at r.ring q (side_frame r q)) x.records y.records a) ∙ e;
              left = ap (λ (i : ℕ). (side_cuts l i).last.scratch) (add-one n) ∙ ap (λ (z : Spot). z.scratch) s₁.here;
              right = ap (λ (i : ℕ). (side_cuts r i).last.scratch) (add-one n) ∙ ap (λ (z : Spot). z.scratch) t₁.here;
            };
            count = omega (arith, m);
          }

  -- ---- any end: left is asked first

  pub ends-any : (n : ℕ) (p q : Spot) → ComparedHolds R l r hl hr n p q → (side_frame l p).go && (side_frame r q).go ≡ false → Ends n p q (end_of (side_frame l p) (side_frame r q) n)
  unfolding end_of
  ends-any n p q h g = by (side_frame l p).go (side_frame r q).go (eqb (side_frame l p).stop 0) (eqb (side_frame r q).stop 0) refl refl refl refl g
    where
      by : (a b c d : Bool) → (side_frame l p).go ≡ a → (side_frame r q).go ≡ b → eqb (side_frame l p).stop 0 ≡ c → eqb (side_frame r q).stop 0 ≡ d → a && b ≡ false
          → Ends n p q (cond a (cond d (ends_first 3 n) (stops 5 (side_frame r q).stop n))
          (cond c (cond b (ends_first 2 n) (cond d (all_alike n) (stops 5 (side_frame r q).stop n))) (stops 4 (side_frame l p).stop n)))
      by true true c d e f x y z = absurd (apart (sym z))
      by true false c true e f x y z = right-ends n p q h e f (eqb-true _ _ y)
      by true false c false e f x y z = right-stops n p q h (λ w. absurd (apart (sym w ∙ e))) f (eqb-false _ _ y)
      by false true true d e f x y z = left-ends n p q h e (eqb-true _ _ x) f
      by false false true true e f x y z = both-ended n p q h e (eqb-true _ _ x) f (eqb-true _ _ y)
      by false false true false e f x y z = right-stops n p q h (λ w. eqb-true _ _ x) f (eqb-false _ _ y)
      by false b false d e f x y z = left-stops n p q h e (eqb-false _ _ x)
