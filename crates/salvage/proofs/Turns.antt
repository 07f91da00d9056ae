-- A turn of the walk, for both passes. Assumes nothing.
use Rattle.std.specs.Prelude.{◌≡◌, Bool, ◌⊎◌, Option, Some, None, unwrap_or, IfSome}
use Rattle.std.proofs.Math.Path.{refl, sym, ap, subst}
use Rattle.std.proofs.Common.{◌∙◌, length-append, length-drop, take_all, take-add, take_at}
use Prim.Native.Nat.{ℕ, zero, suc, ◌+◌, ◌-◌, ◌*◌, ◌<◌, ◌≤◌}
use native.Mathlib.Omega.{arith}
use Rattle.std.proofs.Math.Bool.{true, false, cond}
use mathlib.Core.List.{List, [], ◌∷◌, ◌++◌}
use borrow.Author.Tests.{lt-ltb, le-ltb, eq-eqb, ne_eqb, ltb-true, ltb-false}
use Rattle.std.proofs.Math.Dec.{ltb, eqb}
use Rattle.std.proofs.Math.ListN.{length, take, drop, drop_of_length-le}
use Rattle.std.proofs.Math.Seq.{drop-nil, drop-append-add, drop-drop, drop-append_seam, drop-length, length-take-le}
use Rattle.meaning.specs.Bytes.{spell, put}
use Rattle.meaning.specs.Records.{size_of}
use Rattle.laws.specs.Bytes.{nil-of, take-length-by}
use Rattle.laws.specs.Put.{put-nil, put-put, length-put}
use Rattle.entries.specs.Entries.{entry_bytes}
use Rattle.runs.proofs.Streams.{joined}
use Rattle.salvage.specs.declared.Walk.{Walk}
use Rattle.salvage.specs.Salvage.{keeps, step, Piece, piece, pieces, kept_in, output, Run, run, join, holes_in, holes, dropped, hole_bytes, changes, unready, salvage_answer, out_after, list_after, tells, salvaged}
use Rattle.salvage.specs.declared.Salvaged.{Salvaged}
use Rattle.meaning.specs.Refusals.{first}
use Rattle.salvage.specs.Walks.{walk, closed, advanced, advanced_by, out_next, out_by, list_by, list_closed, list_next, from, pending, SalvageStands, Room, Wrote}
use Rattle.salvage.proofs.Steps.{Kept, says-keeps, keeps-says, step_kept, step-dropped, step-low, pieces_end}
use Rattle.salvage.proofs.Holes.{Spaced, join-join, join-before, along-from}
use Rattle.salvage.proofs.Promises.{changes-length, kept-and-dropped, holes-spaced, before-answer, room-suffices, no_room}

-- ---- the steps from a place on, whatever the fuel

pieces-same : (judge : List ℕ → ℕ) (n m : ℕ) (left : List ℕ) → length left ≤ n → length left ≤ m → pieces judge n left ≡ pieces judge m left
unfolding pieces
pieces-same judge zero m left h g = subst (λ (l : List ℕ). pieces judge 0 l ≡ pieces judge m l) (nil-of left (omega arith)) (sym (pieces_end judge m))
pieces-same judge (suc n) zero left h g = subst (λ (l : List ℕ). pieces judge (suc n) l ≡ pieces judge 0 l) (nil-of left (omega arith)) refl
pieces-same judge (suc n) (suc m) left h g = by left h g (λ l p q. pieces-same judge n m l p q)
  where
    by : (left : List ℕ) → length left ≤ suc n → length left ≤ suc m → ((l : List ℕ) → length l ≤ n → length l ≤ m → pieces judge n l ≡ pieces judge m l)
        → pieces judge (suc n) left ≡ pieces judge (suc m) left
    by [] h g next = refl
    by (x ∷ xs) h g next =
        let k : ℕ = step judge (x ∷ xs) in
        let d = length-drop k (x ∷ xs) in
        let low = step-low judge (x ∷ xs) in
        ap (λ (ps : List Piece). piece (keeps judge (x ∷ xs)) (take k (x ∷ xs)) ∷ ps) (next (drop k (x ∷ xs)) (omega arith) (omega arith))

from-turn : (judge : List ℕ → ℕ) (left : List ℕ) → 0 < length left
    → from judge left ≡ piece (keeps judge left) (take (step judge left) left) ∷ from judge (drop (step judge left) left)
unfolding pieces
from-turn judge [] h = absurd (omega arith)
from-turn judge (x ∷ xs) h =
    let k : ℕ = step judge (x ∷ xs) in
    ap (λ (ps : List Piece). piece (keeps judge (x ∷ xs)) (take k (x ∷ xs)) ∷ ps)
    (pieces-same judge (length xs) (length (drop k (x ∷ xs))) (drop k (x ∷ xs)) (omega (arith, length-drop k (x ∷ xs), step-low judge (x ∷ xs))) (omega arith))

-- ---- what is pending

pending-here : (at : ℕ) (ps : List Piece) → pending at at ps ≡ holes_in at ps
unfolding pending
pending-here at ps = simp (le-ltb at at (omega arith))

pending-open : (start at : ℕ) (ps : List Piece) → start < at → pending start at ps ≡ join start (at - start) (holes_in at ps)
unfolding pending
pending-open start at ps h = simp (lt-ltb start at h)

-- bytes dropped at a place: the hole that ends there grows
pending-dropped : (start at : ℕ) (b : List ℕ) (ps : List Piece) → start ≤ at → 0 < length b
    → pending start at (piece false b ∷ ps) ≡ pending start (at + length b) ps
unfolding holes_in
pending-dropped start at b ps h p = by (ltb start at) refl
  where
    hs : List Run
    hs = holes_in (at + length b) ps

    by : (t : Bool) → ltb start at ≡ t → pending start at (piece false b ∷ ps) ≡ pending start (at + length b) ps
    by true e =
        let g : start < at = ltb-true start at e in
        let q : at ≡ start + (at - start) = omega arith in
        let r : at - start + length b ≡ at + length b - start = omega arith in
        pending-open start at (piece false b ∷ ps) g
        ∙ ap (λ (k : ℕ). join start (at - start) (join k (length b) (holes_in (at + length b) ps))) q
        ∙ join-join start (at - start) (length b) (holes_in (at + length b) ps) p
        ∙ ap (λ (k : ℕ). join start k (holes_in (at + length b) ps)) r
        ∙ sym (pending-open start (at + length b) ps (omega arith))
    by false e =
        let g : at ≤ start = ltb-false start at e in
        let q : start ≡ at = omega arith in
        let r : length b ≡ at + length b - at = omega arith in
        ap (λ (k : ℕ). pending k at (piece false b ∷ ps)) q
        ∙ pending-here at (piece false b ∷ ps)
        ∙ ap (λ (k : ℕ). join at k (holes_in (at + length b) ps)) r
        ∙ sym (pending-open at (at + length b) ps (omega arith))
        ∙ ap (λ (k : ℕ). pending k (at + length b) ps) (sym q)

-- a record kept at a place: the hole that ends there is closed
pending-kept : (start at : ℕ) (b : List ℕ) (judge : List ℕ → ℕ) (left : List ℕ) → start < at → 0 < length b
    → pending start at (piece true b ∷ from judge left) ≡ run start (at - start) ∷ holes_in (at + length b) (from judge left)
unfolding holes_in
pending-kept start at b judge left h p =
    pending-open start at (piece true b ∷ from judge left) h
    ∙ join-before start (at - start) (at + length b) (at + length b + length left) (holes_in (at + length b) (from judge left)) (omega arith)
    (along-from judge left (at + length b)).spaced

-- ---- lists of which so many are behind

next_of : {A : Type 0} (n : ℕ) (l rest : List A) (x : A) → drop n l ≡ x ∷ rest → drop (n + 1) l ≡ rest
next_of n l rest x e = sym (drop-drop 1 n l) ∙ ap (drop 1) e

inside_of : {A : Type 0} (n : ℕ) (l s rest : List A) → n ≤ length l → drop n l ≡ s ++ rest → n + length s ≤ length l
inside_of n l s rest h e =
    let q : length (drop n l) ≡ length s + length rest = ap length e ∙ length-append s rest in
    omega (arith, length-drop n l)

after-of : {A : Type 0} (n : ℕ) (l s rest : List A) → drop n l ≡ s ++ rest → drop (n + length s) l ≡ rest
after-of n l s rest e = sym (drop-drop (length s) n l) ∙ ap (drop (length s)) e ∙ drop-append_seam s rest

-- ---- a turn

-- what a call for the size at a place gives
abbrev pub size_at : (List ℕ → ℕ) → List ℕ → ℕ
size_at judge left = cond (keeps judge left) (size_of left) 0

module _ (judge : List ℕ → ℕ) (xs : List ℕ) (w : Walk) (s : SalvageStands judge xs w) (more : w.at < length xs) where
  lengthed : length (drop w.at xs) ≡ length xs - w.at
  lengthed = length-drop w.at xs

  turn-dropped : keeps judge (drop w.at xs) ≡ false → SalvageStands judge xs (advanced w 0 (length xs - w.at))
  unfolding advanced kept_in
  turn-dropped e =
      let l : List ℕ = drop w.at xs in
      let n : ℕ = length xs - w.at in
      let k : step judge l ≡ 8 = step-dropped judge l e in
      let f : from judge l ≡ piece false (take 8 l) ∷ from judge (drop 8 l) =
      from-turn judge l (omega (arith, lengthed)) ∙ (λ i. piece (e i) (take (k i) l) ∷ from judge (drop (k i) l)) in
      let m : ℕ = cond (ltb n 8) n 8 in
      let ms : (length (take 8 l) ≡ m) × (drop 8 l ≡ drop (w.at + m) xs) × (w.at + m ≤ length xs) = by (ltb n 8) refl in
      let pos : 0 < length (take 8 l) = omega (arith, take-length-by 8 l, lengthed) in
      record {
        inside = ms.2;
        before = omega (arith, s.before);
        kept_in_lem = s.kept_in_lem;
        holes_in_lem = s.holes_in_lem;
        out-rest = s.out-rest ∙ ap (λ (ps : List Piece). joined (kept_in ps)) f ∙ ap (λ (y : List ℕ). joined (kept_in (from judge y))) ms.1;
        holes-rest =
            s.holes-rest
            ∙ ap (pending w.start w.at) f
            ∙ pending-dropped w.start w.at (take 8 l) (from judge (drop 8 l)) s.before pos
            ∙ (λ i. pending w.start (w.at + ms.0 i) (from judge (ms.1 i)));
      }
    where
      by : (t : Bool) → ltb (length xs - w.at) 8 ≡ t
          → (length (take 8 (drop w.at xs)) ≡ cond t (length xs - w.at) 8)
          × (drop 8 (drop w.at xs) ≡ drop (w.at + cond t (length xs - w.at) 8) xs) × (w.at + cond t (length xs - w.at) 8 ≤ length xs)
      by true e =
          let g = ltb-true (length xs - w.at) 8 e in
          let z : w.at + (length xs - w.at) ≡ length xs = omega arith in (
            ap length (take_all 8 (drop w.at xs) (omega (arith, lengthed))) ∙ lengthed,
            drop_of_length-le (drop w.at xs) {i = 8} (omega (arith, lengthed)) ∙ sym (ap (λ (k : ℕ). drop k xs) z ∙ drop-length xs),
            omega arith,
          )
      by false e =
          let g = ltb-false (length xs - w.at) 8 e in
          (length-take-le 8 (drop w.at xs) (omega (arith, lengthed)), drop-drop 8 w.at xs, omega arith)

  -- what the hole that ends at the place leaves, once a record follows
  module _ (b rest : List ℕ) (pos : 0 < length b) (e : drop w.holes (holes judge xs) ≡ pending w.start w.at (piece true b ∷ from judge rest)) where
    closed-rest : (drop (closed w) (holes judge xs) ≡ holes_in (w.at + length b) (from judge rest)) × (closed w ≤ length (holes judge xs))
    unfolding holes_in
    closed-rest = by (ltb w.start w.at) refl
      where
        by : (t : Bool) → ltb w.start w.at ≡ t
            → (drop (cond t (w.holes + 1) w.holes) (holes judge xs) ≡ holes_in (w.at + length b) (from judge rest))
            × (cond t (w.holes + 1) w.holes ≤ length (holes judge xs))
        by true q =
            let h : Run = run w.start (w.at - w.start) in
            let r : drop w.holes (holes judge xs) ≡ (h ∷ []) ++ holes_in (w.at + length b) (from judge rest) =
            e ∙ pending-kept w.start w.at b judge rest (ltb-true w.start w.at q) pos in
            (next_of w.holes (holes judge xs) _ h r, inside_of w.holes (holes judge xs) (h ∷ []) _ s.holes_in_lem r)
        by false q =
            let z : w.start ≡ w.at = omega (arith, ltb-false w.start w.at q, s.before) in
            (e ∙ ap (λ (k : ℕ). pending k w.at (piece true b ∷ from judge rest)) z ∙ pending-here w.at (piece true b ∷ from judge rest), s.holes_in_lem)

  -- the record that is kept
  kept-first : keeps judge (drop w.at xs) ≡ true
      → from judge (drop w.at xs) ≡ piece true (take (size_of (drop w.at xs)) (drop w.at xs)) ∷ from judge (drop (w.at + size_of (drop w.at xs)) xs)
  kept-first e =
      let l : List ℕ = drop w.at xs in
      let k : step judge l ≡ size_of l = step_kept judge l e in
      from-turn judge l (omega (arith, lengthed))
      ∙ (λ i. piece (e i) (take (k i) l) ∷ from judge (drop (k i) l))
      ∙ ap (λ (y : List ℕ). piece true (take (size_of l) l) ∷ from judge y) (drop-drop (size_of l) w.at xs)

  turn-kept : keeps judge (drop w.at xs) ≡ true
      → SalvageStands judge xs (walk (w.at + size_of (drop w.at xs)) (w.at + size_of (drop w.at xs)) (w.kept + size_of (drop w.at xs)) (closed w))
  unfolding kept_in joined
  turn-kept e =
      let l : List ℕ = drop w.at xs in
      let z : ℕ = size_of l in
      let q = keeps-says judge l e in
      let i : z ≤ length l = q.inside in
      let low : 8 ≤ z = q.low in
      let b : List ℕ = take z l in
      let lb : length b ≡ z = length-take-le z l i in
      let f = kept-first e in
      let o : drop w.kept (output judge xs) ≡ b ++ joined (kept_in (from judge (drop (w.at + z) xs))) =
      s.out-rest ∙ ap (λ (ps : List Piece). joined (kept_in ps)) f in
      let c = closed-rest b (drop (w.at + z) xs) (omega arith) (s.holes-rest ∙ ap (pending w.start w.at) f) in
      record {
        inside = omega (arith, lengthed);
        before = omega arith;
        kept_in_lem = subst (λ (k : ℕ). w.kept + k ≤ length (output judge xs)) lb (inside_of w.kept (output judge xs) b _ s.kept_in_lem o);
        holes_in_lem = c.1;
        out-rest = ap (λ (k : ℕ). drop (w.kept + k) (output judge xs)) (sym lb) ∙ after-of w.kept (output judge xs) b _ o;
        holes-rest = c.0 ∙ ap (λ (k : ℕ). holes_in (w.at + k) (from judge (drop (w.at + z) xs))) lb ∙ sym (pending-here (w.at + z) (from judge (drop (w.at + z) xs)));
      }

pub advanced-kept : (w : Walk) (size left : ℕ) → 0 < size → advanced w size left ≡ walk (w.at + size) (w.at + size) (w.kept + size) (closed w)
unfolding advanced
advanced-kept w size left h = simp (ne_eqb size 0 (λ (e : size ≡ 0). omega arith))

-- a turn of either pass
pub stands-again : (judge : List ℕ → ℕ) (xs : List ℕ) (w : Walk) → SalvageStands judge xs w → w.at < length xs → (size : ℕ) → size ≡ size_at judge (drop w.at xs)
    → SalvageStands judge xs (advanced w size (length xs - w.at))
stands-again judge xs w s more size e = by (keeps judge (drop w.at xs)) refl e
  where
    l : List ℕ
    l = drop w.at xs

    by : (t : Bool) → keeps judge (drop w.at xs) ≡ t → size ≡ cond t (size_of (drop w.at xs)) 0 → SalvageStands judge xs (advanced w size (length xs - w.at))
    by true k z =
        let low = (keeps-says judge (drop w.at xs) k).low in
        subst (λ (n : ℕ). SalvageStands judge xs (advanced w n (length xs - w.at))) (sym z)
        (subst (SalvageStands judge xs) (sym (advanced-kept w (size_of (drop w.at xs)) (length xs - w.at) (omega arith))) (turn-kept judge xs w s more k))
    by false k z = subst (λ (n : ℕ). SalvageStands judge xs (advanced w n (length xs - w.at))) (sym z) (turn-dropped judge xs w s more k)

-- the start
pub stands-start : (judge : List ℕ → ℕ) (xs : List ℕ) → SalvageStands judge xs (walk 0 0 0 0)
stands-start judge xs =
    record { inside = omega arith; before = omega arith; kept_in_lem = omega arith; holes_in_lem = omega arith; out-rest = refl; holes-rest = sym (pending-here 0 (from judge xs)) }

-- the end
pub record Ended (judge : List ℕ → ℕ) (xs : List ℕ) (w : Walk) : Type 0 where
  pub kept-all : w.kept ≡ length (output judge xs)
  pub closed_all : closed w ≡ length (holes judge xs)
  pub last-hole : w.start < w.at → drop w.holes (holes judge xs) ≡ run w.start (w.at - w.start) ∷ []

pub stands-end : (judge : List ℕ → ℕ) (xs : List ℕ) (w : Walk) → SalvageStands judge xs w → length xs ≤ w.at → Ended judge xs w
unfolding pieces kept_in joined holes_in join
stands-end judge xs w s h =
    let z : drop w.at xs ≡ [] = drop_of_length-le xs {i = w.at} h in
    let o : drop w.kept (output judge xs) ≡ [] = s.out-rest ∙ ap (λ (y : List ℕ). joined (kept_in (from judge y))) z in
    let p : drop w.holes (holes judge xs) ≡ pending w.start w.at [] = s.holes-rest ∙ ap (λ (y : List ℕ). pending w.start w.at (from judge y)) z in
    record {
      kept-all = omega (arith, length-drop w.kept (output judge xs), ap length o, s.kept_in_lem);
      closed_all = by (ltb w.start w.at) refl p;
      last-hole = λ (g : w.start < w.at). p ∙ pending-open w.start w.at [] g;
    }
  where
    by : (t : Bool) → ltb w.start w.at ≡ t → drop w.holes (holes judge xs) ≡ pending w.start w.at [] → cond t (w.holes + 1) w.holes ≡ length (holes judge xs)
    by true q p =
        let e = ap length (p ∙ pending-open w.start w.at [] (ltb-true w.start w.at q)) in
        omega (arith, length-drop w.holes (holes judge xs), e, s.holes_in_lem)
    by false q p =
        let z : w.start ≡ w.at = omega (arith, ltb-false w.start w.at q, s.before) in
        let e = ap length (p ∙ ap (λ (k : ℕ). pending k w.at []) z ∙ pending-here w.at []) in
        omega (arith, length-drop w.holes (holes judge xs), e, s.holes_in_lem)

-- ---- the second pass

drop-changes : (n : ℕ) (hs : List Run) → drop (22 * n) (changes hs) ≡ changes (drop n hs)
unfolding changes entry_bytes spell
drop-changes zero hs = refl
drop-changes (suc n) [] = drop-nil (22 * suc n)
drop-changes (suc n) (h ∷ hs) =
    let e : 22 * suc n ≡ 22 + 22 * n = omega arith in
    ap (λ (k : ℕ). drop k (hole_bytes h ++ changes hs)) e ∙ drop-append-add (hole_bytes h) (changes hs) (22 * n) ∙ drop-changes n hs

-- the next part is put after those that are there
put_next : (d f s rest : List ℕ) (n : ℕ) → drop n f ≡ s ++ rest → n ≤ length f → length f ≤ length d
    → put (put d 0 (take n f)) n s ≡ put d 0 (take (n + length s) f)
put_next d f s rest n e h g =
    let l : length (take n f) ≡ n = length-take-le n f h in
    let z : n ≡ 0 + length (take n f) = omega arith in
    let i : n + length s ≤ length f = inside_of n f s rest h e in
    ap (λ (k : ℕ). put (put d 0 (take n f)) k s) z
    ∙ put-put d 0 (take n f) s (omega arith)
    ∙ ap (put d 0) (sym (take-add n (length s) f ∙ ap (λ (y : List ℕ). take n f ++ y) (ap (take (length s)) e ∙ take_at s rest (length s) refl)))

module _ (judge : List ℕ → ℕ) (xs out₀ list₀ : List ℕ) (r : Room judge xs out₀ list₀) where
  -- the hole that ends at the place, once it is the next of the list
  write-hole : (w : Walk) (list : List ℕ) (rest : List Run) → w.holes ≤ length (holes judge xs)
      → list ≡ put list₀ 0 (take (22 * w.holes) (changes (holes judge xs)))
      → drop w.holes (holes judge xs) ≡ run w.start (w.at - w.start) ∷ rest
      → put list (22 * w.holes) (hole_bytes (run w.start (w.at - w.start))) ≡ put list₀ 0 (take (22 * (w.holes + 1)) (changes (holes judge xs)))
  unfolding changes entry_bytes spell
  write-hole w list rest i e h =
      let n : ℕ = 22 * w.holes in
      let f : List ℕ = changes (holes judge xs) in
      let x : List ℕ = hole_bytes (run w.start (w.at - w.start)) in
      let z : n + 22 ≡ 22 * (w.holes + 1) = omega arith in
      ap (λ (l : List ℕ). put l n x) e
      ∙ put_next list₀ f x (changes rest) n (drop-changes w.holes (holes judge xs) ∙ ap changes h) (omega (arith, changes-length (holes judge xs))) r.list-fits
      ∙ ap (λ (k : ℕ). put list₀ 0 (take k f)) z

  -- there is room for it
  pub hole-room : (w : Walk) (list : List ℕ) (rest : List Run) → w.holes ≤ length (holes judge xs)
      → length list ≡ length list₀
      → drop w.holes (holes judge xs) ≡ run w.start (w.at - w.start) ∷ rest
      → 22 * w.holes + 22 ≤ length list
  hole-room w list rest i e h =
      let q = inside_of w.holes (holes judge xs) (run w.start (w.at - w.start) ∷ []) rest i h in
      omega (arith, changes-length (holes judge xs), r.list-fits)

  -- the record, and the hole that ends before it
  write_kept : (w : Walk) (out list : List ℕ) → Wrote judge xs out₀ list₀ w out list → w.at < length xs → keeps judge (drop w.at xs) ≡ true
      → Wrote judge xs out₀ list₀ (walk (w.at + size_of (drop w.at xs)) (w.at + size_of (drop w.at xs)) (w.kept + size_of (drop w.at xs)) (closed w))
      (put out w.kept (take (size_of (drop w.at xs)) (drop w.at xs))) (list_closed w list)
  unfolding kept_in joined list_closed
  write_kept w out list g more e =
      let s = g.stands in
      let l : List ℕ = drop w.at xs in
      let z : ℕ = size_of l in
      let q = keeps-says judge l e in
      let low : 8 ≤ z = q.low in
      let b : List ℕ = take z l in
      let lb : length b ≡ z = length-take-le z l q.inside in
      let f = kept-first judge xs w s more e in
      let o : drop w.kept (output judge xs) ≡ b ++ joined (kept_in (from judge (drop (w.at + z) xs))) =
      s.out-rest ∙ ap (λ (ps : List Piece). joined (kept_in ps)) f in
      record {
        stands = turn-kept judge xs w s more e;
        out-is =
            ap (λ (y : List ℕ). put y w.kept b) g.out-is
            ∙ put_next out₀ (output judge xs) b _ w.kept o s.kept_in_lem r.out-fits
            ∙ ap (λ (k : ℕ). put out₀ 0 (take (w.kept + k) (output judge xs))) lb;
        list-is = by b (drop (w.at + z) xs) (omega arith) (s.holes-rest ∙ ap (pending w.start w.at) f) (ltb w.start w.at) refl;
      }
    where
      by : (b rest : List ℕ) → 0 < length b → drop w.holes (holes judge xs) ≡ pending w.start w.at (piece true b ∷ from judge rest)
          → (t : Bool) → ltb w.start w.at ≡ t
          → cond t (put list (22 * w.holes) (hole_bytes (run w.start (w.at - w.start)))) list ≡ put list₀ 0 (take (22 * cond t (w.holes + 1) w.holes) (changes (holes judge xs)))
      by b rest p h true q =
          write-hole w list _ g.stands.holes_in_lem g.list-is (h ∙ pending-kept w.start w.at b judge rest (ltb-true w.start w.at q) p)
      by b rest p h false q = g.list-is

  pub write_again : (w : Walk) (out list : List ℕ) → Wrote judge xs out₀ list₀ w out list → w.at < length xs → (size : ℕ) → size ≡ size_at judge (drop w.at xs)
      → Wrote judge xs out₀ list₀ (advanced w size (length xs - w.at)) (out_next xs w size out) (list_next w size list)
  unfolding advanced out_next list_next
  write_again w out list g more size e = by (keeps judge (drop w.at xs)) refl e
    where
      n : ℕ
      n = length xs - w.at

      by : (t : Bool) → keeps judge (drop w.at xs) ≡ t → size ≡ cond t (size_of (drop w.at xs)) 0
          → Wrote judge xs out₀ list₀ (advanced w size (length xs - w.at)) (out_next xs w size out) (list_next w size list)
      by false k z =
          subst (λ (m : ℕ). Wrote judge xs out₀ list₀ (advanced w m (length xs - w.at)) (out_next xs w m out) (list_next w m list)) (sym z)
          (record { stands = turn-dropped judge xs w g.stands more k; out-is = g.out-is; list-is = g.list-is })
      by true k z =
          let low = (keeps-says judge (drop w.at xs) k).low in
          let x : eqb (size_of (drop w.at xs)) 0 ≡ false = ne_eqb (size_of (drop w.at xs)) 0 (λ (y : size_of (drop w.at xs) ≡ 0). omega arith) in
          subst (λ (m : ℕ). Wrote judge xs out₀ list₀ (advanced w m (length xs - w.at)) (out_next xs w m out) (list_next w m list)) (sym z)
          (subst (λ (y : Bool). Wrote judge xs out₀ list₀
          (cond y (walk (w.at + cond (ltb (length xs - w.at) 8) (length xs - w.at) 8) w.start w.kept w.holes)
          (walk (w.at + size_of (drop w.at xs)) (w.at + size_of (drop w.at xs)) (w.kept + size_of (drop w.at xs)) (closed w)))
          (cond y out (put out w.kept (take (size_of (drop w.at xs)) (drop w.at xs)))) (cond y list (list_closed w list))) (sym x)
          (write_kept w out list g more k))

  -- at the end the last hole is written
  pub write-end : (w : Walk) (out list : List ℕ) → Wrote judge xs out₀ list₀ w out list → length xs ≤ w.at
      → (out ≡ put out₀ 0 (output judge xs)) × (list_closed w list ≡ put list₀ 0 (changes (holes judge xs)))
  unfolding list_closed
  write-end w out list g h =
      let e = stands-end judge xs w g.stands h in (
        g.out-is ∙ ap (put out₀ 0) (take_all w.kept (output judge xs) (omega (arith, e.kept-all))),
        by (ltb w.start w.at) refl e.closed_all e.last-hole,
      )
    where
      all : (n : ℕ) → n ≡ length (holes judge xs) → put list₀ 0 (take (22 * n) (changes (holes judge xs))) ≡ put list₀ 0 (changes (holes judge xs))
      all n e = ap (put list₀ 0) (take_all (22 * n) (changes (holes judge xs)) (omega (arith, changes-length (holes judge xs))))

      by : (t : Bool) → ltb w.start w.at ≡ t → cond t (w.holes + 1) w.holes ≡ length (holes judge xs)
          → (w.start < w.at → drop w.holes (holes judge xs) ≡ run w.start (w.at - w.start) ∷ [])
          → cond t (put list (22 * w.holes) (hole_bytes (run w.start (w.at - w.start)))) list ≡ put list₀ 0 (changes (holes judge xs))
      by true q c last =
          write-hole w list [] g.stands.holes_in_lem g.list-is (last (ltb-true w.start w.at q)) ∙ all (w.holes + 1) c
      by false q c last = g.list-is ∙ all w.holes c

-- ---- for the code

pub size_none : (judge : List ℕ → ℕ) (left : List ℕ) → (Kept judge left → ⊥) → 0 ≡ size_at judge left
size_none judge left h = by (keeps judge left) refl
  where
    by : (t : Bool) → keeps judge left ≡ t → 0 ≡ cond t (size_of left) 0
    by true e = absurd (h (keeps-says judge left e))
    by false e = refl

pub size-some : (judge : List ℕ → ℕ) (left : List ℕ) → Kept judge left → size_of left ≡ size_at judge left
size-some judge left k = simp (says-keeps judge left k)

-- a size is never longer than what is left, and its bytes are still to come
pub record Sized (judge : List ℕ → ℕ) (xs : List ℕ) (w : Walk) (size : ℕ) : Type 0 where
  pub inside : w.at + size ≤ length xs
  pub kept_in_lem : w.kept + size ≤ length (output judge xs)
  pub onward : length xs - (advanced w size (length xs - w.at)).at < length xs - w.at
  pub next-hole : 0 < size → w.start < w.at → w.holes + 1 ≤ length (holes judge xs)

pub sized : (judge : List ℕ → ℕ) (xs : List ℕ) (w : Walk) → SalvageStands judge xs w → w.at < length xs → (size : ℕ) → size ≡ size_at judge (drop w.at xs)
    → Sized judge xs w size
unfolding advanced
sized judge xs w s more size e = by (keeps judge (drop w.at xs)) refl e
  where
    less : (t : Bool) → length xs - (w.at + cond t (length xs - w.at) 8) < length xs - w.at
    less true = omega arith
    less false = omega arith

    by : (t : Bool) → keeps judge (drop w.at xs) ≡ t → size ≡ cond t (size_of (drop w.at xs)) 0 → Sized judge xs w size
    by true k z =
        let n = turn-kept judge xs w s more k in
        let low = (keeps-says judge (drop w.at xs) k).low in
        let a : (advanced w size (length xs - w.at)).at ≡ w.at + size = ap (λ (x : Walk). x.at) (advanced-kept w size (length xs - w.at) (omega arith)) in
        record {
          inside = omega (arith, n.inside);
          kept_in_lem = omega (arith, n.kept_in_lem);
          onward = omega (arith, n.inside, a);
          next-hole = λ (p : 0 < size) (h : w.start < w.at). subst (λ (t : Bool). cond t (w.holes + 1) w.holes ≤ length (holes judge xs)) (lt-ltb w.start w.at h) n.holes_in_lem;
        }
    by false k z =
        record {
          inside = omega arith;
          kept_in_lem = omega (arith, s.kept_in_lem);
          onward = subst (λ (m : ℕ). length xs - (advanced w m (length xs - w.at)).at < length xs - w.at) (sym z) (less (ltb (length xs - w.at) 8));
          next-hole = λ (p : 0 < size) (h : w.start < w.at). absurd (omega arith);
        }

spaced-count : (low end : ℕ) (hs : List Run) → Spaced low hs end → length hs ≤ dropped hs
unfolding dropped
spaced-count low end [] s = omega arith
spaced-count low end (h ∷ hs) s = let p = s.1 in omega (arith, spaced-count (h.start + h.length + 1) end hs s.3)

-- there are never more bytes kept, nor more holes, than bytes
pub most : (judge : List ℕ → ℕ) (xs : List ℕ) → (length (output judge xs) ≤ length xs) × (length (holes judge xs) ≤ length xs)
most judge xs =
    let s = kept-and-dropped judge xs in
    (omega arith, omega (arith, spaced-count 0 (length xs) (holes judge xs) (holes-spaced judge xs)))

pub hole-put : (d : List ℕ) (at start n : ℕ) → at + 22 ≤ length d
    → put (put (put d at (spell 4 22 ++ spell 2 32)) (at + 6) (spell 8 start)) (at + 14) (spell 8 n) ≡ put d at (hole_bytes (run start n))
unfolding spell entry_bytes
hole-put d at start n h =
    ap (λ (l : List ℕ). put l (at + 14) (spell 8 n)) (put-put d at (spell 4 22 ++ spell 2 32) (spell 8 start) (omega arith))
    ∙ put-put d at ((spell 4 22 ++ spell 2 32) ++ spell 8 start) (spell 8 n) (omega arith)

pub list_open : (w : Walk) (list : List ℕ) → w.start < w.at
    → list_closed w list ≡ put list (22 * w.holes) (hole_bytes (run w.start (w.at - w.start)))
unfolding list_closed
list_open w list h = simp (lt-ltb w.start w.at h)

pub list-shut : (w : Walk) (list : List ℕ) → w.at ≤ w.start → list_closed w list ≡ list
unfolding list_closed
list-shut w list h = simp (le-ltb w.start w.at h)

pub step-none : (xs : List ℕ) (w : Walk) (size : ℕ) (out list : List ℕ) → size ≡ 0 → (out ≡ out_next xs w size out) × (list ≡ list_next w size list)
unfolding out_next list_next
step-none xs w size out list h = (simp (eq-eqb size 0 h), simp (eq-eqb size 0 h))

pub step-some : (xs : List ℕ) (w : Walk) (size : ℕ) (out list : List ℕ) → 0 < size
    → (put out w.kept (take size (drop w.at xs)) ≡ out_next xs w size out) × (list_closed w list ≡ list_next w size list)
unfolding out_next list_next
step-some xs w size out list h =
    let e : eqb size 0 ≡ false = ne_eqb size 0 (λ (z : size ≡ 0). omega arith) in
    (simp e, simp e)

pub advanced-none : (w : Walk) (size left : ℕ) → size ≡ 0 → walk (w.at + cond (ltb left 8) left 8) w.start w.kept w.holes ≡ advanced w size left
unfolding advanced
advanced-none w size left h = simp (eq-eqb size 0 h)

-- the whole result, by the answer
module _ (before : ℕ) (judge : List ℕ → ℕ) (xs out list : List ℕ) where
  abbrev pub Result : Salvaged → List ℕ → List ℕ → Type 0
  Result r out' list' =
      (r ≡ salvaged before judge xs (length out) (length list)) × (out' ≡ out_after before judge xs out list) × (list' ≡ list_after before judge xs out list)

  pub refused-result : (k : ℕ) → 0 < k → salvage_answer before judge xs (length out) (length list) ≡ k → Result (tells 0 0 0 k) out list
  unfolding salvaged out_after list_after
  refused-result k p e =
      let f : eqb (salvage_answer before judge xs (length out) (length list)) 0 ≡ false = ne_eqb _ 0 (λ (z : salvage_answer before judge xs (length out) (length list) ≡ 0). omega arith) in
      (ap (tells 0 0 0) (sym e) ∙ simp f, simp f, simp f)

  pub accepted-result : salvage_answer before judge xs (length out) (length list) ≡ 0
      → Result (tells (length (output judge xs)) (dropped (holes judge xs)) (length (changes (holes judge xs))) 0) (put out 0 (output judge xs)) (put list 0 (changes (holes judge xs)))
  unfolding salvaged out_after list_after
  accepted-result e =
      let f : eqb (salvage_answer before judge xs (length out) (length list)) 0 ≡ true = eq-eqb _ 0 e in
      (simp f, simp f, simp f)

-- the refusals before the room: the edition, then the table
pub unready-2 : (ok sound : Bool) → ok ≡ false → unready ok sound ≡ 2
unfolding first
unready-2 ok sound e = ap (λ (t : Bool). unready t sound) e

pub unready-11 : (ok sound : Bool) → ok ≡ true → sound ≡ false → unready ok sound ≡ 11
unfolding first
unready-11 ok sound e f = λ i. unready (e i) (f i)

pub unready-0 : (ok sound : Bool) → ok ≡ true → sound ≡ true → unready ok sound ≡ 0
unfolding first
unready-0 ok sound e f = λ i. unready (e i) (f i)

module _ (before : ℕ) (judge : List ℕ → ℕ) (xs : List ℕ) (room list_room : ℕ) where
  pub answer-before : (k : ℕ) → 0 < k → before ≡ k → salvage_answer before judge xs room list_room ≡ k
  answer-before k p e = before-answer before judge xs room list_room (λ (z : before ≡ 0). omega arith) ∙ e

  pub answer-54 : before ≡ 0 → (room < length (output judge xs)) ⊎ (list_room < length (changes (holes judge xs))) → salvage_answer before judge xs room list_room ≡ 54
  answer-54 e h = ap (λ (k : ℕ). salvage_answer k judge xs room list_room) e ∙ no_room judge xs room list_room h

  pub answer-0 : before ≡ 0 → length (output judge xs) ≤ room → length (changes (holes judge xs)) ≤ list_room → salvage_answer before judge xs room list_room ≡ 0
  answer-0 e p q = ap (λ (k : ℕ). salvage_answer k judge xs room list_room) e ∙ room-suffices judge xs room list_room p q

-- ---- the second pass: its start, and lengths that stay

pub wrote-start : (judge : List ℕ → ℕ) (xs out list : List ℕ) → Wrote judge xs out list (walk 0 0 0 0) out list
wrote-start judge xs out list =
    record { stands = stands-start judge xs; out-is = sym (put-nil out 0 (omega arith)); list-is = sym (put-nil list 0 (omega arith)) }

pub wrote-lengths : (judge : List ℕ → ℕ) (xs out₀ list₀ : List ℕ) (w : Walk) (out list : List ℕ) → Wrote judge xs out₀ list₀ w out list
    → (length out ≡ length out₀) × (length list ≡ length list₀)
wrote-lengths judge xs out₀ list₀ w out list g = (ap length g.out-is ∙ length-put out₀ 0 _, ap length g.list-is ∙ length-put list₀ 0 _)

pub wrote_by : (judge : List ℕ → ℕ) (xs out₀ list₀ : List ℕ) (w w' : Walk) (out out' list list' : List ℕ) → Wrote judge xs out₀ list₀ w out list
    → w' ≡ w → out' ≡ out → list' ≡ list → Wrote judge xs out₀ list₀ w' out' list'
wrote_by judge xs out₀ list₀ w w' out out' list list' g p q r =
    subst (λ (x : Walk). Wrote judge xs out₀ list₀ x out' list') (sym p)
    (subst (λ (y : List ℕ). Wrote judge xs out₀ list₀ w y list') (sym q) (subst (Wrote judge xs out₀ list₀ w out) (sym r) g))

-- a step by the record that is kept, if one is, is a step by its size
pub by-kept : (w : Walk) (k : Option ℕ) (left : ℕ) → IfSome k (λ size. 0 < size) → advanced_by w k left ≡ advanced w (unwrap_or k 0) left
by-kept w None left h = refl
by-kept w (Some size) left h = sym (advanced-kept w size left h)

pub wrote-kept : (xs : List ℕ) (w : Walk) (k : Option ℕ) (out list : List ℕ) → IfSome k (λ size. 0 < size)
    → (out_by xs w k out ≡ out_next xs w (unwrap_or k 0) out) × (list_by w k list ≡ list_next w (unwrap_or k 0) list)
wrote-kept xs w None out list h = step-none xs w 0 out list refl
wrote-kept xs w (Some size) out list h = step-some xs w size out list h
