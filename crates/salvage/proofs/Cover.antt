-- Every byte of the input is in exactly one record that is kept or one run that is dropped; runs are longest; how many places are tried. Assumes nothing.
use Rattle.std.specs.Prelude.{◌≡◌, refl, Bool, true, false, cond, ◌&&◌, List, [], ◌∷◌, ◌++◌, map, ℕ, ◌+◌, ◌*◌, ◌<◌, ◌≤◌, leb, ltb, length, take, drop}
use Rattle.std.proofs.Common.{sym, ap, ◌∙◌, subst, arith, length-append, length-drop, take-append-drop, drop-drop}
use Rattle.std.proofs.Math.Bool.{and-false}
use borrow.Author.Tests.{le-leb, lt-leb, lt-ltb, le-ltb, ltb-true, ltb-false}
use Rattle.std.proofs.Math.Seq.{take-append_seam, drop-append_seam}
use Rattle.salvage.specs.Salvage.{keeps, step, Piece, piece, pieces, kept_in, kept_records, Run, run, join, holes_in, holes}
use Rattle.salvage.proofs.Steps.{step-low, steps}
use Rattle.salvage.proofs.Holes.{Spaced, joins}

-- ---- definitions

-- where the records that are kept stand in the input
unfoldable pub places_in : ℕ → List Piece → List Run
places_in at [] = []
places_in at (p ∷ ps) =
    cond p.kept (run at (length p.bytes) ∷ places_in (at + length p.bytes) ps) (places_in (at + length p.bytes) ps)

abbrev pub places : (List ℕ → ℕ) → List ℕ → List Run
places judge xs = places_in 0 (pieces judge (length xs) xs)

-- is a place inside a run? as a number, 1 or 0
unfoldable pub within : ℕ → Run → ℕ
within p h = cond (leb h.start p && ltb p (h.start + h.length)) 1 0

-- in how many of the runs a place is
unfoldable pub covering : ℕ → List Run → ℕ
covering p [] = 0
covering p (h ∷ hs) = within p h + covering p hs

-- the bytes of runs
abbrev pub bytes_at : List ℕ → List Run → List (List ℕ)
bytes_at xs hs = map (λ (h : Run). take h.length (drop h.start xs)) hs

-- ---- one run

module _ (p : ℕ) (h : Run) where
  pub within_low : p < h.start → within p h ≡ 0
  unfolding within
  within_low q = simp (lt-leb h.start p q)

  pub within-high : h.start + h.length ≤ p → within p h ≡ 0
  unfolding within
  within-high q = simp (le-ltb p (h.start + h.length) q, and-false (leb h.start p))

  pub within_in : h.start ≤ p → p < h.start + h.length → within p h ≡ 1
  unfolding within
  within_in q r = simp (le-leb h.start p q, lt-ltb p (h.start + h.length) r)

-- a run in two parts
within-split : (p s n m : ℕ) → within p (run s n) + within p (run (s + n) m) ≡ within p (run s (n + m))
within-split p s n m = by (ltb p s) (ltb p (s + n)) (ltb p (s + n + m)) refl refl refl
  where
    by : (a b c : Bool) → ltb p s ≡ a → ltb p (s + n) ≡ b → ltb p (s + n + m) ≡ c → within p (run s n) + within p (run (s + n) m) ≡ within p (run s (n + m))
    by true b c e f g =
        let q : p < s = ltb-true p s e in
        omega (arith, within_low p (run s n) q, within_low p (run (s + n) m) (omega arith), within_low p (run s (n + m)) q)
    by false true c e f g =
        let q : s ≤ p = ltb-false p s e in
        let r : p < s + n = ltb-true p (s + n) f in
        omega (arith, within_in p (run s n) q r, within_low p (run (s + n) m) r, within_in p (run s (n + m)) q (omega arith))
    by false false true e f g =
        let q : s ≤ p = ltb-false p s e in
        let r : s + n ≤ p = ltb-false p (s + n) f in
        let t : p < s + n + m = ltb-true p (s + n + m) g in
        omega (arith, within-high p (run s n) r, within_in p (run (s + n) m) r t, within_in p (run s (n + m)) q (omega arith))
    by false false false e f g =
        let r : s + n ≤ p = ltb-false p (s + n) f in
        let t : s + n + m ≤ p = ltb-false p (s + n + m) g in
        omega (arith, within-high p (run s n) r, within-high p (run (s + n) m) t, within-high p (run s (n + m)) (omega arith))

-- bytes dropped before holes: one run more, or a longer one
covering-join : (p s n : ℕ) (hs : List Run) → covering p (join s n hs) ≡ within p (run s n) + covering p hs
unfolding covering
covering-join p s n hs =
    joins s n hs (λ l. covering p l ≡ within p (run s n) + covering p hs)
    (λ h rest e f.
    let g : covering p hs ≡ within p h + covering p rest = ap (covering p) e in
    let k : within p h ≡ within p (run (s + n) h.length) = ap (λ (m : ℕ). within p (run m h.length)) f in
    omega (arith, within-split p s n h.length))
    (λ a. refl)

-- ---- along the steps: each place of the bytes left is in one of both

-- a step as what it takes and what is left
by_parts : (judge : List ℕ → ℕ) (P : List ℕ → List Piece → Type 0) → ((b rest : List ℕ) (t : Bool) (ps : List Piece) → P rest ps → P (b ++ rest) (piece t b ∷ ps))
    → (left : List ℕ) (ps : List Piece) → 0 < length left → P (drop (step judge left) left) ps → P left (piece (keeps judge left) (take (step judge left) left) ∷ ps)
by_parts judge P f left ps pos next =
    let k : ℕ = step judge left in
    subst (λ (l : List ℕ). P l (piece (keeps judge left) (take k left) ∷ ps)) (take-append-drop k left) (f (take k left) (drop k left) (keeps judge left) ps next)

abbrev Once : ℕ → List ℕ → List Piece → Type 0
Once p left ps = (at : ℕ) → covering p (places_in at ps) + covering p (holes_in at ps) ≡ within p (run at (length left))

once-none : (p : ℕ) → Once p [] []
unfolding covering places_in holes_in
once-none p at = by (ltb p at) refl
  where
    by : (b : Bool) → ltb p at ≡ b → 0 ≡ within p (run at 0)
    by true e = sym (within_low p (run at 0) (ltb-true p at e))
    by false e = sym (within-high p (run at 0) (omega (arith, ltb-false p at e)))

once-step : (p : ℕ) (b rest : List ℕ) (t : Bool) (ps : List Piece) → Once p rest ps → Once p (b ++ rest) (piece t b ∷ ps)
unfolding places_in holes_in covering
once-step p b rest t ps next at =
    by t (next (at + length b)) ∙ within-split p at (length b) (length rest) ∙ ap (λ (n : ℕ). within p (run at n)) (sym (length-append b rest))
  where
    by : (t : Bool) → covering p (places_in (at + length b) ps) + covering p (holes_in (at + length b) ps) ≡ within p (run (at + length b) (length rest))
        → covering p (places_in at (piece t b ∷ ps)) + covering p (holes_in at (piece t b ∷ ps)) ≡ within p (run at (length b)) + within p (run (at + length b) (length rest))
    by true n = omega arith
    by false n = omega (arith, covering-join p at (length b) (holes_in (at + length b) ps))

-- every byte of the input is in exactly one record kept or one run
pub each-byte-once : (judge : List ℕ → ℕ) (xs : List ℕ) (p : ℕ) → p < length xs → covering p (places judge xs) + covering p (holes judge xs) ≡ 1
each-byte-once judge xs p h =
    steps judge (Once p) (once-none p) (λ l ps. by_parts judge (Once p) (once-step p) l ps) (length xs) xs (omega arith) 0 ∙ within_in p (run 0 (length xs)) (omega arith) (omega arith)

-- ---- the records stand where `places` says

abbrev There : List ℕ → List Piece → Type 0
There left ps = (xs : List ℕ) (at : ℕ) → drop at xs ≡ left → bytes_at xs (places_in at ps) ≡ kept_in ps

there-none : There [] []
unfolding places_in kept_in
there-none xs at e = refl

there-step : (b rest : List ℕ) (t : Bool) (ps : List Piece) → There rest ps → There (b ++ rest) (piece t b ∷ ps)
unfolding places_in kept_in
there-step b rest t ps next xs at e =
    by t (next xs (at + length b) (sym (drop-drop (length b) at xs) ∙ ap (drop (length b)) e ∙ drop-append_seam b rest))
  where
    here : take (length b) (drop at xs) ≡ b
    here = ap (take (length b)) e ∙ take-append_seam b rest

    by : (t : Bool) → bytes_at xs (places_in (at + length b) ps) ≡ kept_in ps → bytes_at xs (places_in at (piece t b ∷ ps)) ≡ kept_in (piece t b ∷ ps)
    by true n = λ i. here i ∷ n i
    by false n = n

pub records-there : (judge : List ℕ → ℕ) (xs : List ℕ) → bytes_at xs (places judge xs) ≡ kept_records judge xs
records-there judge xs = steps judge There there-none (λ l ps. by_parts judge There there-step l ps) (length xs) xs (omega arith) xs 0 refl

-- ---- longest: neither the byte before a run nor the one after it is dropped

abbrev pub AllRuns : (Run → Type 0) → List Run → Type 0
AllRuns P [] = Unit {0}
AllRuns P (h ∷ hs) = P h × AllRuns P hs

pub record Longest (hs : List Run) (h : Run) : Type 0 where
  pub before : (k : ℕ) → k + 1 ≡ h.start → covering k hs ≡ 0
  pub after : covering (h.start + h.length) hs ≡ 0

all_runs : (P Q : Run → Type 0) (hs : List Run) → ((h : Run) → P h → Q h) → AllRuns P hs → AllRuns Q hs
all_runs P Q [] f a = tt
all_runs P Q (h ∷ hs) f a = (f h a.0, all_runs P Q hs f a.1)

covering-low : (p low end : ℕ) (hs : List Run) → Spaced low hs end → p < low → covering p hs ≡ 0
unfolding covering
covering-low p low end [] s q = refl
covering-low p low end (h ∷ hs) s q =
    let r = s.0 in
    omega (arith, within_low p h (omega arith), covering-low p (h.start + h.length + 1) end hs s.3 (omega arith))

abbrev LongestFrom : ℕ → List Run → Run → Type 0
LongestFrom low hs h = (low ≤ h.start) × Longest hs h

spaced-longest : (low end : ℕ) (hs : List Run) → Spaced low hs end → AllRuns (LongestFrom low hs) hs
unfolding covering
spaced-longest low end [] s = tt
spaced-longest low end (h ∷ hs) s =
    let l = s.0 in
    let n = s.1 in
    let first : LongestFrom low (h ∷ hs) h = (
      l,
      record {
        before = λ k e. omega (arith, within_low k h (omega arith), covering-low k (h.start + h.length + 1) end hs s.3 (omega arith));
        after = omega (arith, within-high (h.start + h.length) h (omega arith), covering-low (h.start + h.length) (h.start + h.length + 1) end hs s.3 (omega arith));
      },
    ) in
    (first, all_runs (LongestFrom (h.start + h.length + 1) hs) (LongestFrom low (h ∷ hs)) hs further (spaced-longest (h.start + h.length + 1) end hs s.3))
  where
    further : (x : Run) → LongestFrom (h.start + h.length + 1) hs x → LongestFrom low (h ∷ hs) x
    further x a =
        let l = s.0 in
        let g = a.0 in (
          omega arith,
          record {
            before = λ k e. omega (arith, within-high k h (omega arith), a.1.before k e);
            after = omega (arith, within-high (x.start + x.length) h (omega arith), a.1.after);
          },
        )

pub longest : (end : ℕ) (hs : List Run) → Spaced 0 hs end → AllRuns (Longest hs) hs
longest end hs s = all_runs (LongestFrom 0 hs) (Longest hs) hs (λ h a. a.1) (spaced-longest 0 end hs s)

-- ---- how many places are tried in a pass: one for each 8 bytes at most
pub tries : (judge : List ℕ → ℕ) (xs : List ℕ) → 8 * length (pieces judge (length xs) xs) ≤ length xs + 7
tries judge xs =
    steps judge (λ left ps. 8 * length ps ≤ length left + 7) (omega arith)
    (λ left ps pos next. omega (arith, length-drop (step judge left) left, step-low judge left))
    (length xs) xs (omega arith)
