-- What the tail that is handed to the kernel keeps: it passes neither reader's tail, it is one of the two, and it does not go back. Assumes nothing.
use Rattle.std.specs.Prelude.{◌≡◌, ℕ, ◌%◌, ◌^◌, ◌<◌, ◌≤◌, Bool, true, false, cond, not, ◌⊎◌, List, ◌++◌, length, drop, ◌==◌, ◌≢◌}
use Rattle.std.proofs.Math.Path.{refl}
use Rattle.std.proofs.Common.{sym, ap, subst, inl, inr, ⊎_elim, arith}
use borrow.Author.Tests.{eq-eqb, ne_eqb, eqb-true, eqb-false, ltb-false, le-ltb, lt-ltb, not-false}
use Rattle.meaning.specs.Refusals.{first}
use Rattle.meaning.specs.Ring.{Asked, asking, asking_with, length_allowed, distance, stop_at, stopped, sized, call_rows, left_rows, frame}
use Rattle.meaning.specs.Drain.{start, run}
use Rattle.laws.specs.Bytes.{le-or-lt}
use Rattle.laws.specs.Rows.{or-false, passed-by, first-passed, first_stops}
use Rattle.laws.specs.Rings.{distance-on}
use Rattle.runs.proofs.Forward.{run-counted}
use Rattle.readers.specs.declared.Readers.{Readers}
use Rattle.readers.specs.declared.Published.{Published}
use Rattle.readers.specs.Readers.{first_moved, second_moved, tail_rows, tail_answer, publish_answer, further_tail, published}

-- ---- a tail that is refused, and one that is not

-- the rows of a call whose edition is one and whose table is sound, or that has none: 2 and 11 do not hold
pub tail-as-call : (n head tail : ℕ) → first (call_rows (asking true) n head tail) 0 ≡ tail_answer n head tail
unfolding tail_answer first
tail-as-call n head tail = refl

pub tail-allowed : (n head tail : ℕ) → tail_answer n head tail ≡ 0
    → (length_allowed n ≡ true) × (distance head tail ≤ n) × (head % 8 ≡ 0) × (tail % 8 ≡ 0)
unfolding tail_answer
tail-allowed n head tail e =
    let row = passed-by (tail_rows n head tail) (first-passed (tail_rows n head tail) refl e) in
    let eights = or-false (not (head % 8 == 0)) (not (tail % 8 == 0)) (row 5) in (
      not-false (length_allowed n) (row 1),
      ltb-false n (distance head tail) (row 4),
      eqb-true (head % 8) 0 (not-false (head % 8 == 0) eights.0),
      eqb-true (tail % 8) 0 (not-false (tail % 8 == 0) eights.1),
    )

-- a tail that is refused here is refused by a drain with the same number, where the edition is one, whatever the table
pub refused-as-a-drain : (table : Bool) (ring : List ℕ) (head tail left room scratch : ℕ) → (tail_answer (length ring) head tail ≢ 0)
    → frame (asking_with true table) ring head tail left room scratch ≡ stop_at (tail_answer (length ring) head tail)
unfolding tail_answer frame stopped
refused-as-a-drain table ring head tail left room scratch h =
    first_stops (tail_rows (length ring) head tail)
    (drop 5 (call_rows (asking_with true table) (length ring) head tail) ++ left_rows head tail left room)
    (sized ring (tail % length ring) (distance head tail) scratch) h

-- ---- the tail at the greater distance

module _ (head : ℕ) (r : Readers) where
  pub further-first : distance head r.second ≤ distance head r.first → further_tail head r ≡ r.first
  unfolding further_tail
  further-first h = simp (le-ltb (distance head r.first) (distance head r.second) h)

  pub further-second : distance head r.first < distance head r.second → further_tail head r ≡ r.second
  unfolding further_tail
  further-second h = simp (lt-ltb (distance head r.first) (distance head r.second) h)

  -- its distance is the greater of the two, and it is one of them
  further-most : (distance head r.first ≤ distance head (further_tail head r)) × (distance head r.second ≤ distance head (further_tail head r))
      × ((further_tail head r ≡ r.first) ⊎ (further_tail head r ≡ r.second))
  further-most =
      ⊎_elim
      (λ (h : distance head r.second ≤ distance head r.first).
      let e = further-first h in
      let d : distance head (further_tail head r) ≡ distance head r.first = ap (distance head) e in
      (omega arith, omega arith, inl e))
      (λ (h : distance head r.first < distance head r.second).
      let e = further-second h in
      let d : distance head (further_tail head r) ≡ distance head r.second = ap (distance head) e in
      (omega arith, omega arith, inr e))
      (le-or-lt (distance head r.second) (distance head r.first))

-- readers that move on take no tail back that was handed out at that head
pub never_back : (head : ℕ) (r s : Readers) → distance head s.first ≤ distance head r.first → distance head s.second ≤ distance head r.second
    → distance head (further_tail head s) ≤ distance head (further_tail head r)
never_back head r s a b =
    let w = further-most head r in
    let w0 = w.0 in
    let w1 = w.1 in
    ⊎_elim
    (λ (e : further_tail head s ≡ s.first).
    let d : distance head (further_tail head s) ≡ distance head s.first = ap (distance head) e in
    omega (arith, d, w0))
    (λ (e : further_tail head s ≡ s.second).
    let d : distance head (further_tail head s) ≡ distance head s.second = ap (distance head) e in
    omega (arith, d, w1))
    (further-most head s).2

-- ---- the answers

module _ (n head : ℕ) (r : Readers) where
  -- "that refusal is the answer, the first reader's if both are, and no tail is handed out"
  pub published-first : (tail_answer n head r.first ≢ 0) → published n head r ≡ record { tail = 0; answer = tail_answer n head r.first }
  unfolding published publish_answer
  published-first h = let e = ne_eqb (tail_answer n head r.first) 0 h in simp (e, e)

  pub published-second : tail_answer n head r.first ≡ 0 → (tail_answer n head r.second ≢ 0)
      → published n head r ≡ record { tail = 0; answer = tail_answer n head r.second }
  unfolding published publish_answer
  published-second z h =
      let e = eq-eqb (tail_answer n head r.first) 0 z in
      let f = ne_eqb (tail_answer n head r.second) 0 h in
      simp (e, f)

  pub published-tail : tail_answer n head r.first ≡ 0 → tail_answer n head r.second ≡ 0 → published n head r ≡ record { tail = further_tail head r; answer = 0 }
  unfolding published publish_answer
  published-tail z y =
      let e = eq-eqb (tail_answer n head r.first) 0 z in
      simp (e, y)

  -- an answer of 0 is both readers' 0
  pub published-zero : (published n head r).answer ≡ 0 → (tail_answer n head r.first ≡ 0) × (tail_answer n head r.second ≡ 0)
  unfolding published publish_answer
  published-zero h = by (tail_answer n head r.first == 0) refl h
    where
      by : (b : Bool) → (tail_answer n head r.first == 0) ≡ b → cond b (tail_answer n head r.second) (tail_answer n head r.first) ≡ 0
          → (tail_answer n head r.first ≡ 0) × (tail_answer n head r.second ≡ 0)
      by true e h = (eqb-true (tail_answer n head r.first) 0 e, h)
      by false e h = absurd (eqb-false (tail_answer n head r.first) 0 e h)

  published-zero-tail : (published n head r).answer ≡ 0 → (published n head r).tail ≡ further_tail head r
  published-zero-tail h = let z = published-zero h in ap (λ (p : Published). p.tail) (published-tail z.0 z.1)

  -- the tail handed out is one of the two
  pub is-one-of-them : (published n head r).answer ≡ 0 → ((published n head r).tail ≡ r.first) ⊎ ((published n head r).tail ≡ r.second)
  is-one-of-them h = subst (λ (t : ℕ). (t ≡ r.first) ⊎ (t ≡ r.second)) (sym (published-zero-tail h)) (further-most head r).2

  -- it passes neither reader's: whatever lies between a reader's tail and head lies between it and head, and that is a ring length at most
  pub passes-neither : (published n head r).answer ≡ 0
      → (distance head r.first ≤ distance head (published n head r).tail) × (distance head r.second ≤ distance head (published n head r).tail)
      × (distance head (published n head r).tail ≤ n)
  passes-neither h =
      let z = published-zero h in
      let a = (tail-allowed n head r.first z.0).1 in
      let b = (tail-allowed n head r.second z.1).1 in
      let w = further-most head r in
      let near : distance head (further_tail head r) ≤ n =
      ⊎_elim (λ (e : further_tail head r ≡ r.first). subst (λ (t : ℕ). distance head t ≤ n) (sym e) a)
      (λ (e : further_tail head r ≡ r.second). subst (λ (t : ℕ). distance head t ≤ n) (sym e) b) w.2 in
      subst (λ (t : ℕ). (distance head r.first ≤ distance head t) × (distance head r.second ≤ distance head t) × (distance head t ≤ n))
      (sym (published-zero-tail h)) (w.0, w.1, near)

  -- "and no tail is handed out"
  pub no-tail : ((published n head r).answer ≢ 0) → (published n head r).tail ≡ 0
  unfolding published
  no-tail h = simp (ne_eqb (publish_answer n head r) 0 h)

-- so it is where one reader takes bytes, up to the head at most
pub first-moves-on : (head : ℕ) (r : Readers) (bytes : ℕ) → head < 2 ^ 64 → r.first < 2 ^ 64 → bytes ≤ distance head r.first
    → distance head (further_tail head (first_moved r bytes)) ≤ distance head (further_tail head r)
first-moves-on head r bytes hd tl h =
    let s = distance-on head r.first bytes tl h in
    never_back head r (first_moved r bytes) (omega (arith, s)) (omega arith)

pub second-moves-on : (head : ℕ) (r : Readers) (bytes : ℕ) → head < 2 ^ 64 → r.second < 2 ^ 64 → bytes ≤ distance head r.second
    → distance head (further_tail head (second_moved r bytes)) ≤ distance head (further_tail head r)
second-moves-on head r bytes hd tl h =
    let s = distance-on head r.second bytes tl h in
    never_back head r (second_moved r bytes) (omega arith) (omega (arith, s))

-- the bytes that a drain tells are what its reader moves by: then it stands at the drain's new tail. With one attribute set or a table: any judge
module _ (asked : Asked) (judge : List ℕ → ℕ) (ring : List ℕ) (head : ℕ) (r : Readers) (budget : ℕ) (journal scratch : List ℕ) (hd : head < 2 ^ 64) where
  pub first-drain-moves : r.first < 2 ^ 64
      → (first_moved r (run (frame asked ring head) judge ring budget (start r.first journal scratch)).state.bytes).first
      ≡ (run (frame asked ring head) judge ring budget (start r.first journal scratch)).state.tail
  first-drain-moves t = sym (run-counted asked judge ring head r.first budget journal scratch hd t).new-tail

  pub second-drain-moves : r.second < 2 ^ 64
      → (second_moved r (run (frame asked ring head) judge ring budget (start r.second journal scratch)).state.bytes).second
      ≡ (run (frame asked ring head) judge ring budget (start r.second journal scratch)).state.tail
  second-drain-moves t = sym (run-counted asked judge ring head r.second budget journal scratch hd t).new-tail
