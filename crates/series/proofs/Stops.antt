-- What stays of a stop under another budget and another room, and under a later head. Rows are asked by their number. Assumes nothing.
use Rattle.std.specs.Prelude.{◌≡◌, refl, List, [], ◌∷◌, ◌++◌, Bool, true, false, cond, not, ◌&&◌, ◌||◌, ℕ, ◌+◌, ◌%◌, ◌^◌, ◌<◌, ◌≤◌, leb, ltb, eqb, length, take, drop}
use Rattle.std.proofs.Common.{sym, ap, ◌∙◌, subst, arith, le-ltb, eq-eqb, ne_eqb, eqb-true, ltb-false, leb-true, leb-false}
use Rattle.std.proofs.lemmas.Bool.{eqb-false, not-false}
use Rattle.meaning.specs.States.{Frame}
use Rattle.meaning.specs.Bytes.{number_at}
use Rattle.meaning.specs.Refusals.{Refusal, refusal}
use Rattle.meaning.specs.Editions.{is_in}
use Rattle.meaning.specs.Ring.{Asked, length_allowed, distance, record_at, stop_at, go_at, stopped, size_rows, sized, call_rows, left_rows, frame}
use Rattle.laws.specs.Bytes.{apart}
use Rattle.laws.specs.Rows.{or-false, every, in-each, others, Passed, passed-by, passed-others, quiet-passed, stopped-yes, stopped-no, stopped-append, stopped-passed}
use Rattle.laws.specs.Rings.{record-number, apart-counts}
use Rattle.laws.proofs.Framing.{header-whole}

-- ---- a stop with a number that no row of these has: they were passed
abbrev numbered : List Refusal → ℕ → Bool
numbered [] k = false
numbered (r ∷ rs) k = eqb r.number k || numbered rs k

past_row : (r : Refusal) (rs : List Refusal) (f : Frame) (k : ℕ) → eqb r.number k ≡ false → stopped (r ∷ rs) f ≡ stop_at k
    → (r.holds ≡ false) × (stopped rs f ≡ stop_at k)
past_row r rs f k n e = by r.holds refl
  where
    by : (b : Bool) → r.holds ≡ b → (r.holds ≡ false) × (stopped rs f ≡ stop_at k)
    by true b = absurd (eqb-false r.number k n (ap (λ (x : Frame). x.stop) (sym (stopped-yes r rs f b) ∙ e)))
    by false b = (b, sym (stopped-no r rs f b) ∙ e)

past-rows : (rs : List Refusal) (f : Frame) (k : ℕ) → numbered rs k ≡ false → stopped rs f ≡ stop_at k → Passed rs × (f ≡ stop_at k)
unfolding stopped
past-rows [] f k n e = (tt, e)
past-rows (r ∷ rs) f k n e =
    let o = or-false (eqb r.number k) (numbered rs k) n in
    let a = past_row r rs f k o.0 e in
    let b = past-rows rs f k o.1 a.1 in
    ((a.0, b.0), b.1)

-- the same of any number of a list, none of which the rows have
past-listed : (ks : List ℕ) (rs : List Refusal) (f : Frame) (k : ℕ) → is_in k ks ≡ true → every (λ (j : ℕ). not (numbered rs j)) ks ≡ true
    → stopped rs f ≡ stop_at k → Passed rs × (f ≡ stop_at k)
past-listed ks rs f k h a e = past-rows rs f k (not-not (numbered rs k) (in-each (λ (j : ℕ). not (numbered rs j)) ks k a h)) e
  where
    not-not : (b : Bool) → not b ≡ true → b ≡ false
    not-not true q = absurd (apart q)
    not-not false q = refl

-- ---- the rows of the call, then those of what is left, then the record's size
frame-parts : (asked : Asked) (ring : List ℕ) (head tail left room scratch : ℕ)
    → frame asked ring head tail left room scratch
    ≡ stopped (call_rows asked (length ring) head tail) (stopped (left_rows head tail left room) (sized ring (tail % length ring) (distance head tail) scratch))
unfolding frame
frame-parts asked ring head tail left room scratch = stopped-append (call_rows asked (length ring) head tail) (left_rows head tail left room) _

-- the stops that lie in ring and head alone: neither budget nor room, and no call that is refused
abbrev pub lasting : List ℕ
lasting = 0 ∷ 3 ∷ 6 ∷ 7 ∷ []

module _ (asked : Asked) (ring : List ℕ) (head tail left room scratch k : ℕ) (e : frame asked ring head tail left room scratch ≡ stop_at k) (h : is_in k lasting ≡ true) where
  abbrev size_frame : Frame
  size_frame = sized ring (tail % length ring) (distance head tail) scratch

  call-passed : Passed (call_rows asked (length ring) head tail) × (stopped (left_rows head tail left room) size_frame ≡ stop_at k)
  call-passed = past-listed lasting (call_rows asked (length ring) head tail) (stopped (left_rows head tail left room) size_frame) k h refl
      (sym (frame-parts asked ring head tail left room scratch) ∙ e)

  -- at such a stop the head is a multiple of 8
  pub stop-eight : head % 8 ≡ 0
  stop-eight =
      let eights = or-false (not (eqb (head % 8) 0)) (not (eqb (tail % 8) 0)) (passed-by (call_rows asked (length ring) head tail) call-passed.0 5) in
      eqb-true (head % 8) 0 (not-false (eqb (head % 8) 0) eights.0)

  -- it stays where the rows of budget and room are passed, if they are asked at all
  left-again : (left' room' : ℕ) → (size_frame ≡ stop_at k → Passed (others (0 ∷ []) (left_rows head tail left' room')))
      → frame asked ring head tail left' room' scratch ≡ stop_at k
  left-again left' room' means =
      frame-parts asked ring head tail left' room' scratch
      ∙ stopped-passed (call_rows asked (length ring) head tail) (stopped (left_rows head tail left' room') size_frame) call-passed.0
      ∙ by (eqb head tail) refl
    where
      by : (b : Bool) → eqb head tail ≡ b → stopped (left_rows head tail left' room') size_frame ≡ stop_at k
      by true q = stopped-yes _ _ size_frame q ∙ sym (stopped-yes _ _ size_frame q) ∙ call-passed.1
      by false q =
          let r = (past-listed lasting (others (0 ∷ []) (left_rows head tail left room)) size_frame k h refl (sym (stopped-no _ _ size_frame q) ∙ call-passed.1)).1 in
          stopped-no _ _ size_frame q ∙ stopped-passed (others (0 ∷ []) (left_rows head tail left' room')) size_frame (means r) ∙ r

  -- with budget and room the same stop
  pub stop-again : (left' room' : ℕ) → 0 < left' → 16 ≤ room' → frame asked ring head tail left' room' scratch ≡ stop_at k
  stop-again left' room' l j = left-again left' room' (λ _. (ne_eqb left' 0 (λ (i : left' ≡ 0). omega arith), (le-ltb room' 16 j, tt)))

-- "head equals tail: nothing to take", whatever budget and room are: no later row has its number
pub nothing-again : (asked : Asked) (ring : List ℕ) (head tail left room scratch : ℕ) → frame asked ring head tail left room scratch ≡ stop_at 0
    → (left' room' : ℕ) → frame asked ring head tail left' room' scratch ≡ stop_at 0
unfolding sized
nothing-again asked ring head tail left room scratch e left' room' =
    let place : ℕ = tail % length ring in
    let size : ℕ = number_at 2 ring (place + 6) in
    left-again asked ring head tail left room scratch 0 e refl left' room'
    (λ f. absurd (apart (sym (ap (λ (x : Frame). x.go) (past-rows (size_rows ring place size (distance head tail) scratch) (go_at place size) 0 refl f).1))))

-- ---- 3 and 6 stay under a later head, in a later ring that has the same header bytes

abbrev pub staying : List ℕ
staying = 3 ∷ 6 ∷ []

-- counts that differ by a multiple of 8 are 8 apart
eight-apart : (h t : ℕ) → h < 2 ^ 64 → t < 2 ^ 64 → h % 8 ≡ 0 → t % 8 ≡ 0 → (h ≡ t → ⊥) → 8 ≤ distance h t
unfolding distance
eight-apart h t a b c d n = by (leb 8 (distance h t)) refl
  where
    by : (x : Bool) → leb 8 (distance h t) ≡ x → 8 ≤ distance h t
    by true e = leb-true 8 (distance h t) e
    by false e = let l = leb-false 8 (distance h t) e in absurd (n (omega arith))

-- rows that stop so before what is left is asked stop so whatever is left
rows_before : (rs : List Refusal) (f g s : Frame) → (f ≡ s → g ≡ s) → stopped rs f ≡ s → stopped rs g ≡ s
unfolding stopped
rows_before [] f g s h e = h e
rows_before (r ∷ rs) f g s h e = by r.holds e (rows_before rs f g s h)
  where
    by : (b : Bool) → cond b (stop_at r.number) (stopped rs f) ≡ s → (stopped rs f ≡ s → stopped rs g ≡ s) → cond b (stop_at r.number) (stopped rs g) ≡ s
    by true e next = e
    by false e next = next e

-- of what may change only the distance is asked, by row 7
sized-later : (ring later : List ℕ) (place far far' scratch k : ℕ) → length ring ≡ length later → far ≤ far'
    → number_at 2 ring (place + 6) ≡ number_at 2 later (place + 6) → is_in k staying ≡ true
    → sized ring place far scratch ≡ stop_at k → sized later place far' scratch ≡ stop_at k
unfolding sized
sized-later ring later place far far' scratch k q near same h e =
    let n : ℕ = number_at 2 ring (place + 6) in
    let rows : ℕ → List Refusal = λ (d : ℕ). size_rows ring place n d scratch in
    let go : Frame = go_at place n in
    ap (λ (m : ℕ). stopped (size_rows later place m far' scratch) (go_at place m)) (sym same)
    ∙ ap (λ (l : ℕ). stopped (take 3 (rows far') ++ (refusal (not (leb (place + n) l) && ltb scratch n) 3 ∷ [])) go) (sym q)
    ∙ stopped-append (take 2 (rows far')) (drop 2 (rows far')) go
    ∙ rows_before (take 2 (rows far)) (stopped (drop 2 (rows far)) go) (stopped (drop 2 (rows far')) go) (stop_at k)
    (λ f.
    let a = past-listed staying (take 1 (drop 2 (rows far))) (stopped (drop 3 (rows far)) go) k h refl
    (sym (stopped-append (take 1 (drop 2 (rows far))) (drop 3 (rows far)) go) ∙ f) in
    stopped-no (refusal (ltb far' n) 7) _ go (le-ltb far' n (omega (arith, near, ltb-false far n a.0.0))) ∙ a.1)
    (sym (stopped-append (take 2 (rows far)) (drop 2 (rows far)) go) ∙ e)

-- the rows before the size that ask what may change: the others are those of edition and table
abbrev moving : List ℕ
moving = 1 ∷ 4 ∷ 5 ∷ 0 ∷ 8 ∷ 9 ∷ []

pub stop-later : (asked : Asked) (ring later : List ℕ) (head onhead tail left room scratch k : ℕ) → head < 2 ^ 64 → tail < 2 ^ 64
    → frame asked ring head tail left room scratch ≡ stop_at k → is_in k staying ≡ true
    → length ring ≡ length later → onhead % 8 ≡ 0
    → (length_allowed (length ring) ≡ true → distance head tail ≤ length ring → 8 ≤ distance head tail
    → (distance head tail ≤ distance onhead tail) × (distance onhead tail ≤ length later) × (record_at ring (tail % length ring) 8 ≡ record_at later (tail % length later) 8))
    → (left' room' : ℕ) → 0 < left' → 16 ≤ room' → frame asked later onhead tail left' room' scratch ≡ stop_at k
unfolding frame
stop-later asked ring later head onhead tail left room scratch k hd tl e h q eight same left' room' l j =
    let n : ℕ = length ring in
    let m : ℕ = length later in
    let rows : List Refusal = call_rows asked n head tail ++ left_rows head tail left room in
    let rows' : List Refusal = call_rows asked m onhead tail ++ left_rows onhead tail left' room' in
    let a = past-listed staying rows (sized ring (tail % n) (distance head tail) scratch) k h refl e in
    let row = passed-by rows a.0 in
    let ok = not-false (length_allowed n) (row 1) in
    let ok' : length_allowed m ≡ true = subst (λ (x : ℕ). length_allowed x ≡ true) q ok in
    let eights = or-false (not (eqb (head % 8) 0)) (not (eqb (tail % 8) 0)) (row 5) in
    let te = eqb-true (tail % 8) 0 (not-false (eqb (tail % 8) 0) eights.1) in
    let far = eight-apart head tail hd tl (eqb-true (head % 8) 0 (not-false (eqb (head % 8) 0) eights.0)) te (eqb-false head tail (row 0)) in
    let s = same ok (ltb-false n (distance head tail) (row 4)) far in
    let s0 = s.0 in
    let size : number_at 2 ring (tail % n + 6) ≡ number_at 2 later (tail % n + 6) = sym (record-number ring (tail % n) 8 2 6 (omega arith) (omega (arith, header-whole tail n ok te)))
    ∙ ap (λ (x : List ℕ). number_at 2 x 6) s.2
    ∙ record-number later (tail % m) 8 2 6 (omega arith) (omega (arith, header-whole tail m ok' te))
    ∙ ap (λ (x : ℕ). number_at 2 later (tail % x + 6)) (sym q) in
    stopped-passed rows' (sized later (tail % m) (distance onhead tail) scratch)
    (quiet-passed moving rows'
    ((
      ap not ok',
      (
        le-ltb m (distance onhead tail) s.1,
        (
          simp (eq-eqb (onhead % 8) 0 eight, eq-eqb (tail % 8) 0 te),
          (
            ne_eqb onhead tail (apart-counts onhead tail tl (omega (arith, far, s0))),
            (ne_eqb left' 0 (λ (i : left' ≡ 0). omega arith), (le-ltb room' 16 j, tt)),
          ),
        ),
      ),
    ))
    (passed-others moving rows a.0))
    ∙ ap (λ (x : ℕ). sized later (tail % x) (distance onhead tail) scratch) (sym q)
    ∙ sized-later ring later (tail % n) (distance head tail) (distance onhead tail) scratch k q s0 size h a.1
