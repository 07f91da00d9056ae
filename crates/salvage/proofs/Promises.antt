-- What M-111 promises of a salvage, for any judge. Assumes nothing.
use Rattle.std.specs.Prelude.{◌≡◌, Bool, ◌||◌, ◌⊎◌, ltb, take}
use Rattle.std.proofs.Math.Path.{refl, sym, ap}
use Rattle.std.proofs.Common.{◌∙◌, subst, ⊎_elim, arith, length-append}
use Rattle.std.proofs.Math.Bool.{true, false, cond, or-true}
use mathlib.Core.List.{List, [], ◌∷◌, ◌++◌, append_assoc}
use Prim.Native.Nat.{ℕ, zero, suc, ◌+◌, ◌*◌, ◌^◌, ◌<◌, ◌≤◌}
use borrow.Author.Tests.{lt-ltb, le-ltb, ltb-false, eqb-true, eq-eqb, ne_eqb}
use Rattle.std.proofs.Math.Dec.{eqb}
use Rattle.std.proofs.Math.ListN.{length, drop}
use Rattle.std.proofs.Math.Seq.{take_at, drop_at, take-append_seam, drop-append_seam}
use Rattle.meaning.specs.Bytes.{number_at, spell, put}
use Rattle.laws.specs.Bytes.{apart, num-spell}
use Rattle.laws.specs.Put.{put-nil, put-start}
use Rattle.entries.specs.Entries.{entry_bytes}
use Rattle.runs.proofs.Streams.{joined}
use Rattle.runs.proofs.Streams.{framed-says, framed-size}
use Rattle.salvage.specs.Salvage.{keeps, step, Piece, piece, pieces, kept_in, kept_records, output, Run, holes_in, holes, dropped, hole_bytes, changes, salvage_answer, accepted, out_after, list_after, tells, salvaged}
use Rattle.salvage.proofs.Steps.{Accepted, AllAccepted, accepted-kept, step_kept, pieces-turn, pieces_end}
use Rattle.salvage.proofs.Holes.{Spaced, without, along-from}

-- ---- one stream

-- "Bytes kept and bytes dropped add up to the input, each summed from the output and the list"
pub kept-and-dropped : (judge : List ℕ → ℕ) (xs : List ℕ) → length (output judge xs) + dropped (holes judge xs) ≡ length xs
kept-and-dropped judge xs = (along-from judge xs 0).sum

-- "each longest dropped run": they ascend, lie inside the input, and no two touch
pub holes-spaced : (judge : List ℕ → ℕ) (xs : List ℕ) → Spaced 0 (holes judge xs) (length xs)
holes-spaced judge xs = subst (Spaced 0 (holes judge xs)) (omega arith) (along-from judge xs 0).spaced

-- the list tells exactly which bytes are missing: the output is the input without them
pub output-is-rest : (judge : List ℕ → ℕ) (xs : List ℕ) → output judge xs ≡ without 0 (holes judge xs) xs
output-is-rest judge xs = (along-from judge xs 0).rest

-- every record of the output is framed and accepted
pub kept-are-accepted : (judge : List ℕ → ℕ) (xs : List ℕ) → AllAccepted judge (kept_records judge xs)
kept-are-accepted judge xs = (along-from judge xs 0).records

-- ---- a stream of accepted records

abbrev kept_all : List (List ℕ) → List Piece
kept_all [] = []
kept_all (r ∷ rs) = piece true r ∷ kept_all rs

kept-all : (rs : List (List ℕ)) → kept_in (kept_all rs) ≡ rs
unfolding kept_in
kept-all [] = refl
kept-all (r ∷ rs) = ap (λ (l : List (List ℕ)). r ∷ l) (kept-all rs)

holes-none : (rs : List (List ℕ)) (at : ℕ) → holes_in at (kept_all rs) ≡ []
unfolding holes_in
holes-none [] at = refl
holes-none (r ∷ rs) at = holes-none rs (at + length r)

accepted-turn : (judge : List ℕ → ℕ) (r rest : List ℕ) (n : ℕ) → Accepted judge r → pieces judge (suc n) (r ++ rest) ≡ piece true r ∷ pieces judge n rest
accepted-turn judge r rest n a =
    let low = (framed-says r a.frame).low in
    let k : keeps judge (r ++ rest) ≡ true = accepted-kept judge r rest a in
    let z : step judge (r ++ rest) ≡ length r = step_kept judge (r ++ rest) k ∙ framed-size r rest a.frame in
    pieces-turn judge n (r ++ rest) (omega (arith, length-append r rest))
    ∙ (λ i. piece (k i) (take (z i) (r ++ rest)) ∷ pieces judge n (drop (z i) (r ++ rest)))
    ∙ (λ i. piece true (take-append_seam r rest i) ∷ pieces judge n (drop-append_seam r rest i))

all-kept : (judge : List ℕ → ℕ) (rs : List (List ℕ)) → AllAccepted judge rs → (n : ℕ) → length (joined rs) ≤ n → pieces judge n (joined rs) ≡ kept_all rs
unfolding joined
all-kept judge [] a n h = pieces_end judge n
all-kept judge (r ∷ rs) a zero h = absurd (omega (arith, (framed-says r a.0.frame).low, length-append r (joined rs)))
all-kept judge (r ∷ rs) a (suc n) h =
    accepted-turn judge r (joined rs) n a.0
    ∙ ap (λ (ps : List Piece). piece true r ∷ ps)
    (all-kept judge rs a.1 n (omega (arith, (framed-says r a.0.frame).low, length-append r (joined rs))))

-- the same bytes, and an empty list
pub record Unchanged (judge : List ℕ → ℕ) (xs : List ℕ) : Type 0 where
  pub bytes : output judge xs ≡ xs
  pub list : holes judge xs ≡ []

-- "A stream of accepted records from end to end comes back byte for byte with an empty list"
pub accepted-stream : (judge : List ℕ → ℕ) (rs : List (List ℕ)) → AllAccepted judge rs → Unchanged judge (joined rs)
accepted-stream judge rs a =
    let e = all-kept judge rs a (length (joined rs)) (omega arith) in
    record {
      bytes = ap (λ (ps : List Piece). joined (kept_in ps)) e ∙ ap joined (kept-all rs);
      list = ap (holes_in 0) e ∙ holes-none rs 0;
    }

-- "salvaging the result again changes nothing"
pub salvage-again : (judge : List ℕ → ℕ) (xs : List ℕ) → Unchanged judge (output judge xs)
salvage-again judge xs = accepted-stream judge (kept_records judge xs) (kept-are-accepted judge xs)

-- ---- the list's bytes

pub changes-length : (hs : List Run) → length (changes hs) ≡ 22 * length hs
unfolding changes entry_bytes spell
changes-length [] = refl
changes-length (h ∷ hs) = omega (arith, length-append (hole_bytes h) (changes hs), changes-length hs)

-- the lengths of n entries, read back from bytes and added up
unfoldable pub told_dropped : ℕ → List ℕ → ℕ
told_dropped zero list = 0
told_dropped (suc n) list = number_at 8 list 14 + told_dropped n (drop 22 list)

told-holes : (hs : List Run) (rest : List ℕ) (low end : ℕ) → end < 256 ^ 8 → Spaced low hs end → told_dropped (length hs) (changes hs ++ rest) ≡ dropped hs
unfolding told_dropped changes dropped entry_bytes spell
told-holes [] rest low end w s = refl
told-holes (h ∷ hs) rest low end w s =
    let g = s.2 in
    let n : number_at 8 (hole_bytes h ++ (changes hs ++ rest)) 14 ≡ h.length = length_back h (changes hs ++ rest) (omega arith) in
    let d : drop 22 (hole_bytes h ++ (changes hs ++ rest)) ≡ changes hs ++ rest = drop_at (hole_bytes h) (changes hs ++ rest) 22 (hole-length h) in
    ap (λ (l : List ℕ). number_at 8 l 14 + told_dropped (length hs) (drop 22 l)) (append_assoc (hole_bytes h) (changes hs) rest)
    ∙ (λ i. n i + told_dropped (length hs) (d i))
    ∙ ap (λ (k : ℕ). h.length + k) (told-holes hs rest (h.start + h.length + 1) end w s.3)
  where
    hole-length : (h : Run) → length (hole_bytes h) ≡ 22
    hole-length h = refl

    length_back : (h : Run) (rest : List ℕ) → h.length < 256 ^ 8 → number_at 8 (hole_bytes h ++ rest) 14 ≡ h.length
    length_back h rest b = num-spell 8 h.length b

-- ---- the answer

pub before-answer : (before : ℕ) (judge : List ℕ → ℕ) (xs : List ℕ) (room list_room : ℕ) → (before ≡ 0 → ⊥) → salvage_answer before judge xs room list_room ≡ before
unfolding salvage_answer
before-answer before judge xs room list_room h = simp (ne_eqb before 0 h)

-- "No room in either buffer is 54"; exact room suffices
pub room-suffices : (judge : List ℕ → ℕ) (xs : List ℕ) (room list_room : ℕ) → length (output judge xs) ≤ room → length (changes (holes judge xs)) ≤ list_room
    → salvage_answer 0 judge xs room list_room ≡ 0
unfolding salvage_answer
room-suffices judge xs room list_room p q = simp (le-ltb room (length (output judge xs)) p, le-ltb list_room (length (changes (holes judge xs))) q)

pub no_room : (judge : List ℕ → ℕ) (xs : List ℕ) (room list_room : ℕ)
    → (room < length (output judge xs)) ⊎ (list_room < length (changes (holes judge xs))) → salvage_answer 0 judge xs room list_room ≡ 54
unfolding salvage_answer
no_room judge xs room list_room h =
    ⊎_elim
    (λ (p : room < length (output judge xs)). simp (lt-ltb room (length (output judge xs)) p))
    (λ (q : list_room < length (changes (holes judge xs))). simp (lt-ltb list_room (length (changes (holes judge xs))) q, or-true (ltb room (length (output judge xs)))))
    h

-- accepted: nothing came before, and both fit
pub record Fits (before : ℕ) (judge : List ℕ → ℕ) (xs : List ℕ) (room list_room : ℕ) : Type 0 where
  pub ready : before ≡ 0
  pub out : length (output judge xs) ≤ room
  pub list : length (changes (holes judge xs)) ≤ list_room

pub accepted-fits : (before : ℕ) (judge : List ℕ → ℕ) (xs : List ℕ) (room list_room : ℕ) → salvage_answer before judge xs room list_room ≡ 0
    → Fits before judge xs room list_room
unfolding salvage_answer
accepted-fits before judge xs room list_room h = by (eqb before 0) (ltb room n) (ltb list_room m) refl refl refl h
  where
    n : ℕ
    n = length (output judge xs)

    m : ℕ
    m = length (changes (holes judge xs))

    by : (t u v : Bool) → eqb before 0 ≡ t → ltb room n ≡ u → ltb list_room m ≡ v → cond t (cond (u || v) 54 0) before ≡ 0 → Fits before judge xs room list_room
    by false u v e f g z = absurd (apart (sym e ∙ eq-eqb before 0 z))
    by true true v e f g z = absurd (omega arith)
    by true false true e f g z = absurd (omega arith)
    by true false false e f g z = record { ready = eqb-true before 0 e; out = ltb-false room n f; list = ltb-false list_room m g }

-- ---- both buffers

module _ (before : ℕ) (judge : List ℕ → ℕ) (xs out list : List ℕ) where
  -- refused: both buffers as they were
  pub record Untouched : Type 0 where
    pub out-same : out_after before judge xs out list ≡ out
    pub list_same : list_after before judge xs out list ≡ list

  pub refused-untouched : (salvage_answer before judge xs (length out) (length list) ≡ 0 → ⊥) → Untouched
  unfolding out_after list_after
  refused-untouched h =
      let e : accepted before judge xs out list ≡ false = ne_eqb _ 0 h in
      record { out-same = simp e; list_same = simp e }

  -- accepted: the output and the list's entries, the rest of both buffers as it was; the sums again, from what the buffers hold
  pub record Written : Type 0 where
    pub out-there : take (length (output judge xs)) (out_after before judge xs out list) ≡ output judge xs
    pub out-rest : drop (length (output judge xs)) (out_after before judge xs out list) ≡ drop (length (output judge xs)) out
    pub list-there : take (22 * length (holes judge xs)) (list_after before judge xs out list) ≡ changes (holes judge xs)
    pub list-rest : drop (22 * length (holes judge xs)) (list_after before judge xs out list) ≡ drop (22 * length (holes judge xs)) list
    pub sum : length xs < 256 ^ 8 → length (output judge xs) + told_dropped (length (holes judge xs)) (list_after before judge xs out list) ≡ length xs

  pub accepted-written : salvage_answer before judge xs (length out) (length list) ≡ 0 → Written
  unfolding out_after list_after
  accepted-written h =
      let f = accepted-fits before judge xs (length out) (length list) h in
      let o : List ℕ = output judge xs in
      let hs : List Run = holes judge xs in
      let e : accepted before judge xs out list ≡ true = eq-eqb _ 0 h in
      let p : out_after before judge xs out list ≡ o ++ drop (length o) out =
      ap (λ (b : Bool). cond b (put out 0 o) out) e ∙ put-start out o f.out in
      let q : list_after before judge xs out list ≡ changes hs ++ drop (length (changes hs)) list =
      ap (λ (b : Bool). cond b (put list 0 (changes hs)) list) e ∙ put-start list (changes hs) f.list in
      let l : length (changes hs) ≡ 22 * length hs = changes-length hs in
      record {
        out-there = ap (take (length o)) p ∙ take-append_seam o (drop (length o) out);
        out-rest = ap (drop (length o)) p ∙ drop-append_seam o (drop (length o) out);
        list-there = ap (take (22 * length hs)) q ∙ take_at (changes hs) (drop (length (changes hs)) list) (22 * length hs) l;
        list-rest = ap (drop (22 * length hs)) q ∙ drop_at (changes hs) (drop (length (changes hs)) list) (22 * length hs) l ∙ ap (λ (k : ℕ). drop k list) l;
        sum = λ (w : length xs < 256 ^ 8).
            omega (arith, ap (told_dropped (length hs)) q ∙ told-holes hs (drop (length (changes hs)) list) 0 (length xs) w (holes-spaced judge xs), kept-and-dropped judge xs);
      }

-- ---- what is told

module _ (before : ℕ) (judge : List ℕ → ℕ) (xs : List ℕ) (room list_room : ℕ) where
  pub told-answer : (salvaged before judge xs room list_room).answer ≡ salvage_answer before judge xs room list_room
  unfolding salvaged
  told-answer = by (eqb (salvage_answer before judge xs room list_room) 0) refl
    where
      by : (t : Bool) → eqb (salvage_answer before judge xs room list_room) 0 ≡ t
          → (cond t (tells (length (output judge xs)) (dropped (holes judge xs)) (length (changes (holes judge xs))) 0) (tells 0 0 0 (salvage_answer before judge xs room list_room))).answer
          ≡ salvage_answer before judge xs room list_room
      by true e = sym (eqb-true _ 0 e)
      by false e = refl

  pub told-refused : (salvage_answer before judge xs room list_room ≡ 0 → ⊥) → salvaged before judge xs room list_room ≡ tells 0 0 0 (salvage_answer before judge xs room list_room)
  unfolding salvaged
  told-refused h = simp (ne_eqb _ 0 h)

  pub told-accepted : salvage_answer before judge xs room list_room ≡ 0
      → salvaged before judge xs room list_room ≡ tells (length (output judge xs)) (dropped (holes judge xs)) (length (changes (holes judge xs))) 0
  unfolding salvaged
  told-accepted h = simp (eq-eqb _ 0 h)

-- a stream that a salvage does not change: all of it told as kept, the same bytes, and no byte of the list's buffer written
pub record Back (before : ℕ) (judge : List ℕ → ℕ) (xs out list : List ℕ) : Type 0 where
  pub told : salvaged before judge xs (length out) (length list) ≡ tells (length xs) 0 0 0
  pub bytes : take (length xs) (out_after before judge xs out list) ≡ xs
  pub list_same : list_after before judge xs out list ≡ list

pub comes_back : (before : ℕ) (judge : List ℕ → ℕ) (xs out list : List ℕ) → before ≡ 0 → Unchanged judge xs → length xs ≤ length out → Back before judge xs out list
unfolding changes dropped out_after list_after
comes_back before judge xs out list z u r =
    let a : salvage_answer before judge xs (length out) (length list) ≡ 0 =
    ap (λ (k : ℕ). salvage_answer k judge xs (length out) (length list)) z
    ∙ room-suffices judge xs (length out) (length list) (omega (arith, ap length u.bytes)) (omega (arith, ap (λ (hs : List Run). length (changes hs)) u.list)) in
    let e : accepted before judge xs out list ≡ true = eq-eqb _ 0 a in
    record {
      told =
          told-accepted before judge xs (length out) (length list) a
          ∙ (λ i. tells (length (u.bytes i)) (dropped (u.list i)) (length (changes (u.list i))) 0);
      bytes =
          ap (λ (b : Bool). take (length xs) (cond b (put out 0 (output judge xs)) out)) e
          ∙ ap (λ (l : List ℕ). take (length xs) (put out 0 l)) u.bytes
          ∙ ap (take (length xs)) (put-start out xs r)
          ∙ take-append_seam xs (drop (length xs) out);
      list_same =
          ap (λ (b : Bool). cond b (put list 0 (changes (holes judge xs))) list) e
          ∙ ap (λ (hs : List Run). put list 0 (changes hs)) u.list
          ∙ put-nil list 0 (omega arith);
    }
