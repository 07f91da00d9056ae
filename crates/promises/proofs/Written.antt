-- Demand 1, the writer as C calls it: `write_words_answer` and `write_words_buffer` are the right sides of the contract of `ollskuvan_write`. What the buffer
-- then holds; and each number for its own reason, by rows in the order checked: "2; 20 to 24; 41 ..; 42 ..; 40 ..", with M-102's 25 "after 23 and before 24" and
-- M-107's 43 "after 24 and before 41". Fewer than 56 words tell no record: 42, right after 2. Assumes nothing.
use Rattle.std.proofs.Math.Path.{◌≡◌, refl, ap}
use Rattle.std.proofs.Common.{sym, ◌∙◌, arith}
use Rattle.std.specs.Prelude.{List, [], ◌∷◌, ◌++◌, Bool, not, take, drop, get_or}
use Rattle.std.proofs.Math.Bool.{true, false, cond}
use Prim.Native.Nat.{ℕ, ◌<◌, ◌≤◌}
use borrow.Author.Tests.{leb-true, not-false}
use Rattle.std.proofs.Math.Dec.{leb}
use Rattle.std.proofs.Math.ListN.{length}
use Rattle.meaning.specs.declared.Attributes.{Attributes}
use Rattle.meaning.specs.Refusals.{Refusal, first}
use Rattle.meaning.specs.Editions.{editions, allowed, known, has_branches, strange_branch, unknowns, clashes, unreadable}
use Rattle.meaning.specs.Records.{Layout, layout}
use Rattle.meaning.specs.Values.{flagged, write_by, write_answer, write_buffer}
use Rattle.meaning.specs.Ring.{go_at, stop_at}
use Rattle.writer.specs.Writer.{write_words_answer, write_words_buffer}
use Rattle.laws.specs.Bytes.{apart, and-true}
use Rattle.laws.specs.Rows.{gives, before, Passed, stopped-reason, first-passed, first_stops}
use Rattle.laws.specs.Answer42.{bytes_of, accepted, buffer-holds, buffer-kept, flagged-43}
use Rattle.editions.proofs.OneRecord.{first_else}
use Rattle.promises.proofs.Checked.{foremost, first-exactly}
use Rattle.promises.proofs.Exported.{few, few-buffer, write-accepted, holds-record}
use Rattle.promises.specs.Written.{write_rows}
use Rattle.promises.proofs.WriterRows.{last-rows}

-- ---- the buffer

module _ (e : ℕ) (a : Attributes) (src ws buffer : List ℕ) where
  abbrev told : ℕ
  told = write_words_answer e a src ws (length buffer)

  abbrev buffer_then : List ℕ
  buffer_then = write_words_buffer e a src ws buffer

  -- the record that is written: what the first 56 words mean, with the source
  abbrev pub record_meant : List ℕ
  record_meant = bytes_of editions e a src (take 56 ws)

  -- with 56 words and more the answer is that of the writer of a value, in an edition or not
  same_answer : leb 56 (length ws) ≡ true → told ≡ write_answer editions e a src (take 56 ws) (length buffer)
  unfolding write_words_answer write_answer
  same_answer m = rw m (by (allowed editions e))
    where
      x : ℕ
      x = write_by (layout (known editions e) a) src (take 56 ws) (length buffer)

      by : (g : Bool) → cond g (cond g x 2) 2 ≡ cond g x 2
      by true = refl
      by false = refl

  -- "Refused: buffer unchanged."
  pub write-unchanged : (told ≡ 0 → ⊥) → buffer_then ≡ buffer
  unfolding write_words_buffer
  write-unchanged n = by (leb 56 (length ws)) refl
    where
      by : (m : Bool) → leb 56 (length ws) ≡ m → cond m (write_buffer editions e a src (take 56 ws) buffer) buffer ≡ buffer
      by true m = buffer-kept editions e a src (take 56 ws) buffer (λ z. n (same_answer m ∙ z))
      by false m = refl

  -- "Accepted: the record, the rest unchanged.": it is as long as its size word says, and fits
  pub write-holds : told ≡ 0
      → (take (get_or ws 2 0) buffer_then ≡ record_meant) × (drop (get_or ws 2 0) buffer_then ≡ drop (get_or ws 2 0) buffer)
      × (length record_meant ≡ get_or ws 2 0) × (get_or ws 2 0 ≤ length buffer)
  write-holds z =
      let w = write-accepted e a src ws (length buffer) z in
      let r = holds-record e a src ws buffer z in
      let l = r.1 in
      let m = (accepted editions e a src (take 56 ws) (length buffer) w.1).enough in
      let b = (buffer-holds editions e a src (take 56 ws) buffer w.1).1 in
      (r.0, ap (drop (get_or ws 2 0)) (few-buffer e a src ws buffer w.0) ∙ rw l at b, l, omega (arith, l, m))

-- ---- each number for its own reason

-- where no row holds, 0 is answered
none_first : (rs : List Refusal) → Passed rs → first rs 0 ≡ 0
unfolding first
none_first [] p = refl
none_first (r ∷ rs) p = rw p.0 (none_first rs p.1)

first_word : (ws : List ℕ) → get_or (take 56 ws) 0 0 ≡ get_or ws 0 0
first_word [] = refl
first_word (x ∷ ws) = refl

module _ (e : ℕ) (a : Attributes) (src ws : List ℕ) (space : ℕ) where
  abbrev lay : Layout
  lay = layout (known editions e) a

  -- the value: the first 56 words, of which the first are its type and its misc
  abbrev vs : List ℕ
  vs = take 56 ws

  abbrev kind_word : ℕ
  kind_word = get_or vs 0 0

  abbrev misc_word : ℕ
  misc_word = get_or vs 1 0

  abbrev answer : ℕ
  answer = write_words_answer e a src ws space

  -- the answer is the number of the first row that holds, and 0 where none does
  pub words-rows : answer ≡ first (write_rows e a src ws space) 0
  unfolding write_words_answer write_answer write_by unreadable first layout
  words-rows =
      two (allowed editions e) (leb 56 (length ws)) _ _
      (first_else (unknowns (known editions e) kind_word misc_word a ++ clashes kind_word a) 0 _ refl
      ∙ ap (first (unknowns (known editions e) kind_word misc_word a ++ clashes kind_word a)) (last-rows e a src ws space))
    where
      two : (p q : Bool) (x y : ℕ) → x ≡ y → cond p (cond q (cond p x 2) 42) 2 ≡ cond (not p) 2 (cond (not q) 42 y)
      two false q x y h = refl
      two true false x y h = refl
      two true true x y h = h

  -- so a number is given exactly when its row holds and no row before it does; 0 exactly when none holds
  pub words-exactly : (k : ℕ) → 0 < k → (answer ≡ k → foremost k (write_rows e a src ws space) ≡ true) × (foremost k (write_rows e a src ws space) ≡ true → answer ≡ k)
  words-exactly k p =
      let x = first-exactly k p (write_rows e a src ws space) in
      (λ h. x.0 (sym words-rows ∙ h), λ h. words-rows ∙ x.1 h)

  pub words-0 : (answer ≡ 0 → Passed (write_rows e a src ws space)) × (Passed (write_rows e a src ws space) → answer ≡ 0)
  words-0 = (λ h. first-passed (write_rows e a src ws space) refl (sym words-rows ∙ h), λ p. words-rows ∙ none_first (write_rows e a src ws space) p)

  -- and in two parts, by the number: a row that has it holds, and none before the first that has it
  pub words-reason : (k : ℕ) → 0 < k → answer ≡ k → (gives k (write_rows e a src ws space) ≡ true) × Passed (before k (write_rows e a src ws space))
  words-reason k p h =
      let q : first (write_rows e a src ws space) 0 ≡ k = sym words-rows ∙ h in
      stopped-reason (write_rows e a src ws space) (go_at 0 0) refl k (first_stops (write_rows e a src ws space) [] (go_at 0 0) (λ z. omega (arith, p, q, z)) ∙ ap stop_at q)

  -- M-102: "any record but a SAMPLE with sample bit 11 never is" 25, "by reader and writer": whatever the other words hold
  pub words-never-25 : has_branches (get_or ws 0 0) a ≡ false → answer ≡ 25 → ⊥
  words-never-25 f h =
      let w = and-true (has_branches kind_word a) (strange_branch (known editions e) a) (words-reason 25 (omega arith) h).0 in
      apart (sym f ∙ ap (λ (t : ℕ). has_branches t a) (sym (first_word ws)) ∙ w.0)

  -- M-107: "The writer refuses a value with the flag set with 43, after 24 and before 41": exactly where 2 and 20 to 25 do not hold, whatever 41, 42 and 40 say
  pub writes-43 : (answer ≡ 43 → (allowed editions e ≡ true) × (56 ≤ length ws) × (lay.unknown kind_word misc_word ≡ 0) × (flagged lay vs ≡ true))
      × ((allowed editions e ≡ true) × (56 ≤ length ws) × (lay.unknown kind_word misc_word ≡ 0) × (flagged lay vs ≡ true) → answer ≡ 43)
  unfolding layout unreadable first
  writes-43 = (there, λ w. few e a src ws space w.0 w.1 ∙ flagged-43 editions e a src vs space w.0 w.2 w.3)
    where
      there : answer ≡ 43 → (allowed editions e ≡ true) × (56 ≤ length ws) × (lay.unknown kind_word misc_word ≡ 0) × (flagged lay vs ≡ true)
      there h =
          let r = words-reason 43 (omega arith) h in
          let p = r.1 in
          let q = p.1.1 in
          (not-false (allowed editions e) p.0, leb-true 56 (length ws) (not-false (leb 56 (length ws)) p.1.0), none_first (unknowns (known editions e) kind_word misc_word a ++ clashes kind_word a) q, r.0)
