-- Demand 1, the copier of names: "A name too long for its buffer is refused whole with that buffer untouched." And document 01: "41 if place plus
-- count, as plain numbers, passes the record's end; 12 if the name and one zero don't fit the buffer. Refused: buffer unchanged. Accepted: name, zero,
-- the rest unchanged." Assumes nothing.
use Rattle.std.specs.Prelude.{◌≡◌, List, [], ◌∷◌, ◌++◌, Bool, cond, ℕ, ◌+◌, ◌<◌, ◌≤◌, ltb, take, drop}
use Rattle.std.proofs.Math.Path.{refl, ap}
use Rattle.std.proofs.Common.{◌∙◌, arith}
use Rattle.std.proofs.Math.Bool.{true, false}
use borrow.Author.Tests.{lt-ltb, le-ltb, ltb-true, ltb-false, eq-eqb, ne_eqb}
use Rattle.std.proofs.Math.ListN.{length, length-append, length-drop}
use Rattle.std.proofs.Math.Seq.{length-take-le}
use Rattle.meaning.specs.Bytes.{put}
use Rattle.meaning.specs.Refusals.{first}
use Rattle.meaning.specs.Editions.{is_in}
use Rattle.meaning.specs.Names.{name_answer, name_buffer}
use Rattle.editions.specs.Numbers.{name_numbers}
use Rattle.editions.proofs.InTable.{name_in}
use Rattle.runs.specs.Scratches.{put_holds}

module _ (xs : List ℕ) (place count : ℕ) (buffer : List ℕ) where
  -- what is told, the buffer then, and the name
  abbrev told : ℕ
  told = name_answer xs place count buffer

  abbrev buffer_then : List ℕ
  buffer_then = name_buffer xs place count buffer

  abbrev name : List ℕ
  name = take count (drop place xs)

  pub name-numbers : is_in told name_numbers ≡ true
  name-numbers = name_in xs place count buffer

  -- the two tests, and which answer they give
  abbrev past : Bool
  past = ltb (length xs) (place + count)

  abbrev full : Bool
  full = ltb (length buffer) (count + 1)

  abbrev tested : Bool → Bool → ℕ
  tested p f = cond p 41 (cond f 12 0)

  by_tests : (n : ℕ) → told ≡ n → tested past full ≡ n
  unfolding name_answer first
  by_tests n h = h

  -- "41 if place plus count, as plain numbers, passes the record's end", and exactly then
  pub name-41 : (told ≡ 41 → length xs < place + count) × (length xs < place + count → told ≡ 41)
  unfolding name_answer first
  name-41 = (λ h. by past full refl (by_tests 41 h), λ h. rw (lt-ltb (length xs) (place + count) h))
    where
      by : (p f : Bool) → past ≡ p → tested p f ≡ 41 → length xs < place + count
      by true f e h = ltb-true (length xs) (place + count) e
      by false true e h = absurd (omega (arith, h))
      by false false e h = absurd (omega (arith, h))

  -- "12 if the name and one zero don't fit the buffer", and exactly then
  pub name-12 : (told ≡ 12 → (place + count ≤ length xs) × (length buffer < count + 1)) × ((place + count ≤ length xs) × (length buffer < count + 1) → told ≡ 12)
  unfolding name_answer first
  name-12 = (
    λ h. by past full refl refl (by_tests 12 h),
    λ h. rw (le-ltb (length xs) (place + count) h.0, lt-ltb (length buffer) (count + 1) h.1),
  )
    where
      by : (p f : Bool) → past ≡ p → full ≡ f → tested p f ≡ 12 → (place + count ≤ length xs) × (length buffer < count + 1)
      by true f d e h = absurd (omega (arith, h))
      by false true d e h = (ltb-false (length xs) (place + count) d, ltb-true (length buffer) (count + 1) e)
      by false false d e h = absurd (omega (arith, h))

  -- what is accepted lies in the record, and fits with its zero
  name-fits : told ≡ 0 → (place + count ≤ length xs) × (count + 1 ≤ length buffer)
  name-fits h = by past full refl refl (by_tests 0 h)
    where
      by : (p f : Bool) → past ≡ p → full ≡ f → tested p f ≡ 0 → (place + count ≤ length xs) × (count + 1 ≤ length buffer)
      by true f d e h = absurd (omega (arith, h))
      by false true d e h = absurd (omega (arith, h))
      by false false d e h = (ltb-false (length xs) (place + count) d, ltb-false (length buffer) (count + 1) e)

  -- "Refused: buffer unchanged"
  pub name-refused : (told ≡ 0 → ⊥) → buffer_then ≡ buffer
  unfolding name_buffer
  name-refused h = rw (ne_eqb told 0 h)

  -- "A name too long for its buffer is refused whole with that buffer untouched"
  pub name-too-long : length buffer < count + 1 → (told ≡ 0 → ⊥) × (buffer_then ≡ buffer)
  name-too-long h =
      let no : told ≡ 0 → ⊥ = λ z. omega (arith, (name-fits z).1, h) in
      (no, name-refused no)

  -- "Accepted: name, zero, the rest unchanged"
  pub name-accepted : told ≡ 0 → (length name ≡ count) × (take (count + 1) buffer_then ≡ name ++ (0 ∷ [])) × (drop (count + 1) buffer_then ≡ drop (count + 1) buffer)
  unfolding name_buffer
  name-accepted z =
      let f = name-fits z in
      let l : length name ≡ count = length-take-le count (drop place xs) (omega (arith, f.0, length-drop place xs)) in
      let m : length (name ++ (0 ∷ [])) ≡ count + 1 = length-append name (0 ∷ []) ∙ ap (λ (k : ℕ). k + 1) l in
      let q : buffer_then ≡ put buffer 0 (name ++ (0 ∷ [])) = rw (eq-eqb told 0 z) in
      let p = put_holds buffer (name ++ (0 ∷ [])) (count + 1) m f.1 in
      (l, ap (take (count + 1)) q ∙ p.0, ap (drop (count + 1)) q ∙ p.1)
