-- Demand 2, sentence by sentence, for document 01's editions and all attributes: "A record is decoded exactly when the Linux perf_event_open page and
-- the kernel's public header, as condensed in 01, give it a meaning, and to that meaning. The writer's bytes read back as the same record, and a
-- decoded record written again with room has the same bytes except those that 01 lists as ignored." The writing back speaks of values without the
-- flag: one with it is refused with 43.
-- A value is held as words, with a source of bytes for its lists and names; `meant` is what the words say: numbers, counts, and the bytes at the
-- places, "wherever the places lie". Assumes nothing.
use Rattle.std.specs.Prelude.{◌≡◌, Bool, ℕ, ◌≤◌, length, take, get_or}
use Rattle.std.proofs.Math.Path.{refl, sym, ap}
use Rattle.std.proofs.Common.{◌∙◌, subst, arith}
use mathlib.Core.List.{List}
use Rattle.std.proofs.Math.Bool.{true, false, cond}
use Rattle.std.proofs.Math.Dec.{eqb}
use borrow.Author.Tests.{eq-eqb, eqb-true, eqb-false, ne_eqb}
use Rattle.meaning.specs.declared.Attributes.{Attributes}
use Rattle.meaning.specs.Bytes.{zeros, small}
use Rattle.meaning.specs.Refusals.{or_else}
use Rattle.meaning.specs.Editions.{editions, allowed, known, is_in}
use Rattle.meaning.specs.Records.{Layout, layout, check, flag_of, record_check, Value, value, unflagged, write_record, cleaned_record}
use Rattle.meaning.specs.Values.{record_words, read_answered, read, meant, flagged, write_answer, write_buffer}
use Rattle.laws.specs.Whole.{Decodes, flag-unwritten, record-there, record-again}
use Rattle.laws.specs.Bytes.{apart}
use Rattle.laws.specs.Every.{sound}
use Rattle.editions.specs.Numbers.{check_numbers}
use Rattle.editions.proofs.InTable.{check-in}
use Rattle.laws.specs.Told.{words-told}
use Rattle.laws.specs.Exactly.{LaidOut, decodes-exactly}
use Rattle.laws.specs.Answer42.{check-of, bytes_of, passes, Written, read_back, written-again, buffer-holds, exact-42, one_value, one-record}

module _ (e : ℕ) (a : Attributes) where
  abbrev lay : Layout
  lay = layout (known editions e) a

  -- ---- "decoded exactly when .. as condensed in 01, give it a meaning": laid out by the schema, item after item, with nothing left over

  pub decoded-exactly : (xs : List ℕ)
      → (check editions e a xs ≡ 0 → (allowed editions e ≡ true) × LaidOut lay xs)
      × ((allowed editions e ≡ true) × LaidOut lay xs → check editions e a xs ≡ 0)
  decoded-exactly = decodes-exactly editions e a

  -- where the flag is set, record check answers 44 instead of 0; everywhere else as the reader does
  pub check-clean : (xs : List ℕ) → flag_of lay xs ≡ 0 → record_check editions e a xs ≡ check editions e a xs
  unfolding record_check
  check-clean xs f = rw (eq-eqb (flag_of lay xs) 0 f) (or_same (check editions e a xs))
    where
      or_same : (n : ℕ) → or_else n 0 ≡ n
      or_same n = go (eqb n 0) refl
        where
          go : (t : Bool) → eqb n 0 ≡ t → cond t 0 n ≡ n
          go true h = sym (eqb-true n 0 h)
          go false h = refl

  pub check-flagged : (xs : List ℕ) → check editions e a xs ≡ 0 → (flag_of lay xs ≡ 0 → ⊥) → record_check editions e a xs ≡ 44
  unfolding record_check
  check-flagged xs h f = rw (eq-eqb (check editions e a xs) 0 h, ne_eqb (flag_of lay xs) 0 f)

  pub check-refused : (xs : List ℕ) → (check editions e a xs ≡ 0 → ⊥) → record_check editions e a xs ≡ check editions e a xs
  unfolding record_check
  check-refused xs h = rw (ne_eqb (check editions e a xs) 0 h)

  -- and 44 says both
  pub check-44 : (xs : List ℕ) → record_check editions e a xs ≡ 44 → (check editions e a xs ≡ 0) × (flag_of lay xs ≡ 0 → ⊥)
  check-44 xs h = go (eqb (check editions e a xs) 0) refl
    where
      go : (t : Bool) → eqb (check editions e a xs) 0 ≡ t → (check editions e a xs ≡ 0) × (flag_of lay xs ≡ 0 → ⊥)
      go true z =
          let c = eqb-true (check editions e a xs) 0 z in
          (c, λ f. let q : ◌≡◌ {A = ℕ} 44 0 = sym h ∙ check-clean xs f ∙ c in omega (arith, q))
      go false z =
          let c : ◌≡◌ {A = ℕ} 44 (check editions e a xs) = sym h ∙ check-refused xs (eqb-false (check editions e a xs) 0 z) in
          absurd (apart (subst (λ (n : ℕ). is_in n check_numbers ≡ true) (sym c) (check-in editions e a xs)))

  -- the reader's answer
  pub read-answers : (xs : List ℕ) → (read editions e a xs).answer ≡ check editions e a xs
  unfolding read read_answered
  read-answers xs = refl

  read-words : (xs : List ℕ) → check editions e a xs ≡ 0 → (read editions e a xs).words ≡ record_words lay xs
  unfolding read read_answered
  read-words xs h = rw (eq-eqb (check editions e a xs) 0 h)

  -- ---- "and to that meaning": the 56 words that are read mean the record's own contents, by its own bytes

  pub read-means : (xs : List ℕ) → check editions e a xs ≡ 0 → (meant lay xs (read editions e a xs).words ≡ value lay xs) × (length (read editions e a xs).words ≡ 56)
  read-means xs h =
      let t = words-told (known editions e) a xs (check-of editions e a xs h).1 in
      rw (read-words xs h) (t.means, t.long)

  -- "A body refusal carries its number and no value"
  pub read-refused : (xs : List ℕ) → (check editions e a xs ≡ 0 → ⊥) → (read editions e a xs).words ≡ zeros 56
  unfolding read read_answered
  read-refused xs h = rw (ne_eqb (check editions e a xs) 0 h)

  -- ---- "The writer's bytes read back as the same record"

  -- the bytes that the writer put into a buffer, read under the same edition and attributes: accepted, and the words mean what was written
  pub reads-back : (src ws buffer : List ℕ) → write_answer editions e a src ws (length buffer) ≡ 0
      → ((read editions e a (take (length (bytes_of editions e a src ws)) (write_buffer editions e a src ws buffer))).answer ≡ 0)
      × (meant lay (take (length (bytes_of editions e a src ws)) (write_buffer editions e a src ws buffer))
      (read editions e a (take (length (bytes_of editions e a src ws)) (write_buffer editions e a src ws buffer))).words
      ≡ meant lay src ws)
  reads-back src ws buffer h =
      let b = read_back editions e a src ws (length buffer) h in
      let xs : List ℕ = bytes_of editions e a src ws in
      let c = b.0.decodes in
      rw (buffer-holds editions e a src ws buffer h).0
      (read-answers xs ∙ c, ap (λ (l : List ℕ). meant lay xs l) (read-words xs c) ∙ b.2)

  -- ---- "a decoded record written again with room has the same bytes except those that 01 lists as ignored"

  -- `cleaned_record` is the record with those bytes as zero, and as long; of a record without the flag
  pub writes_again : (xs : List ℕ) → small xs ≡ true → check editions e a xs ≡ 0 → flag_of lay xs ≡ 0 → (space : ℕ) → length xs ≤ space
      → (write_answer editions e a xs (read editions e a xs).words space ≡ 0)
      × (bytes_of editions e a xs (read editions e a xs).words ≡ cleaned_record lay xs)
      × (length (cleaned_record lay xs) ≡ length xs)
  writes_again xs s h n space m =
      let w = written-again editions e a xs s h in
      rw (read-words xs h) (w.taken n space m, w.cleaned, w.long)

  -- and with it, 43
  pub writes-43 : (xs : List ℕ) → small xs ≡ true → check editions e a xs ≡ 0 → (flag_of lay xs ≡ 0 → ⊥) → (space : ℕ)
      → write_answer editions e a xs (read editions e a xs).words space ≡ 43
  writes-43 xs s h n space = rw (read-words xs h) ((written-again editions e a xs s h).refused n space)

  -- all bytes the same exactly where the ignored ones are zero
  pub writes-same : (xs : List ℕ) → small xs ≡ true → check editions e a xs ≡ 0
      → (cleaned_record lay xs ≡ xs → bytes_of editions e a xs (read editions e a xs).words ≡ xs)
      × (bytes_of editions e a xs (read editions e a xs).words ≡ xs → cleaned_record lay xs ≡ xs)
  writes-same xs s h =
      let w = written-again editions e a xs s h in
      rw (read-words xs h) (w.clean-same, w.same-clean)

  -- ---- one meaning

  decodes : (xs src ws : List ℕ) → Written editions e a xs src ws → Decodes lay xs (meant lay src ws)
  unfolding Decodes
  decodes xs src ws w = (w.bytes, (check-of editions e a xs w.decodes).1, w.same.means)

  -- two values that a record decodes to are the same
  pub one-meaning : (xs src₁ ws₁ src₂ ws₂ : List ℕ) → Written editions e a xs src₁ ws₁ → Written editions e a xs src₂ ws₂ → meant lay src₁ ws₁ ≡ meant lay src₂ ws₂
  one-meaning xs src₁ ws₁ src₂ ws₂ p q = one_value editions e a xs (meant lay src₁ ws₁) (meant lay src₂ ws₂) (decodes xs src₁ ws₁ p) (decodes xs src₂ ws₂ q)

  -- two records that decode to the same value differ only in ignored bytes
  pub one-source : (xs ys src ws : List ℕ) → Written editions e a xs src ws → Written editions e a ys src ws → cleaned_record lay xs ≡ cleaned_record lay ys
  one-source xs ys src ws p q = one-record editions e a xs ys (meant lay src ws) (decodes xs src ws p) (decodes ys src ws q)

  -- and two that differ only in those decode to the same value but for the flag: ignored bytes say nothing else
  pub ignored-say-nothing : (xs ys : List ℕ) → small xs ≡ true → small ys ≡ true → check editions e a xs ≡ 0 → check editions e a ys ≡ 0
      → cleaned_record lay xs ≡ cleaned_record lay ys → unflagged (value lay xs) ≡ unflagged (value lay ys)
  unfolding Decodes
  ignored-say-nothing xs ys s t p q c = sym (back xs s p) ∙ ap (λ (zs : List ℕ). value lay zs) c ∙ back ys t q
    where
      back : (zs : List ℕ) → small zs ≡ true → check editions e a zs ≡ 0 → value lay (cleaned_record lay zs) ≡ unflagged (value lay zs)
      back zs u h =
          let r = record-again lay zs (sound (known editions e) a) u (check-of editions e a zs h).1 in
          ap (λ (l : List ℕ). value lay l) (sym r.1 ∙ sym (flag-unwritten lay (value lay zs))) ∙ (record-there lay (unflagged (value lay zs)) (sound (known editions e) a) r.0).2

  -- a record whose ignored bytes are zero has no flag
  pub clean-unflagged : (xs : List ℕ) → small xs ≡ true → check editions e a xs ≡ 0 → cleaned_record lay xs ≡ xs → flag_of lay xs ≡ 0
  unfolding value unflagged Decodes
  clean-unflagged xs s h c =
      let r = record-again lay xs (sound (known editions e) a) s (check-of editions e a xs h).1 in
      let d : value lay (write_record lay (unflagged (value lay xs))) ≡ unflagged (value lay xs) = (record-there lay (unflagged (value lay xs)) (sound (known editions e) a) r.0).2 in
      let w : write_record lay (unflagged (value lay xs)) ≡ xs = flag-unwritten lay (value lay xs) ∙ r.1 ∙ c in
      sym (ap (λ (l : List ℕ). (value lay l).flag) w) ∙ ap (λ (v : Value). v.flag) d

  -- ---- "42 exactly when no record decodes, under that edition and those attributes, to the same numbers and listed bytes": where 2, 20 to 25, 43
  -- and 41, which come before it, do not hold

  pub exactly-42 : (src ws : List ℕ) (space : ℕ) → allowed editions e ≡ true → lay.unknown (get_or ws 0 0) (get_or ws 1 0) ≡ 0 → flagged lay ws ≡ false → passes editions e a src ws ≡ false
      → (write_answer editions e a src ws space ≡ 42 → (xs : List ℕ) → Written editions e a xs src ws → ⊥)
      × (((xs : List ℕ) → Written editions e a xs src ws → ⊥) → write_answer editions e a src ws space ≡ 42)
  exactly-42 = exact-42 editions e a
