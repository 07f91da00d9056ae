-- Demand 2 for what C calls: `ollskuvan_read` fills lent words, `ollskuvan_write` takes lent words; `read_into_answer`, `read_into_words`,
-- `write_words_answer` and `write_words_buffer` are the right sides of their contracts. Of the lent words the first 56 are the value. `a` is what `given`
-- makes of C's numbers. "The writer's bytes read back as the same record, and a decoded record written again with room has the same bytes except those
-- that 01 lists as ignored." Assumes nothing.
use Rattle.std.specs.Prelude.{◌≡◌, refl, true, false, leb, take, drop, get_or}
use Rattle.std.proofs.Math.Path.{sym, ap, subst}
use Rattle.std.proofs.Common.{ap₂, ◌∙◌, arith}
use mathlib.Core.List.{List, [], ◌∷◌}
use Prim.Native.Nat.{ℕ, ◌≤◌}
use Rattle.std.proofs.Math.ListN.{length}
use borrow.Author.Tests.{leb-true, le-leb, eq-eqb}
use Rattle.meaning.specs.declared.Attributes.{Attributes}
use Rattle.meaning.specs.States.{Frame, One}
use Rattle.meaning.specs.Bytes.{small, put}
use Rattle.meaning.specs.Editions.{editions, allowed, known}
use Rattle.meaning.specs.Records.{Layout, layout, Value, judge, check_by, check, flag_of, value, cleaned_record}
use Rattle.meaning.specs.Values.{record_words, read_answered, meant, flagged, write_answer, write_buffer}
use Rattle.meaning.specs.Ring.{record_at, shown, one_frame, taken, read_one, one_scratch}
use Rattle.record.specs.Into.{read_into_answer, read_into_words}
use Rattle.one.specs.Told.{one_told, one_words}
use Rattle.writer.specs.Writer.{write_words_answer, write_words_buffer}
use Rattle.laws.specs.Put.{length-put}
use Rattle.laws.specs.Answers.{tested, or-zero, check-zero}
use Rattle.laws.specs.Whole.{Decodes}
use Rattle.laws.specs.Every.{sound}
use Rattle.laws.specs.More.{written-clean}
use Rattle.laws.specs.Told.{words-told}
use Rattle.laws.specs.Answer42.{check-of, bytes_of, passes, Written, accepted, read_back, written-again, buffer-holds, exact-42, one-record}
use Rattle.editions.proofs.OneRecord.{check-framed}
use Rattle.runs.proofs.Forward.{frame-going, going-framed}
use Rattle.editions.proofs.Stops.{one-taken}
use Rattle.runs.specs.Scratches.{put_holds}
use Rattle.promises.proofs.Demand1.{one-taken-moves, one-shows}

-- the third of the first 56 words is the third word: the size
third : (ws : List ℕ) → get_or (take 56 ws) 2 0 ≡ get_or ws 2 0
third [] = refl
third (x ∷ []) = refl
third (x ∷ y ∷ []) = refl
third (x ∷ y ∷ z ∷ ws) = refl

module _ (e : ℕ) (a : Attributes) where
  abbrev lay : Layout
  lay = layout (known editions e) a

  -- ---- ollskuvan_read

  -- what an answer of 0 says: record check accepts, there are 56 words, and the first 56 are the record's own; as many words as before
  pub read-accepted : (xs out : List ℕ) → read_into_answer editions e a xs out ≡ 0
      → (check editions e a xs ≡ 0) × (56 ≤ length out) × (take 56 (read_into_words editions e a xs out) ≡ record_words lay xs)
      × (length (read_into_words editions e a xs out) ≡ length out)
  unfolding read_into_answer read_into_words
  read-accepted xs out z =
      let s = or-zero (check editions e a xs) _ z in
      let m = leb-true 56 (length out) (tested (leb 56 (length out)) 40 0 (omega arith) s.1).0 in
      let ws : List ℕ = record_words lay xs in
      let l = (words-told (known editions e) a xs (check-of editions e a xs s.0).1).long in
      let q : read_into_words editions e a xs out ≡ put out 0 ws = rw (eq-eqb (read_into_answer editions e a xs out) 0 z) in
      (s.0, m, ap (take 56) q ∙ (put_holds out ws 56 l m).0, ap length q ∙ length-put out 0 ws)

  -- and what gives it
  pub read-accepts : (xs out : List ℕ) → check editions e a xs ≡ 0 → 56 ≤ length out → read_into_answer editions e a xs out ≡ 0
  unfolding read_into_answer
  read-accepts xs out c m = rw (eq-eqb (check editions e a xs) 0 c, le-leb 56 (length out) m)

  -- "and to that meaning": what the lent words say is the record's value, by its own bytes
  pub read-means : (xs out : List ℕ) → read_into_answer editions e a xs out ≡ 0 → meant lay xs (take 56 (read_into_words editions e a xs out)) ≡ value lay xs
  read-means xs out z =
      let r = read-accepted xs out z in
      ap (meant lay xs) r.2 ∙ (words-told (known editions e) a xs (check-of editions e a xs r.0).1).means

  -- one meaning: whatever the lent words held before, they say the same
  pub one-meaning : (xs out₁ out₂ : List ℕ) → read_into_answer editions e a xs out₁ ≡ 0 → read_into_answer editions e a xs out₂ ≡ 0
      → take 56 (read_into_words editions e a xs out₁) ≡ take 56 (read_into_words editions e a xs out₂)
  one-meaning xs out₁ out₂ p q = (read-accepted xs out₁ p).2 ∙ sym (read-accepted xs out₂ q).2

  -- ---- ollskuvan_write

  -- with 56 words and more the writer of the first 56
  pub few : (src ws : List ℕ) (space : ℕ) → allowed editions e ≡ true → 56 ≤ length ws → write_words_answer e a src ws space ≡ write_answer editions e a src (take 56 ws) space
  unfolding write_words_answer
  few src ws space g m = rw (g, le-leb 56 (length ws) m)

  pub few-buffer : (src ws buffer : List ℕ) → 56 ≤ length ws → write_words_buffer e a src ws buffer ≡ write_buffer editions e a src (take 56 ws) buffer
  unfolding write_words_buffer
  few-buffer src ws buffer m = rw (le-leb 56 (length ws) m)

  -- what an answer of 0 says: at least 56 words, and the writer accepts the first 56
  pub write-accepted : (src ws : List ℕ) (space : ℕ) → write_words_answer e a src ws space ≡ 0
      → (56 ≤ length ws) × (write_answer editions e a src (take 56 ws) space ≡ 0)
  unfolding write_words_answer
  write-accepted src ws space z =
      let g = tested (allowed editions e) 2 _ (omega arith) z in
      let t = tested (leb 56 (length ws)) 42 _ (omega arith) g.1 in
      (leb-true 56 (length ws) t.0, t.1)

  -- the record that is written is as long as its size word says
  size_of : (src ws : List ℕ) (space : ℕ) → write_answer editions e a src ws space ≡ 0 → length (bytes_of editions e a src ws) ≡ get_or ws 2 0
  unfolding value meant
  size_of src ws space z =
      let b = read_back editions e a src ws space z in
      let xs : List ℕ = bytes_of editions e a src ws in
      sym (check-zero lay xs (check-of editions e a xs b.0.decodes).1).1 ∙ ap (λ (v : Value). v.size) b.0.same.means

  -- the record that C finds in its buffer: as many bytes as the size word says
  abbrev pub record_in : List ℕ → List ℕ → List ℕ
  record_in ws buffer = take (get_or ws 2 0) buffer

  pub holds-record : (src ws buffer : List ℕ) → write_words_answer e a src ws (length buffer) ≡ 0
      → (record_in ws (write_words_buffer e a src ws buffer) ≡ bytes_of editions e a src (take 56 ws)) × (length (bytes_of editions e a src (take 56 ws)) ≡ get_or ws 2 0)
  holds-record src ws buffer z =
      let w = write-accepted src ws (length buffer) z in
      let l : length (bytes_of editions e a src (take 56 ws)) ≡ get_or ws 2 0 = size_of src (take 56 ws) (length buffer) w.1 ∙ third ws in
      (ap₂ (λ (n : ℕ) (b : List ℕ). take n b) (sym l) (few-buffer src ws buffer w.0) ∙ (buffer-holds editions e a src (take 56 ws) buffer w.1).0, l)

  -- "The writer's bytes read back as the same record": what ollskuvan_write put into a buffer, ollskuvan_read accepts, and the words mean the same
  pub reads-back : (src ws buffer out : List ℕ) → write_words_answer e a src ws (length buffer) ≡ 0 → 56 ≤ length out
      → (read_into_answer editions e a (record_in ws (write_words_buffer e a src ws buffer)) out ≡ 0)
      × (meant lay (record_in ws (write_words_buffer e a src ws buffer)) (take 56 (read_into_words editions e a (record_in ws (write_words_buffer e a src ws buffer)) out))
      ≡ meant lay src (take 56 ws))
  reads-back src ws buffer out z m =
      let w = write-accepted src ws (length buffer) z in
      let b = read_back editions e a src (take 56 ws) (length buffer) w.1 in
      let xs : List ℕ = bytes_of editions e a src (take 56 ws) in
      let r = read-accepts xs out b.0.decodes m in
      subst
      (λ (l : List ℕ). (read_into_answer editions e a l out ≡ 0) × (meant lay l (take 56 (read_into_words editions e a l out)) ≡ meant lay src (take 56 ws)))
      (sym (holds-record src ws buffer z).0)
      (r, ap (meant lay xs) (read-accepted xs out r).2 ∙ b.2)

  -- "a decoded record written again with room has the same bytes except those that 01 lists as ignored": the words that ollskuvan_read filled, given to
  -- ollskuvan_write with the record as their source; the rest of the buffer is unchanged. "Demand 2's writing back now speaks of values without the flag"
  pub writes_again : (xs out buffer : List ℕ) → small xs ≡ true → read_into_answer editions e a xs out ≡ 0 → flag_of lay xs ≡ 0 → length xs ≤ length buffer
      → (write_words_answer e a xs (read_into_words editions e a xs out) (length buffer) ≡ 0)
      × (take (length xs) (write_words_buffer e a xs (read_into_words editions e a xs out) buffer) ≡ cleaned_record lay xs)
      × (drop (length xs) (write_words_buffer e a xs (read_into_words editions e a xs out) buffer) ≡ drop (length xs) buffer)
      × (length (cleaned_record lay xs) ≡ length xs)
  writes_again xs out buffer s z n₀ room =
      let r = read-accepted xs out z in
      let long = r.3 in
      let most = r.1 in
      let ws : List ℕ = read_into_words editions e a xs out in
      let m : 56 ≤ length ws = omega (arith, long, most) in
      let w = written-again editions e a xs s r.0 in
      let same : write_answer editions e a xs (take 56 ws) (length buffer) ≡ 0 = ap (λ (l : List ℕ). write_answer editions e a xs l (length buffer)) r.2 ∙ w.taken n₀ (length buffer) room in
      let bytes : bytes_of editions e a xs (take 56 ws) ≡ cleaned_record lay xs = ap (bytes_of editions e a xs) r.2 ∙ w.cleaned in
      let n : length (bytes_of editions e a xs (take 56 ws)) ≡ length xs = ap length bytes ∙ w.long in
      let b = buffer-holds editions e a xs (take 56 ws) buffer same in
      let q = few-buffer xs ws buffer m in (
        few xs ws (length buffer) (check-of editions e a xs r.0).0 m ∙ same,
        ap₂ (λ (k : ℕ) (l : List ℕ). take k l) (sym n) q ∙ b.0 ∙ bytes,
        ap₂ (λ (k : ℕ) (l : List ℕ). drop k l) (sym n) q ∙ b.1 ∙ ap (λ (k : ℕ). drop k buffer) n,
        w.long,
      )

  -- "The writer refuses a value with the flag set with 43": whatever the buffer
  pub writes-43 : (xs out : List ℕ) (space : ℕ) → small xs ≡ true → read_into_answer editions e a xs out ≡ 0 → (flag_of lay xs ≡ 0 → ⊥)
      → write_words_answer e a xs (read_into_words editions e a xs out) space ≡ 43
  writes-43 xs out space s z n =
      let r = read-accepted xs out z in
      let long = r.3 in
      let most = r.1 in
      let ws : List ℕ = read_into_words editions e a xs out in
      few xs ws space (check-of editions e a xs r.0).0 (omega (arith, long, most))
      ∙ ap (λ (l : List ℕ). write_answer editions e a xs l space) r.2
      ∙ (written-again editions e a xs s r.0).refused n space

  -- "Ignored bytes, written as zero": of the record that C finds in its buffer none but zeros are ignored
  pub written-zero : (src ws buffer : List ℕ) → write_words_answer e a src ws (length buffer) ≡ 0
      → cleaned_record lay (record_in ws (write_words_buffer e a src ws buffer)) ≡ record_in ws (write_words_buffer e a src ws buffer)
  written-zero src ws buffer z =
      let w = write-accepted src ws (length buffer) z in
      let c = written-clean lay (meant lay src (take 56 ws)) (sound (known editions e) a) (accepted editions e a src (take 56 ws) (length buffer) w.1).fitting in
      subst (λ (l : List ℕ). cleaned_record lay l ≡ l) (sym (holds-record src ws buffer z).0) c

  -- "42 exactly when no record decodes, under that edition and those attributes, to the same numbers and listed bytes": past 43, which comes before it
  pub exactly-42 : (src ws : List ℕ) (space : ℕ) → 56 ≤ length ws → allowed editions e ≡ true → lay.unknown (get_or (take 56 ws) 0 0) (get_or (take 56 ws) 1 0) ≡ 0
      → flagged lay (take 56 ws) ≡ false → passes editions e a src (take 56 ws) ≡ false
      → (write_words_answer e a src ws space ≡ 42 → (xs : List ℕ) → Written editions e a xs src (take 56 ws) → ⊥)
      × (((xs : List ℕ) → Written editions e a xs src (take 56 ws) → ⊥) → write_words_answer e a src ws space ≡ 42)
  exactly-42 src ws space m g k f₀ i =
      let f = few src ws space g m in
      let x = exact-42 editions e a src (take 56 ws) space g k f₀ i in
      (λ h. x.0 (sym f ∙ h), λ none. f ∙ x.1 none)

  -- two records that ollskuvan_read decodes to the same value differ only in ignored bytes
  pub one-source : (xs ys : List ℕ) (out₁ out₂ : List ℕ) → small xs ≡ true → small ys ≡ true → read_into_answer editions e a xs out₁ ≡ 0 → read_into_answer editions e a ys out₂ ≡ 0
      → meant lay xs (take 56 (read_into_words editions e a xs out₁)) ≡ meant lay ys (take 56 (read_into_words editions e a ys out₂)) → cleaned_record lay xs ≡ cleaned_record lay ys
  unfolding Decodes
  one-source xs ys out₁ out₂ s t p q h =
      let accepts : (zs out : List ℕ) → read_into_answer editions e a zs out ≡ 0 → check_by lay zs ≡ 0 = λ zs out z. (check-of editions e a zs (read-accepted zs out z).0).1 in
      one-record editions e a xs ys (value lay xs) (s, accepts xs out₁ p, refl) (t, accepts ys out₂ q, sym (read-means ys out₂ q) ∙ sym h ∙ read-means xs out₁ p)

-- ---- the reader of one record: what it accepts means the record that is shown

module _ (e : ℕ) (a : Attributes) (ring : List ℕ) (head tail : ℕ) (scratch : List ℕ) where
  abbrev next : Frame
  next = one_frame editions e ring head tail scratch

  abbrev one : One
  one = read_one editions e a ring head tail scratch

  -- the part that is shown, of the ring or of the scratch at exit
  abbrev part_shown : List ℕ
  part_shown = shown ring (one_scratch editions e ring head tail scratch) next

  -- an answer of 0, of a record that was taken: record check accepts the part shown, and the 56 words are its own
  one-accepted : next.go ≡ true → one.answer ≡ 0 → (check editions e a part_shown ≡ 0) × (one.words ≡ record_words (layout (known editions e) a) part_shown)
  unfolding taken read_answered
  one-accepted g z =
      let s = one-shows e a ring head tail scratch g in
      let t = (one-taken editions e a ring head tail scratch g).0 in
      let xs : List ℕ = record_at ring next.place next.size in
      let j : judge (layout (known editions e) a) xs ≡ 0 = sym (one-taken-moves e a ring head tail scratch g).1 ∙ z in
      let w = frame-going _ ring head tail 1 16 (length scratch) g in
      let f = (going-framed _ ring head tail 1 16 (length scratch) next w).1 in
      subst (λ (l : List ℕ). (check editions e a l ≡ 0) × (one.words ≡ record_words (layout (known editions e) a) l)) (sym s)
      (check-framed editions e w.edition a xs f ∙ j, ap (λ (o : One). o.words) t ∙ rw (eq-eqb (judge (layout (known editions e) a) xs) 0 j))

  pub one-means : next.go ≡ true → one.answer ≡ 0
      → (check editions e a part_shown ≡ 0) × (meant (layout (known editions e) a) part_shown one.words ≡ value (layout (known editions e) a) part_shown)
  one-means g z =
      let o = one-accepted g z in
      let w = words-told (known editions e) a part_shown (check-of editions e a part_shown o.0).1 in
      (o.0, ap (meant (layout (known editions e) a) part_shown) o.1 ∙ w.means)

  -- the same for the reader that fills lent words: what the first 56 say is the value of the record shown
  pub one-into-means : (words : List ℕ) → next.go ≡ true → (one_told editions e a ring head tail scratch words).answer ≡ 0
      → (check editions e a part_shown ≡ 0)
      × (meant (layout (known editions e) a) part_shown (take 56 (one_words editions e a ring head tail scratch words)) ≡ value (layout (known editions e) a) part_shown)
  unfolding one_told one_words
  one-into-means words g z =
      let xs : List ℕ = record_at ring next.place next.size in
      let q : (one_told editions e a ring head tail scratch words).answer ≡ read_into_answer editions e a xs words = rw g in
      let w : one_words editions e a ring head tail scratch words ≡ read_into_words editions e a xs words = rw g in
      let h : read_into_answer editions e a xs words ≡ 0 = sym q ∙ z in
      subst
      (λ (l : List ℕ). (check editions e a l ≡ 0) × (meant (layout (known editions e) a) l (take 56 (one_words editions e a ring head tail scratch words)) ≡ value (layout (known editions e) a) l))
      (sym (one-shows e a ring head tail scratch g))
      ((read-accepted e a xs words h).0, ap (λ (ws : List ℕ). meant (layout (known editions e) a) xs (take 56 ws)) w ∙ read-means e a xs words h)
