-- The writer and the reader of words are inverse to each other, and 42 is given exactly when no record decodes to what the words mean. For every
-- table of editions, every edition and all attributes. Assumes nothing.
use Rattle.std.specs.Prelude.{◌≡◌, Bool, true, false, cond, ◌&&◌, take, get_or, leb, eqb}
use Rattle.std.proofs.Math.Path.{refl, sym, ap, ap₂}
use Rattle.std.proofs.Common.{◌∙◌, arith, take_at}
use Prim.Native.Nat.{ℕ, ◌+◌, ◌<◌, ◌≤◌}
use Rattle.std.proofs.Math.Nat.{zero-add}
use mathlib.Core.List.{List}
use Rattle.std.proofs.Math.ListN.{length, drop}
use Rattle.std.proofs.Math.Seq.{drop_at}
use borrow.Author.Tests.{eq-eqb, eqb-true, le-leb, leb-true, ne_eqb, not-false}
use Rattle.meaning.specs.declared.Attributes.{Attributes}
use Rattle.meaning.specs.declared.Item.{Item}
use Rattle.meaning.specs.declared.Known.{Known}
use Rattle.meaning.specs.Bytes.{small, all_zero, put}
use Rattle.meaning.specs.Editions.{known, allowed}
use Rattle.meaning.specs.Records.{Layout, layout, Value, check_by, check, flag_of, value, write_record, fits, cleaned_record}
use Rattle.meaning.specs.Values.{any_beyond, slots_told, record_words, meant, spare, flag_told, flagged, writable, write_by, write_answer, write_buffer}
use Rattle.laws.specs.Bytes.{apart, and-true, true-and}
use Rattle.laws.specs.Answers.{tested, or-zero, check-zero}
use Rattle.laws.specs.Whole.{Decodes, no_flag, record-there, record-again, decoded-fits, same-value}
use Rattle.laws.specs.Every.{sound}
use Rattle.laws.specs.More.{cleaned-length}
use Rattle.laws.specs.Told.{words-told}

-- record check past row 2
pub check-of : (rows : List Known) (e : ℕ) (a : Attributes) (xs : List ℕ) → check rows e a xs ≡ 0 → (allowed rows e ≡ true) × (check_by (layout (known rows e) a) xs ≡ 0)
unfolding check
check-of rows e a xs h = tested (allowed rows e) 2 (check_by (layout (known rows e) a) xs) (omega arith) h

pub of-check : (rows : List Known) (e : ℕ) (a : Attributes) (xs : List ℕ) → allowed rows e ≡ true → check_by (layout (known rows e) a) xs ≡ 0 → check rows e a xs ≡ 0
unfolding check
of-check rows e a xs g h = rw g h

untested : (t : Bool) (why rest : ℕ) → 0 < why → cond t why rest ≡ 0 → (t ≡ false) × (rest ≡ 0)
untested true why rest p h = absurd (omega (arith, p, h))
untested false why rest p h = (refl, h)

module _ (rows : List Known) (e : ℕ) (a : Attributes) where
  abbrev pub lay : Layout
  lay = layout (known rows e) a

  -- the fields of the type and misc that words hold
  abbrev pub fields_told : List ℕ → List Item
  fields_told ws = lay.body (get_or ws 0 0) (get_or ws 1 0)

  abbrev pub passes : List ℕ → List ℕ → Bool
  passes src ws = any_beyond src (fields_told ws) (slots_told (fields_told ws) (drop 3 ws) 0 0)

  -- what the writer makes of words and a source
  abbrev pub bytes_of : List ℕ → List ℕ → List ℕ
  bytes_of src ws = write_record lay (meant lay src ws)

  -- "the same numbers and listed bytes": the record's value is what the words mean with their source, and the words that no field has are zero
  pub record Same (xs src ws : List ℕ) : Type 0 where
    pub means : value lay xs ≡ meant lay src ws
    pub spared : all_zero (spare lay ws) ≡ true

  -- a record that decodes under this edition and these attributes to the same
  pub record Written (xs src ws : List ℕ) : Type 0 where
    pub bytes : small xs ≡ true
    pub decodes : check rows e a xs ≡ 0
    pub same : Same xs src ws

  -- ---- accepted

  -- words whose flag is 0
  clean-words : (ws : List ℕ) → flag_told (fields_told ws) ws ≡ 0 → flagged lay ws ≡ false
  unfolding flagged
  clean-words ws h = rw (eq-eqb (flag_told (fields_told ws) ws) 0 h)

  -- what an answer of 0 says
  pub record Accepted (src ws : List ℕ) (space : ℕ) : Type 0 where
    pub edition : allowed rows e ≡ true
    pub known : lay.unknown (get_or ws 0 0) (get_or ws 1 0) ≡ 0
    pub clean : flagged lay ws ≡ false
    pub inside : passes src ws ≡ false
    pub spared : all_zero (spare lay ws) ≡ true
    pub fitting : fits lay (meant lay src ws) ≡ true
    pub enough : length (bytes_of src ws) ≤ space

  pub accepted : (src ws : List ℕ) (space : ℕ) → write_answer rows e a src ws space ≡ 0 → Accepted src ws space
  unfolding write_answer write_by writable
  accepted src ws space h =
      let p = tested (allowed rows e) 2 (write_by lay src ws space) (omega arith) h in
      let q = or-zero (lay.unknown (get_or ws 0 0) (get_or ws 1 0)) _ p.1 in
      let o = untested (flagged lay ws) 43 _ (omega arith) q.1 in
      let r = untested (passes src ws) 41 _ (omega arith) o.1 in
      let s = tested (all_zero (spare lay ws) && fits lay (meant lay src ws)) 42 _ (omega arith) r.1 in
      let t = tested (leb (length (bytes_of src ws)) space) 40 0 (omega arith) s.1 in
      let u = and-true (all_zero (spare lay ws)) (fits lay (meant lay src ws)) s.0 in
      record { edition = p.0; known = q.0; clean = o.0; inside = r.0; spared = u.0; fitting = u.1; enough = leb-true _ _ t.0 }

  -- past 2, 20 to 25, 43 and 41
  past-41 : (src ws : List ℕ) (space : ℕ) → allowed rows e ≡ true → lay.unknown (get_or ws 0 0) (get_or ws 1 0) ≡ 0 → flagged lay ws ≡ false → passes src ws ≡ false
      → write_answer rows e a src ws space ≡ cond (writable lay src ws) (cond (leb (length (bytes_of src ws)) space) 0 40) 42
  unfolding write_answer write_by
  past-41 src ws space g k n i = rw (g, eq-eqb (lay.unknown (get_or ws 0 0) (get_or ws 1 0)) 0 k, n, i)

  pub accepts : (src ws : List ℕ) (space : ℕ) → Accepted src ws space → write_answer rows e a src ws space ≡ 0
  unfolding writable
  accepts src ws space c =
      past-41 src ws space c.edition c.known c.clean c.inside
      ∙ rw (true-and (all_zero (spare lay ws)) (fits lay (meant lay src ws)) c.spared c.fitting, le-leb (length (bytes_of src ws)) space c.enough)

  -- ---- read back: what the writer accepts and writes is decoded, under the same edition and attributes, with answer 0, to the same record

  pub read_back : (src ws : List ℕ) (space : ℕ) → write_answer rows e a src ws space ≡ 0
      → Written (bytes_of src ws) src ws × (length (bytes_of src ws) ≤ space) × (meant lay (bytes_of src ws) (record_words lay (bytes_of src ws)) ≡ meant lay src ws)
  unfolding Decodes
  read_back src ws space h =
      let c = accepted src ws space h in
      let d = record-there lay (meant lay src ws) (sound (known rows e) a) c.fitting in
      let w = words-told (known rows e) a (bytes_of src ws) d.1 in (
        record { bytes = d.0; decodes = of-check rows e a (bytes_of src ws) c.edition d.1; same = record { means = d.2; spared = c.spared } },
        c.enough,
        w.means ∙ d.2,
      )

  -- "Accepted: the record, the rest unchanged"
  pub buffer-holds : (src ws buffer : List ℕ) → write_answer rows e a src ws (length buffer) ≡ 0
      → (take (length (bytes_of src ws)) (write_buffer rows e a src ws buffer) ≡ bytes_of src ws)
      × (drop (length (bytes_of src ws)) (write_buffer rows e a src ws buffer) ≡ drop (length (bytes_of src ws)) buffer)
  unfolding write_buffer put
  buffer-holds src ws buffer h =
      let xs : List ℕ = bytes_of src ws in
      let z = zero-add (length xs) in
      let l = (accepted src ws (length buffer) h).enough in
      rw (eq-eqb (write_answer rows e a src ws (length buffer)) 0 h, le-leb (0 + length xs) (length buffer) (omega (arith, l)))
      (take_at xs (drop (0 + length xs) buffer) (length xs) refl, drop_at xs (drop (0 + length xs) buffer) (length xs) refl ∙ ap (λ (n : ℕ). drop n buffer) z)

  -- "Refused: buffer unchanged"
  pub buffer-kept : (src ws buffer : List ℕ) → (write_answer rows e a src ws (length buffer) ≡ 0 → ⊥) → write_buffer rows e a src ws buffer ≡ buffer
  unfolding write_buffer
  buffer-kept src ws buffer n = rw (ne_eqb (write_answer rows e a src ws (length buffer)) 0 n)

  -- ---- written again: any record that decodes without the flag, written again with room from its own bytes, is accepted, and with the flag it is 43.
  -- What the writer makes of it has the same bytes but for the ignored ones, which are zero; and the same bytes exactly where those are zero

  pub record Again (xs : List ℕ) : Type 0 where
    pub taken : flag_of lay xs ≡ 0 → (space : ℕ) → length xs ≤ space → write_answer rows e a xs (record_words lay xs) space ≡ 0
    pub refused : (flag_of lay xs ≡ 0 → ⊥) → (space : ℕ) → write_answer rows e a xs (record_words lay xs) space ≡ 43
    pub cleaned : bytes_of xs (record_words lay xs) ≡ cleaned_record lay xs
    pub long : length (cleaned_record lay xs) ≡ length xs
    pub clean-same : cleaned_record lay xs ≡ xs → bytes_of xs (record_words lay xs) ≡ xs
    pub same-clean : bytes_of xs (record_words lay xs) ≡ xs → cleaned_record lay xs ≡ xs

  -- words with the flag are 43, past 2 and 20 to 25
  pub flagged-43 : (src ws : List ℕ) (space : ℕ) → allowed rows e ≡ true → lay.unknown (get_or ws 0 0) (get_or ws 1 0) ≡ 0 → flagged lay ws ≡ true
      → write_answer rows e a src ws space ≡ 43
  unfolding write_answer write_by
  flagged-43 src ws space g k f = rw (g, eq-eqb (lay.unknown (get_or ws 0 0) (get_or ws 1 0)) 0 k, f)

  with-flag : (ws : List ℕ) → (flag_told (fields_told ws) ws ≡ 0 → ⊥) → flagged lay ws ≡ true
  unfolding flagged
  with-flag ws n = rw (ne_eqb (flag_told (fields_told ws) ws) 0 n)

  pub written-again : (xs : List ℕ) → small xs ≡ true → check rows e a xs ≡ 0 → Again xs
  unfolding value
  written-again xs s h =
      let k = check-of rows e a xs h in
      let w = words-told (known rows e) a xs k.1 in
      let r = record-again lay xs (sound (known rows e) a) s k.1 in
      let l = cleaned-length lay xs (sound (known rows e) a) s k.1 in
      let z = check-zero lay xs k.1 in
      let c : bytes_of xs (record_words lay xs) ≡ cleaned_record lay xs = ap (λ (v : Value). write_record lay v) w.means ∙ r.1 in
      let lc = ap length c in
      record {
        taken = λ n space m. accepts xs (record_words lay xs) space (record {
          edition = k.0;
          known = ap₂ (λ (x y : ℕ). lay.unknown x y) w.kind w.misc ∙ z.3;
          clean = clean-words (record_words lay xs) (w.flag ∙ n);
          inside = w.inside;
          spared = w.spared;
          fitting = ap (λ (v : Value). fits lay v) (w.means ∙ sym (no_flag (value lay xs) n)) ∙ r.0;
          enough = omega (arith, lc, l, m);
        });
        refused = λ n space. flagged-43 xs (record_words lay xs) space k.0 (ap₂ (λ (x y : ℕ). lay.unknown x y) w.kind w.misc ∙ z.3)
            (with-flag (record_words lay xs) (λ q. n (sym w.flag ∙ q)));
        cleaned = c;
        long = l;
        clean-same = λ q. c ∙ q;
        same-clean = λ q. sym c ∙ q;
      }

  -- ---- 42, past 2, 20 to 25, 43 and 41: exactly when no record decodes, under that edition and those attributes, to the same numbers and listed bytes

  write-42 : (t u : Bool) → ◌≡◌ {A = ℕ} (cond t (cond u 0 40) 42) 42 → t ≡ false
  write-42 true true h = absurd (omega (arith, h))
  write-42 true false h = absurd (omega (arith, h))
  write-42 false u h = refl

  writes-some : (src ws : List ℕ) → allowed rows e ≡ true → writable lay src ws ≡ true → Written (bytes_of src ws) src ws
  unfolding writable Decodes
  writes-some src ws g f =
      let u = and-true (all_zero (spare lay ws)) (fits lay (meant lay src ws)) f in
      let d = record-there lay (meant lay src ws) (sound (known rows e) a) u.1 in
      record { bytes = d.0; decodes = of-check rows e a (bytes_of src ws) g d.1; same = record { means = d.2; spared = u.0 } }

  same-clean : (src ws : List ℕ) → flagged lay ws ≡ false → (meant lay src ws).flag ≡ 0
  unfolding flagged meant
  same-clean src ws f = eqb-true (flag_told (fields_told ws) ws) 0 (not-false (eqb (flag_told (fields_told ws) ws) 0) f)

  some-writable : (xs src ws : List ℕ) → flagged lay ws ≡ false → Written xs src ws → writable lay src ws ≡ true
  unfolding writable Decodes
  some-writable xs src ws n w =
      true-and (all_zero (spare lay ws)) (fits lay (meant lay src ws)) w.same.spared
      (decoded-fits lay (meant lay src ws) xs (sound (known rows e) a) (same-clean src ws n) (w.bytes, (check-of rows e a xs w.decodes).1, w.same.means))

  pub exact-42 : (src ws : List ℕ) (space : ℕ) → allowed rows e ≡ true → lay.unknown (get_or ws 0 0) (get_or ws 1 0) ≡ 0 → flagged lay ws ≡ false → passes src ws ≡ false
      → (write_answer rows e a src ws space ≡ 42 → (xs : List ℕ) → Written xs src ws → ⊥)
      × (((xs : List ℕ) → Written xs src ws → ⊥) → write_answer rows e a src ws space ≡ 42)
  exact-42 src ws space g k n i =
      let p = past-41 src ws space g k n i in (
        λ h xs w. apart (sym (write-42 (writable lay src ws) (leb (length (bytes_of src ws)) space) (sym p ∙ h)) ∙ some-writable xs src ws n w),
        λ none. go (writable lay src ws) refl none p,
      )
    where
      go : (t : Bool) → writable lay src ws ≡ t → ((xs : List ℕ) → Written xs src ws → ⊥)
          → write_answer rows e a src ws space ≡ cond (writable lay src ws) (cond (leb (length (bytes_of src ws)) space) 0 40) 42
          → write_answer rows e a src ws space ≡ 42
      go true q none p = absurd (none (bytes_of src ws) (writes-some src ws g q))
      go false q none p = p ∙ rw q

  -- ---- one meaning

  -- two values that a record decodes to are the same
  pub one_value : (xs : List ℕ) (v w : Value) → Decodes lay xs v → Decodes lay xs w → v ≡ w
  unfolding Decodes
  one_value xs v w d f = sym d.2 ∙ f.2

  -- two records that decode to the same value differ only in ignored bytes
  pub one-record : (xs ys : List ℕ) (v : Value) → Decodes lay xs v → Decodes lay ys v → cleaned_record lay xs ≡ cleaned_record lay ys
  one-record xs ys v d f = same-value lay xs ys v (sound (known rows e) a) d f
