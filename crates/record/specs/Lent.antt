-- The readers of a record, whoever found the answer and the words: by the answer that record check shares with them, refused, too few words, filled; and
-- what an accepted record gives whoever fills its words, and that the words so put are the record's. Assumes nothing.
use Rattle.std.specs.Prelude.{◌≡◌, length, take, eqb}
use Rattle.std.proofs.Math.Path.{refl, ap, ap₂, subst}
use Rattle.std.proofs.Common.{sym, ◌∙◌, arith}
use Rattle.std.proofs.Math.Bool.{cond}
use mathlib.Core.List.{List, ◌∷◌, ◌++◌}
use Prim.Native.Nat.{ℕ, ◌+◌, ◌-◌, ◌<◌, ◌≤◌}
use borrow.Author.Tests.{le-leb, lt-leb, eq-eqb, ne_eqb}
use Rattle.meaning.specs.declared.Attributes.{Attributes}
use Rattle.meaning.specs.States.{Cursor, Reading}
use Rattle.meaning.specs.declared.Item.{Item}
use Rattle.meaning.specs.declared.Known.{Known}
use Rattle.meaning.specs.Bytes.{put, zeros}
use Rattle.meaning.specs.Items.{walk}
use Rattle.meaning.specs.Schema.{schema, trailer}
use Rattle.meaning.specs.Editions.{known}
use Rattle.meaning.specs.Records.{layout, kind_of, misc_of, size_of, room, origin, fields_of, fields_answer, check}
use Rattle.meaning.specs.Values.{width, flag_words, body_words, value_words, words, words_by, record_words, read_answered, read}
use Rattle.laws.specs.Fixed.{fixed-run}
use Rattle.laws.specs.Answers.{fields-zero}
use Rattle.laws.specs.Every.{trailer-fixed}
use Rattle.laws.specs.Put.{put-put}
use Rattle.laws.specs.Told.{words-length, flag-length, fields-few}
use Rattle.record.specs.Into.{read_into_answer, read_into_words, record_flag}

-- ---- the answers

module _ (ks : List Known) (e : ℕ) (a : Attributes) (xs : List ℕ) where
  words_of : words_by (schema (kind_of xs) (misc_of xs) a) (trailer (kind_of xs) a) xs ≡ record_words (layout (known ks e) a) xs
  unfolding record_words layout
  words_of = refl

  module _ (answer : ℕ) (ea : answer ≡ check ks e a xs) where
    pub read_is : (ws : List ℕ) → ws ≡ cond (eqb answer 0) (record_words (layout (known ks e) a) xs) (zeros value_words)
        → record { answer = answer; words = ws } ≡ read ks e a xs
    unfolding read read_answered
    read_is ws ew =
        ap₂ (λ (n : ℕ) (w : List ℕ). reading n w) ea (ew ∙ ap (λ (n : ℕ). cond (eqb n 0) (record_words (layout (known ks e) a) xs) (zeros value_words)) ea)
      where
        reading : ℕ → List ℕ → Reading
        reading n w = record { answer = n; words = w }

    pub read-accepted : (ws : List ℕ) → answer ≡ 0 → ws ≡ words_by (schema (kind_of xs) (misc_of xs) a) (trailer (kind_of xs) a) xs
        → record { answer = answer; words = ws } ≡ read ks e a xs
    read-accepted ws z ew = read_is ws (ew ∙ words_of ∙ rw (eq-eqb answer 0 z) refl)

    pub read-refused : (answer ≡ 0 → ⊥) → record { answer = answer; words = zeros value_words } ≡ read ks e a xs
    read-refused n = read_is (zeros value_words) (rw (ne_eqb answer 0 n) refl)

    module _ (ws : List ℕ) where
      -- the words follow the answer
      words-by : (n : ℕ) → n ≡ read_into_answer ks e a xs ws → cond (eqb n 0) (put ws 0 (record_words (layout (known ks e) a) xs)) ws ≡ read_into_words ks e a xs ws
      unfolding read_into_words
      words-by n en = ap (λ (n : ℕ). cond (eqb n 0) (put ws 0 (record_words (layout (known ks e) a) xs)) ws) en

      pub into-refused : (answer ≡ 0 → ⊥) → (answer ≡ read_into_answer ks e a xs ws) × (ws ≡ read_into_words ks e a xs ws)
      unfolding read_into_answer
      into-refused n =
          let q : answer ≡ read_into_answer ks e a xs ws = rw (sym ea, ne_eqb answer 0 n) refl in
          (q, rw (ne_eqb answer 0 n) at (words-by answer q))

      pub into-short : answer ≡ 0 → length ws < value_words → (40 ≡ read_into_answer ks e a xs ws) × (ws ≡ read_into_words ks e a xs ws)
      unfolding read_into_answer
      into-short z h =
          let q : 40 ≡ read_into_answer ks e a xs ws = rw (sym ea, eq-eqb answer 0 z, lt-leb value_words (length ws) h) refl in
          (q, words-by 40 q)

      pub into-filled : (filled out : List ℕ) → answer ≡ 0 → value_words ≤ length ws → filled ≡ words_by (schema (kind_of xs) (misc_of xs) a) (trailer (kind_of xs) a) xs
          → out ≡ put ws 0 filled → (0 ≡ read_into_answer ks e a xs ws) × (out ≡ read_into_words ks e a xs ws)
      unfolding read_into_answer
      into-filled filled out z h ef eo =
          let q : 0 ≡ read_into_answer ks e a xs ws = rw (sym ea, eq-eqb answer 0 z, le-leb value_words (length ws) h) refl in
          (q, eo ∙ ap (put ws 0) (ef ∙ words_of) ∙ words-by 0 q)

-- ---- an accepted record

pub trailer-runs : (kind : ℕ) (a : Attributes) (xs : List ℕ) (at : ℕ) → at + room (trailer kind a) ≤ length xs → (walk xs (trailer kind a) (origin at)).why ≡ 0
trailer-runs kind a xs at h = (fixed-run (trailer kind a) xs (origin at) (trailer-fixed kind a) refl h).0

-- what the code has read of an accepted record: type, misc and the trailer's room
pub record Header (a : Attributes) (xs : List ℕ) (kind misc t : ℕ) : Type 0 where
  pub kind-is : kind ≡ kind_of xs
  pub misc-is : misc ≡ misc_of xs
  pub room-is : t ≡ room (trailer kind a)
  pub accepted : fields_answer (schema (kind_of xs) (misc_of xs) a) (room (trailer (kind_of xs) a)) xs ≡ 0

module _ (a : Attributes) (xs : List ℕ) (kind misc t : ℕ) (g : Header a xs kind misc t) where
  rooms : t ≡ room (trailer (kind_of xs) a)
  rooms = g.room-is ∙ ap (λ (k : ℕ). room (trailer k a)) g.kind-is

  abbrev pub Walked : ℕ → ℕ → ℕ → Type 0
  Walked k m n = (8 + n ≤ length xs) × ((walk (take (length xs - n) xs) (schema k m a) (origin 8)).why ≡ 0)

  pub walked : Walked kind misc t
  unfolding fields_of
  walked =
      let z = fields-zero (schema (kind_of xs) (misc_of xs) a) (room (trailer (kind_of xs) a)) xs g.accepted in
      subst (λ (k : ℕ). Walked k misc t) (sym g.kind-is)
      (subst (λ (m : ℕ). Walked (kind_of xs) m t) (sym g.misc-is) (subst (λ (n : ℕ). Walked (kind_of xs) (misc_of xs) n) (sym rooms) (z.0, z.1)))

  pub trailer-fits : t ≤ length xs
  trailer-fits = let h = walked.0 in omega arith

  abbrev whole : ℕ → ℕ → ℕ → ℕ → List ℕ
  whole k m s n =
      put
      (put (k ∷ m ∷ s ∷ zeros 53) 3 (words (take (length xs - n) xs) (schema k m a) (origin 8) ++ flag_words (schema k m a) (record_flag a xs)))
      48
      (words xs (trailer k a) (origin (length xs - n)))

  -- the flag's word follows those of the fields
  pub flag-put : (d : List ℕ) (c : Cursor) → length d ≡ value_words
      → put (put d 3 (words (take (length xs - t) xs) (schema kind misc a) c)) (body_words + width (schema kind misc a)) (flag_words (schema kind misc a) (record_flag a xs))
      ≡ put d 3 (words (take (length xs - t) xs) (schema kind misc a) c ++ flag_words (schema kind misc a) (record_flag a xs))
  flag-put d c l =
      let is : List Item = schema kind misc a in
      let F : List ℕ = flag_words is (record_flag a xs) in
      let W : List ℕ = words (take (length xs - t) xs) is c in
      let w = fields-few kind misc a in
      let lw = words-length is (take (length xs - t) xs) c in
      let lf = flag-length is (record_flag a xs) in
      let q : body_words + width is ≡ 3 + length W = omega (arith, lw) in
      ap (λ (k : ℕ). put (put d 3 W) k F) q ∙ put-put d 3 W F (omega (arith, lw, lf, w, l))

  pub words_are : (size : ℕ) (c d : Cursor) (one mid two : List ℕ) → size ≡ size_of xs → c ≡ origin 8 → d ≡ origin (length xs - t)
      → one ≡ put (kind ∷ misc ∷ size ∷ zeros 53) 3 (words (take (length xs - t) xs) (schema kind misc a) c)
      → mid ≡ put one (body_words + width (schema kind misc a)) (flag_words (schema kind misc a) (record_flag a xs))
      → two ≡ put mid 48 (words xs (trailer kind a) d)
      → two ≡ words_by (schema (kind_of xs) (misc_of xs) a) (trailer (kind_of xs) a) xs
  unfolding words_by fields_of
  words_are size c d one mid two es ec ed e₁ eₘ e₂ =
      let d₀ : List ℕ = kind ∷ misc ∷ size ∷ zeros 53 in
      e₂
      ∙ ap₂ (λ (o : List ℕ) (x : Cursor). put o 48 (words xs (trailer kind a) x))
      (eₘ
      ∙ ap (λ (o : List ℕ). put o (body_words + width (schema kind misc a)) (flag_words (schema kind misc a) (record_flag a xs)))
      (e₁ ∙ ap (λ (x : Cursor). put d₀ 3 (words (take (length xs - t) xs) (schema kind misc a) x)) ec)
      ∙ flag-put d₀ (origin 8) refl)
      ed
      ∙ ap (λ (k : ℕ). whole k misc size t) g.kind-is
      ∙ ap (λ (m : ℕ). whole (kind_of xs) m size t) g.misc-is
      ∙ ap₂ (λ (s n : ℕ). whole (kind_of xs) (misc_of xs) s n) es rooms
