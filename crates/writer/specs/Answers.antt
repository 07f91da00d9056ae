-- The writer's answers, as the code finds them. Assumes nothing.
use Rattle.std.specs.Prelude.{◌≡◌, ℕ, ◌+◌, ◌<◌, ◌≤◌, Bool, not, length, take, drop, get_or, leb}
use Rattle.std.proofs.Math.Path.{refl, sym, ap, ap₂}
use Rattle.std.proofs.Common.{◌∙◌, arith}
use Rattle.std.proofs.Math.Bool.{true, false, cond}
use mathlib.Core.List.{List}
use Rattle.std.proofs.Math.Dec.{eqb}
use borrow.Author.Tests.{eq-eqb, eqb-true, eqb-false, ne_eqb, not-false, le-leb, lt-leb}
use Rattle.meaning.specs.declared.Attributes.{Attributes}
use Rattle.meaning.specs.declared.Item.{Item}
use Rattle.meaning.specs.Bytes.{put}
use Rattle.meaning.specs.Editions.{editions, known, allowed, unreadable}
use Rattle.meaning.specs.Schema.{schema}
use Rattle.meaning.specs.Writing.{named}
use Rattle.meaning.specs.Records.{Layout, layout, write_record, fits}
use Rattle.meaning.specs.Values.{any_beyond, slots_told, width, flag_told, meant, spare, flagged, writable, write_by, write_answer, write_buffer, body_words, value_words}
use Rattle.laws.specs.Answer42.{buffer-kept, flagged-43}
use Rattle.table.specs.Flags.{flag_at, flag-none, flag-some}
use Rattle.meaning.specs.declared.Spot.{Spot}
use Rattle.writer_words.specs.Tellings.{start_at}
use Rattle.writer_parts.specs.declared.TypePart.{TypePart}
use Rattle.writer_parts.specs.Parts.{Lays, items_from, slots_from}
use Rattle.writer_record.specs.Measuring.{long-enough}
use Rattle.writer_record.specs.Measures.{value_meant, measured, size_meant, bytes_meant}
use Rattle.writer.specs.Known.{flag_set, passes, known_answer, known_buffer}
use Rattle.writer.specs.Writer.{write_words_answer, write_words_buffer}

-- the code's loop over the fields is the test of their slots
pub beyond-lays : (src ws : List ℕ) (p : TypePart) (a : Attributes) (kind : ℕ) (is : List Item) (first : Spot) (r : Bool) → Lays p a kind is → first ≡ start_at body_words
    → r ≡ any_beyond src (items_from p p.from) (slots_from (items_from p p.from) first ws) → r ≡ any_beyond src is (slots_told is (drop body_words ws) 0 0)
unfolding slots_from
beyond-lays src ws p a kind is first r l e h =
    h ∙ ap (λ (x : List Item). any_beyond src x (slots_told x (drop first.at ws) first.n first.old)) l.items
    ∙ ap (λ (x : Spot). any_beyond src is (slots_told is (drop x.at ws) x.n x.old)) e

-- ---- the flag

pub flag_is : (ws : List ℕ) (kind misc : ℕ) (a : Attributes) → not (eqb (flag_told (schema kind misc a) ws) 0) ≡ flag_set kind ws
unfolding flag_told flag_set
flag_is ws kind misc a = go (eqb (flag_at kind) 0) refl
  where
    go : (t : Bool) → eqb (flag_at kind) 0 ≡ t
        → not (eqb (cond (named (schema kind misc a)) (get_or ws (body_words + width (schema kind misc a)) 0) 0) 0) ≡ cond t false (not (eqb (get_or ws (flag_at kind) 0) 0))
    go true h = rw (flag-none kind misc a (eqb-true (flag_at kind) 0 h))
    go false h = let s = flag-some kind misc a (eqb-false (flag_at kind) 0 h) in rw s.0 (ap (λ (k : ℕ). not (eqb (get_or ws k 0) 0)) (sym s.1))

-- as the code tests it
pub set-none : (ws : List ℕ) (kind : ℕ) → flag_at kind ≡ 0 → false ≡ flag_set kind ws
unfolding flag_set
set-none ws kind z = rw (eq-eqb (flag_at kind) 0 z)

pub set-some : (ws : List ℕ) (kind at w : ℕ) → at ≡ flag_at kind → (at ≡ 0 → ⊥) → w ≡ get_or ws at 0 → not (eqb w 0) ≡ flag_set kind ws
unfolding flag_set
set-some ws kind at w e n ew = rw (ne_eqb (flag_at kind) 0 (λ z. n (e ∙ z))) (ap (λ (x : ℕ). not (eqb x 0)) (ew ∙ ap (λ (k : ℕ). get_or ws k 0) e))

-- ---- of a type that the edition knows

module _ (src ws buffer : List ℕ) (a : Attributes) (kind misc : ℕ) where
  abbrev answer : ℕ
  answer = known_answer src ws a kind misc (length buffer)

  -- both results
  abbrev pub Known : ℕ → List ℕ → Type 0
  Known r b = (r ≡ answer) × (b ≡ known_buffer src ws a kind misc buffer)

  refused : (r : ℕ) → answer ≡ r → (r ≡ 0 → ⊥) → Known r buffer
  unfolding known_buffer
  refused r h n = (sym h, rw (ne_eqb answer 0 (λ z. n (sym h ∙ z))))

  module _ (r : Bool) (eᵣ : passes src ws a kind misc ≡ r) where
    is-41 : r ≡ true → answer ≡ 41
    unfolding known_answer
    is-41 h = rw (eᵣ, h)

    pub known-41 : r ≡ true → Known 41 buffer
    known-41 h = refused 41 (is-41 h) (λ q. omega (arith, q))

    module _ (h : r ≡ false) (end : ℕ) (eₑ : end ≡ size_meant src ws a kind misc) where
      past-41 : answer ≡ cond (eqb end 0) 42 (cond (leb end (length buffer)) 0 40)
      unfolding known_answer
      past-41 = rw (eᵣ, h, sym eₑ)

      is-42 : end ≡ 0 → answer ≡ 42
      is-42 z = past-41 ∙ rw (eq-eqb end 0 z)

      pub known-42 : end ≡ 0 → Known 42 buffer
      known-42 z = refused 42 (is-42 z) (λ q. omega (arith, q))

      module _ (n : end ≡ 0 → ⊥) where
        past-42 : answer ≡ cond (leb end (length buffer)) 0 40
        past-42 = past-41 ∙ rw (ne_eqb end 0 n)

        is-40 : length buffer < end → answer ≡ 40
        is-40 l = past-42 ∙ rw (lt-leb end (length buffer) l)

        pub known-40 : length buffer < end → Known 40 buffer
        known-40 l = refused 40 (is-40 l) (λ q. omega (arith, q))

        is-0 : end ≤ length buffer → answer ≡ 0
        is-0 l = past-42 ∙ rw (le-leb end (length buffer) l)

        pub known-0 : end ≤ length buffer → (b : List ℕ) → b ≡ put buffer 0 (bytes_meant src ws a kind misc) → Known 0 b
        unfolding known_buffer
        known-0 l b q = (sym (is-0 l), q ∙ rw (eq-eqb answer 0 (is-0 l)))

-- ---- as the definitions have it

-- a size of 0 says that nothing can be written
size-test : (b : Bool) (n space : ℕ) → 8 ≤ n
    → ◌≡◌ {A = ℕ} (cond (eqb (cond b n 0) 0) 42 (cond (leb (cond b n 0) space) 0 40)) (cond b (cond (leb n space) 0 40) 42)
size-test true n space h = rw (ne_eqb n 0 (λ z. omega (arith, z, h)))
size-test false n space h = refl

module _ (e : ℕ) (a : Attributes) (src ws buffer : List ℕ) (fine : allowed editions e ≡ true) where
  abbrev lay : Layout
  lay = layout (known editions e) a

  abbrev pub Answered : ℕ → List ℕ → Type 0
  Answered r b = (r ≡ write_answer editions e a src ws (length buffer)) × (b ≡ write_buffer editions e a src ws buffer)

  module _ (kind misc : ℕ) (eₖ : kind ≡ get_or ws 0 0) (eₘ : misc ≡ get_or ws 1 0) (why : ℕ) (eᵤ : why ≡ unreadable (known editions e) a kind misc) where
    unknown-is : lay.unknown (get_or ws 0 0) (get_or ws 1 0) ≡ why
    unfolding layout
    unknown-is = ap₂ (λ (x y : ℕ). unreadable (known editions e) a x y) (sym eₖ) (sym eₘ) ∙ sym eᵤ

    is-unknown : (why ≡ 0 → ⊥) → write_answer editions e a src ws (length buffer) ≡ why
    unfolding write_answer write_by
    is-unknown n = rw (fine, unknown-is, ne_eqb why 0 n)

    pub answers-unknown : (why ≡ 0 → ⊥) → Answered why buffer
    answers-unknown n = (sym (is-unknown n), sym (buffer-kept editions e a src ws buffer (λ z. n (sym (is-unknown n) ∙ z))))

    module _ (z : why ≡ 0) (f : Bool) (ef : f ≡ flag_set kind ws) where
      flagged-is : flagged lay ws ≡ f
      unfolding flagged layout
      flagged-is = flag_is ws (get_or ws 0 0) (get_or ws 1 0) a ∙ ap (λ (k : ℕ). flag_set k ws) (sym eₖ) ∙ sym ef

      is-43 : f ≡ true → write_answer editions e a src ws (length buffer) ≡ 43
      is-43 h = flagged-43 editions e a src ws (length buffer) fine (unknown-is ∙ z) (flagged-is ∙ h)

      pub answers-43 : f ≡ true → Answered 43 buffer
      answers-43 h = (sym (is-43 h), sym (buffer-kept editions e a src ws buffer (λ q. let p = is-43 h in omega (arith, p, q))))

      module _ (n : f ≡ false) where
        past-unknown : write_answer editions e a src ws (length buffer)
            ≡ cond (passes src ws a (get_or ws 0 0) (get_or ws 1 0)) 41 (cond (writable lay src ws) (cond (leb (length (write_record lay (meant lay src ws))) (length buffer)) 0 40) 42)
        unfolding write_answer write_by layout
        past-unknown = rw (fine, unknown-is, eq-eqb why 0 z, flagged-is, n)

        clean : eqb (flag_told (schema (get_or ws 0 0) (get_or ws 1 0) a) ws) 0 ≡ true
        unfolding flagged layout
        clean = not-false (eqb (flag_told (schema (get_or ws 0 0) (get_or ws 1 0) a) ws) 0) (flagged-is ∙ n)

        -- the size that is measured is the record's, or there is none
        size_is : size_meant src ws a (get_or ws 0 0) (get_or ws 1 0) ≡ cond (writable lay src ws) (length (write_record lay (meant lay src ws))) 0
        unfolding measured writable spare fits meant value_meant write_record layout
        size_is =
            let u : unreadable (known editions e) a (get_or ws 0 0) (get_or ws 1 0) ≡ 0 = unknown-is ∙ z in
            let g : eqb (flag_told (schema (get_or ws 0 0) (get_or ws 1 0) a) ws) 0 ≡ true = clean in
            rw (eq-eqb (unreadable (known editions e) a (get_or ws 0 0) (get_or ws 1 0)) 0 u, g)

        some : 8 ≤ length (write_record lay (meant lay src ws))
        unfolding write_record
        some = long-enough (lay.body (meant lay src ws).kind (meant lay src ws).misc) (lay.trail (meant lay src ws).kind) (meant lay src ws)

        answer-is : known_answer src ws a kind misc (length buffer) ≡ write_answer editions e a src ws (length buffer)
        unfolding known_answer
        answer-is =
            ap₂ (λ (x y : ℕ). known_answer src ws a x y (length buffer)) eₖ eₘ
            ∙ ap (λ (n : ℕ). cond (passes src ws a (get_or ws 0 0) (get_or ws 1 0)) 41 (cond (eqb n 0) 42 (cond (leb n (length buffer)) 0 40))) size_is
            ∙ ap (λ (n : ℕ). cond (passes src ws a (get_or ws 0 0) (get_or ws 1 0)) 41 n) (size-test (writable lay src ws) (length (write_record lay (meant lay src ws))) (length buffer) some)
            ∙ sym past-unknown

        bytes-are : bytes_meant src ws a kind misc ≡ write_record lay (meant lay src ws)
        unfolding meant value_meant write_record layout
        bytes-are = ap₂ (λ (x y : ℕ). bytes_meant src ws a x y) eₖ eₘ

        pub answers-known : (r : ℕ) (b : List ℕ) → Known src ws buffer a kind misc r b → Answered r b
        unfolding known_buffer write_buffer
        answers-known r b k =
            (k.0 ∙ answer-is, k.1 ∙ ap₂ (λ (n : ℕ) (l : List ℕ). cond (eqb n 0) (put buffer 0 l) buffer) answer-is bytes-are)

-- ---- of words that a caller lends

module _ (e : ℕ) (a : Attributes) (src ws buffer : List ℕ) where
  abbrev pub Lent : ℕ → List ℕ → Type 0
  Lent r b = (r ≡ write_words_answer e a src ws (length buffer)) × (b ≡ write_words_buffer e a src ws buffer)

  -- whatever the words, the buffer stays as it was
  kept : allowed editions e ≡ false → (t : Bool) → buffer ≡ cond t (write_buffer editions e a src (take value_words ws) buffer) buffer
  unfolding write_buffer write_answer
  kept h true = rw h
  kept h false = refl

  pub lent-2 : allowed editions e ≡ false → Lent 2 buffer
  unfolding write_words_answer write_words_buffer
  lent-2 h = (rw h, kept h (leb value_words (length ws)))

  pub too_few : allowed editions e ≡ true → length ws < value_words → Lent 42 buffer
  unfolding write_words_answer write_words_buffer
  too_few f h = rw (f, lt-leb value_words (length ws) h) (refl, refl)

  pub enough : allowed editions e ≡ true → value_words ≤ length ws → (r : ℕ) (b : List ℕ) → r ≡ write_answer editions e a src (take value_words ws) (length buffer)
      → b ≡ write_buffer editions e a src (take value_words ws) buffer → Lent r b
  unfolding write_words_answer write_words_buffer
  enough f h r b p q = rw (f, le-leb value_words (length ws) h) (p, q)
