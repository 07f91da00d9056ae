-- Laws of the reader of one record. Assumes nothing.
use Rattle.std.proofs.Common.{◌≡◌, ℕ, ◌+◌, ◌%◌, ◌^◌, ◌≤◌, Bool, true, false, cond, List, length, sym, ap, ◌∙◌, arith, eq-eqb, le-leb, le_trans, le_of_lt}
use Rattle.meaning.specs.declared.Attributes.{Attributes}
use Rattle.meaning.specs.States.{Frame, One, Reading}
use Rattle.meaning.specs.declared.Known.{Known}
use Rattle.meaning.specs.Bytes.{zeros}
use Rattle.meaning.specs.Editions.{known, allowed}
use Rattle.meaning.specs.Records.{Layout, layout, size_of, judge, check_by, check}
use Rattle.meaning.specs.Values.{record_words, read_answered, read}
use Rattle.meaning.specs.Ring.{Asked, asked_of, asking, frame, record_at, whole, scratch_after, shown, one_frame, taken, not_taken, read_one, one_scratch}
use Rattle.record.specs.Into.{read_into_answer, read_into_words}
use Rattle.one.specs.Told.{told_stop, told_taken, one_told, one_words}
use Rattle.laws.specs.Rings.{Going, going-length, going-size, shown-record}
use Rattle.laws.proofs.Framing.{frame-going}

-- a record whose frame goes on is one record: record check is the judge
pub going-check : (asked : Asked) (ring : List ℕ) (head tail left journal scratch : ℕ) (f : Frame) → Going asked ring head tail left journal scratch f
    → (rows : List Known) (e : ℕ) (a : Attributes) → allowed rows e ≡ true
    → check rows e a (record_at ring f.place f.size) ≡ judge (layout (known rows e) a) (record_at ring f.place f.size)
unfolding check check_by
going-check asked ring head tail left journal scratch f w rows e a ed =
    let x : List ℕ = record_at ring f.place f.size in
    let l : length x ≡ f.size = going-length asked ring head tail left journal scratch f w in
    let z : size_of x ≡ f.size = going-size asked ring head tail left journal scratch f w in
    let h8 : 8 ≤ length x = omega (arith, w.size_low) in
    let z8 : 8 ≤ size_of x = omega (arith, w.size_low) in
    let m : size_of x % 8 ≡ 0 = ap (λ (k : ℕ). k % 8) z ∙ w.size-eight in
    let s : size_of x ≡ length x = z ∙ sym l in
    simp (ed, le-leb _ _ h8, le-leb _ _ z8, eq-eqb _ _ m, eq-eqb _ _ s)

-- the frame of a call that asks whether the edition is one
pub framed : (rows : List Known) (e : ℕ) (ring : List ℕ) (head tail : ℕ) (scratch : List ℕ) (f : Frame) (ok : Bool)
    → f ≡ frame (asking ok) ring head tail 1 16 (length scratch) → ok ≡ allowed rows e → f ≡ one_frame rows e ring head tail scratch
framed rows e ring head tail scratch f ok fe h = fe ∙ ap (λ (b : Bool). frame (asking b) ring head tail 1 16 (length scratch)) h

abbrev one : Frame → ℕ → ℕ → List ℕ → One
one f answer tail words = record { frame = f; answer = answer; tail = tail; words = words }

module _ (rows : List Known) (e : ℕ) (a : Attributes) (ring : List ℕ) (head tail : ℕ) (scratch : List ℕ) (f : Frame)
    (fe : f ≡ one_frame rows e ring head tail scratch) where
  -- what is shown of the ring and the gathered scratch is the record, whichever of them it lies in
  pub gathered-shown : f.go ≡ true → (l : List ℕ) → l ≡ scratch_after ring f.place f.size scratch → shown ring l f ≡ record_at ring f.place f.size
  gathered-shown g l gathered =
      let w = frame-going (asked_of rows e) ring head tail 1 16 (length scratch) f fe g in
      ap (λ (y : List ℕ). shown ring y f) gathered ∙ shown-record ring scratch f g (le_of_lt w.inside) (le_trans w.size-near w.near) w.fits

  pub one-going : f.go ≡ true → (v : Reading) → v ≡ read rows e a (record_at ring f.place f.size) → (t : ℕ) → t ≡ (tail + f.size) % 2 ^ 64
      → one f v.answer t v.words ≡ read_one rows e a ring head tail scratch
  unfolding read_one taken read_answered read
  one-going g v ev t et =
      let lay : Layout = layout (known rows e) a in
      let x : List ℕ = record_at ring f.place f.size in
      let w = frame-going (asked_of rows e) ring head tail 1 16 (length scratch) f fe g in
      let q : v ≡ read_answered (judge lay x) (record_words lay x) =
      ev ∙ ap (λ (n : ℕ). read_answered n (record_words lay x)) (going-check (asked_of rows e) ring head tail 1 16 (length scratch) f w rows e a w.edition) in
      let h : (one_frame rows e ring head tail scratch).go ≡ true = ap (λ (y : Frame). y.go) (sym fe) ∙ g in
      ap (λ (y : Reading). one f y.answer t y.words) q
      ∙ ap (λ (k : ℕ). one f (judge lay x) k (read_answered (judge lay x) (record_words lay x)).words) et
      ∙ ap (λ (y : Frame). taken lay y (record_at ring y.place y.size) tail) fe
      ∙ sym (simp h)

  pub one-going-scratch : f.go ≡ true → scratch_after ring f.place f.size scratch ≡ one_scratch rows e ring head tail scratch
  unfolding one_scratch
  one-going-scratch g =
      let h : (one_frame rows e ring head tail scratch).go ≡ true = ap (λ (y : Frame). y.go) (sym fe) ∙ g in
      ap (λ (y : Frame). scratch_after ring y.place y.size scratch) fe ∙ sym (simp h)

  pub one-stop : f.go ≡ false → (one f 0 tail (zeros 56) ≡ read_one rows e a ring head tail scratch) × (scratch ≡ one_scratch rows e ring head tail scratch)
  unfolding read_one not_taken one_scratch
  one-stop g =
      let h : (one_frame rows e ring head tail scratch).go ≡ false = ap (λ (y : Frame). y.go) (sym fe) ∙ g in
      (ap (λ (y : Frame). one y 0 tail (zeros 56)) fe ∙ sym (simp h), sym (simp h))

  -- ---- into lent words

  module _ (words : List ℕ) where
    pub told-stop : f.go ≡ false → (told_stop f tail ≡ one_told rows e a ring head tail scratch words) × (words ≡ one_words rows e a ring head tail scratch words)
    unfolding one_told one_words
    told-stop g =
        let h : (one_frame rows e ring head tail scratch).go ≡ false = ap (λ (y : Frame). y.go) (sym fe) ∙ g in
        (ap (λ (y : Frame). told_stop y tail) fe ∙ sym (simp h), sym (simp h))

    -- b says whether the record lies whole
    pub told-taken : f.go ≡ true → (b : Bool) → whole ring f.place f.size ≡ b → (x : List ℕ) → x ≡ record_at ring f.place f.size
        → (n t : ℕ) → n ≡ read_into_answer rows e a x words → t ≡ (tail + f.size) % 2 ^ 64
        → record { place = cond b f.place 0; size = f.size; tail = t; in_scratch = cond b 0 1; stop = 0; answer = n; inspected = 0 }
        ≡ one_told rows e a ring head tail scratch words
    unfolding one_told
    told-taken g b eb x ex n t en et =
        let h : (one_frame rows e ring head tail scratch).go ≡ true = ap (λ (y : Frame). y.go) (sym fe) ∙ g in
        let m : n ≡ read_into_answer rows e a (record_at ring f.place f.size) words = en ∙ ap (λ (l : List ℕ). read_into_answer rows e a l words) ex in
        (λ i. record { place = cond (sym eb i) f.place 0; size = f.size; tail = et i; in_scratch = cond (sym eb i) 0 1; stop = 0; answer = m i; inspected = 0 })
        ∙ ap (λ (y : Frame). told_taken ring y tail (read_into_answer rows e a (record_at ring y.place y.size) words)) fe
        ∙ sym (simp h)

    pub told-words : f.go ≡ true → (x : List ℕ) → x ≡ record_at ring f.place f.size → read_into_words rows e a x words ≡ one_words rows e a ring head tail scratch words
    unfolding one_words
    told-words g x ex =
        let h : (one_frame rows e ring head tail scratch).go ≡ true = ap (λ (y : Frame). y.go) (sym fe) ∙ g in
        ap (λ (l : List ℕ). read_into_words rows e a l words) ex
        ∙ ap (λ (y : Frame). read_into_words rows e a (record_at ring y.place y.size) words) fe
        ∙ sym (simp h)
