-- Demand 3 for the reader of a record's bytes, and for the reader of one record out of the ring. Assumes nothing.
use Rattle.std.specs.Prelude.{◌≡◌, List, ◌&&◌, ℕ, ◌+◌, ◌%◌, ◌^◌, ◌≤◌, length}
use Rattle.std.proofs.Math.Path.{refl, sym, ap, subst}
use Rattle.std.proofs.Common.{ap₂, ◌∙◌}
use Rattle.std.proofs.Math.Bool.{Bool, true, false, cond}
use Rattle.meaning.specs.declared.Attributes.{Attributes}
use Rattle.meaning.specs.States.{Frame, One}
use Rattle.meaning.specs.declared.Known.{Known}
use Rattle.meaning.specs.Editions.{allowed, known, outside, is_unknown}
use Rattle.meaning.specs.Records.{layout, judge}
use Rattle.meaning.specs.Values.{record_words, read_answered, read}
use Rattle.meaning.specs.Ring.{asking, frame, record_at, scratch_after, one_frame, taken, not_taken, read_one, one_scratch}
use Rattle.editions.specs.Fairness.{rising, Words, depends_of, Fair}
use Rattle.runs.specs.Cutting.{framed}
use Rattle.editions.specs.Promise.{one_outside, OneFair}
use Rattle.editions.proofs.OneRecord.{fair-free, record-fair, check-fair}
use Rattle.laws.specs.Bytes.{apart}
use Rattle.editions.proofs.Stops.{one-refused}

-- a refusal as unknown is no 0
unknown-not-zero : (n : ℕ) → is_unknown n ≡ true → n ≡ 0 → ⊥
unfolding is_unknown
unknown-not-zero n h e = apart (ap is_unknown (sym e) ∙ h)

-- ---- the reader of a record's bytes

-- what is read is a function of the answer, the bytes and the attributes
words-free : (k m : Known) (a : Attributes) (xs : List ℕ) → record_words (layout k a) xs ≡ record_words (layout m a) xs
unfolding record_words layout
words-free k m a xs = refl

pub read-fair : (rows : List Known) → rising rows ≡ true → (e₁ e₂ : ℕ) → e₁ ≤ e₂ → allowed rows e₁ ≡ true → allowed rows e₂ ≡ true
    → (a : Attributes) → Words a → (r : List ℕ)
    → Fair (read rows e₁ a r).answer (read rows e₂ a r).answer (framed r && outside (known rows e₁) (depends_of a r))
    × ((framed r && outside (known rows e₁) (depends_of a r)) ≡ false → read rows e₁ a r ≡ read rows e₂ a r)
unfolding read read_answered
read-fair rows u e₁ e₂ g h₁ h₂ a ws r =
    let f = check-fair rows u e₁ e₂ g h₁ h₂ a ws r in
    (f, λ o. ap₂ (λ (n : ℕ) (xs : List ℕ). read_answered n xs) (f.alike o) (words-free (known rows e₁) (known rows e₂) a r))

-- ---- the reader of one record out of the ring
module _ (rows : List Known) (up : rising rows ≡ true) (e₁ e₂ : ℕ) (order : e₁ ≤ e₂) (is₁ : allowed rows e₁ ≡ true) (is₂ : allowed rows e₂ ≡ true)
    (a : Attributes) (ws : Words a) (ring : List ℕ) (head tail : ℕ) (scratch : List ℕ) where
  -- of the edition a frame takes whether it is one
  frames-alike : one_frame rows e₁ ring head tail scratch ≡ one_frame rows e₂ ring head tail scratch
  frames-alike = ap (λ (b : Bool). frame (asking b) ring head tail 1 16 (length scratch)) (is₁ ∙ sym is₂)

  -- a record with its answer, or a stop
  abbrev one : ℕ → Frame → Bool → One
  one e f b = cond b (taken (layout (known rows e) a) f (record_at ring f.place f.size) tail) (not_taken f tail)

  -- the newer edition's, with the older's frame
  newer : read_one rows e₂ a ring head tail scratch ≡ one e₂ (one_frame rows e₁ ring head tail scratch) (one_frame rows e₁ ring head tail scratch).go
  unfolding read_one
  newer = ap (λ (f : Frame). one e₂ f f.go) (sym frames-alike)

  taken-alike : (f : Frame) (xs : List ℕ) → judge (layout (known rows e₁) a) xs ≡ judge (layout (known rows e₂) a) xs
      → taken (layout (known rows e₁) a) f xs tail ≡ taken (layout (known rows e₂) a) f xs tail
  unfolding taken record_words layout
  taken-alike f xs q =
      ap (λ (n : ℕ). record { frame = f; answer = n; tail = (tail + f.size) % 2 ^ 64; words = (read_answered n (record_words (layout (known rows e₁) a) xs)).words }) q

  fair-one : (f : Frame) (b : Bool) → Fair (one e₁ f b).answer (one e₂ f b).answer (b && outside (known rows e₁) (depends_of a (record_at ring f.place f.size)))
  unfolding taken not_taken is_unknown
  fair-one f true = record-fair rows up e₁ e₂ order is₂ a ws (record_at ring f.place f.size)
  fair-one f false = fair-free 0 refl

  same-one : (f : Frame) (b : Bool) → (b && outside (known rows e₁) (depends_of a (record_at ring f.place f.size))) ≡ false → one e₁ f b ≡ one e₂ f b
  same-one f true o =
      let r : List ℕ = record_at ring f.place f.size in
      taken-alike f r ((record-fair rows up e₁ e₂ order is₂ a ws r).alike o)
  same-one f false o = refl

  moves-alike : (f : Frame) (b : Bool) → ((one e₁ f b).frame ≡ (one e₂ f b).frame) × ((one e₁ f b).tail ≡ (one e₂ f b).tail)
  unfolding taken not_taken
  moves-alike f true = (refl, refl)
  moves-alike f false = (refl, refl)

  pub one-fair : OneFair rows e₁ e₂ a ring head tail scratch
  unfolding read_one one_scratch
  one-fair =
      let f : Frame = one_frame rows e₁ ring head tail scratch in
      let b : Bool = f.go in
      let w = subst (λ (x : One). Fair (one e₁ f b).answer x.answer (one_outside rows e₁ a ring head tail scratch)) (sym newer) (fair-one f b) in
      record {
        frame-alike = (moves-alike f b).0 ∙ ap (λ (x : One). x.frame) (sym newer);
        tail-alike = (moves-alike f b).1 ∙ ap (λ (x : One). x.tail) (sym newer);
        scratch-alike = ap (λ (g : Frame). cond g.go (scratch_after ring g.place g.size scratch) scratch) frames-alike;
        fair = w;
        same = λ o. same-one f b o ∙ sym newer;
        empty = λ o. one-refused rows e₁ a ring head tail scratch (unknown-not-zero _ (w.exact ∙ o));
      }
