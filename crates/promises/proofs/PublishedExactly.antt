-- M-105, the answers of `ollskuvan_publish` both ways: "if either is refused by 1, 4 or 5, that refusal is the answer, the first reader's if both are, and no
-- tail is handed out". A number is answered exactly when its row is the first that holds of the first reader's, or none of them does and it is the first of the
-- second reader's; 0 exactly when both readers pass. Assumes nothing.
use Rattle.std.specs.Prelude.{◌≡◌, Bool, true, false, [], ◌∷◌, ◌⊎◌, ℕ, ◌<◌, eqb}
use Rattle.std.proofs.Math.Path.{refl}
use Rattle.std.proofs.Common.{sym, ap, ◌∙◌, inl, inr, ⊎_elim, arith, eqb-true}
use Rattle.std.proofs.lemmas.Bool.{eqb-false}
use Rattle.meaning.specs.Refusals.{first}
use Rattle.meaning.specs.Editions.{is_in}
use Rattle.laws.specs.Rows.{Passed, first-in}
use Rattle.readers.specs.declared.Published.{Published}
use Rattle.readers.specs.Readers.{readers_at, tail_rows, tail_answer, further_tail, published}
use Rattle.readers.proofs.Laws.{published-first, published-second, published-tail, published-zero, no-tail}
use Rattle.promises.proofs.Checked.{foremost}
use Rattle.promises.proofs.Exactly.{numbers_of}
use Rattle.promises.proofs.StoreExactly.{told-exactly, told-zero-exactly}

-- ---- one reader's tail
module _ (n head tail : ℕ) where
  tail-told : tail_answer n head tail ≡ first (tail_rows n head tail) 0
  unfolding tail_answer
  tail-told = refl

  pub tail-exactly : (k : ℕ) → 0 < k
      → (tail_answer n head tail ≡ k → foremost k (tail_rows n head tail) ≡ true) × (foremost k (tail_rows n head tail) ≡ true → tail_answer n head tail ≡ k)
  tail-exactly = told-exactly (tail_answer n head tail) (tail_rows n head tail) tail-told

  pub tail-passes-exactly : (tail_answer n head tail ≡ 0 → Passed (tail_rows n head tail)) × (Passed (tail_rows n head tail) → tail_answer n head tail ≡ 0)
  tail-passes-exactly = told-zero-exactly (tail_answer n head tail) (tail_rows n head tail) tail-told refl

  pub tail-in : is_in (tail_answer n head tail) (0 ∷ 1 ∷ 4 ∷ 5 ∷ []) ≡ true
  tail-in = ap (λ (k : ℕ). is_in k (0 ∷ 1 ∷ 4 ∷ 5 ∷ [])) tail-told ∙ first-in (0 ∷ 1 ∷ 4 ∷ 5 ∷ []) (tail_rows n head tail) 0 refl refl

  -- "by 1, 4 or 5", in this order; 5 asks of head, then of the tail
  pub tail-in-order : numbers_of (tail_rows n head tail) ≡ 1 ∷ 4 ∷ 5 ∷ 5 ∷ []
  tail-in-order = refl

-- ---- both, as C calls it
module _ (n head a b : ℕ) where
  abbrev out : Published
  out = published n head (readers_at a b)

  -- its answer, by whether the first reader is refused
  first-refuses : (tail_answer n head a ≡ 0 → ⊥) → out.answer ≡ tail_answer n head a
  first-refuses z = ap (λ (p : Published). p.answer) (published-first n head (readers_at a b) z)

  second-answers : tail_answer n head a ≡ 0 → out.answer ≡ tail_answer n head b
  second-answers z = by (eqb (tail_answer n head b) 0) refl
    where
      by : (t : Bool) → eqb (tail_answer n head b) 0 ≡ t → out.answer ≡ tail_answer n head b
      by true e =
          let y = eqb-true (tail_answer n head b) 0 e in
          ap (λ (p : Published). p.answer) (published-tail n head (readers_at a b) z y) ∙ sym y
      by false e = ap (λ (p : Published). p.answer) (published-second n head (readers_at a b) z (eqb-false (tail_answer n head b) 0 e))

  -- "that refusal is the answer, the first reader's if both are"
  abbrev pub Refused : ℕ → Type 0
  Refused k = (foremost k (tail_rows n head a) ≡ true) ⊎ (Passed (tail_rows n head a) × (foremost k (tail_rows n head b) ≡ true))

  pub publish-exactly : (k : ℕ) → 0 < k → (out.answer ≡ k → Refused k) × (Refused k → out.answer ≡ k)
  publish-exactly k p = (why (eqb (tail_answer n head a) 0) refl, ⊎_elim first-is second_is)
    where
      why : (t : Bool) → eqb (tail_answer n head a) 0 ≡ t → out.answer ≡ k → Refused k
      why true e h =
          let z = eqb-true (tail_answer n head a) 0 e in
          inr ((tail-passes-exactly n head a).0 z, (tail-exactly n head b k p).0 (sym (second-answers z) ∙ h))
      why false e h = inl ((tail-exactly n head a k p).0 (sym (first-refuses (eqb-false (tail_answer n head a) 0 e)) ∙ h))

      first-is : foremost k (tail_rows n head a) ≡ true → out.answer ≡ k
      first-is f = let e = (tail-exactly n head a k p).1 f in first-refuses (λ z. omega (arith, p, sym e ∙ z)) ∙ e

      second_is : Passed (tail_rows n head a) × (foremost k (tail_rows n head b) ≡ true) → out.answer ≡ k
      second_is q = second-answers ((tail-passes-exactly n head a).1 q.0) ∙ (tail-exactly n head b k p).1 q.1

  -- 0 exactly when neither is refused
  pub publishes-exactly : (out.answer ≡ 0 → Passed (tail_rows n head a) × Passed (tail_rows n head b)) × (Passed (tail_rows n head a) × Passed (tail_rows n head b) → out.answer ≡ 0)
  publishes-exactly = (
    λ h. let z = published-zero n head (readers_at a b) h in ((tail-passes-exactly n head a).0 z.0, (tail-passes-exactly n head b).0 z.1),
    λ q. second-answers ((tail-passes-exactly n head a).1 q.0) ∙ (tail-passes-exactly n head b).1 q.1,
  )

  -- no other number
  pub publish-numbers : is_in out.answer (0 ∷ 1 ∷ 4 ∷ 5 ∷ []) ≡ true
  publish-numbers = by (eqb (tail_answer n head a) 0) refl
    where
      by : (t : Bool) → eqb (tail_answer n head a) 0 ≡ t → is_in out.answer (0 ∷ 1 ∷ 4 ∷ 5 ∷ []) ≡ true
      by true e = ap (λ (k : ℕ). is_in k (0 ∷ 1 ∷ 4 ∷ 5 ∷ [])) (second-answers (eqb-true (tail_answer n head a) 0 e)) ∙ tail-in n head b
      by false e = ap (λ (k : ℕ). is_in k (0 ∷ 1 ∷ 4 ∷ 5 ∷ [])) (first-refuses (eqb-false (tail_answer n head a) 0 e)) ∙ tail-in n head a

  -- "and no tail is handed out": it is told as 0; where neither is refused it is "the one at the greater distance from head"
  pub refused-tail : (k : ℕ) → 0 < k → out.answer ≡ k → out.tail ≡ 0
  refused-tail k p h = no-tail n head (readers_at a b) (λ z. omega (arith, p, sym h ∙ z))

  pub handed-tail : out.answer ≡ 0 → out.tail ≡ further_tail head (readers_at a b)
  handed-tail h =
      let z = published-zero n head (readers_at a b) h in
      ap (λ (p : Published). p.tail) (published-tail n head (readers_at a b) z.0 z.1)
