-- Demand 1, record check and the reader of words with one attribute set, each number exactly: `record_check` and `read_into_answer` are the right sides of the contracts
-- of `ollskuvan_check` and `ollskuvan_read`. The rows are Checked's, in the order "2; 7 if the slice is shorter than 8; 6; 7 if the size differs from the
-- slice's length; 20 to 33"; 44 of the one and 40 of the other stand in the place of 0 alone. The same with a table: Inspected. Assumes nothing.
use Rattle.std.specs.Prelude.{◌≡◌, refl, List, true, false, ℕ, ◌<◌, ◌≤◌, leb, eqb, length}
use Rattle.std.proofs.Common.{◌∙◌, arith}
use borrow.Author.Tests.{eqb-true, leb-false, lt-leb}
use Rattle.meaning.specs.declared.Attributes.{Attributes}
use Rattle.meaning.specs.Editions.{editions, allowed, known, is_in}
use Rattle.meaning.specs.Records.{Layout, layout, flag_of, check, record_check}
use Rattle.record.specs.Into.{read_into_answer}
use Rattle.laws.specs.Answers.{or-zero, tested}
use Rattle.laws.specs.Exactly.{LaidOut}
use Rattle.editions.specs.Numbers.{check_numbers}
use Rattle.editions.proofs.InTable.{not_in, check-in}
use Rattle.promises.specs.Checked.{check_rows}
use Rattle.promises.proofs.Checked.{foremost, check-exactly}
use Rattle.promises.proofs.Demand2.{decoded-exactly, check-clean, check-flagged, check-44}
use Rattle.promises.proofs.Exported.{read-accepted, read-accepts}
use Rattle.promises.proofs.Inspected.{last-own, last-other}

module _ (e : ℕ) (a : Attributes) (xs : List ℕ) where
  abbrev lay : Layout
  lay = layout (known editions e) a

  -- the answer that both share, before 44 and 40: 0 exactly where the record is decoded, Demand2's `decoded-exactly`
  abbrev shared : ℕ
  shared = check editions e a xs

  never : (m : ℕ) → is_in m check_numbers ≡ false → shared ≡ m → ⊥
  never m h = not_in check_numbers m shared h (check-in editions e a xs)

  -- ---- `ollskuvan_check`

  abbrev checked : ℕ
  checked = record_check editions e a xs

  -- 0 exactly where the record is laid out by the schema, under an edition, and its name has no stale bytes
  pub record-check-0 : (checked ≡ 0 → ((allowed editions e ≡ true) × LaidOut lay xs) × (flag_of lay xs ≡ 0))
      × (((allowed editions e ≡ true) × LaidOut lay xs) × (flag_of lay xs ≡ 0) → checked ≡ 0)
  unfolding record_check
  record-check-0 = (
    λ h.
        let s = or-zero shared _ h in
        ((decoded-exactly e a xs).0 s.0, eqb-true (flag_of lay xs) 0 (tested (eqb (flag_of lay xs) 0) 44 0 (omega arith) s.1).0),
    λ w. check-clean e a xs w.1 ∙ (decoded-exactly e a xs).1 w.0,
  )

  -- M-107: "Where it is set, record check .. answers 44 instead of 0": exactly there
  pub record-check-44 : (checked ≡ 44 → ((allowed editions e ≡ true) × LaidOut lay xs) × (flag_of lay xs ≡ 0 → ⊥))
      × (((allowed editions e ≡ true) × LaidOut lay xs) × (flag_of lay xs ≡ 0 → ⊥) → checked ≡ 44)
  record-check-44 = (
    λ h. let w = check-44 e a xs h in ((decoded-exactly e a xs).0 w.0, w.1),
    λ w. check-flagged e a xs ((decoded-exactly e a xs).1 w.0) w.1,
  )

  -- every other number exactly where its row holds and no row before it does
  pub record-check-exactly : (k : ℕ) → 0 < k → (44 ≡ k → ⊥) → (checked ≡ k → foremost k (check_rows e a xs) ≡ true) × (foremost k (check_rows e a xs) ≡ true → checked ≡ k)
  unfolding record_check
  record-check-exactly k p d =
      let w = last-other shared 44 (eqb (flag_of lay xs) 0) (never 44 refl) (omega arith) k p d in
      let x = check-exactly e a xs k p in
      (λ h. x.0 (w.0 h), λ h. w.1 (x.1 h))

  -- ---- `ollskuvan_read`

  module _ (words : List ℕ) where
    abbrev told : ℕ
    told = read_into_answer editions e a xs words

    -- 0 exactly where the record is decoded, with the flag or without it, and there are 56 words
    pub read-0 : (told ≡ 0 → ((allowed editions e ≡ true) × LaidOut lay xs) × (56 ≤ length words)) × (((allowed editions e ≡ true) × LaidOut lay xs) × (56 ≤ length words) → told ≡ 0)
    read-0 = (
      λ h. let w = read-accepted e a xs words h in ((decoded-exactly e a xs).0 w.0, w.1),
      λ w. read-accepts e a xs words ((decoded-exactly e a xs).1 w.0) w.1,
    )

    -- 40 exactly where it is decoded and fewer are lent
    pub read-40 : (told ≡ 40 → ((allowed editions e ≡ true) × LaidOut lay xs) × (length words < 56)) × (((allowed editions e ≡ true) × LaidOut lay xs) × (length words < 56) → told ≡ 40)
    unfolding read_into_answer
    read-40 =
        let w = last-own shared 40 (leb 56 (length words)) (never 40 refl) (omega arith) in (
          λ h. ((decoded-exactly e a xs).0 (w.0 h).0, leb-false 56 (length words) (w.0 h).1),
          λ v. w.1 ((decoded-exactly e a xs).1 v.0, lt-leb 56 (length words) v.1),
        )

    -- every other number by record check's rows
    pub read-exactly : (k : ℕ) → 0 < k → (40 ≡ k → ⊥) → (told ≡ k → foremost k (check_rows e a xs) ≡ true) × (foremost k (check_rows e a xs) ≡ true → told ≡ k)
    unfolding read_into_answer
    read-exactly k p d =
        let w = last-other shared 40 (leb 56 (length words)) (never 40 refl) (omega arith) k p d in
        let x = check-exactly e a xs k p in
        (λ h. x.0 (w.0 h), λ h. w.1 (x.1 h))

    -- so but for 0, 44 and 40 both answer the same
    pub read-as-check : (k : ℕ) → 0 < k → (44 ≡ k → ⊥) → (40 ≡ k → ⊥) → (told ≡ k → checked ≡ k) × (checked ≡ k → told ≡ k)
    read-as-check k p d f =
        let c = record-check-exactly k p d in
        let r = read-exactly k p f in
        (λ h. c.1 (r.0 h), λ h. r.1 (c.0 h))
