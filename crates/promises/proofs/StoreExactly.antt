-- M-103 and M-112, the refusals of a store both ways: a number is answered exactly when its row is the first that holds, 0 exactly when none does; and the
-- older build of M-110, which reads version 1 alone. Assumes nothing.
use Rattle.std.specs.Prelude.{◌≡◌, refl, true, List, [], ◌∷◌, ℕ, ◌^◌, ◌<◌, length, take}
use Rattle.std.proofs.Common.{sym, ◌∙◌, arith}
use Rattle.meaning.specs.Refusals.{Refusal, first}
use Rattle.meaning.specs.Editions.{editions}
use Rattle.laws.specs.Rows.{Passed, no_zero, first-passed, first-no, first-none}
use Rattle.settings.specs.Versions.{one, versions, version_of}
use Rattle.settings.specs.Reading.{read_store}
use Rattle.settings.specs.Writing.{writes, store_bytes, write_rows, write_answer, write_store}
use Rattle.settings.proofs.Turns.{Words}
use Rattle.settings.proofs.Promises as store
use Rattle.promises.proofs.Checked.{foremost, first-exactly}
use Rattle.promises.proofs.Exactly.{numbers_of}

-- ---- any rows that have no number 0: none holds exactly when the answer is 0

none-holds : (rs : List Refusal) → Passed rs → first rs 0 ≡ 0
none-holds [] p = first-none 0
none-holds (r ∷ rs) p = first-no r rs 0 p.0 ∙ none-holds rs p.1

pub zero-exactly : (rs : List Refusal) → no_zero rs ≡ true → (first rs 0 ≡ 0 → Passed rs) × (Passed rs → first rs 0 ≡ 0)
zero-exactly rs n = (first-passed rs n, none-holds rs)

-- what the first row that holds answers, is exact of any answer that is told to be it
pub told-exactly : (answer : ℕ) (rs : List Refusal) → answer ≡ first rs 0 → (k : ℕ) → 0 < k → (answer ≡ k → foremost k rs ≡ true) × (foremost k rs ≡ true → answer ≡ k)
told-exactly answer rs q k p = let x = first-exactly k p rs in (λ h. x.0 (sym q ∙ h), λ h. q ∙ x.1 h)

pub told-zero-exactly : (answer : ℕ) (rs : List Refusal) → answer ≡ first rs 0 → no_zero rs ≡ true → (answer ≡ 0 → Passed rs) × (Passed rs → answer ≡ 0)
told-zero-exactly answer rs q n = let x = zero-exactly rs n in (λ h. x.0 (sym q ∙ h), λ h. q ∙ x.1 h)

-- ---- the reader

module _ (xs : List ℕ) (lent : ℕ) where
  abbrev pub read_rows : List Refusal
  read_rows = store.store_rows versions editions xs lent

  abbrev read : ℕ
  read = (read_store versions editions xs lent).answer

  read_told : read ≡ first read_rows 0
  read_told = store.answer-told versions editions xs lent ∙ store.by_rows versions editions xs lent

  -- "in this order: 50 .. 51 .. 52", of the first entry; then of the entry after the events, with the ring length and the edition; then of what stands after
  -- kind 3; "Last come 11, as in M-100, and 40"
  pub read-in-order : numbers_of read_rows ≡ 50 ∷ 51 ∷ 52 ∷ 51 ∷ 52 ∷ 52 ∷ 52 ∷ 51 ∷ 52 ∷ 11 ∷ 40 ∷ []
  read-in-order = refl

  -- a number is answered exactly when a row with it is the first that holds: 50, 51, 52, 11, 40
  pub read-store-exactly : (k : ℕ) → 0 < k → (read ≡ k → foremost k read_rows ≡ true) × (foremost k read_rows ≡ true → read ≡ k)
  read-store-exactly = told-exactly read read_rows read_told

  -- and a store reads exactly when no row holds
  pub reads-exactly : (read ≡ 0 → Passed read_rows) × (Passed read_rows → read ≡ 0)
  reads-exactly = told-zero-exactly read read_rows read_told refl

-- ---- the writer

module _ (rows : List (List ℕ)) (ring edition budget room : ℕ) where
  abbrev pub writer_rows : List Refusal
  writer_rows = write_rows writes editions rows ring edition (length (store_bytes writes rows ring edition budget)) room

  abbrev written : ℕ
  written = (write_store writes editions rows ring edition budget room).answer

  write-told : written ≡ first writer_rows 0
  unfolding write_answer
  write-told = store.write-told writes editions rows ring edition budget room

  -- "Writing refuses with 11, 1, 2, then 40 for no room"
  pub write-in-order : numbers_of writer_rows ≡ 11 ∷ 1 ∷ 2 ∷ 40 ∷ []
  write-in-order = refl

  pub write-store-exactly : (k : ℕ) → 0 < k → (written ≡ k → foremost k writer_rows ≡ true) × (foremost k writer_rows ≡ true → written ≡ k)
  write-store-exactly = told-exactly written writer_rows write-told

  pub writes-exactly : (written ≡ 0 → Passed writer_rows) × (Passed writer_rows → written ≡ 0)
  writes-exactly = told-zero-exactly written writer_rows write-told refl

-- ---- "Settings of M-103 may hold edition 4, which older builds refuse with 52" (M-110): the build of before M-112 too, which reads version 1 alone and knows
-- three editions, to a store of its own version that this build takes
pub edition-4-version-1 : (rows : List (List ℕ)) (ring budget room lent : ℕ) → Words rows → budget < 2 ^ 32
    → (write_store one editions rows ring 4 budget room).answer ≡ 0
    → (read_store (one ∷ []) (take 3 editions) (store_bytes one rows ring 4 budget) lent).answer ≡ 52
unfolding version_of
edition-4-version-1 rows ring budget room lent w b h =
    store.unknown-edition (one ∷ []) (take 3 editions) editions one rows ring 4 budget lent store.proper-one refl
    (store.writer-takes one editions rows ring 4 budget room (omega arith) w b (sym (store.write-told one editions rows ring 4 budget room) ∙ h)).0
    refl
