-- Demand 1, the reader that fills lent words: the answer of the reader of a record's bytes; then 40 if there are fewer words than a value has. Refused: the words are
-- unchanged. Accepted: the value, the rest unchanged. Assumes nothing.
use Rattle.std.specs.Prelude.{◌≡◌, true, cond, leb, eqb, length, take, drop}
use Rattle.std.proofs.Math.Path.{refl, ap}
use Rattle.std.proofs.Common.{◌∙◌, arith}
use mathlib.Core.List.{List, ◌∷◌}
use Prim.Native.Nat.{ℕ}
use borrow.Author.Tests.{leb-true, eq-eqb, ne_eqb}
use Rattle.meaning.specs.declared.Attributes.{Attributes}
use Rattle.meaning.specs.Bytes.{put}
use Rattle.meaning.specs.Editions.{editions, known, is_in}
use Rattle.meaning.specs.Records.{layout, check}
use Rattle.meaning.specs.Values.{record_words, read, read_answered}
use Rattle.record.specs.Into.{read_into_answer, read_into_words}
use Rattle.laws.specs.Answers.{or-zero, tested}
use Rattle.laws.specs.Answer42.{check-of}
use Rattle.laws.specs.Told.{words-told}
use Rattle.laws.specs.Rows.{in-more, in-cond}
use Rattle.runs.specs.Scratches.{put_holds}
use Rattle.editions.proofs.InTable.{check-in}
use Rattle.editions.specs.Numbers.{check_numbers}

abbrev pub read_numbers : List ℕ
read_numbers = 40 ∷ check_numbers

module _ (e : ℕ) (a : Attributes) (xs words : List ℕ) where
  abbrev told : ℕ
  told = read_into_answer editions e a xs words

  abbrev words_then : List ℕ
  words_then = read_into_words editions e a xs words

  pub lent-numbers : is_in told read_numbers ≡ true
  unfolding read_into_answer
  lent-numbers =
      in-cond read_numbers (eqb (check editions e a xs) 0) (cond (leb 56 (length words)) 0 40) (check editions e a xs)
      (in-cond read_numbers (leb 56 (length words)) 0 40 refl refl) (in-more check_numbers read_numbers (check editions e a xs) refl (check-in editions e a xs))

  -- "Refused: the words are unchanged"
  pub lent-refused : (told ≡ 0 → ⊥) → words_then ≡ words
  unfolding read_into_words
  lent-refused h = rw (ne_eqb told 0 h)

  -- accepted: record check accepts, and the first 56 words are those that the reader of a record's bytes tells
  pub lent-accepted : told ≡ 0 → (check editions e a xs ≡ 0) × (take 56 words_then ≡ (read editions e a xs).words) × (drop 56 words_then ≡ drop 56 words)
  unfolding read_into_answer read_into_words read read_answered
  lent-accepted z =
      let s = or-zero (check editions e a xs) (cond (leb 56 (length words)) 0 40) z in
      let m = leb-true 56 (length words) (tested (leb 56 (length words)) 40 0 (omega arith) s.1).0 in
      let ws : List ℕ = record_words (layout (known editions e) a) xs in
      let l = (words-told (known editions e) a xs (check-of editions e a xs s.0).1).long in
      let p = put_holds words ws 56 l m in
      let q : words_then ≡ put words 0 ws = rw (eq-eqb told 0 z) in
      (s.0, ap (take 56) q ∙ p.0 ∙ rw (eq-eqb (check editions e a xs) 0 s.0), ap (drop 56) q ∙ p.1)
