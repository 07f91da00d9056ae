-- What an accepted record gives the loops over its rows, and that the words they leave are the record's. Assumes nothing.
use mathlib.Core.Path.{◌≡◌, sym, ap, ◌∙◌}
use mathlib.Core.List.{List, ◌∷◌, ◌++◌, map}
use Prim.Native.Nat.{ℕ, ◌+◌, ◌-◌, ◌≤◌}
use native.Mathlib.Omega.{arith}
use lib.ListN.{length, take, drop}
use Rattle.meaning.specs.declared.Attributes.{Attributes}
use Rattle.meaning.specs.States.{Cursor}
use Rattle.meaning.specs.declared.Item.{Item}
use Rattle.meaning.specs.Bytes.{put, zeros}
use Rattle.meaning.specs.Schema.{schema, trailer}
use Rattle.meaning.specs.Records.{kind_of, misc_of, size_of, origin}
use Rattle.meaning.specs.Values.{width, flag_words, body_words, trail_words, value_words, words, words_by}
use Rattle.laws.specs.Put.{length-put, put-start}
use Rattle.laws.specs.Told.{fields-few, trailer-few}
use Rattle.table.specs.Rows.{rows, field_rows, all_rows, item_of}
use Rattle.table.proofs.Same.{trailer-rows}
use Rattle.record.specs.Into.{Fills, record_flag}
use Rattle.record.specs.Lent as lent
use Rattle.record.specs.Lent.{Header, walked, trailer-runs}

module _ (a : Attributes) (xs : List ℕ) (kind misc t : ℕ) (g : Header a xs kind misc t) where
  pub fields-fill : (own : List ℕ) (c : Cursor) (out : List ℕ) → map (item_of a misc kind) own ≡ schema kind misc a → c ≡ origin 8 → length out ≡ value_words
      → Fills (map (item_of a misc kind) own) (take (length xs - t) xs) c out body_words
  fields-fill own c out e ec l = record {
    fine = rw (e, ec) (walked a xs kind misc t g).1;
    space = rw (e, l) (let h = fields-few kind misc a in omega arith);
  }

  pub trailer-fill : (own : List ℕ) (c : Cursor) (out : List ℕ) → map (item_of a misc kind) own ≡ trailer kind a → c ≡ origin (length xs - t) → length out ≡ value_words
      → Fills (map (item_of a misc kind) own) xs c out trail_words
  trailer-fill own c out e ec l =
      let h = (walked a xs kind misc t g).0 in
      let m = g.room-is in
      record {
        fine = rw (e, ec) (trailer-runs kind a xs (length xs - t) (omega arith));
        space = rw (e, l) (let h = trailer-few kind a in omega arith);
      }

  pub words_are : (size : ℕ) (own last : List ℕ) (c d : Cursor) (one mid two : List ℕ) → size ≡ size_of xs
      → map (item_of a misc kind) own ≡ schema kind misc a → map (item_of a misc kind) last ≡ trailer kind a
      → c ≡ origin 8 → d ≡ origin (length xs - t)
      → one ≡ put (kind ∷ misc ∷ size ∷ zeros 53) body_words (words (take (length xs - t) xs) (map (item_of a misc kind) own) c)
      → mid ≡ put one (body_words + width (schema kind misc a)) (flag_words (schema kind misc a) (record_flag a xs))
      → two ≡ put mid trail_words (words xs (map (item_of a misc kind) last) d)
      → two ≡ words_by (schema (kind_of xs) (misc_of xs) a) (trailer (kind_of xs) a) xs
  words_are size own last c d one mid two es ei el ec ed e₁ eₘ e₂ =
      lent.words_are a xs kind misc t g size c d one mid two es ec ed
      (e₁ ∙ ap (λ (is : List Item). put (kind ∷ misc ∷ size ∷ zeros 53) body_words (words (take (length xs - t) xs) is c)) ei)
      eₘ
      (e₂ ∙ ap (λ (is : List Item). put mid trail_words (words xs is d)) el)

-- the rows of the trailer, as those lent
pub trailer_laid : (kind misc : ℕ) (a : Attributes) (all : List ℕ) → all ≡ rows → map (item_of a misc kind) (take (all_rows - field_rows) (drop field_rows all)) ≡ trailer kind a
trailer_laid kind misc a all e = ap (λ (l : List ℕ). map (item_of a misc kind) (take (all_rows - field_rows) (drop field_rows l))) e ∙ trailer-rows misc kind a

-- ---- the words lent

pub words_by-long : (is ts : List Item) (xs : List ℕ) → length (words_by is ts xs) ≡ 56
unfolding words_by
words_by-long is ts xs = length-put _ _ _ ∙ length-put _ _ _

pub put-56 : (d s : List ℕ) → length s ≡ 56 → 56 ≤ length d → s ++ drop 56 d ≡ put d 0 s
put-56 d s l h = ap (λ (n : ℕ). s ++ drop n d) (sym l) ∙ sym (put-start d s (omega (arith, l, h)))
