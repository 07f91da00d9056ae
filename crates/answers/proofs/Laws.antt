-- The cases of the answer: the walk over rows, the trailer's room. Assumes nothing.
use mathlib.Core.Path.{◌≡◌, refl, sym, ap, ap₂, ◌∙◌}
use mathlib.Core.Bool.{Bool, true, false, cond, not, ◌&&◌}
use mathlib.Core.List.{List, [], ◌∷◌, map}
use Prim.Native.Nat.{ℕ, ◌+◌, ◌-◌, ◌*◌, ◌<◌, ◌≤◌}
use native.Mathlib.Omega.{arith}
use lib.Bits.{bit_and}
use lib.ListN.{length, take, drop, get_or, drop_of_length-le}
use lib.Seq.{drop-cons}
use native.Mathlib.Numerals.{add-one}
use lib.Dec.{eqb}
use borrow.Author.Tests.{le-leb, lt-leb, ne_eqb}
use Rattle.meaning.specs.declared.Attributes.{Attributes}
use Rattle.meaning.specs.States.{Cursor}
use Rattle.meaning.specs.declared.Item.{Item}
use Rattle.meaning.specs.declared.Known.{Known}
use Rattle.meaning.specs.declared.Reason.{Reason}
use Rattle.meaning.specs.declared.Spot.{Spot}
use Rattle.meaning.specs.Reasons.{number_of, cursor_of}
use Rattle.meaning.specs.Bytes.{ones}
use Rattle.meaning.specs.Items.{step, walk}
use Rattle.meaning.specs.Schema.{schema, trailer}
use Rattle.meaning.specs.Editions.{unreadable}
use Rattle.meaning.specs.Records.{layout, room, origin, closed, fields_of, fields_answer, judge, kind_of, misc_of, size_of}
use Rattle.laws.specs.Counting.{bits_from, eights, eights-ones, eights-most, trailer-count}
use Rattle.std.proofs.lemmas.Slice.{between_is}
use mir.Val.{Fits}
use mir.Syntax.{w8}
use Rattle.laws.specs.Numbers.{number_bound}
use Rattle.laws.specs.Again.{stuck}
use Rattle.table.specs.declared.Part.{Part}
use Rattle.table.specs.Rows.{rows, item_of}
use Rattle.table.specs.Same.{LaidOut}
use Rattle.answers.specs.Answer.{answer_by}
use Rattle.laws.specs.Reasons.{number-some}

-- ---- the walk over rows

module _ (xs : List ℕ) (f : ℕ → Item) (own : List ℕ) (k : ℕ) where
  pub walk-row : (c d : Cursor) → k < length own → d ≡ step xs (f (get_or own k 0)) c → walk xs (map f (drop k own)) c ≡ walk xs (map f (drop (k + 1) own)) d
  unfolding walk
  walk-row c d h e = rw (drop-cons own k 0 h, e, add-one k)

  pub walk-end : (c : Cursor) → length own ≤ k → walk xs (map f (drop k own)) c ≡ c
  unfolding walk
  walk-end c h = rw (drop_of_length-le own h)

  -- the rows after a refusal change nothing
  pub walk-stuck : (c d : Cursor) (reason : Reason) → k < length own → d ≡ step xs (f (get_or own k 0)) c → number_of reason ≡ d.why
      → d ≡ walk xs (map f (drop k own)) c
  walk-stuck c d reason h e n = sym (walk-row c d h e ∙ stuck xs (map f (drop (k + 1) own)) d (λ z. number-some reason (n ∙ z)))

-- ---- the trailer's room, by the one law over the count: 8 for each bit of 66,246 that the sample type has

pub room-on : (kind : ℕ) (a : Attributes) → (a.all && not (eqb kind 9)) ≡ true → 8 * ones 64 (bit_and a.sample 66246) ≡ room (trailer kind a)
room-on kind a h = sym (trailer-count kind a ∙ rw h refl)

-- the mask has six bits
pub room_most : (x : ℕ) → 8 * ones 64 (bit_and x 66246) ≤ 48
unfolding bits_from
room_most x =
    let e : 8 * ones 64 (bit_and x 66246) ≡ eights x (1 ∷ 2 ∷ 6 ∷ 7 ∷ 9 ∷ 16 ∷ []) = eights-ones x 66246 in
    let l = eights-most x (1 ∷ 2 ∷ 6 ∷ 7 ∷ 9 ∷ 16 ∷ []) in
    omega (arith, e, l)

pub room-off : (kind : ℕ) (a : Attributes) → (a.all && not (eqb kind 9)) ≡ false → 0 ≡ room (trailer kind a)
room-off kind a h = sym (trailer-count kind a ∙ rw h refl)

-- ---- the answer

pub closed-refused : (end : ℕ) (c : Cursor) (reason : Reason) → number_of reason ≡ c.why → number_of reason ≡ closed end c
unfolding closed
closed-refused end c reason e = rw (sym e, ne_eqb (number_of reason) 0 (number-some reason))

pub closed-by : (end : ℕ) (c : Cursor) (spot : Spot) (b : Bool) → cursor_of spot ≡ c → eqb spot.at end ≡ b → cond b 0 31 ≡ closed end c
unfolding closed
closed-by end c spot b h e = rw (sym h, e)

module _ (is : List Item) (xs : List ℕ) (t u : ℕ) (e : t ≡ u) where
  pub answer-short : length xs < 8 + t → 30 ≡ fields_answer is u xs
  unfolding fields_answer
  answer-short h = rw (sym e, lt-leb (8 + t) (length xs) h)

  pub answer-walked : (c : Cursor) → 8 + t ≤ length xs → c ≡ walk (take (length xs - t) xs) is (origin 8) → closed (length xs - t) c ≡ fields_answer is u xs
  unfolding fields_answer fields_of
  answer-walked c h ec = rw (sym e, le-leb (8 + t) (length xs) h, ec)

-- 20 to 25 by what the rules say, then 30 to 33
module _ (k : Known) (a : Attributes) (kind misc : ℕ) (xs : List ℕ) where
  pub answer-unreadable : (reason : Reason) → number_of reason ≡ unreadable k a kind misc → number_of reason ≡ answer_by k a kind misc xs
  unfolding answer_by
  answer-unreadable reason e = rw (sym e, ne_eqb (number_of reason) 0 (number-some reason))

  pub answer-read : 0 ≡ unreadable k a kind misc → fields_answer (schema kind misc a) (room (trailer kind a)) xs ≡ answer_by k a kind misc xs
  unfolding answer_by
  answer-read e = rw (sym e)

-- the answer by a header that was read is the record's
module _ (k : Known) (a : Attributes) (xs : List ℕ) where
  own : answer_by k a (kind_of xs) (misc_of xs) xs ≡ judge (layout k a) xs
  unfolding judge layout answer_by
  own = refl

  pub judge-by : (kind misc : ℕ) → kind ≡ kind_of xs → misc ≡ misc_of xs → answer_by k a kind misc xs ≡ judge (layout k a) xs
  judge-by kind misc ek em = ap₂ (λ (t m : ℕ). answer_by k a t m xs) ek em ∙ own

-- a size has 16 bits
pub size-few : (xs : List ℕ) → ((i : ℕ) → Fits w8 (get_or xs i 0)) → size_of xs < 65536
unfolding size_of
size-few xs h = number_bound 2 xs 6 h
