-- What an accepted record gives the chains of its fields and of its trailer, and that the words which they and the flag leave are the record's.
-- Assumes nothing.
use mathlib.Core.Path.{◌≡◌, refl, sym, ap, ◌∙◌}
use mathlib.Core.List.{List, ◌∷◌, ◌++◌}
use Prim.Native.Nat.{ℕ, ◌+◌, ◌-◌, ◌<◌, ◌≤◌}
use native.Mathlib.Omega.{arith}
use lib.ListN.{length, take, drop, set, length-append}
use lib.Seq.{drop-drop, drop-append-add}
use Rattle.meaning.specs.declared.Attributes.{Attributes}
use Rattle.meaning.specs.States.{Cursor}
use Rattle.meaning.specs.declared.Item.{Item}
use Rattle.meaning.specs.Bytes.{put, zeros}
use Rattle.meaning.specs.Schema.{schema, trailer}
use Rattle.meaning.specs.Records.{kind_of, misc_of, size_of, origin}
use Rattle.meaning.specs.Values.{width, flag_words, body_words, trail_words, words, words_by}
use Rattle.laws.specs.Put.{put-fits, put-start, length-put, length-head}
use Rattle.laws.specs.Told.{words-length, flag-length, fields-few, trailer-few}
use Rattle.record.specs.Into.{record_flag}
use Rattle.record.specs.Lent.{Header, walked, trailer-runs, flag-put, words_are}
use Rattle.fills.specs.Chains.{Ready, Filling}

-- what stands further on is as it was
drop-put : (d : List ℕ) (at : ℕ) (s : List ℕ) (k : ℕ) → at + length s ≤ length d → at + length s ≤ k → drop k (put d at s) ≡ drop k d
drop-put d at s k l h =
    let n : ℕ = at + length s in
    let w = length-head d at s (omega arith) in
    let e : k ≡ length (take at d ++ s) + (k - n) = omega (arith, w) in
    let f : n + (k - n) ≡ k = omega arith in
    ap (drop k) (put-fits d at s l)
    ∙ ap (λ (m : ℕ). drop m ((take at d ++ s) ++ drop n d)) e
    ∙ drop-append-add (take at d ++ s) (drop n d) (k - n)
    ∙ drop-drop (k - n) n d
    ∙ ap (λ (m : ℕ). drop m d) f

-- ---- the first of the words lent

pub first-put : (ws s : List ℕ) → length s ≡ 56 → 56 ≤ length ws → s ++ drop 56 ws ≡ put ws 0 s
first-put ws s l h = ap (λ (k : ℕ). s ++ drop k ws) (sym l) ∙ sym (put-start ws s (omega (arith, l)))

pub words_long : (is ts : List Item) (xs : List ℕ) → length (words_by is ts xs) ≡ 56
unfolding words_by
words_long is ts xs = length-put _ 48 _ ∙ length-put _ 3 _

-- ---- a record's words

-- the header's words, over zeros: there is a third
pub two-set : (z : List ℕ) (kind misc : ℕ) → z ≡ zeros 56 → 2 < length (set (set z 0 kind) 1 misc)
two-set z kind misc e = rw e (omega arith)

pub headed : (kind misc size : ℕ) (z : List ℕ) → z ≡ zeros 56 → set (set (set z 0 kind) 1 misc) 2 size ≡ kind ∷ misc ∷ size ∷ zeros 53
headed kind misc size z e = ap (λ (l : List ℕ). set (set (set l 0 kind) 1 misc) 2 size) e

module _ (a : Attributes) (xs : List ℕ) (kind misc t : ℕ) (g : Header a xs kind misc t) (size : ℕ) (d₀ : List ℕ) (start : d₀ ≡ kind ∷ misc ∷ size ∷ zeros 53) (c : Cursor) (ec : c ≡ origin 8) where
  pub fields-ready : Ready (schema kind misc a) (take (length xs - t) xs) c d₀ body_words
  fields-ready = record {
    fine = rw ec (walked a xs kind misc t g).1;
    space = rw start (let h = fields-few kind misc a in omega (arith, h));
    clear = rw start refl;
  }

  module _ (one : List ℕ) (c₁ : Cursor) (filled : Filling (schema kind misc a) (take (length xs - t) xs) c d₀ body_words one c₁) where
    -- the fields' words as the record has them
    one-is : one ≡ put (kind ∷ misc ∷ size ∷ zeros 53) 3 (words (take (length xs - t) xs) (schema kind misc a) c)
    one-is = filled.put_is ∙ ap (λ (d : List ℕ). put d 3 (words (take (length xs - t) xs) (schema kind misc a) c)) start

    pub one-long : length one ≡ 56
    one-long = ap length one-is ∙ length-put (kind ∷ misc ∷ size ∷ zeros 53) 3 (words (take (length xs - t) xs) (schema kind misc a) c)

    module _ (mid : List ℕ) (flagged : mid ≡ put one (body_words + width (schema kind misc a)) (flag_words (schema kind misc a) (record_flag a xs)))
        (c₂ : Cursor) (e₂ : c₂ ≡ origin (length xs - t)) where
      pub mid-long : length mid ≡ 56
      mid-long = ap length flagged ∙ length-put one (body_words + width (schema kind misc a)) (flag_words (schema kind misc a) (record_flag a xs)) ∙ one-long

      pub trailer-ready : Ready (trailer kind a) xs c₂ mid trail_words
      trailer-ready =
          let is : List Item = schema kind misc a in
          let W : List ℕ = words (take (length xs - t) xs) is c in
          let F : List ℕ = flag_words is (record_flag a xs) in
          let S : List ℕ = W ++ F in
          let D : List ℕ = kind ∷ misc ∷ size ∷ zeros 53 in
          let w = fields-few kind misc a in
          let lw = words-length is (take (length xs - t) xs) c in
          let lf = flag-length is (record_flag a xs) in
          let ls = length-append W F in
          let h = (walked a xs kind misc t g).0 in
          let e = g.room-is in
          let n = mid-long in
          let m : mid ≡ put D 3 S = flagged ∙ ap (λ (l : List ℕ). put l (body_words + width is) F) one-is ∙ flag-put a xs kind misc t g D c refl in
          let f = trailer-few kind a in
          let z : 8 ≡ length mid - trail_words = omega (arith, n) in
          record {
            fine = rw e₂ (trailer-runs kind a xs (length xs - t) (omega (arith, h, e)));
            space = omega (arith, n, f);
            clear = ap (drop trail_words) m ∙ drop-put D 3 S trail_words (omega (arith, w, lw, lf, ls)) (omega (arith, w, lw, lf, ls)) ∙ ap zeros z;
          }

      pub words-filled : size ≡ size_of xs → (two : List ℕ) (c₃ : Cursor) → Filling (trailer kind a) xs c₂ mid trail_words two c₃
          → two ≡ words_by (schema (kind_of xs) (misc_of xs) a) (trailer (kind_of xs) a) xs
      words-filled es two c₃ p = words_are a xs kind misc t g size c c₂ one mid two es ec e₂ one-is flagged p.put_is
