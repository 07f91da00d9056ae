-- The flag of a record that is accepted, by the last eight bytes before its trailer, and its word: whoever looks at the bytes. Assumes nothing.
use Rattle.std.specs.Prelude.{◌≡◌, refl, Bool, true, false, ℕ, ◌+◌, ◌-◌, ◌<◌, ◌≤◌, length, set, drop}
use Rattle.std.proofs.Math.Path.{sym, ap, ap₂}
use Rattle.std.proofs.Common.{◌∙◌, arith, length-take-le}
use Rattle.std.proofs.Math.Bool.{cond}
use mathlib.Core.List.{List, [], ◌∷◌}
use Rattle.std.proofs.Math.ListN.{take}
use Rattle.meaning.specs.declared.Attributes.{Attributes}
use Rattle.meaning.specs.declared.Item.{Item}
use Rattle.meaning.specs.Bytes.{stale, put}
use Rattle.meaning.specs.Schema.{schema, trailer}
use Rattle.meaning.specs.Records.{room, origin, kind_of, misc_of, fields_of, flag_by}
use Rattle.meaning.specs.Values.{width, flag_words, body_words, value_words}
use Rattle.laws.specs.Answers.{fields-zero}
use Rattle.laws.specs.Put.{put-nil, put_one}
use Rattle.laws.specs.Whole.{nameless}
use Rattle.laws.specs.Told.{fields-few}
use Rattle.laws.specs.Stale.{fields-dirty}
use Rattle.table.specs.Flags.{flag_at, flag-none, flag-some}
use Rattle.record.specs.Into.{Accepted, name_dirty, record_flag}
use mir.Val.{bool_byte}

module _ (a : Attributes) (xs : List ℕ) (kind : ℕ) (g : Accepted a xs kind) where
  abbrev trail : ℕ
  trail = room (trailer (kind_of xs) a)

  rooms : (t : ℕ) → t ≡ room (trailer kind a) → t ≡ trail
  rooms t e = e ∙ ap (λ (k : ℕ). room (trailer k a)) g.kind-is

  pub trailer-there : (t : ℕ) → t ≡ room (trailer kind a) → t + 8 ≤ length xs
  trailer-there t e =
      let h = (fields-zero (schema (kind_of xs) (misc_of xs) a) trail xs g.answer-is).0 in
      let q = rooms t e in
      omega (arith, h, q)

  pub dirty-none : flag_at kind ≡ 0 → false ≡ name_dirty a xs
  dirty-none z = sym (nameless (schema (kind_of xs) (misc_of xs) a) (fields_of trail xs) (origin 8) (flag-none (kind_of xs) (misc_of xs) a (ap flag_at (sym g.kind-is) ∙ z)))

  module _ (n : flag_at kind ≡ 0 → ⊥) (t : ℕ) (e : t ≡ room (trailer kind a)) where
    seen : (8 ≤ length (fields_of trail xs)) × (name_dirty a xs ≡ stale (drop (length (fields_of trail xs) - 8) (fields_of trail xs)))
    seen = fields-dirty (kind_of xs) (misc_of xs) a xs g.eights (flag-some (kind_of xs) (misc_of xs) a (λ z. n (ap flag_at g.kind-is ∙ z))).0 g.answer-is

    long : length (take (length xs - t) xs) ≡ length xs - t
    long = let h = trailer-there t e in length-take-le (length xs - t) xs (omega arith)

    cut : fields_of trail xs ≡ take (length xs - t) xs
    unfolding fields_of
    cut = ap (λ (k : ℕ). take (length xs - k) xs) (sym (rooms t e))

    pub dirty-some : (r : Bool) → r ≡ stale (drop (length xs - t - 8) (take (length xs - t) xs)) → r ≡ name_dirty a xs
    dirty-some r q =
        q
        ∙ ap₂ (λ (k : ℕ) (F : List ℕ). stale (drop (k - 8) F)) (sym long ∙ ap length (sym cut)) (sym cut)
        ∙ sym seen.1

  pub number_is : (r : Bool) → r ≡ name_dirty a xs → cond r 1 0 ≡ record_flag a xs
  unfolding flag_by
  number_is r e = ap (λ (b : Bool). cond b 1 0) e

  -- ---- the flag's word

  pub word_none : (misc : ℕ) (out : List ℕ) → length out ≡ value_words → flag_at kind ≡ 0
      → out ≡ put out (body_words + width (schema kind misc a)) (flag_words (schema kind misc a) (record_flag a xs))
  unfolding flag_words
  word_none misc out l z =
      let is : List Item = schema kind misc a in
      let w = fields-few kind misc a in
      sym (ap (λ (b : Bool). put out (body_words + width is) (cond b (record_flag a xs ∷ []) [])) (flag-none kind misc a z) ∙ put-nil out (body_words + width is) (omega (arith, l, w)))

  module _ (misc : ℕ) (n : flag_at kind ≡ 0 → ⊥) where
    -- there is a word for it
    pub word-there : flag_at kind < value_words
    unfolding flag_words
    word-there =
        let w = fields-few kind misc a in
        let s = (flag-some kind misc a n).1 in
        omega (arith, w, s)

    pub word_some : (out : List ℕ) (f : ℕ) → length out ≡ value_words → f ≡ record_flag a xs
        → set out (flag_at kind) f ≡ put out (body_words + width (schema kind misc a)) (flag_words (schema kind misc a) (record_flag a xs))
    unfolding flag_words
    word_some out f l ef =
        let s = flag-some kind misc a n in
        let h = word-there in
        put_one out (flag_at kind) f (omega (arith, l, h))
        ∙ ap₂ (λ (k v : ℕ). put out k (v ∷ [])) s.1 ef
        ∙ ap (λ (b : Bool). put out (body_words + width (schema kind misc a)) (cond b (record_flag a xs ∷ []) [])) (sym s.0)

-- a flag as a byte
pub byte_is : (b : Bool) → bool_byte b ≡ cond b 1 0
byte_is true = refl
byte_is false = refl
