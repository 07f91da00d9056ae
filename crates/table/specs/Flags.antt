-- The word of the flag of each type that has a name (M-107): the next after the words of its fields; 0 of a type that has none. By one computation over
-- the whole table. Assumes nothing.
use Rattle.std.specs.Prelude.{◌≡◌, refl, Bool, true, false, cond, List, [], ◌∷◌, map, ℕ, zero, suc, ◌+◌, get_or}
use Rattle.std.proofs.Common.{sym, ap, ◌∙◌, arith}
use Rattle.meaning.specs.declared.Attributes.{Attributes}
use Rattle.meaning.specs.declared.Item.{Item}
use Rattle.meaning.specs.Schema.{schema, schemas}
use Rattle.meaning.specs.Writing.{ends, named}
use Rattle.meaning.specs.Values.{tell, width, body_words}

-- by type, from 0 on: MMAP 10, COMM 7, MMAP2 18, KSYMBOL 9, CGROUP 6
abbrev pub flags : List ℕ
flags = 0 ∷ 10 ∷ 0 ∷ 7 ∷ 0 ∷ 0 ∷ 0 ∷ 0 ∷ 0 ∷ 0 ∷ 18 ∷ 0 ∷ 0 ∷ 0 ∷ 0 ∷ 0 ∷ 0 ∷ 9 ∷ 0 ∷ 6 ∷ 0 ∷ 0 ∷ []

abbrev pub flag_at : ℕ → ℕ
flag_at kind = get_or flags kind 0

abbrev after : List Item → ℕ
after is = cond (named is) (body_words + width is) 0

all_after : (misc : ℕ) (a : Attributes) → map after (schemas misc a) ≡ flags
unfolding named ends width tell
all_after misc a = refl

after-at : (ls : List (List Item)) (k : ℕ) → get_or (map after ls) k 0 ≡ after (get_or ls k [])
unfolding named
after-at [] k = refl
after-at (l ∷ ls) zero = refl
after-at (l ∷ ls) (suc k) = after-at ls k

module _ (kind misc : ℕ) (a : Attributes) where
  at-is : flag_at kind ≡ after (schema kind misc a)
  at-is = ap (λ (ns : List ℕ). get_or ns kind 0) (sym (all_after misc a)) ∙ after-at (schemas misc a) kind

  pub flag-none : flag_at kind ≡ 0 → named (schema kind misc a) ≡ false
  flag-none z = go (named (schema kind misc a)) (sym at-is ∙ z)
    where
      go : (t : Bool) → cond t (body_words + width (schema kind misc a)) 0 ≡ 0 → t ≡ false
      go true e = absurd (omega (arith, e))
      go false e = refl

  pub flag-some : (flag_at kind ≡ 0 → ⊥) → (named (schema kind misc a) ≡ true) × (flag_at kind ≡ body_words + width (schema kind misc a))
  flag-some n = go (named (schema kind misc a)) at-is
    where
      go : (t : Bool) → flag_at kind ≡ cond t (body_words + width (schema kind misc a)) 0
          → (t ≡ true) × (flag_at kind ≡ body_words + width (schema kind misc a))
      go true e = (refl, e)
      go false e = absurd (n e)
