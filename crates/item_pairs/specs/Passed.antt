-- One item of two records. Assumes nothing: this is a definition, and a law of it.
use Rattle.std.specs.Prelude.{◌≡◌, refl, Bool, true, false, cond, List, ℕ, Result, Ok, Err, length}
use Rattle.std.proofs.Common.{sym, ◌∙◌, arith}
use Rattle.meaning.specs.States.{Cursor}
use Rattle.meaning.specs.declared.Item.{Item}
use Rattle.meaning.specs.Items.{step, content}
use Rattle.compare.specs.Compared.{alike}
use Rattle.compare.proofs.Inner.{fields_at}
use Rattle.meaning.specs.Reasons.{cursor_of}
use Rattle.item_pairs.specs.declared.After.{After}

-- what one item of two records is
pub record Both : Type 0 where
  pub c : Cursor
  pub d : Cursor
  pub w : ℕ
  pub x : ℕ
  pub told : Bool
  pub same : Bool

-- where both walks stand after an item, whose fields are the same or are not
abbrev pub both_of : Result After After → Both
both_of (Ok p) = record { c = cursor_of p.c; d = cursor_of p.d; w = p.w; x = p.x; told = p.told; same = true }
both_of (Err p) = record { c = cursor_of p.c; d = cursor_of p.d; w = p.w; x = p.x; told = p.told; same = false }

-- one item of two records: the next states, the items' numbers, whether it has a field, whether the fields are the same
pub record Passed (s t : List ℕ) (i : Item) (w x : ℕ) (c d : Cursor) (r : Both) : Type 0 where
  pub c-is : r.c ≡ step s i c
  pub d-is : r.d ≡ step t i d
  pub w-is : r.w ≡ (content s i c).num
  pub x-is : r.x ≡ (content t i d).num
  pub told_is : length (fields_at s i w c) ≡ cond r.told 1 0
  pub same-is : r.same ≡ alike (fields_at s i w c) (fields_at t i x d)

-- which is one thing
one_told : (a b : Bool) → ◌≡◌ {A = ℕ} (cond a 1 0) (cond b 1 0) → a ≡ b
one_told true true e = refl
one_told true false e = absurd (let z : ◌≡◌ {A = ℕ} 1 0 = e in omega (arith, z))
one_told false true e = absurd (let z : ◌≡◌ {A = ℕ} 0 1 = e in omega (arith, z))
one_told false false e = refl

pub passed-one : (s t : List ℕ) (i : Item) (w x : ℕ) (c d : Cursor) (p q : Both) → Passed s t i w x c d p → Passed s t i w x c d q → p ≡ q
passed-one s t i w x c d p q a b =
    let u = a.c-is ∙ sym b.c-is in
    let v = a.d-is ∙ sym b.d-is in
    let m = a.w-is ∙ sym b.w-is in
    let n = a.x-is ∙ sym b.x-is in
    let y = one_told p.told q.told (sym a.told_is ∙ b.told_is) in
    let z = a.same-is ∙ sym b.same-is in
    λ j. record { c = u j; d = v j; w = m j; x = n j; told = y j; same = z j }
