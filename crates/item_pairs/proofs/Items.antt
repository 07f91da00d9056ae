-- One item of two records. Assumes nothing.
use mathlib.Core.Path.{◌≡◌, refl, sym, ap, ap₂, ◌∙◌, subst}
use mathlib.Core.List.{List, [], ◌∷◌}
use mathlib.Core.Bool.{Bool, true, false, cond}
use Prim.Native.Nat.{ℕ}
use lib.ListN.{length, take, drop}
use Rattle.meaning.specs.States.{Cursor}
use Rattle.meaning.specs.declared.Item.{Item}
use Rattle.meaning.specs.Items.{Con, con, shape_step, step, content}
use Rattle.laws.specs.Again.{stepped}
use Rattle.compare.specs.Fields.{field}
use Rattle.compare.specs.Compared.{alike}
use Rattle.compare.proofs.Inner.{fields_at}
use Rattle.std.specs.Prelude.{Option, Some, None}
use Rattle.std.specs.Option.{is_some}
use Rattle.extents.specs.declared.Stretch.{Stretch}
use Rattle.extents.specs.declared.Told.{Told}
use Rattle.extents.specs.Extent.{stretched, extent_of, Extent, field_in, content_at, Lies}
use Rattle.item_pairs.specs.Passed.{Both, Passed}

-- a selected item's step is its shape's
pub shape-step : (s : List ℕ) (i : Item) (c : Cursor) → i.on ≡ true → c.why ≡ 0 → step s i c ≡ shape_step i.shape c (drop c.at s)
shape-step s i c o z = stepped i.on i.shape s c z ∙ ap (λ (b : Bool). cond b (shape_step i.shape c (drop c.at s)) c) o

off-step : (s : List ℕ) (i : Item) (c : Cursor) → i.on ≡ false → c.why ≡ 0 → step s i c ≡ c
off-step s i c o z = stepped i.on i.shape s c z ∙ ap (λ (b : Bool). cond b (shape_step i.shape c (drop c.at s)) c) o

on-content : (s : List ℕ) (i : Item) (c : Cursor) → i.on ≡ true → content s i c ≡ content_at s i.shape c
unfolding content
on-content s i c o = rw o

off-content : (s : List ℕ) (i : Item) (c : Cursor) → i.on ≡ false → (content s i c).num ≡ 0
unfolding content
off-content s i c o = rw o

on-fields : (s : List ℕ) (i : Item) (w : ℕ) (c : Cursor) → i.on ≡ true → field i.shape w c (content_at s i.shape c) ≡ fields_at s i w c
on-fields s i w c o =
    ap (λ (v : Con). field i.shape w c v) (sym (on-content s i c o)) ∙ ap (λ (b : Bool). cond b (field i.shape w c (content s i c)) []) (sym o)

off-fields : (s : List ℕ) (i : Item) (w : ℕ) (c : Cursor) → i.on ≡ false → fields_at s i w c ≡ []
off-fields s i w c o = ap (λ (b : Bool). cond b (field i.shape w c (content s i c)) []) o

field-long : (s : List ℕ) (e : Extent) → length (field_in s e) ≡ cond e.has 1 0
unfolding field_in
field-long s e = by e.has
  where
    by : (b : Bool) → length (cond b (con e.num (take e.len (drop e.at s)) ∷ []) []) ≡ cond b 1 0
    by true = refl
    by false = refl

none_alike : true ≡ alike [] []
unfolding alike
none_alike = refl

module _ (s t : List ℕ) (i : Item) (w x : ℕ) (c d : Cursor) where
  pub passed-off : (r : Both) → i.on ≡ false → c.why ≡ 0 → d.why ≡ 0 → r ≡ record { c = c; d = d; w = 0; x = 0; told = false; same = true } → Passed s t i w x c d r
  passed-off r o p q z = subst (Passed s t i w x c d) (sym z) (record {
    c-is = sym (off-step s i c o p);
    d-is = sym (off-step t i d o q);
    w-is = sym (off-content s i c o);
    x-is = sym (off-content t i d o);
    told_is = ap length (off-fields s i w c o);
    same-is = none_alike ∙ ap₂ (λ (a b : List Con). alike a b) (sym (off-fields s i w c o)) (sym (off-fields t i x d o));
  })

  -- or its fields are those at the extents
  pub passed_on : (r : Both) (c₁ d₁ : Cursor) (e g : Extent) (same : Bool) → i.on ≡ true → c₁ ≡ step s i c → d₁ ≡ step t i d → Lies s i.shape w c e → Lies t i.shape x d g
      → same ≡ alike (field_in s e) (field_in t g) → r ≡ record { c = c₁; d = d₁; w = e.w; x = g.w; told = e.has; same = same } → Passed s t i w x c d r
  passed_on r c₁ d₁ e g same o p q a b h z =
      let f = a.field_is ∙ on-fields s i w c o in
      let k = b.field_is ∙ on-fields t i x d o in
      subst (Passed s t i w x c d) (sym z) (record {
        c-is = p;
        d-is = q;
        w-is = a.number_is ∙ ap (λ (v : Con). v.num) (sym (on-content s i c o));
        x-is = b.number_is ∙ ap (λ (v : Con). v.num) (sym (on-content t i d o));
        told_is = sym (ap length f) ∙ field-long s e;
        same-is = h ∙ ap₂ (λ (a b : List Con). alike a b) f k;
      })

-- where both walks stand, by what the two items tell
stretched-has : (o : Option Stretch) (w : ℕ) → is_some o ≡ (stretched o w).has
stretched-has None w = refl
stretched-has (Some e) w = refl

stretched-w : (o : Option Stretch) (w : ℕ) → w ≡ (stretched o w).w
stretched-w None w = refl
stretched-w (Some e) w = refl

pub passing : (c₁ d₁ : Cursor) (e g : Told) (told same test : Bool) → told ≡ is_some e.field → same ≡ test
    → ◌≡◌ {A = Both} (record { c = c₁; d = d₁; w = e.number; x = g.number; told = told; same = same })
    (record { c = c₁; d = d₁; w = (extent_of e).w; x = (extent_of g).w; told = (extent_of e).has; same = test })
passing c₁ d₁ e g told same test p q =
    let w = stretched-w e.field e.number in
    let x = stretched-w g.field g.number in
    let h = p ∙ stretched-has e.field e.number in
    λ j. record { c = c₁; d = d₁; w = w j; x = x j; told = h j; same = q j }
