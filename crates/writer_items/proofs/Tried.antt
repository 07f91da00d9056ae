-- The loop that tests: one item, all of them, and what its end says of `fits`. Assumes nothing.
use mathlib.Core.Path.{◌≡◌, refl, sym, ap, ◌∙◌}
use Prim.Native.Nat.{ℕ, ◌+◌, ◌*◌, ◌^◌, ◌<◌, ◌≤◌}
use native.Mathlib.Nat.{mul-one}
use native.Mathlib.Omega.{arith}
use mathlib.Core.Bool.{Bool, true, false, cond, and-false}
use mathlib.Core.List.{List}
use lib.ListN.{length}
use lib.Dec.{leb}
use borrow.Author.Tests.{le-leb, lt-leb}
use Rattle.meaning.specs.States.{Cursor}
use Rattle.meaning.specs.declared.Item.{Item}
use Rattle.meaning.specs.Bytes.{small}
use Rattle.meaning.specs.Items.{cursor}
use Rattle.meaning.specs.Values.{Slot, beyond}
use Rattle.writer_forms.specs.Forms.{Form, form, fits_form, passes_end, list_bytes, form_next}
use Rattle.writer_items.specs.Tries.{unfit, fits_item, good, try_item, most_bytes}
use Rattle.writer_items.specs.Fitting.{inside-source, fits-is, next-is, passes-is, width-most, name-lists}

-- ---- one item

module _ (src : List ℕ) (i : Item) (s : Slot) (c : Cursor) where
  pub try-beyond : beyond src i s ≡ true → unfit ≡ try_item src i s c
  unfolding try_item good
  try-beyond o = rw (o, and-false (fits_item src i s c))

  module _ (bytes_only : small src ≡ true) (narrow : s.num < 2 ^ 64) (o : beyond src i s ≡ false) where
    pub try-misfit : fits_form (form i c s) src s ≡ false → unfit ≡ try_item src i s c
    unfolding try_item good
    try-misfit f = rw (fits-is i c src s bytes_only narrow o, f)

    pub try-fit : fits_form (form i c s) src s ≡ true
        → cond (leb (form_next (form i c s) s c).at most_bytes) (form_next (form i c s) s c) unfit ≡ try_item src i s c
    unfolding try_item good
    try-fit f = rw (fits-is i c src s bytes_only narrow o, f, o, next-is i c src s f o)

-- ---- the place after it, as the code adds it up

module _ (f : Form) (s : Slot) (c : Cursor) (bytes : ℕ) (e : bytes ≡ list_bytes f s) where
  pub past_end : most_bytes < c.at + (f.width + bytes + f.pad) → unfit ≡ cond (leb (form_next f s c).at most_bytes) (form_next f s c) unfit
  unfolding form_next
  past_end h = rw (lt-leb (c.at + (f.width + list_bytes f s + f.pad)) most_bytes (omega (arith, h, e)))

  pub before-end : c.at + (f.width + bytes + f.pad) ≤ most_bytes
      → cursor (c.at + (f.width + bytes + f.pad)) f.n f.old c.why ≡ cond (leb (form_next f s c).at most_bytes) (form_next f s c) unfit
  unfolding form_next
  before-end h =
      rw (le-leb (c.at + (f.width + list_bytes f s + f.pad)) most_bytes (omega (arith, h, e)))
      (ap (λ (n : ℕ). cursor (c.at + (f.width + n + f.pad)) f.n f.old c.why) e)

pub list_on : (f : Form) (s : Slot) → f.list ≡ true → s.count * f.unit ≡ list_bytes f s
unfolding list_bytes
list_on f s e = rw e

pub list-off : (f : Form) (s : Slot) → f.list ≡ false → 0 ≡ list_bytes f s
unfolding list_bytes
list-off f s e = rw e

pub bytes-few : (f : Form) (s : Slot) → (f.list ≡ true → s.count * f.unit < 2 ^ 63) → list_bytes f s < 2 ^ 63
unfolding list_bytes
bytes-few f s h = go f.list h
  where
    go : (t : Bool) → (t ≡ true → s.count * f.unit < 2 ^ 63) → cond t (s.count * f.unit) 0 < 2 ^ 63
    go true h = h refl
    go false h = omega arith

-- the form that the code has is the item's
module _ (i : Item) (c : Cursor) (s : Slot) (src : List ℕ) (f : Form) (e : f ≡ form i c s) where
  pub beyond-by : (r : Bool) → r ≡ passes_end src f.list f.unit s.place s.count → beyond src i s ≡ r
  beyond-by r h = passes-is i c src s ∙ ap (λ (g : Form). passes_end src g.list g.unit s.place s.count) (sym e) ∙ sym h

  pub width-by : f.width ≤ 8
  width-by = rw e (width-most i c s)

  module _ (r : Bool) (h : r ≡ passes_end src f.list f.unit s.place s.count) (o : r ≡ false) where
    pub inside-by : f.list ≡ true → s.place + s.count * f.unit ≤ length src
    inside-by l = inside-source f src s (sym h ∙ o) l

    pub name_by : f.name ≡ true → s.place + s.count ≤ length src
    name_by n =
        let p = name-lists i c s (ap (λ (g : Form). g.name) (sym e) ∙ n) in
        let l : f.list ≡ true = ap (λ (g : Form). g.list) e ∙ p.0 in
        let u : f.unit ≡ 1 = ap (λ (g : Form). g.unit) e ∙ p.1 in
        let q : s.place + s.count * f.unit ≤ length src = inside-by l in
        let m : s.count * f.unit ≡ s.count = ap (λ (k : ℕ). s.count * k) u ∙ mul-one s.count in
        omega (arith, q, m)
