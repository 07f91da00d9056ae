-- Laws of one item's tests, as the code makes them. Assumes nothing.
use mathlib.Core.Path.{◌≡◌, refl, sym, ap, ap₂, ◌∙◌}
use Prim.Native.Nat.{ℕ, suc, ◌+◌, ◌-◌, ◌*◌, ◌/◌, ◌%◌, ◌<◌, ◌≤◌}
use native.Mathlib.Omega.{arith}
use mathlib.Core.Bool.{Bool, true, false, cond, not, ◌&&◌, ◌||◌}
use mathlib.Core.List.{List, [], ◌∷◌}
use lib.ListN.{length, take, drop}
use lib.Dec.{leb, eqb, ltb, eqb-suc-suc, eqb-zero-suc}
use borrow.Author.Tests.{leb-true, leb-false, ltb-true, lt-ltb, le-ltb}
use Rattle.meaning.specs.declared.Width.{Width}
use Rattle.meaning.specs.Items.{bytes}
use Rattle.meaning.specs.Bytes.{zero_in, nonzero}
use Rattle.meaning.specs.Values.{Slot}
use Rattle.laws.specs.Shapes.{within, over}
use Rattle.writer_forms.specs.Forms.{form_of, fits_form, passes_end}
use Rattle.writer_forms.specs.declared.Content.{Content}
use Rattle.writer_forms.specs.declared.Content.TheVariants.{Blank, Number as NumberContent, List as ListContent, Name as NameContent}
use Rattle.writer_forms.specs.declared.Form.{Form as CodeForm}
use Rattle.writer_items.specs.Fitting.{same_test, zero_test}

-- ---- 41, as the code tests it

module _ (src : List ℕ) (list : Bool) (unit place count : ℕ) where
  pub passes-off : list ≡ false → false ≡ passes_end src list unit place count
  unfolding passes_end
  passes-off e = rw e

  pub passes-far : list ≡ true → length src < place → true ≡ passes_end src list unit place count
  unfolding passes_end
  passes-far e h = rw (e, lt-ltb (length src) (place + count * unit) (omega arith))

  pub passes_none : list ≡ true → place ≤ length src → unit ≡ 0 → false ≡ passes_end src list unit place count
  unfolding passes_end
  passes_none e h z = rw (e, z) (sym (le-ltb (length src) (place + count * 0) (omega arith)))

  pub passes-by : list ≡ true → place ≤ length src → 0 < unit → ltb ((length src - place) / unit) count ≡ passes_end src list unit place count
  unfolding passes_end
  passes-by e h z =
      rw e (same_test (ltb ((length src - place) / unit) count) (ltb (length src) (place + count * unit))
      (λ t. lt-ltb (length src) (place + count * unit) (let o = over count unit (length src - place) z (ltb-true ((length src - place) / unit) count t) in omega (arith, o, h)))
      (λ t. lt-ltb ((length src - place) / unit) count (go t (leb count ((length src - place) / unit)) refl)))
    where
      go : ltb (length src) (place + count * unit) ≡ true → (b : Bool) → leb count ((length src - place) / unit) ≡ b → (length src - place) / unit < count
      go t true g =
          let w = within count unit (length src - place) z (leb-true count ((length src - place) / unit) g) in
          let l = ltb-true (length src) (place + count * unit) t in
          absurd (omega (arith, w, l, h))
      go t false g = leb-false count ((length src - place) / unit) g

-- ---- a name

pub no-zeros : (l : List ℕ) → eqb (zero_in l) (length l) ≡ nonzero l
unfolding zero_in nonzero
no-zeros [] = refl
no-zeros (x ∷ l) = go (eqb x 0) refl (no-zeros l)
  where
    go : (t : Bool) → eqb x 0 ≡ t → eqb (zero_in l) (length l) ≡ nonzero l
        → eqb (cond (eqb x 0) 0 (suc (zero_in l))) (suc (length l)) ≡ not (eqb x 0) && nonzero l
    go true e h = rw e (eqb-zero-suc (length l))
    go false e h = rw e (eqb-suc-suc (zero_in l) (length l) ∙ h)

-- ---- the whole test of a form, by its content

two : (a b : Bool) → a && b ≡ (a && true) && (b && true)
two true true = refl
two true false = refl
two false b = refl

or-less : (a b : Bool) → a && b ≡ a && (b || false)
or-less true true = refl
or-less true false = refl
or-less false b = refl

three : (a b n : Bool) → (a && b) && n ≡ (a && true) && ((b || false) && n)
three true true n = refl
three true false n = refl
three false b n = refl

ruled : (a b c : Bool) (eights : Bool) → (a && (not eights || c)) && b ≡ (a && cond eights c true) && ((b || false) && true)
ruled true true true true = refl
ruled true true false true = refl
ruled true false true true = refl
ruled true false false true = refl
ruled true true c false = refl
ruled true false c false = refl
ruled false b c eights = refl

module _ (f : CodeForm) (src : List ℕ) (s : Slot) where
  with_content : (k : Content) → f.content ≡ k
      → fits_form (form_of (record { content = k; pad = f.pad; n = f.n; old = f.old })) src s ≡ fits_form (form_of f) src s
  with_content k e = ap (λ (x : Content). fits_form (form_of (record { content = x; pad = f.pad; n = f.n; old = f.old })) src s) (sym e)

  pub fits_blank : f.content ≡ Blank → eqb s.num 0 && eqb s.count 0 ≡ fits_form (form_of f) src s
  unfolding fits_form
  fits_blank e =
      or-less (eqb s.num 0) (eqb s.count 0) ∙ two (eqb s.num 0) (eqb s.count 0 || false)
      ∙ ap (λ (b : Bool). (b && true) && ((eqb s.count 0 || false) && true)) (zero_test s.num) ∙ with_content Blank e

  pub fits_number : (width : Width) (top : ℕ) (eights : Bool) (w : ℕ) → f.content ≡ NumberContent width top eights → w ≡ bytes width
      → (leb s.num top && (not eights || eqb ((s.num % 8 + w % 8) % 8) 0)) && eqb s.count 0 ≡ fits_form (form_of f) src s
  unfolding fits_form
  fits_number width top eights w e q =
      let over : (s.num % 8 + w % 8) % 8 ≡ (s.num + bytes width) % 8 = omega (arith, q) in
      ap (λ (n : ℕ). (leb s.num top && (not eights || eqb n 0)) && eqb s.count 0) over
      ∙ ruled (leb s.num top) (eqb s.count 0) (eqb ((s.num + bytes width) % 8) 0) eights ∙ with_content (NumberContent width top eights) e

  pub fits_list : (unit want : ℕ) → f.content ≡ ListContent unit want → eqb s.num 0 && (eqb s.count want || eqb unit 0) ≡ fits_form (form_of f) src s
  unfolding fits_form
  fits_list unit want e =
      two (eqb s.num 0) (eqb s.count want || eqb unit 0)
      ∙ ap (λ (b : Bool). (b && true) && ((eqb s.count want || eqb unit 0) && true)) (zero_test s.num) ∙ with_content (ListContent unit want) e

  pub fits_name : (want : ℕ) (none : Bool) → f.content ≡ NameContent want → none ≡ nonzero (take s.count (drop s.place src))
      → (eqb s.num 0 && eqb s.count want) && none ≡ fits_form (form_of f) src s
  unfolding fits_form
  fits_name want none e n =
      three (eqb s.num 0) (eqb s.count want) none
      ∙ ap₂ (λ (b z : Bool). (b && true) && ((eqb s.count want || false) && z)) (zero_test s.num) n ∙ with_content (NameContent want) e
