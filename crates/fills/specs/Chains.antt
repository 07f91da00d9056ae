-- Straight code that fills the words of items one after the other: what it asks for, what it leaves, and how two pieces join. Assumes nothing.
use Rattle.std.specs.Prelude.{◌≡◌, refl, Bool, List, [], ◌∷◌, ◌++◌, ℕ, ◌+◌, ◌-◌, ◌≤◌, length, take, drop}
use Rattle.std.proofs.Common.{sym, ap, ap₂, ◌∙◌, subst, append_assoc, add-zero, arith, drop_at, drop-drop}
use Rattle.meaning.specs.States.{Cursor}
use Rattle.meaning.specs.declared.Item.{Item}
use Rattle.meaning.specs.declared.Shape.{Shape}
use Rattle.meaning.specs.Bytes.{put, zeros}
use Rattle.meaning.specs.Items.{step, walk}
use Rattle.meaning.specs.Schema.{item}
use Rattle.meaning.specs.Values.{slot_item, tell, words_of, width, words}
use Rattle.laws.specs.Again.{fine}
use Rattle.laws.specs.Put.{put-nil, put-put, put-fits, length-put, length-head}
use Rattle.laws.specs.Told.{words-length, drop-zeros}

-- the items are accepted from the cursor on, their words fit from `at` on, and from there on the words are zero: a field that is not selected
-- is left as it is
pub record Ready (is : List Item) (xs : List ℕ) (c : Cursor) (d : List ℕ) (at : ℕ) : Type 0 where
  pub fine : (walk xs is c).why ≡ 0
  pub space : at + width is ≤ length d
  pub clear : drop at d ≡ zeros (length d - at)

-- the items' words are put, and the cursor is past them
pub record Filling (is : List Item) (xs : List ℕ) (c : Cursor) (d : List ℕ) (at : ℕ) (d' : List ℕ) (c' : Cursor) : Type 0 where
  pub put_is : d' ≡ put d at (words xs is c)
  pub walk_is : c' ≡ walk xs is c

-- no word more, and none less
pub long : {is : List Item} {xs : List ℕ} {c : Cursor} {d : List ℕ} {at : ℕ} {d' : List ℕ} {c' : Cursor} → Filling is xs c d at d' c' → length d' ≡ length d
long {is} {xs} {c} {d} {at} f = ap length f.put_is ∙ length-put d at (words xs is c)

-- of equal lists
pub ready-as : {is js : List Item} {xs : List ℕ} {c : Cursor} {d : List ℕ} {at : ℕ} → is ≡ js → Ready is xs c d at → Ready js xs c d at
ready-as {is} {js} {xs} {c} {d} {at} e r = subst (λ (l : List Item). Ready l xs c d at) e r

pub filling-as : {is js : List Item} {xs : List ℕ} {c : Cursor} {d : List ℕ} {at : ℕ} {d' : List ℕ} {c' : Cursor} → is ≡ js
    → Filling is xs c d at d' c' → Filling js xs c d at d' c'
filling-as {is} {js} {xs} {c} {d} {at} {d'} {c'} e f = subst (λ (l : List Item). Filling l xs c d at d' c') e f

-- ---- the words of two lists of items

walk-append : (xs : List ℕ) (is js : List Item) (c : Cursor) → walk xs (is ++ js) c ≡ walk xs js (walk xs is c)
unfolding walk
walk-append xs [] js c = refl
walk-append xs (i ∷ is) js c = walk-append xs is js (step xs i c)

words_append : (xs : List ℕ) (is js : List Item) (c : Cursor) → words xs (is ++ js) c ≡ words xs is c ++ words xs js (walk xs is c)
unfolding words walk
words_append xs [] js c = refl
words_append xs (i ∷ is) js c =
    ap (λ (l : List ℕ). tell i.shape (slot_item xs i c) ++ l) (words_append xs is js (step xs i c))
    ∙ sym (append_assoc (tell i.shape (slot_item xs i c)) (words xs is (step xs i c)) (words xs js (walk xs is (step xs i c))))

pub width-append : (is js : List Item) → width (is ++ js) ≡ width is + width js
unfolding width
width-append [] js = omega arith
width-append (i ∷ is) js = let h = width-append is js in omega (arith, h)

-- what stands behind what was put is as it was
put-behind : (d : List ℕ) (at : ℕ) (s : List ℕ) → at + length s ≤ length d → drop (at + length s) (put d at s) ≡ drop (at + length s) d
put-behind d at s h = ap (drop (at + length s)) (put-fits d at s h) ∙ drop_at (take at d ++ s) (drop (at + length s) d) (at + length s) (length-head d at s (omega arith))

-- ---- one piece after the other, up to the words D and the cursor C

pub record Going (is : List Item) (xs : List ℕ) (c : Cursor) (d : List ℕ) (at : ℕ) (D : List ℕ) (C : Cursor) : Type 0 where
  pub ready : Ready is xs c d at
  pub same : put d at (words xs is c) ≡ D
  pub ends : walk xs is c ≡ C

pub start : {is : List Item} {xs : List ℕ} {c : Cursor} {d : List ℕ} {at : ℕ} → Ready is xs c d at → Going is xs c d at (put d at (words xs is c)) (walk xs is c)
start r = record { ready = r; same = refl; ends = refl }

pub done : {xs : List ℕ} {c : Cursor} {d : List ℕ} {at : ℕ} {is : List Item} {c₀ : Cursor} {d₀ : List ℕ} {at₀ : ℕ}
    → Going [] xs c d at (put d₀ at₀ (words xs is c₀)) (walk xs is c₀) → Filling is xs c₀ d₀ at₀ d c
unfolding words walk
done {xs} {c} {d} {at} g = let s = g.ready.space in record { put_is = sym (put-nil d at (omega (arith, s))) ∙ g.same; walk_is = g.ends }

module _ (is js : List Item) {xs : List ℕ} {c : Cursor} {d : List ℕ} {at : ℕ} {D : List ℕ} {C : Cursor} (g : Going (is ++ js) xs c d at D C) where
  pub head : Ready is xs c d at
  head = record {
    fine = fine xs js (walk xs is c) (ap (λ (e : Cursor). e.why) (sym (walk-append xs is js c)) ∙ g.ready.fine);
    space = let s = g.ready.space in let w = width-append is js in omega (arith, s, w);
    clear = g.ready.clear;
  }

  pub next : {d' : List ℕ} {c' : Cursor} → Filling is xs c d at d' c' → Going js xs c' d' (at + width is) D C
  next {d'} {c'} f =
      let W : List ℕ = words xs is c in
      let X : List ℕ = words xs js (walk xs is c) in
      let s = g.ready.space in
      let w = width-append is js in
      let l : length W ≡ width is = words-length is xs c in
      let m : length X ≡ width js = words-length js xs (walk xs is c) in
      let n : length d' ≡ length d = ap length f.put_is ∙ length-put d at W in
      let z : length d - at - length W ≡ length d' - (at + width is) = omega (arith, n, l) in
      record {
        ready = record {
          fine = ap (λ (e : Cursor). (walk xs js e).why) f.walk_is ∙ ap (λ (e : Cursor). e.why) (sym (walk-append xs is js c)) ∙ g.ready.fine;
          space = omega (arith, s, w, n);
          clear =
              ap (λ (k : ℕ). drop (at + k) d') (sym l)
              ∙ ap (drop (at + length W)) f.put_is
              ∙ put-behind d at W (omega (arith, s, w, l))
              ∙ sym (drop-drop (length W) at d)
              ∙ ap (drop (length W)) g.ready.clear
              ∙ drop-zeros (length W) (length d - at)
              ∙ ap zeros z;
        };
        same =
            ap₂ (λ (k : ℕ) (e : Cursor). put d' (at + k) (words xs js e)) (sym l) f.walk_is
            ∙ ap (λ (b : List ℕ). put b (at + length W) X) f.put_is
            ∙ put-put d at W X (omega (arith, s, w, l, m))
            ∙ ap (put d at) (sym (words_append xs is js c))
            ∙ g.same;
        ends = ap (walk xs js) f.walk_is ∙ sym (walk-append xs is js c) ∙ g.ends;
      }

-- the last piece is all that is left
pub last : {is js : List Item} {xs : List ℕ} {c c₀ c' : Cursor} {d d₀ d' : List ℕ} {at at₀ : ℕ} → Going is xs c d at (put d₀ at₀ (words xs js c₀)) (walk xs js c₀)
    → Filling is xs c d at d' c' → Filling js xs c₀ d₀ at₀ d' c'
last g f = record { put_is = f.put_is ∙ g.same; walk_is = f.walk_is ∙ g.ends }

-- ---- one item, whose guard was found by the code

module _ {on t : Bool} {sh : Shape} {is : List Item} {xs : List ℕ} {c : Cursor} {d : List ℕ} {at : ℕ} {D : List ℕ} {C : Cursor}
    (e : t ≡ on) (g : Going (item on sh ∷ is) xs c d at D C) where
  as-found : Going ((item t sh ∷ []) ++ is) xs c d at D C
  as-found = rw e g

  pub head₁ : Ready (item t sh ∷ []) xs c d at
  head₁ = head (item t sh ∷ []) is as-found

  pub next₁ : {d' : List ℕ} {c' : Cursor} → Filling (item t sh ∷ []) xs c d at d' c' → Going is xs c' d' (at + words_of sh) D C
  unfolding width
  next₁ f = rw (sym (add-zero (words_of sh))) (next (item t sh ∷ []) is as-found f)
