-- Straight code that tests items one after the other: what each piece leaves, and how two pieces join. Assumes nothing.
use Rattle.std.specs.Prelude.{◌≡◌, refl, Bool, true, false, List, [], ◌∷◌, ◌++◌, ℕ, ◌+◌, ◌≤◌}
use Rattle.std.proofs.Common.{sym, ap, ◌∙◌, subst, append_assoc, add-zero, arith}
use Rattle.laws.specs.Bytes.{apart}
use Rattle.meaning.specs.States.{Cursor}
use Rattle.meaning.specs.declared.Item.{Item}
use Rattle.meaning.specs.declared.Shape.{Shape}
use Rattle.meaning.specs.Items.{cursor}
use Rattle.meaning.specs.Schema.{item}
use Rattle.meaning.specs.Writing.{write}
use Rattle.meaning.specs.Values.{Slot, means, width}
use Rattle.fills.specs.Chains.{width-append}
use Rattle.meaning.specs.declared.Spot.{Spot}
use Rattle.writer_items.specs.Tries.{unfit, most_bytes}
use Rattle.writer_parts.specs.Parts.{try_items, slots_from}
use Rattle.write_fits.specs.declared.Walked.{Walked}

abbrev pub walked : ℕ → ℕ → ℕ → ℕ → ℕ → Bool → Walked
walked at n old told before bad = record { at = at; n = n; old = old; told = told; before = before; bad = bad }

abbrev pub refused : Walked → Walked
refused c = walked c.at c.n c.old c.told c.before true

-- the writer's state, and how far the words are told, where the next word is w
abbrev pub state_of : Walked → Cursor
state_of c = cursor c.at c.n c.old 0

abbrev pub told_to : ℕ → Walked → Spot
told_to w c = record { at = w; n = c.told; old = c.before }

-- the slots of items whose words begin at w, the walk over them, and their bytes
abbrev pub slots_at : List ℕ → List Item → ℕ → Walked → List Slot
slots_at ws is w c = slots_from is (told_to w c) ws

unfoldable pub try_from : List ℕ → List ℕ → List Item → ℕ → Walked → Cursor
try_from src ws is w c = try_items src is (slots_at ws is w c) (state_of c)

unfoldable pub write_from : List ℕ → List ℕ → List Item → ℕ → Walked → List ℕ
write_from src ws is w c = write is (means src is (slots_at ws is w c)) (state_of c)

-- past items that fit the walk is what is still to come; a refusal is the walk's, whatever is still to come
pub record Tried (is : List Item) (src ws : List ℕ) (w : ℕ) (c c' : Walked) : Type 0 where
  pub place : c'.at ≤ most_bytes
  pub kept : c'.bad ≡ false → c.bad ≡ false
  pub fits : c'.bad ≡ false → (js : List Item) → try_from src ws (is ++ js) w c ≡ try_from src ws js (w + width is) c'
  pub misfits : c.bad ≡ false → c'.bad ≡ true → (js : List Item) → try_from src ws (is ++ js) w c ≡ unfit

-- ---- one piece after the other

pub tried-none : {src ws : List ℕ} {w : ℕ} {c : Walked} → c.at ≤ most_bytes → Tried [] src ws w c c
unfolding width
tried-none {src} {ws} {w} {c} h = record {
  place = h;
  kept = λ e. e;
  fits = λ e js. ap (λ (k : ℕ). try_from src ws js k c) (sym (add-zero w));
  misfits = λ e f. absurd-by (sym e ∙ f);
}
  where
    absurd-by : {A : Type 0} → false ≡ true → A
    absurd-by e = absurd (apart e)

pub tried-join : (is js : List Item) {src ws : List ℕ} {w : ℕ} {c c₁ c₂ : Walked} → Tried is src ws w c c₁ → Tried js src ws (w + width is) c₁ c₂
    → Tried (is ++ js) src ws w c c₂
tried-join is js {src} {ws} {w} {c} {c₁} {c₂} t u = record {
  place = u.place;
  kept = λ e. t.kept (u.kept e);
  fits = λ e ks.
      ap (λ (l : List Item). try_from src ws l w c) (append_assoc is js ks)
      ∙ t.fits (u.kept e) (js ++ ks) ∙ u.fits e ks ∙ ap (λ (k : ℕ). try_from src ws ks k c₂) further;
  misfits = λ e f ks. ap (λ (l : List Item). try_from src ws l w c) (append_assoc is js ks) ∙ go e f ks c₁.bad refl;
}
  where
    further : w + width is + width js ≡ w + width (is ++ js)
    further = let h = width-append is js in omega (arith, h)

    go : c.bad ≡ false → c₂.bad ≡ true → (ks : List Item) (b : Bool) → c₁.bad ≡ b → try_from src ws (is ++ (js ++ ks)) w c ≡ unfit
    go e f ks true h = t.misfits e h (js ++ ks)
    go e f ks false h = t.fits h (js ++ ks) ∙ u.misfits h f ks

-- two pieces whose lists their facts have
pub tried_then : {is js : List Item} {src ws : List ℕ} {w : ℕ} {c c₁ c₂ : Walked} → Tried is src ws w c c₁ → Tried js src ws (w + width is) c₁ c₂
    → Tried (is ++ js) src ws w c c₂
tried_then {is} {js} t u = tried-join is js t u

-- of equal lists
pub tried-as : {is js : List Item} {src ws : List ℕ} {w : ℕ} {c c' : Walked} → is ≡ js → Tried is src ws w c c' → Tried js src ws w c c'
tried-as {is} {js} {src} {ws} {w} {c} {c'} e t = subst (λ (l : List Item). Tried l src ws w c c') e t

-- one item more, whose guard was found by the code
pub tried-next : {on t : Bool} {sh : Shape} {is : List Item} {src ws : List ℕ} {w : ℕ} {c c₁ c₂ : Walked} → t ≡ on → Tried is src ws w c c₁
    → Tried (item t sh ∷ []) src ws (w + width is) c₁ c₂ → Tried (is ++ (item on sh ∷ [])) src ws w c c₂
tried-next {on} {t} {sh} {is} {src} {ws} {w} {c} {c₁} {c₂} e u v =
    tried-join is (item on sh ∷ []) u (subst (λ (b : Bool). Tried (item b sh ∷ []) src ws (w + width is) c₁ c₂) e v)
