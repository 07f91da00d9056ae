-- One item, as straight code tests it: the state after it where it fits, else a refusal. Assumes nothing.
use Rattle.std.specs.Prelude.{◌≡◌, Bool, not, ◌&&◌, ◌||◌, ℕ, ◌+◌, ◌-◌, ◌*◌, ◌%◌, ◌^◌, ◌<◌, ◌≤◌, length, take, drop, get_or, leb, eqb, ltb}
use Rattle.std.proofs.Math.Path.{refl, ap, ap₂, subst}
use Rattle.std.proofs.Common.{sym, ◌∙◌, add-zero, mul-le-mul_left, get_or-drop, leb-true, le-leb, ltb-true, ltb-false, lt-ltb, le-ltb, eq-eqb, ne_eqb}
use Rattle.std.proofs.Math.Bool.{true, false, cond, and-false, or-false}
use mathlib.Core.List.{List, [], ◌∷◌}
use native.Mathlib.Omega.{arith}
use Rattle.std.proofs.lemmas.Bool.{lt-leb, not-true}
use Rattle.meaning.specs.States.{Cursor}
use Rattle.meaning.specs.declared.Item.{Item}
use Rattle.meaning.specs.declared.Shape.{Shape}
use Rattle.meaning.specs.declared.Shape.TheVariants.{Number, Ignored, Count, Size, Times, Earlier, Registers, Filled, Abi, Limit, Listed, Bytes, Pad, Name}
use Rattle.meaning.specs.Bytes.{small, nonzero}
use Rattle.meaning.specs.Schema.{item}
use Rattle.meaning.specs.Writing.{next}
use Rattle.meaning.specs.Values.{Slot, slot, held, beyond, words_of, width, slot_told, slot_off, last_told, before_told}
use Rattle.laws.specs.Bytes.{apart, and-true}
use Rattle.writer_words.specs.Tellings.{given_slot, reached_after}
use Rattle.writer_forms.specs.Forms.{Form, shape_form, form, blank_form, number_form, list_form, name_form, fits_form, passes_end, list_bytes, form_next}
use Rattle.writer_items.specs.Tries.{unfit, fits_item, good, most_bytes}
use Rattle.writer_items.specs.Fitting.{same_test, zero_test, fits-is, next-is, passes-is}
use Rattle.writer_parts.specs.Parts.{try_items, slots_from}
use Rattle.writer_parts.specs.Turns.{slots_next}
use Rattle.write_fits.specs.declared.Walked.{Walked}
use Rattle.write_fits.specs.Steps.{walked, refused, state_of, told_to, try_from, Tried}

-- a slot fits its form at a state, and its item ends where a record may
unfoldable pub ok_form : Form → List ℕ → Slot → Cursor → Bool
ok_form f src s c = (not (passes_end src f.list f.unit s.place s.count) && fits_form f src s) && leb (form_next f s c).at most_bytes

pub good-is : (src : List ℕ) (i : Item) (s : Slot) (c : Cursor) → small src ≡ true → s.num < 2 ^ 64 → good src i s c ≡ ok_form (form i c s) src s c
unfolding good ok_form
good-is src i s c b n = go (beyond src i s) refl
  where
    f : Form
    f = form i c s

    fitting : beyond src i s ≡ false → (t : Bool) → fits_form f src s ≡ t → t && leb (next i (held src i s) c).at most_bytes ≡ t && leb (form_next f s c).at most_bytes
    fitting o true h = ap (λ (x : Cursor). leb x.at most_bytes) (next-is i c src s h o)
    fitting o false h = refl

    go : (o : Bool) → beyond src i s ≡ o → fits_item src i s c && (not (beyond src i s) && leb (next i (held src i s) c).at most_bytes)
        ≡ (not (passes_end src f.list f.unit s.place s.count) && fits_form f src s) && leb (form_next f s c).at most_bytes
    go true e = rw (e, sym (passes-is i c src s)) (rw e (and-false (fits_item src i s c)))
    go false e = rw (sym (passes-is i c src s), e) (rw (fits-is i c src s b n e) (fitting e (fits_form f src s) refl))

-- ---- one item

no_false : {A : Type 0} → false ≡ true → A
no_false e = absurd (apart e)

-- what a slot that fits says
pub ok-parts : (f : Form) (src : List ℕ) (s : Slot) (c : Cursor) → ok_form f src s c ≡ true
    → (passes_end src f.list f.unit s.place s.count ≡ false) × (fits_form f src s ≡ true) × ((form_next f s c).at ≤ most_bytes)
unfolding ok_form
ok-parts f src s c h =
    let p = and-true (not (passes_end src f.list f.unit s.place s.count) && fits_form f src s) (leb (form_next f s c).at most_bytes) h in
    let q = and-true (not (passes_end src f.list f.unit s.place s.count)) (fits_form f src s) p.0 in
    (not-true (passes_end src f.list f.unit s.place s.count) q.0, q.1, leb-true (form_next f s c).at most_bytes p.1)

module _ (i : Item) (src ws : List ℕ) (w : ℕ) (c : Walked) where
  abbrev pub slot_here : Slot
  slot_here = given_slot ws (told_to w c) i

  abbrev pub form_here : Form
  form_here = form i (state_of c) slot_here

  abbrev pub past_here : Walked
  past_here =
      walked (form_next form_here slot_here (state_of c)).at form_here.n form_here.old (reached_after ws (told_to w c) i).n (reached_after ws (told_to w c) i).old c.bad

  abbrev pub fits_here : Bool
  fits_here = ok_form form_here src slot_here (state_of c)

  module _ (bytes_only : small src ≡ true) (narrow : slot_here.num < 2 ^ 64) where
    walk-one : (js : List Item) → try_from src ws (i ∷ js) w c ≡ cond (good src i slot_here (state_of c))
        (try_items src js (slots_from js (reached_after ws (told_to w c) i) ws) (next i (held src i slot_here) (state_of c))) unfit
    unfolding try_from try_items
    walk-one js = ap (λ (ss : List Slot). try_items src (i ∷ js) ss (state_of c)) (slots_next i js (told_to w c) ws)

    good-here : good src i slot_here (state_of c) ≡ fits_here
    good-here = good-is src i slot_here (state_of c) bytes_only narrow

    pub walk-fits : fits_here ≡ true → (js : List Item) → try_from src ws (i ∷ js) w c ≡ try_from src ws js (w + words_of i.shape) past_here
    unfolding try_from form_next
    walk-fits h js =
        let p = ok-parts form_here src slot_here (state_of c) h in
        walk-one js
        ∙ ap (λ (b : Bool). cond b (try_items src js (slots_from js (reached_after ws (told_to w c) i) ws) (next i (held src i slot_here) (state_of c))) unfit) (good-here ∙ h)
        ∙ ap (λ (x : Cursor). try_items src js (slots_from js (reached_after ws (told_to w c) i) ws) x)
        (next-is i (state_of c) src slot_here p.1 (passes-is i (state_of c) src slot_here ∙ p.0))

    pub walk-misfits : fits_here ≡ false → (js : List Item) → try_from src ws (i ∷ js) w c ≡ unfit
    walk-misfits h js =
        walk-one js
        ∙ ap (λ (b : Bool). cond b (try_items src js (slots_from js (reached_after ws (told_to w c) i) ws) (next i (held src i slot_here) (state_of c))) unfit) (good-here ∙ h)

    pub tried-one : {c' : Walked} → c.at ≤ most_bytes → c' ≡ cond fits_here past_here (refused c) → Tried (i ∷ []) src ws w c c'
    unfolding width
    tried-one {c'} m e = go fits_here refl
      where
        go : (b : Bool) → fits_here ≡ b → Tried (i ∷ []) src ws w c c'
        go true h =
            let q : c' ≡ past_here = e ∙ ap (λ (b : Bool). cond b past_here (refused c)) h in
            let p = ok-parts form_here src slot_here (state_of c) h in
            subst (λ (x : Walked). Tried (i ∷ []) src ws w c x) (sym q) (record {
              place = p.2;
              kept = λ b. b;
              fits = λ b js. walk-fits h js ∙ ap (λ (k : ℕ). try_from src ws js (w + k) past_here) (sym (add-zero (words_of i.shape)));
              misfits = λ b d. no_false (sym b ∙ d);
            })
        go false h =
            let q : c' ≡ refused c = e ∙ ap (λ (b : Bool). cond b past_here (refused c)) h in
            subst (λ (x : Walked). Tried (i ∷ []) src ws w c x) (sym q) (record {
              place = m;
              kept = λ b. no_false (sym b);
              fits = λ b. no_false (sym b);
              misfits = λ b d js. walk-misfits h js;
            })

-- ---- by shapes

-- what the words give of an item of this shape, selected or not
abbrev pub slot_on : Shape → List ℕ → ℕ → Walked → Slot
slot_on sh ws w c = slot_told sh c.told c.before (drop w ws)

abbrev pub slot_none : Shape → List ℕ → ℕ → Slot
slot_none sh ws w = slot_off sh (drop w ws)

abbrev pub form_on : Shape → List ℕ → ℕ → Walked → Form
form_on sh ws w c = shape_form sh (state_of c) (slot_on sh ws w c)

-- past it, and whether it fits
abbrev pub past_on : Shape → List ℕ → ℕ → Walked → Walked
past_on sh ws w c =
    walked (form_next (form_on sh ws w c) (slot_on sh ws w c) (state_of c)).at (form_on sh ws w c).n (form_on sh ws w c).old
    (last_told sh c.told (get_or (drop w ws) 0 0)) (before_told sh c.told c.before) c.bad

abbrev pub ok_on : Shape → List ℕ → List ℕ → ℕ → Walked → Bool
ok_on sh src ws w c = ok_form (form_on sh ws w c) src (slot_on sh ws w c) (state_of c)

-- the words of a slice are numbers of 64 bits
abbrev pub Narrow : List ℕ → Type 0
Narrow ws = (k : ℕ) → get_or ws k 0 < 2 ^ 64

pub num-narrow : (sh : Shape) (ws : List ℕ) (n old k : ℕ) → Narrow ws → (slot_told sh n old (drop k ws)).num < 2 ^ 64
unfolding slot_told
num-narrow sh ws n old k h = narrow sh
  where
    first : get_or (drop k ws) 0 0 < 2 ^ 64
    first = subst (λ (x : ℕ). x < 2 ^ 64) (sym (get_or-drop k ws 0 0)) (h (k + 0))

    narrow : (x : Shape) → (slot_told x n old (drop k ws)).num < 2 ^ 64
    narrow (Number x) = first
    narrow (Ignored x) = omega arith
    narrow (Count x) = first
    narrow (Size x) = first
    narrow (Times x) = omega arith
    narrow (Earlier x) = omega arith
    narrow Registers = omega arith
    narrow Filled = first
    narrow (Abi x) = first
    narrow (Limit x) = first
    narrow (Listed x) = omega arith
    narrow (Bytes x) = omega arith
    narrow Pad = omega arith
    narrow Name = omega arith

-- nothing may stand in the words of an item that is not selected
blank_ok : (c : Walked) (src : List ℕ) (s : Slot) → c.at ≤ most_bytes → ok_form (blank_form (state_of c) 0) src s (state_of c) ≡ leb s.num 0 && eqb s.count 0
unfolding ok_form fits_form passes_end form_next list_bytes
blank_ok c src s m = ap (λ (b : Bool). ((leb s.num 0 && true) && ((eqb s.count 0 || false) && true)) && b) (le-leb (c.at + (0 + 0 + 0)) most_bytes (omega (arith, m))) ∙ go (leb s.num 0) (eqb s.count 0)
  where
    go : (a b : Bool) → ((a && true) && ((b || false) && true)) && true ≡ a && b
    go true true = refl
    go true false = refl
    go false b = refl

module _ {on : Bool} {sh : Shape} {src ws : List ℕ} {w : ℕ} {c c' : Walked} (bytes_only : small src ≡ true) (words : Narrow ws) (m : c.at ≤ most_bytes) where
  pub tried-on : on ≡ true → c' ≡ cond (ok_on sh src ws w c) (past_on sh ws w c) (refused c) → Tried (item on sh ∷ []) src ws w c c'
  unfolding form
  tried-on o e =
      subst (λ (b : Bool). Tried (item b sh ∷ []) src ws w c c') (sym o)
      (tried-one (item true sh) src ws w c bytes_only (num-narrow sh ws c.told c.before w words) m e)

  pub tried-off : on ≡ false → c' ≡ cond (leb (slot_none sh ws w).num 0 && eqb (slot_none sh ws w).count 0) c (refused c) → Tried (item on sh ∷ []) src ws w c c'
  unfolding form form_next list_bytes
  tried-off o e =
      let s : Slot = slot_none sh ws w in
      subst (λ (b : Bool). Tried (item b sh ∷ []) src ws w c c') (sym o)
      (tried-one (item false sh) src ws w c bytes_only (num-narrow sh ws 0 0 w words) m
      (e ∙ ap₂ (λ (b : Bool) (k : ℕ). cond b (walked k c.n c.old c.told c.before c.bad) (refused c)) (sym (blank_ok c src s m)) (sym (add-zero c.at))))

-- ---- by the kinds of forms

and-ones : (a b : Bool) → (a && b) && (true && true) ≡ a && b
and-ones true true = refl
and-ones true false = refl
and-ones false b = refl

-- a number of so many bytes, at most `top`
abbrev pub number_ok : ℕ → ℕ → Bool → ℕ → Walked → Bool
number_ok v width eights top c = (leb v top && cond eights (eqb ((v + width) % 8) 0) true) && leb (c.at + width) most_bytes

-- a list that lies in the source, as many elements as are wanted, and zero bytes after it
abbrev pub list_ok : ℕ → ℕ → ℕ → ℕ → ℕ → ℕ → Walked → Bool
list_ok room place count want unit pad c = (not (ltb room (place + count * unit)) && (eqb count want || eqb unit 0)) && leb (c.at + (count * unit + pad)) most_bytes

abbrev pub name_ok : List ℕ → ℕ → ℕ → ℕ → Walked → Bool
name_ok src place count pad c = (not (ltb (length src) (place + count * 1)) && nonzero (take count (drop place src))) && leb (c.at + (count * 1 + pad)) most_bytes

abbrev pub stay : ℕ → Walked → Walked
stay k c = walked (c.at + k) c.n c.old c.told c.before c.bad

pub number_ok_lem : (v width top n old : ℕ) (eights : Bool) (src : List ℕ) (c : Walked)
    → ok_form (number_form width top eights n old) src (slot v 0 0) (state_of c) ≡ number_ok v width eights top c
unfolding ok_form fits_form passes_end form_next list_bytes
number_ok_lem v width top n old eights src c =
    ap₂ (λ (a : Bool) (k : ℕ). a && leb (c.at + k) most_bytes) (and-ones (leb v top) (cond eights (eqb ((v + width) % 8) 0) true))
    (let e : width + 0 + 0 ≡ width = omega arith in e)

pub list-ok : (place count want unit pad : ℕ) (src : List ℕ) (c : Walked)
    → ok_form (list_form (state_of c) unit want pad) src (slot 0 place count) (state_of c) ≡ list_ok (length src) place count want unit pad c
unfolding ok_form fits_form passes_end form_next list_bytes
list-ok place count want unit pad src c =
    ap₂ (λ (b : Bool) (k : ℕ). (not (ltb (length src) (place + count * unit)) && b) && leb (c.at + k) most_bytes)
    (one (eqb count want || eqb unit 0)) (let e : 0 + count * unit + pad ≡ count * unit + pad = omega arith in e)
  where
    one : (b : Bool) → b && true ≡ b
    one true = refl
    one false = refl

pub name-ok : (place count pad : ℕ) (src : List ℕ) (c : Walked)
    → ok_form (name_form (state_of c) count pad) src (slot 0 place count) (state_of c) ≡ name_ok src place count pad c
unfolding ok_form fits_form passes_end form_next list_bytes
name-ok place count pad src c =
    ap₂ (λ (b : Bool) (k : ℕ). (not (ltb (length src) (place + count * 1)) && ((b || false) && nonzero (take count (drop place src)))) && leb (c.at + k) most_bytes)
    (eq-eqb count count refl) (let e : 0 + count * 1 + pad ≡ count * 1 + pad = omega arith in e)

pub pad-ok : (pad : ℕ) (src : List ℕ) (c : Walked) → ok_form (blank_form (state_of c) pad) src (slot 0 0 0) (state_of c) ≡ leb (c.at + pad) most_bytes
unfolding ok_form fits_form passes_end form_next list_bytes
pad-ok pad src c = ap (λ (k : ℕ). leb (c.at + k) most_bytes) (let e : 0 + 0 + pad ≡ pad = omega arith in e)

module _ {on : Bool} {sh : Shape} {src ws : List ℕ} {w : ℕ} {c c' : Walked} (bytes_only : small src ≡ true) (words : Narrow ws) (m : c.at ≤ most_bytes) (o : on ≡ true) where
  -- the state after it, where only the place of the form is spelled otherwise
  by_form : {f : Form} {s : Slot} {b : Bool} {at told before : ℕ} → form_on sh ws w c ≡ f → slot_on sh ws w c ≡ s → ok_form f src s (state_of c) ≡ b → (form_next f s (state_of c)).at ≡ at
      → last_told sh c.told (get_or (drop w ws) 0 0) ≡ told → before_told sh c.told c.before ≡ before
      → c' ≡ cond b (walked at f.n f.old told before c.bad) (refused c) → Tried (item on sh ∷ []) src ws w c c'
  by_form ef es eb ea et ep e = tried-on bytes_only words m o (e ∙ sym (rw (ef, es, eb, ea, et, ep)))

  by_number : {v width top n old told before : ℕ} {eights : Bool} → form_on sh ws w c ≡ number_form width top eights n old → slot_on sh ws w c ≡ slot v 0 0
      → last_told sh c.told (get_or (drop w ws) 0 0) ≡ told → before_told sh c.told c.before ≡ before
      → c' ≡ cond (number_ok v width eights top c) (walked (c.at + width) n old told before c.bad) (refused c) → Tried (item on sh ∷ []) src ws w c c'
  unfolding form_next list_bytes
  by_number {v} {width} {top} {n} {old} {told} {before} {eights} ef es et ep e =
      by_form ef es (number_ok_lem v width top n old eights src c) (let q : c.at + (width + 0 + 0) ≡ c.at + width = omega arith in q) et ep e

  pub by-plain : {v width top n old told before t k : ℕ} → form_on sh ws w c ≡ number_form width top false n old → slot_on sh ws w c ≡ slot v 0 0
      → last_told sh c.told (get_or (drop w ws) 0 0) ≡ told → before_told sh c.told c.before ≡ before → t ≡ top → k ≡ width
      → c' ≡ cond (leb v t && leb (c.at + k) most_bytes) (walked (c.at + k) n old told before c.bad) (refused c) → Tried (item on sh ∷ []) src ws w c c'
  by-plain {v} {width} {top} {n} {old} {told} {before} ef es et ep q r e =
      by_number ef es et ep
      (e ∙ rw (q, r) (ap (λ (b : Bool). cond (b && leb (c.at + width) most_bytes) (walked (c.at + width) n old told before c.bad) (refused c)) (sym (one (leb v top)))))
    where
      one : (b : Bool) → b && true ≡ b
      one true = refl
      one false = refl

  pub by-eights : {v width top n old told before t k : ℕ} → form_on sh ws w c ≡ number_form width top true n old → slot_on sh ws w c ≡ slot v 0 0
      → last_told sh c.told (get_or (drop w ws) 0 0) ≡ told → before_told sh c.told c.before ≡ before → t ≡ top → k ≡ width
      → c' ≡ cond ((leb v t && eqb ((v % 8 + k) % 8) 0) && leb (c.at + k) most_bytes) (walked (c.at + k) n old told before c.bad) (refused c) → Tried (item on sh ∷ []) src ws w c c'
  by-eights {v} {width} {top} {n} {old} {told} {before} ef es et ep q r e =
      by_number ef es et ep
      (e ∙ rw (q, r) (ap (λ (x : ℕ). cond ((leb v top && eqb x 0) && leb (c.at + width) most_bytes) (walked (c.at + width) n old told before c.bad) (refused c))
      (let z : (v % 8 + width) % 8 ≡ (v + width) % 8 = omega arith in z)))

  pub by-list : {place count want unit pad : ℕ} → form_on sh ws w c ≡ list_form (state_of c) unit want pad → slot_on sh ws w c ≡ slot 0 place count
      → last_told sh c.told (get_or (drop w ws) 0 0) ≡ c.told → before_told sh c.told c.before ≡ c.before
      → c' ≡ cond (list_ok (length src) place count want unit pad c) (stay (count * unit + pad) c) (refused c) → Tried (item on sh ∷ []) src ws w c c'
  unfolding form_next list_bytes
  by-list {place} {count} {want} {unit} {pad} ef es et ep e =
      by_form ef es (list-ok place count want unit pad src c) (let q : c.at + (0 + count * unit + pad) ≡ c.at + (count * unit + pad) = omega arith in q) et ep e

  pub by_name : {place count pad : ℕ} → form_on sh ws w c ≡ name_form (state_of c) count pad → slot_on sh ws w c ≡ slot 0 place count
      → last_told sh c.told (get_or (drop w ws) 0 0) ≡ c.told → before_told sh c.told c.before ≡ c.before
      → c' ≡ cond (name_ok src place count pad c) (stay (count * 1 + pad) c) (refused c) → Tried (item on sh ∷ []) src ws w c c'
  unfolding form_next list_bytes
  by_name {place} {count} {pad} ef es et ep e =
      by_form ef es (name-ok place count pad src c) (let q : c.at + (0 + count * 1 + pad) ≡ c.at + (count * 1 + pad) = omega arith in q) et ep e

  pub by-blank : {pad : ℕ} → form_on sh ws w c ≡ blank_form (state_of c) pad → slot_on sh ws w c ≡ slot 0 0 0
      → last_told sh c.told (get_or (drop w ws) 0 0) ≡ c.told → before_told sh c.told c.before ≡ c.before
      → c' ≡ cond (leb (c.at + pad) most_bytes) (stay pad c) (refused c) → Tried (item on sh ∷ []) src ws w c c'
  unfolding form_next list_bytes
  by-blank {pad} ef es et ep e =
      by_form ef es (pad-ok pad src c) (let q : c.at + (0 + 0 + pad) ≡ c.at + pad = omega arith in q) et ep e

-- the first word, and the second
pub word_at : (ws : List ℕ) (w : ℕ) → get_or (drop w ws) 0 0 ≡ get_or ws w 0
word_at ws w = get_or-drop w ws 0 0 ∙ ap (λ (k : ℕ). get_or ws k 0) (add-zero w)

pub word_after : (ws : List ℕ) (w : ℕ) → get_or (drop w ws) 1 0 ≡ get_or ws (w + 1) 0
word_after ws w = get_or-drop w ws 1 0

-- ---- not selected

module _ {on : Bool} {sh : Shape} {src ws : List ℕ} {w : ℕ} {c c' : Walked} (bytes_only : small src ≡ true) (words : Narrow ws) (m : c.at ≤ most_bytes) (o : on ≡ false) where
  pub off-number : {v : ℕ} → slot_none sh ws w ≡ slot v 0 0 → c' ≡ cond (eqb v 0) c (refused c) → Tried (item on sh ∷ []) src ws w c c'
  off-number {v} es e = tried-off bytes_only words m o (e ∙ sym (rw (es, sym (zero_test v)) (go (eqb v 0))))
    where
      go : (b : Bool) → cond (b && true) c (refused c) ≡ cond b c (refused c)
      go true = refl
      go false = refl

  pub off-counted : {p k : ℕ} → slot_none sh ws w ≡ slot 0 p k → c' ≡ cond (eqb k 0) c (refused c) → Tried (item on sh ∷ []) src ws w c c'
  off-counted es e = tried-off bytes_only words m o (e ∙ sym (rw es))

  pub off-free : {p : ℕ} → slot_none sh ws w ≡ slot 0 p 0 → c' ≡ c → Tried (item on sh ∷ []) src ws w c c'
  off-free es e = tried-off bytes_only words m o (e ∙ sym (rw es))

-- ---- a list, as the code tests it

times_more : (n k : ℕ) → 1 ≤ k → n ≤ n * k
times_more n k h = let q = mul-le-mul_left n h in omega (arith, q)

pub list-none : (room place count want unit pad : ℕ) (c : Walked) → 1 ≤ unit → ltb most_bytes count || ltb room place ≡ true → false ≡ list_ok room place count want unit pad c
list-none room place count want unit pad c u h = sym (go (ltb most_bytes count) refl h)
  where
    go : (b : Bool) → ltb most_bytes count ≡ b → b || ltb room place ≡ true → list_ok room place count want unit pad c ≡ false
    go true e d =
        let q = ltb-true most_bytes count e in
        let t = times_more count unit u in
        rw (lt-leb (c.at + (count * unit + pad)) most_bytes (omega (arith, q, t))) (and-false (not (ltb room (place + count * unit)) && (eqb count want || eqb unit 0)))
    go false e d = let q = ltb-true room place d in rw (lt-ltb room (place + count * unit) (omega (arith, q)))

pub list-some : (room place count want unit pad : ℕ) (c : Walked) → 1 ≤ unit → ltb most_bytes count || ltb room place ≡ false
    → (leb (count * unit) (room - place) && eqb count want) && leb (c.at + (count * unit + pad)) most_bytes ≡ list_ok room place count want unit pad c
list-some room place count want unit pad c u h =
    let p = ltb-false room place (or-false₂ (ltb most_bytes count) (ltb room place) h) in
    ap₂ (λ (a b : Bool). (a && b) && leb (c.at + (count * unit + pad)) most_bytes)
    (same_test (leb (count * unit) (room - place)) (not (ltb room (place + count * unit)))
    (λ e. ap not (le-ltb room (place + count * unit) (let q = leb-true (count * unit) (room - place) e in omega (arith, p, q))))
    (λ e. le-leb (count * unit) (room - place) (let q = ltb-false room (place + count * unit) (not-true (ltb room (place + count * unit)) e) in omega (arith, p, q))))
    (sym (rw (ne_eqb unit 0 (λ z. omega (arith, z, u))) (or-false (eqb count want))))
  where
    or-false₂ : (a b : Bool) → a || b ≡ false → b ≡ false
    or-false₂ true b e = no_false (sym e)
    or-false₂ false b e = e

-- the facts of its tests
pub list-within : (room place count : ℕ) → ltb most_bytes count || ltb room place ≡ false → (count ≤ most_bytes) × (place ≤ room)
list-within room place count h = go (ltb most_bytes count) refl h
  where
    go : (b : Bool) → ltb most_bytes count ≡ b → b || ltb room place ≡ false → (count ≤ most_bytes) × (place ≤ room)
    go true e d = no_false (sym d)
    go false e d = (ltb-false most_bytes count e, ltb-false room place d)

pub name-none : (src : List ℕ) (place count pad : ℕ) (c : Walked) → ltb most_bytes count || ltb (length src) place ≡ true → false ≡ name_ok src place count pad c
name-none src place count pad c h = sym (go (ltb most_bytes count) refl h)
  where
    go : (b : Bool) → ltb most_bytes count ≡ b → b || ltb (length src) place ≡ true → name_ok src place count pad c ≡ false
    go true e d =
        let q = ltb-true most_bytes count e in
        rw (lt-leb (c.at + (count * 1 + pad)) most_bytes (omega (arith, q))) (and-false (not (ltb (length src) (place + count * 1)) && nonzero (take count (drop place src))))
    go false e d = let q = ltb-true (length src) place d in rw (lt-ltb (length src) (place + count * 1) (omega (arith, q)))

pub name-far : (src : List ℕ) (place count pad : ℕ) (c : Walked) → length src < place + count → false ≡ name_ok src place count pad c
name-far src place count pad c h = rw (lt-ltb (length src) (place + count * 1) (omega (arith, h)))

pub name-some : (src : List ℕ) (place count pad k : ℕ) (b : Bool) (c : Walked) → place + count ≤ length src → b ≡ nonzero (take count (drop place src)) → k ≡ count + pad
    → b && leb (c.at + k) most_bytes ≡ name_ok src place count pad c
name-some src place count pad k b c h e q =
    let z : k ≡ count * 1 + pad = omega (arith, q) in
    rw (le-ltb (length src) (place + count * 1) (omega (arith, h)), sym e, z)
