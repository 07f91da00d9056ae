-- One item that fits: what its test says of places and lengths, and that its bytes and the state after it are its form's. Assumes nothing.
use mathlib.Core.Path.{◌≡◌, refl, sym, ap, ap₂, ◌∙◌, subst}
use mathlib.Core.Bool.{Bool, true, false, not, cond, ◌&&◌, ◌||◌}
use mathlib.Core.List.{List, [], ◌∷◌, ◌++◌, append-nil}
use Prim.Native.Nat.{ℕ, ◌+◌, ◌*◌, ◌%◌, ◌^◌, ◌<◌, ◌≤◌}
use native.Mathlib.Nat.{add-zero}
use native.Mathlib.Omega.{arith}
use lib.ListN.{length, take, drop, get_or}
use lib.Dec.{leb, eqb, ltb}
use borrow.Author.Tests.{leb-true, ltb-false, eqb-true, ne_eqb, not-true}
use Rattle.meaning.specs.States.{Cursor}
use Rattle.meaning.specs.declared.Item.{Item}
use Rattle.meaning.specs.declared.Shape.{Shape}
use Rattle.meaning.specs.Bytes.{small, nonzero, spell, zeros, put}
use Rattle.meaning.specs.Schema.{item}
use Rattle.meaning.specs.Writing.{write}
use Rattle.meaning.specs.Values.{Slot, slot, means, words_of, width, last_told, before_told}
use Rattle.laws.specs.Bytes.{apart, and-true}
use Rattle.laws.specs.Put.{put-nil, put-put, length-put}
use Rattle.writer_words.specs.Tellings.{reached_after}
use Rattle.writer_forms.specs.Forms.{Form, form, blank_form, number_form, list_form, name_form, list_bytes, form_bytes, form_next}
use Rattle.writer_items.specs.Tries.{most_bytes}
use Rattle.writer_items.specs.Fitting.{bytes-is, next-is, passes-is, form-length}
use Rattle.writer_parts.specs.Parts.{slots_from}
use Rattle.writer_parts.specs.Turns.{slots_next, tried-at}
use Rattle.write_fits.specs.declared.Walked.{Walked}
use Rattle.write_fits.specs.Steps.{walked, state_of, told_to, slots_at, try_from, write_from}
use Rattle.write_fits.specs.Items.{ok_form, ok-parts, slot_here, form_here, past_here, fits_here, walk-fits, walk-misfits, slot_on, form_on, past_on, ok_on, Narrow, num-narrow, stay, list_ok, name_ok, number_ok_lem, list-ok, name-ok, pad-ok}
use Rattle.write_puts.specs.Puts.{Ready, Placed}

-- the place after the items never lies before their start
not-before : (src ws : List ℕ) (js : List Item) (w : ℕ) (c : Walked) → (try_from src ws js w c).why ≡ 0 → (try_from src ws js w c).at ≡ c.at + length (write_from src ws js w c)
unfolding try_from write_from
not-before src ws js w c z = tried-at src js (slots_at ws js w c) (state_of c) z

module _ (i : Item) (src ws : List ℕ) (w : ℕ) (c : Walked) (bytes_only : small src ≡ true) (narrow : (slot_here i src ws w c).num < 2 ^ 64) where
  abbrev s : Slot
  s = slot_here i src ws w c

  abbrev f : Form
  f = form_here i src ws w c

  abbrev c⁺ : Walked
  c⁺ = past_here i src ws w c

  fits-of : (js : List Item) → (try_from src ws (i ∷ js) w c).why ≡ 0 → fits_here i src ws w c ≡ true
  fits-of js z = go (fits_here i src ws w c) refl
    where
      go : (b : Bool) → fits_here i src ws w c ≡ b → fits_here i src ws w c ≡ true
      go true e = e
      go false e = absurd (let q : 42 ≡ 0 = ap (λ (x : Cursor). x.why) (sym (walk-misfits i src ws w c bytes_only narrow e js)) ∙ z in omega (arith, q))

  module _ {b : List ℕ} (r : Ready (i ∷ []) src ws w c b) where
    pub ready-fits : fits_here i src ws w c ≡ true
    ready-fits = fits-of r.rest r.fine

    pub ready-room : (form_next f s (state_of c)).at ≤ length b
    ready-room =
        let e = walk-fits i src ws w c bytes_only narrow ready-fits r.rest in
        let n = not-before src ws r.rest (w + words_of i.shape) c⁺ (ap (λ (x : Cursor). x.why) (sym e) ∙ r.fine) in
        let a = ap (λ (x : Cursor). x.at) e in
        let q = r.space in
        omega (arith, n, a, q)

    bytes_on : (js : List Item) → write_from src ws (i ∷ js) w c ≡ form_bytes f src s ++ write_from src ws js (w + words_of i.shape) c⁺
    unfolding write_from write means form_next
    bytes_on js =
        let p = ok-parts f src s (state_of c) ready-fits in
        let o = passes-is i (state_of c) src s ∙ p.0 in
        ap (λ (ss : List Slot). write (i ∷ js) (means src (i ∷ js) ss) (state_of c)) (slots_next i js (told_to w c) ws)
        ∙ ap₂ (λ (a : List ℕ) (x : Cursor). a ++ write js (means src js (slots_from js (reached_after ws (told_to w c) i) ws)) x) (bytes-is i (state_of c) src s p.1 o) (next-is i (state_of c) src s p.1 o)

    pub placed_one : {b' : List ℕ} {c' : Walked} → b' ≡ put b c.at (form_bytes f src s) → c' ≡ c⁺ → Placed (i ∷ []) src ws w c b b' c'
    unfolding width form_next
    placed_one {b'} {c'} eb ec =
        subst (λ (x : Walked). Placed (i ∷ []) src ws w c b b' x) (sym ec) (record {
          same = λ js. walk-fits i src ws w c bytes_only narrow ready-fits js ∙ ap (λ (k : ℕ). try_from src ws js (w + k) c⁺) (sym (add-zero (words_of i.shape)));
          puts = λ js z h.
              let e = walk-fits i src ws w c bytes_only narrow ready-fits js in
              let p = ok-parts f src s (state_of c) ready-fits in
              let B : List ℕ = write_from src ws js (w + words_of i.shape) c⁺ in
              let A : List ℕ = form_bytes f src s in
              let l : length A ≡ f.width + list_bytes f s + f.pad = form-length f src s p.0 in
              let n = not-before src ws js (w + words_of i.shape) c⁺ (ap (λ (x : Cursor). x.why) (sym e) ∙ z) in
              let a = ap (λ (x : Cursor). x.at) e in
              let k : c.at + length A ≡ c.at + (f.width + list_bytes f s + f.pad) = omega (arith, l) in
              ap (λ (x : List ℕ). put b c.at x) (bytes_on js)
              ∙ sym (put-put b c.at A B (omega (arith, n, a, h, k)))
              ∙ ap₂ (λ (x : List ℕ) (m : ℕ). put x m B) (sym eb) k
              ∙ ap (λ (m : ℕ). put b' c⁺.at (write_from src ws js (w + m) c⁺)) (sym (add-zero (words_of i.shape)));
          long = ap length eb ∙ length-put b c.at (form_bytes f src s);
        })

-- ---- by shapes

module _ {on : Bool} {sh : Shape} {src ws : List ℕ} {w : ℕ} {c : Walked} {b : List ℕ} (bytes_only : small src ≡ true) (words : Narrow ws) (r : Ready (item on sh ∷ []) src ws w c b) where
  pub off : on ≡ false → Placed (item on sh ∷ []) src ws w c b b c
  unfolding form form_bytes form_next list_bytes spell
  off o =
      let q : Ready (item false sh ∷ []) src ws w c b = subst (λ (x : Bool). Ready (item x sh ∷ []) src ws w c b) o r in
      let n = num-narrow sh ws 0 0 w words in
      let m = ready-room (item false sh) src ws w c bytes_only n q in
      subst (λ (x : Bool). Placed (item x sh ∷ []) src ws w c b b c) (sym o)
      (placed_one (item false sh) src ws w c bytes_only n q (sym (put-nil b c.at (omega (arith, m))))
      (ap (λ (k : ℕ). walked k c.n c.old c.told c.before c.bad) (sym (add-zero c.at))))

  module _ (o : on ≡ true) where
    selected : Ready (item true sh ∷ []) src ws w c b
    selected = subst (λ (x : Bool). Ready (item x sh ∷ []) src ws w c b) o r

    narrow-on : (slot_here (item true sh) src ws w c).num < 2 ^ 64
    narrow-on = num-narrow sh ws c.told c.before w words

    fits_on : ok_on sh src ws w c ≡ true
    unfolding form
    fits_on = ready-fits (item true sh) src ws w c bytes_only narrow-on selected

    room-on : (form_next (form_on sh ws w c) (slot_on sh ws w c) (state_of c)).at ≤ length b
    unfolding form
    room-on = ready-room (item true sh) src ws w c bytes_only narrow-on selected

    placed_on : {b' : List ℕ} {c' : Walked} → b' ≡ put b c.at (form_bytes (form_on sh ws w c) src (slot_on sh ws w c)) → c' ≡ past_on sh ws w c
        → Placed (item on sh ∷ []) src ws w c b b' c'
    unfolding form
    placed_on {b'} {c'} eb ec =
        subst (λ (x : Bool). Placed (item x sh ∷ []) src ws w c b b' c') (sym o) (placed_one (item true sh) src ws w c bytes_only narrow-on selected eb ec)

    module _ {f : Form} {s : Slot} (ef : form_on sh ws w c ≡ f) (es : slot_on sh ws w c ≡ s) where
      fits_by : ok_form f src s (state_of c) ≡ true
      fits_by = ap₂ (λ (g : Form) (t : Slot). ok_form g src t (state_of c)) (sym ef) (sym es) ∙ fits_on

      room_by : (form_next f s (state_of c)).at ≤ length b
      room_by = subst (λ (x : Cursor). x.at ≤ length b) (ap₂ (λ (g : Form) (t : Slot). form_next g t (state_of c)) ef es) room-on

      module _ {told before : ℕ} (et : last_told sh c.told (get_or (drop w ws) 0 0) ≡ told) (ep : before_told sh c.told c.before ≡ before) where
        placed_by : {b' : List ℕ} {c' : Walked} → b' ≡ put b c.at (form_bytes f src s) → c' ≡ walked (form_next f s (state_of c)).at f.n f.old told before c.bad
            → Placed (item on sh ∷ []) src ws w c b b' c'
        placed_by eb ec = placed_on (eb ∙ sym (rw (ef, es))) (ec ∙ sym (rw (ef, es, et, ep)))

    -- a number: its room, and its bytes
    module _ {v width top n old : ℕ} {eights : Bool} (ef : form_on sh ws w c ≡ number_form width top eights n old) (es : slot_on sh ws w c ≡ slot v 0 0) where
      pub number-room : c.at + width ≤ length b
      unfolding form_next list_bytes
      number-room = let h = room_by ef es in omega (arith, h)

      pub number-most : c.at + width ≤ most_bytes
      number-most =
          let h = sym (number_ok_lem v width top n old eights src c) ∙ fits_by ef es in
          leb-true (c.at + width) most_bytes (and-true (leb v top && cond eights (eqb ((v + width) % 8) 0) true) (leb (c.at + width) most_bytes) h).1

      pub number_put : {told before : ℕ} {b' : List ℕ} {c' : Walked} → last_told sh c.told (get_or (drop w ws) 0 0) ≡ told → before_told sh c.told c.before ≡ before
          → b' ≡ put b c.at (spell width v) → c' ≡ walked (c.at + width) n old told before c.bad → Placed (item on sh ∷ []) src ws w c b b' c'
      unfolding form_next list_bytes form_bytes
      number_put {told} {before} et ep eb ec =
          placed_by ef es et ep
          (eb ∙ ap (λ (l : List ℕ). put b c.at l) (sym (append-nil (spell width v ++ []) ∙ append-nil (spell width v))))
          (ec ∙ ap (λ (k : ℕ). walked k n old told before c.bad) (let q : c.at + width ≡ c.at + (width + 0 + 0) = omega arith in q))

    -- a list, or a name: where it lies, its room, and its bytes
    module _ {place count unit want pad : ℕ} (ef : form_on sh ws w c ≡ list_form (state_of c) unit want pad) (es : slot_on sh ws w c ≡ slot 0 place count) where
      list-tests : list_ok (length src) place count want unit pad c ≡ true
      list-tests = sym (list-ok place count want unit pad src c) ∙ fits_by ef es

      pub list_inside : place + count * unit ≤ length src
      list_inside =
          let p = (and-true (not (ltb (length src) (place + count * unit)) && (eqb count want || eqb unit 0)) _ list-tests).0 in
          ltb-false (length src) (place + count * unit) (not-true _ (and-true (not (ltb (length src) (place + count * unit))) _ p).0)

      pub list-most : c.at + (count * unit + pad) ≤ most_bytes
      list-most = leb-true _ most_bytes (and-true (not (ltb (length src) (place + count * unit)) && (eqb count want || eqb unit 0)) (leb (c.at + (count * unit + pad)) most_bytes) list-tests).1

      pub list-room : c.at + (count * unit + pad) ≤ length b
      unfolding form_next list_bytes
      list-room = let h = room_by ef es in omega (arith, h)

      pub list_put : {b' : List ℕ} {c' : Walked} → last_told sh c.told (get_or (drop w ws) 0 0) ≡ c.told → before_told sh c.told c.before ≡ c.before
          → b' ≡ put b c.at (take (count * unit) (drop place src) ++ zeros pad) → c' ≡ stay (count * unit + pad) c → Placed (item on sh ∷ []) src ws w c b b' c'
      unfolding form_next list_bytes form_bytes spell
      list_put et ep eb ec =
          placed_by ef es et ep eb
          (ec ∙ ap (λ (k : ℕ). walked k c.n c.old c.told c.before c.bad) (let q : c.at + (count * unit + pad) ≡ c.at + (0 + count * unit + pad) = omega arith in q))

      pub list-wanted : 1 ≤ unit → count ≡ want
      list-wanted u =
          let p = (and-true (not (ltb (length src) (place + count * unit)) && (eqb count want || eqb unit 0)) _ list-tests).0 in
          let q = (and-true (not (ltb (length src) (place + count * unit))) (eqb count want || eqb unit 0) p).1 in
          go (eqb count want) refl (rw (ne_eqb unit 0 (λ z. omega (arith, z, u))) at q)
        where
          go : (x : Bool) → eqb count want ≡ x → x || false ≡ true → count ≡ want
          go true e h = eqb-true count want e
          go false e h = absurd (apart h)

    module _ {place count unit want : ℕ} (ef : form_on sh ws w c ≡ list_form (state_of c) unit want 0) (es : slot_on sh ws w c ≡ slot 0 place count) where
      pub bare-most : c.at + count * unit ≤ most_bytes
      bare-most = let h = list-most ef es in omega (arith, h)

      pub bare-put : {b' : List ℕ} {c' : Walked} → last_told sh c.told (get_or (drop w ws) 0 0) ≡ c.told → before_told sh c.told c.before ≡ c.before
          → b' ≡ put b c.at (take (count * unit) (drop place src)) → c' ≡ stay (count * unit) c → Placed (item on sh ∷ []) src ws w c b b' c'
      bare-put et ep eb ec =
          list_put ef es et ep (eb ∙ ap (λ (l : List ℕ). put b c.at l) (sym (append-nil (take (count * unit) (drop place src))))) (ec ∙ ap (λ (k : ℕ). stay k c) (sym (add-zero (count * unit))))

    module _ {place count pad : ℕ} (ef : form_on sh ws w c ≡ name_form (state_of c) count pad) (es : slot_on sh ws w c ≡ slot 0 place count) where
      name-tests : name_ok src place count pad c ≡ true
      name-tests = sym (name-ok place count pad src c) ∙ fits_by ef es

      pub name-inside : place + count * 1 ≤ length src
      name-inside =
          let p = (and-true (not (ltb (length src) (place + count * 1)) && nonzero (take count (drop place src))) _ name-tests).0 in
          ltb-false (length src) (place + count * 1) (not-true _ (and-true (not (ltb (length src) (place + count * 1))) _ p).0)

      pub name-most : c.at + (count * 1 + pad) ≤ most_bytes
      name-most =
          leb-true _ most_bytes (and-true (not (ltb (length src) (place + count * 1)) && nonzero (take count (drop place src))) (leb (c.at + (count * 1 + pad)) most_bytes) name-tests).1

      pub name-room : c.at + (count * 1 + pad) ≤ length b
      unfolding form_next list_bytes
      name-room = let h = room_by ef es in omega (arith, h)

      pub name-put : {b' : List ℕ} {c' : Walked} → last_told sh c.told (get_or (drop w ws) 0 0) ≡ c.told → before_told sh c.told c.before ≡ c.before
          → b' ≡ put b c.at (take (count * 1) (drop place src) ++ zeros pad) → c' ≡ stay (count * 1 + pad) c → Placed (item on sh ∷ []) src ws w c b b' c'
      unfolding form_next list_bytes form_bytes spell
      name-put et ep eb ec =
          placed_by ef es et ep eb
          (ec ∙ ap (λ (k : ℕ). walked k c.n c.old c.told c.before c.bad) (let q : c.at + (count * 1 + pad) ≡ c.at + (0 + count * 1 + pad) = omega arith in q))

    -- zero bytes
    module _ {pad : ℕ} (ef : form_on sh ws w c ≡ blank_form (state_of c) pad) (es : slot_on sh ws w c ≡ slot 0 0 0) where
      pub blank-most : c.at + pad ≤ most_bytes
      blank-most = leb-true _ most_bytes (sym (pad-ok pad src c) ∙ fits_by ef es)

      pub blank-put : {b' : List ℕ} {c' : Walked} → last_told sh c.told (get_or (drop w ws) 0 0) ≡ c.told → before_told sh c.told c.before ≡ c.before
          → b' ≡ put b c.at (zeros pad) → c' ≡ stay pad c → Placed (item on sh ∷ []) src ws w c b b' c'
      unfolding form_next list_bytes form_bytes spell
      blank-put et ep eb ec =
          placed_by ef es et ep eb
          (ec ∙ ap (λ (k : ℕ). walked k c.n c.old c.told c.before c.bad) (let q : c.at + pad ≡ c.at + (0 + 0 + pad) = omega arith in q))
