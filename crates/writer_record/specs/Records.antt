-- A measured record, put into a buffer. Assumes nothing.
use Rattle.std.specs.Prelude.{◌≡◌, true, false, cond, ◌&&◌, drop, get_or}
use Rattle.std.proofs.Math.Path.{refl, sym, ap, ap₂, subst}
use Rattle.std.proofs.Common.{◌∙◌, arith}
use Prim.Native.Nat.{ℕ, ◌+◌, ◌-◌, ◌<◌, ◌≤◌}
use Rattle.std.proofs.Math.Bool.{Bool}
use mathlib.Core.List.{List, ◌++◌}
use Rattle.std.proofs.Math.ListN.{length, length-append}
use Rattle.meaning.specs.declared.Attributes.{Attributes}
use Rattle.meaning.specs.States.{Cursor}
use Rattle.meaning.specs.declared.Item.{Item}
use Rattle.meaning.specs.Bytes.{spell, all_zero, put}
use Rattle.meaning.specs.Writing.{write}
use Rattle.meaning.specs.Records.{Value, fixed, room, origin, header, field_bytes, written, fits_by}
use Rattle.meaning.specs.Values.{Slot, means, any_beyond, slots_told, spare_by, body_words, trail_words}
use Rattle.laws.specs.Bytes.{and-true}
use Rattle.laws.specs.Fixed.{fixed-write}
use Rattle.laws.specs.Whole.{header-length}
use Rattle.laws.specs.More.{nexts-at, fields-end, record-end}
use Rattle.table.specs.Rows.{all_rows}
use Rattle.laws.specs.Put.{put-put}
use Rattle.writer_parts.specs.declared.TypePart.{TypePart}
use Rattle.meaning.specs.declared.Spot.{Spot}
use Rattle.writer_words.specs.Tellings.{start_at}
use Rattle.writer_items.specs.Tries.{most_bytes}
use Rattle.writer_parts.specs.Parts.{try_items, items_from, slots_from, Lays}
use Rattle.writer_record.specs.Measures.{value_meant, measured}
use Rattle.writer_record.specs.Measuring.{Fits, fits-parts, fit-tried, fixed-inside, tried-lays}
use Rattle.writer_parts.specs.Turns.{tried-at}

cond-some : (b : Bool) (x : ℕ) → 0 < cond b x 0 → (b ≡ true) × (cond b x 0 ≡ x)
cond-some true x h = (refl, refl)
cond-some false x h = absurd (omega (arith, h))

module _ (is ts : List Item) (src ws : List ℕ) (plain : fixed ts ≡ true) (inside : any_beyond src is (slots_told is (drop body_words ws) 0 0) ≡ false) (end : ℕ)
    (e : end ≡ measured is ts src ws) (some : 0 < end) where
  abbrev value : Value
  value = value_meant is ts src ws

  pub record Sized : Type 0 where
    pub fits : Fits is ts value
    pub whole : end ≡ length (written is ts value)
    pub body-why : (try_items src is (slots_from is (start_at body_words) ws) (origin 8)).why ≡ 0
    pub body_end : (try_items src is (slots_from is (start_at body_words) ws) (origin 8)).at ≡ end - room ts
    pub fields : length (field_bytes is value) ≡ end - room ts
    pub tail-why : (try_items src ts (slots_from ts (start_at trail_words) ws) (origin (end - room ts))).why ≡ 0
    pub tail-end : (try_items src ts (slots_from ts (start_at trail_words) ws) (origin (end - room ts))).at ≡ end
    pub before : room ts + 8 ≤ end
    pub most : end ≤ most_bytes

  pub sized : Sized
  unfolding measured value_meant slots_from
  sized =
      let b : Bool = all_zero (spare_by is ts ws) && fits_by is ts value in
      let n : ℕ = length (written is ts value) in
      let c = cond-some b n (subst (λ (x : ℕ). 0 < x) e some) in
      let f = fits-parts is ts value (and-true (all_zero (spare_by is ts ws)) (fits_by is ts value) c.0).1 in
      let whole : end ≡ n = e ∙ c.1 in
      let ss : List Slot = slots_told is (drop body_words ws) 0 0 in
      let st : List Slot = slots_told ts (drop trail_words ws) 0 0 in
      let B : List ℕ = write is value.body (origin 8) in
      let o : ℕ = length (field_bytes is value) in
      let fe = fields-end is value in
      let na = nexts-at is value.body (origin 8) in
      let re = record-end is ts value in
      let nt = nexts-at ts value.tail (origin o) in
      let l_t : length (write ts value.tail (origin o)) ≡ room ts = fixed-write ts value.tail (origin o) plain f.tail in
      let s = f.size in
      let m = f.most in
      let fields : o ≡ end - room ts = omega (arith, whole, re, nt, l_t) in
      let bw : (try_items src is ss (origin 8)).why ≡ 0 = fit-tried src is ss (origin 8) refl f.body inside (omega (arith, fe, re, nt, s, m)) in
      let ba = tried-at src is ss (origin 8) bw in
      let tw : (try_items src ts st (origin o)).why ≡ 0 = fit-tried src ts st (origin o) refl f.tail (fixed-inside src ts st plain) (omega (arith, re, s, m)) in
      let ta = tried-at src ts st (origin o) tw in
      let te : (try_items src ts st (origin o)).at ≡ end = omega (arith, ta, nt, re, whole) in
      record {
        fits = f;
        whole = whole;
        body-why = bw;
        body_end = omega (arith, ba, fe, na, fields);
        fields = fields;
        tail-why = subst (λ (k : ℕ). (try_items src ts st (origin k)).why ≡ 0) fields tw;
        tail-end = subst (λ (k : ℕ). (try_items src ts st (origin k)).at ≡ end) fields te;
        before = omega (arith, fe, na, re, nt, l_t, whole);
        most = omega (arith, s, m, whole);
      }

  -- header, fields and trailer, put one after the other
  pub all-put : (b b₁ b₂ b₃ : List ℕ) → end ≤ length b → b₁ ≡ put b 0 (spell 4 (get_or ws 0 0) ++ (spell 2 (get_or ws 1 0) ++ spell 2 (get_or ws 2 0))) → b₂ ≡ put b₁ 8 (write is value.body (origin 8))
      → b₃ ≡ put b₂ (end - room ts) (write ts value.tail (origin (end - room ts))) → b₃ ≡ put b 0 (written is ts value)
  unfolding written field_bytes header value_meant
  all-put b b₁ b₂ b₃ h e₁ e₂ e₃ =
      let B : List ℕ = write is value.body (origin 8) in
      let F : List ℕ = header value ++ B in
      let T : List ℕ = write ts value.tail (origin (length F)) in
      let lh = header-length value in
      let l_f = length-append (header value) B in
      let lw = length-append F T in
      let w : end ≡ length (F ++ T) = sized.whole in
      let q : end - room ts ≡ length F = sym sized.fields in
      let q₀ : end - room ts ≡ 0 + length F = omega (arith, q) in
      let p₂ : b₂ ≡ put b 0 F =
      e₂ ∙ ap (λ (x : List ℕ). put x 8 B) e₁
      ∙ ap (λ (k : ℕ). put (put b 0 (header value)) k B) (let z : 8 ≡ 0 + length (header value) = omega (arith, lh) in z)
      ∙ put-put b 0 (header value) B (omega (arith, lh, l_f, lw, w, h)) in
      e₃ ∙ ap₂ (λ (x : List ℕ) (k : ℕ). put x k (write ts value.tail (origin (end - room ts)))) p₂ q₀
      ∙ ap (λ (k : ℕ). put (put b 0 F) (0 + length F) (write ts value.tail (origin k))) q
      ∙ put-put b 0 F T (omega (arith, lw, w, h))

-- the code's loop over a part writes the part's items
pub written-lays : (src ws : List ℕ) (p : TypePart) (a : Attributes) (kind : ℕ) (is : List Item) (first f : Spot) (start o : Cursor) (b b' d : List ℕ) → Lays p a kind is → first ≡ f → start ≡ o
    → b ≡ d → b' ≡ put b start.at (write (items_from p p.from) (means src (items_from p p.from) (slots_from (items_from p p.from) first ws)) start)
    → b' ≡ put d o.at (write is (means src is (slots_from is f ws)) o)
written-lays src ws p a kind is first f start o b b' d l e₁ e₂ e₃ e =
    e ∙ ap (λ (x : List Item). put b start.at (write x (means src x (slots_from x first ws)) start)) l.items
    ∙ ap₂ (λ (x : Spot) (y : Cursor). put b y.at (write is (means src is (slots_from is x ws)) y)) e₁ e₂
    ∙ ap (λ (x : List ℕ). put x o.at (write is (means src is (slots_from is f ws)) o)) e₃

-- what a call of that loop asks
pub asks-lays : (src ws : List ℕ) (p : TypePart) (a : Attributes) (kind : ℕ) (is : List Item) (first : Spot) (start : Cursor) (k o n m end : ℕ) → Lays p a kind is → first ≡ start_at k → start ≡ origin o
    → k ≤ trail_words → o ≤ most_bytes → (try_items src is (slots_from is (start_at k) ws) (origin o)).why ≡ 0 → (try_items src is (slots_from is (start_at k) ws) (origin o)).at ≡ m → m ≤ end → n ≡ end
    → (p.from ≤ p.to) × (p.to ≤ all_rows) × (first.at ≤ trail_words) × (start.at ≤ most_bytes)
    × ((try_items src (items_from p p.from) (slots_from (items_from p p.from) first ws) start).why ≡ 0)
    × ((try_items src (items_from p p.from) (slots_from (items_from p p.from) first ws) start).at ≤ n)
asks-lays src ws p a kind is first start k o n m end l e₁ e₂ h₁ h₂ w at h₃ e =
    let q = tried-lays src ws p a kind is first (start_at k) start (origin o) _ l e₁ e₂ refl in
    let a₁ = ap (λ (x : Spot). x.at) e₁ in
    let a₂ = ap (λ (x : Cursor). x.at) e₂ in
    let a₃ = ap (λ (x : Cursor). x.at) q in
    (l.ordered, l.within, omega (arith, a₁, h₁), omega (arith, a₂, h₂), ap (λ (x : Cursor). x.why) q ∙ w, omega (arith, a₃, at, h₃, e))
