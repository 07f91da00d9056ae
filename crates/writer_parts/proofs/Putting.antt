-- Turns of the loop that puts: the bytes still to come, put where the state says, make the whole. Assumes nothing.
use mathlib.Core.Path.{◌≡◌, refl, sym, ap, ap₂, ◌∙◌, subst}
use Prim.Native.Nat.{ℕ, ◌+◌, ◌^◌, ◌<◌, ◌≤◌}
use native.Mathlib.Omega.{arith}
use mathlib.Core.Bool.{true, false, cond}
use mathlib.Core.List.{List, [], ◌++◌}
use lib.ListN.{length}
use Rattle.meaning.specs.States.{Cursor}
use Rattle.meaning.specs.declared.Item.{Item}
use Rattle.meaning.specs.Bytes.{small, put}
use Rattle.meaning.specs.Items.{Con}
use Rattle.meaning.specs.Writing.{emit, next, write}
use Rattle.meaning.specs.Values.{Slot, held, means, trail_words}
use Rattle.table.specs.Rows.{all_rows}
use Rattle.laws.specs.Put.{put-put, length-put, put-nil}
use Rattle.writer_parts.specs.declared.TypePart.{TypePart}
use Rattle.meaning.specs.declared.Spot.{Spot}
use Rattle.writer_forms.specs.Forms.{Form, form, fits_form, passes_end, list_bytes, form_bytes, form_next}
use Rattle.writer_words.specs.Tellings.{given_slot, reached_after}
use Rattle.writer_items.specs.Tries.{unfit, good, most_bytes}
use Rattle.writer_parts.specs.Parts.{try_items, item_here, items_from, slots_from}
use Rattle.writer_items.specs.Fitting.{fits-is, bytes-is, next-is, passes-is, width-most, form-length}
use Rattle.writer_parts.specs.Turns.{tried-at, to_come, one_on, none-on, Within, within_on, good-parts, no-state, tried}

module _ (src ws : List ℕ) (p : TypePart) (first : Spot) (start : Cursor) (b₀ : List ℕ) where
  abbrev pub bytes_to_come : ℕ → Spot → Cursor → List ℕ
  bytes_to_come k t c = to_come (λ (is : List Item) (ss : List Slot). write is (means src is ss) c) p ws k t

  abbrev ends : ℕ → Spot → Cursor → Cursor
  ends k t c = tried src ws p first start k t c

  pub record Putting (k : ℕ) (t : Spot) (c : Cursor) (b : List ℕ) : Type 0 where
    pub same : put b c.at (bytes_to_come k t c) ≡ put b₀ start.at (bytes_to_come p.from first start)
    pub fine : (ends k t c).why ≡ 0
    pub room : (ends k t c).at ≤ length b₀
    pub long : length b ≡ length b₀
    pub within : Within p k t
    pub place : c.at ≤ most_bytes

  pub put-start : p.from ≤ p.to → first.at ≤ trail_words → start.at ≤ most_bytes → (ends p.from first start).why ≡ 0 → (ends p.from first start).at ≤ length b₀
      → Putting (p.from + 0) first start b₀
  put-start o w m z r =
      let n : p.from ≡ p.from + 0 = omega arith in
      let e : ends (p.from + 0) first start ≡ ends p.from first start = ap (λ (k : ℕ). ends k first start) (sym n) in
      let a = ap (λ (x : Cursor). x.at) e in
      record {
        same = ap (λ (k : ℕ). put b₀ start.at (bytes_to_come k first start)) (sym n);
        fine = ap (λ (x : Cursor). x.why) e ∙ z;
        room = omega (arith, a, r);
        long = refl;
        within = record { rows = omega (arith, o); words = omega (arith, w) };
        place = m;
      }

  module _ (k : ℕ) (t : Spot) (c : Cursor) (b : List ℕ) (l : Putting k t c b) where
    module _ (i : Item) (s : Slot) (f : Form) (eᵢ : i ≡ item_here p k) (eₛ : s ≡ given_slot ws t i) (e : f ≡ form i c s) (h : k < p.to) (m : p.to ≤ all_rows)
        (bytes_only : small src ≡ true) (narrow : s.num < 2 ^ 64) where
      ends-turn : ends k t c ≡ cond (good src i s c) (ends (k + 1) (reached_after ws t i) (next i (held src i s) c)) unfit
      unfolding try_items
      ends-turn =
          let g : Item → Slot → Cursor = λ (j : Item) (x : Slot). cond (good src j x c) (ends (k + 1) (reached_after ws t j) (next j (held src j x) c)) unfit in
          one_on (λ (is : List Item) (ss : List Slot). try_items src is ss c) p ws k t h m
          ∙ ap (λ (j : Item). g j (given_slot ws t j)) (sym eᵢ) ∙ ap (λ (x : Slot). g i x) (sym eₛ)

      bytes-turn : bytes_to_come k t c ≡ cond i.on (emit i.shape c (held src i s)) [] ++ bytes_to_come (k + 1) (reached_after ws t i) (next i (held src i s) c)
      unfolding write means
      bytes-turn =
          let g : Item → Slot → List ℕ = λ (j : Item) (x : Slot). cond j.on (emit j.shape c (held src j x)) [] ++ bytes_to_come (k + 1) (reached_after ws t j) (next j (held src j x) c) in
          one_on (λ (is : List Item) (ss : List Slot). write is (means src is ss) c) p ws k t h m
          ∙ ap (λ (j : Item). g j (given_slot ws t j)) (sym eᵢ) ∙ ap (λ (x : Slot). g i x) (sym eₛ)

      -- what the item's own call asks
      pub record Ready : Type 0 where
        pub width : f.width ≤ 8
        pub inside : passes_end src f.list f.unit s.place s.count ≡ false
        pub room : c.at + (f.width + list_bytes f s + f.pad) ≤ length b
        pub bytes : cond i.on (emit i.shape c (held src i s)) [] ≡ form_bytes f src s
        pub after : form_next f s c ≡ next i (held src i s) c
        pub place : (form_next f s c).at ≤ most_bytes
        pub rest : ends k t c ≡ ends (k + 1) (reached_after ws t i) (next i (held src i s) c)

      pub ready : Ready
      unfolding form_next
      ready =
          let v : Con = held src i s in
          let r : Cursor = ends (k + 1) (reached_after ws t i) (next i v c) in
          let u = no-state (good src i s c) r (ap (λ (x : Cursor). x.why) (sym ends-turn) ∙ l.fine) in
          let g = good-parts src i s c u.0 in
          let fits : fits_form (form i c s) src s ≡ true = sym (fits-is i c src s bytes_only narrow g.1) ∙ g.0 in
          let after : form_next f s c ≡ next i v c = ap (λ (x : Form). form_next x s c) e ∙ sym (next-is i c src s fits g.1) in
          let rest : ends k t c ≡ r = ends-turn ∙ u.1 in
          let z : r.why ≡ 0 = ap (λ (x : Cursor). x.why) (sym rest) ∙ l.fine in
          let at : (next i v c).at ≡ c.at + (f.width + list_bytes f s + f.pad) = ap (λ (x : Cursor). x.at) (sym after) in
          let q : r.at ≡ (next i v c).at + length (bytes_to_come (k + 1) (reached_after ws t i) (next i v c)) =
          tried-at src (items_from p (k + 1)) (slots_from (items_from p (k + 1)) (reached_after ws t i) ws) (next i v c) z in
          let w = ap (λ (x : Cursor). x.at) rest in
          let n = l.room in
          let y = l.long in
          record {
            width = subst (λ (x : Form). x.width ≤ 8) (sym e) (width-most i c s);
            inside = ap (λ (x : Form). passes_end src x.list x.unit s.place s.count) e ∙ sym (passes-is i c src s) ∙ g.1;
            room = omega (arith, at, q, w, n, y);
            bytes = bytes-is i c src s fits g.1 ∙ ap (λ (x : Form). form_bytes x src s) (sym e);
            after = after;
            place = subst (λ (x : Cursor). x.at ≤ most_bytes) (sym after) g.2;
            rest = rest;
          }

      pub put_on : (b' : List ℕ) (c' : Cursor) (t' : Spot) → b' ≡ put b c.at (form_bytes f src s)
          → c' ≡ form_next f s c → t' ≡ reached_after ws t i → Putting (k + 1) t' c' b'
      unfolding form_next
      put_on b' c' t' eb ec et =
          let v : Con = held src i s in
          let d : Cursor = next i v c in
          let t₁ : Spot = reached_after ws t i in
          let A : List ℕ = form_bytes f src s in
          let W : List ℕ = bytes_to_come (k + 1) t₁ d in
          let r : Cursor = ends (k + 1) t₁ d in
          let q : c' ≡ d = ec ∙ ready.after in
          let z : r.why ≡ 0 = ap (λ (x : Cursor). x.why) (sym ready.rest) ∙ l.fine in
          let la : length A ≡ f.width + list_bytes f s + f.pad = form-length f src s ready.inside in
          let at : d.at ≡ c.at + (f.width + list_bytes f s + f.pad) = ap (λ (x : Cursor). x.at) (sym ready.after) in
          let at₁ : d.at ≡ c.at + length A = omega (arith, la, at) in
          let end : r.at ≡ d.at + length W = tried-at src (items_from p (k + 1)) (slots_from (items_from p (k + 1)) t₁ ws) d z in
          let w : (ends k t c).at ≡ r.at = ap (λ (x : Cursor). x.at) ready.rest in
          let n = l.room in
          let y = l.long in
          let E : ends (k + 1) t' c' ≡ r = ap₂ (λ (x : Spot) (a : Cursor). ends (k + 1) x a) et q in
          let lb = ap length eb ∙ length-put b c.at A in
          record {
            same = ap₂ (λ (x : Spot) (a : Cursor). put b' a.at (bytes_to_come (k + 1) x a)) et q
                ∙ ap₂ (λ (x : List ℕ) (a : ℕ). put x a W) eb at₁
                ∙ put-put b c.at A W (omega (arith, at₁, end, w, n, y))
                ∙ ap (λ (x : List ℕ). put b c.at x) (ap (λ (x : List ℕ). x ++ W) (sym ready.bytes) ∙ sym bytes-turn)
                ∙ l.same;
            fine = ap (λ (x : Cursor). x.why) E ∙ z;
            room = (let o = ap (λ (x : Cursor). x.at) E in omega (arith, o, w, n));
            long = lb ∙ y;
            within = within_on p k t ws i t' l.within h et;
            place = subst (λ (x : Cursor). x.at ≤ most_bytes) (ready.after ∙ sym q) ready.place;
          }

    pub put-end : p.to ≤ k → b ≡ put b₀ start.at (bytes_to_come p.from first start)
    unfolding write means try_items
    put-end h =
        let o : k ≡ p.to = (let w = l.within.rows in omega (arith, h, w)) in
        let none : bytes_to_come k t c ≡ [] = none-on (λ (is : List Item) (ss : List Slot). write is (means src is ss) c) p ws k t o in
        let end : ends k t c ≡ c = none-on (λ (is : List Item) (ss : List Slot). try_items src is ss c) p ws k t o in
        let a = ap (λ (x : Cursor). x.at) end in
        let n = l.room in
        let y = l.long in
        sym (ap (λ (x : List ℕ). put b c.at x) none ∙ put-nil b c.at (omega (arith, a, n, y))) ∙ l.same
