-- Turns of the loops over a part's rows: what is still to come is the whole. Assumes nothing.
use Rattle.std.specs.Prelude.{◌≡◌, refl, ℕ, ◌+◌, ◌*◌, ◌<◌, ◌≤◌, true, not, ◌&&◌, ◌||◌, length, leb}
use Rattle.std.proofs.Math.Path.{sym, ap, ap₂, subst}
use Rattle.std.proofs.Common.{◌∙◌, arith, drop-drop, leb-true}
use Rattle.std.proofs.Math.Bool.{Bool, false, cond}
use mathlib.Core.List.{List, [], ◌∷◌}
use Rattle.std.proofs.lemmas.Bool.{not-true}
use Rattle.meaning.specs.States.{Cursor}
use Rattle.meaning.specs.declared.Item.{Item}
use Rattle.meaning.specs.Items.{Con}
use Rattle.meaning.specs.Writing.{next, nexts, write}
use Rattle.meaning.specs.Values.{Slot, words_of, held, means, beyond, any_beyond, slots_told, trail_words}
use Rattle.fields.specs.Told.{words-most}
use Rattle.laws.specs.Bytes.{and-true}
use Rattle.laws.specs.There.{next-why}
use Rattle.laws.specs.More.{nexts-at}
use Rattle.table.specs.Rows.{item_of, all_rows}
use Rattle.table.specs.Turns.{rows_next, rows-over}
use Rattle.writer_parts.specs.declared.TypePart.{TypePart}
use Rattle.meaning.specs.declared.Spot.{Spot}
use Rattle.writer_words.specs.Tellings.{given_slot, reached_after}
use Rattle.writer_items.specs.Tries.{unfit, fits_item, good, try_item, most_bytes}
use Rattle.writer_parts.specs.Parts.{try_items, item_here, items_from, slots_from}

pub items-next : (p : TypePart) (k : ℕ) → k < p.to → p.to ≤ all_rows → items_from p k ≡ item_here p k ∷ items_from p (k + 1)
unfolding items_from item_here
items-next p k h m = rows_next (item_of p.attributes p.misc p.kind) k p.to h m

pub items-over : (p : TypePart) → items_from p p.to ≡ []
unfolding items_from
items-over p = rows-over (item_of p.attributes p.misc p.kind) p.to

pub slots_next : (i : Item) (is : List Item) (t : Spot) (ws : List ℕ) → slots_from (i ∷ is) t ws ≡ given_slot ws t i ∷ slots_from is (reached_after ws t i) ws
unfolding slots_from slots_told
slots_next i is t ws =
    ap (λ (l : List ℕ). given_slot ws t i ∷ slots_told is l (reached_after ws t i).n (reached_after ws t i).old) (drop-drop (words_of i.shape) t.at ws)

-- a function of the items and slots that are still to come, one item on
module _ {A : Type 0} (f : List Item → List Slot → A) (p : TypePart) (ws : List ℕ) (k : ℕ) (t : Spot) where
  abbrev pub to_come : A
  to_come = f (items_from p k) (slots_from (items_from p k) t ws)

  pub one_on : k < p.to → p.to ≤ all_rows
      → to_come ≡ f (item_here p k ∷ items_from p (k + 1)) (given_slot ws t (item_here p k) ∷ slots_from (items_from p (k + 1)) (reached_after ws t (item_here p k)) ws)
  one_on h m =
      ap (λ (is : List Item). f is (slots_from is t ws)) (items-next p k h m)
      ∙ ap (λ (ss : List Slot). f (item_here p k ∷ items_from p (k + 1)) ss) (slots_next (item_here p k) (items_from p (k + 1)) t ws)

  pub none-on : k ≡ p.to → to_come ≡ f [] []
  unfolding slots_from slots_told
  none-on e =
      ap (λ (is : List Item). f is (slots_from is t ws)) (ap (λ (n : ℕ). items_from p n) e ∙ items-over p)

-- how far the rows and the words are gone through
pub record Within (p : TypePart) (k : ℕ) (t : Spot) : Type 0 where
  pub rows : k ≤ p.to
  pub words : t.at ≤ trail_words + 2 * k

pub within_on : (p : TypePart) (k : ℕ) (t : Spot) (ws : List ℕ) (i : Item) (t' : Spot) → Within p k t → k < p.to → t' ≡ reached_after ws t i → Within p (k + 1) t'
within_on p k t ws i t' w h e =
    let q : t'.at ≡ t.at + words_of i.shape = ap (λ (x : Spot). x.at) e in
    let m = words-most i.shape in
    let n = w.words in
    record { rows = omega (arith, h); words = omega (arith, q, m, n) }

-- ---- 41

module _ (src ws : List ℕ) (p : TypePart) (first : Spot) where
  abbrev pub looked : ℕ → Spot → Bool
  looked k t = to_come (any_beyond src) p ws k t

  pub record Looking (k : ℕ) (t : Spot) : Type 0 where
    pub same : looked k t ≡ looked p.from first
    pub within : Within p k t

  pub look-start : p.from ≤ p.to → first.at ≤ trail_words → Looking (p.from + 0) first
  look-start o w =
      let z : p.from ≡ p.from + 0 = omega arith in
      record { same = ap (λ (n : ℕ). looked n first) (sym z); within = record { rows = omega (arith, o); words = omega (arith, w) } }

  module _ (k : ℕ) (t : Spot) (l : Looking k t) where
    module _ (i : Item) (s : Slot) (r : Bool) (eᵢ : i ≡ item_here p k) (eₛ : s ≡ given_slot ws t i) (eᵣ : r ≡ beyond src i s) (h : k < p.to) (m : p.to ≤ all_rows) where
      look-turn : looked p.from first ≡ r || looked (k + 1) (reached_after ws t i)
      unfolding any_beyond
      look-turn =
          let g : Item → Bool = λ (j : Item). beyond src j (given_slot ws t j) || looked (k + 1) (reached_after ws t j) in
          sym l.same ∙ one_on (any_beyond src) p ws k t h m ∙ ap g (sym eᵢ)
          ∙ ap (λ (b : Bool). b || looked (k + 1) (reached_after ws t i)) (ap (λ (x : Slot). beyond src i x) (sym eₛ) ∙ sym eᵣ)

      pub look-found : r ≡ true → true ≡ looked p.from first
      look-found e = sym (look-turn ∙ ap (λ (b : Bool). b || looked (k + 1) (reached_after ws t i)) e)

      pub look-on : r ≡ false → (t' : Spot) → t' ≡ reached_after ws t i → Looking (k + 1) t'
      look-on e t' eₜ = record {
        same = ap (λ (x : Spot). looked (k + 1) x) eₜ ∙ sym (look-turn ∙ ap (λ (b : Bool). b || looked (k + 1) (reached_after ws t i)) e);
        within = within_on p k t ws i t' l.within h eₜ;
      }

    pub look-end : p.to ≤ k → false ≡ looked p.from first
    unfolding any_beyond
    look-end h = sym (sym l.same ∙ none-on (any_beyond src) p ws k t (let w = l.within.rows in omega (arith, h, w)))

-- ---- one item of the loop that tests

next-same : (i : Item) (v : Con) (c : Cursor) → (next i v c).why ≡ c.why
next-same i v c = next-why i.on i.shape v c

pub good-parts : (src : List ℕ) (i : Item) (s : Slot) (c : Cursor) → good src i s c ≡ true
    → (fits_item src i s c ≡ true) × (beyond src i s ≡ false) × ((next i (held src i s) c).at ≤ most_bytes)
unfolding good
good-parts src i s c h =
    let p = and-true (fits_item src i s c) (not (beyond src i s) && leb (next i (held src i s) c).at most_bytes) h in
    let q = and-true (not (beyond src i s)) (leb (next i (held src i s) c).at most_bytes) p.1 in
    (p.0, not-true (beyond src i s) q.0, leb-true (next i (held src i s) c).at most_bytes q.1)

-- a cond whose other side is no state
pub no-state : (b : Bool) (x : Cursor) → (cond b x unfit).why ≡ 0 → (b ≡ true) × (cond b x unfit ≡ x)
no-state true x h = (refl, refl)
no-state false x h = absurd (omega (arith, h))

a-state : (b : Bool) (x : Cursor) → x.why ≡ 0 → ((cond b x unfit).why ≡ 0 → ⊥) → b ≡ false
a-state true x z n = absurd (n z)
a-state false x z n = refl

-- ---- the loop that tests

module _ (src ws : List ℕ) (p : TypePart) (first : Spot) (start : Cursor) where
  abbrev pub tried : ℕ → Spot → Cursor → Cursor
  tried k t c = to_come (λ (is : List Item) (ss : List Slot). try_items src is ss c) p ws k t

  pub record Trying (k : ℕ) (t : Spot) (c : Cursor) : Type 0 where
    pub same : tried k t c ≡ tried p.from first start
    pub within : Within p k t
    pub place : c.at ≤ most_bytes
    pub fine : c.why ≡ 0

  pub try-start : p.from ≤ p.to → first.at ≤ trail_words → start.at ≤ most_bytes → start.why ≡ 0 → Trying (p.from + 0) first start
  try-start o w m z =
      let n : p.from ≡ p.from + 0 = omega arith in
      record { same = ap (λ (k : ℕ). tried k first start) (sym n); within = record { rows = omega (arith, o); words = omega (arith, w) }; place = m; fine = z }

  module _ (k : ℕ) (t : Spot) (c : Cursor) (l : Trying k t c) where
    module _ (i : Item) (s : Slot) (r : Cursor) (eᵢ : i ≡ item_here p k) (eₛ : s ≡ given_slot ws t i) (eᵣ : r ≡ try_item src i s c) (h : k < p.to) (m : p.to ≤ all_rows) where
      try-turn : tried p.from first start ≡ cond (good src i s c) (tried (k + 1) (reached_after ws t i) (next i (held src i s) c)) unfit
      unfolding try_items
      try-turn =
          let g : Item → Slot → Cursor = λ (j : Item) (x : Slot). cond (good src j x c) (tried (k + 1) (reached_after ws t j) (next j (held src j x) c)) unfit in
          sym l.same ∙ one_on (λ (is : List Item) (ss : List Slot). try_items src is ss c) p ws k t h m
          ∙ ap (λ (j : Item). g j (given_slot ws t j)) (sym eᵢ) ∙ ap (λ (x : Slot). g i x) (sym eₛ)

      pub try-stop : (r.why ≡ 0 → ⊥) → r ≡ tried p.from first start
      unfolding try_item
      try-stop n =
          let b : good src i s c ≡ false =
          a-state (good src i s c) (next i (held src i s) c) (next-same i (held src i s) c ∙ l.fine) (λ z. n (ap (λ (x : Cursor). x.why) eᵣ ∙ z)) in
          eᵣ ∙ ap (λ (q : Bool). cond q (next i (held src i s) c) unfit) b
          ∙ sym (try-turn ∙ ap (λ (q : Bool). cond q (tried (k + 1) (reached_after ws t i) (next i (held src i s) c)) unfit) b)

      pub try-on : r.why ≡ 0 → (t' : Spot) → t' ≡ reached_after ws t i → Trying (k + 1) t' r
      unfolding try_item
      try-on z t' eₜ =
          let u = no-state (good src i s c) (next i (held src i s) c) (ap (λ (x : Cursor). x.why) (sym eᵣ) ∙ z) in
          let q : r ≡ next i (held src i s) c = eᵣ ∙ u.1 in
          let a = (good-parts src i s c u.0).2 in
          record {
            same = ap₂ (λ (x : Spot) (y : Cursor). tried (k + 1) x y) eₜ q
                ∙ sym (try-turn ∙ ap (λ (b : Bool). cond b (tried (k + 1) (reached_after ws t i) (next i (held src i s) c)) unfit) u.0);
            within = within_on p k t ws i t' l.within h eₜ;
            place = subst (λ (x : Cursor). x.at ≤ most_bytes) (sym q) a;
            fine = z;
          }

    pub try-end : p.to ≤ k → c ≡ tried p.from first start
    unfolding try_items
    try-end h = sym (sym l.same ∙ none-on (λ (is : List Item) (ss : List Slot). try_items src is ss c) p ws k t (let w = l.within.rows in omega (arith, h, w)))

-- a walk that ends as a state fits everywhere, and ends where the items do
pub tried-is : (src : List ℕ) (is : List Item) (ss : List Slot) (c : Cursor) → (try_items src is ss c).why ≡ 0 → try_items src is ss c ≡ nexts is (means src is ss) c
unfolding try_items nexts means
tried-is src [] ss c z = refl
tried-is src (i ∷ is) [] c z = refl
tried-is src (i ∷ is) (s ∷ ss) c z =
    let u = no-state (good src i s c) (try_items src is ss (next i (held src i s) c)) z in
    u.1 ∙ tried-is src is ss (next i (held src i s) c) (ap (λ (x : Cursor). x.why) (sym u.1) ∙ z)

pub tried-at : (src : List ℕ) (is : List Item) (ss : List Slot) (c : Cursor) → (try_items src is ss c).why ≡ 0
    → (try_items src is ss c).at ≡ c.at + length (write is (means src is ss) c)
tried-at src is ss c z = ap (λ (x : Cursor). x.at) (tried-is src is ss c z) ∙ nexts-at is (means src is ss) c
