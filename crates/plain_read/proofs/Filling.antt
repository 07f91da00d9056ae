-- The loop that puts the words of a record's items in their places: the turn, the end; and what an accepted record gives it to start with. Assumes nothing.
use mathlib.Core.Path.{◌≡◌, refl, sym, ap, ap₂, ◌∙◌}
use mathlib.Core.Bool.{true}
use mathlib.Core.List.{List, [], ◌∷◌, ◌++◌, map}
use Prim.Native.Nat.{ℕ, ◌+◌, ◌<◌, ◌≤◌}
use native.Mathlib.Numerals.{add-one}
use native.Mathlib.Omega.{arith}
use lib.ListN.{length, get_or, drop, drop_of_length-le}
use lib.Seq.{drop-cons}
use Rattle.std.specs.Prelude.{Result, Ok, Err, is_ok}
use Rattle.meaning.specs.States.{Cursor}
use Rattle.meaning.specs.declared.Item.{Item}
use Rattle.meaning.specs.declared.Reason.{Reason}
use Rattle.meaning.specs.declared.Spot.{Spot}
use Rattle.meaning.specs.Bytes.{put}
use Rattle.meaning.specs.Items.{step, walk}
use Rattle.meaning.specs.Reasons.{stepped}
use Rattle.meaning.specs.Values.{slot_item, tell, words_of, width, words}
use Rattle.laws.specs.Again.{fine}
use Rattle.laws.specs.Put.{put-nil, put-put, length-put}
use Rattle.laws.specs.Told.{words-length}
use Rattle.fields.specs.declared.Words.{Words}
use Rattle.fields.specs.Told.{words_in, told-words}
use Rattle.laws.specs.Reasons.{number-some}
use Rattle.record.specs.Into.{Fills}

-- a step that is accepted gives a spot
pub step_ok : (c : Spot) (r : Result Spot Reason) → (stepped c r).why ≡ 0 → is_ok r ≡ true
step_ok c (Ok next) h = refl
step_ok c (Err reason) h = absurd (number-some reason h)

-- ---- the loop over rows

module _ (f : ℕ → Item) (xs own : List ℕ) (c₀ : Cursor) (d₀ : List ℕ) (at₀ : ℕ) where
  abbrev items : ℕ → List Item
  items k = map f (drop k own)

  -- what is still to come is the whole
  pub record Filling (d : List ℕ) (c : Cursor) (k at : ℕ) : Type 0 where
    pub rest : Fills (items k) xs c d at
    pub same : put d at (words xs (items k) c) ≡ put d₀ at₀ (words xs (map f own) c₀)
    pub long : length d ≡ length d₀

  pub filling-start : Fills (map f own) xs c₀ d₀ at₀ → Filling d₀ c₀ 0 at₀
  filling-start g = record { rest = g; same = refl; long = refl }

  module _ (d : List ℕ) (c : Cursor) (k at : ℕ) (g : Filling d c k at) (h : k < length own) where
    abbrev here : Item
    here = f (get_or own k 0)

    next-is : items k ≡ here ∷ items (k + 1)
    next-is = rw (drop-cons own k 0 h, add-one k)

    walk-next : walk xs (items k) c ≡ walk xs (items (k + 1)) (step xs here c)
    unfolding walk
    walk-next = rw next-is

    -- its words and those of the items after it
    words-next : words xs (items k) c ≡ tell here.shape (slot_item xs here c) ++ words xs (items (k + 1)) (step xs here c)
    unfolding words
    words-next = rw next-is

    width-next : width (items k) ≡ words_of here.shape + width (items (k + 1))
    unfolding width
    width-next = rw next-is

    -- the next item is accepted
    pub filling-fine : (step xs here c).why ≡ 0
    filling-fine = fine xs (items (k + 1)) (step xs here c) (ap (λ (e : Cursor). e.why) (sym walk-next) ∙ g.rest.fine)

    pub filling-room : (t : Words) → words_in t ≡ tell here.shape (slot_item xs here c) → at + length (words_in t) ≤ length d
    filling-room t e =
        let s = told-words t here.shape (slot_item xs here c) e in
        omega (arith, s.count, width-next, g.rest.space)

    pub filling-next : (t : Words) (d' : List ℕ) (c' : Cursor) (n : ℕ) → words_in t ≡ tell here.shape (slot_item xs here c) → d' ≡ put d at (words_in t)
        → c' ≡ step xs here c → n ≡ length (words_in t) → Filling d' c' (k + 1) (at + n)
    filling-next t d' c' n et ed ec en =
        let s = told-words t here.shape (slot_item xs here c) et in
        let ws : List ℕ = tell here.shape (slot_item xs here c) in
        let rest : List ℕ = words xs (items (k + 1)) c' in
        let m : length ws ≡ n = ap length (sym et) ∙ sym en in
        let e : d' ≡ put d at ws = ed ∙ ap (put d at) s.held in
        let l : length d' ≡ length d = ap length e ∙ length-put d at ws in
        let w = width-next in
        let q = words-length (items (k + 1)) xs c' in
        record {
          rest = record {
            fine = ap (λ (e : Cursor). (walk xs (items (k + 1)) e).why) ec ∙ ap (λ (e : Cursor). e.why) (sym walk-next) ∙ g.rest.fine;
            space = omega (arith, l, w, s.count, en, g.rest.space);
          };
          same =
              ap₂ (λ (b : List ℕ) (j : ℕ). put b (at + j) rest) e (sym m)
              ∙ put-put d at ws rest (omega (arith, m, q, w, s.count, en, g.rest.space))
              ∙ ap (put d at) (ap (λ (x : Cursor). ws ++ words xs (items (k + 1)) x) ec ∙ sym words-next)
              ∙ g.same;
          long = l ∙ g.long;
        }

  over : (k : ℕ) (c : Cursor) → length own ≤ k → words xs (items k) c ≡ []
  unfolding words
  over k c h = rw (drop_of_length-le own h)

  pub filling-end : (d : List ℕ) (c : Cursor) (k at : ℕ) → Filling d c k at → length own ≤ k → d ≡ put d₀ at₀ (words xs (map f own) c₀)
  filling-end d c k at g h = sym (put-nil d at (omega (arith, g.rest.space))) ∙ ap (put d at) (sym (over k c h)) ∙ g.same
