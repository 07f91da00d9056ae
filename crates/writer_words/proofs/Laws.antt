-- Laws that the proofs of this crate cite. Assumes nothing.
use mathlib.Core.Path.{◌≡◌, refl, sym, ap, ap₂, ◌∙◌}
use Prim.Native.Nat.{ℕ, ◌+◌}
use native.Mathlib.Nat.{add-zero}
use mathlib.Core.Bool.{Bool, true, false, cond}
use mathlib.Core.List.{List}
use mathlib.Core.Logic.{◌⊎◌, inl, inr}
use lib.ListN.{drop, get_or}
use lib.Seq.{get_or-drop}
use lib.Dec.{eqb}
use Rattle.meaning.specs.declared.Item.{Item}
use Rattle.meaning.specs.declared.Shape.{Shape}
use Rattle.meaning.specs.declared.Shape.TheVariants.{Number, Ignored, Count, Size, Times, Earlier, Registers, Filled, Abi, Limit, Listed, Bytes, Pad, Name}
use Rattle.meaning.specs.Values.{Slot, slot, tell, words_of, slot_told, slot_off, last_told, before_told}
use Rattle.meaning.specs.declared.Spot.{Spot}
use Rattle.writer_words.specs.declared.Wording.{Wording}
use Rattle.writer_words.specs.declared.Wording.TheVariants.{Unspoken, Plain, LastCount, NextCount, Listing}
use Rattle.writer_words.specs.declared.ListCount.{ListCount}
use Rattle.writer_words.specs.declared.ListCount.TheVariants.{Last, Before, Own}
use Rattle.writer_words.specs.Tellings.{Telling, telling, telling_by, list_by, start_at, given_slot, reached_after}

-- ---- the table of tellings is what the definitions say

abbrev pub slot_by : Telling → Bool → ℕ → ℕ → ℕ → ℕ → Slot
slot_by k on n old first second =
    slot (cond k.number first 0) (cond k.list first 0) (cond k.last (cond on n 0) (cond k.earlier (cond on old 0) (cond (eqb k.many 2) second 0)))

slot_row : (sh : Shape) (n old : ℕ) (ws : List ℕ) → slot_by (telling sh) true n old (get_or ws 0 0) (get_or ws 1 0) ≡ slot_told sh n old ws
unfolding telling slot_told
slot_row (Number w) n old ws = refl
slot_row (Ignored k) n old ws = refl
slot_row (Count w) n old ws = refl
slot_row (Size w) n old ws = refl
slot_row (Times k) n old ws = refl
slot_row (Earlier k) n old ws = refl
slot_row Registers n old ws = refl
slot_row Filled n old ws = refl
slot_row (Abi m) n old ws = refl
slot_row (Limit k) n old ws = refl
slot_row (Listed k) n old ws = refl
slot_row (Bytes k) n old ws = refl
slot_row Pad n old ws = refl
slot_row Name n old ws = refl

slot-by : (sh : Shape) (on : Bool) (n old : ℕ) (ws : List ℕ)
    → slot_by (telling sh) on n old (get_or ws 0 0) (get_or ws 1 0) ≡ cond on (slot_told sh n old ws) (slot_off sh ws)
slot-by sh true n old ws = slot_row sh n old ws
slot-by sh false n old ws = slot_row sh 0 0 ws

-- `given_by`
pub given_is : (ws : List ℕ) (t : Spot) (i : Item) (k : Telling) → k ≡ telling i.shape
    → slot_by k i.on t.n t.old (get_or ws t.at 0) (get_or ws (t.at + 1) 0) ≡ given_slot ws t i
given_is ws t i k tells =
    let at0 : get_or ws t.at 0 ≡ get_or (drop t.at ws) 0 0 = sym (get_or-drop t.at ws 0 0 ∙ ap (λ (m : ℕ). get_or ws m 0) (add-zero t.at)) in
    let at1 : get_or ws (t.at + 1) 0 ≡ get_or (drop t.at ws) 1 0 = sym (get_or-drop t.at ws 1 0) in
    ap₂ (λ (x y : ℕ). slot_by k i.on t.n t.old x y) at0 at1
    ∙ ap (λ (h : Telling). slot_by h i.on t.n t.old (get_or (drop t.at ws) 0 0) (get_or (drop t.at ws) 1 0)) tells
    ∙ slot-by i.shape i.on t.n t.old (drop t.at ws)

pub given-number : (ws : List ℕ) (t : Spot) (i : Item) (w : Wording) (first : ℕ) → telling_by w ≡ telling i.shape
    → (w ≡ Plain) ⊎ ((w ≡ LastCount) ⊎ (w ≡ NextCount)) → first ≡ get_or ws t.at 0 → slot first 0 0 ≡ given_slot ws t i
given-number ws t i w first tells (inl e) f = rw f (given_is ws t i (telling_by Plain) (rw e at tells))
given-number ws t i w first tells (inr (inl e)) f = rw f (given_is ws t i (telling_by LastCount) (rw e at tells))
given-number ws t i w first tells (inr (inr e)) f = rw f (given_is ws t i (telling_by NextCount) (rw e at tells))

-- the counts that are remembered, of an item that is on or off
pub counts-on : (t s : Spot) (on : Bool) → on ≡ true → s ≡ t → (s.n ≡ cond on t.n 0) × (s.old ≡ cond on t.old 0)
counts-on t s on o e = rw (o, e) (refl, refl)

pub counts-off : (t s : Spot) (on : Bool) → on ≡ false → s ≡ start_at t.at → (s.n ≡ cond on t.n 0) × (s.old ≡ cond on t.old 0)
counts-off t s on o e = rw (o, e) (refl, refl)

pub given-last : (ws : List ℕ) (t : Spot) (i : Item) (first n : ℕ) → list_by Last ≡ telling i.shape → first ≡ get_or ws t.at 0 → n ≡ cond i.on t.n 0
    → slot 0 first n ≡ given_slot ws t i
given-last ws t i first n tells f e = rw (f, e) (given_is ws t i (list_by Last) tells)

pub given-before : (ws : List ℕ) (t : Spot) (i : Item) (first n : ℕ) → list_by Before ≡ telling i.shape → first ≡ get_or ws t.at 0 → n ≡ cond i.on t.old 0
    → slot 0 first n ≡ given_slot ws t i
given-before ws t i first n tells f e = rw (f, e) (given_is ws t i (list_by Before) tells)

pub given-own : (ws : List ℕ) (t : Spot) (i : Item) (first n : ℕ) → list_by Own ≡ telling i.shape → first ≡ get_or ws t.at 0 → n ≡ get_or ws (t.at + 1) 0
    → slot 0 first n ≡ given_slot ws t i
given-own ws t i first n tells f e = rw (f, e) (given_is ws t i (list_by Own) tells)

-- `after`
After : Shape → ℕ → ℕ → ℕ → Type 0
After sh n old first =
    ((telling sh).many ≡ words_of sh)
    × (cond (telling sh).keeps first n ≡ last_told sh n first)
    × (cond (telling sh).shifts n old ≡ before_told sh n old)

after-row : (sh : Shape) (n old first : ℕ) → After sh n old first
unfolding After telling tell last_told before_told
after-row (Number w) n old first = (refl, refl, refl)
after-row (Ignored k) n old first = (refl, refl, refl)
after-row (Count w) n old first = (refl, refl, refl)
after-row (Size w) n old first = (refl, refl, refl)
after-row (Times k) n old first = (refl, refl, refl)
after-row (Earlier k) n old first = (refl, refl, refl)
after-row Registers n old first = (refl, refl, refl)
after-row Filled n old first = (refl, refl, refl)
after-row (Abi m) n old first = (refl, refl, refl)
after-row (Limit k) n old first = (refl, refl, refl)
after-row (Listed k) n old first = (refl, refl, refl)
after-row (Bytes k) n old first = (refl, refl, refl)
after-row Pad n old first = (refl, refl, refl)
after-row Name n old first = (refl, refl, refl)

-- as the code has it: an item that is off; one that is on, by its wording; and one that is on and no count
module _ (ws : List ℕ) (t : Spot) (i : Item) (many : ℕ) (m : many ≡ words_of i.shape) where
  pub after_off : i.on ≡ false → ◌≡◌ {A = Spot} (record { at = t.at + many; n = t.n; old = t.old }) (reached_after ws t i)
  after_off o = rw (o, m)

  module _ (o : i.on ≡ true) where
    pub after_on : (k : Telling) (first : ℕ) → k ≡ telling i.shape → first ≡ get_or ws t.at 0
        → ◌≡◌ {A = Spot} (record { at = t.at + many; n = cond k.keeps first t.n; old = cond k.shifts t.n t.old }) (reached_after ws t i)
    unfolding After
    after_on k first tells f =
        let at0 : first ≡ get_or (drop t.at ws) 0 0 = f ∙ sym (get_or-drop t.at ws 0 0 ∙ ap (λ (x : ℕ). get_or ws x 0) (add-zero t.at)) in
        let b = after-row i.shape t.n t.old first in
        let q : cond k.keeps first t.n ≡ last_told i.shape t.n (get_or (drop t.at ws) 0 0) =
        ap (λ (h : Telling). cond h.keeps first t.n) tells ∙ b.1 ∙ ap (λ (x : ℕ). last_told i.shape t.n x) at0 in
        let r : cond k.shifts t.n t.old ≡ before_told i.shape t.n t.old = ap (λ (h : Telling). cond h.shifts t.n t.old) tells ∙ b.2 in
        rw o (λ j. record { at = t.at + m j; n = q j; old = r j })

    pub after_same : (w : Wording) → telling_by w ≡ telling i.shape → (w ≡ Unspoken) ⊎ ((w ≡ Plain) ⊎ ((c : ListCount) × (w ≡ Listing c)))
        → ◌≡◌ {A = Spot} (record { at = t.at + many; n = t.n; old = t.old }) (reached_after ws t i)
    after_same w tells (inl e) = after_on (telling_by Unspoken) _ (rw e at tells) refl
    after_same w tells (inr (inl e)) = after_on (telling_by Plain) _ (rw e at tells) refl
    after_same w tells (inr (inr (Last, e))) = after_on (telling_by (Listing Last)) _ (rw e at tells) refl
    after_same w tells (inr (inr (Before, e))) = after_on (telling_by (Listing Before)) _ (rw e at tells) refl
    after_same w tells (inr (inr (Own, e))) = after_on (telling_by (Listing Own)) _ (rw e at tells) refl
