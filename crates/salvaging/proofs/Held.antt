-- What holds between two turns of the walk, of the pass that writes and of the one that measures. Assumes nothing.
use Rattle.std.specs.Prelude.{◌≡◌, ℕ, ◌-◌, ◌<◌, ◌≤◌, Bool, true, false, cond, not, eqb, List, refl, length, take, drop, Option, Some, None, unwrap_or, IfSome}
use Rattle.std.proofs.Common.{sym, ap, ◌∙◌, subst, arith, take_all, length-drop, eq-eqb, ne_eqb}
use Rattle.meaning.specs.Bytes.{put}
use Rattle.salvage.specs.declared.Walk.{Walk}
use Rattle.salvage.specs.Salvage.{output, holes, changes}
use Rattle.salvage.specs.Walks.{walk, closed, advanced, advanced_by, out_by, list_by, list_closed, SalvageStands, Room, Wrote}
use Rattle.salvage.proofs.Turns.{size_at, Ended, stands-start, stands-again, stands-end, wrote-start, write_again, write-end, wrote_by, wrote-kept, by-kept}

-- The writing pass has written the first part of both buffers; the measuring one leaves them as they were.
abbrev pub Held : Bool → (List ℕ → ℕ) → List ℕ → List ℕ → List ℕ → Walk → List ℕ → List ℕ → Type 0
Held true judge xs out₀ list₀ w out list = Wrote judge xs out₀ list₀ w out list
Held false judge xs out₀ list₀ w out list = SalvageStands judge xs w × (out ≡ out₀) × (list ≡ list₀)

-- what a const parameter says, by its number
abbrev pub writes : ℕ → Bool
writes n = not (eqb n 0)

pub is-on : (n : ℕ) → (n ≡ 0 → ⊥) → writes n ≡ true
is-on n h = ap not (ne_eqb n 0 h)

pub is-off : (n : ℕ) → n ≡ 0 → writes n ≡ false
is-off n h = ap not (eq-eqb n 0 h)

pub on-is : (n : ℕ) → (n ≡ 0 → ⊥) → (xs ys : List ℕ) → xs ≡ cond (writes n) xs ys
on-is n h xs ys = sym (ap (λ (b : Bool). cond b xs ys) (is-on n h))

pub off-is : (n : ℕ) → n ≡ 0 → (xs ys : List ℕ) → ys ≡ cond (writes n) xs ys
off-is n h xs ys = sym (ap (λ (b : Bool). cond b xs ys) (is-off n h))

-- what is asked where a record is kept
pub where-kept : {P : Type 0} (k : Option ℕ) → IfSome k (λ size. 0 < size) → (0 < unwrap_or k 0 → P) → IfSome k (λ size. P)
where-kept None h f = tt
where-kept (Some size) h f = f h

-- the part that is lent is what is left
pub size_is : (judge : List ℕ → ℕ) (xs : List ℕ) (at n : ℕ) → at < length xs → n ≡ size_at judge (take (length xs - at) (drop at xs)) → n ≡ size_at judge (drop at xs)
size_is judge xs at n l h = h ∙ ap (size_at judge) (take_all (length xs - at) (drop at xs) (omega (arith, length-drop at xs)))

module _ (judge : List ℕ → ℕ) (xs out₀ list₀ : List ℕ) where
  pub held-start : (b : Bool) → Held b judge xs out₀ list₀ (walk 0 0 0 0) out₀ list₀
  held-start true = wrote-start judge xs out₀ list₀
  held-start false = (stands-start judge xs, refl, refl)

  module _ (w : Walk) (out list : List ℕ) where
    pub held-stands : (b : Bool) → Held b judge xs out₀ list₀ w out list → SalvageStands judge xs w
    held-stands true h = h.stands
    held-stands false h = h.0

    pub held-wrote : (b : Bool) → b ≡ true → Held b judge xs out₀ list₀ w out list → Wrote judge xs out₀ list₀ w out list
    held-wrote b e h = subst (λ (t : Bool). Held t judge xs out₀ list₀ w out list) e h

    -- a turn, by the record that is kept, if one is
    pub held-again : (b : Bool) → (b ≡ true → Room judge xs out₀ list₀) → Held b judge xs out₀ list₀ w out list → w.at < length xs
        → (k : Option ℕ) → IfSome k (λ size. 0 < size) → unwrap_or k 0 ≡ size_at judge (drop w.at xs)
        → (out' list' : List ℕ) → out' ≡ cond b (out_by xs w k out) out → list' ≡ cond b (list_by w k list) list
        → Held b judge xs out₀ list₀ (advanced_by w k (length xs - w.at)) out' list'
    held-again true room h more k p e out' list' eo el =
        wrote_by judge xs out₀ list₀ _ _ _ _ _ _ (write_again judge xs out₀ list₀ (room refl) w out list h more (unwrap_or k 0) e)
        (by-kept w k (length xs - w.at) p) (eo ∙ (wrote-kept xs w k out list p).0) (el ∙ (wrote-kept xs w k out list p).1)
    held-again false room h more k p e out' list' eo el = (
      subst (SalvageStands judge xs) (sym (by-kept w k (length xs - w.at) p)) (stands-again judge xs w h.0 more (unwrap_or k 0) e),
      eo ∙ h.1,
      el ∙ h.2,
    )

    -- the end
    pub held-end : (b : Bool) → (b ≡ true → Room judge xs out₀ list₀) → Held b judge xs out₀ list₀ w out list → length xs ≤ w.at
        → (out ≡ cond b (put out₀ 0 (output judge xs)) out₀)
        × (cond b (list_closed w list) list ≡ cond b (put list₀ 0 (changes (holes judge xs))) list₀)
    held-end true room h end = write-end judge xs out₀ list₀ (room refl) w out list h end
    held-end false room h end = (h.1, h.2)
