-- What a stretch of items leaves behind, from a place on: the place after it, or the refusal. Stretches are joined. Assumes nothing.
use Rattle.std.specs.Prelude.{◌≡◌, refl, Bool, true, false, cond, List, [], ◌∷◌, ◌++◌, Result, Ok, Err, ℕ, ◌≤◌, length, eqb}
use Rattle.std.proofs.Common.{sym, ap, ◌∙◌, subst}
use borrow.Author.Tests.{eq-eqb, ne_eqb}
use Rattle.meaning.specs.States.{Cursor}
use Rattle.meaning.specs.declared.Item.{Item}
use Rattle.meaning.specs.Refusals.{or_else}
use Rattle.meaning.specs.Items.{cursor, step, walk}
use Rattle.meaning.specs.Records.{closed}
use Rattle.laws.specs.Again.{stuck}
use Rattle.meaning.specs.declared.Reason.{Reason}
use Rattle.meaning.specs.Reasons.{number_of}

-- every record is shorter: its size is a number of two bytes
abbrev pub size_bound : ℕ
size_bound = 65536

-- a place in a record, or why it is refused (0: it is not)
pub record Place : Type 0 where
  pub at : ℕ
  pub why : ℕ

abbrev pub place : ℕ → ℕ → Place
place at why = record { at = at; why = why }

-- what a piece of code tells, as a place
abbrev pub place_of : Result ℕ Reason → Place
place_of (Ok at) = place at 0
place_of (Err reason) = place 0 (number_of reason)

-- a refusal has no place
unfoldable pub seal : Cursor → Place
seal c = cond (eqb c.why 0) (place c.at 0) (place 0 c.why)

-- whatever was remembered before
unfoldable pub Leaves : List ℕ → List Item → ℕ → Place → Type 0
Leaves xs is at p = (n old : ℕ) → p ≡ seal (walk xs is (cursor at n old 0))

pub walk-append : (xs : List ℕ) (is js : List Item) (c : Cursor) → walk xs (is ++ js) c ≡ walk xs js (walk xs is c)
unfolding walk
walk-append xs [] js c = refl
walk-append xs (i ∷ is) js c = walk-append xs is js (step xs i c)

-- the two cases of a cursor
seal-in : (c : Cursor) → c.why ≡ 0 → seal c ≡ place c.at 0
unfolding seal
seal-in c e = rw (eq-eqb c.why 0 e)

seal-out : (c : Cursor) → (c.why ≡ 0 → ⊥) → seal c ≡ place 0 c.why
unfolding seal
seal-out c e = rw (ne_eqb c.why 0 e)

pub seal-why : (c : Cursor) → (seal c).why ≡ c.why
unfolding seal
seal-why c = go (eqb c.why 0) refl
  where
    go : (t : Bool) → eqb c.why 0 ≡ t → (cond t (place c.at 0) (place 0 c.why)).why ≡ c.why
    go true e = sym (borrow.Author.Tests.eqb-true c.why 0 e)
    go false e = refl

-- a cursor that was not refused, by its parts
whole : (c : Cursor) → c.why ≡ 0 → c ≡ cursor c.at c.n c.old 0
whole c e = λ j. record { at = c.at; n = c.n; old = c.old; why = e j }

-- one stretch after the other
pub leaves-then : (xs : List ℕ) (is js : List Item) (at : ℕ) (p q : Place) → Leaves xs is at p → p.why ≡ 0 → Leaves xs js p.at q → Leaves xs (is ++ js) at q
unfolding Leaves
leaves-then xs is js at p q h z g n old =
    let c : Cursor = walk xs is (cursor at n old 0) in
    let e : p ≡ seal c = h n old in
    let w : c.why ≡ 0 = sym (seal-why c) ∙ ap (λ (r : Place). r.why) (sym e) ∙ z in
    let a : p.at ≡ c.at = ap (λ (r : Place). r.at) (e ∙ seal-in c w) in
    g c.n c.old
    ∙ ap (λ (k : ℕ). seal (walk xs js (cursor k c.n c.old 0))) a
    ∙ ap (λ (d : Cursor). seal (walk xs js d)) (sym (whole c w))
    ∙ ap seal (sym (walk-append xs is js (cursor at n old 0)))

pub leaves-stuck : (xs : List ℕ) (is js : List Item) (at : ℕ) (p : Place) → Leaves xs is at p → (p.why ≡ 0 → ⊥) → Leaves xs (is ++ js) at p
unfolding Leaves
leaves-stuck xs is js at p h z n old =
    let c : Cursor = walk xs is (cursor at n old 0) in
    let e : p ≡ seal c = h n old in
    let w : c.why ≡ 0 → ⊥ = λ y. z (ap (λ (r : Place). r.why) e ∙ seal-why c ∙ y) in
    e ∙ ap seal (sym (stuck xs js c w)) ∙ ap seal (sym (walk-append xs is js (cursor at n old 0)))

-- ---- the answer at the end of the fields

-- whatever was remembered before
unfoldable pub Closes : List ℕ → List Item → ℕ → ℕ → Type 0
Closes xs is at x = (n old : ℕ) → x ≡ closed (length xs) (walk xs is (cursor at n old 0))

-- "31: bytes left over after the last field", at a place
unfoldable pub closed_at : ℕ → Place → ℕ
closed_at end p = or_else p.why (cond (eqb p.at end) 0 31)

pub closes-end : (xs : List ℕ) (is : List Item) (at : ℕ) (p : Place) → Leaves xs is at p → Closes xs is at (closed_at (length xs) p)
unfolding Leaves Closes closed_at closed
closes-end xs is at p h n old = go (walk xs is (cursor at n old 0)) (h n old)
  where
    end : ℕ
    end = length xs

    go : (c : Cursor) → p ≡ seal c → or_else p.why (cond (eqb p.at end) 0 31) ≡ or_else c.why (cond (eqb c.at end) 0 31)
    go c e = rw e (by (eqb c.why 0) refl)
      where
        by : (t : Bool) → eqb c.why 0 ≡ t → or_else (seal c).why (cond (eqb (seal c).at end) 0 31) ≡ or_else c.why (cond (eqb c.at end) 0 31)
        by true f = rw (seal-in c (borrow.Author.Tests.eqb-true c.why 0 f), f)
        by false f = rw (seal-out c (borrow.Author.Tests.eqb-false c.why 0 f), f)

-- one stretch, then the rest up to the end; or its refusal, which stands
pub closes-then : (xs : List ℕ) (is js : List Item) (at : ℕ) (p : Place) (x : ℕ) → Leaves xs is at p → p.why ≡ 0 → Closes xs js p.at x → Closes xs (is ++ js) at x
unfolding Leaves Closes
closes-then xs is js at p x h z g n old =
    let c : Cursor = walk xs is (cursor at n old 0) in
    let e : p ≡ seal c = h n old in
    let w : c.why ≡ 0 = sym (seal-why c) ∙ ap (λ (r : Place). r.why) (sym e) ∙ z in
    let a : p.at ≡ c.at = ap (λ (r : Place). r.at) (e ∙ seal-in c w) in
    g c.n c.old
    ∙ ap (λ (k : ℕ). closed (length xs) (walk xs js (cursor k c.n c.old 0))) a
    ∙ ap (λ (d : Cursor). closed (length xs) (walk xs js d)) (sym (whole c w))
    ∙ ap (closed (length xs)) (sym (walk-append xs is js (cursor at n old 0)))

pub closes-stuck : (xs : List ℕ) (is js : List Item) (at : ℕ) (p : Place) → Leaves xs is at p → (p.why ≡ 0 → ⊥) → Closes xs (is ++ js) at p.why
unfolding Closes closed_at
closes-stuck xs is js at p h z n old =
    let e : p.why ≡ closed_at (length xs) p = rw (ne_eqb p.why 0 z) in e ∙ closes-end xs (is ++ js) at p (leaves-stuck xs is js at p h z) n old

-- what a piece of code returns: what the stretch leaves, and a place inside the bytes
abbrev pub Ends : List ℕ → List Item → ℕ → Place → Type 0
Ends xs is at p = Leaves xs is at p × (p.why ≡ 0 → p.at ≤ length xs)

pub refusing : (xs : List ℕ) (is : List Item) (at : ℕ) (p : Place) (why : ℕ) → p ≡ place 0 why → (why ≡ 0 → ⊥) → Leaves xs is at (place 0 why) → Ends xs is at p
refusing xs is at p why e z h = (subst (Leaves xs is at) (sym e) h, λ q. absurd (z (sym (ap (λ (r : Place). r.why) e) ∙ q)))

pub going : (xs : List ℕ) (is : List Item) (at k : ℕ) → k ≤ length xs → Leaves xs is at (place k 0) → Ends xs is at (place k 0)
going xs is at k l h = (h, λ q. l)

-- a stretch that is on or off, once it is known which
pub as-known : (f : Bool → List Item) (xs : List ℕ) (at : ℕ) (p : Place) (b on : Bool) → on ≡ b → Ends xs (f b) at p → Ends xs (f on) at p
as-known f xs at p b on e h = subst (λ (t : Bool). Ends xs (f t) at p) (sym e) h

-- three stretches, one after the other, each by what its piece of code returned
module _ (xs : List ℕ) (ls bs cs : List Item) (at : ℕ) where
  pub first-refuses : (p : Place) → Ends xs ls at p → (p.why ≡ 0 → ⊥) → Ends xs (ls ++ (bs ++ cs)) at p
  first-refuses p h z = (leaves-stuck xs ls (bs ++ cs) at p h.0 z, h.1)

  pub second-refuses : (p q : Place) → Ends xs ls at p → p.why ≡ 0 → Ends xs bs p.at q → (q.why ≡ 0 → ⊥) → Ends xs (ls ++ (bs ++ cs)) at q
  second-refuses p q h z g y = (leaves-then xs ls (bs ++ cs) at p q h.0 z (leaves-stuck xs bs cs p.at q g.0 y), g.1)

  pub all_three : (p q r : Place) → Ends xs ls at p → p.why ≡ 0 → Ends xs bs p.at q → q.why ≡ 0 → Ends xs cs q.at r → Ends xs (ls ++ (bs ++ cs)) at r
  all_three p q r h z g y f = (leaves-then xs ls (bs ++ cs) at p r h.0 z (leaves-then xs bs cs p.at q r g.0 y f.0), f.1)

-- two of them
module _ (xs : List ℕ) (ls bs : List Item) (at : ℕ) where
  pub one-refuses : (p : Place) → Ends xs ls at p → (p.why ≡ 0 → ⊥) → Ends xs (ls ++ bs) at p
  one-refuses p h z = (leaves-stuck xs ls bs at p h.0 z, h.1)

  pub both_end : (p q : Place) → Ends xs ls at p → p.why ≡ 0 → Ends xs bs p.at q → Ends xs (ls ++ bs) at q
  both_end p q h z g = (leaves-then xs ls bs at p q h.0 z g.0, g.1)
