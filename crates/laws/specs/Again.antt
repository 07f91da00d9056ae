-- What was read can be written, and is written as it was but for the ignored bytes: one step, and one induction over the items.
-- Assumes nothing.
use Rattle.std.specs.Prelude.{◌≡◌, refl, ℕ, ◌+◌, ◌%◌, ◌≤◌, Bool, true, false, cond, List, [], ◌∷◌, ◌++◌, ◌⊎◌, length, drop, leb, eqb}
use Rattle.std.proofs.Common.{sym, ap, ap₂, ◌∙◌, subst, add-zero, arith, ⊎_elim, inl, inr, length-append, length-drop, length-take-le, leb-true, eq-eqb, eqb-true, ne_eqb}
use Rattle.std.proofs.lemmas.Bool.{eqb-false}
use Rattle.meaning.specs.States.{Cursor}
use Rattle.meaning.specs.declared.Item.{Item}
use Rattle.meaning.specs.declared.Shape.{Shape}
use Rattle.meaning.specs.declared.Shape.TheVariants.{Number, Ignored, Count, Size, Times, Earlier, Registers, Filled, Abi, Limit, Listed, Bytes, Pad, Name}
use Rattle.meaning.specs.Bytes.{small, keep}
use Rattle.meaning.specs.Schema.{item}
use Rattle.meaning.specs.Items.{Con, refuse, span, rule, holds, past, part, settle, shape_step, step, walk, content, contents}
use Rattle.meaning.specs.Writing.{emit, blank, fit_shape, next, fit, write, kept, cleaned, ends}
use Rattle.laws.specs.Bytes.{apart, true-and, small-take, small-drop, length-keep}
use Rattle.laws.specs.Items.{Back, back}
use Rattle.laws.specs.There.{next-at}

-- after a refusal nothing changes, so a walk that ends without one met none
pub stuck : (xs : List ℕ) (is : List Item) (c : Cursor) → (c.why ≡ 0 → ⊥) → walk xs is c ≡ c
unfolding walk step
stuck xs [] c n = refl
stuck xs (i ∷ is) c n = rw (ne_eqb c.why 0 n) (stuck xs is c n)

pub fine : (xs : List ℕ) (is : List Item) (c : Cursor) → (walk xs is c).why ≡ 0 → c.why ≡ 0
fine xs is c h = go (eqb c.why 0) refl
  where
    go : (t : Bool) → eqb c.why 0 ≡ t → c.why ≡ 0
    go true e = eqb-true c.why 0 e
    go false e = absurd (eqb-false c.why 0 e (sym (ap (λ (d : Cursor). d.why) (stuck xs is c (eqb-false c.why 0 e))) ∙ h))

pub fine₁ : (xs : List ℕ) (i : Item) (c : Cursor) → (step xs i c).why ≡ 0 → c.why ≡ 0
unfolding walk
fine₁ xs i c h = fine xs (i ∷ []) c h

-- without a refusal before it, a step is its shape's
pub stepped : (on : Bool) (sh : Shape) (xs : List ℕ) (c : Cursor) → c.why ≡ 0 → step xs (item on sh) c ≡ cond on (shape_step sh c (drop c.at xs)) c
unfolding step
stepped on sh xs c z = rw (eq-eqb c.why 0 z)

pub span-ends : (sh : Shape) (c : Cursor) (r : ℕ) → ends sh ≡ true → span sh c r ≡ r
unfolding ends span
span-ends (Number w) c r e = absurd (apart e)
span-ends (Ignored k) c r e = absurd (apart e)
span-ends (Count w) c r e = absurd (apart e)
span-ends (Size w) c r e = absurd (apart e)
span-ends (Times k) c r e = absurd (apart e)
span-ends (Earlier k) c r e = absurd (apart e)
span-ends Registers c r e = absurd (apart e)
span-ends Filled c r e = absurd (apart e)
span-ends (Abi m) c r e = absurd (apart e)
span-ends (Limit k) c r e = absurd (apart e)
span-ends (Listed k) c r e = absurd (apart e)
span-ends (Bytes k) c r e = absurd (apart e)
span-ends Pad c r e = absurd (apart e)
span-ends Name c r e = refl

small-part : (sh : Shape) (c : Cursor) (R : List ℕ) → small R ≡ true → small (part sh c R) ≡ true
unfolding part
small-part sh c R h = small-take (span sh c (length R)) R h

pub past-at : (sh : Shape) (v : Con) (k : ℕ) (c : Cursor) (n : ℕ) → c.at + k ≤ n → (past sh v k c).at ≤ n
unfolding past
past-at sh v k c n h = h

-- an item was taken: its bytes are there, and its rule is kept
pub record ItemPassed (sh : Shape) (c : Cursor) (rest : List ℕ) : Type 0 where
  pub there : span sh c (length rest) ≤ length rest
  pub long : length (part sh c rest) ≡ span sh c (length rest)
  pub kept : rule sh c (part sh c rest) ≡ 0
  pub is : shape_step sh c rest ≡ past sh (holds sh c (part sh c rest)) (length (part sh c rest)) c

-- or it was refused, and nothing else changed
pub record Refused (c d : Cursor) : Type 0 where
  pub number : ℕ
  pub some : number ≡ 0 → ⊥
  pub is : d ≡ refuse number c

pub outcome : (sh : Shape) (c : Cursor) (rest : List ℕ) → ItemPassed sh c rest ⊎ Refused c (shape_step sh c rest)
unfolding shape_step settle part
outcome sh c rest = go (leb (span sh c (length rest)) (length rest)) (eqb (rule sh c (part sh c rest)) 0) refl refl
  where
    go : (t u : Bool) → leb (span sh c (length rest)) (length rest) ≡ t → eqb (rule sh c (part sh c rest)) 0 ≡ u
        → ItemPassed sh c rest ⊎ Refused c (shape_step sh c rest)
    go true true e f =
        let l = leb-true (span sh c (length rest)) (length rest) e in
        inl (record {
          there = l;
          long = length-take-le (span sh c (length rest)) rest l;
          kept = eqb-true (rule sh c (part sh c rest)) 0 f;
          is = rw (e, f);
        })
    go true false e f = inr (record { number = rule sh c (part sh c rest); some = eqb-false (rule sh c (part sh c rest)) 0 f; is = rw (e, f) })
    go false u e f = inr (record { number = 30; some = λ q. omega arith; is = rw e })

-- an item that was not refused was taken
pub item-passed : (sh : Shape) (c : Cursor) (rest : List ℕ) → (shape_step sh c rest).why ≡ 0 → ItemPassed sh c rest
item-passed sh c rest h = ⊎_elim (λ t. t) (λ r. absurd (r.some (sym (ap (λ (d : Cursor). d.why) r.is) ∙ h))) (outcome sh c rest)

-- one item: its content fits, is written as its kept bytes, and leads to the same state, inside the record
unfoldable pub Undone : Bool → Shape → List ℕ → Cursor → Type 0
Undone on sh xs c =
    (cond on (fit_shape sh c (content xs (item on sh) c)) (blank (content xs (item on sh) c)) ≡ true)
    × (cond on (emit sh c (content xs (item on sh) c)) [] ≡ cond on (keep (kept sh c (part sh c (drop c.at xs))) (part sh c (drop c.at xs))) [])
    × (step xs (item on sh) c ≡ next (item on sh) (content xs (item on sh) c) c)
    × ((step xs (item on sh) c).at ≤ length xs)

undone : (on : Bool) (sh : Shape) (xs : List ℕ) (c : Cursor) → small xs ≡ true → length xs % 8 ≡ 0 → c.at ≤ length xs → c.why ≡ 0
    → (step xs (item on sh) c).why ≡ 0 → Undone on sh xs c
unfolding Undone content next blank Back
undone false sh xs c s m l z h =
    let e = stepped false sh xs c z in
    (refl, refl, e, subst (λ (d : Cursor). d.at ≤ length xs) (sym e) l)
undone true sh xs c s m l z h =
    let R : List ℕ = drop c.at xs in
    let ys : List ℕ = part sh c R in
    let e : step xs (item true sh) c ≡ shape_step sh c R = stepped true sh xs c z in
    let p = item-passed sh c R (ap (λ (d : Cursor). d.why) (sym e) ∙ h) in
    let r = length-drop c.at xs in
    let t : length ys ≡ span sh c (length R) = p.long in
    let q : length ys ≤ length R = omega (arith, p.there) in
    let b = back sh c ys (length R) (small-part sh c R (small-drop c.at xs s)) (sym t)
    (λ g. let w = span-ends sh c (length R) g in let k : c.at + length ys ≡ length xs = omega (arith, w, t, r) in ap (λ (j : ℕ). j % 8) k ∙ m) p.kept in
    let k : length ys ≡ length (emit sh c (holds sh c ys)) = sym (ap length b.1 ∙ length-keep _ ys) in
    let f : step xs (item true sh) c ≡ past sh (holds sh c ys) (length ys) c = e ∙ p.is in
    (b.0, b.1, f ∙ ap (λ (j : ℕ). past sh (holds sh c ys) j c) k, subst (λ (d : Cursor). d.at ≤ length xs) (sym f) (past-at sh (holds sh c ys) (length ys) c (length xs) (omega (arith, q, r))))

-- what was read fits, is written with the ignored bytes as zero, and ends at the same place
unfoldable pub Again : List Item → List ℕ → Cursor → Type 0
Again is xs c =
    (fit is (contents xs is c) c ≡ true)
    × (write is (contents xs is c) c ≡ cleaned xs is c)
    × ((walk xs is c).at ≡ c.at + length (cleaned xs is c))

pub again : (is : List Item) (xs : List ℕ) (c : Cursor) → small xs ≡ true → length xs % 8 ≡ 0 → c.at ≤ length xs → (walk xs is c).why ≡ 0 → Again is xs c
unfolding Again Undone walk contents write fit cleaned
again [] xs c s m l h = (refl, refl, sym (add-zero c.at))
again (i ∷ is) xs c s m l h =
    let h₁ : (step xs i c).why ≡ 0 = fine xs is (step xs i c) h in
    let z : c.why ≡ 0 = fine₁ xs i c h₁ in
    let u = undone i.on i.shape xs c s m l z h₁ in
    let r = again is xs (step xs i c) s m u.3 h in
    let v : Con = content xs i c in
    let vs : List Con = contents xs is (step xs i c) in
    let st : step xs i c ≡ next i v c = u.2 in
    let w : write is vs (next i v c) ≡ cleaned xs is (step xs i c) = ap (λ (b : Cursor). write is vs b) (sym st) ∙ r.1 in
    let ys : List ℕ = cond i.on (emit i.shape c v) [] in
    let a : (step xs i c).at ≡ c.at + length ys = ap (λ (b : Cursor). b.at) st ∙ next-at i.on i.shape v c in
    let k : length ys ≡ _ = ap length u.1 in (
      true-and _ _ u.0 (ap (λ (b : Cursor). fit is vs b) (sym st) ∙ r.0),
      ap₂ (λ (p q : List ℕ). p ++ q) u.1 w,
      (let g = r.2 in let q = length-append (cond i.on (keep (kept i.shape c (part i.shape c (drop c.at xs))) (part i.shape c (drop c.at xs))) []) (cleaned xs is (step xs i c)) in omega (arith, g, a, k, q)),
    )
