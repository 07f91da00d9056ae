-- Where the flag of a record that is accepted can be seen: its name's zero is among the last eight bytes of the fields, so those eight say whether
-- a byte after it is not zero. By induction over the items before the name, whose lengths no byte changes. Assumes nothing.
use Rattle.std.specs.Prelude.{◌≡◌, Bool, true, false, cond, not, ◌&&◌, ◌||◌, get_or, leb, eqb, ltb}
use Rattle.std.proofs.Math.Path.{refl, sym, ap, subst}
use Rattle.std.proofs.Common.{◌∙◌, add-zero, arith, drop-drop, length-take-le, leb-true, ltb-true, eqb-true}
use Prim.Native.Nat.{ℕ, zero, suc, ◌+◌, ◌-◌, ◌%◌, ◌<◌, ◌≤◌}
use mathlib.Core.List.{List, [], ◌∷◌}
use Rattle.std.proofs.Math.ListN.{length, take, drop, length-drop}
use Rattle.std.proofs.Math.Seq.{take-length}
use Rattle.meaning.specs.declared.Attributes.{Attributes}
use Rattle.meaning.specs.States.{Cursor}
use Rattle.meaning.specs.declared.Item.{Item}
use Rattle.meaning.specs.declared.Shape.{Shape}
use Rattle.meaning.specs.declared.Shape.TheVariants.{Number, Ignored, Count, Size, Times, Earlier, Registers, Filled, Abi, Limit, Listed, Bytes, Pad, Name}
use Rattle.meaning.specs.Bytes.{zero_in, all_zero, stale, bit}
use Rattle.meaning.specs.Items.{span, rule, past, part, step, walk}
use Rattle.meaning.specs.Writing.{ends, named, dirty}
use Rattle.meaning.specs.Schema.{schema, schemas, trailer}
use Rattle.meaning.specs.Records.{room, origin, fields_of, fields_answer}
use Rattle.laws.specs.Bytes.{apart, and-true, unbroken}
use Rattle.laws.specs.Again.{fine, fine₁, span-ends}
use Rattle.laws.specs.Walks.{step-off, step-on, step-taken}
use Rattle.laws.specs.Answers.{fields-zero}
use Rattle.laws.specs.Every.{trailer-eights}

-- ---- bytes

-- bytes before the first zero say nothing
stale-drop : (ys : List ℕ) (k : ℕ) → k ≤ zero_in ys → stale (drop k ys) ≡ stale ys
unfolding stale zero_in
stale-drop ys zero h = refl
stale-drop [] (suc k) h = absurd (omega arith)
stale-drop (y ∷ ys) (suc k) h = go (eqb y 0) h (λ g. stale-drop ys k g)
  where
    go : (t : Bool) → suc k ≤ cond t 0 (suc (zero_in ys)) → (k ≤ zero_in ys → stale (drop k ys) ≡ stale ys)
        → stale (drop k ys) ≡ not (all_zero (drop (cond t 0 (suc (zero_in ys))) (y ∷ ys)))
    go true g r = absurd (omega (arith, g))
    go false g r = r (omega (arith, g))

-- ---- items whose length no byte changes

unfoldable wide : Shape → Bool
wide (Number w) = true
wide (Ignored k) = true
wide (Count w) = false
wide (Size w) = false
wide (Times k) = false
wide (Earlier k) = false
wide Registers = false
wide Filled = false
wide (Abi m) = false
wide (Limit k) = true
wide (Listed k) = true
wide (Bytes k) = false
wide Pad = false
wide Name = false

abbrev bytes_of : Item → ℕ
bytes_of i = cond i.on (span i.shape (origin 0) 0) 0

wide-span : (sh : Shape) (c : Cursor) (r : ℕ) → wide sh ≡ true → span sh c r ≡ span sh (origin 0) 0
unfolding wide span
wide-span (Number w) c r e = refl
wide-span (Ignored k) c r e = refl
wide-span (Count w) c r e = absurd (apart e)
wide-span (Size w) c r e = absurd (apart e)
wide-span (Times k) c r e = absurd (apart e)
wide-span (Earlier k) c r e = absurd (apart e)
wide-span Registers c r e = absurd (apart e)
wide-span Filled c r e = absurd (apart e)
wide-span (Abi m) c r e = absurd (apart e)
wide-span (Limit k) c r e = refl
wide-span (Listed k) c r e = refl
wide-span (Bytes k) c r e = absurd (apart e)
wide-span Pad c r e = absurd (apart e)
wide-span Name c r e = absurd (apart e)

-- a name that is kept has its zero among its room's last eight bytes
name-kept : (sh : Shape) (c : Cursor) (ys : List ℕ) → ends sh ≡ true → rule sh c ys ≡ 0 → (zero_in ys < length ys) × (length ys ≤ zero_in ys + 8)
unfolding ends rule
name-kept (Number w) c ys e h = absurd (apart e)
name-kept (Ignored k) c ys e h = absurd (apart e)
name-kept (Count w) c ys e h = absurd (apart e)
name-kept (Size w) c ys e h = absurd (apart e)
name-kept (Times k) c ys e h = absurd (apart e)
name-kept (Earlier k) c ys e h = absurd (apart e)
name-kept Registers c ys e h = absurd (apart e)
name-kept Filled c ys e h = absurd (apart e)
name-kept (Abi m) c ys e h = absurd (apart e)
name-kept (Limit k) c ys e h = absurd (apart e)
name-kept (Listed k) c ys e h = absurd (apart e)
name-kept (Bytes k) c ys e h = absurd (apart e)
name-kept Pad c ys e h = absurd (apart e)
name-kept Name c ys e h =
    let u = and-true (ltb (zero_in ys) (length ys)) (leb (length ys) (zero_in ys + 8)) (unbroken _ 33 (omega arith) h) in
    (ltb-true _ _ u.0, leb-true _ _ u.1)

-- a step over such an item, where nothing was refused
step-at : (xs : List ℕ) (i : Item) (c : Cursor) → wide i.shape ≡ true → (step xs i c).why ≡ 0 → (step xs i c).at ≡ c.at + bytes_of i
unfolding past
step-at xs i c w h = go i.on refl
  where
    go : (t : Bool) → i.on ≡ t → (step xs i c).at ≡ c.at + cond t (span i.shape (origin 0) 0) 0
    go true o =
        let p = step-taken xs i c h o in
        ap (λ (d : Cursor). d.at) (step-on xs i c (fine₁ xs i c h) o ∙ p.is)
        ∙ ap (λ (n : ℕ). c.at + n) (p.long ∙ wide-span i.shape c (length (drop c.at xs)) w)
    go false o = ap (λ (d : Cursor). d.at) (step-off xs i c o) ∙ sym (add-zero c.at)

-- ---- the name is the last item, always selected, and starts at a multiple of 8

unfoldable none : List Item → Bool
none [] = true
none (i ∷ is) = false

unfoldable placed : List Item → ℕ → Bool
placed [] at = false
placed (i ∷ is) at = cond (ends i.shape) (i.on && (eqb (at % 8) 0 && none is)) (wide i.shape && placed is (at + bytes_of i))

dirty-none : (is : List Item) (xs : List ℕ) (c : Cursor) → none is ≡ true → dirty xs is c ≡ false
unfolding none dirty
dirty-none [] xs c h = refl
dirty-none (i ∷ is) xs c h = absurd (apart h)

-- a name, and nothing after it; no name
name-alone : (on e s d : Bool) → on ≡ true → e ≡ true → d ≡ false → ((on && e) && s) || d ≡ s
name-alone on e true d p q r = rw (p, q)
name-alone on e false d p q r = rw (p, q) r

name-later : (on e s d : Bool) → e ≡ false → ((on && e) && s) || d ≡ d
name-later true e s d q = rw q
name-later false e s d q = refl

-- the last eight bytes are there, and say it
abbrev Last : List ℕ → Bool → Type 0
Last xs b = (8 ≤ length xs) × (b ≡ stale (drop (length xs - 8) xs))

module _ (xs : List ℕ) (m : length xs % 8 ≡ 0) where
  name-last : (i : Item) (c : Cursor) → i.on ≡ true → ends i.shape ≡ true → c.at % 8 ≡ 0 → (step xs i c).why ≡ 0 → Last xs (stale (part i.shape c (drop c.at xs)))
  unfolding part
  name-last i c o e a h =
      let R : List ℕ = drop c.at xs in
      let p = step-taken xs i c h o in
      let whole : part i.shape c R ≡ R = ap (λ (n : ℕ). take n R) (span-ends i.shape c (length R) e) ∙ take-length R in
      let k = name-kept i.shape c (part i.shape c R) e p.kept in
      let k₁ : (zero_in R < length R) × (length R ≤ zero_in R + 8) = subst (λ (ys : List ℕ). (zero_in ys < length ys) × (length ys ≤ zero_in ys + 8)) whole k in
      let lo = k₁.0 in
      let hi = k₁.1 in
      let l = length-drop c.at xs in
      let n : 8 ≤ length R = omega (arith, l, m, a, lo) in
      let q : c.at + (length R - 8) ≡ length xs - 8 = omega (arith, l, n) in (
        omega (arith, l, n),
        ap stale whole
            ∙ sym (stale-drop R (length R - 8) (omega (arith, hi, n)))
            ∙ ap stale (drop-drop (length R - 8) c.at xs ∙ ap (λ (j : ℕ). drop j xs) q),
      )

  dirty-last : (is : List Item) (c : Cursor) → placed is c.at ≡ true → (walk xs is c).why ≡ 0 → Last xs (dirty xs is c)
  unfolding placed dirty walk
  dirty-last [] c p h = absurd (apart p)
  dirty-last (i ∷ is) c p h = go (ends i.shape) refl p (λ q. dirty-last is (step xs i c) q h)
    where
      h₁ : (step xs i c).why ≡ 0
      h₁ = fine xs is (step xs i c) h

      go : (t : Bool) → ends i.shape ≡ t
          → cond t (i.on && (eqb (c.at % 8) 0 && none is)) (wide i.shape && placed is (c.at + bytes_of i)) ≡ true
          → (placed is (step xs i c).at ≡ true → Last xs (dirty xs is (step xs i c)))
          → Last xs (((i.on && ends i.shape) && stale (part i.shape c (drop c.at xs))) || dirty xs is (step xs i c))
      go true e q f =
          let u = and-true i.on (eqb (c.at % 8) 0 && none is) q in
          let v = and-true (eqb (c.at % 8) 0) (none is) u.1 in
          let r = name-last i c u.0 e (eqb-true _ _ v.0) h₁ in
          (r.0, name-alone i.on (ends i.shape) (stale (part i.shape c (drop c.at xs))) (dirty xs is (step xs i c)) u.0 e (dirty-none is xs (step xs i c) v.1) ∙ r.1)
      go false e q f =
          let u = and-true (wide i.shape) (placed is (c.at + bytes_of i)) q in
          let r = f (ap (placed is) (step-at xs i c u.0 h₁) ∙ u.1) in
          (r.0, name-later i.on (ends i.shape) (stale (part i.shape c (drop c.at xs))) (dirty xs is (step xs i c)) e ∙ r.1)

-- ---- the types that have a name

unfoldable all_placed : List (List Item) → Bool
all_placed [] = true
all_placed (is ∷ ls) = cond (named is) (placed is 8) true && all_placed ls

placed_of : (ls : List (List Item)) (k : ℕ) → all_placed ls ≡ true → named (get_or ls k []) ≡ true → placed (get_or ls k []) 8 ≡ true
unfolding all_placed named
placed_of [] k h n = absurd (apart n)
placed_of (is ∷ ls) zero h n = rw n at (and-true (cond (named is) (placed is 8) true) (all_placed ls) h).0
placed_of (is ∷ ls) (suc k) h n = placed_of ls k (and-true (cond (named is) (placed is 8) true) (all_placed ls) h).1 n

all_placed_lem : (misc : ℕ) (a : Attributes) → all_placed (schemas misc a) ≡ true
unfolding all_placed named placed none wide ends span
all_placed_lem misc a = go (bit misc 14) refl
  where
    go : (b : Bool) → bit misc 14 ≡ b → all_placed (schemas misc a) ≡ true
    go true h = rw h
    go false h = rw h

-- a record's fields that are accepted, of a type with a name: "whether any byte after the name's zero within its room is not zero"
pub fields-dirty : (kind misc : ℕ) (a : Attributes) (xs : List ℕ) → length xs % 8 ≡ 0 → named (schema kind misc a) ≡ true
    → fields_answer (schema kind misc a) (room (trailer kind a)) xs ≡ 0
    → Last (fields_of (room (trailer kind a)) xs) (dirty (fields_of (room (trailer kind a)) xs) (schema kind misc a) (origin 8))
unfolding fields_of
fields-dirty kind misc a xs m n h =
    let t : ℕ = room (trailer kind a) in
    let f = fields-zero (schema kind misc a) t xs h in
    let w = trailer-eights kind a in
    let least = f.0 in
    let l : length (take (length xs - t) xs) ≡ length xs - t = length-take-le (length xs - t) xs (omega arith) in
    dirty-last (fields_of t xs) (omega (arith, l, m, w, least)) (schema kind misc a) (origin 8) (placed_of (schemas misc a) kind (all_placed_lem misc a) n) f.1
