-- Two records side by side: an item whose bytes that are looked at are the same is read alike; then items one after the other. Assumes nothing.
use Rattle.std.proofs.Math.Path.{◌≡◌, refl, sym, ap, ap₂}
use Rattle.std.proofs.Common.{◌∙◌, subst, ⊎_elim, add-zero, add-one, arith, take-add, drop-drop, drop_at, length-take-le}
use Rattle.std.specs.Prelude.{Bool, ◌&&◌, get_or, eqb}
use Rattle.std.proofs.Math.Bool.{true, false, cond}
use mathlib.Core.List.{List, [], ◌∷◌, ◌++◌}
use Prim.Native.Nat.{ℕ, suc, ◌+◌, ◌-◌, ◌<◌, ◌≤◌, min}
use Rattle.std.proofs.Math.ListN.{length, take, drop, length-take, length-drop}
use Rattle.std.proofs.Math.Seq.{take_all, take-take}
use Rattle.std.proofs.Math.Dec.{leb, ltb}
use borrow.Author.Tests.{eq-eqb, eqb-true, eqb-false, ne_eqb, ltb-true, leb-true}
use Rattle.meaning.specs.States.{Cursor}
use Rattle.meaning.specs.declared.Item.{Item}
use Rattle.meaning.specs.declared.Shape.{Shape}
use Rattle.meaning.specs.declared.Shape.TheVariants.{Ignored, Listed, Pad, Name}
use Rattle.meaning.specs.Bytes.{zero_in}
use Rattle.meaning.specs.Items.{Con, con, cursor, refuse, span, rule, holds, past, part, settle, shape_step, step, walk, content, contents}
use Rattle.meaning.specs.Records.{origin}
use Rattle.laws.specs.Bytes.{and-true, le-or-lt}
use Rattle.laws.specs.There.{item}
use Rattle.laws.specs.Again.{fine, stepped, ItemPassed, item-passed, outcome}
use Rattle.blocks.specs.Seen.{walk-append}
use Rattle.blocks.specs.Steady.{steady, total, steady-in, steady-out}
use Rattle.compare.proofs.Pairs.{same_bytes_lem}
use Rattle.twins.specs.Twins.{Abreast, Read, Twins}
use Rattle.same_parts.specs.Parts.{same_span, same_but_four, name_same}

-- ---- an item of both

module _ (s t : List ℕ) (long : length t ≡ length s) (sh : Shape) (c : Cursor) where
  abbrev S : List ℕ
  S = drop c.at s

  abbrev T : List ℕ
  T = drop c.at t

  rest-long : length T ≡ length S
  rest-long = length-drop c.at t ∙ ap (λ (n : ℕ). n - c.at) long ∙ sym (length-drop c.at s)

  part-long : length (part sh c T) ≡ length (part sh c S)
  unfolding part
  part-long =
      length-take (span sh c (length T)) T ∙ ap (λ (n : ℕ). min (span sh c n) n) rest-long ∙ sym (length-take (span sh c (length S)) S)

  -- a step is made of the item's own bytes, and of how many are left
  pub read_by : rule sh c (part sh c T) ≡ rule sh c (part sh c S) → holds sh c (part sh c T) ≡ holds sh c (part sh c S) → Read s t sh c
  unfolding shape_step
  read_by r h = record {
    step_is = λ j. cond (leb (span sh c (rest-long j)) (rest-long j)) (settle (r j) c (past sh (h j) (part-long j) c)) (refuse 30 c);
    held = h;
  }

  -- all of its bytes
  pub read_whole : take (span sh c (length S)) T ≡ take (span sh c (length S)) S → Read s t sh c
  unfolding part
  read_whole e =
      let p : part sh c T ≡ part sh c S = ap (λ (n : ℕ). take (span sh c n) T) rest-long ∙ e in
      read_by (ap (rule sh c) p) (ap (holds sh c) p)

  -- none of them
  pub read-ignored : (k : ℕ) → sh ≡ Ignored k → Read s t sh c
  unfolding rule holds
  read-ignored k e = read_by (ap (λ (z : Shape). rule z c (part sh c T)) e ∙ sym (ap (λ (z : Shape). rule z c (part sh c S)) e)) (ap (λ (z : Shape). holds z c (part sh c T)) e ∙ sym (ap (λ (z : Shape). holds z c (part sh c S)) e))

  pub read-pad : sh ≡ Pad → Read s t sh c
  unfolding rule holds
  read-pad e = read_by (ap (λ (z : Shape). rule z c (part sh c T)) e ∙ sym (ap (λ (z : Shape). rule z c (part sh c S)) e)) (ap (λ (z : Shape). holds z c (part sh c T)) e ∙ sym (ap (λ (z : Shape). holds z c (part sh c S)) e))

  -- the build id's bytes that it has
  pub read-listed : (k : ℕ) → sh ≡ Listed k → c.n ≤ k → take c.n T ≡ take c.n S → Read s t sh c
  unfolding rule holds part span
  read-listed k e l h = read_by
      (ap (λ (z : Shape). rule z c (part sh c T)) e ∙ sym (ap (λ (z : Shape). rule z c (part sh c S)) e))
      (ap (λ (z : Shape). holds z c (part z c T)) e
      ∙ ap (λ (z : List ℕ). con 0 z) (take-take c.n k T l ∙ h ∙ sym (take-take c.n k S l))
      ∙ sym (ap (λ (z : Shape). holds z c (part z c S)) e))

-- a zero is found at the same place where the bytes up to it are the same
zero_same : (xs ys : List ℕ) → zero_in ys < length ys → take (suc (zero_in ys)) xs ≡ take (suc (zero_in ys)) ys → zero_in xs ≡ zero_in ys
unfolding zero_in
zero_same xs [] l e = absurd (omega (arith, l))
zero_same [] (y ∷ ys) l e = absurd (let z : 0 ≡ suc (length (take (zero_in (y ∷ ys)) ys)) = ap length e in omega (arith, z))
zero_same (x ∷ xs) (y ∷ ys) l e = by (eqb y 0) refl l e (zero_same xs ys)
  where
    by : (b : Bool) → eqb y 0 ≡ b → cond b 0 (suc (zero_in ys)) < suc (length ys) → take (suc (cond b 0 (suc (zero_in ys)))) (x ∷ xs) ≡ take (suc (cond b 0 (suc (zero_in ys)))) (y ∷ ys)
        → (zero_in ys < length ys → take (suc (zero_in ys)) xs ≡ take (suc (zero_in ys)) ys → zero_in xs ≡ zero_in ys)
        → cond (eqb x 0) 0 (suc (zero_in xs)) ≡ cond b 0 (suc (zero_in ys))
    by true f l e r = let h : x ≡ y = ap (λ (q : List ℕ). get_or q 0 0) e in rw (eq-eqb x 0 (h ∙ eqb-true y 0 f))
    by false f l e r =
        let h : x ≡ y = ap (λ (q : List ℕ). get_or q 0 0) e in
        let m : zero_in ys < length ys = omega (arith, l) in
        rw (ne_eqb x 0 (λ z. eqb-false y 0 f (sym h ∙ z))) (ap suc (r m (ap (λ (q : List ℕ). drop 1 q) e)))

-- a name up to its zero
module _ (s : List ℕ) (sh : Shape) (c : Cursor) (e : sh ≡ Name) (k : ItemPassed sh c (drop c.at s)) where
  name-part : (l : List ℕ) → part sh c (drop c.at l) ≡ drop c.at l
  unfolding part span
  name-part l = ap (λ (z : Shape). part z c (drop c.at l)) e ∙ take_all (length (drop c.at l)) (drop c.at l) (omega arith)

  name-zero : zero_in (drop c.at s) < length (drop c.at s)
  unfolding rule
  name-zero =
      let r : rule Name c (drop c.at s) ≡ 0 = ap₂ (λ (z : Shape) (l : List ℕ). rule z c l) (sym e) (sym (name-part s)) ∙ k.kept in
      by (ltb (zero_in (drop c.at s)) (length (drop c.at s))) (leb (length (drop c.at s)) (zero_in (drop c.at s) + 8)) refl r
    where
      by : (a b : Bool) → ltb (zero_in (drop c.at s)) (length (drop c.at s)) ≡ a → ◌≡◌ {A = ℕ} (cond (a && b) 0 33) 0 → zero_in (drop c.at s) < length (drop c.at s)
      by true b f r = ltb-true _ _ f
      by false b f r = absurd (omega (arith, r))

  name-read : (t : List ℕ) → length t ≡ length s → take (zero_in (drop c.at s) + 1) (drop c.at t) ≡ take (zero_in (drop c.at s) + 1) (drop c.at s) → Read s t sh c
  unfolding rule holds
  name-read t long h =
      let S : List ℕ = drop c.at s in
      let T : List ℕ = drop c.at t in
      let z : zero_in T ≡ zero_in S = zero_same T S name-zero (ap (λ (i : ℕ). take i T) (sym (add-one (zero_in S))) ∙ h ∙ ap (λ (i : ℕ). take i S) (add-one (zero_in S))) in
      let n : length T ≡ length S = length-drop c.at t ∙ ap (λ (n : ℕ). n - c.at) long ∙ sym (length-drop c.at s) in
      let f : take (zero_in S) T ≡ take (zero_in S) S =
      sym (take-take (zero_in S) (zero_in S + 1) T (omega arith)) ∙ ap (λ (l : List ℕ). take (zero_in S) l) h ∙ take-take (zero_in S) (zero_in S + 1) S (omega arith) in
      let g : (l : List ℕ) → rule sh c (part sh c (drop c.at l)) ≡ rule Name c (drop c.at l) = λ (l : List ℕ). ap₂ (λ (q : Shape) (m : List ℕ). rule q c m) e (name-part l) in
      let v : (l : List ℕ) → holds sh c (part sh c (drop c.at l)) ≡ holds Name c (drop c.at l) = λ (l : List ℕ). ap₂ (λ (q : Shape) (m : List ℕ). holds q c m) e (name-part l) in
      read_by s t long sh c
      (g t ∙ ap₂ (λ (i m : ℕ). cond (ltb i m && leb m (i + 8)) 0 33) z n ∙ sym (g s))
      (v t ∙ ap (λ (l : List ℕ). con 0 l) (ap (λ (i : ℕ). take i T) z ∙ f) ∙ sym (v s))

module _ (s t : List ℕ) (p f : ℕ) (b : Abreast s t p f) where
  pub abreast-take : (n : ℕ) → n ≤ f - p → take n (drop p t) ≡ take n (drop p s)
  abreast-take n h = sym (take-take n (f - p) (drop p t) h) ∙ ap (λ (l : List ℕ). take n l) b.bytes ∙ take-take n (f - p) (drop p s) h

  later : (m n : ℕ) (l : List ℕ) → m ≤ length l → drop m (take (m + n) l) ≡ take n (drop m l)
  later m n l h = ap (λ (z : List ℕ). drop m z) (take-add m n l) ∙ drop_at (take m l) (take n (drop m l)) m (length-take-le m l h)

  pub abreast-on : (q : ℕ) → p ≤ q → q ≤ f → Abreast s t q f
  abreast-on q l h =
      let m : ℕ = q - p in
      let n : ℕ = f - q in
      let u = b.high in
      let v = b.long in
      let ds = length-drop p s in
      let dt = length-drop p t in
      let e : f - p ≡ m + n = omega (arith, l, h) in
      let g : p + m ≡ q = omega (arith, l) in
      let z : (w : List ℕ) → m ≤ length (drop p w) → drop m (take (f - p) (drop p w)) ≡ take n (drop q w) =
      λ (w : List ℕ) (k : m ≤ length (drop p w)). ap (λ (i : ℕ). drop m (take i (drop p w))) e ∙ later m n (drop p w) k ∙ ap (λ (y : List ℕ). take n y) (drop-drop m p w ∙ ap (λ (i : ℕ). drop i w) g) in
      record {
        long = v;
        low = h;
        high = u;
        bytes = sym (z t (omega (arith, u, v, dt, l, h))) ∙ ap (λ (y : List ℕ). drop m y) b.bytes ∙ z s (omega (arith, u, ds, l, h));
      }

  -- up to the end
  pub abreast-all : f ≡ length s → drop p t ≡ drop p s
  abreast-all e =
      let v = b.long in
      let ds = length-drop p s in
      let dt = length-drop p t in
      sym (take_all (f - p) (drop p t) (omega (arith, v, dt, e))) ∙ b.bytes ∙ take_all (f - p) (drop p s) (omega (arith, ds, e))

-- ---- bytes that are compared

pub span-abreast : (s t : List ℕ) (i j : ℕ) → length t ≡ length s → same_span s t i j ≡ true → Abreast s t i j
unfolding same_span
span-abreast s t i j e h =
    let a = and-true (leb i j) _ h in
    let b = and-true (leb j (length s)) _ a.1 in
    let c = and-true (leb j (length t)) _ b.1 in
    record {
      long = e;
      low = leb-true i j a.0;
      high = leb-true j (length s) b.0;
      bytes = sym (same_bytes_lem (take (j - i) (drop i s)) (take (j - i) (drop i t)) c.1);
    }

-- ---- one item

-- its step, as that of its shape
pub shape-why : (s : List ℕ) (sh : Shape) (c : Cursor) → c.why ≡ 0 → (step s (item true sh) c).why ≡ 0 → (shape_step sh c (drop c.at s)).why ≡ 0
shape-why s sh c z h = ap (λ (b : Cursor). b.why) (sym (stepped true sh s c z)) ∙ h

pub twins-one : (s t : List ℕ) (sh : Shape) (c : Cursor) → c.why ≡ 0 → Read s t sh c → Twins s t (item true sh ∷ []) c
unfolding walk contents content
twins-one s t sh c z r = record {
  walk_is = stepped true sh t c z ∙ r.step_is ∙ sym (stepped true sh s c z);
  held = ap (λ (v : Con). v ∷ []) r.held;
}

-- ---- items one after the other

contents-append : (s : List ℕ) (is js : List Item) (c : Cursor) → contents s (is ++ js) c ≡ contents s is c ++ contents s js (walk s is c)
unfolding walk contents
contents-append s [] js c = refl
contents-append s (i ∷ is) js c = ap (λ (l : List Con). content s i c ∷ l) (contents-append s is js (step s i c))

pub twins-append : (s t : List ℕ) (is js : List Item) (c d : Cursor) → d ≡ walk s is c → Twins s t is c → Twins s t js d → Twins s t (is ++ js) c
twins-append s t is js c d e v w =
    let u = subst (λ (b : Cursor). Twins s t js b) e w in
    record {
      walk_is = walk-append t is js c ∙ ap (walk t js) v.walk_is ∙ u.walk_is ∙ sym (walk-append s is js c);
      held =
          contents-append t is js c
          ∙ ap₂ (λ (l m : List Con). l ++ m) v.held (ap (contents t js) v.walk_is ∙ u.held)
          ∙ sym (contents-append s is js c);
    }

-- a step does not go back
record Far (c d : Cursor) : Type 0 where
  m : ℕ
  is : d.at ≡ c.at + m

step-far : (s : List ℕ) (i : Item) (c : Cursor) → Far c (step s i c)
unfolding step past
step-far s i c = by (eqb c.why 0) i.on
  where
    shape-far : Far c (shape_step i.shape c (drop c.at s))
    shape-far =
        ⊎_elim (λ k. record { m = length (part i.shape c (drop c.at s)); is = ap (λ (b : Cursor). b.at) k.is })
        (λ k. record { m = 0; is = ap (λ (b : Cursor). b.at) k.is ∙ sym (add-zero c.at) }) (outcome i.shape c (drop c.at s))

    by : (a b : Bool) → Far c (cond a (cond b (shape_step i.shape c (drop c.at s)) c) c)
    by true true = shape-far
    by true false = record { m = 0; is = sym (add-zero c.at) }
    by false b = record { m = 0; is = sym (add-zero c.at) }

-- where no byte differs any more
pub twins-all : (s t : List ℕ) (is : List Item) (c : Cursor) → drop c.at t ≡ drop c.at s → Twins s t is c
unfolding walk contents step content
twins-all s t [] c e = record { walk_is = refl; held = refl }
twins-all s t (i ∷ is) c e =
    let p : step t i c ≡ step s i c = ap (λ (l : List ℕ). cond (eqb c.why 0) (cond i.on (shape_step i.shape c l) c) c) e in
    let h : content t i c ≡ content s i c = ap (λ (l : List ℕ). cond i.on (holds i.shape c (part i.shape c l)) (con 0 [])) e in
    let f = step-far s i c in
    let g : (l : List ℕ) → drop (step s i c).at l ≡ drop f.m (drop c.at l) = λ (l : List ℕ). ap (λ (n : ℕ). drop n l) f.is ∙ sym (drop-drop f.m c.at l) in
    let v = twins-all s t is (step s i c) (g t ∙ ap (λ (l : List ℕ). drop f.m l) e ∙ sym (g s)) in
    record {
      walk_is = ap (λ (b : Cursor). walk t is b) p ∙ v.walk_is;
      held = ap₂ (λ (x : Con) (l : List Con). x ∷ l) h (ap (λ (b : Cursor). contents t is b) p ∙ v.held);
    }

walk-far : (s : List ℕ) (is : List Item) (c : Cursor) → c.at ≤ (walk s is c).at
unfolding walk
walk-far s [] c = omega arith
walk-far s (i ∷ is) c = let f = (step-far s i c).is in let r = walk-far s is (step s i c) in omega (arith, f, r)

taken-far : (sh : Shape) (s : List ℕ) (c : Cursor) → ItemPassed sh c (drop c.at s) → (shape_step sh c (drop c.at s)).at ≡ c.at + span sh c (length (drop c.at s))
unfolding past
taken-far sh s c k = ap (λ (d : Cursor). d.at) k.is ∙ ap (λ (n : ℕ). c.at + n) k.long

-- the place behind an item that is selected and taken
pub step-far-on : (s : List ℕ) (sh : Shape) (c : Cursor) → c.why ≡ 0 → (step s (item true sh) c).why ≡ 0 → (step s (item true sh) c).at ≡ c.at + span sh c (length (drop c.at s))
step-far-on s sh c z h = ap (λ (d : Cursor). d.at) (stepped true sh s c z) ∙ taken-far sh s c (item-passed sh c (drop c.at s) (shape-why s sh c z h))

-- an item where no byte differs up to its end
within-one : (s t : List ℕ) (i : Item) (c : Cursor) (f : ℕ) → c.why ≡ 0 → (step s i c).why ≡ 0 → (step s i c).at ≤ f → Abreast s t c.at f
    → (step t i c ≡ step s i c) × (content t i c ≡ content s i c)
unfolding content
within-one s t i c f z h l b = by i.on refl
  where
    by : (on : Bool) → i.on ≡ on → (step t i c ≡ step s i c) × (content t i c ≡ content s i c)
    by true o =
        let p : (w : List ℕ) → step w i c ≡ shape_step i.shape c (drop c.at w) = λ (w : List ℕ). stepped i.on i.shape w c z ∙ ap (λ (v : Bool). cond v (shape_step i.shape c (drop c.at w)) c) o in
        let k = item-passed i.shape c (drop c.at s) (ap (λ (d : Cursor). d.why) (sym (p s)) ∙ h) in
        let e : (step s i c).at ≡ c.at + span i.shape c (length (drop c.at s)) = ap (λ (d : Cursor). d.at) (p s) ∙ taken-far i.shape s c k in
        let r = read_whole s t b.long i.shape c (abreast-take s t c.at f b (span i.shape c (length (drop c.at s))) (omega (arith, e, l))) in
        let q : (w : List ℕ) → content w i c ≡ holds i.shape c (part i.shape c (drop c.at w)) = λ (w : List ℕ). ap (λ (v : Bool). cond v (holds i.shape c (part i.shape c (drop c.at w))) (con 0 [])) o in
        (p t ∙ r.step_is ∙ sym (p s), q t ∙ r.held ∙ sym (q s))
    by false o =
        let p : (w : List ℕ) → step w i c ≡ c = λ (w : List ℕ). stepped i.on i.shape w c z ∙ ap (λ (v : Bool). cond v (shape_step i.shape c (drop c.at w)) c) o in
        let q : (w : List ℕ) → content w i c ≡ con 0 [] = λ (w : List ℕ). ap (λ (v : Bool). cond v (holds i.shape c (part i.shape c (drop c.at w))) (con 0 [])) o in
        (p t ∙ sym (p s), q t ∙ sym (q s))

-- items where no byte differs up to the end of the last
pub twins-within : (s t : List ℕ) (is : List Item) (c : Cursor) (f : ℕ) → (walk s is c).why ≡ 0 → (walk s is c).at ≤ f → Abreast s t c.at f → Twins s t is c
unfolding walk contents
twins-within s t [] c f z l b = record { walk_is = refl; held = refl }
twins-within s t (i ∷ is) c f z l b =
    let z₁ = fine s is (step s i c) z in
    let g = walk-far s is (step s i c) in
    let a = (step-far s i c).is in
    let o = within-one s t i c f (fine s (i ∷ []) c z₁) z₁ (omega (arith, g, l)) b in
    let r = twins-within s t is (step s i c) f z l (abreast-on s t c.at f b (step s i c).at (omega (arith, a)) (omega (arith, g, l))) in
    record {
      walk_is = ap (λ (d : Cursor). walk t is d) o.0 ∙ r.walk_is;
      held = ap₂ (λ (x : Con) (m : List Con). x ∷ m) o.1 (ap (λ (d : Cursor). contents t is d) o.0 ∙ r.held);
    }

-- ---- items of one width before the one at hand

module _ (s : List ℕ) (is js : List Item) (at n old : ℕ) (w : steady is ≡ true) (l : at ≤ length s) (z : (walk s (is ++ js) (cursor at n old 0)).why ≡ 0) where
  front-fine : (walk s is (cursor at n old 0)).why ≡ 0
  front-fine = fine s js (walk s is (cursor at n old 0)) (ap (λ (d : Cursor). d.why) (sym (walk-append s is js (cursor at n old 0))) ∙ z)

  front-there : at + total is ≤ length s
  front-there =
      ⊎_elim (λ (h : at + total is ≤ length s). h)
      (λ (h : length s < at + total is). absurd (let e = steady-out s is at n old w l h in let f = front-fine in omega (arith, e, f)))
      (le-or-lt (at + total is) (length s))

  pub front-is : walk s is (cursor at n old 0) ≡ cursor (at + total is) n old 0
  front-is = steady-in s is at n old w front-there

  pub after-fine : (walk s js (cursor (at + total is) n old 0)).why ≡ 0
  after-fine = ap (λ (d : Cursor). (walk s js d).why) (sym front-is) ∙ ap (λ (d : Cursor). d.why) (sym (walk-append s is js (cursor at n old 0))) ∙ z

  pub front-twins : (t : List ℕ) (f : ℕ) → at + total is ≤ f → Abreast s t at f → Twins s t is (cursor at n old 0)
  front-twins t f h b = twins-within s t is (cursor at n old 0) f front-fine (let e = ap (λ (d : Cursor). d.at) front-is in omega (arith, e, h)) b

-- ---- four ignored bytes between items of one width and anything

pub twins-around : (s t : List ℕ) (is js : List Item) (from k : ℕ) → steady is ≡ true → total is ≡ k → length t ≡ length s
    → (walk s (is ++ (item true (Ignored 4) ∷ js)) (origin from)).why ≡ 0 → same_but_four s t from (from + k) ≡ true
    → Twins s t (is ++ (item true (Ignored 4) ∷ js)) (origin from)
unfolding same_but_four walk span
twins-around s t is js from k w e long z h =
    let p = and-true (same_span s t from (from + k)) _ h in
    let a = span-abreast s t from (from + k) long p.0 in
    let b = span-abreast s t (from + k + 4) (length s) long p.1 in
    let lo = a.low in
    let hi = a.high in
    let l : from ≤ length s = omega (arith, lo, hi) in
    let rest : List Item = item true (Ignored 4) ∷ js in
    let c : Cursor = cursor (from + total is) 0 0 0 in
    let f = front-is s is rest from 0 0 w l z in
    let y = after-fine s is rest from 0 0 w l z in
    let v : (step s (item true (Ignored 4)) c).why ≡ 0 = fine s js (step s (item true (Ignored 4)) c) y in
    let m : (step s (item true (Ignored 4)) c).at ≡ from + total is + 4 = step-far-on s (Ignored 4) c refl v in
    let i = twins-one s t (Ignored 4) c refl (read-ignored s t long (Ignored 4) c 4 refl) in
    let g : (step s (item true (Ignored 4)) c).at ≡ from + k + 4 = omega (arith, m, e) in
    let j = twins-all s t js (step s (item true (Ignored 4)) c) (ap (λ (q : ℕ). drop q t) g ∙ abreast-all s t (from + k + 4) (length s) b refl ∙ ap (λ (q : ℕ). drop q s) (sym g)) in
    twins-append s t is rest (origin from) c (sym f) (front-twins s is rest from 0 0 w l z t (from + k) (omega (arith, e)) a)
    (twins-append s t (item true (Ignored 4) ∷ []) js c (step s (item true (Ignored 4)) c) refl i j)

-- ---- items of one width, and a name

pub twins-name : (s t : List ℕ) (is : List Item) (begin n old from : ℕ) → steady is ≡ true → begin + total is ≡ from → length t ≡ length s
    → (walk s (is ++ (item true Name ∷ [])) (cursor begin n old 0)).why ≡ 0 → name_same s t begin from ≡ true
    → Twins s t (is ++ (item true Name ∷ [])) (cursor begin n old 0)
unfolding name_same walk
twins-name s t is begin n old from w e long z h =
    let a = span-abreast s t begin (from + zero_in (drop from s) + 1) long h in
    let lo = a.low in
    let hi = a.high in
    let l : begin ≤ length s = omega (arith, lo, hi) in
    let rest : List Item = item true Name ∷ [] in
    let c : Cursor = cursor from n old 0 in
    let f : walk s is (cursor begin n old 0) ≡ c = front-is s is rest begin n old w l z ∙ ap (λ (q : ℕ). cursor q n old 0) e in
    let y : (step s (item true Name) c).why ≡ 0 = ap (λ (q : ℕ). (walk s rest (cursor q n old 0)).why) (sym e) ∙ after-fine s is rest begin n old w l z in
    let b = abreast-on s t begin (from + zero_in (drop from s) + 1) a from (omega (arith, e)) (omega arith) in
    let r = name-read s Name c refl (item-passed Name c (drop from s) (shape-why s Name c refl y)) t long (abreast-take s t from (from + zero_in (drop from s) + 1) b (zero_in (drop from s) + 1) (omega arith)) in
    twins-append s t is rest (cursor begin n old 0) c (sym f) (front-twins s is rest begin n old w l z t (from + zero_in (drop from s) + 1) (omega (arith, e)) a) (twins-one s t Name c refl r)
