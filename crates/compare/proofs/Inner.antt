-- The loop over fields, as laws about plain values: the fields as a reader meets them, one item after the other, and one turn. Assumes nothing.
use Rattle.std.specs.Prelude.{◌≡◌, ℕ, suc, ◌+◌, ◌%◌, ◌≤◌, Bool, true, false, cond, ◌&&◌, ◌⊎◌, length, drop, eqb}
use Rattle.std.proofs.Math.Path.{refl, sym, ap₂}
use Rattle.std.proofs.Common.{ap, ◌∙◌, subst, zero-add, arith, inl, inr, ⊎_elim, length-drop}
use mathlib.Core.List.{List, [], ◌∷◌, ◌++◌, append_assoc}
use Rattle.std.proofs.lemmas.Bool.{not-true}
use Rattle.meaning.specs.States.{Cursor}
use Rattle.meaning.specs.declared.Item.{Item}
use Rattle.meaning.specs.declared.Shape.{Shape}
use Rattle.meaning.specs.declared.Shape.TheVariants.{Number, Ignored, Count, Size, Times, Earlier, Registers, Filled, Abi, Limit, Listed, Bytes, Pad, Name}
use Rattle.meaning.specs.Bytes.{small}
use Rattle.meaning.specs.Items.{Con, con, counted, before, past, step, walk, content, contents}
use Rattle.meaning.specs.Writing.{blank, fit_shape, next, fit}
use Rattle.laws.specs.Bytes.{apart, and-true}
use Rattle.meaning.specs.Schema.{item}
use Rattle.laws.specs.Again.{fine, fine₁, stepped, item-passed, past-at, Again, again}
use Rattle.compare.specs.Fields.{field, numbered}
use Rattle.compare.specs.Compared.{same, alike, agree}
use Rattle.compare.proofs.Numbered.{Owed, owed, may, owes, owes_item, tells, Level, turn}
use Rattle.compare.proofs.Pairs.{alike_same}

-- the fields of a record's items, from a reader's state on; w is the number of the item before
unfoldable pub met : List ℕ → List Item → ℕ → Cursor → List Con
met xs [] w c = []
met xs (i ∷ is) w c = cond i.on (field i.shape w c (content xs i c)) [] ++ met xs is (content xs i c).num (step xs i c)

-- of the state only the counts matter
field-same : (sh : Shape) (w : ℕ) (c d : Cursor) (v : Con) → c.n ≡ d.n → c.old ≡ d.old → field sh w c v ≡ field sh w d v
unfolding field
field-same (Number k) w c d v p q = refl
field-same (Ignored k) w c d v p q = refl
field-same (Count k) w c d v p q = refl
field-same (Size k) w c d v p q = refl
field-same (Times k) w c d v p q = ap (λ (z : ℕ). con z v.list ∷ []) p
field-same (Earlier k) w c d v p q = ap (λ (z : ℕ). con z v.list ∷ []) q
field-same Registers w c d v p q = refl
field-same Filled w c d v p q = ap (λ (z : ℕ). cond (eqb z 0) [] (v ∷ [])) p
field-same (Abi k) w c d v p q = refl
field-same (Limit k) w c d v p q = refl
field-same (Listed k) w c d v p q = ap (λ (z : ℕ). con z v.list ∷ []) p
field-same (Bytes k) w c d v p q = refl
field-same Pad w c d v p q = refl
field-same Name w c d v p q = refl

counted_same : (sh : Shape) (c d : Cursor) (v : ℕ) → c.n ≡ d.n → counted sh c v ≡ counted sh d v
unfolding counted
counted_same (Number k) c d v p = p
counted_same (Ignored k) c d v p = p
counted_same (Count k) c d v p = refl
counted_same (Size k) c d v p = refl
counted_same (Times k) c d v p = p
counted_same (Earlier k) c d v p = p
counted_same Registers c d v p = p
counted_same Filled c d v p = p
counted_same (Abi k) c d v p = refl
counted_same (Limit k) c d v p = refl
counted_same (Listed k) c d v p = p
counted_same (Bytes k) c d v p = p
counted_same Pad c d v p = p
counted_same Name c d v p = p

before_same : (sh : Shape) (c d : Cursor) → c.n ≡ d.n → c.old ≡ d.old → before sh c ≡ before sh d
unfolding before
before_same (Number k) c d p q = q
before_same (Ignored k) c d p q = q
before_same (Count k) c d p q = p
before_same (Size k) c d p q = q
before_same (Times k) c d p q = q
before_same (Earlier k) c d p q = q
before_same Registers c d p q = q
before_same Filled c d p q = q
before_same (Abi k) c d p q = q
before_same (Limit k) c d p q = q
before_same (Listed k) c d p q = q
before_same (Bytes k) c d p q = q
before_same Pad c d p q = q
before_same Name c d p q = q

after_same : (on : Bool) (sh : Shape) (xs : List ℕ) (c d : Cursor) → c.n ≡ d.n → c.old ≡ d.old → c.why ≡ 0 → (step xs (item on sh) c).why ≡ 0
    → ((step xs (item on sh) c).n ≡ (next (item on sh) (content xs (item on sh) c) d).n) × ((step xs (item on sh) c).old ≡ (next (item on sh) (content xs (item on sh) c) d).old)
unfolding next past content
after_same true sh xs c d p q z h =
    let e = stepped true sh xs c z in
    let t = item-passed sh c (drop c.at xs) (ap (λ (b : Cursor). b.why) (sym e) ∙ h) in
    let s = e ∙ t.is in
    (ap (λ (b : Cursor). b.n) s ∙ counted_same sh c d _ p, ap (λ (b : Cursor). b.old) s ∙ before_same sh c d p q)
after_same false sh xs c d p q z h =
    let e = stepped false sh xs c z in
    (ap (λ (b : Cursor). b.n) e ∙ p, ap (λ (b : Cursor). b.old) e ∙ q)

item-field : (on : Bool) (sh : Shape) (w : ℕ) (c d : Cursor) (v : Con) → c.n ≡ d.n → c.old ≡ d.old → cond on (field sh w d v) [] ≡ cond on (field sh w c v) []
item-field true sh w c d v p q = sym (field-same sh w c d v p q)
item-field false sh w c d v p q = refl

-- a walk that refuses nothing meets the fields of the contents that it reads
pub met-numbered : (is : List Item) (xs : List ℕ) (w : ℕ) (c d : Cursor) → c.n ≡ d.n → c.old ≡ d.old → (walk xs is c).why ≡ 0
    → numbered is (contents xs is c) w d ≡ met xs is w c
unfolding numbered contents met walk
met-numbered [] xs w c d p q h = refl
met-numbered (i ∷ is) xs w c d p q h =
    let h₁ = fine xs is (step xs i c) h in
    let a = after_same i.on i.shape xs c d p q (fine₁ xs i c h₁) h₁ in
    ap₂ (λ (x y : List Con). x ++ y) (item-field i.on i.shape w c d (content xs i c) p q)
    (met-numbered is xs (content xs i c).num (step xs i c) (next i (content xs i c) d) a.0 a.1 h)

-- ---- two readers in step

-- an item has a field in both records or in neither
either : (t : Bool) (u v : Con) → length (cond t [] (u ∷ [])) ≡ length (cond t [] (v ∷ []))
either true u v = refl
either false u v = refl

shape-both : (sh : Shape) (m : Owed) (w x : ℕ) (c d : Cursor) (u v : Con) → Level m w x c.n d.n c.old d.old → may sh m ≡ true → length (field sh w c u) ≡ length (field sh x d v)
unfolding field may
shape-both (Number k) m w x c d u v h o = refl
shape-both (Ignored k) m w x c d u v h o = refl
shape-both (Count k) m w x c d u v h o = refl
shape-both (Size k) m w x c d u v h o = refl
shape-both (Times k) m w x c d u v h o = refl
shape-both (Earlier k) m w x c d u v h o = refl
shape-both Registers m w x c d u v h o = ap (λ (z : ℕ). length (cond (eqb z 0) [] (u ∷ []))) (h.abi-same o).0 ∙ either (eqb x 0) u v
shape-both Filled m w x c d u v h o = ap (λ (z : ℕ). length (cond (eqb z 0) [] (u ∷ []))) (h.n-same (not-true m.n o)) ∙ either (eqb d.n 0) u v
shape-both (Abi k) m w x c d u v h o = refl
shape-both (Limit k) m w x c d u v h o = refl
shape-both (Listed k) m w x c d u v h o = refl
shape-both (Bytes k) m w x c d u v h o = refl
shape-both Pad m w x c d u v h o = refl
shape-both Name m w x c d u v h o = refl

pub item-both : (on : Bool) (sh : Shape) (m : Owed) (w x : ℕ) (c d : Cursor) (u v : Con) → Level m w x c.n d.n c.old d.old → (on ≡ true → may sh m ≡ true)
    → length (cond on (field sh w c u) []) ≡ length (cond on (field sh x d v) [])
item-both true sh m w x c d u v h o = shape-both sh m w x c d u v h (o refl)
item-both false sh m w x c d u v h o = refl

maybe : (t : Bool) (u : Con) → (length (cond t [] (u ∷ [])) ≡ 0) ⊎ (length (cond t [] (u ∷ [])) ≡ 1)
maybe true u = inl refl
maybe false u = inr refl

-- and at most one
pub shape_one : (sh : Shape) (w : ℕ) (c : Cursor) (u : Con) → (length (field sh w c u) ≡ 0) ⊎ (length (field sh w c u) ≡ 1)
unfolding field
shape_one (Number k) w c u = inr refl
shape_one (Ignored k) w c u = inl refl
shape_one (Count k) w c u = inl refl
shape_one (Size k) w c u = inl refl
shape_one (Times k) w c u = inr refl
shape_one (Earlier k) w c u = inr refl
shape_one Registers w c u = maybe (eqb w 0) u
shape_one Filled w c u = maybe (eqb c.n 0) u
shape_one (Abi k) w c u = inr refl
shape_one (Limit k) w c u = inl refl
shape_one (Listed k) w c u = inr refl
shape_one (Bytes k) w c u = inr refl
shape_one Pad w c u = inl refl
shape_one Name w c u = inr refl

-- ---- one turn: fields that are equal are passed; the first that is not ends the loop

pub pass_same : (A B R S : List Con) → alike A B ≡ true → (agree (A ++ R) (B ++ S) ≡ length A + agree R S) × (alike (A ++ R) (B ++ S) ≡ alike R S)
unfolding alike agree
pass_same [] [] R S h = (sym (zero-add (agree R S)), refl)
pass_same [] (v ∷ B) R S h = absurd (apart h)
pass_same (u ∷ A) [] R S h = absurd (apart h)
pass_same (u ∷ A) (v ∷ B) R S h =
    let p = and-true (same u v) (alike A B) h in
    let r = pass_same A B R S p.1 in
    let r₀ = r.0 in
    let e : suc (agree (A ++ R) (B ++ S)) ≡ suc (length A) + agree R S = omega (arith, r₀) in
    (rw p.0 e, rw p.0 r.1)

pub stop-other : (u v : Con) (R S : List Con) → same u v ≡ false → (agree (u ∷ R) (v ∷ S) ≡ 0) × (alike (u ∷ R) (v ∷ S) ≡ false)
unfolding alike agree
stop-other u v R S h = (rw h, rw h)

-- a field in both, and another one
pub other-field : (A B R S : List Con) → length A ≡ length B → (length A ≡ 0) ⊎ (length A ≡ 1) → alike A B ≡ false
    → (agree (A ++ R) (B ++ S) ≡ 0) × (alike (A ++ R) (B ++ S) ≡ false)
unfolding alike
other-field [] [] R S l n h = absurd (apart (sym h))
other-field [] (v ∷ B) R S l n h = absurd (let e : 0 ≡ suc (length B) = l in omega (arith, e))
other-field (u ∷ A) [] R S l n h = absurd (let e : suc (length A) ≡ 0 = l in omega (arith, e))
other-field (u ∷ []) (v ∷ []) R S l n h = stop-other u v R S (only (same u v) h)
  where
    only : (b : Bool) → b && true ≡ false → b ≡ false
    only true e = e
    only false e = refl
other-field (u ∷ []) (v ∷ w ∷ B) R S l n h = absurd (let e : 1 ≡ suc (suc (length B)) = l in omega (arith, e))
other-field (u ∷ w ∷ A) (v ∷ B) R S l n h =
    absurd (⊎_elim (λ (e : suc (suc (length A)) ≡ 0). omega (arith, e)) (λ (e : suc (suc (length A)) ≡ 1). omega (arith, e)) n)

-- ---- where two readers in step stand

-- the fields of an item, selected or not
abbrev pub fields_at : List ℕ → Item → ℕ → Cursor → List Con
fields_at s i w c = cond i.on (field i.shape w c (content s i c)) []

-- the items to come are accepted in both, what is not owed is the same in both, and what is owed is told
pub record Steady (s t : List ℕ) (is : List Item) (w x : ℕ) (c d : Cursor) : Type 0 where
  pub m : Owed
  pub level : Level m w x c.n d.n c.old d.old
  pub told : tells m is ≡ true
  pub s-in : c.at ≤ length s
  pub t-in : d.at ≤ length t
  pub s-fine : (walk s is c).why ≡ 0
  pub t-fine : (walk t is d).why ≡ 0

-- one item: its own step
pub record Item-fine (s : List ℕ) (i : Item) (c : Cursor) : Type 0 where
  pub before : c.why ≡ 0
  pub after : (step s i c).why ≡ 0

pub step-fine : (s : List ℕ) (i : Item) (is : List Item) (c : Cursor) → (walk s (i ∷ is) c).why ≡ 0 → Item-fine s i c
unfolding walk
step-fine s i is c h = let a = fine s is (step s i c) h in record { before = fine₁ s i c a; after = a }

-- a step that is not refused stays inside
step_in : (on : Bool) (sh : Shape) (s : List ℕ) (c : Cursor) → c.at ≤ length s → c.why ≡ 0 → (step s (item on sh) c).why ≡ 0 → (step s (item on sh) c).at ≤ length s
step_in true sh s c l z h =
    let e = stepped true sh s c z in
    let t = item-passed sh c (drop c.at s) (ap (λ (b : Cursor). b.why) (sym e) ∙ h) in
    let a = t.there in
    let b = t.long in
    let r = length-drop c.at s in
    subst (λ (b : Cursor). b.at ≤ length s) (sym (e ∙ t.is)) (past-at sh _ _ c (length s) (omega (arith, a, b, r, l)))
step_in false sh s c l z h = subst (λ (b : Cursor). b.at ≤ length s) (sym (stepped false sh s c z)) l

may_of : (on : Bool) (sh : Shape) (is : List Item) (m : Owed) → cond on (may sh m && tells (owes sh m) is) (tells (owed m.n m.old false) is) ≡ true
    → on ≡ true → may sh m ≡ true
may_of true sh is m h o = (and-true (may sh m) (tells (owes sh m) is) h).0
may_of false sh is m h o = absurd (apart o)

one-or-none : (on : Bool) (sh : Shape) (w : ℕ) (c : Cursor) (u : Con) → (length (cond on (field sh w c u) []) ≡ 0) ⊎ (length (cond on (field sh w c u) []) ≡ 1)
one-or-none true sh w c u = shape_one sh w c u
one-or-none false sh w c u = inl refl

module _ (s t : List ℕ) (ss : small s ≡ true) (st : small t ≡ true) (es : length s % 8 ≡ 0) (et : length t % 8 ≡ 0) (i : Item) (is : List Item) (w x : ℕ) (c d : Cursor)
    (h : Steady s t (i ∷ is) w x c d) where
  tells-head : cond i.on (may i.shape h.m && tells (owes i.shape h.m) is) (tells (owed h.m.n h.m.old false) is) ≡ true
  unfolding tells
  tells-head = h.told

  fit-head : (l : List ℕ) (e : Cursor) → small l ≡ true → length l % 8 ≡ 0 → e.at ≤ length l → (walk l (i ∷ is) e).why ≡ 0
      → cond i.on (fit_shape i.shape e (content l i e)) (blank (content l i e)) ≡ true
  unfolding Again fit contents
  fit-head l e sm ei li wl = (and-true _ _ (again (i ∷ is) l e sm ei li wl).0).0

  -- both have a field, or none
  pub turn-long : length (fields_at s i w c) ≡ length (fields_at t i x d)
  turn-long = item-both i.on i.shape h.m w x c d (content s i c) (content t i d) h.level (may_of i.on i.shape is h.m tells-head)

  -- the first that differs
  pub turn-other : (R S : List Con) → alike (fields_at s i w c) (fields_at t i x d) ≡ false
      → (agree (met s (i ∷ is) w c ++ R) (met t (i ∷ is) x d ++ S) ≡ 0) × (alike (met s (i ∷ is) w c ++ R) (met t (i ∷ is) x d ++ S) ≡ false)
  unfolding met
  turn-other R S e =
      let A : List Con = met s is (content s i c).num (step s i c) in
      let B : List Con = met t is (content t i d).num (step t i d) in
      let o = other-field (fields_at s i w c) (fields_at t i x d) (A ++ R) (B ++ S) turn-long (one-or-none i.on i.shape w c (content s i c)) e in
      let p = append_assoc (fields_at s i w c) A R in
      let q = append_assoc (fields_at t i x d) B S in
      (ap₂ (λ (a b : List Con). agree a b) p q ∙ o.0, ap₂ (λ (a b : List Con). alike a b) p q ∙ o.1)

  -- or they are equal, and on
  pub turn-same : (R S : List Con) → alike (fields_at s i w c) (fields_at t i x d) ≡ true
      → (agree (met s (i ∷ is) w c ++ R) (met t (i ∷ is) x d ++ S)
      ≡ length (fields_at s i w c) + agree (met s is (content s i c).num (step s i c) ++ R) (met t is (content t i d).num (step t i d) ++ S))
      × (alike (met s (i ∷ is) w c ++ R) (met t (i ∷ is) x d ++ S) ≡ alike (met s is (content s i c).num (step s i c) ++ R) (met t is (content t i d).num (step t i d) ++ S))
  unfolding met
  turn-same R S e =
      let A : List Con = met s is (content s i c).num (step s i c) in
      let B : List Con = met t is (content t i d).num (step t i d) in
      let o = pass_same (fields_at s i w c) (fields_at t i x d) (A ++ R) (B ++ S) e in
      let p = append_assoc (fields_at s i w c) A R in
      let q = append_assoc (fields_at t i x d) B S in
      (ap₂ (λ (a b : List Con). agree a b) p q ∙ o.0, ap₂ (λ (a b : List Con). alike a b) p q ∙ o.1)

  pub turn_on : alike (fields_at s i w c) (fields_at t i x d) ≡ true → Steady s t is (content s i c).num (content t i d).num (step s i c) (step t i d)
  unfolding walk
  turn_on e =
      let a = step-fine s i is c h.s-fine in
      let b = step-fine t i is d h.t-fine in
      let f = fit-head s c ss es h.s-in h.s-fine in
      let g = fit-head t d st et h.t-in h.t-fine in
      let r = turn i.on i.shape is (content s i c) (content t i d) w x c d [] [] h.m h.level tells-head f g (ap (λ (l : List Con). l ++ []) (alike_same (fields_at s i w c) (fields_at t i x d) e)) in
      let p = after_same i.on i.shape s c c refl refl a.before a.after in
      let q = after_same i.on i.shape t d d refl refl b.before b.after in
      let v = r.1.level in
      record {
        m = owes_item i.on i.shape h.m;
        level = record {
          n-same = λ z. p.0 ∙ v.n-same z ∙ sym q.0;
          old-same = λ z. p.1 ∙ v.old-same z ∙ sym q.1;
          abi-same = λ z. let y = v.abi-same z in (y.0, (λ k. p.0 ∙ y.1 k), (λ k. q.0 ∙ y.2 k));
        };
        told = r.0;
        s-in = step_in i.on i.shape s c h.s-in a.before a.after;
        t-in = step_in i.on i.shape t d h.t-in b.before b.after;
        s-fine = h.s-fine;
        t-fine = h.t-fine;
      }
