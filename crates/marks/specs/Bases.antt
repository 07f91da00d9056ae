-- The marks of the types: one list, compared with the layouts by computation. Assumes nothing.
use Rattle.std.proofs.Math.Path.{◌≡◌, refl, sym, ap}
use Rattle.std.proofs.Common.{◌∙◌, subst, inl, inr, ⊎_elim, add-zero, zero-add, arith, length-set, get_or-set_same, get_or-set_other}
use Rattle.std.specs.Prelude.{Bool, ◌&&◌, ◌||◌, List, [], ◌∷◌, map, ◌⊎◌, ℕ, zero, suc, ◌+◌, ◌%◌, ◌^◌, ◌<◌, ◌≤◌, length, drop, get_or, set, leb, ltb}
use Rattle.std.proofs.Math.Bool.{true, false, cond, and-false, or-true}
use Rattle.std.proofs.Math.Dec.{eqb}
use borrow.Author.Tests.{ne_eqb, eqb-true, eqb-false, leb-true, le-ltb, lt-ltb, ltb-true}
use Rattle.meaning.specs.declared.Attributes.{Attributes}
use Rattle.meaning.specs.declared.Item.{Item}
use Rattle.meaning.specs.declared.Known.{Known}
use Rattle.meaning.specs.Bytes.{bit}
use Rattle.meaning.specs.Items.{span}
use Rattle.meaning.specs.Refusals.{first}
use Rattle.meaning.specs.Editions.{unreadable}
use Rattle.meaning.specs.Schema.{read_values, sample_last, sample, schemas, schema, trailer}
use Rattle.meaning.specs.Records.{room}
use Rattle.laws.specs.Bytes.{and-true, le-or-lt}
use Rattle.laws.specs.Rows.{or-false}
use Rattle.blocks.specs.Steady.{one_width, width_of, steady, total}
use Rattle.exact.specs.Stretches.{groups, late, front, first_sum, total-append}
use Rattle.marks.specs.Judged.{no-trailer}
use Rattle.sums.specs.Sums.{sum_most, read_most, read_sum, read_count}
use Rattle.marks.specs.Marks.{last_type, open_mark, stretched_mark, refused_mark, no_type, mark_count, name_from, is_name, Marked, as-size, as-counted, as-named, as-refused, misc-unreadable, same-trailer, trail-eights}

-- by type, from 0 on: the bytes of header and fields, where all are of one width; how the bytes decide; 20 for what no edition has. READ (8) and
-- SAMPLE (9) are set apart
abbrev pub bases : List ℕ
bases =
    no_type ∷ (open_mark + 40) ∷ 24 ∷ (open_mark + 16) ∷ 32 ∷ 32 ∷ 32 ∷ 32 ∷ 8 ∷ 8 ∷ (open_mark + 72) ∷ 32 ∷ 16 ∷ 16 ∷ 8 ∷ 16 ∷ open_mark
    ∷ (open_mark + 24) ∷ 24 ∷ (open_mark + 16) ∷ open_mark ∷ 16 ∷ no_type ∷ no_type ∷ no_type ∷ no_type ∷ no_type ∷ no_type ∷ no_type ∷ no_type ∷ no_type ∷ no_type ∷ []

-- with the trailer's bytes
abbrev pub with_trailer : ℕ → ℕ → ℕ
with_trailer t b = cond (ltb b open_mark) (b + t) b

unfoldable pub bases_with : ℕ → List ℕ
bases_with t = map (with_trailer t) bases

pub bases-long : (t : ℕ) → length (bases_with t) ≡ mark_count
unfolding bases_with
bases-long t = refl

pub bases-at : (t : ℕ) (bs : List ℕ) (k : ℕ) → k < length bs → get_or (map (with_trailer t) bs) k 0 ≡ with_trailer t (get_or bs k 0)
bases-at t [] k h = absurd (omega (arith, h))
bases-at t (b ∷ bs) zero h = refl
bases-at t (b ∷ bs) (suc k) h = bases-at t bs k (omega (arith, h))

-- what a base says of a type's layout: 20; a size; a count that decides; a name
base_ok : ℕ → List Item → ℕ → Bool
base_ok kind is b =
    cond (eqb kind 0 || ltb last_type kind) (eqb b no_type)
    (cond (eqb kind 8 || eqb kind 9) true
    (cond (ltb b open_mark)
    (steady is && (eqb (8 + total is) b && (eqb (b % 8) 0 && leb b 1000)))
    (cond (eqb b open_mark) (eqb kind 16 || eqb kind 20) (ltb stretched_mark b && (ltb b refused_mark && (eqb (b % 8) 0 && eqb b (open_mark + name_from is 8)))))))

all_ok : ℕ → List (List Item) → List ℕ → Bool
all_ok n ls [] = true
all_ok n ls (b ∷ bs) = base_ok n (get_or ls 0 []) b && all_ok (suc n) (drop 1 ls) bs

all-ok : (a : Attributes) → all_ok 0 (schemas 0 a) bases ≡ true
unfolding all_ok base_ok steady one_width total width_of span name_from is_name bit
all-ok a = refl

get_or-next : {A : Type 0} (l : List A) (k : ℕ) (d : A) → get_or (drop 1 l) k d ≡ get_or l (suc k) d
get_or-next [] k d = refl
get_or-next (x ∷ l) k d = refl

ok_at : (n : ℕ) (ls : List (List Item)) (bs : List ℕ) (k : ℕ) → k < length bs → all_ok n ls bs ≡ true → base_ok (n + k) (get_or ls k []) (get_or bs k 0) ≡ true
unfolding all_ok
ok_at n ls [] k h e = absurd (omega (arith, h))
ok_at n ls (b ∷ bs) zero h e =
    ap (λ (i : ℕ). base_ok i (get_or ls 0 []) b) (add-zero n) ∙ (and-true (base_ok n (get_or ls 0 []) b) (all_ok (suc n) (drop 1 ls) bs) e).0
ok_at n ls (b ∷ bs) (suc k) h e =
    let i : n + suc k ≡ suc n + k = omega arith in
    ap (λ (j : ℕ). base_ok j (get_or ls (suc k) []) (get_or bs k 0)) i
    ∙ sym (ap (λ (x : List Item). base_ok (suc n + k) x (get_or bs k 0)) (get_or-next ls k []))
    ∙ ok_at (suc n) (drop 1 ls) bs k (omega (arith, h)) (and-true (base_ok n (get_or ls 0 []) b) (all_ok (suc n) (drop 1 ls) bs) e).1

ok : (a : Attributes) (kind : ℕ) → kind < mark_count → base_ok kind (schema kind 0 a) (get_or bases kind 0) ≡ true
ok a kind h = sym (ap (λ (i : ℕ). base_ok i (schema kind 0 a) (get_or bases kind 0)) (zero-add kind)) ∙ ok_at 0 (schemas 0 a) bases kind h (all-ok a)

-- ---- 20 and 21 by type

-- a type that the edition does not have
pub above : (k : Known) (a : Attributes) (kind misc : ℕ) → k.kinds < kind → unreadable k a kind misc ≡ 20
unfolding unreadable first
above k a kind misc h = simp (lt-ltb _ _ h, or-true)

pub type-zero : (k : Known) (a : Attributes) (misc : ℕ) → unreadable k a 0 misc ≡ 20
unfolding unreadable first
type-zero k a misc = refl

module _ (k : Known) (a : Attributes) (kind : ℕ) (l : 1 ≤ kind) (m : kind ≤ k.kinds) (x : kind ≡ 8 → ⊥) (y : kind ≡ 9 → ⊥) where
  some : kind ≡ 0 → ⊥
  some e = omega (arith, e, l)

  over : ltb k.kinds kind ≡ false
  over = le-ltb _ _ m

  over1 : ltb k.kinds 1 ≡ false
  over1 = let h : 1 ≤ k.kinds = omega (arith, l, m) in le-ltb _ _ h

  -- what an edition reads of one such type it reads of all
  pub type_reads : unreadable k a 1 0 ≡ 0 → unreadable k a kind 0 ≡ 0
  unfolding unreadable first bit
  type_reads u = by (leb (2 ^ k.samples) a.sample && a.all) refl
    where
      by : (b : Bool) → (leb (2 ^ k.samples) a.sample && a.all) ≡ b → unreadable k a kind 0 ≡ 0
      by true e = let h : ◌≡◌ {A = ℕ} 21 0 = simp (over1, e) at u in absurd (omega (arith, h))
      by false e = simp (ne_eqb kind 0 some, over, ne_eqb kind 9 y, ne_eqb kind 8 x, e, and-false)

  -- and what it refuses of one, 21, it refuses of all, whatever misc is
  pub type-refused : (w : ℕ) → unreadable k a 1 0 ≡ w → (w ≡ 0 → ⊥) → (misc : ℕ) → unreadable k a kind misc ≡ w
  unfolding unreadable first bit
  type-refused w u z misc = by (leb (2 ^ k.samples) a.sample && a.all) refl
    where
      by : (b : Bool) → (leb (2 ^ k.samples) a.sample && a.all) ≡ b → unreadable k a kind misc ≡ w
      by true e = let h : ◌≡◌ {A = ℕ} 21 w = simp (over1, e) at u in simp (ne_eqb kind 0 some, over, ne_eqb kind 9 y, e) h
      by false e = let h : ◌≡◌ {A = ℕ} 0 w = simp (over1, e, and-false) at u in absurd (z (sym h))

-- ---- the marks of the types

module _ (k : Known) (a : Attributes) (t : ℕ) (et : t ≡ room (trailer 1 a)) (lt : t ≤ sum_most) (n : k.kinds ≤ last_type) where
  abbrev base : ℕ → ℕ
  base kind = get_or bases kind 0

  twenty : (kind : ℕ) → kind < mark_count → (eqb kind 0 || ltb last_type kind) ≡ true → with_trailer t (base kind) ≡ no_type
  unfolding base_ok
  twenty kind h e =
      let o : eqb (base kind) no_type ≡ true = rw e at (ok a kind h) in
      ap (with_trailer t) (eqb-true (base kind) no_type o)

  -- one that the edition has and reads
  module _ (kind : ℕ) (l : 1 ≤ kind) (m : kind ≤ k.kinds) (x : kind ≡ 8 → ⊥) (y : kind ≡ 9 → ⊥) (u : unreadable k a 1 0 ≡ 0) where
    r : unreadable k a kind 0 ≡ 0
    r = type_reads k a kind l m x y u

    inner : cond (ltb (base kind) open_mark)
        (steady (schema kind 0 a) && (eqb (8 + total (schema kind 0 a)) (base kind) && (eqb (base kind % 8) 0 && leb (base kind) 1000)))
        (cond (eqb (base kind) open_mark) (eqb kind 16 || eqb kind 20)
        (ltb stretched_mark (base kind) && (ltb (base kind) refused_mark && (eqb (base kind % 8) 0 && eqb (base kind) (open_mark + name_from (schema kind 0 a) 8))))) ≡ true
    unfolding base_ok
    inner =
        let z : kind ≡ 0 → ⊥ = λ e. omega (arith, e, l) in
        let v : kind ≤ last_type = omega (arith, m, n) in
        let b : kind < mark_count = omega (arith, v) in
        simp (ne_eqb kind 0 z, le-ltb last_type kind v, ne_eqb kind 8 x, ne_eqb kind 9 y) at (ok a kind b)

    by_size : ltb (base kind) open_mark ≡ true → Marked k a kind (base kind + t)
    by_size e =
        let b : ℕ = base kind in
        let f : (steady (schema kind 0 a) && (eqb (8 + total (schema kind 0 a)) b && (eqb (b % 8) 0 && leb b 1000))) ≡ true = rw e at inner in
        let g = and-true (steady (schema kind 0 a)) (eqb (8 + total (schema kind 0 a)) b && (eqb (b % 8) 0 && leb b 1000)) f in
        let p = and-true (eqb (8 + total (schema kind 0 a)) b) (eqb (b % 8) 0 && leb b 1000) g.1 in
        let q = and-true (eqb (b % 8) 0) (leb b 1000) p.1 in
        let s : 8 + total (schema kind 0 a) ≡ b = eqb-true (8 + total (schema kind 0 a)) b p.0 in
        let w : b % 8 ≡ 0 = eqb-true (b % 8) 0 q.0 in
        let i : b ≤ 1000 = leb-true b 1000 q.1 in
        let v = same-trailer kind a y in
        let z = trail-eights k a in
        as-size k a kind (b + t) (omega (arith, i, lt)) (record { readable = r; one_width_lem = g.0; size = omega (arith, s, v, et); eights = omega (arith, w, z, et) })

    by_count : eqb (base kind) open_mark ≡ true → Marked k a kind (base kind)
    by_count e =
        let q : base kind ≡ open_mark = eqb-true (base kind) open_mark e in
        let o : ltb (base kind) open_mark ≡ false = ap (λ (i : ℕ). ltb i open_mark) q in
        let f : (eqb kind 16 || eqb kind 20) ≡ true = simp (o, e) at inner in
        subst (Marked k a kind) (sym q) (as-counted k a kind r (inr (one_of (eqb kind 16) refl f)))
      where
        one_of : (s : Bool) → eqb kind 16 ≡ s → (s || eqb kind 20) ≡ true → (kind ≡ 16) ⊎ (kind ≡ 20)
        one_of true e f = inl (eqb-true kind 16 e)
        one_of false e f = inr (eqb-true kind 20 f)

    by_name : ltb (base kind) open_mark ≡ false → eqb (base kind) open_mark ≡ false → Marked k a kind (base kind)
    by_name o e =
        let b : ℕ = base kind in
        let n₁ : Bool = eqb b (open_mark + name_from (schema kind 0 a) 8) in
        let f : (ltb stretched_mark b && (ltb b refused_mark && (eqb (b % 8) 0 && n₁))) ≡ true = simp (o, e) at inner in
        let g = and-true (ltb stretched_mark b) (ltb b refused_mark && (eqb (b % 8) 0 && n₁)) f in
        let h = and-true (ltb b refused_mark) (eqb (b % 8) 0 && n₁) g.1 in
        let i = and-true (eqb (b % 8) 0) n₁ h.1 in
        as-named k a kind b (ltb-true stretched_mark b g.0) (ltb-true b refused_mark h.0) r y (eqb-true (b % 8) 0 i.0) (eqb-true b (open_mark + name_from (schema kind 0 a) 8) i.1)

    pub base-marked : Marked k a kind (with_trailer t (base kind))
    base-marked = by (ltb (base kind) open_mark) (eqb (base kind) open_mark) refl refl
      where
        by : (p q : Bool) → ltb (base kind) open_mark ≡ p → eqb (base kind) open_mark ≡ q → Marked k a kind (cond p (base kind + t) (base kind))
        by true q e f = by_size e
        by false true e f = by_count f
        by false false e f = by_name e f

  -- none that the edition has
  pub no-type : (kind : ℕ) → (kind ≡ 0) ⊎ (k.kinds < kind) → Marked k a kind no_type
  no-type kind c = as-refused k a kind 20 (λ q. omega (arith, q)) (omega arith) (λ misc. ⊎_elim (λ e. ap (λ (i : ℕ). unreadable k a i misc) e ∙ type-zero k a misc) (λ h. above k a kind misc h) c)

-- ---- a table, filled with one number from a place on up to another
pub record FilledRange (p : List ℕ) (from to v : ℕ) (q : List ℕ) : Type 0 where
  pub long : length q ≡ length p
  pub inside : (j : ℕ) → from ≤ j → j < to → get_or q j 0 ≡ v
  pub low : (j : ℕ) → j < from → get_or q j 0 ≡ get_or p j 0
  pub high : (j : ℕ) → to ≤ j → get_or q j 0 ≡ get_or p j 0

pub fill_none : (p : List ℕ) (from v : ℕ) → FilledRange p from from v p
fill_none p from v = record { long = refl; inside = λ j g h. absurd (omega (arith, g, h)); low = λ j h. refl; high = λ j h. refl }

pub fill_more : (p : List ℕ) (from to v : ℕ) (q : List ℕ) → from ≤ to → to < length p → FilledRange p from to v q → FilledRange p from (to + 1) v (set q to v)
fill_more p from to v q l m f =
    record {
      long = length-set q to v ∙ f.long;
      inside = λ j g h. here j g h (eqb j to) refl;
      low = λ j h. get_or-set_other q to j v 0 (λ e. omega (arith, e, h, l)) ∙ f.low j h;
      high = λ j h. get_or-set_other q to j v 0 (λ e. omega (arith, e, h)) ∙ f.high j (omega (arith, h));
    }
  where
    here : (j : ℕ) → from ≤ j → j < to + 1 → (b : Bool) → eqb j to ≡ b → get_or (set q to v) j 0 ≡ v
    here j g h true e =
        let w = f.long in
        ap (λ (i : ℕ). get_or (set q to v) i 0) (eqb-true j to e) ∙ get_or-set_same q to v 0 (omega (arith, w, m))
    here j g h false e = let z = eqb-false j to e in get_or-set_other q to j v 0 z ∙ f.inside j g (omega (arith, h, z))

-- a range that ends before it begins
pub fill-shorter : (p : List ℕ) (from to v : ℕ) (q : List ℕ) → to ≤ from → FilledRange p from from v q → FilledRange p from to v q
fill-shorter p from to v q l f =
    record {
      long = f.long;
      inside = λ j g h. absurd (omega (arith, g, h, l));
      low = f.low;
      high = λ j h. ⊎_elim (λ (y : from ≤ j). f.high j y) (λ (y : j < from). f.low j y) (le-or-lt from j);
    }

module _ (k : Known) (a : Attributes) (t : ℕ) (et : t ≡ room (trailer 1 a)) (lt : t ≤ sum_most) (n : k.kinds ≤ last_type) (q : List ℕ) (f : FilledRange (bases_with t) (k.kinds + 1) (last_type + 1) no_type q) where
  base-value : (kind : ℕ) → kind < mark_count → get_or (bases_with t) kind 0 ≡ with_trailer t (get_or bases kind 0)
  unfolding bases_with
  base-value kind h = bases-at t bases kind h

  -- type 0, and those above the edition's
  outside : (kind : ℕ) → kind < mark_count → (kind ≡ 0) ⊎ (k.kinds < kind) → get_or q kind 0 ≡ no_type
  outside kind h c =
      ⊎_elim
      (λ (e : kind ≡ 0). f.low kind (omega (arith, e)) ∙ base-value kind h ∙ twenty k a t et lt n kind h (rw e))
      (λ (g : k.kinds < kind).
      ⊎_elim
      (λ (b : last_type + 1 ≤ kind). f.high kind b ∙ base-value kind h ∙ twenty k a t et lt n kind h (let v : last_type < kind = omega (arith, b) in simp (lt-ltb last_type kind v, or-true)))
      (λ (b : kind < last_type + 1). f.inside kind (omega (arith, g)) b)
      (le-or-lt (last_type + 1) kind))
      c

  split : (kind : ℕ) → ((kind ≡ 0) ⊎ (k.kinds < kind)) ⊎ ((1 ≤ kind) × (kind ≤ k.kinds))
  split zero = inl (inl refl)
  split (suc i) = ⊎_elim (λ (h : suc i ≤ k.kinds). inr (omega arith, h)) (λ (h : k.kinds < suc i). inl (inr h)) (le-or-lt (suc i) k.kinds)

  pub types-marked : unreadable k a 1 0 ≡ 0 → (kind : ℕ) → kind < mark_count → (kind ≡ 8 → ⊥) → (kind ≡ 9 → ⊥) → Marked k a kind (get_or q kind 0)
  types-marked u kind h x y =
      ⊎_elim
      (λ c. subst (Marked k a kind) (sym (outside kind h c)) (no-type k a t et lt n kind c))
      (λ c. subst (Marked k a kind) (sym (f.low kind (let v = c.1 in omega (arith, v)) ∙ base-value kind h)) (base-marked k a t et lt n kind c.0 c.1 x y u))
      (split kind)

  pub types-refused : (w : ℕ) → unreadable k a 1 0 ≡ w → (w ≡ 0 → ⊥) → w < 2 ^ 16 → (r : List ℕ) → FilledRange q 1 (k.kinds + 1) (refused_mark + w) r
      → (kind : ℕ) → kind < mark_count → (kind ≡ 8 → ⊥) → (kind ≡ 9 → ⊥) → Marked k a kind (get_or r kind 0)
  types-refused w u z b r g kind h x y =
      ⊎_elim
      (λ c. subst (Marked k a kind) (sym (kept kind c ∙ outside kind h c)) (no-type k a t et lt n kind c))
      (λ c.
      subst (Marked k a kind) (sym (g.inside kind c.0 (let v = c.1 in omega (arith, v))))
      (as-refused k a kind w z b (type-refused k a kind c.0 c.1 x y w u z)))
      (split kind)
    where
      kept : (kind : ℕ) → (kind ≡ 0) ⊎ (k.kinds < kind) → get_or r kind 0 ≡ get_or q kind 0
      kept kind c = ⊎_elim (λ e. g.low kind (omega (arith, e))) (λ v. g.high kind (omega (arith, v))) c

-- ---- READ and SAMPLE

abbrev pub has_lists : Attributes → Bool
has_lists a = bit a.sample 5 || (bit a.sample 10 || (bit a.sample 11 || (bit a.sample 12 || bit a.sample 13)))

-- a SAMPLE of which the size alone does not do
unfoldable pub stretched : Attributes → Bool
stretched a = groups a || (late a || has_lists a)

pub plain-parts : (a : Attributes) → stretched a ≡ false → (groups a ≡ false) × ((late a ≡ false) × (has_lists a ≡ false))
unfolding stretched
plain-parts a e = let s = or-false (groups a) (late a || has_lists a) e in let t = or-false (late a) (has_lists a) s.1 in (s.0, (t.0, t.1))

-- refused whatever misc is: neither is MMAP2
pub marked_refused : (k : Known) (a : Attributes) (kind w : ℕ) → (kind ≡ 10 → ⊥) → w ≡ unreadable k a kind 0 → (w ≡ 0 → ⊥) → w < 2 ^ 16 → Marked k a kind (refused_mark + w)
marked_refused k a kind w x u z l = as-refused k a kind w z l (λ misc. misc-unreadable k a kind misc x ∙ sym u)

pub read-marked : (k : Known) (a : Attributes) (n t : ℕ) → unreadable k a 8 0 ≡ 0 → bit a.format 3 ≡ false → n ≡ read_sum a → n ≤ read_most → n % 8 ≡ 0
    → t ≡ room (trailer 1 a) → t ≤ sum_most → Marked k a 8 (16 + (n + t))
unfolding total width_of span steady one_width
read-marked k a n t u b e l m f lt =
    let z = trail-eights k a in
    let v : room (trailer 8 a) ≡ room (trailer 1 a) = same-trailer 8 a (λ q. omega (arith, q)) in
    let c : total (read_values a true) ≡ n = read_count a b ∙ sym e in
    as-size k a 8 (16 + (n + t)) (omega (arith, l, lt)) (record { readable = u; one_width_lem = rw b; size = omega (arith, c, v, f); eights = omega (arith, z, f, m) })

-- no lists at all
module _ (a : Attributes) (g : groups a ≡ false) (t : late a ≡ false) (l : has_lists a ≡ false) where
  o5 : (bit a.sample 5 ≡ false) × ((bit a.sample 10 || (bit a.sample 11 || (bit a.sample 12 || bit a.sample 13))) ≡ false)
  o5 = or-false (bit a.sample 5) (bit a.sample 10 || (bit a.sample 11 || (bit a.sample 12 || bit a.sample 13))) l

  o10 : (bit a.sample 10 ≡ false) × ((bit a.sample 11 || (bit a.sample 12 || bit a.sample 13)) ≡ false)
  o10 = or-false (bit a.sample 10) (bit a.sample 11 || (bit a.sample 12 || bit a.sample 13)) o5.1

  o11 : (bit a.sample 11 ≡ false) × ((bit a.sample 12 || bit a.sample 13) ≡ false)
  o11 = or-false (bit a.sample 11) (bit a.sample 12 || bit a.sample 13) o10.1

  o12 : (bit a.sample 12 ≡ false) × (bit a.sample 13 ≡ false)
  o12 = or-false (bit a.sample 12) (bit a.sample 13) o11.1

  sample-steady : steady (sample a) ≡ true
  unfolding steady one_width
  sample-steady =
      let s = or-false (bit a.sample 18) (bit a.sample 20) t in rw (g, o5.0, o10.0, o11.0, o12.0, o12.1, s.0, s.1)

  sample-sum : total (sample a) ≡ total (front a) + total (sample_last a)
  unfolding total
  sample-sum = rw (o5.0, o10.0, o11.0, o12.0, o12.1) (omega arith)

  front-sum : first_sum a ≡ total (front a)
  unfolding first_sum
  front-sum =
      ap (λ (b : Bool). total (Rattle.meaning.specs.Schema.sample_first a) + cond b 0 (total (read_values a (bit a.sample 4)))) g
      ∙ sym (total-append (Rattle.meaning.specs.Schema.sample_first a) (read_values a (bit a.sample 4)))

  pub sample-marked : (k : Known) → unreadable k a 9 0 ≡ 0 → (n m : ℕ) → n ≡ first_sum a → m ≡ total (sample_last a) → n ≤ 2000 → m ≤ 2000 → n % 8 ≡ 0 → m % 8 ≡ 0
      → Marked k a 9 (8 + (n + m))
  sample-marked k u n m en em ln lm dn dm =
      let r = sample-sum in
      let f = front-sum in
      let z = no-trailer a in
      as-size k a 9 (8 + (n + m)) (omega (arith, ln, lm))
      (record { readable = u; one_width_lem = sample-steady; size = omega (arith, en, em, r, f, z); eights = omega (arith, dn, dm) })
