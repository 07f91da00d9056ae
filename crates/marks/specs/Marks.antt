-- The mark of a type: what edition and attributes alone decide of its records; and what a mark says of a record. Assumes nothing.
use Rattle.std.specs.Prelude.{◌≡◌, refl, Bool, true, false, cond, not, ◌&&◌, ◌||◌, ◌⊎◌, ℕ, zero, suc, ◌+◌, ◌-◌, ◌%◌, ◌^◌, ◌<◌, ◌≤◌, length, drop, get_or, set, eqb, leb, ltb}
use Rattle.std.proofs.Math.Path.{sym, ap}
use Rattle.std.proofs.Common.{◌∙◌, subst, inl, inr, ⊎_elim, add_assoc, arith, length-set, get_or-set_same, get_or-set_other, ne_eqb, eqb-true}
use Rattle.std.proofs.Math.Bool.{and-false}
use mathlib.Core.List.{List, [], ◌∷◌, ◌++◌}
use Rattle.std.proofs.lemmas.Bool.{eqb-false}
use Rattle.meaning.specs.declared.Attributes.{Attributes}
use Rattle.meaning.specs.declared.Item.{Item}
use Rattle.meaning.specs.declared.Known.{Known}
use Rattle.meaning.specs.declared.Shape.{Shape}
use Rattle.meaning.specs.declared.Shape.TheVariants.{Number, Ignored, Count, Size, Times, Earlier, Registers, Filled, Abi, Limit, Listed, Bytes, Pad, Name}
use Rattle.meaning.specs.Bytes.{bit}
use Rattle.meaning.specs.Refusals.{first}
use Rattle.meaning.specs.Editions.{nothing_known, editions, known, strange_branch, unreadable}
use Rattle.meaning.specs.Schema.{always, read_values, sample, mmap2, schemas, schema, trailer, u32, u64, tasks, three_words}
use Rattle.meaning.specs.Records.{layout, kind_of, misc_of, room, fields_of, judge}
use Rattle.laws.specs.Bytes.{apart, and-true}
use Rattle.laws.specs.Every.{sound}
use Rattle.blocks.specs.Seen.{Closes}
pub use Rattle.laws.specs.Reasons.{number-some}
use Rattle.blocks.specs.Steady.{one_width, steady, one, total, sizes}
use Rattle.exact.specs.Stretches.{weights, group-values}
use Rattle.exact.specs.Types.{name_answer, named-closes, group_read, namespaces, text_poke}
use Rattle.marks.specs.Judged.{unreadable-judged, short-judged, closes-judged, sized-judged, no-trailer, whole_fields}
use Rattle.laws.specs.Whole.{length_fields}

-- ---- the marks

-- no edition has a type above it
abbrev pub last_type : ℕ
last_type = 21

pub kinds-most : (e : ℕ) → (known editions e).kinds ≤ last_type
unfolding known
kinds-most e = by (e - 1)
  where
    by : (i : ℕ) → (get_or editions i nothing_known).kinds ≤ last_type
    by zero = omega arith
    by (suc zero) = omega arith
    by (suc (suc zero)) = omega arith
    by (suc (suc (suc zero))) = omega arith
    by (suc (suc (suc (suc i)))) = omega arith

-- below it a size; from it on, how the bytes decide; from `refused_mark` on, the refusal
abbrev pub open_mark : ℕ
open_mark = 65536

abbrev pub stretched_mark : ℕ
stretched_mark = 65537

abbrev pub refused_mark : ℕ
refused_mark = 131072

-- 20: no type of the edition
abbrev pub no_type : ℕ
no_type = refused_mark + 20

-- so many types have a mark; what is above them is 20
abbrev pub mark_count : ℕ
mark_count = 32

unfoldable pub is_name : Shape → Bool
is_name (Number w) = false
is_name (Ignored k) = false
is_name (Count w) = false
is_name (Size w) = false
is_name (Times k) = false
is_name (Earlier k) = false
is_name Registers = false
is_name Filled = false
is_name (Abi m) = false
is_name (Limit k) = false
is_name (Listed k) = false
is_name (Bytes k) = false
is_name Pad = false
is_name Name = true

-- where the name starts that ends a layout after items of one width; 0: there is none
unfoldable pub name_from : List Item → ℕ → ℕ
name_from [] at = 0
name_from (i ∷ []) at = cond (i.on && is_name i.shape) at 0
name_from (i ∷ (j ∷ is)) at = cond (one_width i.shape || not i.on) (name_from (j ∷ is) (at + one i)) 0

-- n is the size of every sound record of a type: all its items are of one width
pub record Wanted (k : Known) (a : Attributes) (kind n : ℕ) : Type 0 where
  pub readable : unreadable k a kind 0 ≡ 0
  pub one_width_lem : steady (schema kind 0 a) ≡ true
  pub size : n ≡ 8 + total (schema kind 0 a) + room (trailer kind a)
  pub eights : n % 8 ≡ 0

-- the three types of which a record says its own length: READ of a group, NAMESPACES, TEXT_POKE
abbrev pub Counted : Attributes → ℕ → Type 0
Counted a kind = ((kind ≡ 8) × (bit a.format 3 ≡ true)) ⊎ ((kind ≡ 16) ⊎ (kind ≡ 20))

pub record Marked (k : Known) (a : Attributes) (kind mark : ℕ) : Type 0 where
  pub fixed : mark < open_mark → Wanted k a kind mark
  pub counted : mark ≡ open_mark → (unreadable k a kind 0 ≡ 0) × Counted a kind
  pub stretched : mark ≡ stretched_mark → (kind ≡ 9) × (unreadable k a kind 0 ≡ 0)
  pub named : stretched_mark < mark → mark < refused_mark → (unreadable k a kind 0 ≡ 0) × (kind ≡ 9 → ⊥) × (mark % 8 ≡ 0) × (mark ≡ open_mark + name_from (schema kind 0 a) 8)
  pub refused : refused_mark ≤ mark → (refused_mark < mark) × (mark < refused_mark + 2 ^ 16) × ((misc : ℕ) → unreadable k a kind misc ≡ mark - refused_mark)

-- all types that have a mark
pub record Marks (k : Known) (a : Attributes) (marks : List ℕ) : Type 0 where
  pub few : k.kinds ≤ last_type
  pub long : length marks ≡ mark_count
  pub at : (kind : ℕ) → kind < mark_count → Marked k a kind (get_or marks kind 0)

-- ---- each kind of mark

module _ (k : Known) (a : Attributes) (kind : ℕ) where
  pub as-size : (n : ℕ) → n < open_mark → Wanted k a kind n → Marked k a kind n
  as-size n l w =
      record {
        fixed = λ h. w;
        counted = λ h. absurd (omega (arith, h, l));
        stretched = λ h. absurd (omega (arith, h, l));
        named = λ g h. absurd (omega (arith, g, l));
        refused = λ h. absurd (omega (arith, h, l));
      }

  pub as-counted : unreadable k a kind 0 ≡ 0 → Counted a kind → Marked k a kind open_mark
  as-counted u c =
      record {
        fixed = λ h. absurd (omega (arith, h));
        counted = λ h. (u, c);
        stretched = λ h. absurd (omega (arith, h));
        named = λ g h. absurd (omega (arith, g));
        refused = λ h. absurd (omega (arith, h));
      }

  pub as-stretched : kind ≡ 9 → unreadable k a kind 0 ≡ 0 → Marked k a kind stretched_mark
  as-stretched e u =
      record {
        fixed = λ h. absurd (omega (arith, h));
        counted = λ h. absurd (omega (arith, h));
        stretched = λ h. (e, u);
        named = λ g h. absurd (omega (arith, g));
        refused = λ h. absurd (omega (arith, h));
      }

  pub as-named : (n : ℕ) → stretched_mark < n → n < refused_mark → unreadable k a kind 0 ≡ 0 → (kind ≡ 9 → ⊥) → n % 8 ≡ 0 → n ≡ open_mark + name_from (schema kind 0 a) 8 → Marked k a kind n
  as-named n l m u z d e =
      record {
        fixed = λ h. absurd (omega (arith, h, l));
        counted = λ h. absurd (omega (arith, h, l));
        stretched = λ h. absurd (omega (arith, h, l));
        named = λ g h. (u, z, d, e);
        refused = λ h. absurd (omega (arith, h, m));
      }

  pub as-refused : (w : ℕ) → (w ≡ 0 → ⊥) → w < 2 ^ 16 → ((misc : ℕ) → unreadable k a kind misc ≡ w) → Marked k a kind (refused_mark + w)
  as-refused w z l u =
      record {
        fixed = λ h. absurd (omega (arith, h));
        counted = λ h. absurd (omega (arith, h));
        stretched = λ h. absurd (omega (arith, h));
        named = λ g h. absurd (omega (arith, h));
        refused = λ h. (omega (arith, z), omega (arith, l), λ misc. u misc ∙ (let e : w ≡ refused_mark + w - refused_mark = omega arith in e));
      }

-- ---- misc decides the layout and 20 to 25 of MMAP2 alone

get_or-other : (xs ys : List (List Item)) (y z : List Item) (k : ℕ) → (k ≡ length xs → ⊥) → get_or (xs ++ (y ∷ ys)) k [] ≡ get_or (xs ++ (z ∷ ys)) k []
get_or-other [] ys y z zero h = absurd (h refl)
get_or-other [] ys y z (suc k) h = refl
get_or-other (x ∷ xs) ys y z zero h = refl
get_or-other (x ∷ xs) ys y z (suc k) h = get_or-other xs ys y z k (λ e. h (ap suc e))

abbrev before10 : Attributes → List (List Item)
before10 a =
    []
    ∷ (u32 ∷ u32 ∷ u64 ∷ u64 ∷ u64 ∷ always Name ∷ [])
    ∷ (u64 ∷ u64 ∷ [])
    ∷ (u32 ∷ u32 ∷ always Name ∷ [])
    ∷ tasks
    ∷ three_words
    ∷ three_words
    ∷ tasks
    ∷ (u32 ∷ u32 ∷ read_values a true)
    ∷ sample a
    ∷ []

misc-body : (kind misc : ℕ) (a : Attributes) → (kind ≡ 10 → ⊥) → schema kind misc a ≡ schema kind 0 a
misc-body kind misc a h = get_or-other (before10 a) (drop 11 (schemas 0 a)) (mmap2 (bit misc 14)) (mmap2 (bit 0 14)) kind h

pub misc-unreadable : (k : Known) (a : Attributes) (kind misc : ℕ) → (kind ≡ 10 → ⊥) → unreadable k a kind misc ≡ unreadable k a kind 0
unfolding unreadable first
misc-unreadable k a kind misc h = rw (ne_eqb kind 10 h)

-- a record that has no build id
abbrev pub Plain : ℕ → ℕ → Type 0
Plain kind misc = (kind ≡ 10 → ⊥) ⊎ (bit misc 14 ≡ false)

pub plain_body : (kind misc : ℕ) (a : Attributes) → Plain kind misc → schema kind misc a ≡ schema kind 0 a
unfolding bit
plain_body kind misc a p =
    ⊎_elim (λ h. misc-body kind misc a h) (λ h. ap (λ (b : Bool). get_or (before10 a ++ (mmap2 b ∷ drop 11 (schemas 0 a))) kind []) h) p

pub plain-unreadable : (k : Known) (a : Attributes) (kind misc : ℕ) → Plain kind misc → unreadable k a kind misc ≡ unreadable k a kind 0
unfolding unreadable first bit
plain-unreadable k a kind misc p = ⊎_elim (λ h. misc-unreadable k a kind misc h) (λ h. rw h) p

pub plain_of : (kind misc : ℕ) → (eqb kind 10 && bit misc 14) ≡ false → Plain kind misc
plain_of kind misc h = by (eqb kind 10) refl h
  where
    by : (t : Bool) → eqb kind 10 ≡ t → (t && bit misc 14) ≡ false → Plain kind misc
    by true q g = inr g
    by false q g = inl (eqb-false kind 10 q)

pub unreadable-most : (k : Known) (a : Attributes) (kind misc : ℕ) → unreadable k a kind misc ≤ 25
unfolding unreadable first
unreadable-most k a kind misc =
    by (eqb kind 0 || ltb k.kinds kind) (leb (2 ^ k.samples) a.sample && (eqb kind 9 || a.all))
    (leb (2 ^ k.formats) a.format && (eqb kind 8 || (eqb kind 9 && bit a.sample 4))) ((eqb kind 10 && bit misc 14) && not k.builds)
    ((eqb kind 9 && bit a.sample 11) && strange_branch k a) (eqb kind 9 && weights a)
  where
    by : (x y z v s w : Bool) → cond {A = ℕ} x 20 (cond y 21 (cond z 22 (cond v 23 (cond s 25 (cond w 24 0))))) ≤ 25
    by true y z v s w = omega arith
    by false true z v s w = omega arith
    by false false true v s w = omega arith
    by false false false true s w = omega arith
    by false false false false true w = omega arith
    by false false false false false true = omega arith
    by false false false false false false = omega arith

-- the numbers of the refusals that edition and attributes decide
abbrev pub Refusal : ℕ → Type 0
Refusal w = (w ≡ 20) ⊎ ((w ≡ 21) ⊎ ((w ≡ 22) ⊎ ((w ≡ 23) ⊎ ((w ≡ 24) ⊎ (w ≡ 25)))))

pub unreadable-named : (k : Known) (a : Attributes) (kind misc : ℕ) → (unreadable k a kind misc ≡ 0 → ⊥) → Refusal (unreadable k a kind misc)
unfolding unreadable first
unreadable-named k a kind misc =
    by (eqb kind 0 || ltb k.kinds kind) (leb (2 ^ k.samples) a.sample && (eqb kind 9 || a.all))
    (leb (2 ^ k.formats) a.format && (eqb kind 8 || (eqb kind 9 && bit a.sample 4))) ((eqb kind 10 && bit misc 14) && not k.builds)
    ((eqb kind 9 && bit a.sample 11) && strange_branch k a) (eqb kind 9 && weights a)
  where
    by : (x y z v s w : Bool) → (cond {A = ℕ} x 20 (cond y 21 (cond z 22 (cond v 23 (cond s 25 (cond w 24 0))))) ≡ 0 → ⊥)
        → Refusal (cond {A = ℕ} x 20 (cond y 21 (cond z 22 (cond v 23 (cond s 25 (cond w 24 0))))))
    by true y z v s w e = inl refl
    by false true z v s w e = inr (inl refl)
    by false false true v s w e = inr (inr (inl refl))
    by false false false true s w e = inr (inr (inr (inl refl)))
    by false false false false true w e = inr (inr (inr (inr (inr refl))))
    by false false false false false true e = inr (inr (inr (inr (inl refl))))
    by false false false false false false e = absurd (e refl)

-- an edition that knows the build-id form
build-unreadable : (k : Known) (a : Attributes) (kind misc : ℕ) → k.builds ≡ true → unreadable k a kind misc ≡ unreadable k a kind 0
unfolding unreadable first
build-unreadable k a kind misc b = simp (b, and-false)

-- one that does not
build-unknown : (k : Known) (a : Attributes) (misc : ℕ) → unreadable k a 10 0 ≡ 0 → bit misc 14 ≡ true → k.builds ≡ false → unreadable k a 10 misc ≡ 23
unfolding unreadable first bit
build-unknown k a misc u e b =
    by (ltb k.kinds 10) (leb (2 ^ k.samples) a.sample && a.all) (leb (2 ^ k.formats) a.format && false) (bit misc 14 && not k.builds)
    (let v : (bit misc 14 && not k.builds) ≡ true = rw (e, b) in v) u
  where
    by : (x y z v : Bool) → v ≡ true → cond {A = ℕ} x 20 (cond y 21 (cond z 22 0)) ≡ 0 → cond {A = ℕ} x 20 (cond y 21 (cond z 22 (cond v 23 0))) ≡ 23
    by true y z v q e = absurd (omega (arith, e))
    by false true z v q e = absurd (omega (arith, e))
    by false false true v q e = absurd (omega (arith, e))
    by false false false v q e = ap (λ (t : Bool). cond {A = ℕ} t 23 0) q

-- what is read has not both weights
pub one-weight : (k : Known) (a : Attributes) → unreadable k a 9 0 ≡ 0 → weights a ≡ false
unfolding unreadable first
one-weight k a u =
    by (ltb k.kinds 9) (leb (2 ^ k.samples) a.sample && true) (leb (2 ^ k.formats) a.format && bit a.sample 4) false (bit a.sample 11 && strange_branch k a) (weights a) u
  where
    by : (x y z v s w : Bool) → cond {A = ℕ} x 20 (cond y 21 (cond z 22 (cond v 23 (cond s 25 (cond w 24 0))))) ≡ 0 → w ≡ false
    by true y z v s w e = absurd (omega (arith, e))
    by false true z v s w e = absurd (omega (arith, e))
    by false false true v s w e = absurd (omega (arith, e))
    by false false false true s w e = absurd (omega (arith, e))
    by false false false false true w e = absurd (omega (arith, e))
    by false false false false false true e = absurd (omega (arith, e))
    by false false false false false false e = refl

-- every type but SAMPLE has the same trailer
pub same-trailer : (kind : ℕ) (a : Attributes) → (kind ≡ 9 → ⊥) → room (trailer kind a) ≡ room (trailer 1 a)
same-trailer kind a h = rw (ne_eqb kind 9 h)

pub trail-eights : (k : Known) (a : Attributes) → room (trailer 1 a) % 8 ≡ 0
unfolding layout
trail-eights k a = (sound k a).whole 1

-- ---- a layout that ends with a name

pub record EndsNamed (is : List Item) (at from : ℕ) : Type 0 where
  pub before-name : List Item
  pub layout_is : is ≡ before-name ++ (always Name ∷ [])
  pub one_width_lem : steady before-name ≡ true
  pub sum : at + total before-name ≡ from

the-name : (sh : Shape) → is_name sh ≡ true → sh ≡ Name
unfolding is_name
the-name (Number w) e = absurd (apart e)
the-name (Ignored k) e = absurd (apart e)
the-name (Count w) e = absurd (apart e)
the-name (Size w) e = absurd (apart e)
the-name (Times k) e = absurd (apart e)
the-name (Earlier k) e = absurd (apart e)
the-name Registers e = absurd (apart e)
the-name Filled e = absurd (apart e)
the-name (Abi m) e = absurd (apart e)
the-name (Limit k) e = absurd (apart e)
the-name (Listed k) e = absurd (apart e)
the-name (Bytes k) e = absurd (apart e)
the-name Pad e = absurd (apart e)
the-name Name e = refl

pub name-ends : (is : List Item) (at : ℕ) → (name_from is at ≡ 0 → ⊥) → EndsNamed is at (name_from is at)
unfolding name_from is_name steady total
name-ends [] at z = absurd (z refl)
name-ends (i ∷ []) at z = by (i.on && is_name i.shape) refl z
  where
    by : (b : Bool) → (i.on && is_name i.shape) ≡ b → (cond b at 0 ≡ 0 → ⊥) → EndsNamed (i ∷ []) at (cond b at 0)
    by true e z =
        let s = and-true i.on (is_name i.shape) e in
        let n = the-name i.shape s.1 in
        record {
          before-name = [];
          layout_is = λ j. record { on = s.0 j; shape = n j } ∷ [];
          one_width_lem = refl;
          sum = omega arith;
        }
    by false e z = absurd (z refl)
name-ends (i ∷ (j ∷ is)) at z = by (one_width i.shape || not i.on) refl z (λ y. name-ends (j ∷ is) (at + one i) y)
  where
    by : (b : Bool) → (one_width i.shape || not i.on) ≡ b → (cond b (name_from (j ∷ is) (at + one i)) 0 ≡ 0 → ⊥)
        → ((name_from (j ∷ is) (at + one i) ≡ 0 → ⊥) → EndsNamed (j ∷ is) (at + one i) (name_from (j ∷ is) (at + one i)))
        → EndsNamed (i ∷ (j ∷ is)) at (cond b (name_from (j ∷ is) (at + one i)) 0)
    by true e z r =
        let n = r z in
        record {
          before-name = i ∷ n.before-name;
          layout_is = ap (λ (l : List Item). i ∷ l) n.layout_is;
          one_width_lem = rw e n.one_width_lem;
          sum = (let s = add_assoc at (one i) (total n.before-name) in sym s ∙ n.sum);
        }
    by false e z r = absurd (z refl)

-- ---- what a mark says of a record

no-mmap2 : (a : Attributes) → steady (schema 10 0 a) ≡ false
unfolding steady one_width bit
no-mmap2 a = refl

module _ (k : Known) (a : Attributes) (xs : List ℕ) (kind : ℕ) (ek : kind ≡ kind_of xs) where
  pub size-judged : (n : ℕ) → Wanted k a kind n → sizes (length xs) n ≡ judge (layout k a) xs
  unfolding layout
  size-judged n w =
      let z : kind ≡ 10 → ⊥ = λ q. apart (sym (no-mmap2 a) ∙ ap (λ (t : ℕ). steady (schema t 0 a)) (sym q) ∙ w.one_width_lem) in
      sized-judged (layout k a) xs (room (trailer kind a))
      (ap (λ (t : ℕ). unreadable k a t (misc_of xs)) (sym ek) ∙ misc-unreadable k a kind (misc_of xs) z ∙ w.readable)
      (ap (λ (t : ℕ). room (trailer t a)) (sym ek))
      (schema kind 0 a) n (ap (λ (t : ℕ). schema t (misc_of xs) a) (sym ek) ∙ misc-body kind (misc_of xs) a z) w.one_width_lem w.size

  pub refused-judged : (w : ℕ) → unreadable k a kind (misc_of xs) ≡ w → (w ≡ 0 → ⊥) → w ≡ judge (layout k a) xs
  unfolding layout
  refused-judged w u z = unreadable-judged (layout k a) xs w (ap (λ (t : ℕ). unreadable k a t (misc_of xs)) (sym ek) ∙ u) z

  pub sample-judged : (x : ℕ) → kind ≡ 9 → unreadable k a kind 0 ≡ 0 → 8 ≤ length xs → Closes xs (sample a) 8 x → x ≡ judge (layout k a) xs
  unfolding layout
  sample-judged x e u l c =
      let q : kind_of xs ≡ 9 = sym ek ∙ e in
      closes-judged (layout k a) xs 0
      (ap (λ (t : ℕ). unreadable k a t (misc_of xs)) (sym ek) ∙ misc-unreadable k a kind (misc_of xs) (λ y. omega (arith, y, e)) ∙ u)
      (ap (λ (t : ℕ). room (trailer t a)) q ∙ no-trailer a)
      (sample a) x (ap (λ (t : ℕ). schema t (misc_of xs) a) q) l (subst (λ (ys : List ℕ). Closes ys (sample a) 8 x) (sym (whole_fields xs)) c)

  -- any other type, by its fields up to the trailer
  module _ (t : ℕ) (et : t ≡ room (trailer 1 a)) (z : kind ≡ 9 → ⊥) where
    trail : room (trailer (kind_of xs) a) ≡ t
    trail = ap (λ (i : ℕ). room (trailer i a)) (sym ek) ∙ same-trailer kind a z ∙ sym et

    pub fields-short : unreadable k a kind (misc_of xs) ≡ 0 → length xs < 8 + t → 30 ≡ judge (layout k a) xs
    unfolding layout
    fields-short u l = short-judged (layout k a) xs t (ap (λ (i : ℕ). unreadable k a i (misc_of xs)) (sym ek) ∙ u) trail l

    pub fields-judged : (is : List Item) (x : ℕ) → unreadable k a kind (misc_of xs) ≡ 0 → schema kind (misc_of xs) a ≡ is → 8 + t ≤ length xs → Closes (fields_of t xs) is 8 x
        → x ≡ judge (layout k a) xs
    unfolding layout
    fields-judged is x u b l c =
        closes-judged (layout k a) xs t (ap (λ (i : ℕ). unreadable k a i (misc_of xs)) (sym ek) ∙ u) trail is x (ap (λ (i : ℕ). schema i (misc_of xs) a) (sym ek) ∙ b) l c

    -- a name, in a record without a build id
    pub name-judged : (from x : ℕ) → unreadable k a kind 0 ≡ 0 → Plain kind (misc_of xs) → from ≡ name_from (schema kind 0 a) 8 → (from ≡ 0 → ⊥) → 8 + t ≤ length xs
        → x ≡ name_answer (fields_of t xs) from → x ≡ judge (layout k a) xs
    name-judged from x u p e y l r =
        let n = name-ends (schema kind 0 a) 8 (λ q. y (e ∙ q)) in
        let lf = length_fields t xs in
        fields-judged (n.before-name ++ (always Name ∷ [])) x (plain-unreadable k a kind (misc_of xs) p ∙ u) (plain_body kind (misc_of xs) a p ∙ n.layout_is) l
        (subst (Closes (fields_of t xs) (n.before-name ++ (always Name ∷ [])) 8) (sym r)
        (named-closes (fields_of t xs) n.before-name 8 from n.one_width_lem (n.sum ∙ sym e) (omega (arith, lf, l))))

  -- the build-id form
  module _ (e : kind ≡ 10) (u : unreadable k a kind 0 ≡ 0) (m : bit (misc_of xs) 14 ≡ true) where
    pub build-refused : k.builds ≡ false → 23 ≡ judge (layout k a) xs
    build-refused b =
        refused-judged 23
        (ap (λ (t : ℕ). unreadable k a t (misc_of xs)) e ∙ build-unknown k a (misc_of xs) (ap (λ (t : ℕ). unreadable k a t 0) (sym e) ∙ u) m b) (λ q. omega (arith, q))

    pub build-reads : k.builds ≡ true → unreadable k a kind (misc_of xs) ≡ 0
    build-reads b = build-unreadable k a kind (misc_of xs) b ∙ u

    pub build-body : schema kind (misc_of xs) a ≡ mmap2 true
    build-body = ap (λ (t : ℕ). schema t (misc_of xs) a) e ∙ ap mmap2 m

-- a mark between a size and a refusal, and no SAMPLE
pub opened-reads : (k : Known) (a : Attributes) (kind mark : ℕ) → Marked k a kind mark → open_mark ≤ mark → mark < refused_mark → (mark ≡ stretched_mark → ⊥)
    → (unreadable k a kind 0 ≡ 0) × (kind ≡ 9 → ⊥)
opened-reads k a kind mark m l h z = by (eqb mark open_mark) refl
  where
    by : (b : Bool) → eqb mark open_mark ≡ b → (unreadable k a kind 0 ≡ 0) × (kind ≡ 9 → ⊥)
    by true e =
        let c = m.counted (eqb-true mark open_mark e) in
        (c.0, λ q. ⊎_elim (λ w. let y = w.0 in omega (arith, q, y)) (λ w. ⊎_elim (λ y. omega (arith, q, y)) (λ y. omega (arith, q, y)) w) c.1)
    by false e = let y = eqb-false mark open_mark e in let c = m.named (omega (arith, l, y, z)) h in (c.0, c.1)

-- the three types that count
module _ (a : Attributes) (kind : ℕ) (c : Counted a kind) where
  pub counted-group : kind ≡ 8 → group_read a.format ≡ schema kind 0 a
  counted-group e =
      let b : bit a.format 3 ≡ true = ⊎_elim (λ w. w.1) (λ w. ⊎_elim (λ y. absurd (omega (arith, e, y))) (λ y. absurd (omega (arith, e, y))) w) c in
      sym (ap (λ (l : List Item). u32 ∷ u32 ∷ l) (group-values a b)) ∙ ap (λ (t : ℕ). schema t 0 a) (sym e)

  pub counted-namespaces : kind ≡ 16 → namespaces ≡ schema kind 0 a
  counted-namespaces e = ap (λ (t : ℕ). schema t 0 a) (sym e)

  pub counted-poke : (kind ≡ 8 → ⊥) → (kind ≡ 16 → ⊥) → text_poke ≡ schema kind 0 a
  counted-poke x y = ap (λ (t : ℕ). schema t 0 a) (sym (⊎_elim (λ w. absurd (x w.0)) (λ w. ⊎_elim (λ q. absurd (y q)) (λ q. q) w) c))

-- ---- tables

-- the types' marks, and then those of READ and SAMPLE
pub marks-made : (k : Known) (a : Attributes) (p : List ℕ) (v w : ℕ) → k.kinds ≤ last_type → length p ≡ mark_count
    → ((kind : ℕ) → kind < mark_count → (kind ≡ 8 → ⊥) → (kind ≡ 9 → ⊥) → Marked k a kind (get_or p kind 0)) → Marked k a 8 v → Marked k a 9 w → Marks k a (set (set p 8 v) 9 w)
marks-made k a p v w n l m mv mw =
    record { few = n; long = length-set (set p 8 v) 9 w ∙ length-set p 8 v ∙ l; at = λ j b. go j b (eqb j 9) (eqb j 8) refl refl }
  where
    go : (j : ℕ) → j < mark_count → (s t : Bool) → eqb j 9 ≡ s → eqb j 8 ≡ t → Marked k a j (get_or (set (set p 8 v) 9 w) j 0)
    go j b true t e f =
        let q = eqb-true j 9 e in
        subst (λ (i : ℕ). Marked k a i (get_or (set (set p 8 v) 9 w) i 0)) (sym q)
        (subst (Marked k a 9) (sym (get_or-set_same (set p 8 v) 9 w 0 (let h = length-set p 8 v in omega (arith, h, l)))) mw)
    go j b false true e f =
        let q = eqb-true j 8 f in
        subst (λ (i : ℕ). Marked k a i (get_or (set (set p 8 v) 9 w) i 0)) (sym q)
        (subst (Marked k a 8) (sym (get_or-set_other (set p 8 v) 9 8 w 0 (λ y. omega (arith, y)) ∙ get_or-set_same p 8 v 0 (omega (arith, l)))) mv)
    go j b false false e f =
        subst (Marked k a j) (sym (get_or-set_other (set p 8 v) 9 j w 0 (eqb-false j 9 e) ∙ get_or-set_other p 8 j v 0 (eqb-false j 8 f)))
        (m j b (eqb-false j 8 f) (eqb-false j 9 e))
