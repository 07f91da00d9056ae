-- A SAMPLE in stretches, in known order; the sums that the attributes fix; what the stretches leave. Assumes nothing.
use Rattle.std.specs.Prelude.{◌≡◌, refl, Bool, true, false, ◌&&◌, ◌||◌, List, [], ◌∷◌, ◌++◌, ℕ, ◌+◌, ◌-◌, ◌*◌, ◌≤◌, length, get_or}
use Rattle.std.proofs.Math.Path.{sym, ap}
use Rattle.std.proofs.Common.{◌∙◌, subst, arith}
use Rattle.std.proofs.Math.Bool.{cond}
use Rattle.std.proofs.Math.Nat.{add-zero}
use Rattle.meaning.specs.declared.Attributes.{Attributes}
use Rattle.meaning.specs.declared.Item.{Item}
use Rattle.meaning.specs.declared.Shape.TheVariants.{Number}
use Rattle.meaning.specs.declared.Width.TheVariants.{W8}
use Rattle.meaning.specs.Bytes.{bit, ones}
use Rattle.meaning.specs.Items.{span}
use Rattle.meaning.specs.Schema.{item, selected, group_bytes, sample_first, read_values, sample_last, trailer}
use Rattle.meaning.specs.Records.{room}
use Rattle.laws.specs.Bytes.{and-true}
use Rattle.laws.specs.Rows.{or-false}
use Rattle.blocks.specs.Seen.{Place, Ends, Closes, one-refuses, both_end}
use Rattle.blocks.specs.Steady.{one_width, width_of, steady, total, sizes, steady-closes}
use Rattle.blocks.specs.Blocks.{counted_list, counted_with, counted_place, branch_list, raw_bytes, aux_bytes, register_list, stack_bytes, counted-ends, off-ends}

-- read values of a group; both weights; interrupt registers or aux among the last fields
abbrev pub groups : Attributes → Bool
groups a = bit a.sample 4 && bit a.format 3

abbrev pub weights : Attributes → Bool
weights a = bit a.sample 14 && bit a.sample 24

abbrev pub late : Attributes → Bool
late a = bit a.sample 18 || bit a.sample 20

-- the fields of a SAMPLE to its read values
abbrev pub front : Attributes → List Item
front a = sample_first a ++ read_values a (bit a.sample 4)

-- its lists in two stretches
abbrev pub lists : Attributes → List Item
lists a = counted_list (bit a.sample 5) 8 ++ (raw_bytes (bit a.sample 10) ++ branch_list (bit a.sample 11) (bit a.branch 17))

abbrev pub state : Attributes → List Item
state a = register_list (bit a.sample 12) a.user ++ stack_bytes (bit a.sample 13)

-- its last fields in four: weight to transaction, interrupt registers, physical address to code page size, aux
abbrev pub early : Attributes → List Item
early a = item (bit a.sample 14 || bit a.sample 24) (Number W8) ∷ selected a 15 (Number W8) ∷ selected a 17 (Number W8) ∷ []

abbrev pub after : Attributes → List Item
after a = selected a 19 (Number W8) ∷ selected a 21 (Number W8) ∷ selected a 22 (Number W8) ∷ selected a 23 (Number W8) ∷ []

abbrev pub weighed : Attributes → List Item
weighed a = early a ++ register_list (bit a.sample 18) a.interrupt

abbrev pub paged : Attributes → List Item
paged a = after a ++ aux_bytes (bit a.sample 20)

-- the read values of a group: the count, the times where selected, the elements
abbrev pub group_times : ℕ → List Item
group_times format = item (bit format 0) (Number W8) ∷ item (bit format 1) (Number W8) ∷ item false (Number W8) ∷ item false (Number W8) ∷ []

abbrev pub group_list : ℕ → List Item
group_list format = item false (Number W8) ∷ counted_with (group_times format) (group_bytes format)

-- the bytes of the count and the times
unfoldable pub group_fixed : ℕ → ℕ
group_fixed format = 8 + total (group_times format)

-- the first fields, with the read values where they are no group
unfoldable pub first_sum : Attributes → ℕ
first_sum a = total (sample_first a) + cond (groups a) 0 (total (read_values a (bit a.sample 4)))

-- the table of sums: each is right wherever it is used
pub record Sums (a : Attributes) (sums : List ℕ) : Type 0 where
  pub trail : get_or sums 0 0 ≡ room (trailer 1 a)
  pub first : get_or sums 1 0 ≡ first_sum a
  pub last : weights a ≡ false → late a ≡ false → get_or sums 2 0 ≡ total (sample_last a)
  pub user : bit a.sample 12 ≡ true → get_or sums 3 0 ≡ ones 64 a.user * 8
  pub early-sum : weights a ≡ false → get_or sums 4 0 ≡ total (early a)
  pub after-sum : get_or sums 5 0 ≡ total (after a)
  pub interrupt : bit a.sample 18 ≡ true → get_or sums 6 0 ≡ ones 64 a.interrupt * 8
  pub group : get_or sums 7 0 ≡ group_fixed a.format

pub total-append : (is js : List Item) → total (is ++ js) ≡ total is + total js
unfolding total
total-append [] js = omega arith
total-append (i ∷ is) js = let e = total-append is js in omega (arith, e)

-- ---- the first fields

front-steady : (a : Attributes) → groups a ≡ false → steady (front a) ≡ true
unfolding steady one_width
front-steady a e = rw e

first-steady : (a : Attributes) → steady (sample_first a) ≡ true
unfolding steady one_width
first-steady a = refl

times-steady : (format : ℕ) → steady (group_times format) ≡ true
unfolding steady one_width
times-steady format = refl

pub group-values : (a : Attributes) → bit a.format 3 ≡ true → read_values a true ≡ group_list a.format
group-values a e = rw e

-- one of them is a bit
pub group-bound : (format : ℕ) → (8 ≤ group_fixed format) × (group_fixed format ≤ 24)
unfolding group_fixed total width_of span
group-bound format = (omega arith, by (bit format 0) (bit format 1))
  where
    by : (x y : Bool) → 8 + (cond x 8 0 + (cond y 8 0 + (0 + (0 + 0)))) ≤ 24
    by true true = omega arith
    by true false = omega arith
    by false true = omega arith
    by false false = omega arith

-- blocks::elements takes entries of at most 24 bytes: the longest of a group has value, id and lost count
pub unit-bound : (format : ℕ) → (1 ≤ group_bytes format) × (group_bytes format ≤ 24)
unit-bound format = by (bit format 2) (bit format 4)
  where
    by : (i l : Bool) → (1 ≤ cond i (cond l 24 16) (cond l 16 8)) × (cond i (cond l 24 16) (cond l 16 8) ≤ 24)
    by true true = (omega arith, omega arith)
    by true false = (omega arith, omega arith)
    by false true = (omega arith, omega arith)
    by false false = (omega arith, omega arith)

pub group-ends : (xs : List ℕ) (format at : ℕ) (q : Place) → at ≤ length xs → q ≡ counted_place xs at (group_fixed format) (group_bytes format) → Ends xs (group_list format) at q
unfolding group_fixed
group-ends xs format at q l e =
    off-ends xs (Number W8) (counted_with (group_times format) (group_bytes format)) at q
    (counted-ends xs at (8 + total (group_times format)) (group_bytes format) (group_times format) (times-steady format) refl l q e)

module _ (xs : List ℕ) (a : Attributes) (k : ℕ) (e : k ≡ first_sum a) (p : Place) (h : (is : List Item) → steady is ≡ true → total is ≡ k → Ends xs is 8 p) where
  pub front-plain : groups a ≡ false → Ends xs (front a) 8 p
  unfolding first_sum
  front-plain g =
      h (front a) (front-steady a g)
      (total-append (sample_first a) (read_values a (bit a.sample 4))
      ∙ sym (e ∙ ap (λ (b : Bool). total (sample_first a) + cond b 0 (total (read_values a (bit a.sample 4)))) g))

  lone : groups a ≡ true → Ends xs (sample_first a) 8 p
  unfolding first_sum
  lone g =
      h (sample_first a) (first-steady a)
      (sym (e ∙ ap (λ (b : Bool). total (sample_first a) + cond b 0 (total (read_values a (bit a.sample 4)))) g ∙ add-zero (total (sample_first a))))

  pub front-stuck : (p.why ≡ 0 → ⊥) → Ends xs (front a) 8 p
  front-stuck z = by (groups a) refl
    where
      by : (b : Bool) → groups a ≡ b → Ends xs (front a) 8 p
      by true g = one-refuses xs (sample_first a) (read_values a (bit a.sample 4)) 8 p (lone g) z
      by false g = front-plain g

  pub front-group : groups a ≡ true → p.why ≡ 0 → (q : Place) → q ≡ counted_place xs p.at (group_fixed a.format) (group_bytes a.format) → Ends xs (front a) 8 q
  front-group g z q r =
      let b = and-true (bit a.sample 4) (bit a.format 3) g in
      let v : read_values a (bit a.sample 4) ≡ group_list a.format = ap (read_values a) b.0 ∙ group-values a b.1 in
      both_end xs (sample_first a) (read_values a (bit a.sample 4)) 8 p q (lone g) z
      (subst (λ (is : List Item). Ends xs is p.at q) (sym v) (group-ends xs a.format p.at q ((lone g).1 z) r))

-- ---- the last ones

pub last-steady : (a : Attributes) → late a ≡ false → steady (sample_last a) ≡ true
unfolding steady one_width
last-steady a e = let s = or-false (bit a.sample 18) (bit a.sample 20) e in rw (s.0, s.1)

pub early-steady : (a : Attributes) → steady (early a) ≡ true
unfolding steady one_width
early-steady a = refl

pub after-steady : (a : Attributes) → steady (after a) ≡ true
unfolding steady one_width
after-steady a = refl

pub last-closes : (xs : List ℕ) (a : Attributes) (at k : ℕ) → late a ≡ false → k ≡ total (sample_last a) → at ≤ length xs → Closes xs (sample_last a) at (sizes (length xs - at) k)
last-closes xs a at k g e l = steady-closes xs (sample_last a) at k (last-steady a g) (sym e) l
