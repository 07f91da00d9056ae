-- The sums that the attributes fix, by counting bits; that they are the sums of the fields. Assumes nothing.
use Rattle.std.specs.Prelude.{◌≡◌, refl, Bool, true, false, cond, not, ◌&&◌, ◌||◌, ℕ, zero, suc, ◌+◌, ◌*◌, ◌/◌, ◌%◌, ◌≤◌, leb, length}
use Rattle.std.proofs.Common.{sym, ◌∙◌, subst, arith, leb-true}
use Rattle.std.proofs.Math.Path.{ap}
use mathlib.Core.List.{List, [], ◌∷◌}
use Rattle.std.specs.Int.Bits.{bit_and}
use Rattle.std.proofs.Math.ListN.{get_or}
use Rattle.laws.specs.Bytes.{and-true}
use Rattle.laws.specs.Rows.{or-false}
use Rattle.meaning.specs.declared.Item.{Item}
use Rattle.meaning.specs.declared.Attributes.{Attributes}
use Rattle.meaning.specs.Bytes.{bit, ones}
use Rattle.meaning.specs.Items.{span}
use Rattle.meaning.specs.Schema.{sample_first, read_values, sample_last, trailer}
use Rattle.meaning.specs.Records.{room_shape, room}
use Rattle.blocks.specs.Steady.{width_of, total}
use Rattle.exact.specs.Stretches.{groups, weights, late, early, after, group_fixed, first_sum, Sums}
use Rattle.laws.specs.Counting.{bits_from, eights, eights-ones, two-fours}

-- eight bytes for each bit of a mask that x has
abbrev pub sum_over : ℕ → ℕ → ℕ
sum_over x m = 8 * ones 64 (bit_and x m)

pub ones-most : (w x : ℕ) → ones w x ≤ w
unfolding ones
ones-most zero x = omega arith
ones-most (suc w) x = let h = ones-most w (x / 2) in omega (arith, h)

pub sum-none : (x m : ℕ) → bit_and x m ≡ 0 → sum_over x m ≡ 0
unfolding ones
sum-none x m e = rw e

-- the masks: identifier, ip, pid and tid, time, addr, id, stream id, cpu, period; weight to transaction; physical address to code page size; the
-- last fields, which are both
abbrev pub first_bits : ℕ
first_bits = 66511

abbrev pub early_bits : ℕ
early_bits = 16957440

abbrev pub after_bits : ℕ
after_bits = 15204352

abbrev pub last_bits : ℕ
last_bits = early_bits + after_bits

-- of read values: enabled and running time, id, lost count; of a group, before its elements: the times alone
abbrev pub read_bits : ℕ
read_bits = 23

abbrev pub time_bits : ℕ
time_bits = 3

-- the most that a sum can be: eight bytes for each of 64 bits; and with the value or the count before it
abbrev pub sum_most : ℕ
sum_most = 512

abbrev pub read_most : ℕ
read_most = 8 + sum_most

-- a trailer has eight items of a word at most
abbrev pub trail_most : ℕ
trail_most = 64

-- read values, where there is no group
unfoldable pub read_sum : Attributes → ℕ
read_sum a = 8 + sum_over a.format read_bits

unfoldable pub reads_of : Attributes → ℕ
reads_of a = cond (bit a.sample 4 && not (bit a.format 3)) (read_sum a) 0

-- the table: trailer, first fields, last fields, user registers, weight to transaction, physical address to code page size, interrupt
-- registers, the words of a group before its elements
unfoldable pub sums_of : Attributes → List ℕ
sums_of a =
    room (trailer 1 a)
    ∷ (sum_over a.sample first_bits + reads_of a)
    ∷ sum_over a.sample last_bits
    ∷ cond (bit a.sample 12) (ones 64 a.user * 8) 0
    ∷ sum_over a.sample early_bits
    ∷ sum_over a.sample after_bits
    ∷ cond (bit a.sample 18) (ones 64 a.interrupt * 8) 0
    ∷ (8 + sum_over a.format time_bits)
    ∷ []

-- ---- the fields' sums

-- bits 16, 0, 1, 2, 3, 6, 9, 7, 8
first_count : (a : Attributes) → total (sample_first a) ≡ sum_over a.sample first_bits
unfolding total width_of span bits_from eights
first_count a =
    let x = a.sample in
    let e : sum_over a.sample first_bits ≡ eights a.sample (0 ∷ 1 ∷ 2 ∷ 3 ∷ 6 ∷ 7 ∷ 8 ∷ 9 ∷ 16 ∷ []) = eights-ones a.sample first_bits in
    let p = two-fours (bit x 1) in
    let q = two-fours (bit x 7) in
    omega (arith, e, p, q)

pub read_count : (a : Attributes) → bit a.format 3 ≡ false → total (read_values a true) ≡ read_sum a
unfolding total width_of span bits_from eights read_sum
read_count a h =
    let e : sum_over a.format read_bits ≡ eights a.format (0 ∷ 1 ∷ 2 ∷ 4 ∷ []) = eights-ones a.format read_bits in
    rw h (omega (arith, e))

reads_none : (a : Attributes) → total (read_values a false) ≡ 0
unfolding total
reads_none a = refl

first-is : (a : Attributes) → sum_over a.sample first_bits + reads_of a ≡ first_sum a
unfolding first_sum reads_of
first-is a = ap (λ (k : ℕ). sum_over a.sample first_bits + k) (by (bit a.sample 4) (bit a.format 3) refl) ∙ ap (λ (k : ℕ). k + cond (groups a) 0 (total (read_values a (bit a.sample 4)))) (sym (first_count a))
  where
    by : (x y : Bool) → bit a.format 3 ≡ y → cond (x && not y) (read_sum a) 0 ≡ cond (x && y) 0 (total (read_values a x))
    by true true e = refl
    by true false e = sym (read_count a e)
    by false y e = sym (reads_none a)

-- weight is one item with two bits, of which one at most is set
weight-count : (x y : Bool) → (x && y) ≡ false → cond (x || y) 8 0 ≡ cond x 8 0 + cond y 8 0
weight-count true true e = absurd (Rattle.laws.specs.Bytes.apart (sym e))
weight-count true false e = refl
weight-count false y e = omega arith

early-count : (a : Attributes) → weights a ≡ false → sum_over a.sample early_bits ≡ total (early a)
unfolding total width_of span bits_from eights
early-count a h =
    let x = a.sample in
    let e : sum_over a.sample early_bits ≡ eights a.sample (14 ∷ 15 ∷ 17 ∷ 24 ∷ []) = eights-ones a.sample early_bits in
    let w = weight-count (bit x 14) (bit x 24) h in
    omega (arith, e, w)

after-count : (a : Attributes) → sum_over a.sample after_bits ≡ total (after a)
unfolding total width_of span bits_from eights
after-count a =
    let e : sum_over a.sample after_bits ≡ eights a.sample (19 ∷ 21 ∷ 22 ∷ 23 ∷ []) = eights-ones a.sample after_bits in
    omega (arith, e)

last-count : (a : Attributes) → weights a ≡ false → late a ≡ false → sum_over a.sample last_bits ≡ total (sample_last a)
unfolding total width_of span bits_from eights
last-count a h t =
    let x = a.sample in
    let e : sum_over a.sample last_bits ≡ eights a.sample (14 ∷ 15 ∷ 17 ∷ 19 ∷ 21 ∷ 22 ∷ 23 ∷ 24 ∷ []) = eights-ones a.sample last_bits in
    let w = weight-count (bit x 14) (bit x 24) h in
    let s = or-false (bit a.sample 18) (bit a.sample 20) t in
    rw (s.0, s.1) (omega (arith, e, w))

pub group-count : (format : ℕ) → 8 + sum_over format time_bits ≡ group_fixed format
unfolding group_fixed total width_of span bits_from eights
group-count format =
    let e : sum_over format time_bits ≡ eights format (0 ∷ 1 ∷ []) = eights-ones format time_bits in
    omega (arith, e)

on-only : (b : Bool) (n : ℕ) → b ≡ true → cond b n 0 ≡ n
on-only true n e = refl
on-only false n e = absurd (Rattle.laws.specs.Bytes.apart e)

pub sums-are : (a : Attributes) → Sums a (sums_of a)
unfolding sums_of
sums-are a =
    record {
      trail = refl;
      first = first-is a;
      last = λ h t. last-count a h t;
      user = λ e. on-only (bit a.sample 12) (ones 64 a.user * 8) e;
      early-sum = λ h. early-count a h;
      after-sum = after-count a;
      interrupt = λ e. on-only (bit a.sample 18) (ones 64 a.interrupt * 8) e;
      group = group-count a.format;
    }

-- whole words, and not many
pub reads-bound : (a : Attributes) → (reads_of a ≤ read_most) × (reads_of a % 8 ≡ 0)
unfolding reads_of read_sum
reads-bound a = by (bit a.sample 4 && not (bit a.format 3))
  where
    by : (b : Bool) → (cond b (8 + sum_over a.format read_bits) 0 ≤ read_most) × (cond b (8 + sum_over a.format read_bits) 0 % 8 ≡ 0)
    by true = let h = ones-most 64 (bit_and a.format read_bits) in (omega (arith, h), omega arith)
    by false = (omega arith, omega arith)

pub read-eights : (a : Attributes) → read_sum a % 8 ≡ 0
unfolding read_sum
read-eights a = omega arith

-- ---- a trailer is short

few : List Item → Bool
few [] = true
few (i ∷ is) = leb (room_shape i.shape) 8 && few is

room_most : (is : List Item) → few is ≡ true → room is ≤ 8 * length is
unfolding few room
room_most [] h = omega arith
room_most (i ∷ is) h =
    let s = and-true (leb (room_shape i.shape) 8) (few is) h in
    let m = leb-true (room_shape i.shape) 8 s.0 in
    let r = room_most is s.1 in
    go i.on m r
  where
    go : (b : Bool) → room_shape i.shape ≤ 8 → room is ≤ 8 * length is → cond b (room_shape i.shape) 0 + room is ≤ 8 * suc (length is)
    go true m r = omega (arith, m, r)
    go false m r = omega (arith, m, r)

trail-most : (a : Attributes) → room (trailer 1 a) ≤ trail_most
unfolding few room_shape
trail-most a = room_most (trailer 1 a) refl

-- the sums that marks are made of: whole words, and not many
module _ (a : Attributes) (sums : List ℕ) (e : sums ≡ sums_of a) where
  pub trail-small : get_or sums 0 0 ≤ trail_most
  unfolding sums_of
  trail-small = let h = trail-most a in let q : get_or sums 0 0 ≡ room (trailer 1 a) = ap (λ (l : List ℕ). get_or l 0 0) e in omega (arith, h, q)

  pub first_small : (get_or sums 1 0 ≤ 2000) × (get_or sums 1 0 % 8 ≡ 0)
  unfolding sums_of
  first_small =
      let q : get_or sums 1 0 ≡ sum_over a.sample first_bits + reads_of a = ap (λ (l : List ℕ). get_or l 1 0) e in
      let h = ones-most 64 (bit_and a.sample first_bits) in
      let r = reads-bound a in
      let r₀ = r.0 in
      let r₁ = r.1 in
      (omega (arith, h, q, r₀), omega (arith, q, r₁))

  pub last-small : (get_or sums 2 0 ≤ 2000) × (get_or sums 2 0 % 8 ≡ 0)
  unfolding sums_of
  last-small =
      let q : get_or sums 2 0 ≡ sum_over a.sample last_bits = ap (λ (l : List ℕ). get_or l 2 0) e in
      let h = ones-most 64 (bit_and a.sample last_bits) in
      (omega (arith, h, q), omega (arith, q))

  pub sums-given : Sums a sums
  sums-given = subst (Sums a) (sym e) (sums-are a)
