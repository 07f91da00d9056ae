-- "Trailer, read values and registers share one fact over the count": eight bytes for each bit of a mask that is set. `eights-ones` is that fact;
-- the trailer is its case at the mask 66,246, the read values at 23 (or 3 and 20, in a group), the registers at all 64 bits. Assumes nothing.
use Rattle.std.specs.Prelude.{◌≡◌, refl, Bool, true, false, cond, not, ◌&&◌, List, [], ◌∷◌, ◌++◌, ℕ, zero, suc, ◌+◌, ◌-◌, ◌*◌, ◌/◌, ◌%◌, ◌^◌, ◌<◌, ◌≤◌, min, eqb, length}
use Rattle.std.proofs.Common.{sym, ap, ap₂, ◌∙◌, div-one, lt_of_le_of_lt, pow-suc, arith, shr-shr, pow_pos}
use Rattle.std.proofs.Math.Nat.{zero-min, min-le_left}
use Rattle.std.proofs.Math.Arith.{digits_div, digits_mod}
use Rattle.std.specs.Int.Bits.{bit_and, and_step}
use Rattle.meaning.specs.declared.Attributes.{Attributes}
use Rattle.meaning.specs.declared.Shape.TheVariants.{Registers}
use Rattle.meaning.specs.Bytes.{bit, ones}
use Rattle.meaning.specs.Items.{cursor, span}
use Rattle.meaning.specs.Schema.{trailer, group_bytes, read_values}
use Rattle.meaning.specs.Records.{room_shape, room}

-- the bits of a mask, from number i on, w of them looked at
unfoldable pub bits_from : ℕ → ℕ → ℕ → List ℕ
bits_from zero i m = []
bits_from (suc w) i m = cond (eqb (m / 2 ^ i % 2) 0) [] (i ∷ []) ++ bits_from w (i + 1) m

-- 8 for each listed bit that x has
unfoldable pub eights : ℕ → List ℕ → ℕ
eights x [] = 0
eights x (b ∷ bs) = cond (bit x b) 8 0 + eights x bs

-- how many of the k lowest bits are ones in x and in m
common : ℕ → ℕ → ℕ → ℕ
common zero x m = 0
common (suc k) x m = cond (eqb (m % 2) 0) 0 (x % 2) + common k (x / 2) (m / 2)

-- one bit of a mask
bit-min : (a b : ℕ) → a < 2 → b < 2 → min a b ≡ cond (eqb b 0) 0 a
bit-min zero b ha hb = by (eqb b 0)
  where
    by : (t : Bool) → min 0 b ≡ cond t 0 0
    by true = zero-min b
    by false = zero-min b
bit-min (suc zero) zero ha hb = refl
bit-min (suc zero) (suc zero) ha hb = refl
bit-min (suc zero) (suc (suc b)) ha hb = absurd (omega arith)
bit-min (suc (suc a)) b ha hb = absurd (omega arith)

-- the ones under a mask, a bit at a time
ones-common : (w x m : ℕ) → ones w (bit_and x m) ≡ common w x m
unfolding ones common
ones-common zero x m = refl
ones-common (suc w) x m =
    let a : x % 2 < 2 = omega arith in
    let b : m % 2 < 2 = omega arith in
    let l : min (x % 2) (m % 2) < 2 = lt_of_le_of_lt (min-le_left (x % 2) (m % 2)) a in
    let e : bit_and x m ≡ bit_and (x / 2) (m / 2) * 2 + min (x % 2) (m % 2) = and_step x m in
    ap₂ ◌+◌
    (ap (λ (k : ℕ). k % 2) e ∙ digits_mod (bit_and (x / 2) (m / 2)) l ∙ bit-min (x % 2) (m % 2) a b)
    (ap (λ (k : ℕ). ones w (k / 2)) e ∙ ap (ones w) (digits_div (bit_and (x / 2) (m / 2)) l) ∙ ones-common w (x / 2) (m / 2))

-- 8 times a digit is 8 where the bit is set
digit : (d : ℕ) → d < 2 → 8 * d ≡ cond (eqb d 1) 8 0
digit zero h = refl
digit (suc zero) h = refl
digit (suc (suc d)) h = absurd (omega arith)

-- by position: 8 times what x and m have in common is 8 for each bit of the mask that x has
by-position : (w i x m : ℕ) → 8 * common w (x / 2 ^ i) (m / 2 ^ i) ≡ eights x (bits_from w i m)
unfolding common eights bit bits_from
by-position zero i x m = refl
by-position (suc w) i x m =
    let r : 8 * common w (x / 2 ^ i / 2) (m / 2 ^ i / 2) ≡ eights x (bits_from w (i + 1) m) =
    ap (λ (k : ℕ). 8 * k) (ap₂ (common w) (shr-shr x i 1) (shr-shr m i 1)) ∙ by-position w (i + 1) x m in
    by (eqb (m / 2 ^ i % 2) 0) r
  where
    by : (t : Bool) → 8 * common w (x / 2 ^ i / 2) (m / 2 ^ i / 2) ≡ eights x (bits_from w (i + 1) m)
        → 8 * (cond t 0 (x / 2 ^ i % 2) + common w (x / 2 ^ i / 2) (m / 2 ^ i / 2)) ≡ eights x (cond t [] (i ∷ []) ++ bits_from w (i + 1) m)
    by true r = r' r
      where
        r' : 8 * common w (x / 2 ^ i / 2) (m / 2 ^ i / 2) ≡ eights x (bits_from w (i + 1) m) → 8 * (0 + common w (x / 2 ^ i / 2) (m / 2 ^ i / 2)) ≡ eights x (bits_from w (i + 1) m)
        r' q = omega (arith, q)
    by false r =
        let d : 8 * (x / 2 ^ i % 2) ≡ cond (eqb (x / 2 ^ i % 2) 1) 8 0 = digit (x / 2 ^ i % 2) (omega arith) in
        sum (x / 2 ^ i % 2) (common w (x / 2 ^ i / 2) (m / 2 ^ i / 2)) (cond (eqb (x / 2 ^ i % 2) 1) 8 0) (eights x (bits_from w (i + 1) m)) d r
      where
        sum : (p q s t : ℕ) → 8 * p ≡ s → 8 * q ≡ t → 8 * (p + q) ≡ s + t
        sum p q s t e f = omega arith

-- THE LAW: 8 times the ones of a masked number is 8 for each bit of the mask that it has. Of a mask that is written out the list computes
pub eights-ones : (x m : ℕ) → 8 * ones 64 (bit_and x m) ≡ eights x (bits_from 64 0 m)
eights-ones x m =
    ap (λ (k : ℕ). 8 * k) (ones-common 64 x m ∙ sym (ap₂ (common 64) (div-one x) (div-one m))) ∙ by-position 64 0 x m

-- at most 8 for each bit. kept: for the bound of a function that adds them up
pub eights-most : (x : ℕ) (bs : List ℕ) → eights x bs ≤ 8 * length bs
unfolding eights
eights-most x [] = omega arith
eights-most x (b ∷ bs) = by (bit x b) (eights-most x bs)
  where
    by : (t : Bool) → eights x bs ≤ 8 * length bs → cond t 8 0 + eights x bs ≤ 8 * suc (length bs)
    by true h = omega arith
    by false h = omega arith

-- ---- the trailer: "8 bytes for each selected bit of 66,246"

-- two items of four bytes are one word
pub two-fours : (b : Bool) → cond b 4 0 + cond b 4 0 ≡ cond b 8 0
two-fours true = refl
two-fours false = refl

pub trailer-count : (kind : ℕ) (a : Attributes) → room (trailer kind a) ≡ cond (a.all && not (eqb kind 9)) (8 * ones 64 (bit_and a.sample 66246)) 0
unfolding room room_shape bits_from eights
trailer-count kind a = by a.all (eqb kind 9) (eights-ones a.sample 66246)
  where
    on : ℕ → Bool
    on b = bit a.sample b

    -- pid and tid, time, id, stream id, cpu and res, identifier, as the trailer has them; and by the mask's bits
    by : (p q : Bool) → 8 * ones 64 (bit_and a.sample 66246) ≡ eights a.sample (1 ∷ 2 ∷ 6 ∷ 7 ∷ 9 ∷ 16 ∷ [])
        → cond (p && not q && on 1) 4 0
        + (cond (p && not q && on 1) 4 0
        + (cond (p && not q && on 2) 8 0
        + (cond (p && not q && on 6) 8 0
        + (cond (p && not q && on 9) 8 0 + (cond (p && not q && on 7) 4 0 + (cond (p && not q && on 7) 4 0 + (cond (p && not q && on 16) 8 0 + 0)))))))
        ≡ cond (p && not q) (8 * ones 64 (bit_and a.sample 66246)) 0
    by false q e = refl
    by true true e = refl
    by true false e = let s = two-fours (on 1) in let t = two-fours (on 7) in omega (arith, e, s, t)

-- ---- read values. Without bit 3: the value, and a word for each bit of 23, which are 0, 1, 2 and 4; with it: n, a word for each bit of 3, and entries
-- of a value and a word for each bit of 20, which are 2 and 4

pub read_count : (a : Attributes) → bit a.format 3 ≡ false → room (read_values a true) ≡ 8 + 8 * ones 64 (bit_and a.format 23)
unfolding room room_shape bits_from eights
read_count a h = let e = eights-ones a.format 23 in rw h (omega (arith, e))

pub entry-count : (format : ℕ) → group_bytes format ≡ 8 + 8 * ones 64 (bit_and format 20)
unfolding bits_from eights
entry-count format = by (bit format 2) (bit format 4) (eights-ones format 20)
  where
    by : (t u : Bool) → 8 * ones 64 (bit_and format 20) ≡ cond t 8 0 + (cond u 8 0 + 0)
        → cond {A = ℕ} t (cond u 24 16) (cond u 16 8) ≡ 8 + 8 * ones 64 (bit_and format 20)
    by true true e = omega (arith, e)
    by true false e = omega (arith, e)
    by false true e = omega (arith, e)
    by false false e = omega (arith, e)

-- ---- registers: every bit of a mask of 64 counts

ones-all : (w x : ℕ) → ones w x ≡ common w x (2 ^ w - 1)
unfolding ones common
ones-all zero x = refl
ones-all (suc w) x =
    let q = pow-suc 2 w in
    let g = pow_pos w in
    let m : (2 ^ suc w - 1) % 2 ≡ 1 = omega (arith, q, g) in
    let d : (2 ^ suc w - 1) / 2 ≡ 2 ^ w - 1 = omega (arith, q, g) in
    rw (m, d) (ap (λ (k : ℕ). x % 2 + k) (ones-all w (x / 2)))

pub register-count : (mask : ℕ) → 8 * ones 64 mask ≡ eights mask (bits_from 64 0 (2 ^ 64 - 1))
register-count mask = ap (λ (k : ℕ). 8 * k) (ones-all 64 mask ∙ sym (ones-common 64 mask (2 ^ 64 - 1))) ∙ eights-ones mask (2 ^ 64 - 1)

pub register-bytes : (at old mask r : ℕ) → span Registers (cursor at (ones 64 mask) old 0) r ≡ eights mask (bits_from 64 0 (2 ^ 64 - 1))
unfolding span
register-bytes at old mask r = let e = register-count mask in omega (arith, e)
