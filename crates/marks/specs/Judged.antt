-- What the judge answers, from what is known of the type and of the fields' end. Assumes nothing.
use Rattle.std.specs.Prelude.{◌≡◌, refl, Bool, true, false, ◌&&◌, List, ℕ, ◌+◌, ◌-◌, ◌≤◌, ◌<◌, length}
use Rattle.std.proofs.Common.{sym, ◌∙◌, ⊎_elim, arith, take_all}
use Rattle.std.proofs.Math.Path.{ap}
use borrow.Author.Tests.{le-leb, lt-leb, ne_eqb}
use Rattle.laws.specs.Bytes.{le-or-lt}
use Rattle.laws.specs.Whole.{length_fields}
use Rattle.meaning.specs.declared.Attributes.{Attributes}
use Rattle.meaning.specs.declared.Item.{Item}
use Rattle.meaning.specs.Items.{walk}
use Rattle.meaning.specs.Schema.{trailer}
use Rattle.meaning.specs.Records.{Layout, kind_of, misc_of, room_shape, room, origin, fields_of, closed, fields_answer, judge}
use Rattle.blocks.specs.Seen.{Closes}
use Rattle.blocks.specs.Steady.{steady, total, sizes, sizes-less, sizes-more, sizes-same, steady-closes}

-- as many bytes more on both sides
sizes-shift : (p q m n k : ℕ) → p ≡ m + k → q ≡ n + k → sizes p q ≡ sizes m n
sizes-shift p q m n k g h =
    ⊎_elim
    (λ (x : m ≤ n).
    ⊎_elim
    (λ (y : n ≤ m). sizes-same p q (omega (arith, g, h, x, y)) ∙ sym (sizes-same m n (omega (arith, x, y))))
    (λ (y : m < n). sizes-less p q (omega (arith, g, h, y)) ∙ sym (sizes-less m n y))
    (le-or-lt n m))
    (λ (x : n < m). sizes-more p q (omega (arith, g, h, x)) ∙ sym (sizes-more m n x))
    (le-or-lt m n)

module _ (lay : Layout) (xs : List ℕ) where
  -- 20 to 25
  pub unreadable-judged : (w : ℕ) → lay.unknown (kind_of xs) (misc_of xs) ≡ w → (w ≡ 0 → ⊥) → w ≡ judge lay xs
  unfolding judge
  unreadable-judged w u z = rw (u, ne_eqb w 0 z)

  module _ (t : ℕ) (u : lay.unknown (kind_of xs) (misc_of xs) ≡ 0) (r : room (lay.trail (kind_of xs)) ≡ t) where
    -- the trailer does not fit
    pub short-judged : length xs < 8 + t → 30 ≡ judge lay xs
    unfolding judge fields_answer
    short-judged h = rw (u, r, lt-leb (8 + t) (length xs) h)

    -- the fields up to the trailer
    pub closes-judged : (is : List Item) (x : ℕ) → lay.body (kind_of xs) (misc_of xs) ≡ is → 8 + t ≤ length xs → Closes (fields_of t xs) is 8 x → x ≡ judge lay xs
    unfolding judge fields_answer Closes
    closes-judged is x b l c =
        c 0 0 ∙ ap (λ (k : ℕ). closed k (walk (fields_of t xs) is (origin 8))) (length_fields t xs) ∙ rw (u, r, b, le-leb (8 + t) (length xs) l)

    -- all items of one width: the size alone
    pub sized-judged : (is : List Item) (n : ℕ) → lay.body (kind_of xs) (misc_of xs) ≡ is → steady is ≡ true → n ≡ 8 + total is + t → sizes (length xs) n ≡ judge lay xs
    sized-judged is n b f e = ⊎_elim (λ h. long h) (λ h. sizes-less (length xs) n (omega (arith, e, h)) ∙ short-judged h) (le-or-lt (8 + t) (length xs))
      where
        long : 8 + t ≤ length xs → sizes (length xs) n ≡ judge lay xs
        long h =
            let lf = length_fields t xs in
            sizes-shift (length xs) n (length (fields_of t xs) - 8) (total is) (8 + t) (omega (arith, lf, h)) (omega (arith, e))
            ∙ closes-judged is (sizes (length (fields_of t xs) - 8) (total is)) b h (steady-closes (fields_of t xs) is 8 (total is) f refl (omega (arith, lf, h)))

-- a SAMPLE has no trailer
and-off : (x y : Bool) → (x && false && y) ≡ false
and-off true y = refl
and-off false y = refl

pub no-trailer : (a : Attributes) → room (trailer 9 a) ≡ 0
unfolding room room_shape
no-trailer a = simp (and-off)

pub whole_fields : (xs : List ℕ) → fields_of 0 xs ≡ xs
unfolding fields_of
whole_fields xs = take_all (length xs - 0) xs (omega arith)
