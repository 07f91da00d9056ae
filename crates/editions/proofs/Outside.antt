-- Laws of what is known and of what lies outside. Assumes nothing.
use Rattle.std.specs.Prelude.{◌≡◌, List, [], ◌∷◌, ◌++◌, Bool, not, ◌&&◌, ◌||◌, ltb, eqb, length, get_or}
use Rattle.std.proofs.Math.Path.{refl, sym, ap, ap₂}
use Rattle.std.proofs.Common.{◌∙◌, subst, pow-suc}
use Rattle.std.proofs.Math.Bool.{true, false, or-true, or_assoc, or-false as or_nil}
use Prim.Native.Nat.{ℕ, zero, suc, ◌+◌, ◌-◌, ◌/◌, ◌%◌, ◌^◌, ◌<◌, ◌≤◌}
use Rattle.std.proofs.Math.Nat.{div-eq_of_lt, div-eq_of_lt-le}
use native.Mathlib.Omega.{arith}
use Rattle.std.proofs.Math.Dec.{leb}
use Rattle.std.proofs.Math.Pow.{pow_mono}
use borrow.Author.Tests.{lt-ltb, le-ltb, ne_eqb, le-leb, lt-leb, ltb-true, leb-true, leb-false, not-false}
use Rattle.meaning.specs.Bytes.{bit}
use Rattle.meaning.specs.declared.Known.{Known}
use Rattle.meaning.specs.Editions.{nothing_known, allowed, known, Thing, knows, outside, when, bits, kind, sample_bit, format_bit, build_id, branch_bit}
use Rattle.laws.specs.Bytes.{apart, and-true}
use Rattle.laws.specs.Rows.{or-false}
use Rattle.editions.specs.Fairness.{within, within_all, rising}

-- ---- outside
pub outside-append : (k : Known) (xs ys : List Thing) → outside k (xs ++ ys) ≡ (outside k xs || outside k ys)
unfolding outside
outside-append k [] ys = refl
outside-append k (x ∷ xs) ys = ap (λ (b : Bool). not (knows k x) || b) (outside-append k xs ys) ∙ sym (or_assoc (not (knows k x)) (outside k xs) (outside k ys))

pub outside-when : (k : Known) (b : Bool) (ts : List Thing) → outside k (when b ts) ≡ (b && outside k ts)
unfolding outside
outside-when k true ts = refl
outside-when k false ts = refl

-- bit i, or one above it: 2 ^ i is reached
top_bit : (x i : ℕ) → (bit x i || leb (2 ^ suc i) x) ≡ leb (2 ^ i) x
unfolding bit
top_bit x i = by (leb (2 ^ suc i) x) (leb (2 ^ i) x) refl refl
  where
    by : (s t : Bool) → leb (2 ^ suc i) x ≡ s → leb (2 ^ i) x ≡ t → (eqb (x / 2 ^ i % 2) 1 || s) ≡ t
    by true true e f = or-true (eqb (x / 2 ^ i % 2) 1)
    by true false e f =
        let p = leb-true (2 ^ suc i) x e in
        let q = leb-false (2 ^ i) x f in
        absurd (omega (arith, p, q, pow-suc 2 i))
    by false true e f =
        let p = leb-false (2 ^ suc i) x e in
        let q = leb-true (2 ^ i) x f in
        let d : x / 2 ^ i ≡ 1 = div-eq_of_lt-le {k = 1} (2 ^ i) {m = x} (omega (arith, q)) (omega (arith, p, pow-suc 2 i)) in
        rw d refl
    by false false e f =
        let d : x / 2 ^ i ≡ 0 = div-eq_of_lt (leb-false (2 ^ i) x f) in
        rw d refl

-- bits of a kind from l on that are all unknown: one is selected exactly if the number is at least 2 ^ i
module _ (k : Known) (f : ℕ → Thing) (l : ℕ) (u : (b : ℕ) → l ≤ b → knows k (f b) ≡ false) (x : ℕ) where
  head-out : (b : Bool) (i : ℕ) → l ≤ i → outside k (when b (f i ∷ [])) ≡ b
  unfolding outside
  head-out true i g = rw (u i g) refl
  head-out false i g = refl

  pub above : (i n : ℕ) → l ≤ i → x < 2 ^ (i + n) → outside k (bits f x i n) ≡ leb (2 ^ i) x
  unfolding bits outside
  above i zero g b = let e : i + 0 ≡ i = omega arith in sym (lt-leb (2 ^ i) x (subst (λ (m : ℕ). x < 2 ^ m) e b))
  above i (suc n) g b =
      let e : i + suc n ≡ suc i + n = omega arith in
      outside-append k (when (bit x i) (f i ∷ [])) (bits f x (suc i) n)
      ∙ ap₂ (λ (s t : Bool). s || t) (head-out (bit x i) i g) (above (suc i) n (omega arith) (subst (λ (m : ℕ). x < 2 ^ m) e b))
      ∙ top_bit x i

-- bits of a kind from i up to i + n that are all known: they say nothing
module _ (k : Known) (f : ℕ → Thing) (x : ℕ) where
  head_in : (b : Bool) (i : ℕ) → knows k (f i) ≡ true → outside k (when b (f i ∷ [])) ≡ false
  unfolding outside
  head_in true i g = rw g refl
  head_in false i g = refl

  pub below : (n i t m j : ℕ) → t ≡ n + m → j ≡ i + n → ((b : ℕ) → b < j → knows k (f b) ≡ true) → outside k (bits f x i t) ≡ outside k (bits f x j m)
  unfolding bits outside
  below zero i t m j e g h =
      let p : i ≡ j = omega (arith, g) in
      let q : t ≡ m = omega (arith, e) in
      ap₂ (λ (a b : ℕ). outside k (bits f x a b)) p q
  below (suc n) i zero m j e g h = absurd (omega (arith, e))
  below (suc n) i (suc t) m j e g h =
      outside-append k (when (bit x i) (f i ∷ [])) (bits f x (suc i) t)
      ∙ ap₂ (λ (s t : Bool). s || t) (head_in (bit x i) i (h i (omega (arith, g)))) (below n (suc i) t m j (omega (arith, e)) (omega (arith, g)) h)

-- one fact over the kind of bit: where the bits below l are known, one outside is selected exactly if the number is at least 2 ^ l
module _ (k : Known) (f : ℕ → Thing) (l : ℕ) (h : (b : ℕ) → knows k (f b) ≡ ltb b l) (x : ℕ) where
  pub bits-outside : (d i n : ℕ) → i + d ≡ l → x < 2 ^ (i + n) → outside k (bits f x i n) ≡ leb (2 ^ l) x
  unfolding bits outside
  bits-outside zero i n g b =
      let e : i ≡ l = omega arith in
      above k f l (λ c o. h c ∙ le-ltb c l o) x i n (omega arith) b ∙ ap (λ (m : ℕ). leb (2 ^ m) x) e
  bits-outside (suc d) i zero g b =
      let p : 2 ^ (i + 0) ≤ 2 ^ l = pow_mono (omega arith) in
      sym (lt-leb (2 ^ l) x (omega (arith, p, b)))
  bits-outside (suc d) i (suc n) g b =
      let e : i + suc n ≡ suc i + n = omega arith in
      outside-append k (when (bit x i) (f i ∷ [])) (bits f x (suc i) n)
      ∙ ap₂ (λ (s t : Bool). s || t) (head_in k f x (bit x i) i (h i ∙ lt-ltb i l (omega arith))) (bits-outside d (suc i) n (omega arith) (subst (λ (m : ℕ). x < 2 ^ m) e b))

-- the branch bits are no threshold: 0 to 16 and 18 are known to all, 17 where the index is, 19 and up to none
branch-low : (k : Known) (b : ℕ) → b < 17 → knows k (branch_bit b) ≡ true
branch-low k b h = rw (lt-ltb b 19 (omega arith), ne_eqb b 17 (λ e. omega (arith, e, h))) refl

branch-high : (k : Known) (b : ℕ) → 19 ≤ b → knows k (branch_bit b) ≡ false
branch-high k b h = rw (le-ltb b 19 h) refl

one_out : (k : Known) (b : Bool) (t : Thing) → outside k (when b (t ∷ [])) ≡ (b && not (knows k t))
unfolding outside
one_out k true t = or_nil (not (knows k t))
one_out k false t = refl

pub branch-outside : (k : Known) (x : ℕ) → x < 2 ^ 64 → outside k (bits branch_bit x 0 64) ≡ ((bit x 17 && not k.index) || leb (2 ^ 19) x)
unfolding bits
branch-outside k x w =
    below k branch_bit x 17 0 64 47 17 refl refl (branch-low k)
    ∙ outside-append k (when (bit x 17) (branch_bit 17 ∷ [])) (bits branch_bit x 18 46)
    ∙ ap₂ (λ (s t : Bool). s || t) (one_out k (bit x 17) (branch_bit 17))
    (outside-append k (when (bit x 18) (branch_bit 18 ∷ [])) (bits branch_bit x 19 45)
    ∙ ap₂ (λ (s t : Bool). s || t) (head_in k branch_bit x (bit x 18) 18 refl) (above k branch_bit 19 (branch-high k) x 19 45 (omega arith) w))

-- ---- a row within another knows no more
implied : (a b : Bool) → (not a || b) ≡ true → a ≡ true → b ≡ true
implied true b e h = e
implied false b e h = absurd (apart h)

either : (e a b : Bool) → (not a || b) ≡ true → (not e || a) ≡ true → (not e || b) ≡ true
either true a b i h = implied a b i h
either false a b i h = refl

pub knows_more : (k m : Known) → within k m ≡ true → (t : Thing) → knows k t ≡ true → knows m t ≡ true
knows_more k m w t g =
    let w1 = and-true _ _ w in
    let w2 = and-true _ _ w1.1 in
    let w3 = and-true _ _ w2.1 in
    let w4 = and-true (not k.builds || m.builds) (not k.index || m.index) w3.1 in
    by t (leb-true _ _ w1.0) (leb-true _ _ w2.0) (leb-true _ _ w3.0) w4.0 w4.1 g
  where
    by : (t : Thing) → k.kinds ≤ m.kinds → k.samples ≤ m.samples → k.formats ≤ m.formats → (not k.builds || m.builds) ≡ true
        → (not k.index || m.index) ≡ true → knows k t ≡ true → knows m t ≡ true
    by (kind n) p q r s i g =
        let g1 = and-true (leb 1 n) (leb n k.kinds) g in
        let u = leb-true n k.kinds g1.1 in
        rw g1.0 (le-leb n m.kinds (omega arith))
    by (sample_bit b) p q r s i g = let u = ltb-true b k.samples g in lt-ltb b m.samples (omega arith)
    by (format_bit b) p q r s i g = let u = ltb-true b k.formats g in lt-ltb b m.formats (omega arith)
    by build_id p q r s i g = implied k.builds m.builds s g
    by (branch_bit b) p q r s i g =
        let g1 = and-true (ltb b 19) (not (eqb b 17) || k.index) g in
        rw g1.0 (either (eqb b 17) k.index m.index i g1.1)

pub outside-less : (k m : Known) → within k m ≡ true → (ts : List Thing) → outside k ts ≡ false → outside m ts ≡ false
unfolding outside
outside-less k m w [] o = refl
outside-less k m w (t ∷ ts) o =
    let s = or-false (not (knows k t)) (outside k ts) o in
    let g = knows_more k m w t (not-false (knows k t) s.0) in
    rw g (outside-less k m w ts s.1)

-- ---- a rising table: of two rows the earlier is within the later
pub within-self : (k : Known) → within k k ≡ true
within-self k =
    rw (le-leb k.kinds k.kinds (omega arith), le-leb k.samples k.samples (omega arith), le-leb k.formats k.formats (omega arith), self k.builds) (self k.index)
  where
    self : (b : Bool) → (not b || b) ≡ true
    self true = refl
    self false = refl

all-within : (k : Known) (ks : List Known) (j : ℕ) → within_all k ks ≡ true → j < length ks → within k (get_or ks j nothing_known) ≡ true
all-within k [] j w h = absurd (omega arith)
all-within k (m ∷ ms) zero w h = (and-true (within k m) (within_all k ms) w).0
all-within k (m ∷ ms) (suc j) w h = all-within k ms j (and-true (within k m) (within_all k ms) w).1 (omega arith)

rising-at : (ks : List Known) (i j : ℕ) → rising ks ≡ true → i ≤ j → j < length ks
    → within (get_or ks i nothing_known) (get_or ks j nothing_known) ≡ true
rising-at [] i j r g h = absurd (omega arith)
rising-at (k ∷ ks) zero zero r g h = within-self k
rising-at (k ∷ ks) zero (suc j) r g h = all-within k ks j (and-true (within_all k ks) (rising ks) r).0 (omega arith)
rising-at (k ∷ ks) (suc i) zero r g h = absurd (omega arith)
rising-at (k ∷ ks) (suc i) (suc j) r g h = rising-at ks i j (and-true (within_all k ks) (rising ks) r).1 (omega arith) (omega arith)

pub known-within : (rows : List Known) → rising rows ≡ true → (e₁ e₂ : ℕ) → e₁ ≤ e₂ → allowed rows e₂ ≡ true → within (known rows e₁) (known rows e₂) ≡ true
unfolding known
known-within rows r e₁ e₂ g h =
    let s = and-true (leb 1 e₂) (leb e₂ (length rows)) h in
    let a = leb-true 1 e₂ s.0 in
    let b = leb-true e₂ (length rows) s.1 in
    rising-at rows (e₁ - 1) (e₂ - 1) r (omega arith) (omega arith)

-- rows added at the end change none of those before
get_d_append : (ks ms : List Known) (i : ℕ) (d : Known) → i < length ks → get_or (ks ++ ms) i d ≡ get_or ks i d
get_d_append [] ms i d h = absurd (omega arith)
get_d_append (k ∷ ks) ms zero d h = refl
get_d_append (k ∷ ks) ms (suc i) d h = get_d_append ks ms i d (omega arith)

-- kept: for an edition that is added
pub known-append : (rows more : List Known) (e : ℕ) → allowed rows e ≡ true → known (rows ++ more) e ≡ known rows e
unfolding known
known-append rows more e h =
    let s = and-true (leb 1 e) (leb e (length rows)) h in
    get_d_append rows more (e - 1) nothing_known (omega (arith, leb-true 1 e s.0, leb-true e (length rows) s.1))
