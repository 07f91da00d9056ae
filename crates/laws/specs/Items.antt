-- One item, written and read, read and written: a law for each kind of shape, over its own bytes alone. Assumes nothing.
use Rattle.std.specs.Prelude.{◌≡◌, refl, ℕ, suc, ◌+◌, ◌-◌, ◌%◌, ◌^◌, ◌<◌, true, false, ◌&&◌, cond, List, [], ◌++◌, length, take, leb, eqb, ltb}
use Rattle.std.proofs.Common.{sym, ap, ◌∙◌, arith, length-append, length-take-le, take_at, lt-ltb, ltb-true, le-leb, leb-true, eq-eqb, eqb-true}
use Rattle.std.proofs.lemmas.List.{length-replicate}
use Rattle.meaning.specs.States.{Cursor}
use Rattle.meaning.specs.declared.Shape.{Shape}
use Rattle.meaning.specs.declared.Shape.TheVariants.{Number, Ignored, Count, Size, Times, Earlier, Registers, Filled, Abi, Limit, Listed, Bytes, Pad, Name}
use Rattle.meaning.specs.Bytes.{num, spell, zeros, zero_in, small, nonzero, stale, keep}
use Rattle.meaning.specs.Items.{Con, con, bytes, span, rule, holds}
use Rattle.meaning.specs.Writing.{emit, number, blank, listed, fit_shape, kept, ends}
use Rattle.laws.specs.Bytes.{and-true, true-and, con-of, nil-of, length-spell, num-spell, small-spell, spell-num, num-lt, small-append, small-zeros, small-take, take-length-by, listed_back, keep_all, zero-after, not-stale, nonzero-before, unbroken}

-- an item's bytes, as written, are as many as it takes; they break no rule, hold what was to be written, and nothing stale
unfoldable pub Wrote : Shape → Cursor → Con → Type 0
Wrote sh c v =
    (small (emit sh c v) ≡ true)
    × ((r : ℕ) → (ends sh ≡ true → r ≡ length (emit sh c v)) → span sh c r ≡ length (emit sh c v))
    × (rule sh c (emit sh c v) ≡ 0)
    × (holds sh c (emit sh c v) ≡ v)
    × (ends sh && stale (emit sh c v) ≡ false)

pub number-nil : (k : ℕ) (v : Con) → number k v ≡ true → (v.num < 256 ^ k) × ([] ≡ v.list)
unfolding number
number-nil k v h =
    let s = and-true (ltb v.num (256 ^ k)) (eqb (length v.list) 0) h in
    (ltb-true _ _ s.0, nil-of v.list (eqb-true _ _ s.1))

pub blank-is : (v : Con) → blank v ≡ true → con 0 [] ≡ v
unfolding blank
blank-is v h =
    let s = and-true (eqb v.num 0) (eqb (length v.list) 0) h in
    con-of v 0 [] (sym (eqb-true _ _ s.0)) (nil-of v.list (eqb-true _ _ s.1))

pub listed-is : (k : ℕ) (v : Con) → listed k v ≡ true → (0 ≡ v.num) × (length v.list ≡ k) × (small v.list ≡ true)
unfolding listed
listed-is k v h =
    let s = and-true (eqb v.num 0) (eqb (length v.list) k && small v.list) h in
    let t = and-true (eqb (length v.list) k) (small v.list) s.1 in
    (sym (eqb-true _ _ s.0), eqb-true _ _ t.0, t.1)

number-num : (k : ℕ) (v : Con) → number k v ≡ true → num (spell k v.num) ≡ v.num
number-num k v h = num-spell k v.num (number-nil k v h).0

number_is : (k : ℕ) (v : Con) → number k v ≡ true → con (num (spell k v.num)) [] ≡ v
number_is k v h = con-of v _ _ (number-num k v h) (number-nil k v h).1

pub wrote : (sh : Shape) (c : Cursor) (v : Con) → fit_shape sh c v ≡ true → Wrote sh c v
unfolding Wrote emit span rule holds fit_shape ends
wrote (Number w) c v h = (small-spell _ _, λ r e. sym (length-spell _ _), refl, number_is (bytes w) v h, refl)
wrote (Ignored k) c v h = (small-zeros k, λ r e. sym (length-replicate k 0), refl, blank-is v h, refl)
wrote (Count w) c v h = (small-spell _ _, λ r e. sym (length-spell _ _), refl, number_is (bytes w) v h, refl)
wrote (Size w) c v h =
    let s = and-true (number (bytes w) v) (eqb ((v.num + bytes w) % 8) 0) h in
    (small-spell _ _, λ r e. sym (length-spell _ _), rw (number-num (bytes w) v s.0, s.1), number_is (bytes w) v s.0, refl)
wrote (Times k) c v h = let s = listed-is _ v h in (s.2, λ r e. sym s.1, refl, con-of v _ _ s.0 refl, refl)
wrote (Earlier k) c v h = let s = listed-is _ v h in (s.2, λ r e. sym s.1, refl, con-of v _ _ s.0 refl, refl)
wrote Registers c v h = let s = listed-is _ v h in (s.2, λ r e. sym s.1, refl, con-of v _ _ s.0 refl, refl)
wrote Filled c v h =
    let k : ℕ = cond (eqb c.n 0) 0 8 in
    let s = and-true (number k v) (leb v.num c.n) h in
    (small-spell _ _, λ r e. sym (length-spell k _), rw (number-num k v s.0, s.1), number_is k v s.0, refl)
wrote (Abi m) c v h = (small-spell _ _, λ r e. sym (length-spell _ _), refl, number_is 8 v h, refl)
wrote (Limit k) c v h =
    let s = and-true (number 1 v) (leb v.num k) h in
    (small-spell _ _, λ r e. sym (length-spell _ _), rw (number-num 1 v s.0, s.1), number_is 1 v s.0, refl)
wrote (Listed k) c v h =
    let s = listed-is _ v h in
    let a = length-append v.list (zeros (k - length v.list)) in
    let z = length-replicate {A = ℕ} (k - length v.list) 0 in (
      small-append v.list (zeros (k - length v.list)) s.2 (small-zeros (k - length v.list)),
      λ r e. let q = s.1 in omega (arith, a, z, q),
      refl,
      con-of v _ _ s.0 (listed_back c.n k v.list s.1),
      refl,
    )
wrote (Bytes k) c v h = let s = listed-is _ v h in (s.2, λ r e. sym s.1, refl, con-of v _ _ s.0 refl, refl)
wrote Pad c v h = (small-zeros ((8 - c.at % 8) % 8), λ r e. sym (length-replicate _ 0), refl, blank-is v h, refl)
wrote Name c v h =
    let s = and-true (eqb v.num 0) (small v.list && nonzero v.list) h in
    let t = and-true (small v.list) (nonzero v.list) s.1 in
    let p : ℕ = 7 - (c.at + length v.list) % 8 in
    let e : 8 - (c.at + length v.list) % 8 ≡ suc p = omega arith in
    let ys : List ℕ = v.list ++ zeros (suc p) in
    let z : zero_in (v.list ++ zeros (suc p)) ≡ length v.list = zero-after v.list p t.1 in
    let a = length-append v.list (zeros (suc p)) in
    let q = length-replicate {A = ℕ} (suc p) 0 in
    rw e (
      small-append v.list (zeros (suc p)) t.0 (small-zeros (suc p)),
      λ r g. g refl,
      rw (z, lt-ltb (length v.list) (length ys) (omega (arith, a, q)), le-leb (length ys) (length v.list + 8) (omega (arith, a, q))),
      con-of v _ _ (sym (eqb-true _ _ s.0)) (ap (λ (m : ℕ). take m ys) z ∙ take_at v.list _ _ refl),
      not-stale v.list p t.1,
    )

-- an item's bytes, as read, can be written, and are written as they were but for the ignored ones
unfoldable pub Back : Shape → Cursor → List ℕ → Type 0
Back sh c ys = (fit_shape sh c (holds sh c ys) ≡ true) × (emit sh c (holds sh c ys) ≡ keep (kept sh c ys) ys)

number-fit : (k : ℕ) (ys : List ℕ) → small ys ≡ true → k ≡ length ys → number k (con (num ys) []) ≡ true
unfolding number
number-fit k ys s e = rw e (true-and _ true (lt-ltb _ _ (num-lt ys s)) refl)

number-back : (k : ℕ) (ys : List ℕ) → small ys ≡ true → k ≡ length ys → spell k (num ys) ≡ keep (length ys) ys
number-back k ys s e = rw e (spell-num ys s ∙ sym (keep_all ys))

listed-fit : (k : ℕ) (ys : List ℕ) → small ys ≡ true → k ≡ length ys → listed k (con 0 ys) ≡ true
unfolding listed
listed-fit k ys s e = true-and (eqb (length ys) k) (small ys) (eq-eqb _ _ (sym e)) s

-- a rule that is not broken
zeros-back : (k : ℕ) (ys : List ℕ) → k ≡ length ys → zeros k ≡ keep 0 ys
unfolding keep
zeros-back k ys e = let g : k ≡ length ys - 0 = omega arith in ap (λ (n : ℕ). zeros n) g

pub back : (sh : Shape) (c : Cursor) (ys : List ℕ) (r : ℕ) → small ys ≡ true → span sh c r ≡ length ys
    → (ends sh ≡ true → (c.at + length ys) % 8 ≡ 0) → rule sh c ys ≡ 0 → Back sh c ys
unfolding Back emit span rule holds fit_shape kept ends blank keep
back (Number w) c ys r s e a h = (number-fit _ ys s e, number-back _ ys s e)
back (Ignored k) c ys r s e a h = (refl, zeros-back k ys e)
back (Count w) c ys r s e a h = (number-fit _ ys s e, number-back _ ys s e)
back (Size w) c ys r s e a h = (true-and _ _ (number-fit _ ys s e) (unbroken _ 32 (omega arith) h), number-back _ ys s e)
back (Times k) c ys r s e a h = (listed-fit _ ys s e, sym (keep_all ys))
back (Earlier k) c ys r s e a h = (listed-fit _ ys s e, sym (keep_all ys))
back Registers c ys r s e a h = (listed-fit _ ys s e, sym (keep_all ys))
back Filled c ys r s e a h = (true-and _ _ (number-fit _ ys s e) (unbroken _ 32 (omega arith) h), number-back _ ys s e)
back (Abi m) c ys r s e a h = (number-fit _ ys s e, number-back _ ys s e)
back (Limit k) c ys r s e a h = (true-and _ _ (number-fit _ ys s e) (unbroken _ 32 (omega arith) h), number-back _ ys s e)
back (Listed k) c ys r s e a h =
    let t = take-length-by c.n ys in
    let q : k - length (take c.n ys) ≡ length ys - c.n = omega (arith, t, e) in
    (listed-fit _ (take c.n ys) (small-take c.n ys s) (omega (arith, t, e)), ap (λ (m : ℕ). take c.n ys ++ zeros m) q)
back (Bytes k) c ys r s e a h = (listed-fit _ ys s e, sym (keep_all ys))
back Pad c ys r s e a h = (refl, zeros-back _ ys e)
back Name c ys r s e a h =
    let z : ℕ = zero_in ys in
    let u = and-true (ltb z (length ys)) (leb (length ys) (z + 8)) (unbroken _ 33 (omega arith) h) in
    let lo = ltb-true z (length ys) u.0 in
    let hi = leb-true (length ys) (z + 8) u.1 in
    let t = length-take-le z ys (omega arith) in
    let m = a refl in
    let q : 8 - (c.at + length (take z ys)) % 8 ≡ length ys - z = omega (arith, t, m, lo, hi) in
    (true-and _ _ (small-take z ys s) (nonzero-before ys), ap (λ (k : ℕ). take z ys ++ zeros k) q)
