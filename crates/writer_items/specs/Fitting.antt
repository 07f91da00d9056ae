-- The table of forms is what the definitions say: a slot fits the form of an item exactly when its content fits the item, and the form's bytes
-- and next state are the item's. Assumes nothing.
use Rattle.std.specs.Prelude.{◌≡◌, Bool, cond, ◌&&◌, ◌||◌, drop, leb, eqb, ltb}
use Rattle.std.proofs.Math.Path.{refl, sym, ap}
use Rattle.std.proofs.Common.{◌∙◌, add-zero, arith, length-append, length-drop, length-take-le, leb-true, le-leb, ltb-false, eqb-true, eq-eqb}
use Prim.Native.Nat.{ℕ, zero, suc, ◌+◌, ◌-◌, ◌*◌, ◌%◌, ◌^◌, ◌<◌, ◌≤◌}
use Rattle.std.proofs.Math.Nat.{mul-one, eq_of_mul-eq-mul_right}
use Rattle.std.proofs.Math.Bool.{true, false, or-true, or-false}
use mathlib.Core.List.{List, [], ◌++◌, append-nil}
use Rattle.std.proofs.Math.ListN.{length, take}
use Rattle.std.proofs.lemmas.List.{length-replicate}
use Rattle.std.proofs.Math.Dec.{leb-suc-suc, eqb-suc-zero}
use Rattle.meaning.specs.States.{Cursor}
use Rattle.meaning.specs.declared.Item.{Item}
use Rattle.meaning.specs.declared.Shape.{Shape}
use Rattle.meaning.specs.declared.Shape.TheVariants.{Number, Ignored, Count, Size, Times, Earlier, Registers, Filled, Abi, Limit, Listed, Bytes, Pad, Name}
use Rattle.meaning.specs.declared.Width.{Width}
use Rattle.meaning.specs.declared.Width.TheVariants.{W1, W2, W4, W8}
use Rattle.meaning.specs.Bytes.{spell, zeros, small, nonzero}
use Rattle.meaning.specs.Items.{con, bytes, cursor, counted, before, past}
use Rattle.meaning.specs.Writing.{emit, number, blank, listed, fit_shape, next}
use Rattle.meaning.specs.Values.{Slot, lists, unit, held, beyond}
use Rattle.laws.specs.Bytes.{apart, and-true, true-and, small-take, small-drop, length-spell}
use Rattle.laws.specs.There.{item}
use Rattle.writer_items.specs.Tries.{fits_item}
use Rattle.writer_forms.specs.Forms.{Form, top, shape_form, form, fits_form, passes_end, list_bytes, form_bytes, form_next}

-- two tests that say the same
pub same_test : (a b : Bool) → (a ≡ true → b ≡ true) → (b ≡ true → a ≡ true) → a ≡ b
same_test true b p q = sym (p refl)
same_test false true p q = q refl
same_test false false p q = refl

-- ---- what is listed

module _ (src : List ℕ) (s : Slot) where
  -- a number, or ignored bytes: no list
  no-list : (sh : Shape) → lists sh ≡ false → held src (item true sh) s ≡ con s.num (zeros s.count)
  unfolding held
  no-list sh e = rw e

  -- the bytes at the place
  listing : (sh : Shape) → lists sh ≡ true → held src (item true sh) s ≡ con s.num (take (s.count * unit sh) (drop s.place src))
  unfolding held
  listing sh e = rw e

  -- past 41 there are as many as the count says
  within : (k : ℕ) → s.place + s.count * k ≤ length src → length (take (s.count * k) (drop s.place src)) ≡ s.count * k
  within k h = let d = length-drop s.place src in length-take-le (s.count * k) (drop s.place src) (omega (arith, d, h))

-- ---- the tests, by the kinds of shapes

plain : (a b : Bool) → a && b ≡ (a && true) && ((b || false) && true)
plain true true = refl
plain true false = refl
plain false b = refl

ruled : (a b c : Bool) → (a && b) && c ≡ (a && c) && ((b || false) && true)
ruled true true true = refl
ruled true true false = refl
ruled true false true = refl
ruled true false false = refl
ruled false b c = refl

numbers : (k m x n : ℕ) → 256 ^ k ≡ suc m → number k (con x (zeros n)) ≡ leb x m && eqb n 0
unfolding number
numbers k m x n e = rw (e, leb-suc-suc x m, length-replicate {A = ℕ} n 0)

pub zero_test : (x : ℕ) → eqb x 0 ≡ leb x 0
zero_test x = same_test (eqb x 0) (leb x 0) (λ e. le-leb x 0 (let q = eqb-true x 0 e in omega (arith, q))) (λ e. eq-eqb x 0 (let q = leb-true x 0 e in omega (arith, q)))

blanks : (x n : ℕ) → blank (con x (zeros n)) ≡ (leb x 0 && true) && ((eqb n 0 || false) && true)
unfolding blank
blanks x n = rw (length-replicate {A = ℕ} n 0, zero_test x) (plain (leb x 0) (eqb n 0))

and_one : (a b : Bool) → a && b ≡ (a && true) && b
and_one true b = refl
and_one false b = refl

-- elements of no bytes have no count
counts : (n m k : ℕ) → eqb (n * k) (m * k) ≡ eqb n m || eqb k 0
counts n m zero = eq-eqb (n * 0) (m * 0) (omega arith) ∙ sym (or-true (eqb n m))
counts n m (suc k) =
    rw (eqb-suc-zero k, or-false (eqb n m))
    (same_test (eqb (n * suc k) (m * suc k)) (eqb n m)
    (λ e. eq-eqb n m (eq_of_mul-eq-mul_right (suc k) (omega arith) n m (eqb-true (n * suc k) (m * suc k) e)))
    (λ e. eq-eqb (n * suc k) (m * suc k) (ap (λ (j : ℕ). j * suc k) (eqb-true n m e))))

listings : (x n want k : ℕ) (l : List ℕ) → length l ≡ n * k → small l ≡ true
    → listed (want * k) (con x l) ≡ (leb x 0 && true) && ((eqb n want || eqb k 0) && true)
unfolding listed
listings x n want k l e s = rw (e, s, zero_test x, counts n want k) (and_one (leb x 0) ((eqb n want || eqb k 0) && true))

-- `top k` is one less than a power, which is not 0
pow-top : (w : Width) → 256 ^ bytes w ≡ suc (top (bytes w))
pow-top W1 = refl
pow-top W2 = refl
pow-top W4 = refl
pow-top W8 = refl

-- two bounds as one
both-test : (k p n q x m : ℕ) → 256 ^ k ≡ suc p → (x ≤ p → x ≤ n → x ≤ q) → (x ≤ q → (x ≤ p) × (x ≤ n))
    → number k (con x (zeros m)) && leb x n ≡ (leb x q && true) && ((eqb m 0 || false) && true)
both-test k p n q x m e f g =
    let one : leb x p && leb x n ≡ leb x q && true =
    same_test (leb x p && leb x n) (leb x q && true)
    (λ h. let u = and-true (leb x p) (leb x n) h in true-and (leb x q) true (le-leb x q (f (leb-true x p u.0) (leb-true x n u.1))) refl)
    (λ h. let u = g (leb-true x q (and-true (leb x q) true h).0) in true-and (leb x p) (leb x n) (le-leb x p u.0) (le-leb x n u.1)) in
    rw (numbers k p x m e) (ruled (leb x p) (eqb m 0) (leb x n) ∙ ap (λ (b : Bool). b && ((eqb m 0 || false) && true)) one)

filled-test : (n x m : ℕ) → x < 2 ^ 64 → number (cond (eqb n 0) 0 8) (con x (zeros m)) && leb x n ≡ (leb x n && true) && ((eqb m 0 || false) && true)
filled-test n x m h = go (eqb n 0) refl
  where
    go : (t : Bool) → eqb n 0 ≡ t → number (cond t 0 8) (con x (zeros m)) && leb x n ≡ (leb x n && true) && ((eqb m 0 || false) && true)
    go true e = both-test 0 0 n n x m refl (λ a b. b) (λ b. (let z = eqb-true n 0 e in omega (arith, z, b), b))
    go false e = both-test 8 18446744073709551615 n n x m refl (λ a b. b) (λ b. (omega (arith, h), b))

limit-test : (k x m : ℕ) → number 1 (con x (zeros m)) && leb x k ≡ (leb x (k - (k - 255)) && true) && ((eqb m 0 || false) && true)
limit-test k x m = both-test 1 255 k (k - (k - 255)) x m refl (λ a b. omega (arith, a, b)) (λ b. (omega (arith, b), omega (arith, b)))

name-test : (x n : ℕ) (l : List ℕ) → small l ≡ true → eqb x 0 && (small l && nonzero l) ≡ (leb x 0 && true) && ((eqb n n || false) && nonzero l)
name-test x n l s = rw (s, zero_test x, eq-eqb n n refl) (and_one (leb x 0) (nonzero l))

module _ (c : Cursor) (src : List ℕ) (s : Slot) (bytes_only : small src ≡ true) (narrow : s.num < 2 ^ 64) where
  some-small : (k : ℕ) → small (take k (drop s.place src)) ≡ true
  some-small k = small-take k (drop s.place src) (small-drop s.place src bytes_only)

  fit-number : (sh : Shape) (w : Width) → lists sh ≡ false → number (bytes w) (held src (item true sh) s) ≡ (leb s.num (top (bytes w)) && true) && ((eqb s.count 0 || false) && true)
  fit-number sh w e = rw (no-list src s sh e, numbers (bytes w) (top (bytes w)) s.num s.count (pow-top w)) (plain (leb s.num (top (bytes w))) (eqb s.count 0))

  fit-list : (sh : Shape) (want k : ℕ) → lists sh ≡ true → unit sh ≡ k → s.place + s.count * k ≤ length src
      → listed (want * k) (held src (item true sh) s) ≡ (leb s.num 0 && true) && ((eqb s.count want || eqb k 0) && true)
  fit-list sh want k e u h =
      rw (listing src s sh e, u) (listings s.num s.count want k (take (s.count * k) (drop s.place src)) (within src s k h) (some-small (s.count * k)))

  pub fit-shape : (sh : Shape) → (lists sh ≡ true → s.place + s.count * unit sh ≤ length src)
      → fit_shape sh c (held src (item true sh) s) ≡ fits_form (shape_form sh c s) src s
  unfolding fit_shape fits_form shape_form lists unit
  fit-shape (Number w) h = fit-number (Number w) w refl
  fit-shape (Ignored k) h = rw (no-list src s (Ignored k) refl) (blanks s.num s.count)
  fit-shape (Count w) h = fit-number (Count w) w refl
  fit-shape (Size w) h =
      rw (no-list src s (Size w) refl, numbers (bytes w) (top (bytes w)) s.num s.count (pow-top w))
      (ruled (leb s.num (top (bytes w))) (eqb s.count 0) (eqb ((s.num + bytes w) % 8) 0))
  fit-shape (Times k) h = fit-list (Times k) c.n k refl refl (h refl)
  fit-shape (Earlier k) h = fit-list (Earlier k) c.old k refl refl (h refl)
  fit-shape Registers h = fit-list Registers c.n 8 refl refl (h refl)
  fit-shape Filled h = rw (no-list src s Filled refl) (filled-test c.n s.num s.count narrow)
  fit-shape (Abi m) h = fit-number (Abi m) W8 refl
  fit-shape (Limit k) h = rw (no-list src s (Limit k) refl) (limit-test k s.num s.count)
  fit-shape (Listed k) h =
      ap (λ (n : ℕ). listed n (held src (item true (Listed k)) s)) (sym (mul-one (k - (k - c.n)))) ∙ fit-list (Listed k) (k - (k - c.n)) 1 refl refl (h refl)
  fit-shape (Bytes k) h = ap (λ (n : ℕ). listed n (held src (item true (Bytes k)) s)) (sym (mul-one k)) ∙ fit-list (Bytes k) k 1 refl refl (h refl)
  fit-shape Pad h = rw (no-list src s Pad refl) (blanks s.num s.count)
  fit-shape Name h = rw (listing src s Name refl, mul-one s.count) (name-test s.num s.count (take s.count (drop s.place src)) (some-small s.count))

-- an item that is off holds no number and no list
off-held : (sh : Shape) (src : List ℕ) (s : Slot) → held src (item false sh) s ≡ con s.num (zeros s.count)
unfolding held
off-held sh src s = refl

beyond-shape : (sh : Shape) (src : List ℕ) (s : Slot) → beyond src (item true sh) s ≡ false → lists sh ≡ true → s.place + s.count * unit sh ≤ length src
unfolding beyond
beyond-shape sh src s b e =
    let g : ltb (length src) (s.place + s.count * unit sh) ≡ false = rw e at b in
    ltb-false (length src) (s.place + s.count * unit sh) g

-- an item, on or off
fits_on : (on : Bool) (sh : Shape) (c : Cursor) (src : List ℕ) (s : Slot) → small src ≡ true → s.num < 2 ^ 64 → beyond src (item on sh) s ≡ false
    → fits_item src (item on sh) s c ≡ fits_form (form (item on sh) c s) src s
unfolding form fits_form
fits_on true sh c src s b n o = fit-shape c src s b n sh (beyond-shape sh src s o)
fits_on false sh c src s b n o = rw (off-held sh src s) (blanks s.num s.count)

pub fits-is : (i : Item) (c : Cursor) (src : List ℕ) (s : Slot) → small src ≡ true → s.num < 2 ^ 64 → beyond src i s ≡ false
    → fits_item src i s c ≡ fits_form (form i c s) src s
fits-is i c src s b n o = fits_on i.on i.shape c src s b n o

-- ---- the bytes, and the state after them

-- what a form that fits says of its count
fits_count : (f : Form) (src : List ℕ) (s : Slot) → fits_form f src s ≡ true → eqb f.unit 0 ≡ false → s.count ≡ f.want
unfolding fits_form
fits_count f src s h u =
    let p = and-true (leb s.num f.top && cond f.eights (eqb ((s.num + f.width) % 8) 0) true) _ h in
    let q = and-true (eqb s.count f.want || eqb f.unit 0) _ p.1 in
    eqb-true s.count f.want (sym (or-false (eqb s.count f.want)) ∙ ap (λ (b : Bool). eqb s.count f.want || b) (sym u) ∙ q.0)

-- a number has at most 8 bytes
bytes_most : (w : Width) → bytes w ≤ 8
bytes_most W1 = omega arith
bytes_most W2 = omega arith
bytes_most W4 = omega arith
bytes_most W8 = omega arith

filled-most : (t : Bool) → cond t 0 8 ≤ 8
filled-most true = omega arith
filled-most false = omega arith

-- of each shape: the form tests 41 as the definition does; it has the counts that are remembered; its number has at most 8 bytes; and a name is a
-- list of single bytes
Row : Shape → Cursor → List ℕ → Slot → Type 0
Row sh c src s =
    (beyond src (item true sh) s ≡ passes_end src (shape_form sh c s).list (shape_form sh c s).unit s.place s.count)
    × ((k : ℕ) → past sh (held src (item true sh) s) k c ≡ cursor (c.at + k) (shape_form sh c s).n (shape_form sh c s).old c.why)
    × ((shape_form sh c s).width ≤ 8)
    × ((shape_form sh c s).name ≡ true → ((shape_form sh c s).list ≡ true) × ((shape_form sh c s).unit ≡ 1))

no_name : {A : Type 0} → false ≡ true → A
no_name e = absurd (apart e)

row : (sh : Shape) (c : Cursor) (src : List ℕ) (s : Slot) → Row sh c src s
unfolding Row beyond passes_end past counted before held shape_form lists unit
row (Number w) c src s = (refl, λ _. refl, bytes_most w, no_name)
row (Ignored k) c src s = (refl, λ _. refl, omega arith, no_name)
row (Count w) c src s = (refl, λ _. refl, bytes_most w, no_name)
row (Size w) c src s = (refl, λ _. refl, bytes_most w, no_name)
row (Times k) c src s = (refl, λ _. refl, omega arith, no_name)
row (Earlier k) c src s = (refl, λ _. refl, omega arith, no_name)
row Registers c src s = (refl, λ _. refl, omega arith, no_name)
row Filled c src s = (refl, λ _. refl, filled-most (eqb c.n 0), no_name)
row (Abi m) c src s = (refl, λ _. refl, omega arith, no_name)
row (Limit k) c src s = (refl, λ _. refl, omega arith, no_name)
row (Listed k) c src s = (refl, λ _. refl, omega arith, no_name)
row (Bytes k) c src s = (refl, λ _. refl, omega arith, no_name)
row Pad c src s = (refl, λ _. refl, omega arith, no_name)
row Name c src s = (refl, λ _. refl, omega arith, λ _. (refl, refl))

passes-item : (on : Bool) (sh : Shape) (c : Cursor) (src : List ℕ) (s : Slot)
    → beyond src (item on sh) s ≡ passes_end src (form (item on sh) c s).list (form (item on sh) c s).unit s.place s.count
unfolding Row form beyond passes_end
passes-item true sh c src s = (row sh c src s).0
passes-item false sh c src s = refl

pub passes-is : (i : Item) (c : Cursor) (src : List ℕ) (s : Slot)
    → beyond src i s ≡ passes_end src (form i c s).list (form i c s).unit s.place s.count
passes-is i c src s = passes-item i.on i.shape c src s

width-item : (on : Bool) (sh : Shape) (c : Cursor) (s : Slot) → (form (item on sh) c s).width ≤ 8
unfolding Row form
width-item true sh c s = (row sh c [] s).2
width-item false sh c s = omega arith

pub width-most : (i : Item) (c : Cursor) (s : Slot) → (form i c s).width ≤ 8
width-most i c s = width-item i.on i.shape c s

name-item : (on : Bool) (sh : Shape) (c : Cursor) (s : Slot) → (form (item on sh) c s).name ≡ true → ((form (item on sh) c s).list ≡ true) × ((form (item on sh) c s).unit ≡ 1)
unfolding Row form
name-item true sh c s e = (row sh c [] s).3 e
name-item false sh c s e = absurd (apart e)

pub name-lists : (i : Item) (c : Cursor) (s : Slot) → (form i c s).name ≡ true → ((form i c s).list ≡ true) × ((form i c s).unit ≡ 1)
name-lists i c s e = name-item i.on i.shape c s e

module _ (c : Cursor) (src : List ℕ) (s : Slot) where
  twice-nil : (xs : List ℕ) → xs ≡ (xs ++ []) ++ []
  twice-nil xs = sym (append-nil (xs ++ []) ∙ append-nil xs)

  bytes_on : (sh : Shape) → fits_form (shape_form sh c s) src s ≡ true → (lists sh ≡ true → s.place + s.count * unit sh ≤ length src)
      → emit sh c (held src (item true sh) s) ≡ form_bytes (shape_form sh c s) src s
  unfolding emit held form_bytes shape_form list_bytes lists unit spell
  bytes_on (Number w) f h = twice-nil (spell (bytes w) s.num)
  bytes_on (Ignored k) f h = refl
  bytes_on (Count w) f h = twice-nil (spell (bytes w) s.num)
  bytes_on (Size w) f h = twice-nil (spell (bytes w) s.num)
  bytes_on (Times k) f h = sym (append-nil (take (s.count * k) (drop s.place src)))
  bytes_on (Earlier k) f h = sym (append-nil (take (s.count * k) (drop s.place src)))
  bytes_on Registers f h = sym (append-nil (take (s.count * 8) (drop s.place src)))
  bytes_on Filled f h = twice-nil (spell (cond (eqb c.n 0) 0 8) s.num)
  bytes_on (Abi m) f h = twice-nil (spell 8 s.num)
  bytes_on (Limit k) f h = twice-nil (spell 1 s.num)
  bytes_on (Listed k) f h =
      let L : List ℕ = take (s.count * 1) (drop s.place src) in
      let l : length L ≡ s.count * 1 = within src s 1 (h refl) in
      let q : s.count ≡ k - (k - c.n) = fits_count (shape_form (Listed k) c s) src s f refl in
      let e : k - length L ≡ k - (k - (k - c.n)) = omega (arith, l, q) in
      ap (λ (m : ℕ). L ++ zeros m) e
  bytes_on (Bytes k) f h = sym (append-nil (take (s.count * 1) (drop s.place src)))
  bytes_on Pad f h = refl
  bytes_on Name f h =
      let L : List ℕ = take (s.count * 1) (drop s.place src) in
      let l : length L ≡ s.count * 1 = within src s 1 (h refl) in
      let e : 8 - (c.at + length L) % 8 ≡ 8 - (c.at + s.count) % 8 = omega (arith, l) in
      ap (λ (m : ℕ). L ++ zeros m) e

  bytes-item : (on : Bool) (sh : Shape) → fits_form (form (item on sh) c s) src s ≡ true → beyond src (item on sh) s ≡ false
      → cond on (emit sh c (held src (item on sh) s)) [] ≡ form_bytes (form (item on sh) c s) src s
  unfolding form form_bytes list_bytes spell
  bytes-item true sh f o = bytes_on sh f (beyond-shape sh src s o)
  bytes-item false sh f o = refl

-- how long the bytes of a form are
pub list-long : (f : Form) (src : List ℕ) (s : Slot) → passes_end src f.list f.unit s.place s.count ≡ false
    → length (take (list_bytes f s) (drop s.place src)) ≡ list_bytes f s
unfolding list_bytes passes_end
list-long f src s o = go f.list o
  where
    go : (t : Bool) → (t && ltb (length src) (s.place + s.count * f.unit)) ≡ false
        → length (take (cond t (s.count * f.unit) 0) (drop s.place src)) ≡ cond t (s.count * f.unit) 0
    go true e = within src s f.unit (ltb-false (length src) (s.place + s.count * f.unit) e)
    go false e = refl

pub form-length : (f : Form) (src : List ℕ) (s : Slot) → passes_end src f.list f.unit s.place s.count ≡ false
    → length (form_bytes f src s) ≡ f.width + list_bytes f s + f.pad
unfolding form_bytes
form-length f src s o =
    let A : List ℕ = spell f.width s.num in
    let B : List ℕ = take (list_bytes f s) (drop s.place src) in
    let a = length-append (A ++ B) (zeros f.pad) in
    let b = length-append A B in
    let d = length-spell f.width s.num in
    let e = list-long f src s o in
    let z = length-replicate {A = ℕ} f.pad 0 in
    omega (arith, a, b, d, e, z)

next-item : (on : Bool) (sh : Shape) (c : Cursor) (src : List ℕ) (s : Slot) → fits_form (form (item on sh) c s) src s ≡ true → beyond src (item on sh) s ≡ false
    → next (item on sh) (held src (item on sh) s) c ≡ form_next (form (item on sh) c s) s c
unfolding Row next form form_next list_bytes
next-item true sh c src s f o =
    let l = form-length (shape_form sh c s) src s (sym (row sh c src s).0 ∙ o) in
    (row sh c src s).1 (length (emit sh c (held src (item true sh) s)))
    ∙ ap (λ (k : ℕ). cursor (c.at + k) (shape_form sh c s).n (shape_form sh c s).old c.why) (ap length (bytes_on c src s sh f (beyond-shape sh src s o)) ∙ l)
next-item false sh c src s f o = ap (λ (k : ℕ). cursor k c.n c.old c.why) (sym (add-zero c.at))

-- the bytes of an item, and the state after it
pub bytes-is : (i : Item) (c : Cursor) (src : List ℕ) (s : Slot) → fits_form (form i c s) src s ≡ true → beyond src i s ≡ false
    → cond i.on (emit i.shape c (held src i s)) [] ≡ form_bytes (form i c s) src s
bytes-is i c src s f o = bytes-item c src s i.on i.shape f o

pub next-is : (i : Item) (c : Cursor) (src : List ℕ) (s : Slot) → fits_form (form i c s) src s ≡ true → beyond src i s ≡ false
    → next i (held src i s) c ≡ form_next (form i c s) s c
next-is i c src s f o = next-item i.on i.shape c src s f o

-- a list that does not pass the source's end
pub inside-source : (f : Form) (src : List ℕ) (s : Slot) → passes_end src f.list f.unit s.place s.count ≡ false → f.list ≡ true
    → s.place + s.count * f.unit ≤ length src
unfolding passes_end
inside-source f src s o e =
    let g : ltb (length src) (s.place + s.count * f.unit) ≡ false = rw e at o in
    ltb-false (length src) (s.place + s.count * f.unit) g
