-- The two cases of `field_at` and of `forward_at`, and a part that is longer than what is there; and that the reader reads as the definition of
-- a record walks: a field is the step over an item that is a number, a header the record's. Assumes nothing.
use Rattle.std.specs.Prelude.{◌≡◌, refl, Bool, true, false, ◌&&◌, Ok, Err, List, [], ℕ, ◌+◌, ◌-◌, ◌≤◌, ◌<◌, leb, length, take, drop}
use Rattle.std.proofs.Common.{sym, ap, ◌∙◌, arith, le-leb, leb-true, leb-false, eqb-true, ne_eqb, length-drop, drop_of_length-le, take_all, length-take-le}
use Rattle.std.proofs.lemmas.Bool.{lt-leb}
use Rattle.std.specs.Borrow.{Bor}
use Rattle.meaning.specs.States.{Cursor}
use Rattle.meaning.specs.declared.Reason.{Reason}
use Rattle.meaning.specs.declared.Shape.TheVariants.{Number}
use Rattle.meaning.specs.declared.Width.{Width}
use Rattle.meaning.specs.declared.Width.TheVariants.{W1, W2, W4, W8}
use Rattle.meaning.specs.Bytes.{number_at}
use Rattle.meaning.specs.Items.{con, cursor, bytes, span, rule, holds, counted, before, past, part, settle, shape_step, step, content}
use Rattle.meaning.specs.Refusals.{or_else}
use Rattle.meaning.specs.Records.{kind_of, misc_of, size_of}
use Rattle.meaning.specs.Schema.{always}
use Rattle.reader.specs.Field.{is_width, field_at, field_found, field_told, header_told, passes, forward_at, header_at, Field, Header}
use Rattle.laws.specs.Bytes.{and-true}
use Rattle.reader.specs.declared.Cut.{Cut}
use Rattle.reader.specs.declared.Header.{Header as Whole}
use Rattle.reader.specs.declared.Reader.{Reader}

-- a sum that is not made
pub leb-sub : (a k n : ℕ) → a ≤ n → leb k (n - a) ≡ leb (a + k) n
leb-sub a k n h = go (leb (a + k) n) refl
  where
    go : (t : Bool) → leb (a + k) n ≡ t → leb k (n - a) ≡ leb (a + k) n
    go true e = let g = leb-true (a + k) n e in le-leb k (n - a) (omega arith) ∙ sym e
    go false e = let g = leb-false (a + k) n e in lt-leb k (n - a) (omega arith) ∙ sym e

pub field-there : (k : ℕ) (xs : List ℕ) (at : ℕ) → (is_width k && leb (at + k) (length xs)) ≡ true → field_at k xs at ≡ field_found (number_at k xs at) (at + k)
unfolding field_at
field-there k xs at e = simp e

pub field-passes : (k : ℕ) (xs : List ℕ) (at : ℕ) → (is_width k && leb (at + k) (length xs)) ≡ false → field_at k xs at ≡ passes at
unfolding field_at
field-passes k xs at e = simp e

-- a field that is refused is not there
pub field_refused : (k : ℕ) (xs : List ℕ) (at : ℕ) (reason : Reason) → 0 < k → field_told at (Err reason) ≡ field_at k xs at → field_at k xs at ≡ passes at
field_refused k xs at reason h e = go (is_width k && leb (at + k) (length xs)) refl
  where
    go : (t : Bool) → (is_width k && leb (at + k) (length xs)) ≡ t → field_at k xs at ≡ passes at
    go true t =
        let g : at ≡ at + k = ap (λ (f : Field). f.next) (e ∙ field-there k xs at t) in
        absurd (omega (arith, h, g))
    go false t = field-passes k xs at t

or-30 : (k : ℕ) (xs : List ℕ) (at : ℕ) → or_else (field_at k xs at).why 30 ≡ 30
or-30 k xs at = go (is_width k && leb (at + k) (length xs)) refl
  where
    go : (t : Bool) → (is_width k && leb (at + k) (length xs)) ≡ t → or_else (field_at k xs at).why 30 ≡ 30
    go true t = rw (field-there k xs at t)
    go false t = rw (field-passes k xs at t)

-- a record that ends within its header: what was read before, and the place
pub cut_short : (xs : List ℕ) (kind misc : Field) → kind ≡ field_at 4 xs 0 → misc ≡ field_at 2 xs kind.next → field_at 2 xs misc.next ≡ passes misc.next
    → header_at xs 0 ≡ record { why = 30; kind = kind.value; misc = misc.value; size = 0; next = misc.next }
cut_short xs kind misc k m p =
    let a : or_else kind.why 30 ≡ 30 = ap (λ (f : Field). or_else f.why 30) k ∙ or-30 4 xs 0 in
    let b : or_else misc.why 30 ≡ 30 = ap (λ (f : Field). or_else f.why 30) m ∙ or-30 2 xs kind.next in
    rw (sym k, sym m, p, b, a)

pub forward-there : (xs : List ℕ) (at n : ℕ) → leb (at + n) (length xs) ≡ true → forward_at xs at n ≡ at + n
unfolding forward_at
forward-there xs at n e = simp e

pub forward-passes : (xs : List ℕ) (at n : ℕ) → leb (at + n) (length xs) ≡ false → forward_at xs at n ≡ length xs
unfolding forward_at
forward-passes xs at n e = simp e

pub part-past : (xs : List ℕ) (at n : ℕ) → length xs ≤ at → take n (drop at xs) ≡ []
part-past xs at n h = ap (take n) (drop_of_length-le xs h) ∙ take_all n [] (omega arith)

pub part-long : (xs : List ℕ) (at n : ℕ) → length xs - at ≤ n → take n (drop at xs) ≡ drop at xs
part-long xs at n h = take_all n (drop at xs) (omega (arith, length-drop at xs))

-- a field by the reader's two parts
pub at_place : (k : ℕ) (s : Bor (List ℕ)) (r : Reader) (at : ℕ) → r.record ≡ s → r.at ≡ at → field_at k r.record.now r.at ≡ field_at k s.now at
at_place k s r at p q = ap (λ (x : Bor (List ℕ)). field_at k x.now r.at) p ∙ ap (field_at k s.now) q

-- ---- the reader reads as the definition of a record walks

some_bytes : (w : Width) → 0 < bytes w
some_bytes W1 = omega arith
some_bytes W2 = omega arith
some_bytes W4 = omega arith
some_bytes W8 = omega arith

width_is : (w : Width) → is_width (bytes w) ≡ true
width_is W1 = refl
width_is W2 = refl
width_is W4 = refl
width_is W8 = refl

-- what is of no other width
pub width-last : (k : ℕ) → is_width k ≡ true → (k ≡ 1 → ⊥) → (k ≡ 2 → ⊥) → (k ≡ 4 → ⊥) → k ≡ 8
width-last k w a b c = eqb-true k 8 (simp (ne_eqb k 1 a, ne_eqb k 2 b, ne_eqb k 4 c) at w)

there-by : (w : Width) (xs : List ℕ) (at : ℕ) (t : Bool) → leb (at + bytes w) (length xs) ≡ t → (is_width (bytes w) && leb (at + bytes w) (length xs)) ≡ t
there-by w xs at t e = rw (width_is w) e

-- a field is the step over an item that is a number. Kept, with `field-content`: `field_at` is a definition of its own, and one that reads otherwise than
-- document 01's items is refused here
pub field_step : (w : Width) (xs : List ℕ) (at n old : ℕ)
    → step xs (always (Number w)) (cursor at n old 0) ≡ cursor (field_at (bytes w) xs at).next n old (field_at (bytes w) xs at).why
unfolding step shape_step span part rule settle holds past counted before
field_step w xs at n old = go (leb (at + bytes w) (length xs)) refl
  where
    go : (t : Bool) → leb (at + bytes w) (length xs) ≡ t
        → step xs (always (Number w)) (cursor at n old 0) ≡ cursor (field_at (bytes w) xs at).next n old (field_at (bytes w) xs at).why
    go true e =
        let g : at + bytes w ≤ length xs = leb-true (at + bytes w) (length xs) e in
        let l : bytes w ≤ length (drop at xs) = omega (arith, length-drop at xs) in
        rw (le-leb (bytes w) (length (drop at xs)) l, field-there (bytes w) xs at (there-by w xs at true e), length-take-le (bytes w) (drop at xs) l)
    go false e =
        let g : length xs < at + bytes w = leb-false (at + bytes w) (length xs) e in
        let l : length (drop at xs) < bytes w = omega (arith, length-drop at xs, some_bytes w) in
        rw (lt-leb (bytes w) (length (drop at xs)) l, field-passes (bytes w) xs at (there-by w xs at false e))

-- and its number is what that item holds
pub field-content : (w : Width) (xs : List ℕ) (c : Cursor) → (field_at (bytes w) xs c.at).why ≡ 0
    → content xs (always (Number w)) c ≡ con (field_at (bytes w) xs c.at).value []
unfolding content holds part span
field-content w xs c h = go (leb (c.at + bytes w) (length xs)) refl
  where
    go : (t : Bool) → leb (c.at + bytes w) (length xs) ≡ t → content xs (always (Number w)) c ≡ con (field_at (bytes w) xs c.at).value []
    go true e = rw (field-there (bytes w) xs c.at (there-by w xs c.at true e))
    go false e =
        let z : (field_at (bytes w) xs c.at).why ≡ 30 = ap (λ (f : Field). f.why) (field-passes (bytes w) xs c.at (there-by w xs c.at false e)) in
        absurd (omega (arith, h, z))

-- the header of a record, where it is whole
pub header-whole : (xs : List ℕ) → 8 ≤ length xs → header_at xs 0 ≡ record { why = 0; kind = kind_of xs; misc = misc_of xs; size = size_of xs; next = 8 }
unfolding kind_of misc_of size_of
header-whole xs h =
    let k = field-there 4 xs 0 (le-leb 4 (length xs) (omega arith)) in
    let m = field-there 2 xs 4 (le-leb 6 (length xs) (omega arith)) in
    let s = field-there 2 xs 6 (le-leb 8 (length xs) (omega arith)) in
    rw (k, m, s)

-- what a header that was read holds of a record that has one
pub record Headed (xs : List ℕ) (h : Header) : Type 0 where
  pub kind-is : h.kind ≡ kind_of xs
  pub misc-is : h.misc ≡ misc_of xs
  pub size_is : h.size ≡ size_of xs

pub headed : (xs : List ℕ) (h : Header) → h ≡ header_at xs 0 → 8 ≤ length xs → Headed xs h
headed xs h e l =
    let w = e ∙ header-whole xs l in
    record { kind-is = ap (λ (x : Header). x.kind) w; misc-is = ap (λ (x : Header). x.misc) w; size_is = ap (λ (x : Header). x.size) w }

-- a field does not pass the end
next-within : (k : ℕ) (xs : List ℕ) (at : ℕ) → at ≤ length xs → (field_at k xs at).next ≤ length xs
next-within k xs at h = go (is_width k && leb (at + k) (length xs)) refl
  where
    go : (t : Bool) → (is_width k && leb (at + k) (length xs)) ≡ t → (field_at k xs at).next ≤ length xs
    go true t =
        let l = leb-true (at + k) (length xs) (and-true (is_width k) (leb (at + k) (length xs)) t).1 in
        rw (field-there k xs at t) l
    go false t = rw (field-passes k xs at t) h

-- a header is read of a record that has one, and of no other
pub header_there : (xs : List ℕ) (h : Whole) → header_told (Ok h) ≡ header_at xs 0 → 8 ≤ length xs
header_there xs h e =
    let k = next-within 4 xs 0 (omega arith) in
    let m = next-within 2 xs _ k in
    let s = next-within 2 xs _ m in
    let n : 8 ≡ (header_at xs 0).next = ap (λ (x : Header). x.next) e in
    omega (arith, n, s)

pub header_missing : (xs : List ℕ) (c : Cut) → header_told (Err c) ≡ header_at xs 0 → length xs < 8
header_missing xs c e = go (leb 8 (length xs)) refl
  where
    go : (t : Bool) → leb 8 (length xs) ≡ t → length xs < 8
    go true t =
        let n : 30 ≡ 0 = ap (λ (x : Header). x.why) (e ∙ header-whole xs (leb-true 8 (length xs) t)) in
        absurd (omega (arith, n))
    go false t = leb-false 8 (length xs) t
