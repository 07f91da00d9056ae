-- Whole records: both round trips, and what a record decodes to can be written. Assumes nothing.
use Rattle.std.specs.Prelude.{◌≡◌, refl, ℕ, ◌+◌, ◌-◌, ◌%◌, ◌^◌, ◌<◌, ◌≤◌, Bool, true, false, ◌&&◌, cond, List, [], ◌∷◌, ◌++◌, length, take, drop, eqb, ltb}
use Rattle.std.proofs.Common.{sym, ap, ap₂, ◌∙◌, subst, arith, append_assoc, length-append, length-drop, length-take-le, take_at, drop_at, take-add, drop-drop, lt-ltb, ltb-true, eq-eqb, eqb-true}
use Rattle.std.proofs.Math.Bool.{and-false}
use Rattle.meaning.specs.States.{Cursor}
use Rattle.meaning.specs.declared.Item.{Item}
use Rattle.meaning.specs.Bytes.{num, spell, small}
use Rattle.meaning.specs.Items.{Con, step, walk, contents}
use Rattle.meaning.specs.Writing.{fit, write, cleaned, ends, ends_last, named, dirty}
use Rattle.meaning.specs.Records.{Layout, Value, fixed, room, kind_of, misc_of, size_of, origin, fields_of, fields_answer, check_by, body_of, tail_of, flag_by, flag_of, value, unflagged, header, field_bytes, written, write_record, fits_by, fits, cleaned_by, cleaned_record}
use Rattle.laws.specs.Bytes.{and-true, true-and, num-spell, small-spell, spell-num, num-lt, small-append, small-take, small-drop}
use Rattle.laws.specs.Rows.{or-false}
use Rattle.laws.specs.There.{There, there, write-small}
use Rattle.laws.specs.Again.{Again, again}
use Rattle.laws.specs.Fixed.{fixed-run, fixed-last, fixed-write}
use Rattle.laws.specs.Answers.{fields-zero, fields-pass, check-zero, check-pass}

-- what a layout must have: a name only as the last field, and a trailer of numbers, a multiple of 8 long
pub record SoundLayout (lay : Layout) : Type 0 where
  pub last : (kind misc : ℕ) → ends_last (lay.body kind misc) ≡ true
  pub plain : (kind : ℕ) → fixed (lay.trail kind) ≡ true
  pub whole : (kind : ℕ) → room (lay.trail kind) % 8 ≡ 0

-- a record whose type has no name never has the flag
pub nameless : (is : List Item) (xs : List ℕ) (c : Cursor) → named is ≡ false → dirty xs is c ≡ false
unfolding named dirty
nameless [] xs c h = refl
nameless (i ∷ is) xs c h =
    let p = or-false (ends i.shape) (named is) h in
    rw (p.0, and-false i.on) (nameless is xs (step xs i c) p.1)

pub nameless-clean : (lay : Layout) (xs : List ℕ) → named (lay.body (kind_of xs) (misc_of xs)) ≡ false → flag_of lay xs ≡ 0
unfolding flag_of flag_by
nameless-clean lay xs h =
    let t : ℕ = room (lay.trail (kind_of xs)) in
    ap (λ (b : Bool). cond b 1 0) (nameless (lay.body (kind_of xs) (misc_of xs)) (fields_of t xs) (origin 8) h)

-- xs are the bytes of a record that is accepted, and decodes to v
unfoldable pub Decodes : Layout → List ℕ → Value → Type 0
Decodes lay xs v = (small xs ≡ true) × (check_by lay xs ≡ 0) × (value lay xs ≡ v)

pub value_of : (v : Value) (k m s : ℕ) (b t : List Con) (g : ℕ) → k ≡ v.kind → m ≡ v.misc → s ≡ v.size → b ≡ v.body → t ≡ v.tail → g ≡ v.flag
    → ◌≡◌ {A = Value} (record { kind = k; misc = m; size = s; body = b; tail = t; flag = g }) v
value_of v k m s b t g p q r e f h = λ j. record { kind = p j; misc = q j; size = r j; body = e j; tail = f j; flag = h j }

-- a value that has no flag
pub no_flag : (v : Value) → v.flag ≡ 0 → unflagged v ≡ v
unfolding unflagged
no_flag v h = value_of v _ _ _ _ _ 0 refl refl refl refl refl (sym h)

-- the flag is not written
pub flag-unwritten : (lay : Layout) (v : Value) → write_record lay (unflagged v) ≡ write_record lay v
unfolding unflagged write_record written field_bytes header
flag-unwritten lay v = refl

-- the header's numbers, in front of anything
header-kind : (v : Value) (r : List ℕ) → v.kind < 256 ^ 4 → kind_of (header v ++ r) ≡ v.kind
unfolding kind_of header spell
header-kind v r h = num-spell 4 v.kind h

header-misc : (v : Value) (r : List ℕ) → v.misc < 256 ^ 2 → misc_of (header v ++ r) ≡ v.misc
unfolding misc_of header spell
header-misc v r h = num-spell 2 v.misc h

header-size : (v : Value) (r : List ℕ) → v.size < 256 ^ 2 → size_of (header v ++ r) ≡ v.size
unfolding size_of header spell
header-size v r h = num-spell 2 v.size h

header-drop : (v : Value) (r : List ℕ) → drop 8 (header v ++ r) ≡ r
unfolding header spell
header-drop v r = refl

pub header-length : (v : Value) → length (header v) ≡ 8
unfolding header spell
header-length v = refl

header-small : (v : Value) → small (header v) ≡ true
unfolding header
header-small v = small-append (spell 4 v.kind) (spell 2 v.misc ++ spell 2 v.size) (small-spell 4 v.kind) (small-append (spell 2 v.misc) (spell 2 v.size) (small-spell 2 v.misc) (small-spell 2 v.size))

fields-front : (F G : List ℕ) (t : ℕ) → length G ≡ t → fields_of t (F ++ G) ≡ F
unfolding fields_of
fields-front F G t e = let l = length-append F G in take_at F G (length (F ++ G) - t) (omega (arith, l, e))

pub length_fields : (t : ℕ) (xs : List ℕ) → length (fields_of t xs) ≡ length xs - t
unfolding fields_of
length_fields t xs = length-take-le (length xs - t) xs (omega arith)

small-fields : (t : ℕ) (xs : List ℕ) → small xs ≡ true → small (fields_of t xs) ≡ true
unfolding fields_of
small-fields t xs s = small-take (length xs - t) xs s

-- the header of a record that was read
piece : (k at : ℕ) (xs : List ℕ) → small xs ≡ true → at + k ≤ length xs → (spell k (num (take k (drop at xs))) ≡ take k (drop at xs)) × (num (take k (drop at xs)) < 256 ^ k)
piece k at xs s h =
    let ys : List ℕ = take k (drop at xs) in
    let d = length-drop at xs in
    let l : length ys ≡ k = length-take-le k (drop at xs) (omega (arith, d, h)) in
    let b = small-take k (drop at xs) (small-drop at xs s) in
    (ap (λ (n : ℕ). spell n (num ys)) (sym l) ∙ spell-num ys b, subst (λ (n : ℕ). num ys < 256 ^ n) l (num-lt ys b))

header-back : (v : Value) (xs : List ℕ) → small xs ≡ true → 8 ≤ length xs → v.kind ≡ kind_of xs → v.misc ≡ misc_of xs → v.size ≡ size_of xs → header v ≡ take 8 xs
unfolding header kind_of misc_of size_of
header-back v xs s h p q r =
    rw (p, q, r, (piece 4 0 xs s (omega arith)).0, (piece 2 4 xs s (omega arith)).0, (piece 2 6 xs s (omega arith)).0)
    (sym (take-add 4 4 xs ∙ ap (λ (l : List ℕ). take 4 xs ++ l) (take-add 2 2 (drop 4 xs) ∙ ap (λ (l : List ℕ). take 2 (drop 4 xs) ++ take 2 l) (drop-drop 2 4 xs))))

header-fits : (xs : List ℕ) → small xs ≡ true → 8 ≤ length xs → ltb (kind_of xs) (256 ^ 4) && (ltb (misc_of xs) (256 ^ 2) && ltb (size_of xs) (256 ^ 2)) ≡ true
unfolding kind_of misc_of size_of
header-fits xs s h =
    true-and _ _ (lt-ltb _ _ (piece 4 0 xs s (omega arith)).1) (true-and _ _ (lt-ltb _ _ (piece 2 4 xs s (omega arith)).1) (lt-ltb _ _ (piece 2 6 xs s (omega arith)).1))

-- a value that fits, as it is written
record Good (is ts : List Item) (v : Value) (xs : List ℕ) : Type 0 where
  bytes : small xs ≡ true
  least : 8 ≤ length xs
  kind : kind_of xs ≡ v.kind
  misc : misc_of xs ≡ v.misc
  size : size_of xs ≡ v.size
  true-size : v.size ≡ length xs
  eights : v.size % 8 ≡ 0
  answer : fields_answer is (room ts) xs ≡ 0
  body : body_of is (room ts) xs ≡ v.body
  tail : tail_of ts xs ≡ v.tail
  clean : flag_by is (room ts) xs ≡ 0

good : (is ts : List Item) (v : Value) → ends_last is ≡ true → fixed ts ≡ true → fits_by is ts v ≡ true → Good is ts v (written is ts v)
unfolding fits_by written field_bytes There body_of tail_of flag_by
good is ts v last plain f =
    let B : List ℕ = write is v.body (origin 8) in
    let F : List ℕ = header v ++ B in
    let G : List ℕ = write ts v.tail (origin (length F)) in
    let xs : List ℕ = F ++ G in
    let p = and-true (ltb v.kind (256 ^ 4) && (ltb v.misc (256 ^ 2) && ltb v.size (256 ^ 2))) _ f in
    let q = and-true (ltb v.kind (256 ^ 4)) _ p.0 in
    let q₁ = and-true (ltb v.misc (256 ^ 2)) _ q.1 in
    let r = and-true (fit is v.body (origin 8) && fit ts v.tail (origin (length F))) _ p.1 in
    let r₀ = and-true (fit is v.body (origin 8)) _ r.0 in
    let r₁ = and-true (eqb v.size (length xs)) _ r.1 in
    let nest : xs ≡ header v ++ (B ++ G) = append_assoc (header v) B G in
    let hl = header-length v in
    let l_f = length-append (header v) B in
    let lx = length-append F G in
    let l_g = fixed-write ts v.tail (origin (length F)) plain r₀.1 in
    let e_f : fields_of (room ts) xs ≡ F = fields-front F G (room ts) l_g in
    let tb = there is v.body (origin 8) F last r₀.0 refl (header-drop v B) in
    let tt = there ts v.tail (origin (length F)) xs (fixed-last ts plain) r₀.1 refl (drop_at F G (length F) refl) in
    let a₁ = tb.1 in
    let a : (walk F is (origin 8)).at ≡ length xs - room ts = omega (arith, a₁, hl, l_f, lx, l_g) in
    let n : length xs - room ts ≡ length F = omega (arith, lx, l_g) in
    record {
      bytes = small-append F G (small-append (header v) B (header-small v) (write-small is v.body (origin 8) r₀.0)) (write-small ts v.tail (origin (length F)) r₀.1);
      least = omega (arith, hl, l_f, lx);
      kind = ap kind_of nest ∙ header-kind v (B ++ G) (ltb-true _ _ q.0);
      misc = ap misc_of nest ∙ header-misc v (B ++ G) (ltb-true _ _ q₁.0);
      size = ap size_of nest ∙ header-size v (B ++ G) (ltb-true _ _ q₁.1);
      true-size = eqb-true _ _ r₁.0;
      eights = eqb-true _ _ r₁.1;
      answer = fields-pass is (room ts) xs (omega (arith, hl, l_f, lx, l_g)) (ap (λ (m : List ℕ). (walk m is (origin 8)).why) e_f ∙ tb.0)
          (ap (λ (m : List ℕ). (walk m is (origin 8)).at) e_f ∙ a);
      body = ap (λ (m : List ℕ). contents m is (origin 8)) e_f ∙ tb.2;
      tail = ap (λ (k : ℕ). contents xs ts (origin k)) n ∙ tt.2;
      clean = ap (λ (m : List ℕ). cond (dirty m is (origin 8)) 1 0) e_f ∙ ap (λ (b : Bool). cond b 1 0) tb.3;
    }

-- a record's bytes, read and written again
abbrev value_by : List Item → List Item → List ℕ → Value
value_by is ts xs = record { kind = kind_of xs; misc = misc_of xs; size = size_of xs; body = body_of is (room ts) xs; tail = tail_of ts xs; flag = 0 }

renewed : (is ts : List Item) (xs : List ℕ) → fixed ts ≡ true → room ts % 8 ≡ 0 → small xs ≡ true → size_of xs ≡ length xs → size_of xs % 8 ≡ 0
    → fields_answer is (room ts) xs ≡ 0 → (fits_by is ts (value_by is ts xs) ≡ true) × (written is ts (value_by is ts xs) ≡ cleaned_by is ts xs)
unfolding fits_by written field_bytes cleaned_by Again body_of tail_of
renewed is ts xs plain whole s e m fa =
    let t : ℕ = room ts in
    let v : Value = value_by is ts xs in
    let F : List ℕ = fields_of t xs in
    let z = fields-zero is t xs fa in
    let least = z.0 in
    let l_f : length F ≡ length xs - t = length_fields t xs in
    let A = again is F (origin 8) (small-fields t xs s) (omega (arith, l_f, e, m, whole, least)) (omega (arith, l_f, least)) z.1 in
    let R = fixed-run ts xs (origin (length xs - t)) plain refl (omega (arith, least)) in
    let T = again ts xs (origin (length xs - t)) s (omega (arith, e, m)) (omega (arith, least)) R.0 in
    let hd : header v ≡ take 8 xs = header-back v xs s (omega (arith, least)) refl refl refl in
    let B : List ℕ = write is v.body (origin 8) in
    let hl = header-length v in
    let l₁ = length-append (header v) B in
    let l₂ = ap length A.1 in
    let l₃ = A.2 in
    let l₄ = z.2 in
    let l_b : length (header v ++ B) ≡ length xs - t = omega (arith, hl, l₁, l₂, l₃, l₄) in
    let G : List ℕ = write ts v.tail (origin (length (header v ++ B))) in
    let e_g : G ≡ cleaned xs ts (origin (length xs - t)) = ap (λ (n : ℕ). write ts v.tail (origin n)) l_b ∙ T.1 in
    let g₁ = ap length e_g in
    let g₂ = T.2 in
    let g₃ = R.1 in
    let g₄ = length-append (header v ++ B) G in
    let lx : size_of xs ≡ length ((header v ++ B) ++ G) = omega (arith, e, l_b, g₁, g₂, g₃, g₄, least) in
    let b = header-fits xs s (omega (arith, least)) in (
      true-and _ _ b (true-and _ _ (true-and _ _ A.0 (ap (λ (n : ℕ). fit ts v.tail (origin n)) l_b ∙ T.0)) (true-and _ _ (eq-eqb _ _ lx) (eq-eqb _ _ m))),
      ap₂ (λ (a b : List ℕ). a ++ b) (ap₂ (λ (a b : List ℕ). a ++ b) hd A.1) e_g,
    )

-- the writer's bytes read back as the same record
pub record-there : (lay : Layout) (v : Value) → SoundLayout lay → fits lay v ≡ true → Decodes lay (write_record lay v) v
unfolding Decodes fits write_record value flag_of
record-there lay v sound f =
    let is : List Item = lay.body v.kind v.misc in
    let ts : List Item = lay.trail v.kind in
    let xs : List ℕ = written is ts v in
    let p = and-true (eqb (lay.unknown v.kind v.misc) 0) (eqb v.flag 0 && fits_by is ts v) f in
    let p₁ = and-true (eqb v.flag 0) (fits_by is ts v) p.1 in
    let g = good is ts v (sound.last v.kind v.misc) (sound.plain v.kind) p₁.1 in
    let u : lay.unknown (kind_of xs) (misc_of xs) ≡ 0 = ap₂ (λ (k m : ℕ). lay.unknown k m) g.kind g.misc ∙ eqb-true _ _ p.0 in
    let ei : lay.body (kind_of xs) (misc_of xs) ≡ is = ap₂ (λ (k m : ℕ). lay.body k m) g.kind g.misc in
    let et : lay.trail (kind_of xs) ≡ ts = ap (λ (k : ℕ). lay.trail k) g.kind in (
      g.bytes,
      check-pass lay xs g.least (g.size ∙ g.true-size) (ap (λ (n : ℕ). n % 8) g.size ∙ g.eights) u
          (ap₂ (λ (a b : List Item). fields_answer a (room b) xs) ei et ∙ g.answer),
      value_of v _ _ _ _ _ _ g.kind g.misc g.size (ap₂ (λ (a b : List Item). body_of a (room b) xs) ei et ∙ g.body) (ap (λ (b : List Item). tail_of b xs) et ∙ g.tail)
          (ap₂ (λ (a b : List Item). flag_by a (room b) xs) ei et ∙ g.clean ∙ sym (eqb-true _ _ p₁.0)),
    )

-- a record that was accepted has a value that, without the flag, can be written; and written again it has the same bytes, the ignored ones as zero
pub record-again : (lay : Layout) (xs : List ℕ) → SoundLayout lay → small xs ≡ true → check_by lay xs ≡ 0
    → (fits lay (unflagged (value lay xs)) ≡ true) × (write_record lay (value lay xs) ≡ cleaned_record lay xs)
unfolding fits unflagged write_record written field_bytes header value cleaned_record
record-again lay xs sound s h =
    let z = check-zero lay xs h in
    let r = renewed (lay.body (kind_of xs) (misc_of xs)) (lay.trail (kind_of xs)) xs (sound.plain (kind_of xs)) (sound.whole (kind_of xs)) s z.1 z.2 z.4 in
    (true-and _ _ (eq-eqb _ _ z.3) r.0, r.1)

-- a value without the flag that a record decodes to fits
pub decoded-fits : (lay : Layout) (v : Value) (xs : List ℕ) → SoundLayout lay → v.flag ≡ 0 → Decodes lay xs v → fits lay v ≡ true
unfolding Decodes
decoded-fits lay v xs sound n d =
    ap (λ (w : Value). fits lay w) (sym (no_flag v n) ∙ ap unflagged (sym d.2)) ∙ (record-again lay xs sound d.0 d.1).0

-- two records that decode to the same value are the same but for the ignored bytes
pub same-value : (lay : Layout) (xs ys : List ℕ) (v : Value) → SoundLayout lay → Decodes lay xs v → Decodes lay ys v → cleaned_record lay xs ≡ cleaned_record lay ys
unfolding Decodes
same-value lay xs ys v sound d e =
    sym (record-again lay xs sound d.0 d.1).1 ∙ ap (λ (w : Value). write_record lay w) (d.2 ∙ sym e.2) ∙ (record-again lay ys sound e.0 e.1).1
