-- M-107 in words: "MMAP, MMAP2, COMM, KSYMBOL and CGROUP records gain a flag: whether any byte after the name's zero within its room is not zero." Of an accepted record
-- of these types the flag is 1 exactly when a byte after the name's zero and before the trailer is not zero, and else 0; of any other type it is 0. A name's room
-- begins where its type says, and ends where the trailer starts. Assumes nothing.
use Rattle.std.specs.Prelude.{◌≡◌, Bool, true, false, cond, not, ◌&&◌, ◌||◌, List, [], ◌∷◌, ◌⊎◌, ℕ, zero, suc, ◌+◌, ◌-◌, ◌<◌, ◌≤◌, leb, ltb, eqb, length, get_or, take, drop}
use Rattle.std.proofs.Math.Path.{refl}
use Rattle.std.proofs.Common.{sym, ap, ◌∙◌, subst, inl, inr, ⊎_elim, eq-zero-or-pos, add-zero, arith, length-drop, length-take-le, get_or-take, get_or-drop, leb-true, ltb-true, eqb-true}
use Rattle.std.proofs.Math.Seq.{take-length}
use Rattle.std.proofs.lemmas.Bool.{eqb-false, not-true}
use Rattle.meaning.specs.declared.Attributes.{Attributes}
use Rattle.meaning.specs.States.{Cursor}
use Rattle.meaning.specs.declared.Item.{Item}
use Rattle.meaning.specs.declared.Known.{Known}
use Rattle.meaning.specs.declared.Shape.TheVariants.{Name}
use Rattle.meaning.specs.Bytes.{zero_in, all_zero, stale, bit}
use Rattle.meaning.specs.Editions.{editions, known, is_in}
use Rattle.meaning.specs.Items.{span, rule, past, part, step, walk}
use Rattle.meaning.specs.Writing.{ends, named, dirty}
use Rattle.meaning.specs.Schema.{always, mmap2, schemas, schema, trailer}
use Rattle.meaning.specs.Records.{layout, kind_of, misc_of, room, origin, fields_of, check_by, check, flag_by, flag_of, record_check}
use Rattle.laws.specs.Bytes.{apart, and-true, unbroken, le-or-lt}
use Rattle.laws.specs.Rows.{in-each}
use Rattle.laws.specs.Again.{fine, fine₁}
use Rattle.laws.specs.Walks.{step-off, step-on, step-taken}
use Rattle.laws.specs.Answers.{fields-zero, check-zero}
use Rattle.laws.specs.Answer42.{check-of}
use Rattle.laws.specs.Whole.{nameless-clean}
use Rattle.promises.proofs.Demand2.{check-flagged, check-44}

-- ---- the types

-- MMAP, COMM, MMAP2, KSYMBOL, CGROUP
abbrev pub named_types : List ℕ
named_types = 1 ∷ 3 ∷ 10 ∷ 17 ∷ 19 ∷ []

-- where the name begins: after the header's 8 bytes and the fields before it
abbrev pub name_from : ℕ → ℕ
name_from kind = cond (eqb kind 1) 40 (cond (eqb kind 3) 16 (cond (eqb kind 10) 72 (cond (eqb kind 17) 24 16)))

-- every list with a name stands at one of these numbers, counted from a first one on
abbrev named_at : List (List Item) → ℕ → List ℕ → Bool
named_at [] n ns = true
named_at (is ∷ ls) n ns = cond (named is) (is_in n ns) true && named_at ls (suc n) ns

named_in : (ls : List (List Item)) (n k : ℕ) (ns : List ℕ) → named_at ls n ns ≡ true → named (get_or ls k []) ≡ true → is_in (n + k) ns ≡ true
unfolding named
named_in [] n k ns h m = absurd (apart m)
named_in (is ∷ ls) n zero ns h m =
    ap (λ (j : ℕ). is_in j ns) (add-zero n) ∙ subst (λ (b : Bool). cond b (is_in n ns) true ≡ true) m (and-true (cond (named is) (is_in n ns) true) (named_at ls (suc n) ns) h).0
named_in (is ∷ ls) n (suc k) ns h m =
    let e : n + suc k ≡ suc n + k = omega arith in
    ap (λ (j : ℕ). is_in j ns) e ∙ named_in ls (suc n) k ns (and-true (cond (named is) (is_in n ns) true) (named_at ls (suc n) ns) h).1 m

-- "MMAP, MMAP2, COMM, KSYMBOL and CGROUP", and no other type
pub named-exactly : (kind misc : ℕ) (a : Attributes)
    → (named (schema kind misc a) ≡ true → is_in kind named_types ≡ true) × (is_in kind named_types ≡ true → named (schema kind misc a) ≡ true)
unfolding named ends
named-exactly kind misc a = (
  λ m. let z : 0 + kind ≡ kind = omega arith in ap (λ (j : ℕ). is_in j named_types) (sym z) ∙ named_in (schemas misc a) 0 kind named_types refl m,
  in-each (λ (n : ℕ). named (schema n misc a)) named_types kind refl,
)

-- ---- bytes

-- the first zero from a place on, before another
pub record FirstZero (xs : List ℕ) (from to at : ℕ) : Type 0 where
  pub low : from ≤ at
  pub high : at < to
  pub zero-there : get_or xs at 0 ≡ 0
  pub none_before : (j : ℕ) → from ≤ j → j < at → get_or xs j 0 ≡ 0 → ⊥

-- there is only one
pub only_zero : (xs : List ℕ) (from to a b : ℕ) → FirstZero xs from to a → FirstZero xs from to b → a ≡ b
only_zero xs from to a b p q =
    ⊎_elim
    (λ (h : a ≤ b). ⊎_elim (λ (g : b ≤ a). omega (arith, h, g)) (λ (g : a < b). absurd (q.none_before a p.low g p.zero-there)) (le-or-lt b a))
    (λ (h : b < a). absurd (p.none_before b q.low h q.zero-there))
    (le-or-lt a b)

-- a byte after a place and before another that is not zero
pub record NotZero (xs : List ℕ) (from to : ℕ) : Type 0 where
  pub place : ℕ
  pub after : from < place
  pub before : place < to
  pub not-zero : get_or xs place 0 ≡ 0 → ⊥

zero_in_lem : (ys : List ℕ) → get_or ys (zero_in ys) 0 ≡ 0
unfolding zero_in
zero_in_lem [] = refl
zero_in_lem (y ∷ ys) = by (eqb y 0) refl (zero_in_lem ys)
  where
    by : (t : Bool) → eqb y 0 ≡ t → get_or ys (zero_in ys) 0 ≡ 0 → get_or (y ∷ ys) (cond t 0 (suc (zero_in ys))) 0 ≡ 0
    by true e q = eqb-true y 0 e
    by false e q = q

none_in : (ys : List ℕ) (j : ℕ) → j < zero_in ys → get_or ys j 0 ≡ 0 → ⊥
unfolding zero_in
none_in [] j h z = absurd (omega (arith, h))
none_in (y ∷ ys) j h z = by (eqb y 0) refl j h z (none_in ys)
  where
    by : (t : Bool) → eqb y 0 ≡ t → (j : ℕ) → j < cond t 0 (suc (zero_in ys)) → get_or (y ∷ ys) j 0 ≡ 0 → ((i : ℕ) → i < zero_in ys → get_or ys i 0 ≡ 0 → ⊥) → ⊥
    by true e j h z next = absurd (omega (arith, h))
    by false e zero h z next = eqb-false y 0 e z
    by false e (suc j) h z next = next j (omega (arith, h)) z

all-zeros : (ys : List ℕ) → all_zero ys ≡ true → (i : ℕ) → get_or ys i 0 ≡ 0
unfolding all_zero
all-zeros [] h i = refl
all-zeros (y ∷ ys) h zero = eqb-true y 0 (and-true (eqb y 0) (all_zero ys) h).0
all-zeros (y ∷ ys) h (suc i) = all-zeros ys (and-true (eqb y 0) (all_zero ys) h).1 i

record Some (ys : List ℕ) : Type 0 where
  pub place : ℕ
  pub inside : place < length ys
  pub not-zero : get_or ys place 0 ≡ 0 → ⊥

some-not : (ys : List ℕ) → all_zero ys ≡ false → Some ys
unfolding all_zero
some-not [] h = absurd (apart (sym h))
some-not (y ∷ ys) h = by (eqb y 0) refl h (some-not ys)
  where
    by : (t : Bool) → eqb y 0 ≡ t → (t && all_zero ys) ≡ false → (all_zero ys ≡ false → Some ys) → Some (y ∷ ys)
    by true e g next = let s = next g in record { place = suc s.place; inside = omega (arith, s.inside); not-zero = s.not-zero }
    by false e g next = record { place = 0; inside = omega arith; not-zero = eqb-false y 0 e }

-- "whether any byte after the name's zero within its room is not zero", of the room alone
room-stale : (ys : List ℕ) → (stale ys ≡ true → NotZero ys (zero_in ys) (length ys)) × (NotZero ys (zero_in ys) (length ys) → stale ys ≡ true)
unfolding stale
room-stale ys = (λ h. there (some-not (drop z ys) (not-true (all_zero (drop z ys)) h)), λ s. back s (all_zero (drop z ys)) refl)
  where
    z : ℕ
    z = zero_in ys

    there : Some (drop z ys) → NotZero ys z (length ys)
    there s =
        let l = length-drop z ys in
        ⊎_elim
        (λ (e : s.place ≡ 0).
        absurd (s.not-zero (ap (λ (i : ℕ). get_or (drop z ys) i 0) e ∙ get_or-drop z ys 0 0 ∙ ap (λ (i : ℕ). get_or ys i 0) (add-zero z) ∙ zero_in_lem ys)))
        (λ (p : 0 < s.place).
        record { place = z + s.place; after = omega (arith, p); before = omega (arith, l, s.inside); not-zero = λ q. s.not-zero (get_or-drop z ys s.place 0 ∙ q) })
        (eq-zero-or-pos s.place)

    back : NotZero ys z (length ys) → (t : Bool) → all_zero (drop z ys) ≡ t → not t ≡ true
    back s true e =
        let m : z + (s.place - z) ≡ s.place = omega (arith, s.after) in
        absurd (s.not-zero (ap (λ (i : ℕ). get_or ys i 0) (sym m) ∙ sym (get_or-drop z ys (s.place - z) 0) ∙ all-zeros (drop z ys) e (s.place - z)))
    back s false e = refl

-- ---- the items before the name

-- where a walk over items has come, with the flag of all of them still to be told by the rest
record Reached (xs : List ℕ) (flag : Bool) (is : List Item) (at : ℕ) : Type 0 where
  pub cursor : Cursor
  pub here : cursor.at ≡ at
  pub same : flag ≡ dirty xs is cursor
  pub fine-on : (walk xs is cursor).why ≡ 0

start : (xs : List ℕ) (is : List Item) (c : Cursor) → (walk xs is c).why ≡ 0 → Reached xs (dirty xs is c) is c.at
start xs is c h = record { cursor = c; here = refl; same = refl; fine-on = h }

no_name : (on e s d : Bool) → e ≡ false → ((on && e) && s) || d ≡ d
no_name true e s d q = rw q
no_name false e s d q = refl

-- over an item that is no name, and whose length no byte changes
over : {xs : List ℕ} {flag : Bool} {i : Item} {is : List Item} {at : ℕ} (k : ℕ) → ends i.shape ≡ false
    → ((c : Cursor) (r : ℕ) → cond i.on (span i.shape c r) 0 ≡ k) → Reached xs flag (i ∷ is) at → Reached xs flag is (at + k)
unfolding dirty walk past
over {xs} {flag} {i} {is} {at} k n steady r =
    record {
      cursor = step xs i c;
      here = by i.on refl ∙ ap (λ (m : ℕ). m + k) r.here;
      same = r.same ∙ no_name i.on (ends i.shape) (stale (part i.shape c (drop c.at xs))) (dirty xs is (step xs i c)) n;
      fine-on = r.fine-on;
    }
  where
    c : Cursor
    c = r.cursor

    h : (step xs i c).why ≡ 0
    h = fine xs is (step xs i c) r.fine-on

    by : (t : Bool) → i.on ≡ t → (step xs i c).at ≡ c.at + k
    by true o =
        let p = step-taken xs i c h o in
        ap (λ (d : Cursor). d.at) (step-on xs i c (fine₁ xs i c h) o ∙ p.is)
        ∙ ap (λ (m : ℕ). c.at + m) (p.long ∙ subst (λ (t : Bool). cond t (span i.shape c (length (drop c.at xs))) 0 ≡ k) o (steady c (length (drop c.at xs))))
    by false o =
        let e : 0 ≡ k = subst (λ (t : Bool). cond t (span i.shape c 0) 0 ≡ k) o (steady c 0) in
        ap (λ (d : Cursor). d.at) (step-off xs i c o) ∙ sym (add-zero c.at) ∙ ap (λ (m : ℕ). c.at + m) e

-- the name, last: its room is what is left, and 33 was not given
record Found (xs : List ℕ) (at : ℕ) (flag : Bool) : Type 0 where
  pub is : flag ≡ stale (drop at xs)
  pub has-zero : zero_in (drop at xs) < length (drop at xs)
  pub among-last : length (drop at xs) ≤ zero_in (drop at xs) + 8

or-none : (b : Bool) → b || false ≡ b
or-none true = refl
or-none false = refl

found : {xs : List ℕ} {flag : Bool} {at : ℕ} → Reached xs flag (always Name ∷ []) at → Found xs at flag
unfolding dirty walk part span rule ends
found {xs} {flag} {at} r =
    let c : Cursor = r.cursor in
    let R : List ℕ = drop c.at xs in
    let w : take (length R) R ≡ R = take-length R in
    let p = step-taken xs (always Name) c r.fine-on refl in
    let u = and-true (ltb (zero_in (take (length R) R)) (length (take (length R) R))) (leb (length (take (length R) R)) (zero_in (take (length R) R) + 8)) (unbroken _ 33 (omega arith) p.kept) in
    let e : take (length R) R ≡ drop at xs = w ∙ ap (λ (m : ℕ). drop m xs) r.here in
    record {
      is = r.same ∙ or-none (stale (take (length R) R)) ∙ ap stale e;
      has-zero = subst (λ (ys : List ℕ). zero_in ys < length ys) e (ltb-true _ _ u.0);
      among-last = subst (λ (ys : List ℕ). length ys ≤ zero_in ys + 8) e (leb-true _ _ u.1);
    }

module _ (xs : List ℕ) where
  abbrev FoundIn : List Item → ℕ → Type 0
  FoundIn is at = (walk xs is (origin 8)).why ≡ 0 → Found xs at (dirty xs is (origin 8))

  in-mmap : (misc : ℕ) (a : Attributes) → FoundIn (schema 1 misc a) 40
  unfolding span ends
  in-mmap misc a h =
      found (over 8 refl (λ c r. refl) (over 8 refl (λ c r. refl) (over 8 refl (λ c r. refl) (over 4 refl (λ c r. refl) (over 4 refl (λ c r. refl) (start xs _ _ h))))))

  in-comm : (misc : ℕ) (a : Attributes) → FoundIn (schema 3 misc a) 16
  unfolding span ends
  in-comm misc a h = found (over 4 refl (λ c r. refl) (over 4 refl (λ c r. refl) (start xs _ _ h)))

  -- with the file's four numbers, or with the build id
  in-mmap2 : (b : Bool) → FoundIn (mmap2 b) 72
  unfolding span ends
  in-mmap2 b h = found (over 4 refl (λ c r. refl) (over 4 refl (λ c r. refl) (middle b first)))
    where
      first : Reached xs (dirty xs (mmap2 b) (origin 8)) (drop 5 (mmap2 b)) 40
      first = over 8 refl (λ c r. refl) (over 8 refl (λ c r. refl) (over 8 refl (λ c r. refl) (over 4 refl (λ c r. refl) (over 4 refl (λ c r. refl) (start xs _ _ h)))))

      middle : {flag : Bool} (t : Bool) → Reached xs flag (drop 5 (mmap2 t)) 40 → Reached xs flag (drop 12 (mmap2 t)) 64
      middle true r =
          over 20 refl (λ c r. refl) (over 3 refl (λ c r. refl) (over 1 refl (λ c r. refl)
          (over 0 refl (λ c r. refl) (over 0 refl (λ c r. refl) (over 0 refl (λ c r. refl) (over 0 refl (λ c r. refl) r))))))
      middle false r =
          over 0 refl (λ c r. refl) (over 0 refl (λ c r. refl) (over 0 refl (λ c r. refl)
          (over 8 refl (λ c r. refl) (over 8 refl (λ c r. refl) (over 4 refl (λ c r. refl) (over 4 refl (λ c r. refl) r))))))

  in-ksymbol : (misc : ℕ) (a : Attributes) → FoundIn (schema 17 misc a) 24
  unfolding span ends
  in-ksymbol misc a h = found (over 2 refl (λ c r. refl) (over 2 refl (λ c r. refl) (over 4 refl (λ c r. refl) (over 8 refl (λ c r. refl) (start xs _ _ h)))))

  in-cgroup : (misc : ℕ) (a : Attributes) → FoundIn (schema 19 misc a) 16
  unfolding span ends
  in-cgroup misc a h = found (over 8 refl (λ c r. refl) (start xs _ _ h))

  in-type : (kind misc : ℕ) (a : Attributes) → is_in kind named_types ≡ true → FoundIn (schema kind misc a) (name_from kind)
  in-type kind misc a m = by (eqb kind 1) (eqb kind 3) (eqb kind 10) (eqb kind 17) (eqb kind 19) refl refl refl refl refl m
    where
      at-kind : (n : ℕ) → eqb kind n ≡ true → FoundIn (schema n misc a) (name_from n) → FoundIn (schema kind misc a) (name_from kind)
      at-kind n e = subst (λ (k : ℕ). FoundIn (schema k misc a) (name_from k)) (sym (eqb-true kind n e))

      by : (p q r s t : Bool) → eqb kind 1 ≡ p → eqb kind 3 ≡ q → eqb kind 10 ≡ r → eqb kind 17 ≡ s → eqb kind 19 ≡ t → (p || (q || (r || (s || (t || false))))) ≡ true
          → FoundIn (schema kind misc a) (name_from kind)
      by true q r s t e₁ e₂ e₃ e₄ e₅ m = at-kind 1 e₁ (in-mmap misc a)
      by false true r s t e₁ e₂ e₃ e₄ e₅ m = at-kind 3 e₂ (in-comm misc a)
      by false false true s t e₁ e₂ e₃ e₄ e₅ m = at-kind 10 e₃ (in-mmap2 (bit misc 14))
      by false false false true t e₁ e₂ e₃ e₄ e₅ m = at-kind 17 e₄ (in-ksymbol misc a)
      by false false false false true e₁ e₂ e₃ e₄ e₅ m = at-kind 19 e₅ (in-cgroup misc a)
      by false false false false false e₁ e₂ e₃ e₄ e₅ m = absurd (apart m)

-- ---- the flag, in words

-- of a record whose name begins at one place and whose trailer starts at another: the name's zero, among the room's last 8 bytes; and the flag
pub record Flag (xs : List ℕ) (from to flag : ℕ) : Type 0 where
  pub zero-place : ℕ
  pub name-zero : FirstZero xs from to zero-place
  pub among-last : to ≤ zero-place + 8
  -- "whether any byte after the name's zero within its room is not zero"
  pub set-exactly : (flag ≡ 1 → NotZero xs zero-place to) × (NotZero xs zero-place to → flag ≡ 1)
  pub set-or-not : (flag ≡ 0) ⊎ (flag ≡ 1)

-- a part of a record, seen in the record
flag-seen : (xs : List ℕ) (from to : ℕ) (b : Bool) → to ≤ length xs → Found (take to xs) from b → Flag xs from to (cond b 1 0)
flag-seen xs from to b h f =
    record {
      zero-place = from + z;
      name-zero = record {
        low = omega arith;
        high = omega (arith, inside);
        zero-there = sym (seen z inside) ∙ zero_in_lem R;
        none_before = λ j l g q.
            let m : from + (j - from) ≡ j = omega (arith, l) in
            none_in R (j - from) (omega (arith, l, g)) (seen (j - from) (omega (arith, l, g, inside)) ∙ ap (λ (i : ℕ). get_or xs i 0) m ∙ q);
      };
      among-last = omega (arith, l_right, f.among-last, inside);
      set-exactly = (λ e. there ((room-stale R).0 (sym f.is ∙ one-true b e)), λ s. ap (λ (t : Bool). cond t 1 0) (f.is ∙ (room-stale R).1 (back s)));
      set-or-not = either b;
    }
  where
    R : List ℕ
    R = drop from (take to xs)

    z : ℕ
    z = zero_in R

    l_right : length R ≡ to - from
    l_right = length-drop from (take to xs) ∙ ap (λ (m : ℕ). m - from) (length-take-le to xs h)

    inside : from + z < to
    inside = omega (arith, l_right, f.has-zero)

    -- a byte of the room, where it lies in the record
    seen : (i : ℕ) → from + i < to → get_or R i 0 ≡ get_or xs (from + i) 0
    seen i g = get_or-drop from (take to xs) i 0 ∙ get_or-take to xs (from + i) 0 g

    one-true : (t : Bool) → ◌≡◌ {A = ℕ} (cond t 1 0) 1 → t ≡ true
    one-true true e = refl
    one-true false e = absurd (omega (arith, e))

    either : (t : Bool) → (◌≡◌ {A = ℕ} (cond t 1 0) 0) ⊎ (◌≡◌ {A = ℕ} (cond t 1 0) 1)
    either true = inr refl
    either false = inl refl

    there : NotZero R z (length R) → NotZero xs (from + z) to
    there s =
        record {
          place = from + s.place;
          after = omega (arith, s.after);
          before = omega (arith, l_right, s.before);
          not-zero = λ q. s.not-zero (seen s.place (omega (arith, l_right, s.before)) ∙ q);
        }

    back : NotZero xs (from + z) to → NotZero R z (length R)
    back s =
        let m : from + (s.place - from) ≡ s.place = omega (arith, s.after) in
        record {
          place = s.place - from;
          after = omega (arith, s.after);
          before = omega (arith, l_right, s.after, s.before);
          not-zero = λ q. s.not-zero (ap (λ (i : ℕ). get_or xs i 0) (sym m) ∙ sym (seen (s.place - from) (omega (arith, s.after, s.before))) ∙ q);
        }

-- an accepted record of a type with a name, under any edition and attributes
pub flag-in-words : (k : Known) (a : Attributes) (xs : List ℕ) → check_by (layout k a) xs ≡ 0 → is_in (kind_of xs) named_types ≡ true
    → Flag xs (name_from (kind_of xs)) (length xs - room (trailer (kind_of xs) a)) (flag_of (layout k a) xs)
unfolding layout flag_of flag_by fields_of
flag-in-words k a xs h m =
    let t : ℕ = room (trailer (kind_of xs) a) in
    let z = fields-zero (schema (kind_of xs) (misc_of xs) a) t xs (check-zero (layout k a) xs h).4 in
    flag-seen xs (name_from (kind_of xs)) (length xs - t) (dirty (take (length xs - t) xs) (schema (kind_of xs) (misc_of xs) a) (origin 8)) (omega arith)
    (in-type (take (length xs - t) xs) (kind_of xs) (misc_of xs) a m z.1)

-- any other record has no flag: it is told as 0
pub no-flag-elsewhere : (k : Known) (a : Attributes) (xs : List ℕ) → is_in (kind_of xs) named_types ≡ false → flag_of (layout k a) xs ≡ 0
unfolding layout
no-flag-elsewhere k a xs m = nameless-clean (layout k a) xs (by (named (schema (kind_of xs) (misc_of xs) a)) refl)
  where
    by : (t : Bool) → named (schema (kind_of xs) (misc_of xs) a) ≡ t → t ≡ false
    by true e = absurd (apart (sym m ∙ (named-exactly (kind_of xs) (misc_of xs) a).0 e))
    by false e = refl

-- "Where it is set, record check, and nothing else, answers 44 instead of 0": in the same words, both ways
pub answers-44 : (e : ℕ) (a : Attributes) (xs : List ℕ) (h : check editions e a xs ≡ 0) (m : is_in (kind_of xs) named_types ≡ true) → let f = flag-in-words (known editions e) a xs (check-of editions e a xs h).1 m in
    (record_check editions e a xs ≡ 44 → NotZero xs f.zero-place (length xs - room (trailer (kind_of xs) a)))
    × (NotZero xs f.zero-place (length xs - room (trailer (kind_of xs) a)) → record_check editions e a xs ≡ 44)
answers-44 e a xs h m =
    let f = flag-in-words (known editions e) a xs (check-of editions e a xs h).1 m in (
      λ q. ⊎_elim (λ (z : flag_of (layout (known editions e) a) xs ≡ 0). absurd ((check-44 e a xs q).1 z)) f.set-exactly.0 f.set-or-not,
      λ s. check-flagged e a xs h (λ z. omega (arith, z, f.set-exactly.1 s)),
    )
