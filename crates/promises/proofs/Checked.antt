-- Record check's numbers are given for their own reasons: all of document 01's rows in one list, in the order checked, each with its own condition. The
-- answer is the number of the first row that holds, and 0 where none does; so a number is given exactly when its row holds and none before it.
-- Of the body "the first in field order is given": an item's rows stand in the order of the fields. Record check's 44, in place of 0, is apart from
-- these: Demand2, `check-44`. Assumes nothing.
use Rattle.std.specs.Prelude.{◌≡◌, List, [], ◌∷◌, ◌++◌, Bool, true, false, cond, not, ◌&&◌, ◌||◌, ℕ, ◌+◌, ◌-◌, ◌%◌, ◌^◌, ◌<◌, leb, ltb, eqb, length, drop}
use Rattle.std.proofs.Math.Path.{refl}
use Rattle.std.proofs.Common.{sym, ap, ◌∙◌, arith, eqb-true, eq-eqb}
use Rattle.meaning.specs.declared.Attributes.{Attributes}
use Rattle.meaning.specs.States.{Cursor}
use Rattle.meaning.specs.declared.Item.{Item}
use Rattle.meaning.specs.declared.Known.{Known}
use Rattle.meaning.specs.declared.Shape.{Shape}
use Rattle.meaning.specs.declared.Shape.TheVariants.{Number, Ignored, Count, Size, Times, Earlier, Registers, Filled, Abi, Limit, Listed, Bytes, Pad, Name}
use Rattle.meaning.specs.Bytes.{num, bit, zero_in}
use Rattle.meaning.specs.Refusals.{Refusal, refusal, first, or_else}
use Rattle.meaning.specs.Items.{bytes, refuse, span, rule, past, part, settle, shape_step, step, walk, holds}
use Rattle.meaning.specs.Editions.{editions, known, allowed, has_sample_bits, has_read_values, has_build_id, has_branches, strange_branch, unreadable, is_in}
use Rattle.meaning.specs.Schema.{schema, trailer}
use Rattle.meaning.specs.Records.{layout, kind_of, misc_of, size_of, room, origin, fields_of, closed, fields_answer, judge, check_by, check}
use Rattle.laws.specs.Bytes.{apart}
use Rattle.laws.specs.Again.{stuck, stepped}
use Rattle.laws.specs.Rows.{in-more, in-cond}
use Rattle.runs.specs.Cutting.{framed}
use Rattle.editions.specs.Numbers.{field_numbers}
use Rattle.editions.proofs.OneRecord.{check-framed}
use Rattle.editions.proofs.InTable.{fields_in}
use Rattle.promises.specs.Checked.{broken, misnamed, shape_rows, field_rows, body_rows, record_rows, check_rows}

-- ---- rows in general

pub first-append : (rs ss : List Refusal) (rest : ℕ) → first (rs ++ ss) rest ≡ first rs (first ss rest)
unfolding first
first-append [] ss rest = refl
first-append (r ∷ rs) ss rest = ap (λ (k : ℕ). cond r.holds r.number k) (first-append rs ss rest)

unless : (t : Bool) (x y : ℕ) → cond t x y ≡ cond (not t) y x
unless true x y = refl
unless false x y = refl

-- ---- the answer is the first row's

rule-rows : (sh : Shape) (c : Cursor) (ys : List ℕ) → rule sh c ys ≡ first (refusal (broken sh c ys) 32 ∷ refusal (misnamed sh ys) 33 ∷ []) 0
unfolding rule broken misnamed first
rule-rows (Number w) c ys = refl
rule-rows (Ignored k) c ys = refl
rule-rows (Count w) c ys = refl
rule-rows (Size w) c ys = unless (eqb ((num ys + bytes w) % 8) 0) 0 32
rule-rows (Times k) c ys = refl
rule-rows (Earlier k) c ys = refl
rule-rows Registers c ys = refl
rule-rows Filled c ys = unless (leb (num ys) c.n) 0 32
rule-rows (Abi m) c ys = refl
rule-rows (Limit k) c ys = unless (leb (num ys) k) 0 32
rule-rows (Listed k) c ys = refl
rule-rows (Bytes k) c ys = refl
rule-rows Pad c ys = refl
rule-rows Name c ys = unless (ltb (zero_in ys) (length ys) && leb (length ys) (zero_in ys + 8)) 0 33

-- a refusal of an item is the walk's; else the items after it decide
walk_rows : (xs : List ℕ) (is : List Item) (c : Cursor) → c.why ≡ 0 → (walk xs is c).why ≡ first (field_rows xs is c) 0
unfolding walk field_rows first settle shape_step past
walk_rows xs [] c z = z
walk_rows xs (i ∷ is) c z = by i.on (step xs i c) (stepped i.on i.shape xs c z) (walk_rows xs is (step xs i c))
  where
    rest : List ℕ
    rest = drop c.at xs

    refused : (d : Cursor) (k : ℕ) → (k ≡ 0 → ⊥) → d.why ≡ k → (walk xs is d).why ≡ k
    refused d k n e = ap (λ (x : Cursor). x.why) (stuck xs is d (λ z. n (sym e ∙ z))) ∙ e

    -- fits, breaks an inner rule, is no name: the four ways
    ways : (f b m : Bool) (r : ℕ) (d p : Cursor) → r ≡ cond b 32 (cond m 33 0) → d ≡ cond f (settle r c p) (refuse 30 c) → p.why ≡ 0
        → (d.why ≡ 0 → (walk xs is d).why ≡ first (field_rows xs is d) 0)
        → (walk xs is d).why ≡ cond (not f) 30 (cond b 32 (cond m 33 (first (field_rows xs is d) 0)))
    ways false b m r d p q e h next = refused d 30 (λ z. omega (arith, z)) (ap (λ (x : Cursor). x.why) e)
    ways true true m r d p q e h next = refused d 32 (λ z. omega (arith, z)) (ap (λ (x : Cursor). x.why) (e ∙ ap (λ (n : ℕ). settle n c p) q))
    ways true false true r d p q e h next = refused d 33 (λ z. omega (arith, z)) (ap (λ (x : Cursor). x.why) (e ∙ ap (λ (n : ℕ). settle n c p) q))
    ways true false false r d p q e h next = next (ap (λ (x : Cursor). x.why) (e ∙ ap (λ (n : ℕ). settle n c p) q) ∙ h)

    by : (on : Bool) (d : Cursor) → d ≡ cond on (shape_step i.shape c rest) c → (d.why ≡ 0 → (walk xs is d).why ≡ first (field_rows xs is d) 0)
        → (walk xs is d).why ≡ first (cond on (shape_rows i.shape c rest) [] ++ field_rows xs is d) 0
    by false d e next = next (ap (λ (x : Cursor). x.why) e ∙ z)
    by true d e next =
        ways (leb (span i.shape c (length rest)) (length rest)) (broken i.shape c (part i.shape c rest)) (misnamed i.shape (part i.shape c rest))
        (rule i.shape c (part i.shape c rest)) d
        (past i.shape (holds i.shape c (part i.shape c rest)) (length (part i.shape c rest)) c)
        (rule-rows i.shape c (part i.shape c rest)) e z next

-- no row of a field has the number 0: what comes after them is asked where none of them holds
fields-or : (xs : List ℕ) (is : List Item) (c : Cursor) (y : ℕ) → first (field_rows xs is c) y ≡ or_else (first (field_rows xs is c) 0) y
unfolding field_rows first
fields-or xs [] c y = refl
fields-or xs (i ∷ is) c y = by i.on (fields-or xs is (step xs i c) y)
  where
    rest : List ℕ
    rest = drop c.at xs

    three : (f b m : Bool) (u v : ℕ) → u ≡ or_else v y → cond f 30 (cond b 32 (cond m 33 u)) ≡ or_else (cond f 30 (cond b 32 (cond m 33 v))) y
    three true b m u v e = refl
    three false true m u v e = refl
    three false false true u v e = refl
    three false false false u v e = e

    by : (on : Bool) → first (field_rows xs is (step xs i c)) y ≡ or_else (first (field_rows xs is (step xs i c)) 0) y
        → first (cond on (shape_rows i.shape c rest) [] ++ field_rows xs is (step xs i c)) y
        ≡ or_else (first (cond on (shape_rows i.shape c rest) [] ++ field_rows xs is (step xs i c)) 0) y
    by false e = e
    by true e =
        three (not (leb (span i.shape c (length rest)) (length rest))) (broken i.shape c (part i.shape c rest)) (misnamed i.shape (part i.shape c rest)) _ _ e

body-rows : (is : List Item) (t : ℕ) (xs : List ℕ) → fields_answer is t xs ≡ first (body_rows is t xs) 0
unfolding fields_answer closed first
body-rows is t xs =
    let F : List ℕ = fields_of t xs in
    let d : Cursor = walk F is (origin 8) in
    let r : List Refusal = refusal (not (eqb d.at (length xs - t))) 31 ∷ [] in
    let w : closed (length xs - t) d ≡ first (field_rows F is (origin 8) ++ r) 0 =
    ap (λ (k : ℕ). or_else k (cond (eqb d.at (length xs - t)) 0 31)) (walk_rows F is (origin 8) refl)
    ∙ ap (or_else (first (field_rows F is (origin 8)) 0)) (unless (eqb d.at (length xs - t)) 0 31)
    ∙ sym (fields-or F is (origin 8) (first r 0)) ∙ sym (first-append (field_rows F is (origin 8)) r 0) in
    unless (leb (8 + t) (length xs)) (closed (length xs - t) d) 30 ∙ ap (λ (k : ℕ). cond (not (leb (8 + t) (length xs))) 30 k) w

six : (b20 b21 b22 b23 b25 b24 : Bool) (x y : ℕ) → x ≡ y
    → or_else (cond b20 20 (cond b21 21 (cond b22 22 (cond b23 23 (cond b25 25 (cond b24 24 0)))))) x
    ≡ cond b20 20 (cond b21 21 (cond b22 22 (cond b23 23 (cond b25 25 (cond b24 24 y)))))
six true b21 b22 b23 b25 b24 x y e = refl
six false true b22 b23 b25 b24 x y e = refl
six false false true b23 b25 b24 x y e = refl
six false false false true b25 b24 x y e = refl
six false false false false true b24 x y e = refl
six false false false false false true x y e = refl
six false false false false false false x y e = e

pub judge-rows : (k : Known) (a : Attributes) (xs : List ℕ) → judge (layout k a) xs ≡ first (record_rows k a xs) 0
unfolding judge layout unreadable first
judge-rows k a xs =
    six
    (eqb (kind_of xs) 0 || ltb k.kinds (kind_of xs))
    (leb (2 ^ k.samples) a.sample && has_sample_bits (kind_of xs) a)
    (leb (2 ^ k.formats) a.format && has_read_values (kind_of xs) a)
    (has_build_id (kind_of xs) (misc_of xs) && not k.builds)
    (has_branches (kind_of xs) a && strange_branch k a)
    (eqb (kind_of xs) 9 && (bit a.sample 14 && bit a.sample 24))
    (fields_answer (schema (kind_of xs) (misc_of xs) a) (room (trailer (kind_of xs) a)) xs)
    _ (body-rows (schema (kind_of xs) (misc_of xs) a) (room (trailer (kind_of xs) a)) xs)

pub check-rows : (e : ℕ) (a : Attributes) (xs : List ℕ) → check editions e a xs ≡ first (check_rows e a xs) 0
unfolding check check_by first
check-rows e a xs =
    four (allowed editions e) (leb 8 (length xs)) (leb 8 (size_of xs) && eqb (size_of xs % 8) 0) (eqb (size_of xs) (length xs)) _ _ (judge-rows (known editions e) a xs)
  where
    four : (p q r s : Bool) (x y : ℕ) → x ≡ y
        → cond p (cond q (cond r (cond s x 7) 6) 7) 2 ≡ cond (not p) 2 (cond (not q) 7 (cond (not r) 6 (cond (not s) 7 y)))
    four false q r s x y e = refl
    four true false r s x y e = refl
    four true true false s x y e = refl
    four true true true false x y e = refl
    four true true true true x y e = e

-- ---- exactly when

-- the row with this number is the first that holds
abbrev pub foremost : ℕ → List Refusal → Bool
foremost k [] = false
foremost k (r ∷ rs) = cond r.holds (eqb r.number k) (foremost k rs)

pub first-exactly : (k : ℕ) → 0 < k → (rs : List Refusal) → (first rs 0 ≡ k → foremost k rs ≡ true) × (foremost k rs ≡ true → first rs 0 ≡ k)
unfolding first
first-exactly k p [] = (λ h. absurd (omega (arith, p, h)), λ h. absurd (apart h))
first-exactly k p (r ∷ rs) = by r.holds (first-exactly k p rs)
  where
    by : (b : Bool) → (first rs 0 ≡ k → foremost k rs ≡ true) × (foremost k rs ≡ true → first rs 0 ≡ k)
        → (cond b r.number (first rs 0) ≡ k → cond b (eqb r.number k) (foremost k rs) ≡ true)
        × (cond b (eqb r.number k) (foremost k rs) ≡ true → cond b r.number (first rs 0) ≡ k)
    by true e = (λ h. eq-eqb r.number k h, λ h. eqb-true r.number k h)
    by false e = e

-- each number of record check, 20 to 33 and the others: "given exactly when" its row holds, and no row before it does
pub check-exactly : (e : ℕ) (a : Attributes) (xs : List ℕ) (k : ℕ) → 0 < k
    → (check editions e a xs ≡ k → foremost k (check_rows e a xs) ≡ true) × (foremost k (check_rows e a xs) ≡ true → check editions e a xs ≡ k)
check-exactly e a xs k p =
    let x = first-exactly k p (check_rows e a xs) in
    let q = check-rows e a xs in
    (λ h. x.0 (sym q ∙ h), λ h. q ∙ x.1 h)

-- ---- the rows 20 to 25 in words, for a slice that is one record by its header, in an edition

-- the rows before its own do not hold, and its own does
pub lead : (b : Bool) (n k x : ℕ) → (n ≡ k → ⊥) → {A : Type 0} → (x ≡ k → A) × (A → x ≡ k) → (cond b n x ≡ k → (b ≡ false) × A) × ((b ≡ false) × A → cond b n x ≡ k)
lead true n k x d r = (λ h. absurd (d h), λ p. absurd (apart (sym p.0)))
lead false n k x d r = (λ h. (refl, r.0 h), λ p. r.1 p.1)

pub hit : (b : Bool) (k x : ℕ) → (x ≡ k → ⊥) → (cond b k x ≡ k → b ≡ true) × (b ≡ true → cond b k x ≡ k)
hit true k x d = (λ h. refl, λ h. refl)
hit false k x d = (λ h. absurd (d h), λ h. absurd (apart h))

pub other : (k : ℕ) (ns : List ℕ) → is_in k ns ≡ false → (x : ℕ) → is_in x ns ≡ true → x ≡ k → ⊥
other k ns f x h e = apart (sym f ∙ ap (λ (n : ℕ). is_in n ns) (sym e) ∙ h)

module _ (e : ℕ) (a : Attributes) (xs : List ℕ) (ok : allowed editions e ≡ true) (one : framed xs ≡ true) where
  abbrev type_unknown : Bool
  type_unknown = eqb (kind_of xs) 0 || ltb (known editions e).kinds (kind_of xs)

  abbrev bit_unknown : Bool
  bit_unknown = leb (2 ^ (known editions e).samples) a.sample && has_sample_bits (kind_of xs) a

  abbrev format-unknown : Bool
  format-unknown = leb (2 ^ (known editions e).formats) a.format && has_read_values (kind_of xs) a

  abbrev form_unknown : Bool
  form_unknown = has_build_id (kind_of xs) (misc_of xs) && not (known editions e).builds

  abbrev branch-unknown : Bool
  branch-unknown = has_branches (kind_of xs) a && strange_branch (known editions e) a

  abbrev two-weights : Bool
  two-weights = eqb (kind_of xs) 9 && (bit a.sample 14 && bit a.sample 24)

  abbrev told : ℕ
  told = check editions e a xs

  abbrev body : ℕ
  body = fields_answer (schema (kind_of xs) (misc_of xs) a) (room (trailer (kind_of xs) a)) xs

  abbrev from_24 : ℕ
  from_24 = cond two-weights 24 body

  abbrev from_25 : ℕ
  from_25 = cond branch-unknown 25 from_24

  abbrev from_23 : ℕ
  from_23 = cond form_unknown 23 from_25

  abbrev from_22 : ℕ
  from_22 = cond format-unknown 22 from_23

  abbrev from_21 : ℕ
  from_21 = cond bit_unknown 21 from_22

  chained : told ≡ cond type_unknown 20 from_21
  unfolding judge layout unreadable first
  chained = check-framed editions e ok a xs one ∙ six type_unknown bit_unknown format-unknown form_unknown branch-unknown two-weights body body refl

  -- what may come after each of them
  abbrev after_24 : List ℕ
  after_24 = 24 ∷ field_numbers

  abbrev after_25 : List ℕ
  after_25 = 25 ∷ after_24

  abbrev after_23 : List ℕ
  after_23 = 23 ∷ after_25

  abbrev after_22 : List ℕ
  after_22 = 22 ∷ after_23

  body-in : is_in body field_numbers ≡ true
  body-in = fields_in (schema (kind_of xs) (misc_of xs) a) (room (trailer (kind_of xs) a)) xs

  in-24 : is_in from_24 after_24 ≡ true
  in-24 = in-cond after_24 two-weights 24 body refl (in-more field_numbers after_24 body refl body-in)

  in-25 : is_in from_25 after_25 ≡ true
  in-25 = in-cond after_25 branch-unknown 25 from_24 refl (in-more after_24 after_25 from_24 refl in-24)

  in-23 : is_in from_23 after_23 ≡ true
  in-23 = in-cond after_23 form_unknown 23 from_25 refl (in-more after_25 after_23 from_25 refl in-25)

  in-22 : is_in from_22 after_22 ≡ true
  in-22 = in-cond after_22 format-unknown 22 from_23 refl (in-more after_23 after_22 from_23 refl in-23)

  in-21 : is_in from_21 (21 ∷ after_22) ≡ true
  in-21 = in-cond (21 ∷ after_22) bit_unknown 21 from_22 refl (in-more after_22 (21 ∷ after_22) from_22 refl in-22)

  chain : {k : ℕ} {A : Type 0} → (cond type_unknown 20 from_21 ≡ k → A) × (A → cond type_unknown 20 from_21 ≡ k) → (told ≡ k → A) × (A → told ≡ k)
  chain r = (λ h. r.0 (sym chained ∙ h), λ p. chained ∙ r.1 p)

  -- 20: "type 0 or above the edition's"
  pub answers-20 : (told ≡ 20 → type_unknown ≡ true) × (type_unknown ≡ true → told ≡ 20)
  answers-20 = chain (hit type_unknown 20 from_21 (other 20 (21 ∷ after_22) refl from_21 in-21))

  -- 21: "sample type has a bit the edition doesn't know, and the record is a SAMPLE or sample_id_all is set"
  pub answers-21 : (told ≡ 21 → (type_unknown ≡ false) × (bit_unknown ≡ true)) × ((type_unknown ≡ false) × (bit_unknown ≡ true) → told ≡ 21)
  answers-21 = chain (lead type_unknown 20 21 from_21 (λ h. omega (arith, h)) (hit bit_unknown 21 from_22 (other 21 after_22 refl from_22 in-22)))

  -- 22: "read format has bit 4 or higher, and the record is READ or a SAMPLE with bit 4 of the sample type"; "22 starts at bit 5 for edition 4 alone"
  pub answers-22 : (told ≡ 22 → (type_unknown ≡ false) × ((bit_unknown ≡ false) × (format-unknown ≡ true)))
      × ((type_unknown ≡ false) × ((bit_unknown ≡ false) × (format-unknown ≡ true)) → told ≡ 22)
  answers-22 =
      chain
      (lead type_unknown 20 22 from_21 (λ h. omega (arith, h))
      (lead bit_unknown 21 22 from_22 (λ h. omega (arith, h)) (hit format-unknown 22 from_23 (other 22 after_23 refl from_23 in-23))))

  -- 23: "MMAP2 with misc bit 14, edition below 3"
  pub answers-23 : (told ≡ 23 → (type_unknown ≡ false) × ((bit_unknown ≡ false) × ((format-unknown ≡ false) × (form_unknown ≡ true))))
      × ((type_unknown ≡ false) × ((bit_unknown ≡ false) × ((format-unknown ≡ false) × (form_unknown ≡ true))) → told ≡ 23)
  answers-23 =
      chain
      (lead type_unknown 20 23 from_21 (λ h. omega (arith, h))
      (lead bit_unknown 21 23 from_22 (λ h. omega (arith, h))
      (lead format-unknown 22 23 from_23 (λ h. omega (arith, h)) (hit form_unknown 23 from_25 (other 23 after_25 refl from_25 in-25)))))

  -- 25: "editions 1 and 2 refuse such a SAMPLE with 25; a SAMPLE with sample bit 11 and a branch bit from 19 up is 25 in every edition .. after 23 and
  -- before 24"
  pub answers-25 : (told ≡ 25 → (type_unknown ≡ false) × ((bit_unknown ≡ false) × ((format-unknown ≡ false) × ((form_unknown ≡ false) × (branch-unknown ≡ true)))))
      × ((type_unknown ≡ false) × ((bit_unknown ≡ false) × ((format-unknown ≡ false) × ((form_unknown ≡ false) × (branch-unknown ≡ true)))) → told ≡ 25)
  answers-25 =
      chain
      (lead type_unknown 20 25 from_21 (λ h. omega (arith, h))
      (lead bit_unknown 21 25 from_22 (λ h. omega (arith, h))
      (lead format-unknown 22 25 from_23 (λ h. omega (arith, h))
      (lead form_unknown 23 25 from_25 (λ h. omega (arith, h)) (hit branch-unknown 25 from_24 (other 25 after_24 refl from_24 in-24))))))

  -- "any record but a SAMPLE with sample bit 11 never is"
  pub never-25 : has_branches (kind_of xs) a ≡ false → told ≡ 25 → ⊥
  never-25 f h = apart (sym (ap (λ (b : Bool). b && strange_branch (known editions e) a) f) ∙ (answers-25.0 h).1.1.1.1)

  -- 24: "SAMPLE with bits 14 and 24 both selected"
  pub answers-24 : (told ≡ 24
      → (type_unknown ≡ false) × ((bit_unknown ≡ false) × ((format-unknown ≡ false) × ((form_unknown ≡ false) × ((branch-unknown ≡ false) × (two-weights ≡ true))))))
      × ((type_unknown ≡ false) × ((bit_unknown ≡ false) × ((format-unknown ≡ false) × ((form_unknown ≡ false) × ((branch-unknown ≡ false) × (two-weights ≡ true)))))
      → told ≡ 24)
  answers-24 =
      chain
      (lead type_unknown 20 24 from_21 (λ h. omega (arith, h))
      (lead bit_unknown 21 24 from_22 (λ h. omega (arith, h))
      (lead format-unknown 22 24 from_23 (λ h. omega (arith, h))
      (lead form_unknown 23 24 from_25 (λ h. omega (arith, h))
      (lead branch-unknown 25 24 from_24 (λ h. omega (arith, h)) (hit two-weights 24 body (other 24 field_numbers refl body body-in)))))))
