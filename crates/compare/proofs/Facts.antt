-- What follows of a comparison: alike exactly when all is equal, whatever the places and the ignored bytes; the two sides exchanged; two editions.
-- Assumes nothing.
use Rattle.std.specs.Prelude.{◌≡◌, refl, ℕ, suc, ◌+◌, ◌<◌, Bool, true, false, cond, ◌&&◌, List, [], ◌∷◌, map, ◌⊎◌, length, eqb}
use Rattle.std.proofs.Common.{sym, ap, ap₂, ◌∙◌, subst, add-zero, arith, ⊎_elim, eq-eqb}
use Rattle.meaning.specs.declared.Attributes.{Attributes}
use Rattle.meaning.specs.declared.Event.{Event}
use Rattle.meaning.specs.declared.Known.{Known}
use Rattle.meaning.specs.Bytes.{small}
use Rattle.meaning.specs.Items.{Con, con}
use Rattle.meaning.specs.Records.{Layout, Value, layout, kind_of, misc_of, size_of, check_by, flag_of, value, unflagged, write_record, cleaned_record}
use Rattle.meaning.specs.Events.{identifier_of, judge_events}
use Rattle.laws.specs.Whole.{Decodes, record-again, record-there, flag-unwritten}
use Rattle.laws.specs.Every.{sound}
use Rattle.laws.specs.Lookup.{eqb-turn}
use Rattle.runs.specs.Cutting.{Cut, Cuts, All, record_of}
use Rattle.compare.specs.declared.Compared.{Compared}
use Rattle.compare.specs.Fields.{Reads, fields, accepted, other_fields, body_fields, tail_fields, flag_field}
use Rattle.compare.specs.Compared.{same_bytes, same, alike, agree, report, all_alike, differs, ends_first, stops, meet, event_reads}
use Rattle.compare.specs.Promise.{Same, Says, all_alike_lem, field-differs, left_ended, right-ended, left-stopped, right-stopped, TrueReport}
use Rattle.compare.proofs.Pairs.{same_alike}

-- ---- alike exactly where both end with 0 at the same number with all pairs equal

pub record AllEqual (R : Reads) (l r : Cuts) (n : ℕ) : Type 0 where
  pub left-long : length l.records ≡ n
  pub right-long : length r.records ≡ n
  pub left_end : l.stop ≡ 0
  pub right_end : r.stop ≡ 0
  pub pairs : (i : ℕ) → i < n → Same R (record_of l i) (record_of r i)

pub equal-told : (R : Reads) (l r : Cuts) (n : ℕ) → AllEqual R l r n → TrueReport R l r (all_alike n)
equal-told R l r n h = record { says = all_alike_lem h.left-long h.right-long h.left_end h.right_end; before = h.pairs }

pub told-equal : (R : Reads) (l r : Cuts) (c : Compared) → TrueReport R l r c → c.what ≡ 0 → AllEqual R l r c.records
told-equal R l r c t z = by c t.says t.before z
  where
    by : (c : Compared) → Says R l r c → ((i : ℕ) → i < c.records → Same R (record_of l i) (record_of r i)) → c.what ≡ 0 → AllEqual R l r c.records
    by c (all_alike_lem a b p q) h z = record { left-long = a; right-long = b; left_end = p; right_end = q; pairs = h }
    by c (field-differs a b f) h z = absurd (let e : ◌≡◌ {A = ℕ} 1 0 = z in omega (arith, e))
    by c (left_ended a p b) h z = absurd (let e : ◌≡◌ {A = ℕ} 2 0 = z in omega (arith, e))
    by c (right-ended a p b) h z = absurd (let e : ◌≡◌ {A = ℕ} 3 0 = z in omega (arith, e))
    by c (left-stopped a p b) h z = absurd (let e : ◌≡◌ {A = ℕ} 4 0 = z in omega (arith, e))
    by c (right-stopped a p b q) h z = absurd (let e : ◌≡◌ {A = ℕ} 5 0 = z in omega (arith, e))

-- ---- "Positions and ignored bytes don't count"

-- the same records, wherever they lie
top : List (List ℕ) → List ℕ
top [] = []
top (x ∷ xs) = x

rest : List (List ℕ) → List (List ℕ)
rest [] = []
rest (x ∷ xs) = xs

meet-same : (R : Reads) (n : ℕ) (xs ys : List Cut) → map (λ (c : Cut). c.record-bytes) xs ≡ map (λ (c : Cut). c.record-bytes) ys → meet R 0 0 n xs ys ≡ all_alike (n + length xs)
unfolding meet top rest
meet-same R n [] [] e = ap all_alike (sym (add-zero n))
meet-same R n [] (y ∷ ys) e = absurd (let h : 0 ≡ suc (length (map (λ (c : Cut). c.record-bytes) ys)) = ap length e in omega (arith, h))
meet-same R n (x ∷ xs) [] e = absurd (let h : suc (length (map (λ (c : Cut). c.record-bytes) xs)) ≡ 0 = ap length e in omega (arith, h))
meet-same R n (x ∷ xs) (y ∷ ys) e =
    let p : x.record-bytes ≡ y.record-bytes = ap top e in
    let q : alike (fields R x.record-bytes) (fields R y.record-bytes) ≡ true =
    subst (λ (l : List ℕ). alike (fields R x.record-bytes) (fields R l) ≡ true) p (same_alike (fields R x.record-bytes)) in
    let m : suc n + length xs ≡ n + suc (length xs) = omega arith in
    rw q (meet-same R (suc n) xs ys (ap rest e) ∙ ap all_alike m)

pub places-alike : (R : Reads) (l r : Cuts) → map (λ (c : Cut). c.record-bytes) l.records ≡ map (λ (c : Cut). c.record-bytes) r.records → l.stop ≡ 0 → r.stop ≡ 0
    → meet R l.stop r.stop 0 l.records r.records ≡ all_alike (length l.records)
places-alike R l r e p q =
    ap₂ (λ (a b : ℕ). meet R a b 0 l.records r.records) p q ∙ meet-same R 0 l.records r.records e
    ∙ ap all_alike (let z : 0 + length l.records ≡ length l.records = omega arith in z)

-- accepted records that are the same but for the ignored bytes have the same value, but for the flag
clean-value : (k : Known) (a : Attributes) (xs ys : List ℕ) → small xs ≡ true → small ys ≡ true → check_by (layout k a) xs ≡ 0 → check_by (layout k a) ys ≡ 0
    → cleaned_record (layout k a) xs ≡ cleaned_record (layout k a) ys → unflagged (value (layout k a) xs) ≡ unflagged (value (layout k a) ys)
unfolding Decodes
clean-value k a xs ys sx sy cx cy e =
    let lay : Layout = layout k a in
    let p = record-again lay xs (sound k a) sx cx in
    let q = record-again lay ys (sound k a) sy cy in
    let u = record-there lay (unflagged (value lay xs)) (sound k a) p.0 in
    let v = record-there lay (unflagged (value lay ys)) (sound k a) q.0 in
    let w : write_record lay (unflagged (value lay xs)) ≡ write_record lay (unflagged (value lay ys)) =
    flag-unwritten lay (value lay xs) ∙ p.1 ∙ e ∙ sym q.1 ∙ sym (flag-unwritten lay (value lay ys)) in
    sym u.2 ∙ ap (λ (zs : List ℕ). value lay zs) w ∙ v.2

same-but-flag : (v w : Value) → unflagged v ≡ unflagged w → v.flag ≡ w.flag → v ≡ w
unfolding unflagged
same-but-flag v w e f = λ j. record { kind = (e j).kind; misc = (e j).misc; size = (e j).size; body = (e j).body; tail = (e j).tail; flag = f j }

pub flag-of : (lay : Layout) (xs : List ℕ) → (value lay xs).flag ≡ flag_of lay xs
unfolding value
flag-of lay xs = refl

pub ignored-alike : (k : Known) (a : Attributes) (xs ys : List ℕ) → small xs ≡ true → small ys ≡ true → check_by (layout k a) xs ≡ 0 → check_by (layout k a) ys ≡ 0
    → cleaned_record (layout k a) xs ≡ cleaned_record (layout k a) ys → flag_of (layout k a) xs ≡ flag_of (layout k a) ys → value (layout k a) xs ≡ value (layout k a) ys
ignored-alike k a xs ys sx sy cx cy e f =
    same-but-flag (value (layout k a) xs) (value (layout k a) ys) (clean-value k a xs ys sx sy cx cy e) (flag-of (layout k a) xs ∙ f ∙ sym (flag-of (layout k a) ys))

-- ---- the two sides exchanged

bytes-turned : (xs ys : List ℕ) → same_bytes xs ys ≡ same_bytes ys xs
unfolding same_bytes
bytes-turned [] [] = refl
bytes-turned [] (y ∷ ys) = refl
bytes-turned (x ∷ xs) [] = refl
bytes-turned (x ∷ xs) (y ∷ ys) = ap₂ (λ (a b : Bool). a && b) (eqb-turn x y) (bytes-turned xs ys)

same-turned : (u v : Con) → same u v ≡ same v u
unfolding same
same-turned u v = ap₂ (λ (a b : Bool). a && b) (eqb-turn u.num v.num) (bytes-turned u.list v.list)

alike_turned : (us vs : List Con) → alike us vs ≡ alike vs us
unfolding alike
alike_turned [] [] = refl
alike_turned [] (v ∷ vs) = refl
alike_turned (u ∷ us) [] = refl
alike_turned (u ∷ us) (v ∷ vs) = ap₂ (λ (a b : Bool). a && b) (same-turned u v) (alike_turned us vs)

agree-turned : (us vs : List Con) → agree us vs ≡ agree vs us
unfolding agree
agree-turned [] [] = refl
agree-turned [] (v ∷ vs) = refl
agree-turned (u ∷ us) [] = refl
agree-turned (u ∷ us) (v ∷ vs) = ap₂ (λ (b : Bool) (n : ℕ). cond b (suc n) 0) (same-turned u v) (agree-turned us vs)

-- the sides' numbers exchanged: 2 and 3, 4 and 5
abbrev pub other_side : ℕ → ℕ
other_side n = cond (eqb n 2) 3 (cond (eqb n 3) 2 (cond (eqb n 4) 5 (cond (eqb n 5) 4 n)))

abbrev pub turned : Compared → Compared
turned c = report (other_side c.what) c.stop c.records c.field

-- symmetric up to the side, but where both stop at the same record, which is told of the left side first
pub meet-turned : (R : Reads) (a b n : ℕ) (xs ys : List Cut) → (length xs ≡ length ys → (a ≡ 0) ⊎ (b ≡ 0)) → meet R b a n ys xs ≡ turned (meet R a b n xs ys)
unfolding meet
meet-turned R a b n [] [] h = ⊎_elim (λ (z : a ≡ 0). left z) (λ (z : b ≡ 0). right z) (h refl)
  where
    left : a ≡ 0 → cond (eqb b 0) (cond (eqb a 0) (all_alike n) (stops 5 a n)) (stops 4 b n) ≡ turned (cond (eqb a 0) (cond (eqb b 0) (all_alike n) (stops 5 b n)) (stops 4 a n))
    left z = by (eqb b 0)
      where
        by : (t : Bool) → cond t (cond (eqb a 0) (all_alike n) (stops 5 a n)) (stops 4 b n) ≡ turned (cond (eqb a 0) (cond t (all_alike n) (stops 5 b n)) (stops 4 a n))
        by true = rw (eq-eqb a 0 z) refl
        by false = rw (eq-eqb a 0 z) refl

    right : b ≡ 0 → cond (eqb b 0) (cond (eqb a 0) (all_alike n) (stops 5 a n)) (stops 4 b n) ≡ turned (cond (eqb a 0) (cond (eqb b 0) (all_alike n) (stops 5 b n)) (stops 4 a n))
    right z = by (eqb a 0)
      where
        by : (t : Bool) → cond (eqb b 0) (cond t (all_alike n) (stops 5 a n)) (stops 4 b n) ≡ turned (cond t (cond (eqb b 0) (all_alike n) (stops 5 b n)) (stops 4 a n))
        by true = rw (eq-eqb b 0 z) refl
        by false = rw (eq-eqb b 0 z) refl
meet-turned R a b n [] (y ∷ ys) h = by (eqb a 0)
  where
    by : (t : Bool) → cond t (ends_first 3 n) (stops 5 a n) ≡ turned (cond t (ends_first 2 n) (stops 4 a n))
    by true = refl
    by false = refl
meet-turned R a b n (x ∷ xs) [] h = by (eqb b 0)
  where
    by : (t : Bool) → cond t (ends_first 2 n) (stops 4 b n) ≡ turned (cond t (ends_first 3 n) (stops 5 b n))
    by true = refl
    by false = refl
meet-turned R a b n (x ∷ xs) (y ∷ ys) h = by (alike (fields R x.record-bytes) (fields R y.record-bytes)) refl (meet-turned R a b (suc n) xs ys (λ e. h (ap suc e)))
  where
    by : (t : Bool) → alike (fields R x.record-bytes) (fields R y.record-bytes) ≡ t → meet R b a (suc n) ys xs ≡ turned (meet R a b (suc n) xs ys)
        → cond (alike (fields R y.record-bytes) (fields R x.record-bytes)) (meet R b a (suc n) ys xs) (differs n (agree (fields R y.record-bytes) (fields R x.record-bytes)))
        ≡ turned (cond t (meet R a b (suc n) xs ys) (differs n (agree (fields R x.record-bytes) (fields R y.record-bytes))))
    by true e r = rw (alike_turned (fields R y.record-bytes) (fields R x.record-bytes) ∙ e) r
    by false e r = rw (alike_turned (fields R y.record-bytes) (fields R x.record-bytes) ∙ e) (ap (λ (k : ℕ). differs n k) (agree-turned (fields R y.record-bytes) (fields R x.record-bytes)))

-- ---- two editions: the fields take the edition by the answer alone

others-edition : (k l : Known) (a : Attributes) (xs : List ℕ) → other_fields (layout k a) (value (layout k a) xs) ≡ other_fields (layout l a) (value (layout l a) xs)
unfolding other_fields body_fields tail_fields flag_field layout value flag_of
others-edition k l a xs = refl

fields-edition : (k l : Known) (es : List Event) (xs : List ℕ) → judge_events k es xs ≡ judge_events l es xs → fields (event_reads k es) xs ≡ fields (event_reads l es) xs
unfolding fields accepted
fields-edition k l es xs e =
    let o = others-edition k l ((event_reads k es).attributes (identifier_of xs)) xs in
    λ j. con (e j) [] ∷ cond (eqb (e j) 0) (con (kind_of xs) [] ∷ con (misc_of xs) [] ∷ con (size_of xs) [] ∷ con (identifier_of xs) [] ∷ o j) (con 0 xs ∷ [])

-- where both editions answer alike for each record, they tell the same
pub meet-editions : (k l : Known) (es : List Event) (a b n : ℕ) (xs ys : List Cut)
    → All (λ (c : Cut). judge_events k es c.record-bytes ≡ judge_events l es c.record-bytes) xs
    → All (λ (c : Cut). judge_events k es c.record-bytes ≡ judge_events l es c.record-bytes) ys
    → meet (event_reads k es) a b n xs ys ≡ meet (event_reads l es) a b n xs ys
unfolding meet
meet-editions k l es a b n [] [] p q = refl
meet-editions k l es a b n [] (y ∷ ys) p q = refl
meet-editions k l es a b n (x ∷ xs) [] p q = refl
meet-editions k l es a b n (x ∷ xs) (y ∷ ys) p q =
    let u = fields-edition k l es x.record-bytes p.0 in
    let v = fields-edition k l es y.record-bytes q.0 in
    let r = meet-editions k l es a b (suc n) xs ys p.1 q.1 in
    λ j. cond (alike (u j) (v j)) (r j) (differs n (agree (u j) (v j)))
