-- Two lists of records side by side: what is told, and that nothing else could be. Assumes nothing.
use Rattle.std.specs.Prelude.{◌≡◌, ℕ, zero, suc, ◌<◌, ◌≤◌, Bool, true, false, cond, drop, get_or, eqb}
use Rattle.std.proofs.Math.Path.{refl, sym}
use Rattle.std.proofs.Common.{ap, ap₂, ◌∙◌, subst, arith, ⊎_elim, length-drop, drop_of_length-le, eqb-true, ne_eqb}
use mathlib.Core.List.{List, [], ◌∷◌}
use Rattle.std.proofs.Math.ListN.{length}
use Rattle.std.proofs.Math.Seq.{drop-cons}
use Rattle.std.proofs.lemmas.Bool.{eqb-false}
use Rattle.runs.specs.Cutting.{Cut, Cuts, All, nothing_cut, record_of}
use Rattle.runs.proofs.Entries.{all-at}
use Rattle.laws.specs.Bytes.{le-or-lt}
use Rattle.compare.specs.declared.Compared.{Compared}
use Rattle.compare.specs.Fields.{Reads, fields}
use Rattle.compare.specs.Compared.{alike, agree, all_alike, differs, ends_first, stops, meet}
use Rattle.compare.specs.Promise.{SoundReads, Whole, Same, First, Says, all_alike_lem, field-differs, left_ended, right-ended, left-stopped, right-stopped, TrueReport}
use Rattle.compare.proofs.Pairs.{alike-exactly, named-differs, first-only}

top : List Cut → Cut
top [] = nothing_cut
top (c ∷ cs) = c

rest : List Cut → List Cut
rest [] = []
rest (c ∷ cs) = cs

-- what is left from n on, where something is
here : (cs : List Cut) (n : ℕ) (x : Cut) (xs : List Cut) → n < length cs → drop n cs ≡ x ∷ xs → (get_or cs n nothing_cut ≡ x) × (drop (suc n) cs ≡ xs)
unfolding top rest
here cs n x xs l e =
    let d = sym (drop-cons cs n nothing_cut l) ∙ e in
    (ap top d, ap rest d)

left_over : (cs : List Cut) (n : ℕ) (x : Cut) (xs : List Cut) → drop n cs ≡ x ∷ xs → n < length cs
left_over cs n x xs e = let d = length-drop n cs in let q : length (drop n cs) ≡ suc (length xs) = ap length e in omega (arith, d, q)

none_left : (cs : List Cut) (n : ℕ) → n ≤ length cs → drop n cs ≡ [] → length cs ≡ n
none_left cs n l e = let d = length-drop n cs in let q : length (drop n cs) ≡ 0 = ap length e in omega (arith, d, q, l)

module _ (R : Reads) (good : SoundReads R) (l r : Cuts) (wl : All (λ (c : Cut). Whole c.record-bytes) l.records) (wr : All (λ (c : Cut). Whole c.record-bytes) r.records) where
  abbrev Before : ℕ → Type 0
  Before n = (i : ℕ) → i < n → Same R (record_of l i) (record_of r i)

  both_end : (n : ℕ) → length l.records ≡ n → length r.records ≡ n → Before n → (s t : Bool) → eqb l.stop 0 ≡ s → eqb r.stop 0 ≡ t
      → TrueReport R l r (cond s (cond t (all_alike n) (stops 5 r.stop n)) (stops 4 l.stop n))
  both_end n a b h true true p q = record { says = all_alike_lem a b (eqb-true _ _ p) (eqb-true _ _ q); before = h }
  both_end n a b h true false p q = record { says = right-stopped b (eqb-false _ _ q) (omega (arith, a)) (λ e. eqb-true _ _ p); before = h }
  both_end n a b h false t p q = record { says = left-stopped a (eqb-false _ _ p) (omega (arith, b)); before = h }

  left_end : (n : ℕ) → length l.records ≡ n → n < length r.records → Before n → (s : Bool) → eqb l.stop 0 ≡ s → TrueReport R l r (cond s (ends_first 2 n) (stops 4 l.stop n))
  left_end n a b h true p = record { says = left_ended a (eqb-true _ _ p) b; before = h }
  left_end n a b h false p = record { says = left-stopped a (eqb-false _ _ p) (omega (arith, b)); before = h }

  right_end : (n : ℕ) → length r.records ≡ n → n < length l.records → Before n → (s : Bool) → eqb r.stop 0 ≡ s → TrueReport R l r (cond s (ends_first 3 n) (stops 5 r.stop n))
  right_end n a b h true p = record { says = right-ended a (eqb-true _ _ p) b; before = h }
  right_end n a b h false p = record { says = right-stopped a (eqb-false _ _ p) (omega (arith, b)) (λ e. absurd (omega (arith, e, b))); before = h }

  one_more : (n : ℕ) → Before n → Same R (record_of l n) (record_of r n) → Before (suc n)
  one_more n h s i k = ⊎_elim (λ (q : n ≤ i). let e : n ≡ i = omega (arith, k, q) in subst (λ (j : ℕ). Same R (record_of l j) (record_of r j)) e s) (λ (q : i < n). h i q) (le-or-lt n i)

  meets : (n : ℕ) (xs ys : List Cut) → drop n l.records ≡ xs → drop n r.records ≡ ys → n ≤ length l.records → n ≤ length r.records → Before n
      → TrueReport R l r (meet R l.stop r.stop n xs ys)
  unfolding meet
  meets n [] [] p q a b h = both_end n (none_left _ n a p) (none_left _ n b q) h (eqb l.stop 0) (eqb r.stop 0) refl refl
  meets n [] (y ∷ ys) p q a b h = left_end n (none_left _ n a p) (left_over _ n y ys q) h (eqb l.stop 0) refl
  meets n (x ∷ xs) [] p q a b h = right_end n (none_left _ n b q) (left_over _ n x xs p) h (eqb r.stop 0) refl
  meets n (x ∷ xs) (y ∷ ys) p q a b h = by (alike (fields R x.record-bytes) (fields R y.record-bytes)) refl (λ c d e f k. meets (suc n) xs ys c d e f k)
    where
      nl : n < length l.records
      nl = left_over l.records n x xs p

      nr : n < length r.records
      nr = left_over r.records n y ys q

      hl : (get_or l.records n nothing_cut ≡ x) × (drop (suc n) l.records ≡ xs)
      hl = here l.records n x xs nl p

      hr : (get_or r.records n nothing_cut ≡ y) × (drop (suc n) r.records ≡ ys)
      hr = here r.records n y ys nr q

      wx : Whole (record_of l n)
      wx = all-at (λ (c : Cut). Whole c.record-bytes) l.records n wl nl

      wy : Whole (record_of r n)
      wy = all-at (λ (c : Cut). Whole c.record-bytes) r.records n wr nr

      ex : record_of l n ≡ x.record-bytes
      ex = ap (λ (c : Cut). c.record-bytes) hl.0

      ey : record_of r n ≡ y.record-bytes
      ey = ap (λ (c : Cut). c.record-bytes) hr.0

      test : alike (fields R (record_of l n)) (fields R (record_of r n)) ≡ alike (fields R x.record-bytes) (fields R y.record-bytes)
      test = ap₂ (λ (c d : List ℕ). alike (fields R c) (fields R d)) ex ey

      by : (t : Bool) → alike (fields R x.record-bytes) (fields R y.record-bytes) ≡ t
          → (drop (suc n) l.records ≡ xs → drop (suc n) r.records ≡ ys → suc n ≤ length l.records → suc n ≤ length r.records → Before (suc n)
          → TrueReport R l r (meet R l.stop r.stop (suc n) xs ys))
          → TrueReport R l r (cond t (meet R l.stop r.stop (suc n) xs ys) (differs n (agree (fields R x.record-bytes) (fields R y.record-bytes))))
      by true e go =
          let s : Same R (record_of l n) (record_of r n) = (alike-exactly R good (record_of l n) (record_of r n) wx wy).0 (test ∙ e) in
          go hl.1 hr.1 nl nr (one_more n h s)
      by false e go =
          let f = named-differs R good (record_of l n) (record_of r n) wx wy (test ∙ e) in
          record {
            says = field-differs nl nr (subst (First (fields R (record_of l n)) (fields R (record_of r n))) (ap₂ (λ (c d : List ℕ). agree (fields R c) (fields R d)) ex ey) f);
            before = h;
          }

  -- "Each pair before the reported place is equal under demand 2, and the named field differs"
  pub met : TrueReport R l r (meet R l.stop r.stop 0 l.records r.records)
  met = meets 0 l.records r.records refl refl (omega arith) (omega arith) (λ i k. absurd (omega (arith, k)))

  -- ---- and nothing else could be told

  past_one : (n : ℕ) → n < length l.records → n < length r.records → Same R (record_of l n) (record_of r n)
      → meet R l.stop r.stop n (drop n l.records) (drop n r.records) ≡ meet R l.stop r.stop (suc n) (drop (suc n) l.records) (drop (suc n) r.records)
  unfolding meet
  past_one n a b s =
      let wx = all-at (λ (c : Cut). Whole c.record-bytes) l.records n wl a in
      let wy = all-at (λ (c : Cut). Whole c.record-bytes) r.records n wr b in
      rw (drop-cons l.records n nothing_cut a, drop-cons r.records n nothing_cut b, (alike-exactly R good (record_of l n) (record_of r n) wx wy).1 s)

  past_all : (n : ℕ) → n ≤ length l.records → n ≤ length r.records → Before n
      → meet R l.stop r.stop 0 l.records r.records ≡ meet R l.stop r.stop n (drop n l.records) (drop n r.records)
  past_all zero a b h = refl
  past_all (suc n) a b h = past_all n (omega (arith, a)) (omega (arith, b)) (λ i k. h i (omega (arith, k))) ∙ past_one n a b (h n (omega arith))

  stopped-first : (n : ℕ) (ys : List Cut) → (l.stop ≡ 0 → ⊥) → meet R l.stop r.stop n [] ys ≡ stops 4 l.stop n
  unfolding meet
  stopped-first n [] p = rw (ne_eqb l.stop 0 p)
  stopped-first n (y ∷ ys) p = rw (ne_eqb l.stop 0 p)

  stopped-second : (n : ℕ) (xs : List Cut) → (r.stop ≡ 0 → ⊥) → (xs ≡ [] → l.stop ≡ 0) → meet R l.stop r.stop n xs [] ≡ stops 5 r.stop n
  unfolding meet
  stopped-second n [] p q = rw (ne_eqb r.stop 0 p, q refl)
  stopped-second n (x ∷ xs) p q = rw (ne_eqb r.stop 0 p)

  gone : (cs : List Cut) (n : ℕ) → length cs ≡ n → drop n cs ≡ []
  gone cs n e = drop_of_length-le cs {i = n} (omega (arith, e))

  only_one : (c : Compared) → Says R l r c → Before c.records → c ≡ meet R l.stop r.stop 0 l.records r.records
  unfolding meet
  only_one c (all_alike_lem {n = n} a b p q) h =
      sym (past_all n (omega (arith, a)) (omega (arith, b)) h ∙ rw (gone l.records n a, gone r.records n b, p, q))
  only_one c (field-differs {n = n} {k = k} a b f) h =
      let o = first-only (fields R (record_of l n)) (fields R (record_of r n)) k f in
      sym (past_all n (omega (arith, a)) (omega (arith, b)) h ∙ rw (drop-cons l.records n nothing_cut a, drop-cons r.records n nothing_cut b, o.0, o.1))
  only_one c (left_ended {n = n} a p b) h =
      sym (past_all n (omega (arith, a)) (omega (arith, b)) h ∙ rw (gone l.records n a, drop-cons r.records n nothing_cut b, p))
  only_one c (right-ended {n = n} a p b) h =
      sym (past_all n (omega (arith, b)) (omega (arith, a)) h ∙ rw (gone r.records n a, drop-cons l.records n nothing_cut b, p))
  only_one c (left-stopped {n = n} a p b) h =
      sym (past_all n (omega (arith, a)) b h ∙ rw (gone l.records n a) (stopped-first n (drop n r.records) p))
  only_one c (right-stopped {n = n} a p b q) h =
      sym (past_all n b (omega (arith, a)) h ∙ rw (gone r.records n a) (stopped-second n (drop n l.records) p (λ e. q (none_left l.records n b e))))

  -- the report is the only one that tells the truth
  pub only : (c : Compared) → TrueReport R l r c → c ≡ meet R l.stop r.stop 0 l.records r.records
  only c t = only_one c t.says t.before
