-- "A store that reads is the only encoding of its settings." Assumes nothing.
use Rattle.std.specs.Prelude.{◌≡◌, refl, Bool, true, false, cond, not, ◌&&◌, ◌||◌, List, [], ◌∷◌, ◌++◌, ℕ, zero, suc, ◌+◌, ◌-◌, ◌<◌, ◌≤◌, eqb, length, take, drop}
use Rattle.std.proofs.Common.{sym, ap, ◌∙◌, subst, append-nil, append_assoc, zero-add, arith, length-append, length-drop, take-append-drop, take-add, take_all, eq-eqb, eqb-true, ltb-false}
use Rattle.std.proofs.lemmas.Bool.{not-false, eqb-false}
use Rattle.meaning.specs.Bytes.{number_at, spell, small}
use Rattle.meaning.specs.Refusals.{Refusal, first}
use Rattle.meaning.specs.declared.Known.{Known}
use Rattle.meaning.specs.Editions.{allowed}
use Rattle.meaning.specs.Ring.{length_allowed}
use Rattle.laws.specs.Bytes.{apart, and-true, true-and}
use Rattle.entries.specs.Entries.{Entry}
use Rattle.entries.specs.Entries.{entry_at, entry_bytes}
use Rattle.entries.specs.Numbers.{number-bytes, parts}
use Rattle.entries.specs.Laws.{stands, bytes-again}
use Rattle.meaning.specs.Events.{events_of, sound}
use Rattle.settings.specs.Versions.{Version, version_of, is_known, row_length, place_of}
use Rattle.settings.specs.Reading.{shows_version, is_event, is_last, is_event_of, fits, in_turn, turns_from, count_of, row_from, rows_of, first_rows, last_rows, after_rows, table_rows, rest_answer, shown, store_answer}
use Rattle.settings.specs.Writing.{word_bytes, row_bytes, rows_bytes, last_bytes, store_bytes}
use Rattle.laws.specs.Rows.{or-false, passed-by, first-through, first-passed}
use Rattle.settings.specs.Firsts.{or-first}

-- ---- an entry that is whole, of a kind and a length that are known

-- its bytes, from its place on
pub entry-bytes : (xs : List ℕ) (at kind k : ℕ) → small xs ≡ true → (entry_at xs at).whole ≡ true → (entry_at xs at).kind ≡ kind → (entry_at xs at).length ≡ k
    → take (6 + k) (drop at xs) ≡ entry_bytes kind (take k (drop (at + 6) xs))
entry-bytes xs at kind k s w e l =
    ap (λ (n : ℕ). take (6 + n) (drop at xs)) (sym l) ∙ bytes-again xs at s w ∙ (λ j. entry_bytes (e j) (take (l j) (drop (at + 6) xs)))

pub entry-room : (xs : List ℕ) (at k : ℕ) → (entry_at xs at).whole ≡ true → (entry_at xs at).length ≡ k → at + (6 + k) ≤ length xs
entry-room xs at k w l =
    let s = stands xs at w in
    let e : (entry_at xs at).length ≡ number_at 4 xs at - 6 = ap (λ (q : Entry). q.length) s.told in
    omega (arith, s.least, s.room)

pub record Is (e : Entry) (kind k : ℕ) : Type 0 where
  pub whole : e.whole ≡ true
  pub kind-is : e.kind ≡ kind
  pub length-is : e.length ≡ k

pub is-by : (e : Entry) (kind k : ℕ) → e.whole && (eqb e.kind kind && eqb e.length k) ≡ true → Is e kind k
is-by e kind k h =
    let p = and-true e.whole (eqb e.kind kind && eqb e.length k) h in
    let q = and-true (eqb e.kind kind) (eqb e.length k) p.1 in
    record { whole = p.0; kind-is = eqb-true _ _ q.0; length-is = eqb-true _ _ q.1 }

-- ---- the events

abbrev pub Steady : Version → List ℕ → ℕ → Type 0
Steady v xs n = (i : ℕ) → i < n → in_turn v xs i ≡ true

pub steady-suc : (v : Version) (xs : List ℕ) (n : ℕ) → Steady v xs n → in_turn v xs n ≡ true → Steady v xs (suc n)
steady-suc v xs n h e i l = by (eqb i n) refl
  where
    by : (t : Bool) → eqb i n ≡ t → in_turn v xs i ≡ true
    by true q = ap (in_turn v xs) (eqb-true i n q) ∙ e
    by false q = h i (omega (arith, eqb-false i n q))

-- those that are counted stand in turn
pub steady : (v : Version) (xs : List ℕ) (k n : ℕ) → Steady v xs n → Steady v xs (turns_from v xs k n)
unfolding turns_from
steady v xs zero n h = h
steady v xs (suc k) n h = by (in_turn v xs n) refl (λ e. steady v xs k (suc n) (steady-suc v xs n h e))
  where
    by : (t : Bool) → in_turn v xs n ≡ t → (in_turn v xs n ≡ true → Steady v xs (turns_from v xs k (suc n)))
        → Steady v xs (cond (in_turn v xs n) (turns_from v xs k (suc n)) n)
    by true e g = subst (λ (q : Bool). Steady v xs (cond q (turns_from v xs k (suc n)) n)) (sym e) (g e)
    by false e g = subst (λ (q : Bool). Steady v xs (cond q (turns_from v xs k (suc n)) n)) (sym e) h

pub counted : (v : Version) (xs : List ℕ) → Steady v xs (count_of v xs)
counted v xs = steady v xs (length xs) 0 (λ i l. absurd (omega arith))

-- the words of a row, from a place on
pub row-bytes : (xs : List ℕ) (at : ℕ) → small xs ≡ true → at + 48 ≤ length xs → take 48 (drop at xs) ≡ word_bytes (row_from xs at)
row-bytes xs at s h =
    let p2 : at + 8 + 8 ≡ at + 16 = omega arith in
    let p3 : at + 16 + 8 ≡ at + 24 = omega arith in
    let p4 : at + 24 + 8 ≡ at + 32 = omega arith in
    let p5 : at + 32 + 8 ≡ at + 40 = omega arith in
    let t : ℕ → ℕ → List ℕ = λ k i. take k (drop (at + i) xs) in
    let b : (i : ℕ) → at + i + 8 ≤ length xs → spell 8 (number_at 8 xs (at + i)) ≡ t 8 i = λ i l. number-bytes 8 xs (at + i) s l in
    let b0 : spell 8 (number_at 8 xs at) ≡ take 8 (drop at xs) = number-bytes 8 xs at s (omega arith) in
    parts 8 40 xs at
    ∙ ap (λ (l : List ℕ). take 8 (drop at xs) ++ l)
    (parts 8 32 xs (at + 8)
    ∙ ap (λ (l : List ℕ). t 8 8 ++ l)
    (ap (λ (n : ℕ). take 32 (drop n xs)) p2
    ∙ parts 8 24 xs (at + 16)
    ∙ ap (λ (l : List ℕ). t 8 16 ++ l)
    (ap (λ (n : ℕ). take 24 (drop n xs)) p3
    ∙ parts 8 16 xs (at + 24)
    ∙ ap (λ (l : List ℕ). t 8 24 ++ l)
    (ap (λ (n : ℕ). take 16 (drop n xs)) p4
    ∙ parts 8 8 xs (at + 32)
    ∙ ap (λ (n : ℕ). t 8 32 ++ take 8 (drop n xs)) p5))))
    ∙ (λ j.
    sym b0 j
    ++ (sym (b 8 (omega arith)) j
    ++ (sym (b 16 (omega arith)) j ++ (sym (b 24 (omega arith)) j ++ (sym (b 32 (omega arith)) j ++ sym (b 40 (omega arith)) j)))))

-- an event in its turn is written by the same bytes
pub turn-bytes : (v : Version) (xs : List ℕ) (n : ℕ) → small xs ≡ true → in_turn v xs n ≡ true
    → (place_of v (suc n) ≤ length xs)
    × (take (6 + row_length v) (drop (place_of v n) xs) ≡ row_bytes v n (row_from xs (place_of v n + (6 + v.width))))
unfolding in_turn place_of
turn-bytes v xs n s h =
    let p : ℕ = place_of v n in
    let a = and-true (is_event v (entry_at xs p)) (eqb (number_at v.width xs (p + 6)) n) h in
    let i = is-by (entry_at xs p) 2 (row_length v) a.0 in
    let r : p + (6 + row_length v) ≤ length xs = entry-room xs p (row_length v) i.whole i.length-is in
    let q : p + 6 + v.width ≡ p + (6 + v.width) = omega arith in
    let m : number_at v.width xs (p + 6) ≡ n = eqb-true _ _ a.1 in (
      r,
      entry-bytes xs p 2 (row_length v) s i.whole i.kind-is i.length-is
          ∙ ap (entry_bytes 2)
          (parts v.width 48 xs (p + 6)
          ∙ ap (λ (k : ℕ). take v.width (drop (p + 6) xs) ++ take 48 (drop k xs)) q
          ∙ ap (λ (l : List ℕ). l ++ take 48 (drop (p + (6 + v.width)) xs)) (sym (number-bytes v.width xs (p + 6) s (omega arith)))
          ∙ ap (λ (l : List ℕ). spell v.width (number_at v.width xs (p + 6)) ++ l) (row-bytes xs (p + (6 + v.width)) s (omega arith))
          ∙ ap (λ (k : ℕ). spell v.width k ++ word_bytes (row_from xs (p + (6 + v.width)))) m),
    )

-- one row more
pub rows_snoc : (v : Version) (n : ℕ) (rs : List (List ℕ)) (r : List ℕ) → rows_bytes v n (rs ++ (r ∷ [])) ≡ rows_bytes v n rs ++ row_bytes v (length rs + n) r
unfolding rows_bytes
rows_snoc v n [] r = append-nil (row_bytes v n r) ∙ ap (λ (k : ℕ). row_bytes v k r) (sym (zero-add n))
rows_snoc v n (q ∷ rs) r =
    let z : length rs + suc n ≡ suc (length rs) + n = omega arith in
    ap (λ (l : List ℕ). row_bytes v n q ++ l) (rows_snoc v (suc n) rs r ∙ ap (λ (k : ℕ). rows_bytes v (suc n) rs ++ row_bytes v k r) z)
    ∙ sym (append_assoc (row_bytes v n q) (rows_bytes v (suc n) rs) (row_bytes v (suc (length rs) + n) r))

pub rows-length : (v : Version) (xs : List ℕ) (n : ℕ) → length (rows_of v xs n) ≡ n
unfolding rows_of
rows-length v xs zero = refl
rows-length v xs (suc n) = omega (arith, length-append (rows_of v xs n) (row_from xs (place_of v n + (6 + v.width)) ∷ []), rows-length v xs n)

-- the bytes up to a place are those of the first entry and the rows
pub rows-again : (v : Version) (xs : List ℕ) (n : ℕ) → small xs ≡ true → 8 ≤ length xs → Steady v xs n
    → (place_of v n ≤ length xs) × (take (place_of v n) xs ≡ take 8 xs ++ rows_bytes v 0 (rows_of v xs n))
unfolding place_of rows_of rows_bytes
rows-again v xs zero s l h = (l, sym (append-nil (take 8 xs)))
rows-again v xs (suc n) s l h =
    let u = rows-again v xs n s l (λ i q. h i (omega arith)) in
    let t = turn-bytes v xs n s (h n (omega arith)) in
    let r : List ℕ = row_from xs (place_of v n + (6 + v.width)) in
    let z : length (rows_of v xs n) + 0 ≡ n = omega (arith, rows-length v xs n) in (
      t.0,
      take-add (place_of v n) (6 + row_length v) xs
          ∙ (λ j. u.1 j ++ t.1 j)
          ∙ append_assoc (take 8 xs) (rows_bytes v 0 (rows_of v xs n)) (row_bytes v n r)
          ∙ ap (λ (k : List ℕ). take 8 xs ++ k) (ap (λ (k : ℕ). rows_bytes v 0 (rows_of v xs n) ++ row_bytes v k r) (sym z) ∙ sym (rows_snoc v 0 (rows_of v xs n) r)),
    )

-- ---- what an answer of 0 says

pub event-kind : (vs : List Version) (e : Entry) → is_event_of vs e ≡ true → e.kind ≡ 2
unfolding is_event_of
event-kind [] e h = absurd (apart h)
event-kind (v ∷ vs) e h = by (is_event v e) refl (event-kind vs e)
  where
    by : (t : Bool) → is_event v e ≡ t → (is_event_of vs e ≡ true → e.kind ≡ 2) → e.kind ≡ 2
    by true q g = (is-by e 2 (row_length v) q).kind-is
    by false q g = g (or-first (is_event v e) (is_event_of vs e) h q)

-- an entry of kind 1 that fits holds a version, one of kind 3 the last settings
pub fits-first : (vs : List Version) (e : Entry) → fits vs e ≡ true → e.kind ≡ 1 → Is e 1 2
unfolding fits
fits-first vs e h k = by (shows_version e) refl
  where
    no_last : is_last e ≡ true → ⊥
    no_last q = let z = is-by e 3 13 q in omega (arith, z.kind-is)

    no-event : (t : Bool) → is_event_of vs e ≡ t → (is_event_of vs e || is_last e) ≡ true → ⊥
    no-event true q r = omega (arith, event-kind vs e q)
    no-event false q r = no_last (or-first (is_event_of vs e) (is_last e) r q)

    by : (t : Bool) → shows_version e ≡ t → Is e 1 2
    by true q = is-by e 1 2 q
    by false q = absurd (no-event (is_event_of vs e) refl (or-first (shows_version e) (is_event_of vs e || is_last e) h q))

pub fits_last : (vs : List Version) (e : Entry) → fits vs e ≡ true → e.kind ≡ 3 → Is e 3 13
unfolding fits
fits_last vs e h k = by (shows_version e) refl
  where
    event : (t : Bool) → is_event_of vs e ≡ t → (is_event_of vs e || is_last e) ≡ true → Is e 3 13
    event true q r = absurd (omega (arith, event-kind vs e q))
    event false q r = is-by e 3 13 (or-first (is_event_of vs e) (is_last e) r q)

    by : (t : Bool) → shows_version e ≡ t → Is e 3 13
    by true q = let z = is-by e 1 2 q in absurd (omega (arith, z.kind-is))
    by false q = event (is_event_of vs e) refl (or-first (shows_version e) (is_event_of vs e || is_last e) h q)

pub known-number : (vs : List Version) (k : ℕ) → is_known (version_of vs k) ≡ true → (version_of vs k).number ≡ k
unfolding version_of
known-number [] k h = absurd (apart h)
known-number (v ∷ vs) k h = by (eqb k v.number) refl (known-number vs k)
  where
    by : (t : Bool) → eqb k v.number ≡ t → (is_known (version_of vs k) ≡ true → (version_of vs k).number ≡ k)
        → (cond (eqb k v.number) v (version_of vs k)).number ≡ k
    by true q g = ap (λ (t : Bool). (cond t v (version_of vs k)).number) q ∙ sym (eqb-true k v.number q)
    by false q g =
        ap (λ (t : Bool). (cond t v (version_of vs k)).number) q
        ∙ g (sym (ap (λ (t : Bool). is_known (cond t v (version_of vs k))) q) ∙ h)

-- ---- what rows that are passed say: the first entry's, the last one's with what follows it

pub record Headed (vs : List Version) (xs : List ℕ) : Type 0 where
  pub known : is_known (shown vs xs) ≡ true
  pub head : Is (entry_at xs 0) 1 2
  pub long : 8 ≤ length xs

pub head_passed : (vs : List Version) (xs : List ℕ) (rest : ℕ) → first (first_rows vs xs) rest ≡ 0 → Headed vs xs × (rest ≡ 0)
head_passed vs xs rest h =
    let e : Entry = entry_at xs 0 in
    let p = first-through (first_rows vs xs) rest refl h in
    let row = passed-by (first_rows vs xs) p.0 in
    let i = fits-first vs e (not-false (fits vs e) (row 51)) (eqb-true _ _ (not-false (eqb e.kind 1) (row 52))) in
    let s : shows_version e ≡ true =
    true-and e.whole (eqb e.kind 1 && eqb e.length 2) i.whole
    (true-and (eqb e.kind 1) (eqb e.length 2) (eq-eqb _ _ i.kind-is) (eq-eqb _ _ i.length-is)) in
    let k : is_known (shown vs xs) ≡ true = not-false (is_known (shown vs xs)) (sym (ap (λ (t : Bool). t && not (is_known (shown vs xs))) s) ∙ row 50) in
    (record { known = k; head = i; long = omega (arith, entry-room xs 0 2 i.whole i.length-is) }, p.1)

pub record Ended (v : Version) (ks : List Known) (xs : List ℕ) (at : ℕ) : Type 0 where
  pub tail : Is (entry_at xs at) 3 13
  pub ring-allowed : length_allowed (number_at 8 xs (at + 6)) ≡ true
  pub edition-allowed : allowed ks (number_at 1 xs (at + 14)) ≡ true
  pub ends : at + 19 ≡ length xs

pub end-passed : (v : Version) (ks : List Known) (xs : List ℕ) (at rest : ℕ) → first (last_rows v ks xs at) (first (after_rows v xs (at + 19)) rest) ≡ 0
    → Ended v ks xs at × (rest ≡ 0)
end-passed v ks xs at rest h =
    let e : Entry = entry_at xs at in
    let ring : Bool = length_allowed (number_at 8 xs (at + 6)) in
    let edition : Bool = allowed ks (number_at 1 xs (at + 14)) in
    let p = first-through (last_rows v ks xs at) (first (after_rows v xs (at + 19)) rest) refl h in
    let q = first-through (after_rows v xs (at + 19)) rest refl p.1 in
    let row = passed-by (last_rows v ks xs at) p.0 in
    let a = or-false (not (eqb e.kind 3)) (not ring || not edition) (row 52) in
    let b = or-false (not ring) (not edition) a.1 in (
      record {
        tail = fits_last (v ∷ []) e (not-false (fits (v ∷ []) e) (row 51)) (eqb-true _ _ (not-false (eqb e.kind 3) a.0));
        ring-allowed = not-false ring b.0;
        edition-allowed = not-false edition b.1;
        ends = eqb-true _ _ (not-false (eqb (at + 19) (length xs)) (passed-by (after_rows v xs (at + 19)) q.0 52));
      },
      q.1,
    )

-- ---- a store that reads

pub record Accepted (v : Version) (ks : List Known) (xs : List ℕ) (n lent : ℕ) : Type 0 where
  pub known : is_known v ≡ true
  pub head : Is (entry_at xs 0) 1 2
  pub number : v.number ≡ number_at 2 xs 6
  pub tail : Is (entry_at xs (place_of v n)) 3 13
  pub ring-allowed : length_allowed (number_at 8 xs (place_of v n + 6)) ≡ true
  pub edition-allowed : allowed ks (number_at 1 xs (place_of v n + 14)) ≡ true
  pub ends : place_of v n + 19 ≡ length xs
  pub sound : sound v.limit (events_of (rows_of v xs n)) ≡ true
  pub room : n ≤ lent

pub accepted : (vs : List Version) (ks : List Known) (xs : List ℕ) (lent : ℕ) → store_answer vs ks xs lent ≡ 0 → Accepted (shown vs xs) ks xs (count_of (shown vs xs) xs) lent
unfolding store_answer rest_answer
accepted vs ks xs lent h =
    let v : Version = shown vs xs in
    let n : ℕ = count_of v xs in
    let rs : List Refusal = table_rows v.limit (rows_of v xs n) n lent in
    let f = head_passed vs xs (rest_answer v ks xs n lent) h in
    let l = end-passed v ks xs (place_of v n) (first rs 0) f.1 in
    let row = passed-by rs (first-passed rs refl l.1) in
    record {
      known = f.0.known;
      head = f.0.head;
      number = known-number vs (number_at 2 xs 6) f.0.known;
      tail = l.0.tail;
      ring-allowed = l.0.ring-allowed;
      edition-allowed = l.0.edition-allowed;
      ends = l.0.ends;
      sound = not-false (sound v.limit (events_of (rows_of v xs n))) (row 11);
      room = ltb-false lent n (row 40);
    }

-- ---- the only encoding

pub last-bytes : (xs : List ℕ) (p : ℕ) → small xs ≡ true → Is (entry_at xs p) 3 13 → p + 19 ≡ length xs
    → drop p xs ≡ last_bytes (number_at 8 xs (p + 6)) (number_at 1 xs (p + 14)) (number_at 4 xs (p + 15))
last-bytes xs p s i e =
    let p14 : p + 6 + 8 ≡ p + 14 = omega arith in
    let p15 : p + 14 + 1 ≡ p + 15 = omega arith in
    let b8 : spell 8 (number_at 8 xs (p + 6)) ≡ take 8 (drop (p + 6) xs) = number-bytes 8 xs (p + 6) s (omega arith) in
    let b1 : spell 1 (number_at 1 xs (p + 14)) ≡ take 1 (drop (p + 14) xs) = number-bytes 1 xs (p + 14) s (omega arith) in
    let b4 : spell 4 (number_at 4 xs (p + 15)) ≡ take 4 (drop (p + 15) xs) = number-bytes 4 xs (p + 15) s (omega arith) in
    sym (take_all 19 (drop p xs) (omega (arith, length-drop p xs)))
    ∙ entry-bytes xs p 3 13 s i.whole i.kind-is i.length-is
    ∙ ap (entry_bytes 3)
    (parts 8 5 xs (p + 6)
    ∙ ap (λ (k : ℕ). take 8 (drop (p + 6) xs) ++ take 5 (drop k xs)) p14
    ∙ ap (λ (l : List ℕ). take 8 (drop (p + 6) xs) ++ l) (parts 1 4 xs (p + 14) ∙ ap (λ (k : ℕ). take 1 (drop (p + 14) xs) ++ take 4 (drop k xs)) p15)
    ∙ (λ j. sym b8 j ++ (sym b1 j ++ sym b4 j)))

-- a store that reads is what the writer writes of its settings, in its version
pub encoded : (v : Version) (ks : List Known) (xs : List ℕ) (lent : ℕ) → small xs ≡ true → Accepted v ks xs (count_of v xs) lent
    → xs
    ≡ store_bytes v (rows_of v xs (count_of v xs))
    (number_at 8 xs (place_of v (count_of v xs) + 6)) (number_at 1 xs (place_of v (count_of v xs) + 14)) (number_at 4 xs (place_of v (count_of v xs) + 15))
unfolding store_bytes
encoded v ks xs lent s a =
    let n : ℕ = count_of v xs in
    let p : ℕ = place_of v n in
    let r = rows-again v xs n s (omega (arith, entry-room xs 0 2 a.head.whole a.head.length-is)) (counted v xs) in
    let h : take 8 xs ≡ entry_bytes 1 (spell 2 v.number) =
    entry-bytes xs 0 1 2 s a.head.whole a.head.kind-is a.head.length-is
    ∙ ap (entry_bytes 1) (sym (number-bytes 2 xs 6 s (omega (arith, entry-room xs 0 2 a.head.whole a.head.length-is))) ∙ ap (spell 2) (sym a.number)) in
    sym (take-append-drop p xs)
    ∙ (λ j. r.1 j ++ last-bytes xs p s a.tail a.ends j)
    ∙ append_assoc (take 8 xs) (rows_bytes v 0 (rows_of v xs n)) _
    ∙ ap (λ (l : List ℕ). l ++ (rows_bytes v 0 (rows_of v xs n) ++ last_bytes (number_at 8 xs (p + 6)) (number_at 1 xs (p + 14)) (number_at 4 xs (p + 15)))) h
