-- The answers of a store, as a reader finds them out. Assumes nothing.
use Rattle.std.specs.Prelude.{◌≡◌, refl, Bool, true, false, cond, not, ◌&&◌, ◌||◌, List, [], ◌∷◌, ◌++◌, ℕ, zero, suc, ◌+◌, ◌-◌, ◌<◌, ◌≤◌, eqb, ltb, length, drop, set, get_or}
use Rattle.std.proofs.Common.{sym, ap, ◌∙◌, subst, add-one, arith, drop-cons, eq-eqb, ne_eqb, eqb-true, lt-ltb, le-ltb}
use Rattle.std.proofs.Math.Bool.{or-false, and_assoc}
use Rattle.std.proofs.Math.Bool as Bools
use Rattle.std.proofs.lemmas.List.{set_at}
use Rattle.std.proofs.Math.Seq.{append_snoc}
use Rattle.std.proofs.lemmas.Bool.{eqb-false}
use Rattle.meaning.specs.Bytes.{number_at, bit}
use Rattle.meaning.specs.Refusals.{Refusal, refusal, first, or_else}
use Rattle.meaning.specs.declared.Known.{Known}
use Rattle.meaning.specs.Editions.{allowed}
use Rattle.meaning.specs.Ring.{length_allowed}
use Rattle.laws.specs.Bytes.{apart, and-true, true-and}
use Rattle.entries.specs.Entries.{Entry}
use Rattle.entries.specs.Entries.{entry_at}
use Rattle.meaning.specs.Events.{identifiers, event_of, events_of, marked, all_marked, sound}
use Rattle.laws.specs.Lookup.{identifiers-length}
use Rattle.laws.specs.Lookup as Lookup
use Rattle.settings.specs.Versions.{Version, versions, version_of, is_known, row_length, place_of}
use Rattle.settings.specs.Reading.{shows_version, is_event, is_last, is_event_of, fits, in_turn, turns_from, count_of, row_from, rows_of, first_rows, last_rows, after_rows, table_rows, rest_answer, shown, store_answer, settings_at, refused, read_store, rows_after}
use Rattle.laws.specs.Rows.{first-no, first-yes, first-none}
use Rattle.settings.specs.Firsts.{first-or, first-app, or_left, and_no}
use Rattle.settings.proofs.Only.{Is, is-by, entry-room, fits-first, fits_last, rows-length}

-- ---- the first entry

pub head-50 : (vs : List Version) (xs : List ℕ) (rest : ℕ) → shows_version (entry_at xs 0) ≡ true → is_known (shown vs xs) ≡ false
    → first (first_rows vs xs) rest ≡ 50
head-50 vs xs rest s k =
    first-yes (refusal (shows_version (entry_at xs 0) && not (is_known (shown vs xs))) 50) _ rest
    (true-and (shows_version (entry_at xs 0)) (not (is_known (shown vs xs))) s (ap not k))

pub head-0 : (vs : List Version) (xs : List ℕ) (rest : ℕ) → shows_version (entry_at xs 0) ≡ true → is_known (shown vs xs) ≡ true
    → first (first_rows vs xs) rest ≡ rest
unfolding fits
head-0 vs xs rest s k =
    let e : Entry = entry_at xs 0 in
    first-no (refusal (shows_version e && not (is_known (shown vs xs))) 50) _ rest (and_no (shows_version e) (not (is_known (shown vs xs))) (ap not k))
    ∙ first-no (refusal (not (fits vs e)) 51) _ rest (ap not (or_left (shows_version e) (is_event_of vs e || is_last e) s))
    ∙ first-no (refusal (not (eqb e.kind 1)) 52) _ rest (ap not (eq-eqb e.kind 1 (is-by e 1 2 s).kind-is))
    ∙ first-none rest

not-shown : (vs : List Version) (xs : List ℕ) (rest : ℕ) → shows_version (entry_at xs 0) ≡ false
    → first (first_rows vs xs) rest ≡ first (refusal (not (fits vs (entry_at xs 0))) 51 ∷ refusal (not (eqb (entry_at xs 0).kind 1)) 52 ∷ []) rest
not-shown vs xs rest s =
    first-no (refusal (shows_version (entry_at xs 0) && not (is_known (shown vs xs))) 50) _ rest (ap (λ (b : Bool). b && not (is_known (shown vs xs))) s)

pub head-52 : (vs : List Version) (xs : List ℕ) (rest : ℕ) → shows_version (entry_at xs 0) ≡ false → fits vs (entry_at xs 0) ≡ true
    → first (first_rows vs xs) rest ≡ 52
head-52 vs xs rest s f =
    let e : Entry = entry_at xs 0 in
    not-shown vs xs rest s
    ∙ first-no (refusal (not (fits vs e)) 51) _ rest (ap not f)
    ∙ first-yes (refusal (not (eqb e.kind 1)) 52) _ rest (ap not (ne_eqb e.kind 1 (λ k. other (fits-first vs e f k))))
  where
    other : Is (entry_at xs 0) 1 2 → ⊥
    other i =
        apart
        (sym s
        ∙ true-and (entry_at xs 0).whole (eqb (entry_at xs 0).kind 1 && eqb (entry_at xs 0).length 2) i.whole
        (true-and (eqb (entry_at xs 0).kind 1) (eqb (entry_at xs 0).length 2) (eq-eqb _ _ i.kind-is) (eq-eqb _ _ i.length-is)))

pub head-51 : (vs : List Version) (xs : List ℕ) (rest : ℕ) → shows_version (entry_at xs 0) ≡ false → fits vs (entry_at xs 0) ≡ false
    → first (first_rows vs xs) rest ≡ 51
head-51 vs xs rest s f = not-shown vs xs rest s ∙ first-yes (refusal (not (fits vs (entry_at xs 0))) 51) _ rest (ap not f)

pub fits_by : (vs : List Version) (e : Entry) (a b c : Bool) → shows_version e ≡ a → is_event_of vs e ≡ b → is_last e ≡ c → fits vs e ≡ (a || (b || c))
unfolding fits
fits_by vs e a b c p q r = λ j. p j || (q j || r j)

-- ---- the events

pub turns_more : (v : Version) (xs : List ℕ) (n : ℕ) → n < length xs → in_turn v xs n ≡ true
    → turns_from v xs (length xs - n) n ≡ turns_from v xs (length xs - (n + 1)) (n + 1)
unfolding turns_from
turns_more v xs n h e =
    let z : length xs - n ≡ suc (length xs - (n + 1)) = omega arith in
    ap (λ (k : ℕ). turns_from v xs k n) z
    ∙ ap (λ (b : Bool). cond b (turns_from v xs (length xs - (n + 1)) (suc n)) n) e
    ∙ ap (turns_from v xs (length xs - (n + 1))) (sym (add-one n))

pub turn-room : (v : Version) (xs : List ℕ) (n : ℕ) → in_turn v xs n ≡ true → place_of v n + (6 + row_length v) ≤ length xs
unfolding in_turn
turn-room v xs n h =
    let p : ℕ = place_of v n in
    let i = is-by (entry_at xs p) 2 (row_length v) (and-true (is_event v (entry_at xs p)) (eqb (number_at v.width xs (p + 6)) n) h).0 in
    entry-room xs p (row_length v) i.whole i.length-is

pub place-next : (v : Version) (n : ℕ) → place_of v (n + 1) ≡ place_of v n + (v.width + 54)
unfolding place_of
place-next v n = ap (place_of v) (add-one n) ∙ omega arith

pub place_up : (v : Version) (m n : ℕ) → m ≤ n → place_of v m ≤ place_of v n
unfolding place_of
place_up v m zero h = let e : m ≡ 0 = omega arith in subst (λ (k : ℕ). place_of v k ≤ place_of v 0) (sym e) (omega arith)
place_up v m (suc n) h = by (eqb m (suc n)) refl (λ l. place_up v m n l)
  where
    by : (t : Bool) → eqb m (suc n) ≡ t → (m ≤ n → place_of v m ≤ place_of v n) → place_of v m ≤ place_of v (suc n)
    by true e g = subst (λ (k : ℕ). place_of v k ≤ place_of v (suc n)) (sym (eqb-true m (suc n) e)) (omega arith)
    by false e g = omega (arith, g (omega (arith, eqb-false m (suc n) e)))

-- one more at the front of what is left
filled : {A : Type 0} (p d : List A) (a z : A) (i : ℕ) → length p ≡ i → i < length d → set (p ++ drop i d) i a ≡ (p ++ (a ∷ [])) ++ drop (i + 1) d
filled p d a z i e h =
    ap (λ l. set (p ++ l) i a) (drop-cons d i z h ∙ ap (λ (k : ℕ). get_or d i z ∷ drop k d) (sym (add-one i)))
    ∙ set_at p (get_or d i z) (drop (i + 1) d) a i e
    ∙ sym (append_snoc p a (drop (i + 1) d))

-- one row more
pub rows_next : (v : Version) (xs : List ℕ) (rows : List (List ℕ)) (i : ℕ) → i < length rows
    → set (rows_of v xs i ++ drop i rows) i (row_from xs (place_of v i + (6 + v.width))) ≡ rows_of v xs (i + 1) ++ drop (i + 1) rows
unfolding rows_of
rows_next v xs rows i h =
    filled (rows_of v xs i) rows (row_from xs (place_of v i + (6 + v.width))) [] i (rows-length v xs i) h
    ∙ ap (λ (k : ℕ). rows_of v xs k ++ drop (i + 1) rows) (sym (add-one i))

-- ---- the last entry, and what follows it

pub last-51 : (v : Version) (ks : List Known) (xs : List ℕ) (at rest : ℕ) → fits (v ∷ []) (entry_at xs at) ≡ false → first (last_rows v ks xs at) rest ≡ 51
last-51 v ks xs at rest f = first-yes (refusal (not (fits (v ∷ []) (entry_at xs at))) 51) _ rest (ap not f)

module _ (v : Version) (ks : List Known) (xs : List ℕ) (at rest : ℕ) (f : fits (v ∷ []) (entry_at xs at) ≡ true) where
  pub last-kind : ((entry_at xs at).kind ≡ 3 → ⊥) → first (last_rows v ks xs at) rest ≡ 52
  last-kind k =
      first-no (refusal (not (fits (v ∷ []) (entry_at xs at))) 51) _ rest (ap not f)
      ∙ first-yes (refusal (not (eqb (entry_at xs at).kind 3)) 52) _ rest (ap not (ne_eqb _ _ k))

  pub last-past : (entry_at xs at).kind ≡ 3
      → first (last_rows v ks xs at) rest
      ≡ first (refusal (not (length_allowed (number_at 8 xs (at + 6)))) 52 ∷ refusal (not (allowed ks (number_at 1 xs (at + 14)))) 52 ∷ []) rest
  last-past k =
      first-no (refusal (not (fits (v ∷ []) (entry_at xs at))) 51) _ rest (ap not f)
      ∙ first-no (refusal (not (eqb (entry_at xs at).kind 3)) 52) _ rest (ap not (eq-eqb _ _ k))

  pub last-ring : (entry_at xs at).kind ≡ 3 → length_allowed (number_at 8 xs (at + 6)) ≡ false → first (last_rows v ks xs at) rest ≡ 52
  last-ring k r = last-past k ∙ first-yes (refusal (not (length_allowed (number_at 8 xs (at + 6)))) 52) _ rest (ap not r)

  pub last-edition : (entry_at xs at).kind ≡ 3 → length_allowed (number_at 8 xs (at + 6)) ≡ true → allowed ks (number_at 1 xs (at + 14)) ≡ false
      → first (last_rows v ks xs at) rest ≡ 52
  last-edition k r e =
      last-past k
      ∙ first-no (refusal (not (length_allowed (number_at 8 xs (at + 6)))) 52) _ rest (ap not r)
      ∙ first-yes (refusal (not (allowed ks (number_at 1 xs (at + 14)))) 52) _ rest (ap not e)

  pub last-0 : (entry_at xs at).kind ≡ 3 → length_allowed (number_at 8 xs (at + 6)) ≡ true → allowed ks (number_at 1 xs (at + 14)) ≡ true
      → first (last_rows v ks xs at) rest ≡ rest
  last-0 k r e =
      last-past k
      ∙ first-no (refusal (not (length_allowed (number_at 8 xs (at + 6)))) 52) _ rest (ap not r)
      ∙ first-no (refusal (not (allowed ks (number_at 1 xs (at + 14)))) 52) _ rest (ap not e)
      ∙ first-none rest

  pub last-room : (entry_at xs at).kind ≡ 3 → at + 19 ≤ length xs
  last-room k = let i = fits_last (v ∷ []) (entry_at xs at) f k in entry-room xs at 13 i.whole i.length-is

pub after-0 : (v : Version) (xs : List ℕ) (at rest : ℕ) → at ≡ length xs → first (after_rows v xs at) rest ≡ rest
after-0 v xs at rest e =
    let z : eqb at (length xs) ≡ true = eq-eqb _ _ e in
    first-no (refusal (not (eqb at (length xs)) && not (fits (v ∷ []) (entry_at xs at))) 51) _ rest (ap (λ (b : Bool). not b && not (fits (v ∷ []) (entry_at xs at))) z)
    ∙ first-no (refusal (not (eqb at (length xs))) 52) _ rest (ap not z)
    ∙ first-none rest

pub after-51 : (v : Version) (xs : List ℕ) (at rest : ℕ) → (at ≡ length xs → ⊥) → fits (v ∷ []) (entry_at xs at) ≡ false → first (after_rows v xs at) rest ≡ 51
after-51 v xs at rest e f =
    first-yes (refusal (not (eqb at (length xs)) && not (fits (v ∷ []) (entry_at xs at))) 51) _ rest
    (true-and (not (eqb at (length xs))) (not (fits (v ∷ []) (entry_at xs at))) (ap not (ne_eqb _ _ e)) (ap not f))

pub after-52 : (v : Version) (xs : List ℕ) (at rest : ℕ) → (at ≡ length xs → ⊥) → fits (v ∷ []) (entry_at xs at) ≡ true → first (after_rows v xs at) rest ≡ 52
after-52 v xs at rest e f =
    first-no (refusal (not (eqb at (length xs)) && not (fits (v ∷ []) (entry_at xs at))) 51) _ rest
    (and_no (not (eqb at (length xs))) (not (fits (v ∷ []) (entry_at xs at))) (ap not f))
    ∙ first-yes (refusal (not (eqb at (length xs))) 52) _ rest (ap not (ne_eqb _ _ e))

-- ---- what a passed part says

pub event-one : (v : Version) (e : Entry) → is_event_of (v ∷ []) e ≡ is_event v e
unfolding is_event_of
event-one v e = or-false (is_event v e)

-- the rows of the last entry and of what follows it, in one list
abbrev pub end_rows : Version → List Known → List ℕ → ℕ → List Refusal
end_rows v ks xs at = last_rows v ks xs at ++ after_rows v xs (at + 19)

-- ---- the whole answer, part by part

pub store-first : (vs : List Version) (ks : List Known) (xs : List ℕ) (lent k : ℕ) → k ≡ first (first_rows vs xs) 0 → (k ≡ 0 → ⊥) → store_answer vs ks xs lent ≡ k
unfolding store_answer
store-first vs ks xs lent k e z =
    let rest : ℕ = rest_answer (shown vs xs) ks xs (count_of (shown vs xs) xs) lent in
    first-or (first_rows vs xs) rest (omega arith, (omega arith, (omega arith, tt)))
    ∙ ap (λ (x : ℕ). or_else x rest) (sym e)
    ∙ ap (λ (b : Bool). cond b rest k) (ne_eqb k 0 z)

pub store-rest : (vs : List Version) (ks : List Known) (xs : List ℕ) (lent : ℕ) → first (first_rows vs xs) 0 ≡ 0
    → store_answer vs ks xs lent ≡ rest_answer (shown vs xs) ks xs (count_of (shown vs xs) xs) lent
unfolding store_answer
store-rest vs ks xs lent e =
    let rest : ℕ = rest_answer (shown vs xs) ks xs (count_of (shown vs xs) xs) lent in
    first-or (first_rows vs xs) rest (omega arith, (omega arith, (omega arith, tt))) ∙ ap (λ (x : ℕ). or_else x rest) e

end-or : (v : Version) (ks : List Known) (xs : List ℕ) (at rest : ℕ)
    → first (last_rows v ks xs at) (first (after_rows v xs (at + 19)) rest) ≡ or_else (first (last_rows v ks xs at) (first (after_rows v xs (at + 19)) 0)) rest
end-or v ks xs at rest =
    first-app (last_rows v ks xs at) (after_rows v xs (at + 19)) rest
    ∙ first-or (end_rows v ks xs at) rest (omega arith, (omega arith, (omega arith, (omega arith, (omega arith, (omega arith, tt))))))
    ∙ ap (λ (x : ℕ). or_else x rest) (sym (first-app (last_rows v ks xs at) (after_rows v xs (at + 19)) 0))

pub rest_end : (v : Version) (ks : List Known) (xs : List ℕ) (n lent k : ℕ) → k ≡ first (last_rows v ks xs (place_of v n)) (first (after_rows v xs (place_of v n + 19)) 0) → (k ≡ 0 → ⊥)
    → rest_answer v ks xs n lent ≡ k
unfolding rest_answer
rest_end v ks xs n lent k e z =
    let rest : ℕ = first (table_rows v.limit (rows_of v xs n) n lent) 0 in
    end-or v ks xs (place_of v n) rest
    ∙ ap (λ (x : ℕ). or_else x rest) (sym e)
    ∙ ap (λ (b : Bool). cond b rest k) (ne_eqb k 0 z)

pub rest-table : (v : Version) (ks : List Known) (xs : List ℕ) (n lent : ℕ) → first (last_rows v ks xs (place_of v n)) (first (after_rows v xs (place_of v n + 19)) 0) ≡ 0
    → rest_answer v ks xs n lent ≡ first (table_rows v.limit (rows_of v xs n) n lent) 0
unfolding rest_answer
rest-table v ks xs n lent e =
    let rest : ℕ = first (table_rows v.limit (rows_of v xs n) n lent) 0 in
    end-or v ks xs (place_of v n) rest ∙ ap (λ (x : ℕ). or_else x rest) e

pub table-11 : (limit : ℕ) (rows : List (List ℕ)) (n lent : ℕ) → sound limit (events_of rows) ≡ false → first (table_rows limit rows n lent) 0 ≡ 11
table-11 limit rows n lent e = first-yes (refusal (not (sound limit (events_of rows))) 11) _ 0 (ap not e)

pub table-40 : (limit : ℕ) (rows : List (List ℕ)) (n lent : ℕ) → sound limit (events_of rows) ≡ true → lent < n → first (table_rows limit rows n lent) 0 ≡ 40
table-40 limit rows n lent e h = first-no (refusal (not (sound limit (events_of rows))) 11) _ 0 (ap not e) ∙ first-yes (refusal (ltb lent n) 40) [] 0 (lt-ltb _ _ h)

pub table-0 : (limit : ℕ) (rows : List (List ℕ)) (n lent : ℕ) → sound limit (events_of rows) ≡ true → n ≤ lent → first (table_rows limit rows n lent) 0 ≡ 0
table-0 limit rows n lent e h = first-no (refusal (not (sound limit (events_of rows))) 11) _ 0 (ap not e) ∙ first-no (refusal (ltb lent n) 40) [] 0 (le-ltb _ _ h) ∙ first-none 0

-- ---- what is told

pub read-refused : (vs : List Version) (ks : List Known) (xs : List ℕ) (rows : List (List ℕ)) (k : ℕ) → store_answer vs ks xs (length rows) ≡ k → (k ≡ 0 → ⊥)
    → (refused k ≡ read_store vs ks xs (length rows)) × (rows ≡ rows_after vs ks xs rows)
unfolding read_store rows_after
read-refused vs ks xs rows k e z =
    let n : ℕ = count_of (shown vs xs) xs in
    let a : ℕ = store_answer vs ks xs (length rows) in
    let q : eqb a 0 ≡ false = ne_eqb a 0 (λ h. z (sym e ∙ h)) in (
      sym (ap (λ (b : Bool). cond b (settings_at xs n (place_of (shown vs xs) n)) (refused a)) q ∙ ap refused e),
      sym (ap (λ (b : Bool). cond b (rows_of (shown vs xs) xs n ++ drop n rows) rows) q),
    )

pub read-given : (vs : List Version) (ks : List Known) (xs : List ℕ) (rows : List (List ℕ)) (v : Version) (n : ℕ) → store_answer vs ks xs (length rows) ≡ 0
    → v ≡ shown vs xs → n ≡ count_of v xs
    → (settings_at xs n (place_of v n) ≡ read_store vs ks xs (length rows)) × (rows_of v xs n ++ drop n rows ≡ rows_after vs ks xs rows)
unfolding read_store rows_after
read-given vs ks xs rows v n e p c =
    let m : ℕ = count_of (shown vs xs) xs in
    let a : ℕ = store_answer vs ks xs (length rows) in
    let q : eqb a 0 ≡ true = eq-eqb a 0 e in
    let d : n ≡ m = c ∙ ap (λ (u : Version). count_of u xs) p in (
      (λ j. settings_at xs (d j) (place_of (p j) (d j))) ∙ sym (ap (λ (b : Bool). cond b (settings_at xs m (place_of (shown vs xs) m)) (refused a)) q),
      (λ j. rows_of (p j) xs (d j) ++ drop (d j) rows) ∙ sym (ap (λ (b : Bool). cond b (rows_of (shown vs xs) xs m ++ drop m rows) rows) q),
    )

-- ---- the identifiers and marks of the rows, one more

identifiers-more : (rs : List (List ℕ)) (r : List ℕ) → identifiers (events_of (rs ++ (r ∷ []))) ≡ identifiers (events_of rs) ++ (get_or r 0 0 ∷ [])
unfolding event_of
identifiers-more [] r = refl
identifiers-more (q ∷ rs) r = ap (λ (l : List ℕ). get_or q 0 0 ∷ l) (identifiers-more rs r)

marked_more : (rs : List (List ℕ)) (r : List ℕ) → all_marked (events_of (rs ++ (r ∷ []))) ≡ all_marked (events_of rs) && marked (event_of r)
unfolding all_marked
marked_more [] r = Bools.and-true (marked (event_of r))
marked_more (q ∷ rs) r =
    ap (λ (b : Bool). marked (event_of q) && b) (marked_more rs r) ∙ sym (and_assoc (marked (event_of q)) (all_marked (events_of rs)) (marked (event_of r)))

pub listed-length : (v : Version) (xs : List ℕ) (n : ℕ) → length (identifiers (events_of (rows_of v xs n))) ≡ n
listed-length v xs n = identifiers-length (events_of (rows_of v xs n)) ∙ Lookup.rows-length (rows_of v xs n) ∙ rows-length v xs n

pub listed_next : (v : Version) (xs ids : List ℕ) (i : ℕ) → i < length ids
    → set (identifiers (events_of (rows_of v xs i)) ++ drop i ids) i (number_at 8 xs (place_of v i + (6 + v.width)))
    ≡ identifiers (events_of (rows_of v xs (i + 1))) ++ drop (i + 1) ids
unfolding rows_of
listed_next v xs ids i h =
    filled (identifiers (events_of (rows_of v xs i))) ids (number_at 8 xs (place_of v i + (6 + v.width))) 0 i (listed-length v xs i) h
    ∙ ap (λ (l : List ℕ). l ++ drop (i + 1) ids) (sym (identifiers-more (rows_of v xs i) (row_from xs (place_of v i + (6 + v.width)))))
    ∙ ap (λ (k : ℕ). identifiers (events_of (rows_of v xs k)) ++ drop (i + 1) ids) (sym (add-one i))

pub marked_next : (v : Version) (xs : List ℕ) (i : ℕ)
    → all_marked (events_of (rows_of v xs i)) && bit (number_at 8 xs (place_of v i + (6 + v.width) + 8)) 16 ≡ all_marked (events_of (rows_of v xs (i + 1)))
unfolding rows_of event_of
marked_next v xs i =
    ap (λ (b : Bool). all_marked (events_of (rows_of v xs i)) && b) (sym (Bools.and-true (bit (number_at 8 xs (place_of v i + (6 + v.width) + 8)) 16)))
    ∙ sym (marked_more (rows_of v xs i) (row_from xs (place_of v i + (6 + v.width))))
    ∙ ap (λ (k : ℕ). all_marked (events_of (rows_of v xs k))) (sym (add-one i))
