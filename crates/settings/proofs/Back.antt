-- A store that is written reads back. Assumes nothing.
use Rattle.std.specs.Prelude.{◌≡◌, refl, Bool, true, false, cond, not, ◌&&◌, List, [], ◌∷◌, ◌++◌, map, ℕ, zero, suc, ◌+◌, ◌-◌, ◌^◌, ◌<◌, ◌≤◌, eqb, leb, ltb, length, get_or, drop}
use Rattle.std.proofs.Common.{sym, ap, ap₂, ◌∙◌, append-nil, add-zero, arith, length-append, eq-eqb, ne_eqb, le-ltb}
use Rattle.meaning.specs.Bytes.{number_at, spell, bit}
use Rattle.meaning.specs.Refusals.{refusal, first}
use Rattle.meaning.specs.declared.Known.{Known}
use Rattle.meaning.specs.Editions.{allowed}
use Rattle.meaning.specs.Ring.{length_allowed}
use Rattle.laws.specs.Bytes.{and-true, true-and, length-spell}
use Rattle.laws.specs.Lookup.{rows-length}
use Rattle.laws.specs.Rings.{length-bounds}
use Rattle.entries.specs.Entries.{Entry}
use Rattle.entries.specs.Entries.{entry, entry_at, entry_bytes}
use Rattle.entries.specs.Numbers.{ends_by}
use Rattle.entries.specs.Laws.{entry_length, written}
use Rattle.meaning.specs.declared.Attributes.{Attributes}
use Rattle.meaning.specs.Events.{attributes_of, identifiers, event_of, events_of, distinct, marked, all_marked, sound}
use Rattle.event_laws.specs.Sound.{sound-limit}
use Rattle.settings.specs.declared.Settings.{Settings}
use Rattle.settings.specs.Versions.{Version, version_of, is_known, place_of}
use Rattle.settings.specs.Reading.{shows_version, is_event, is_event_of, fits, in_turn, turns_from, count_of, rows_of, rest_answer, shown, store_answer, settings_at, refused, read_store, rows_after}
use Rattle.settings.specs.Writing.{rows_bytes, last_bytes, store_bytes}
use Rattle.laws.specs.Rows.{first-no, first-yes, first-none}
use Rattle.settings.specs.Firsts.{and_no}
use Rattle.settings.proofs.Turns.{kept, kept_rows, Words, Proper, moved, next-number, turns}

-- ---- what is kept of a sound table is sound

pub kept-identifiers : (rows : List (List ℕ)) → identifiers (events_of (kept_rows rows)) ≡ identifiers (events_of rows)
unfolding event_of
kept-identifiers [] = refl
kept-identifiers (r ∷ rs) = ap (λ (l : List ℕ). get_or r 0 0 ∷ l) (kept-identifiers rs)

pub kept-length : (rows : List (List ℕ)) → length (events_of (kept_rows rows)) ≡ length (events_of rows)
kept-length [] = refl
kept-length (r ∷ rs) = ap suc (kept-length rs)

pub kept-marked : (rows : List (List ℕ)) → all_marked (events_of rows) ≡ true → all_marked (events_of (kept_rows rows)) ≡ true
unfolding all_marked event_of
kept-marked [] h = refl
kept-marked (r ∷ rs) h =
    let p = and-true (marked (event_of r)) (all_marked (events_of rs)) h in
    let q = and-true (bit (get_or r 1 0) 16) (not (eqb (get_or r 6 0) 0)) p.0 in
    true-and (marked (event_of (kept r))) (all_marked (events_of (kept_rows rs))) (true-and (bit (get_or r 1 0) 16) true q.0 refl) (kept-marked rs p.1)

-- sample_id_all is set where its word is not 0, and 1 is such a word: the attributes are the same
pub kept-attributes : (rows : List (List ℕ)) → all_marked (events_of rows) ≡ true → map attributes_of (events_of (kept_rows rows)) ≡ map attributes_of (events_of rows)
unfolding all_marked event_of attributes_of
kept-attributes [] h = refl
kept-attributes (r ∷ rs) h =
    let p = and-true (marked (event_of r)) (all_marked (events_of rs)) h in
    let q = and-true (bit (get_or r 1 0) 16) (not (eqb (get_or r 6 0) 0)) p.0 in
    ap₂ (λ (b : Bool) (l : List Attributes).
    record { sample = get_or r 1 0; format = get_or r 2 0; all = b; user = get_or r 3 0; interrupt = get_or r 4 0; branch = get_or r 5 0 } ∷ l)
    (sym q.1) (kept-attributes rs p.1)

pub kept-sound : (limit : ℕ) (rows : List (List ℕ)) → sound limit (events_of rows) ≡ true → sound limit (events_of (kept_rows rows)) ≡ true
unfolding sound
kept-sound limit rows h =
    let es = events_of rows in
    let ks = events_of (kept_rows rows) in
    let p = and-true (leb 1 (length es) && leb (length es) limit) (all_marked es && distinct (identifiers es)) h in
    let q = and-true (all_marked es) (distinct (identifiers es)) p.1 in
    true-and (leb 1 (length ks) && leb (length ks) limit) (all_marked ks && distinct (identifiers ks))
    (ap (λ (n : ℕ). leb 1 n && leb n limit) (kept-length rows) ∙ p.0)
    (true-and (all_marked ks) (distinct (identifiers ks)) (kept-marked rows q.0) (ap distinct (kept-identifiers rows) ∙ q.1))

pub rows-limit : (limit : ℕ) (rows : List (List ℕ)) → sound limit (events_of rows) ≡ true → length rows ≤ limit
rows-limit limit rows h = omega (arith, sound-limit limit (events_of rows) h, rows-length rows)

-- ---- the parts of a store that is written

pub place-most : (v : Version) (n : ℕ) → n ≤ place_of v n
unfolding place_of
place-most v zero = omega arith
place-most v (suc n) = omega (arith, place-most v n)

pub turns-end : (v : Version) (xs : List ℕ) (n k : ℕ) → in_turn v xs n ≡ false → turns_from v xs k n ≡ n
unfolding turns_from
turns-end v xs n zero e = refl
turns-end v xs n (suc k) e = ap (λ (q : Bool). cond q (turns_from v xs k (suc n)) n) e

pub record Laid (v : Version) (rows : List (List ℕ)) (ring edition budget : ℕ) (xs : List ℕ) : Type 0 where
  pub head : entry_at xs 0 ≡ entry 1 6 2
  pub number : number_at 2 xs 6 ≡ v.number
  pub count : count_of v xs ≡ length rows
  pub held : rows_of v xs (length rows) ≡ kept_rows rows
  pub tail : entry_at xs (place_of v (length rows)) ≡ entry 3 (place_of v (length rows) + 6) 13
  pub ring-at : number_at 8 xs (place_of v (length rows) + 6) ≡ ring
  pub edition-at : number_at 1 xs (place_of v (length rows) + 14) ≡ edition
  pub budget-at : number_at 4 xs (place_of v (length rows) + 15) ≡ budget
  pub ends : place_of v (length rows) + 19 ≡ length xs

pub record First (v : Version) (xs rest : List ℕ) : Type 0 where
  pub head : entry_at xs 0 ≡ entry 1 6 2
  pub number : number_at 2 xs 6 ≡ v.number
  pub next : drop 8 xs ≡ rest

-- the first entry, whatever follows
pub first_entry : (v : Version) (xs rest : List ℕ) → v.number < 256 ^ 2 → xs ≡ entry_bytes 1 (spell 2 v.number) ++ rest → First v xs rest
first_entry v xs rest b e =
    let l : length (spell 2 v.number) ≡ 2 = length-spell 2 v.number in
    let w = written xs rest (spell 2 v.number) 0 1 e (omega arith) (omega arith) in
    let f : drop 6 xs ≡ (spell 2 v.number ++ []) ++ rest = w.held ∙ ap (λ (q : List ℕ). q ++ rest) (sym (append-nil (spell 2 v.number))) in
    let m = next-number 2 v.number [] xs rest 6 f b in
    record { head = w.told ∙ (λ j. entry 1 6 (l j)); number = m.0; next = m.1 }

pub laid : (v : Version) (rows : List (List ℕ)) (ring edition budget : ℕ) → Proper v → length rows ≤ v.limit → Words rows
    → ring < 256 ^ 8 → edition < 256 ^ 1 → budget < 256 ^ 4 → Laid v rows ring edition budget (store_bytes v rows ring edition budget)
unfolding store_bytes place_of in_turn rows_of
laid v rows ring edition budget ok most words rb eb bb =
    let xs : List ℕ = store_bytes v rows ring edition budget in
    let n : ℕ = length rows in
    let p : ℕ = place_of v n in
    let last : List ℕ = spell 8 ring ++ (spell 1 edition ++ spell 4 budget) in
    let h = first_entry v xs (rows_bytes v 0 rows ++ last_bytes ring edition budget) ok.word refl in
    let t = turns v xs (last_bytes ring edition budget) 0 rows ok.narrow (omega (arith, ok.indexes)) words h.next in
    let z : n + 0 ≡ n = add-zero n in
    let d : drop p xs ≡ last_bytes ring edition budget ++ [] =
    ap (λ (m : ℕ). drop (place_of v m) xs) (sym z) ∙ t.left ∙ sym (append-nil (last_bytes ring edition budget)) in
    let l : length last ≡ 13 =
    omega (
      arith,
      length-append (spell 8 ring) (spell 1 edition ++ spell 4 budget),
      length-append (spell 1 edition) (spell 4 budget),
      length-spell 8 ring,
      length-spell 1 edition,
      length-spell 4 budget,
    ) in
    let w = written xs [] last p 3 d (omega arith) (omega arith) in
    let k : entry_at xs p ≡ entry 3 (p + 6) 13 = w.told ∙ (λ j. entry 3 (p + 6) (l j)) in
    let r8 = next-number 8 ring (spell 1 edition ++ spell 4 budget) xs [] (p + 6) w.held rb in
    let p14 : p + 6 + 8 ≡ p + 14 = omega arith in
    let p15 : p + 14 + 1 ≡ p + 15 = omega arith in
    let r1 = next-number 1 edition (spell 4 budget) xs [] (p + 14) (moved xs _ _ _ p14 r8.1) eb in
    let r4 = next-number 4 budget [] xs [] (p + 15)
    (moved xs _ _ _ p15 r1.1 ∙ ap (λ (q : List ℕ). q ++ []) (sym (append-nil (spell 4 budget)))) bb in
    let e : p + 19 ≡ length xs = omega (arith, ends_by xs (last_bytes ring edition budget) [] p d (omega (arith, entry_length 3 last)), entry_length 3 last) in
    let out : in_turn v xs n ≡ false = ap (λ (q : Entry). is_event v q && eqb (number_at v.width xs (p + 6)) n) k in
    let m : n + (length xs - n) ≡ length xs = omega (arith, place-most v n) in
    record {
      head = h.head;
      number = h.number;
      count =
          ap (λ (q : ℕ). turns_from v xs q 0) (sym m)
          ∙ t.counted (length xs - n)
          ∙ ap (turns_from v xs (length xs - n)) z
          ∙ turns-end v xs n (length xs - n) out;
      held = ap (rows_of v xs) (sym z) ∙ t.held;
      tail = k;
      ring-at = r8.0;
      edition-at = r1.0;
      budget-at = r4.0;
      ends = e;
    }

-- ---- the answers

-- what a caller hands to the writer, and the writer takes
pub record Writable (v : Version) (ks : List Known) (rows : List (List ℕ)) (ring edition budget : ℕ) : Type 0 where
  pub words : Words rows
  pub sound : sound v.limit (events_of rows) ≡ true
  pub ring-allowed : length_allowed ring ≡ true
  pub edition-allowed : allowed ks edition ≡ true
  pub edition-byte : edition < 256 ^ 1
  pub budget-word : budget < 256 ^ 4

pub laid_by : (v : Version) (ks : List Known) (rows : List (List ℕ)) (ring edition budget : ℕ) → Proper v → Writable v ks rows ring edition budget
    → Laid v rows ring edition budget (store_bytes v rows ring edition budget)
laid_by v ks rows ring edition budget ok t =
    laid v rows ring edition budget ok (rows-limit v.limit rows t.sound) t.words (omega (arith, (length-bounds ring t.ring-allowed).1)) t.edition-byte
    t.budget-word

pub shown-is : (vs : List Version) (v : Version) (xs : List ℕ) → number_at 2 xs 6 ≡ v.number → version_of vs v.number ≡ v → shown vs xs ≡ v
shown-is vs v xs e h = ap (version_of vs) e ∙ h

-- past the first entry
pub past_first : (vs : List Version) (ks : List Known) (v : Version) (xs : List ℕ) (lent : ℕ) → 0 < v.width → entry_at xs 0 ≡ entry 1 6 2 → shown vs xs ≡ v
    → store_answer vs ks xs lent ≡ rest_answer v ks xs (count_of v xs) lent
unfolding store_answer fits
past_first vs ks v xs lent w h s =
    let k : is_known (shown vs xs) ≡ true = ap is_known s ∙ ap not (ne_eqb v.width 0 (λ e. omega arith)) in
    first-no (refusal (shows_version (entry_at xs 0) && not (is_known (shown vs xs))) 50) _ _ (and_no (shows_version (entry_at xs 0)) (not (is_known (shown vs xs))) (ap not k))
    ∙ first-no (refusal (not (fits vs (entry_at xs 0))) 51) _ _ (ap (λ (e : Entry). not (fits vs e)) h)
    ∙ first-no (refusal (not (eqb (entry_at xs 0).kind 1)) 52) _ _ (ap (λ (e : Entry). not (eqb e.kind 1)) h)
    ∙ first-none (rest_answer (shown vs xs) ks xs (count_of (shown vs xs) xs) lent)
    ∙ ap (λ (u : Version). rest_answer u ks xs (count_of u xs) lent) s

-- past the last
pub past-last : (v : Version) (ks : List Known) (rows : List (List ℕ)) (ring edition budget : ℕ) (xs : List ℕ) (lent : ℕ)
    → Writable v ks rows ring edition budget → Laid v rows ring edition budget xs
    → rest_answer v ks xs (length rows) lent ≡ first (refusal (ltb lent (length rows)) 40 ∷ []) 0
unfolding rest_answer fits is_event_of
past-last v ks rows ring edition budget xs lent t l =
    let n : ℕ = length rows in
    let p : ℕ = place_of v n in
    let z : eqb (p + 19) (length xs) ≡ true = eq-eqb _ _ l.ends in
    first-no (refusal (not (fits (v ∷ []) (entry_at xs p))) 51) _ _ (ap (λ (e : Entry). not (fits (v ∷ []) e)) l.tail)
    ∙ first-no (refusal (not (eqb (entry_at xs p).kind 3)) 52) _ _ (ap (λ (e : Entry). not (eqb e.kind 3)) l.tail)
    ∙ first-no (refusal (not (length_allowed (number_at 8 xs (p + 6)))) 52) _ _ (ap (λ (x : ℕ). not (length_allowed x)) l.ring-at ∙ ap not t.ring-allowed)
    ∙ first-no (refusal (not (allowed ks (number_at 1 xs (p + 14)))) 52) _ _
    (ap (λ (x : ℕ). not (allowed ks x)) l.edition-at ∙ ap not t.edition-allowed)
    ∙ first-none _
    ∙ first-no (refusal (not (eqb (p + 19) (length xs)) && not (fits (v ∷ []) (entry_at xs (p + 19)))) 51) _ _
    (ap (λ (b : Bool). not b && not (fits (v ∷ []) (entry_at xs (p + 19)))) z)
    ∙ first-no (refusal (not (eqb (p + 19) (length xs))) 52) _ _ (ap not z)
    ∙ first-none _
    ∙ first-no (refusal (not (sound v.limit (events_of (rows_of v xs n)))) 11) _ _ (ap (λ (r : List (List ℕ)). not (sound v.limit (events_of r))) l.held ∙ ap not (kept-sound v.limit rows t.sound))

-- the same up to the edition, which is not one of this build's
pub other-edition : (vs : List Version) (ks others : List Known) (v : Version) (rows : List (List ℕ)) (ring edition budget lent : ℕ) → Proper v
    → version_of vs v.number ≡ v → Writable v others rows ring edition budget → allowed ks edition ≡ false
    → store_answer vs ks (store_bytes v rows ring edition budget) lent ≡ 52
unfolding rest_answer fits is_event_of
other-edition vs ks others v rows ring edition budget lent ok h t out =
    let xs : List ℕ = store_bytes v rows ring edition budget in
    let l = laid_by v others rows ring edition budget ok t in
    let p : ℕ = place_of v (length rows) in
    past_first vs ks v xs lent ok.known l.head (shown-is vs v xs l.number h)
    ∙ ap (λ (n : ℕ). rest_answer v ks xs n lent) l.count
    ∙ first-no (refusal (not (fits (v ∷ []) (entry_at xs p))) 51) _ _ (ap (λ (e : Entry). not (fits (v ∷ []) e)) l.tail)
    ∙ first-no (refusal (not (eqb (entry_at xs p).kind 3)) 52) _ _ (ap (λ (e : Entry). not (eqb e.kind 3)) l.tail)
    ∙ first-no (refusal (not (length_allowed (number_at 8 xs (p + 6)))) 52) _ _ (ap (λ (x : ℕ). not (length_allowed x)) l.ring-at ∙ ap not t.ring-allowed)
    ∙ first-yes (refusal (not (allowed ks (number_at 1 xs (p + 14)))) 52) _ _ (ap (λ (x : ℕ). not (allowed ks x)) l.edition-at ∙ ap not out)

-- the answer is 0, or 40 where the lent table is too short
pub back-answer : (vs : List Version) (ks : List Known) (v : Version) (rows : List (List ℕ)) (ring edition budget lent : ℕ) → Proper v → version_of vs v.number ≡ v
    → Writable v ks rows ring edition budget
    → store_answer vs ks (store_bytes v rows ring edition budget) lent ≡ first (refusal (ltb lent (length rows)) 40 ∷ []) 0
back-answer vs ks v rows ring edition budget lent ok h t =
    let xs : List ℕ = store_bytes v rows ring edition budget in
    let l = laid_by v ks rows ring edition budget ok t in
    past_first vs ks v xs lent ok.known l.head (shown-is vs v xs l.number h)
    ∙ ap (λ (n : ℕ). rest_answer v ks xs n lent) l.count
    ∙ past-last v ks rows ring edition budget xs lent t l

abbrev pub settings : ℕ → ℕ → ℕ → ℕ → Settings
settings events ring edition budget = record { answer = 0; events = events; ring = ring; edition = edition; budget = budget }

-- "Write the table, ring length, edition and budget into lent bytes, and read them back"
pub reads-back : (vs : List Version) (ks : List Known) (v : Version) (rows : List (List ℕ)) (ring edition budget : ℕ) (lent : List (List ℕ))
    → Proper v → version_of vs v.number ≡ v → Writable v ks rows ring edition budget → length rows ≤ length lent
    → (read_store vs ks (store_bytes v rows ring edition budget) (length lent) ≡ settings (length rows) ring edition budget)
    × (rows_after vs ks (store_bytes v rows ring edition budget) lent ≡ kept_rows rows ++ drop (length rows) lent)
unfolding read_store rows_after
reads-back vs ks v rows ring edition budget lent ok h t m =
    let xs : List ℕ = store_bytes v rows ring edition budget in
    let l = laid_by v ks rows ring edition budget ok t in
    let s : shown vs xs ≡ v = shown-is vs v xs l.number h in
    let a : store_answer vs ks xs (length lent) ≡ 0 =
    back-answer vs ks v rows ring edition budget (length lent) ok h t
    ∙ first-no (refusal (ltb (length lent) (length rows)) 40) [] 0 (le-ltb _ _ m)
    ∙ first-none 0 in
    let q : eqb (store_answer vs ks xs (length lent)) 0 ≡ true = eq-eqb _ _ a in
    let c : count_of (shown vs xs) xs ≡ length rows = ap (λ (u : Version). count_of u xs) s ∙ l.count in
    let p : place_of (shown vs xs) (count_of (shown vs xs) xs) ≡ place_of v (length rows) = (λ j. place_of (s j) (c j)) in (
      ap (λ (b : Bool). cond b (settings_at xs (count_of (shown vs xs) xs) (place_of (shown vs xs) (count_of (shown vs xs) xs))) (refused (store_answer vs ks xs (length lent)))) q
          ∙ (λ j. settings_at xs (c j) (p j))
          ∙ (λ j. settings (length rows) (l.ring-at j) (l.edition-at j) (l.budget-at j)),
      ap (λ (b : Bool). cond b (rows_of (shown vs xs) xs (count_of (shown vs xs) xs) ++ drop (count_of (shown vs xs) xs) lent) lent) q
          ∙ (λ j. rows_of (s j) xs (c j) ++ drop (c j) lent)
          ∙ ap (λ (r : List (List ℕ)). r ++ drop (length rows) lent) l.held,
    )

-- a build that does not read a version answers 50 to every store of it
pub old-build : (vs : List Version) (ks : List Known) (v : Version) (rows : List (List ℕ)) (ring edition budget lent : ℕ) → v.number < 256 ^ 2
    → is_known (version_of vs v.number) ≡ false → store_answer vs ks (store_bytes v rows ring edition budget) lent ≡ 50
unfolding store_answer store_bytes
old-build vs ks v rows ring edition budget lent b h =
    let xs : List ℕ = store_bytes v rows ring edition budget in
    let f = first_entry v xs (rows_bytes v 0 rows ++ last_bytes ring edition budget) b refl in
    let k : is_known (shown vs xs) ≡ false = ap (λ (n : ℕ). is_known (version_of vs n)) f.number ∙ h in
    first-yes (refusal (shows_version (entry_at xs 0) && not (is_known (shown vs xs))) 50) _ _
    (true-and (shows_version (entry_at xs 0)) (not (is_known (shown vs xs))) (ap shows_version f.head) (ap not k))
