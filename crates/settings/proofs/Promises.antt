-- What M-103 promises of the store, in terms of what a caller sees: the bytes, what is told, the lent table, the buffer.
-- Assumes nothing.
use Rattle.std.specs.Prelude.{◌≡◌, Bool, cond, not, List, [], ◌∷◌, ◌++◌, ℕ, ◌+◌, ◌^◌, ◌<◌, ◌≤◌, leb, ltb, length, take, drop}
use Rattle.std.proofs.Math.Path.{refl, sym, ap}
use Rattle.std.proofs.Common.{◌∙◌, append-nil, arith, length-append, length-drop, take_at, drop_at, eq-eqb, ne_eqb, eqb-true, leb-true, le-ltb, ltb-false}
use Rattle.std.proofs.Math.Bool.{true, false}
use Rattle.std.proofs.Math.Dec.{eqb}
use Rattle.std.proofs.lemmas.Bool.{not-false}
use Rattle.meaning.specs.Bytes.{small}
use Rattle.laws.specs.Bytes.{and-true}
use Rattle.laws.specs.Put.{put-start}
use Rattle.meaning.specs.declared.Known.{Known}
use Rattle.meaning.specs.Editions.{allowed, is_in}
use Rattle.meaning.specs.Ring.{length_allowed, stop_at, go_at, stopped}
use Rattle.meaning.specs.Events.{events_of, sound}
use Rattle.settings.specs.declared.Settings.{Settings}
use Rattle.settings.specs.declared.Stored.{Stored}
use Rattle.settings.specs.Versions.{Version, one, two, version_of, place_of}
use Rattle.settings.specs.Reading.{count_of, rows_of, first_rows, last_rows, after_rows, table_rows, rest_answer, shown, store_answer, settings_at, refused, read_store, rows_after}
use Rattle.settings.specs.Writing.{store_bytes, write_rows, write_answer, stored, write_store, buffer_after}
use Rattle.meaning.specs.Refusals.{Refusal, refusal, first}
use Rattle.laws.specs.Rows.{gives, before, Passed, passed-by, stopped-reason, first-passed, first_stops, first-in, first-no, first-none}
use Rattle.settings.specs.Firsts.{first-app}
use Rattle.settings.proofs.Turns.{kept_rows, Words, Proper}
use Rattle.settings.proofs.Back.{Writable, settings, reads-back, other-edition}
use Rattle.settings.proofs.Puts.{store_length, write-refused, write-given}
use Rattle.settings.proofs.Only.{accepted, encoded, rows-length}

pub proper-one : Proper one
proper-one = record { known = omega arith; narrow = omega arith; indexes = omega arith; word = omega arith }

pub proper-two : Proper two
proper-two = record { known = omega arith; narrow = omega arith; indexes = omega arith; word = omega arith }

-- ---- what is told, and what the lent table holds, by the answer

pub answer-told : (vs : List Version) (ks : List Known) (xs : List ℕ) (lent : ℕ) → (read_store vs ks xs lent).answer ≡ store_answer vs ks xs lent
unfolding read_store
answer-told vs ks xs lent = by (eqb (store_answer vs ks xs lent) 0) refl
  where
    n : ℕ
    n = count_of (shown vs xs) xs

    by : (t : Bool) → eqb (store_answer vs ks xs lent) 0 ≡ t
        → (cond (eqb (store_answer vs ks xs lent) 0) (settings_at xs n (place_of (shown vs xs) n)) (refused (store_answer vs ks xs lent))).answer ≡ store_answer vs ks xs lent
    by true e =
        ap (λ (b : Bool). (cond b (settings_at xs n (place_of (shown vs xs) n)) (refused (store_answer vs ks xs lent))).answer) e
        ∙ sym (eqb-true (store_answer vs ks xs lent) 0 e)
    by false e = ap (λ (b : Bool). (cond b (settings_at xs n (place_of (shown vs xs) n)) (refused (store_answer vs ks xs lent))).answer) e

-- "refused, it is unchanged": and nothing is told but the number
pub refused-unchanged : (vs : List Version) (ks : List Known) (xs : List ℕ) (rows : List (List ℕ)) → ((read_store vs ks xs (length rows)).answer ≡ 0 → ⊥)
    → (rows_after vs ks xs rows ≡ rows) × (read_store vs ks xs (length rows) ≡ refused (read_store vs ks xs (length rows)).answer)
unfolding read_store rows_after
refused-unchanged vs ks xs rows h =
    let n : ℕ = count_of (shown vs xs) xs in
    let a : ℕ = store_answer vs ks xs (length rows) in
    let q : eqb a 0 ≡ false = ne_eqb a 0 (λ e. h (answer-told vs ks xs (length rows) ∙ e)) in (
      ap (λ (b : Bool). cond b (rows_of (shown vs xs) xs n ++ drop n rows) rows) q,
      ap (λ (b : Bool). cond b (settings_at xs n (place_of (shown vs xs) n)) (refused a)) q ∙ ap refused (sym (answer-told vs ks xs (length rows))),
    )

-- what an answer of 0 tells and leaves
pub record Given (vs : List Version) (ks : List Known) (xs : List ℕ) (rows : List (List ℕ)) : Type 0 where
  pub read : read_store vs ks xs (length rows) ≡ settings_at xs (count_of (shown vs xs) xs) (place_of (shown vs xs) (count_of (shown vs xs) xs))
  pub after : rows_after vs ks xs rows ≡ rows_of (shown vs xs) xs (count_of (shown vs xs) xs) ++ drop (count_of (shown vs xs) xs) rows

pub given : (vs : List Version) (ks : List Known) (xs : List ℕ) (rows : List (List ℕ)) → (read_store vs ks xs (length rows)).answer ≡ 0 → Given vs ks xs rows
unfolding read_store rows_after
given vs ks xs rows h =
    let n : ℕ = count_of (shown vs xs) xs in
    let a : ℕ = store_answer vs ks xs (length rows) in
    let q : eqb a 0 ≡ true = eq-eqb a 0 (sym (answer-told vs ks xs (length rows)) ∙ h) in
    record {
      read = ap (λ (b : Bool). cond b (settings_at xs n (place_of (shown vs xs) n)) (refused a)) q;
      after = ap (λ (b : Bool). cond b (rows_of (shown vs xs) xs n ++ drop n rows) rows) q;
    }

-- "accepted, rows past those read are": as many rows as are told are the store's, and all others are as they were
pub accepted-rest : (vs : List Version) (ks : List Known) (xs : List ℕ) (rows : List (List ℕ)) → (read_store vs ks xs (length rows)).answer ≡ 0
    → (drop (read_store vs ks xs (length rows)).events (rows_after vs ks xs rows) ≡ drop (read_store vs ks xs (length rows)).events rows)
    × (length (rows_after vs ks xs rows) ≡ length rows)
accepted-rest vs ks xs rows h =
    let v : Version = shown vs xs in
    let n : ℕ = count_of v xs in
    let g = given vs ks xs rows h in
    let c : (read_store vs ks xs (length rows)).events ≡ n = ap (λ (s : Settings). s.events) g.read in
    let l : length (rows_of v xs n) ≡ n = rows-length v xs n in
    let a = accepted vs ks xs (length rows) (sym (answer-told vs ks xs (length rows)) ∙ h) in (
      (λ j. drop (c j) (g.after j)) ∙ drop_at (rows_of v xs n) (drop n rows) n l ∙ ap (λ (k : ℕ). drop k rows) (sym c),
      ap length g.after ∙ length-append (rows_of v xs n) (drop n rows) ∙ omega (arith, length-drop n rows, a.room),
    )

-- ---- every answer is one of the numbers, and is given for its own reason

-- the rows of a whole store, in their order
abbrev pub store_rows : List Version → List Known → List ℕ → ℕ → List Refusal
store_rows vs ks xs lent =
    let v = shown vs xs in
    let n = count_of v xs in
    first_rows vs xs ++ (last_rows v ks xs (place_of v n) ++ (after_rows v xs (place_of v n + 19) ++ table_rows v.limit (rows_of v xs n) n lent))

pub by_rows : (vs : List Version) (ks : List Known) (xs : List ℕ) (lent : ℕ) → store_answer vs ks xs lent ≡ first (store_rows vs ks xs lent) 0
unfolding store_answer rest_answer
by_rows vs ks xs lent =
    let v : Version = shown vs xs in
    let n : ℕ = count_of v xs in
    let t : List Refusal = table_rows v.limit (rows_of v xs n) n lent in
    let a : List Refusal = after_rows v xs (place_of v n + 19) in
    let l : List Refusal = last_rows v ks xs (place_of v n) in
    ap (first (first_rows vs xs)) (ap (first l) (first-app a t 0) ∙ first-app l (a ++ t) 0) ∙ first-app (first_rows vs xs) (l ++ (a ++ t)) 0

pub one_of : (vs : List Version) (ks : List Known) (xs : List ℕ) (lent : ℕ)
    → is_in (read_store vs ks xs lent).answer (0 ∷ 50 ∷ 51 ∷ 52 ∷ 11 ∷ 40 ∷ []) ≡ true
one_of vs ks xs lent =
    ap (λ (k : ℕ). is_in k (0 ∷ 50 ∷ 51 ∷ 52 ∷ 11 ∷ 40 ∷ [])) (answer-told vs ks xs lent ∙ by_rows vs ks xs lent)
    ∙ first-in (0 ∷ 50 ∷ 51 ∷ 52 ∷ 11 ∷ 40 ∷ []) (store_rows vs ks xs lent) 0 refl refl

-- a row with the number holds, and none before the first row that has it
pub reason : (rs : List Refusal) (k : ℕ) → first rs 0 ≡ k → (k ≡ 0 → ⊥) → (gives k rs ≡ true) × Passed (before k rs)
reason rs k e z =
    stopped-reason rs (go_at 0 0) refl k
    (ap (λ (l : List Refusal). stopped l (go_at 0 0)) (sym (append-nil rs)) ∙ first_stops rs [] (go_at 0 0) (λ h. z (sym e ∙ h)) ∙ ap stop_at e)

pub own-reason : (vs : List Version) (ks : List Known) (xs : List ℕ) (lent k : ℕ) → (read_store vs ks xs lent).answer ≡ k → (k ≡ 0 → ⊥)
    → (gives k (store_rows vs ks xs lent) ≡ true) × Passed (before k (store_rows vs ks xs lent))
own-reason vs ks xs lent k e z = reason (store_rows vs ks xs lent) k (sym (by_rows vs ks xs lent) ∙ sym (answer-told vs ks xs lent) ∙ e) z

-- ---- the writer

room_for : (v : Version) (ks : List Known) (rows : List (List ℕ)) (ring edition budget room : ℕ)
    → write_answer v ks rows ring edition budget room ≡ 0 → length (store_bytes v rows ring edition budget) ≤ room
unfolding write_answer
room_for v ks rows ring edition budget room h =
    let n : ℕ = length (store_bytes v rows ring edition budget) in
    let rs : List Refusal = write_rows v ks rows ring edition n room in
    ltb-false room n (passed-by rs (first-passed rs refl h) 40)

module _ (v : Version) (ks : List Known) (rows : List (List ℕ)) (ring edition budget : ℕ) where
  pub write-told : (room : ℕ) → (write_store v ks rows ring edition budget room).answer ≡ write_answer v ks rows ring edition budget room
  unfolding write_store
  write-told room = by (eqb (write_answer v ks rows ring edition budget room) 0) refl
    where
      by : (t : Bool) → eqb (write_answer v ks rows ring edition budget room) 0 ≡ t
          → (cond t (stored 0 (length (store_bytes v rows ring edition budget))) (stored (write_answer v ks rows ring edition budget room) 0)).answer
          ≡ write_answer v ks rows ring edition budget room
      by true e = sym (eqb-true (write_answer v ks rows ring edition budget room) 0 e)
      by false e = refl

  pub write-one-of : (room : ℕ) → is_in (write_store v ks rows ring edition budget room).answer (0 ∷ 11 ∷ 1 ∷ 2 ∷ 40 ∷ []) ≡ true
  unfolding write_answer
  write-one-of room =
      ap (λ (k : ℕ). is_in k (0 ∷ 11 ∷ 1 ∷ 2 ∷ 40 ∷ [])) (write-told room)
      ∙ first-in (0 ∷ 11 ∷ 1 ∷ 2 ∷ 40 ∷ []) (write_rows v ks rows ring edition (length (store_bytes v rows ring edition budget)) room) 0 refl refl

  pub write-reason : (room k : ℕ) → (write_store v ks rows ring edition budget room).answer ≡ k → (k ≡ 0 → ⊥)
      → (gives k (write_rows v ks rows ring edition (length (store_bytes v rows ring edition budget)) room) ≡ true)
      × Passed (before k (write_rows v ks rows ring edition (length (store_bytes v rows ring edition budget)) room))
  unfolding write_answer
  write-reason room k e z =
      reason (write_rows v ks rows ring edition (length (store_bytes v rows ring edition budget)) room) k (sym (write-told room) ∙ e) z

  -- "the buffer unchanged": and no byte is told
  pub buffer-unchanged : (buffer : List ℕ) → ((write_store v ks rows ring edition budget (length buffer)).answer ≡ 0 → ⊥)
      → (buffer_after v ks rows ring edition budget buffer ≡ buffer) × ((write_store v ks rows ring edition budget (length buffer)).bytes ≡ 0)
  buffer-unchanged buffer h =
      let p = write-refused v ks rows ring edition budget buffer (write_answer v ks rows ring edition budget (length buffer)) refl
      (λ e. h (write-told (length buffer) ∙ e)) in
      (sym p.1, ap (λ (t : Stored). t.bytes) (sym p.0))

  -- written: the buffer begins with the store's bytes, as many as are told, and its other bytes are as they were
  pub buffer-written : (buffer : List ℕ) → (write_store v ks rows ring edition budget (length buffer)).answer ≡ 0
      → (take (write_store v ks rows ring edition budget (length buffer)).bytes (buffer_after v ks rows ring edition budget buffer)
      ≡ store_bytes v rows ring edition budget)
      × (drop (write_store v ks rows ring edition budget (length buffer)).bytes (buffer_after v ks rows ring edition budget buffer)
      ≡ drop (write_store v ks rows ring edition budget (length buffer)).bytes buffer)
      × ((write_store v ks rows ring edition budget (length buffer)).bytes ≡ length (store_bytes v rows ring edition budget))
  buffer-written buffer h =
      let s : List ℕ = store_bytes v rows ring edition budget in
      let a : write_answer v ks rows ring edition budget (length buffer) ≡ 0 = sym (write-told (length buffer)) ∙ h in
      let g = write-given v ks rows ring edition budget buffer a in
      let b : (write_store v ks rows ring edition budget (length buffer)).bytes ≡ length s =
      ap (λ (t : Stored). t.bytes) (sym g.0) ∙ sym (store_length v rows ring edition budget) in
      let f : buffer_after v ks rows ring edition budget buffer ≡ s ++ drop (length s) buffer =
      sym g.1 ∙ put-start buffer s (room_for v ks rows ring edition budget (length buffer) a) in (
        (λ j. take (b j) (f j)) ∙ take_at s (drop (length s) buffer) (length s) refl,
        (λ j. drop (b j) (f j)) ∙ drop_at s (drop (length s) buffer) (length s) refl ∙ ap (λ (n : ℕ). drop n buffer) (sym b),
        b,
      )

-- ---- both ways

-- the writer takes what a table, a ring length and an edition allow, and a buffer holds
pub writer-takes : (v : Version) (ks : List Known) (rows : List (List ℕ)) (ring edition budget room : ℕ) → length ks < 256 → Words rows → budget < 256 ^ 4
    → write_answer v ks rows ring edition budget room ≡ 0 → Writable v ks rows ring edition budget × (length (store_bytes v rows ring edition budget) ≤ room)
unfolding write_answer
writer-takes v ks rows ring edition budget room few w b h =
    let rs : List Refusal = write_rows v ks rows ring edition (length (store_bytes v rows ring edition budget)) room in
    let row = passed-by rs (first-passed rs refl h) in (
      record {
        words = w;
        sound = not-false (sound v.limit (events_of rows)) (row 11);
        ring-allowed = not-false (length_allowed ring) (row 1);
        edition-allowed = not-false (allowed ks edition) (row 2);
        edition-byte = omega (arith, few, leb-true edition (length ks) (and-true (leb 1 edition) (leb edition (length ks)) (not-false (allowed ks edition) (row 2))).1);
        budget-word = b;
      },
      ltb-false _ _ (row 40),
    )

-- "Write the table, ring length, edition and budget into lent bytes, and read them back": whatever the writer takes, in a version that a
-- build reads
pub written-reads : (vs : List Version) (ks : List Known) (v : Version) (rows : List (List ℕ)) (ring edition budget room : ℕ) (lent : List (List ℕ))
    → Proper v → version_of vs v.number ≡ v → length ks < 256 → Words rows → budget < 256 ^ 4
    → write_answer v ks rows ring edition budget room ≡ 0 → length rows ≤ length lent
    → (read_store vs ks (store_bytes v rows ring edition budget) (length lent) ≡ settings (length rows) ring edition budget)
    × (rows_after vs ks (store_bytes v rows ring edition budget) lent ≡ kept_rows rows ++ drop (length rows) lent)
written-reads vs ks v rows ring edition budget room lent ok h few w b a m =
    reads-back vs ks v rows ring edition budget lent ok h (writer-takes v ks rows ring edition budget room few w b a).0 m

-- "A store that reads is the only encoding of its settings": it is what the writer writes of what was read, in the version that it shows
pub only-encoding : (vs : List Version) (ks : List Known) (xs : List ℕ) (rows : List (List ℕ)) → small xs ≡ true → (read_store vs ks xs (length rows)).answer ≡ 0
    → xs
    ≡ store_bytes (shown vs xs) (take (read_store vs ks xs (length rows)).events (rows_after vs ks xs rows))
    (read_store vs ks xs (length rows)).ring (read_store vs ks xs (length rows)).edition (read_store vs ks xs (length rows)).budget
only-encoding vs ks xs rows s h =
    let v : Version = shown vs xs in
    let n : ℕ = count_of v xs in
    let g = given vs ks xs rows h in
    let a = accepted vs ks xs (length rows) (sym (answer-told vs ks xs (length rows)) ∙ h) in
    let r : take (read_store vs ks xs (length rows)).events (rows_after vs ks xs rows) ≡ rows_of v xs n =
    (λ j. take (g.read j).events (g.after j)) ∙ take_at (rows_of v xs n) (drop n rows) n (rows-length v xs n) in
    encoded v ks xs (length rows) s a ∙ (λ j. store_bytes v (sym r j) (sym g.read j).ring (sym g.read j).edition (sym g.read j).budget)

-- so two stores of one version that read alike are the same bytes
pub same-settings : (vs : List Version) (ks : List Known) (xs ys : List ℕ) (rows : List (List ℕ)) → small xs ≡ true → small ys ≡ true
    → (read_store vs ks xs (length rows)).answer ≡ 0 → read_store vs ks xs (length rows) ≡ read_store vs ks ys (length rows)
    → rows_after vs ks xs rows ≡ rows_after vs ks ys rows → shown vs xs ≡ shown vs ys → xs ≡ ys
same-settings vs ks xs ys rows s t h e r v =
    only-encoding vs ks xs rows s h
    ∙ (λ j. store_bytes (v j) (take (e j).events (r j)) (e j).ring (e j).edition (e j).budget)
    ∙ sym (only-encoding vs ks ys rows t (sym (ap (λ (q : Settings). q.answer) e) ∙ h))

-- and what was read can be written: the writer answers 0 where there is room
pub writes_again : (vs : List Version) (ks : List Known) (xs : List ℕ) (rows : List (List ℕ)) (room : ℕ) → small xs ≡ true → (read_store vs ks xs (length rows)).answer ≡ 0
    → length xs ≤ room
    → write_answer (shown vs xs) ks (take (read_store vs ks xs (length rows)).events (rows_after vs ks xs rows))
    (read_store vs ks xs (length rows)).ring (read_store vs ks xs (length rows)).edition (read_store vs ks xs (length rows)).budget room
    ≡ 0
unfolding write_answer
writes_again vs ks xs rows room s h l =
    let v : Version = shown vs xs in
    let n : ℕ = count_of v xs in
    let g = given vs ks xs rows h in
    let a = accepted vs ks xs (length rows) (sym (answer-told vs ks xs (length rows)) ∙ h) in
    let st : Settings = read_store vs ks xs (length rows) in
    let r : take st.events (rows_after vs ks xs rows) ≡ rows_of v xs n =
    (λ j. take (g.read j).events (g.after j)) ∙ take_at (rows_of v xs n) (drop n rows) n (rows-length v xs n) in
    first-no (refusal (not (sound v.limit (events_of (take st.events (rows_after vs ks xs rows))))) 11) _ _
    (ap (λ (q : List (List ℕ)). not (sound v.limit (events_of q))) r ∙ ap not a.sound)
    ∙ first-no (refusal (not (length_allowed st.ring)) 1) _ _ (ap (λ (q : Settings). not (length_allowed q.ring)) g.read ∙ ap not a.ring-allowed)
    ∙ first-no (refusal (not (allowed ks st.edition)) 2) _ _ (ap (λ (q : Settings). not (allowed ks q.edition)) g.read ∙ ap not a.edition-allowed)
    ∙ first-no (refusal (ltb room (length (store_bytes v (take st.events (rows_after vs ks xs rows)) st.ring st.edition st.budget))) 40) _ _
    (ap (λ (q : List ℕ). ltb room (length q)) (sym (only-encoding vs ks xs rows s h)) ∙ le-ltb _ _ l)
    ∙ first-none 0

-- an edition that a build does not know is 52, whoever wrote the store: "Settings of M-103 may hold edition 4, which older builds refuse with 52"
pub unknown-edition : (vs : List Version) (ks others : List Known) (v : Version) (rows : List (List ℕ)) (ring edition budget lent : ℕ)
    → Proper v → version_of vs v.number ≡ v → Writable v others rows ring edition budget → allowed ks edition ≡ false
    → (read_store vs ks (store_bytes v rows ring edition budget) lent).answer ≡ 52
unknown-edition vs ks others v rows ring edition budget lent ok h t out =
    answer-told vs ks (store_bytes v rows ring edition budget) lent ∙ other-edition vs ks others v rows ring edition budget lent ok h t out
