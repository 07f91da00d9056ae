-- M-103, "A store of settings", and its version 2 (M-112), for what C calls: `read_store` and `rows_after`, `write_store` and `buffer_after` are the right sides of the contracts of
-- `ollskuvan_read_store` and `ollskuvan_write_store`, with the versions and the editions of this build. Rows are those of the lent table, seven words an event (`lent_rows`). Assumes nothing.
use Rattle.std.specs.Prelude.{◌≡◌, true, false, ℕ, ◌+◌, ◌^◌, ◌<◌, ◌≤◌, length, take, drop}
use Rattle.std.proofs.Math.Path.{refl, ap, subst}
use Rattle.std.proofs.Common.{sym, ◌∙◌, arith}
use mathlib.Core.List.{List, [], ◌∷◌, ◌++◌, map}
use Rattle.meaning.specs.declared.Known.{Known}
use Rattle.meaning.specs.Bytes.{small, number_at}
use Rattle.meaning.specs.Editions.{editions, allowed, is_in}
use Rattle.meaning.specs.Events.{attributes_of, identifiers, events_of, all_marked}
use Rattle.laws.specs.Rows.{gives, before, Passed}
use Rattle.laws.specs.Lookup.{rows-length as table-length}
use Rattle.event_laws.specs.Sound.{sound-limit}
use Rattle.settings.specs.declared.Settings.{Settings}
use Rattle.settings.specs.Versions.{Version, one, versions, version_of, is_known}
use Rattle.settings.specs.Reading.{shown, count_of, rows_of, refused, read_store, rows_after}
use Rattle.settings.specs.Writing.{writes, store_bytes, write_rows, write_store, buffer_after}
use Rattle.settings.proofs.Turns.{kept_rows, Words}
use Rattle.settings.proofs.Only.{rows-length, accepted}
use Rattle.settings.proofs.Back.{settings, old-build, kept-identifiers, kept-attributes}
use Rattle.settings.proofs.Promises as store

-- ---- "Write the table, ring length, edition and budget into lent bytes, and read them back"

module _ (rows : List (List ℕ)) (ring edition budget : ℕ) (buffer : List ℕ) where
  -- the bytes that the buffer then begins with, as many as are told
  abbrev pub written : List ℕ
  written = take (write_store writes editions rows ring edition budget (length buffer)).bytes (buffer_after writes editions rows ring edition budget buffer)

  -- rows are words of 64 bits, the budget is a number of 32
  pub reads-back : (lent : List (List ℕ)) → Words rows → budget < 2 ^ 32 → (write_store writes editions rows ring edition budget (length buffer)).answer ≡ 0
      → length rows ≤ length lent
      → (read_store versions editions written (length lent) ≡ settings (length rows) ring edition budget)
      × (rows_after versions editions written lent ≡ kept_rows rows ++ drop (length rows) lent)
  unfolding version_of
  reads-back lent w b h m =
      let e = (store.buffer-written writes editions rows ring edition budget buffer h).0 in
      let r = store.written-reads versions editions writes rows ring edition budget (length buffer) lent store.proper-two refl (omega arith) w b
      (sym (store.write-told writes editions rows ring edition budget (length buffer)) ∙ h) m in
      (ap (λ (xs : List ℕ). read_store versions editions xs (length lent)) e ∙ r.0, ap (λ (xs : List ℕ). rows_after versions editions xs lent) e ∙ r.1)

  -- "New builds read both versions" (M-112): what a build that writes version 1 wrote reads back too
  pub reads-version-1 : (lent : List (List ℕ)) → Words rows → budget < 2 ^ 32 → (write_store one editions rows ring edition budget (length buffer)).answer ≡ 0
      → length rows ≤ length lent
      → (read_store versions editions (store_bytes one rows ring edition budget) (length lent) ≡ settings (length rows) ring edition budget)
      × (rows_after versions editions (store_bytes one rows ring edition budget) lent ≡ kept_rows rows ++ drop (length rows) lent)
  unfolding version_of
  reads-version-1 lent w b h m =
      store.written-reads versions editions one rows ring edition budget (length buffer) lent store.proper-one refl (omega arith) w b
      (sym (store.write-told one editions rows ring edition budget (length buffer)) ∙ h) m

  -- "Writing refuses with 11, 1, 2, then 40 for no room, the buffer unchanged"
  pub write-answers : is_in (write_store writes editions rows ring edition budget (length buffer)).answer (0 ∷ 11 ∷ 1 ∷ 2 ∷ 40 ∷ []) ≡ true
  write-answers = store.write-one-of writes editions rows ring edition budget (length buffer)

  pub write-reason : (k : ℕ) → (write_store writes editions rows ring edition budget (length buffer)).answer ≡ k → (k ≡ 0 → ⊥)
      → (gives k (write_rows writes editions rows ring edition (length (store_bytes writes rows ring edition budget)) (length buffer)) ≡ true)
      × Passed (before k (write_rows writes editions rows ring edition (length (store_bytes writes rows ring edition budget)) (length buffer)))
  write-reason = store.write-reason writes editions rows ring edition budget (length buffer)

  pub buffer-unchanged : ((write_store writes editions rows ring edition budget (length buffer)).answer ≡ 0 → ⊥)
      → (buffer_after writes editions rows ring edition budget buffer ≡ buffer) × ((write_store writes editions rows ring edition budget (length buffer)).bytes ≡ 0)
  buffer-unchanged = store.buffer-unchanged writes editions rows ring edition budget buffer

  -- written: the bytes past those told are as they were
  pub bytes_past : (write_store writes editions rows ring edition budget (length buffer)).answer ≡ 0
      → drop (write_store writes editions rows ring edition budget (length buffer)).bytes (buffer_after writes editions rows ring edition budget buffer)
      ≡ drop (write_store writes editions rows ring edition budget (length buffer)).bytes buffer
  bytes_past h = (store.buffer-written writes editions rows ring edition budget buffer h).1

-- what comes back as `kept_rows` are the same events: identifiers and attributes; the word of sample_id_all is 1
pub same-identifiers : (rows : List (List ℕ)) → identifiers (events_of (kept_rows rows)) ≡ identifiers (events_of rows)
same-identifiers = kept-identifiers

pub same-attributes : (rows : List (List ℕ)) → all_marked (events_of rows) ≡ true → map attributes_of (events_of (kept_rows rows)) ≡ map attributes_of (events_of rows)
same-attributes = kept-attributes

-- ---- "A store that reads is the only encoding of its settings"

module _ (xs : List ℕ) (lent : List (List ℕ)) where
  -- it is the bytes that are written of what was read, in the version that it shows
  pub only-encoding : small xs ≡ true → (read_store versions editions xs (length lent)).answer ≡ 0
      → xs
      ≡ store_bytes (shown versions xs) (take (read_store versions editions xs (length lent)).events (rows_after versions editions xs lent))
      (read_store versions editions xs (length lent)).ring (read_store versions editions xs (length lent)).edition (read_store versions editions xs (length lent)).budget
  only-encoding = store.only-encoding versions editions xs lent

  -- and the writer takes it again, in that version, where there is room
  pub writes_again : (room : ℕ) → small xs ≡ true → (read_store versions editions xs (length lent)).answer ≡ 0 → length xs ≤ room
      → (write_store (shown versions xs) editions (take (read_store versions editions xs (length lent)).events (rows_after versions editions xs lent))
      (read_store versions editions xs (length lent)).ring (read_store versions editions xs (length lent)).edition (read_store versions editions xs (length lent)).budget
      room).answer
      ≡ 0
  writes_again room s h l =
      store.write-told (shown versions xs) editions (take (read_store versions editions xs (length lent)).events (rows_after versions editions xs lent))
      (read_store versions editions xs (length lent)).ring (read_store versions editions xs (length lent)).edition (read_store versions editions xs (length lent)).budget
      room
      ∙ store.writes_again versions editions xs lent room s h l

  -- two stores of one version that read alike are the same bytes
  pub same-settings : (ys : List ℕ) → small xs ≡ true → small ys ≡ true → (read_store versions editions xs (length lent)).answer ≡ 0
      → read_store versions editions xs (length lent) ≡ read_store versions editions ys (length lent)
      → rows_after versions editions xs lent ≡ rows_after versions editions ys lent → number_at 2 xs 6 ≡ number_at 2 ys 6 → xs ≡ ys
  same-settings ys s t h e r v = store.same-settings versions editions xs ys lent s t h e r (ap (version_of versions) v)

  -- ---- the reader's answers
  pub read-answers : is_in (read_store versions editions xs (length lent)).answer (0 ∷ 50 ∷ 51 ∷ 52 ∷ 11 ∷ 40 ∷ []) ≡ true
  read-answers = store.one_of versions editions xs (length lent)

  pub read-reason : (k : ℕ) → (read_store versions editions xs (length lent)).answer ≡ k → (k ≡ 0 → ⊥)
      → (gives k (store.store_rows versions editions xs (length lent)) ≡ true) × Passed (before k (store.store_rows versions editions xs (length lent)))
  read-reason = store.own-reason versions editions xs (length lent)

  -- "refused, it is unchanged; accepted, rows past those read are"
  pub table-unchanged : ((read_store versions editions xs (length lent)).answer ≡ 0 → ⊥)
      → (rows_after versions editions xs lent ≡ lent)
      × (read_store versions editions xs (length lent) ≡ refused (read_store versions editions xs (length lent)).answer)
  table-unchanged = store.refused-unchanged versions editions xs lent

  pub rows-past : (read_store versions editions xs (length lent)).answer ≡ 0
      → (drop (read_store versions editions xs (length lent)).events (rows_after versions editions xs lent)
      ≡ drop (read_store versions editions xs (length lent)).events lent)
      × (length (rows_after versions editions xs lent) ≡ length lent)
  rows-past = store.accepted-rest versions editions xs lent

  -- a store holds as many events as its version allows: "version 1 keeps its limit of 32" (M-112)
  pub most-events : (read_store versions editions xs (length lent)).answer ≡ 0 → (read_store versions editions xs (length lent)).events ≤ (shown versions xs).limit
  most-events h =
      let v = shown versions xs in
      let a = accepted versions editions xs (length lent) (sym (store.answer-told versions editions xs (length lent)) ∙ h) in
      let n : (read_store versions editions xs (length lent)).events ≡ count_of v xs = ap (λ (s : Settings). s.events) (store.given versions editions xs lent h).read in
      let l : length (events_of (rows_of v xs (count_of v xs))) ≡ count_of v xs = table-length (rows_of v xs (count_of v xs)) ∙ rows-length v xs (count_of v xs) in
      omega (arith, n, l, sound-limit v.limit (events_of (rows_of v xs (count_of v xs))) a.sound)

  pub version-1-events : number_at 2 xs 6 ≡ 1 → (read_store versions editions xs (length lent)).answer ≡ 0 → (read_store versions editions xs (length lent)).events ≤ 32
  unfolding version_of
  version-1-events e h =
      subst (λ (n : ℕ). (read_store versions editions xs (length lent)).events ≤ n) (ap (λ (k : ℕ). (version_of versions k).limit) e) (most-events h)

-- ---- other builds: those that read other versions, or know other editions

-- a version that a build does not read is 50, whatever the store holds
pub other-version : (vs : List Version) (ks : List Known) (v : Version) (rows : List (List ℕ)) (ring edition budget lent : ℕ) → v.number < 256 ^ 2
    → is_known (version_of vs v.number) ≡ false → (read_store vs ks (store_bytes v rows ring edition budget) lent).answer ≡ 50
other-version vs ks v rows ring edition budget lent b h =
    store.answer-told vs ks (store_bytes v rows ring edition budget) lent ∙ old-build vs ks v rows ring edition budget lent b h

-- "An old build answers 50" (M-112): the build that reads version 1 alone, to every store that this build writes
pub old-build-50 : (ks : List Known) (rows : List (List ℕ)) (ring edition budget lent : ℕ)
    → (read_store (one ∷ []) ks (store_bytes writes rows ring edition budget) lent).answer ≡ 50
unfolding version_of
old-build-50 ks rows ring edition budget lent = other-version (one ∷ []) ks writes rows ring edition budget lent (omega arith) refl

-- an edition that a build does not know is 52, where this build's writer takes the settings
pub other-edition : (ks : List Known) (rows : List (List ℕ)) (ring edition budget room lent : ℕ) → Words rows → budget < 2 ^ 32
    → (write_store writes editions rows ring edition budget room).answer ≡ 0 → allowed ks edition ≡ false
    → (read_store versions ks (store_bytes writes rows ring edition budget) lent).answer ≡ 52
unfolding version_of
other-edition ks rows ring edition budget room lent w b h n =
    store.unknown-edition versions ks editions writes rows ring edition budget lent store.proper-two refl
    (store.writer-takes writes editions rows ring edition budget room (omega arith) w b (sym (store.write-told writes editions rows ring edition budget room) ∙ h)).0
    n

-- "Settings of M-103 may hold edition 4, which older builds refuse with 52" (M-110): the build with the first three editions
pub edition-4 : (rows : List (List ℕ)) (ring budget room lent : ℕ) → Words rows → budget < 2 ^ 32
    → (write_store writes editions rows ring 4 budget room).answer ≡ 0 → (read_store versions (take 3 editions) (store_bytes writes rows ring 4 budget) lent).answer ≡ 52
edition-4 rows ring budget room lent w b h = other-edition (take 3 editions) rows ring 4 budget room lent w b h refl
