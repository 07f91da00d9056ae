-- Demand 3, in its own words: "An older reader never misleads. Take any ring, pointers, attributes, scratch, budget and journal room, and two of the
-- editions that 01 lists. Both cut the ring into the same records and stop at the same tail for the same reason. Each record the older edition answers
-- as the newer does, or refuses as unknown to it, and this exactly where the type, or a selected bit or form bit on which that record's reading depends
-- by 01's rules 20 to 23, lies outside what that edition knows." With M-102 25 "stands beside rules 20 to 23, the branch sample bits beside the selected
-- bits".
-- `depends` lists what a record's reading depends on, with no edition for an argument; `outside` says that something of a list lies outside; `Fair`
-- holds two answers to it. Each theorem stands twice: over any table of editions that rises, so that an edition more is a row and not a proof
-- (the fourth, of M-110, was), and over the table of the four: "Show demand 3 once over all pairs of editions". Assumes nothing.
use Rattle.std.specs.Prelude.{◌≡◌, List, true, false, ◌&&◌, ◌⊎◌, length, leb, eqb}
use Rattle.std.proofs.Math.Path.{refl, ap, subst}
use Rattle.std.proofs.Common.{sym, ◌∙◌, eqb-true, ne_eqb}
use Rattle.std.proofs.Math.Bool.{Bool, cond}
use Prim.Native.Nat.{ℕ, ◌<◌, ◌≤◌}
use Rattle.meaning.specs.declared.Attributes.{Attributes}
use Rattle.meaning.specs.declared.Known.{Known}
use Rattle.meaning.specs.Bytes.{zeros, put}
use Rattle.meaning.specs.Editions.{editions, allowed, known, outside, is_unknown}
use Rattle.meaning.specs.Refusals.{or_else}
use Rattle.meaning.specs.Records.{layout, check, flag_of, record_check}
use Rattle.meaning.specs.Values.{value_words, record_words, read_answered, read}
use Rattle.meaning.specs.Drain.{drain}
use Rattle.record.specs.Into.{read_into_answer, read_into_words}
use Rattle.editions.specs.Fairness.{rising, Words, depends_of, Fair}
use Rattle.runs.specs.Cutting.{cutting, record_of, framed}
use Rattle.editions.specs.Promise.{Demand3, EntryFair, OneFair}
use Rattle.editions.proofs.OneRecord.{either, check-fair, editions-rise}
use Rattle.editions.proofs.Demand3.{demand3, demand3-entry}
use Rattle.editions.proofs.Readers.{read-fair, one-fair}
use Rattle.laws.specs.Bytes.{apart}

-- ---- what `Fair` says, in the demand's words

-- "answers as the newer does, or refuses as unknown to it"
pub alike-or-unknown : (older newer : ℕ) (out : Bool) → Fair older newer out → (older ≡ newer) ⊎ (is_unknown older ≡ true)
alike-or-unknown = either

-- "and this exactly where": refused as unknown, then something lies outside; something lies outside, then refused as unknown
pub exactly-where : (older newer : ℕ) (out : Bool) → Fair older newer out → (is_unknown older ≡ true → out ≡ true) × (out ≡ true → is_unknown older ≡ true)
exactly-where older newer out f = (λ u. sym f.exact ∙ u, λ o. f.exact ∙ o)

-- everywhere else it answers as the newer does
pub else-alike : (older newer : ℕ) (out : Bool) → Fair older newer out → is_unknown older ≡ false → older ≡ newer
else-alike older newer out f u = f.alike (sym f.exact ∙ u)

-- a last step that gives its number in the place of 0 alone, and no number of an edition that does not know something, keeps answers fair: 44 of record check,
-- 40 of the readers of words
pub last-fair : (n₁ n₂ m : ℕ) (out : Bool) → is_unknown m ≡ false → Fair n₁ n₂ out → Fair (or_else n₁ m) (or_else n₂ m) out
unfolding is_unknown
last-fair n₁ n₂ m out h f = record { exact = by (eqb n₁ 0) refl ∙ f.exact; alike = λ o. ap (λ (n : ℕ). or_else n m) (f.alike o) }
  where
    by : (b : Bool) → eqb n₁ 0 ≡ b → is_unknown (cond b m n₁) ≡ is_unknown n₁
    by true q = h ∙ ap is_unknown (sym (eqb-true n₁ 0 q))
    by false q = refl

pub known_of : (b : Bool) (m : ℕ) → is_unknown m ≡ false → is_unknown (cond b 0 m) ≡ false
unfolding is_unknown
known_of true m h = refl
known_of false m h = h

-- ---- any table that rises: each row knows no more than every later one
module _ (rows : List Known) (up : rising rows ≡ true) (e₁ e₂ : ℕ) (order : e₁ ≤ e₂) (is₁ : allowed rows e₁ ≡ true) (is₂ : allowed rows e₂ ≡ true)
    (a : Attributes) (ws : Words a) where
  -- record check: of any slice. What is no record is refused alike
  pub fair-check : (r : List ℕ) → Fair (check rows e₁ a r) (check rows e₂ a r) (framed r && outside (known rows e₁) (depends_of a r))
  fair-check = check-fair rows up e₁ e₂ order is₁ is₂ a ws

  -- the flag is the same in both (M-107), and so record check as it is exported, with its 44, is fair as well
  pub same_flag : (r : List ℕ) → flag_of (layout (known rows e₁) a) r ≡ flag_of (layout (known rows e₂) a) r
  unfolding flag_of layout
  same_flag r = refl

  pub fair-record-check : (r : List ℕ) → Fair (record_check rows e₁ a r) (record_check rows e₂ a r) (framed r && outside (known rows e₁) (depends_of a r))
  unfolding record_check is_unknown
  fair-record-check r =
      let stale : ℕ = cond (eqb (flag_of (layout (known rows e₁) a) r) 0) 0 44 in
      subst (λ (n : ℕ). Fair (or_else (check rows e₁ a r) stale) (or_else (check rows e₂ a r) (cond (eqb n 0) 0 44)) (framed r && outside (known rows e₁) (depends_of a r))) (same_flag r)
      (last-fair (check rows e₁ a r) (check rows e₂ a r) stale (framed r && outside (known rows e₁) (depends_of a r)) (known_of (eqb (flag_of (layout (known rows e₁) a) r) 0) 44 refl) (fair-check r))

  -- the reader of a record's bytes: where nothing lies outside, the words are the same too
  pub fair-read : (r : List ℕ)
      → Fair (read rows e₁ a r).answer (read rows e₂ a r).answer (framed r && outside (known rows e₁) (depends_of a r))
      × ((framed r && outside (known rows e₁) (depends_of a r)) ≡ false → read rows e₁ a r ≡ read rows e₂ a r)
  fair-read = read-fair rows up e₁ e₂ order is₁ is₂ a ws

  -- and where something does, the older shows no value
  pub fair-read-empty : (r : List ℕ) → (framed r && outside (known rows e₁) (depends_of a r)) ≡ true → (read rows e₁ a r).words ≡ zeros 56
  unfolding read read_answered is_unknown
  fair-read-empty r o = rw (ne_eqb (check rows e₁ a r) 0 (λ z. apart (ap is_unknown (sym z) ∙ (fair-check r).exact ∙ o)))

  -- as C calls it, into lent words: 40 among the answers; where nothing lies outside the words are the same, and where something does they are as they were
  pub fair-read-into : (r words : List ℕ)
      → Fair (read_into_answer rows e₁ a r words) (read_into_answer rows e₂ a r words) (framed r && outside (known rows e₁) (depends_of a r))
      × ((framed r && outside (known rows e₁) (depends_of a r)) ≡ false → read_into_words rows e₁ a r words ≡ read_into_words rows e₂ a r words)
      × ((framed r && outside (known rows e₁) (depends_of a r)) ≡ true → read_into_words rows e₁ a r words ≡ words)
  unfolding read_into_answer read_into_words record_words layout is_unknown
  fair-read-into r words =
      let out : Bool = framed r && outside (known rows e₁) (depends_of a r) in
      let f = last-fair (check rows e₁ a r) (check rows e₂ a r) (cond (leb value_words (length words)) 0 40) out (known_of (leb value_words (length words)) 40 refl) (fair-check r) in (
        f,
        λ o. ap (λ (n : ℕ). cond (eqb n 0) (put words 0 (record_words (layout (known rows e₁) a) r)) words) (f.alike o),
        λ o. rw (ne_eqb (read_into_answer rows e₁ a r words) 0 (λ z. apart (ap is_unknown (sym z) ∙ f.exact ∙ o))),
      )

  -- the reader of one record: the same record or the same stop, the same tail and scratch; the answers fair; the same words, or none
  pub fair-one : (ring : List ℕ) (head tail : ℕ) (scratch : List ℕ) → OneFair rows e₁ e₂ a ring head tail scratch
  fair-one = one-fair rows up e₁ e₂ order is₁ is₂ a ws

  -- the drain: "Both cut the ring into the same records and stop at the same tail for the same reason"; and each record's answers fair
  pub fair-drain : (ring : List ℕ) (head tail budget : ℕ) (journal scratch : List ℕ) → Demand3 rows e₁ e₂ a ring head tail budget journal scratch
  fair-drain = demand3 rows up e₁ e₂ order is₁ is₂ a ws

  -- the same, read off the two journals: entry by entry
  pub fair-entry : (ring : List ℕ) (head tail budget : ℕ) (journal scratch : List ℕ) (i : ℕ) → i < (drain rows e₁ a ring head tail budget journal scratch).state.taken
      → EntryFair (drain rows e₁ a ring head tail budget journal scratch).state.journal (drain rows e₂ a ring head tail budget journal scratch).state.journal i
      (outside (known rows e₁) (depends_of a (record_of (cutting ring head tail budget (length journal) scratch) i)))
  fair-entry = demand3-entry rows up e₁ e₂ order is₁ is₂ a ws

-- ---- "two of the editions that 01 lists"
module _ (e₁ e₂ : ℕ) (order : e₁ ≤ e₂) (is₁ : allowed editions e₁ ≡ true) (is₂ : allowed editions e₂ ≡ true) (a : Attributes) (ws : Words a) where
  pub older-check : (r : List ℕ) → Fair (check editions e₁ a r) (check editions e₂ a r) (framed r && outside (known editions e₁) (depends_of a r))
  older-check = fair-check editions editions-rise e₁ e₂ order is₁ is₂ a ws

  pub older-record-check : (r : List ℕ) → Fair (record_check editions e₁ a r) (record_check editions e₂ a r) (framed r && outside (known editions e₁) (depends_of a r))
  older-record-check = fair-record-check editions editions-rise e₁ e₂ order is₁ is₂ a ws

  pub older-read : (r : List ℕ)
      → Fair (read editions e₁ a r).answer (read editions e₂ a r).answer (framed r && outside (known editions e₁) (depends_of a r))
      × ((framed r && outside (known editions e₁) (depends_of a r)) ≡ false → read editions e₁ a r ≡ read editions e₂ a r)
  older-read = fair-read editions editions-rise e₁ e₂ order is₁ is₂ a ws

  pub older-read-empty : (r : List ℕ) → (framed r && outside (known editions e₁) (depends_of a r)) ≡ true → (read editions e₁ a r).words ≡ zeros 56
  older-read-empty = fair-read-empty editions editions-rise e₁ e₂ order is₁ is₂ a ws

  pub older-read-into : (r words : List ℕ)
      → Fair (read_into_answer editions e₁ a r words) (read_into_answer editions e₂ a r words) (framed r && outside (known editions e₁) (depends_of a r))
      × ((framed r && outside (known editions e₁) (depends_of a r)) ≡ false → read_into_words editions e₁ a r words ≡ read_into_words editions e₂ a r words)
      × ((framed r && outside (known editions e₁) (depends_of a r)) ≡ true → read_into_words editions e₁ a r words ≡ words)
  older-read-into = fair-read-into editions editions-rise e₁ e₂ order is₁ is₂ a ws

  pub older-one : (ring : List ℕ) (head tail : ℕ) (scratch : List ℕ) → OneFair editions e₁ e₂ a ring head tail scratch
  older-one = fair-one editions editions-rise e₁ e₂ order is₁ is₂ a ws

  pub older-drain : (ring : List ℕ) (head tail budget : ℕ) (journal scratch : List ℕ) → Demand3 editions e₁ e₂ a ring head tail budget journal scratch
  older-drain = fair-drain editions editions-rise e₁ e₂ order is₁ is₂ a ws

  pub older-entry : (ring : List ℕ) (head tail budget : ℕ) (journal scratch : List ℕ) (i : ℕ) → i < (drain editions e₁ a ring head tail budget journal scratch).state.taken
      → EntryFair (drain editions e₁ a ring head tail budget journal scratch).state.journal (drain editions e₂ a ring head tail budget journal scratch).state.journal i
      (outside (known editions e₁) (depends_of a (record_of (cutting ring head tail budget (length journal) scratch) i)))
  older-entry = fair-entry editions editions-rise e₁ e₂ order is₁ is₂ a ws
