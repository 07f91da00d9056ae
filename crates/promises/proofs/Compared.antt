-- M-108, "Compare two saved rings", in its own words. `compared` is what `ollskuvan_compare` is proved equal to; `Told` says that every pair before the
-- reported place is equal under demand 2, and that what is reported is so. Assumes nothing.
use Rattle.std.specs.Prelude.{◌≡◌, refl, Bool, true, false, not, List, map, ◌⊎◌, ℕ, ◌^◌, ◌<◌, ◌≤◌, length, take}
use Rattle.std.proofs.Common.{sym, ap, ◌∙◌}
use Rattle.meaning.specs.declared.Attributes.{Attributes}
use Rattle.meaning.specs.declared.Event.{Event}
use Rattle.meaning.specs.declared.Known.{Known}
use Rattle.meaning.specs.Bytes.{small}
use Rattle.meaning.specs.Editions.{editions, known, allowed, outside}
use Rattle.meaning.specs.Records.{layout, check_by, flag_of, value, cleaned_record}
use Rattle.meaning.specs.States.{Frame}
use Rattle.meaning.specs.Ring.{Asked, frame, stop_at}
use Rattle.meaning.specs.Events.{sound, asked_events, judge_events, event_depends}
use Rattle.laws.specs.Bytes.{apart}
use Rattle.laws.specs.Rings.{frame-stop, frame-reason}
use Rattle.runs.specs.Cutting.{Cut, All}
use Rattle.runs.proofs.Forward.{frame-going}
use Rattle.runs.proofs.Entries.{all_map}
use Rattle.editions.specs.Fairness.{rising}
use Rattle.editions.specs.EventPromise.{EventWords}
use Rattle.editions.proofs.EventRecord.{event-fair}
use Rattle.compare.specs.declared.Compared.{Compared}
use Rattle.compare.specs.Fields.{Reads, fields}
use Rattle.compare.specs.Compared.{alike, agree, all_alike, stops, cutting_all, compared, scratch_then, event_reads, Side, side_cuts}
use Rattle.compare.specs.Promise.{SoundReads, Whole, Same, First, TrueReport}
use Rattle.compare.proofs.Pairs.{alike-exactly, named-differs}
use Rattle.compare.proofs.Sides.{framed-side, side-ends, scratch-long, side-first}
use Rattle.compare.proofs.Facts.{AllEqual, equal-told, told-equal, places-alike, ignored-alike, turned, meet-turned}
use Rattle.compare.proofs.Examples as examples
use Rattle.comparing.specs.Table.{left_side, right_side, left_at_once, table-told, table-only, table-refused, editions-alike}

-- ---- two records, under a table whose events select the identifier

module _ (k : Known) (es : List Event) (good : SoundReads (event_reads k es)) (xs ys : List ℕ) (wx : Whole xs) (wy : Whole ys) where
  -- no field differs exactly when they are equal: accepted with the same value, or refused with the same bytes
  pub no-field-differs : (alike (fields (event_reads k es) xs) (fields (event_reads k es) ys) ≡ true → Same (event_reads k es) xs ys)
      × (Same (event_reads k es) xs ys → alike (fields (event_reads k es) xs) (fields (event_reads k es) ys) ≡ true)
  no-field-differs = alike-exactly (event_reads k es) good xs ys wx wy

  -- else the field that is named is the first that differs: both have it, and all before it are equal
  pub the-named-field : alike (fields (event_reads k es) xs) (fields (event_reads k es) ys) ≡ false
      → First (fields (event_reads k es) xs) (fields (event_reads k es) ys) (agree (fields (event_reads k es) xs) (fields (event_reads k es) ys))
  the-named-field = named-differs (event_reads k es) good xs ys wx wy

-- ---- two rings, as `ollskuvan_compare` takes them

module _ (limit e : ℕ) (es : List Event) (ring₁ ring₂ : List ℕ) (head₁ head₂ tail₁ tail₂ : ℕ) (scratch₁ scratch₂ : List ℕ) where
  abbrev reads : Reads
  reads = event_reads (known editions e) es

  abbrev left : Side
  left = left_side limit editions e es ring₁ ring₂ head₁ head₂ tail₁ tail₂ scratch₁ scratch₂

  abbrev right : Side
  right = right_side limit editions e es ring₁ ring₂ head₁ head₂ tail₁ tail₂ scratch₁ scratch₂

  abbrev report : Compared
  report = compared reads left right

  -- "Each pair before the reported place is equal under demand 2, and the named field differs"
  pub the-report : sound limit es ≡ true → small ring₁ ≡ true → small ring₂ ≡ true → TrueReport reads (cutting_all left) (cutting_all right) report
  the-report = table-told limit editions e es ring₁ ring₂ head₁ head₂ tail₁ tail₂ scratch₁ scratch₂

  -- and no other report says so: a stop, an end and a difference exclude each other, and each has its own numbers
  pub no-other-report : (c : Compared) → sound limit es ≡ true → small ring₁ ≡ true → small ring₂ ≡ true → TrueReport reads (cutting_all left) (cutting_all right) c → c ≡ report
  no-other-report = table-only limit editions e es ring₁ ring₂ head₁ head₂ tail₁ tail₂ scratch₁ scratch₂

  -- alike exactly when both end with 0 at the same number with all pairs equal
  pub alike-all-equal : sound limit es ≡ true → small ring₁ ≡ true → small ring₂ ≡ true
      → (report.what ≡ 0 → AllEqual reads (cutting_all left) (cutting_all right) report.records)
      × ((n : ℕ) → AllEqual reads (cutting_all left) (cutting_all right) n → report ≡ all_alike n)
  alike-all-equal h s₁ s₂ = (
    told-equal reads (cutting_all left) (cutting_all right) report (the-report h s₁ s₂),
    λ n q. sym (no-other-report (all_alike n) h s₁ s₂ (equal-told reads (cutting_all left) (cutting_all right) n q)),
  )

  -- "Positions .. don't count": the same records at other counts and places are alike
  pub places-do-not-count : map (λ (c : Cut). c.record-bytes) (cutting_all left).records ≡ map (λ (c : Cut). c.record-bytes) (cutting_all right).records
      → (cutting_all left).stop ≡ 0 → (cutting_all right).stop ≡ 0 → report ≡ all_alike (length (cutting_all left).records)
  unfolding compared
  places-do-not-count = places-alike reads (cutting_all left) (cutting_all right)

  -- a table that is refused is the left side's stop with count 0: 11, or one of 1, 2, 4 and 5, which come before it
  pub refused-table : sound limit es ≡ false → report ≡ stops 4 (frame (asked_events limit editions e es) ring₁ head₁ tail₁ 1 16 (length scratch₁)).stop 0
  refused-table = table-refused limit editions e es ring₁ ring₂ head₁ head₂ tail₁ tail₂ scratch₁ scratch₂

  -- and so is an edition that is refused: 2, or 1 before it
  pub refused-edition : allowed editions e ≡ false → report ≡ stops 4 (frame (asked_events limit editions e es) ring₁ head₁ tail₁ 1 16 (length scratch₁)).stop 0
  refused-edition h = left_at_once reads left right (stays next.go refl) (λ z. ends (allowed editions e) h (passed z))
    where
      asked : Asked
      asked = asked_events limit editions e es

      next : Frame
      next = frame asked ring₁ head₁ tail₁ 1 16 (length scratch₁)

      stays : (b : Bool) → next.go ≡ b → b ≡ false
      stays true g = absurd (apart (sym h ∙ (frame-going asked ring₁ head₁ tail₁ 1 16 (length scratch₁) g).edition))
      stays false g = refl

      -- a side that ended with 0 passed row 2
      passed : next.stop ≡ 0 → not (allowed editions e) ≡ false
      passed z = (frame-reason asked ring₁ head₁ tail₁ 1 16 (length scratch₁) 0 (frame-stop asked ring₁ head₁ tail₁ 1 16 (length scratch₁) (stays next.go refl) ∙ ap stop_at z)).1.1.0

      ends : (t : Bool) → t ≡ false → not t ≡ false → ⊥
      ends true a b = apart (sym a)
      ends false a b = apart (sym b)

  -- symmetric up to the side, but where both stop at the same record: then the first is told
  pub sides-exchanged : (length (cutting_all left).records ≡ length (cutting_all right).records → ((cutting_all left).stop ≡ 0) ⊎ ((cutting_all right).stop ≡ 0))
      → compared reads right left ≡ turned report
  unfolding compared
  sides-exchanged = meet-turned reads (cutting_all left).stop (cutting_all right).stop 0 (cutting_all left).records (cutting_all right).records

  -- "two ring images, each with pointers and a scratch": each side is cut to its true end, by the rows of its own ring, head, tail and scratch
  pub left-to-its-end : small ring₁ ≡ true → head₁ < 2 ^ 64 → tail₁ < 2 ^ 64
      → frame (asked_events limit editions e es) ring₁ head₁ (cutting_all left).last.tail 1 16 (length (cutting_all left).last.scratch) ≡ stop_at (cutting_all left).stop
  left-to-its-end s = side-ends left head₁ (framed-side (asked_events limit editions e es) ring₁ head₁ tail₁ scratch₁ s)

  pub right-to-its-end : small ring₂ ≡ true → head₂ < 2 ^ 64 → tail₂ < 2 ^ 64
      → frame (asked_events limit editions e es) ring₂ head₂ (cutting_all right).last.tail 1 16 (length (cutting_all right).last.scratch) ≡ stop_at (cutting_all right).stop
  right-to-its-end s = side-ends right head₂ (framed-side (asked_events limit editions e es) ring₂ head₂ tail₂ scratch₂ s)

  -- the records that were looked at are the first ones
  pub left-first-records : small ring₁ ≡ true → (j : ℕ) → j ≤ length ring₁ → (side_cuts left j).records ≡ take j (cutting_all left).records
  left-first-records s = side-first left head₁ (framed-side (asked_events limit editions e es) ring₁ head₁ tail₁ scratch₁ s)

  pub right-first-records : small ring₂ ≡ true → (j : ℕ) → j ≤ length ring₂ → (side_cuts right j).records ≡ take j (cutting_all right).records
  right-first-records s = side-first right head₂ (framed-side (asked_events limit editions e es) ring₂ head₂ tail₂ scratch₂ s)

  -- a scratch keeps its length
  pub left-scratch-long : small ring₁ ≡ true → length (scratch_then report left) ≡ length scratch₁
  left-scratch-long s = scratch-long left head₁ (framed-side (asked_events limit editions e es) ring₁ head₁ tail₁ scratch₁ s) report

  pub right-scratch-long : small ring₂ ≡ true → length (scratch_then report right) ≡ length scratch₂
  right-scratch-long s = scratch-long right head₂ (framed-side (asked_events limit editions e es) ring₂ head₂ tail₂ scratch₂ s) report

-- "ignored bytes don't count": accepted records that are the same but for them, with the same flag, have the same value, so no field of them differs
pub ignored-bytes : (k : Known) (a : Attributes) (xs ys : List ℕ) → small xs ≡ true → small ys ≡ true → check_by (layout k a) xs ≡ 0 → check_by (layout k a) ys ≡ 0
    → cleaned_record (layout k a) xs ≡ cleaned_record (layout k a) ys → flag_of (layout k a) xs ≡ flag_of (layout k a) ys → value (layout k a) xs ≡ value (layout k a) ys
ignored-bytes = ignored-alike

-- ---- demand 3: where nothing that a record's reading depends on lies outside the older edition, for any record of the two rings, both editions tell the same.
-- Where something does, the older edition refuses that record: two such records compare by their bytes there, and by their fields in the newer edition, so that
-- nothing follows
module _ (rows : List Known) (rise : rising rows ≡ true) (e₁ e₂ : ℕ) (le : e₁ ≤ e₂) (a₁ : allowed rows e₁ ≡ true) (a₂ : allowed rows e₂ ≡ true) (limit : ℕ) (es : List Event) (ws : EventWords es)
    (ring₁ ring₂ : List ℕ) (head₁ head₂ tail₁ tail₂ : ℕ) (scratch₁ scratch₂ : List ℕ) where
  abbrev older_left : Side
  older_left = left_side limit rows e₁ es ring₁ ring₂ head₁ head₂ tail₁ tail₂ scratch₁ scratch₂

  abbrev older_right : Side
  older_right = right_side limit rows e₁ es ring₁ ring₂ head₁ head₂ tail₁ tail₂ scratch₁ scratch₂

  abbrev Inside : Cut → Type 0
  Inside c = outside (known rows e₁) (event_depends es c.record-bytes) ≡ false

  answered-alike : (cs : List Cut) → All Inside cs → All (λ (c : Cut). judge_events (known rows e₁) es c.record-bytes ≡ judge_events (known rows e₂) es c.record-bytes) cs
  answered-alike cs = all_map Inside (λ (c : Cut). judge_events (known rows e₁) es c.record-bytes ≡ judge_events (known rows e₂) es c.record-bytes)
      (λ c i. (event-fair rows rise e₁ e₂ le a₂ es ws c.record-bytes).alike i) cs

  pub editions-tell-the-same : All Inside (cutting_all older_left).records → All Inside (cutting_all older_right).records
      → compared (event_reads (known rows e₁) es) older_left older_right
      ≡ compared (event_reads (known rows e₂) es) (left_side limit rows e₂ es ring₁ ring₂ head₁ head₂ tail₁ tail₂ scratch₁ scratch₂) (right_side limit rows e₂ es ring₁ ring₂ head₁ head₂ tail₁ tail₂ scratch₁ scratch₂)
  editions-tell-the-same p q =
      editions-alike limit rows e₁ e₂ es ring₁ ring₂ head₁ head₂ tail₁ tail₂ scratch₁ scratch₂ a₁ a₂ (answered-alike (cutting_all older_left).records p) (answered-alike (cutting_all older_right).records q)

-- ---- worked pairs of records: `compare/specs/Examples`, one list, one proof
pub worked-pairs : examples.all examples.cases ≡ true
worked-pairs = examples.every-case
