-- Demand 3 for the reader of one record as C calls it, with one attribute set and with a table of events: "Both cut the ring into the same records and stop
-- at the same tail for the same reason. Each record the older edition answers as the newer does, or refuses as unknown to it, and this exactly where .. lies
-- outside what that edition knows." Of what is told all but the answer and the number inspected is the same; the older edition fills the words as the
-- newer does, or not at all. Over any table of editions that rises, and over 01's. Assumes nothing.
use Rattle.std.specs.Prelude.{◌≡◌, Bool, cond, ◌&&◌, length}
use Rattle.std.proofs.Math.Path.{refl, subst}
use Rattle.std.proofs.Common.{sym, ap, ap₂, ◌∙◌}
use mathlib.Core.List.{List}
use Rattle.std.proofs.Math.Bool.{true, false}
use Prim.Native.Nat.{ℕ, ◌≤◌}
use Rattle.meaning.specs.declared.Attributes.{Attributes}
use Rattle.meaning.specs.declared.Event.{Event}
use Rattle.meaning.specs.States.{Frame}
use Rattle.meaning.specs.declared.Known.{Known}
use Rattle.meaning.specs.Editions.{editions, allowed, known, outside, is_unknown}
use Rattle.meaning.specs.Ring.{asking_with, asked_of, frame, record_at, scratch_after, one_frame, one_scratch}
use Rattle.meaning.specs.Events.{sound, asked_events, inspected, event_depends, one_events_frame, one_events_scratch}
use Rattle.record.specs.Into.{read_into_answer, read_into_words}
use Rattle.one.specs.declared.OneTold.{OneTold}
use Rattle.one.specs.Told.{told_stop, told_taken, one_told, one_words}
use Rattle.event_laws.specs.Told.{read_event_answer, read_event_words}
use Rattle.event_one.specs.Told.{with_inspected, one_events_told, one_events_words}
use Rattle.laws.proofs.Refused.{going-sound}
use Rattle.runs.specs.Cutting.{framed}
use Rattle.runs.proofs.Forward.{frame-going, going-framed}
use Rattle.editions.specs.Fairness.{rising, Words, depends_of, Fair}
use Rattle.editions.specs.Promise.{one_outside}
use Rattle.editions.proofs.OneRecord.{fair-free, editions-rise}
use Rattle.editions.specs.EventPromise.{EventWords, one_events_outside}
use Rattle.promises.proofs.Inspected.{inspected-alike}
use Rattle.promises.proofs.EventReads.{framed-asked, read_alike}
use Rattle.promises.proofs.Demand3.{fair-read-into}
use Rattle.promises.proofs.Inspected.{read-events-fair, read-events-alike, read-events-unknown}

-- ---- what is promised of two answers and the words they leave
pub record FairWords (words : List ℕ) (out : Bool) (answer₁ answer₂ : ℕ) (words₁ words₂ : List ℕ) : Type 0 where
  pub fair : Fair answer₁ answer₂ out
  pub same : out ≡ false → words₁ ≡ words₂
  pub unchanged : out ≡ true → words₁ ≡ words

-- ---- what is promised of two calls, of which one has the older edition; `out`: something on which the record's reading depends lies outside what it knows
pub record FairCalls (words : List ℕ) (out : Bool) (older newer : OneTold) (scratch₁ scratch₂ words₁ words₂ : List ℕ) : Type 0 where
  pub size-alike : older.size ≡ newer.size
  pub tail-alike : older.tail ≡ newer.tail
  pub stop-alike : older.stop ≡ newer.stop
  pub place-alike : older.place ≡ newer.place
  pub side-alike : older.in_scratch ≡ newer.in_scratch
  pub scratch-alike : scratch₁ ≡ scratch₂
  pub fair : Fair older.answer newer.answer out
  -- where nothing lies outside, all that is told and the words are the same; where something does, the older edition leaves the words as they were
  pub same : out ≡ false → (older ≡ newer) × (words₁ ≡ words₂)
  pub unchanged : out ≡ true → words₁ ≡ words

module _ (ring : List ℕ) (tail : ℕ) (scratch words : List ℕ) where
  -- what is told of a frame, with an answer, a number inspected and words; and the scratch
  abbrev tells : Bool → Frame → ℕ → ℕ → OneTold
  tells b f answer seen = cond b (with_inspected (told_taken ring f tail answer) seen) (told_stop f tail)

  abbrev leaves : Bool → Frame → List ℕ
  leaves b f = cond b (scratch_after ring f.place f.size scratch) scratch

  calls : (b : Bool) (f : Frame) (out : Bool) (answer₁ answer₂ seen₁ seen₂ : ℕ) (words₁ words₂ : List ℕ)
      → (b ≡ true → FairWords words out answer₁ answer₂ words₁ words₂) → (b ≡ true → out ≡ false → seen₁ ≡ seen₂)
      → FairCalls words (b && out) (tells b f answer₁ seen₁) (tells b f answer₂ seen₂) (leaves b f) (leaves b f) (cond b words₁ words) (cond b words₂ words)
  unfolding is_unknown
  calls true f out answer₁ answer₂ seen₁ seen₂ words₁ words₂ reads seen =
      let r = reads refl in
      record {
        size-alike = refl;
        tail-alike = refl;
        stop-alike = refl;
        place-alike = refl;
        side-alike = refl;
        scratch-alike = refl;
        fair = r.fair;
        same = λ o. (ap₂ (λ (n k : ℕ). with_inspected (told_taken ring f tail n) k) (r.fair.alike o) (seen refl o), r.same o);
        unchanged = r.unchanged;
      }
  calls false f out answer₁ answer₂ seen₁ seen₂ words₁ words₂ reads seen =
      record {
        size-alike = refl;
        tail-alike = refl;
        stop-alike = refl;
        place-alike = refl;
        side-alike = refl;
        scratch-alike = refl;
        fair = fair-free 0 refl;
        same = λ o. (refl, refl);
        unchanged = λ o. refl;
      }

-- ---- over any table of editions that rises
module _ (rows : List Known) (up : rising rows ≡ true) (e₁ e₂ : ℕ) (order : e₁ ≤ e₂) (is₁ : allowed rows e₁ ≡ true) (is₂ : allowed rows e₂ ≡ true) where
  -- ---- with one attribute set
  module _ (a : Attributes) (ws : Words a) where
    -- of one record by its header
    reads-one : (xs words : List ℕ) → framed xs ≡ true
        → FairWords words (outside (known rows e₁) (depends_of a xs)) (read_into_answer rows e₁ a xs words) (read_into_answer rows e₂ a xs words)
        (read_into_words rows e₁ a xs words) (read_into_words rows e₂ a xs words)
    reads-one xs words f =
        subst (λ (b : Bool). FairWords words (b && outside (known rows e₁) (depends_of a xs)) (read_into_answer rows e₁ a xs words) (read_into_answer rows e₂ a xs words)
        (read_into_words rows e₁ a xs words) (read_into_words rows e₂ a xs words)) f (let w = fair-read-into rows up e₁ e₂ order is₁ is₂ a ws xs words in record { fair = w.0; same = w.1; unchanged = w.2 })

    module _ (ring : List ℕ) (head tail : ℕ) (scratch words : List ℕ) where
      frames-one : one_frame rows e₁ ring head tail scratch ≡ one_frame rows e₂ ring head tail scratch
      frames-one = ap (λ (b : Bool). frame (asking_with b true) ring head tail 1 16 (length scratch)) (is₁ ∙ sym is₂)

      pub fair-call : FairCalls words (one_outside rows e₁ a ring head tail scratch)
          (one_told rows e₁ a ring head tail scratch words) (one_told rows e₂ a ring head tail scratch words)
          (one_scratch rows e₁ ring head tail scratch) (one_scratch rows e₂ ring head tail scratch)
          (one_words rows e₁ a ring head tail scratch words) (one_words rows e₂ a ring head tail scratch words)
      unfolding one_told one_scratch one_words
      fair-call =
          let f : Frame = one_frame rows e₁ ring head tail scratch in
          let xs : List ℕ = record_at ring f.place f.size in
          subst
          (λ (g : Frame). FairCalls words (f.go && outside (known rows e₁) (depends_of a xs))
          (cond f.go (told_taken ring f tail (read_into_answer rows e₁ a xs words)) (told_stop f tail))
          (cond g.go (told_taken ring g tail (read_into_answer rows e₂ a (record_at ring g.place g.size) words)) (told_stop g tail))
          (cond f.go (scratch_after ring f.place f.size scratch) scratch) (cond g.go (scratch_after ring g.place g.size scratch) scratch)
          (cond f.go (read_into_words rows e₁ a xs words) words) (cond g.go (read_into_words rows e₂ a (record_at ring g.place g.size) words) words))
          frames-one
          (calls ring tail scratch words f.go f (outside (known rows e₁) (depends_of a xs)) (read_into_answer rows e₁ a xs words) (read_into_answer rows e₂ a xs words) 0 0
          (read_into_words rows e₁ a xs words) (read_into_words rows e₂ a xs words)
          (λ go. reads-one xs words (going-framed (asked_of rows e₁) ring head tail 1 16 (length scratch) f (frame-going (asked_of rows e₁) ring head tail 1 16 (length scratch) go)).1)
          (λ go o. refl))

  -- ---- with a table of events
  module _ (limit : ℕ) (es : List Event) (ws : EventWords es) where
    -- of one record by its header, under a sound table: the answers and words of the reader of a record's bytes
    reads-events : (xs words : List ℕ) → sound limit es ≡ true → framed xs ≡ true
        → FairWords words (outside (known rows e₁) (event_depends es xs)) (read_event_answer rows e₁ es xs words) (read_event_answer rows e₂ es xs words)
        (read_event_words rows e₁ es xs words) (read_event_words rows e₂ es xs words)
    reads-events xs words t f =
        let a = read_alike limit rows e₁ es xs (framed-asked limit rows e₁ es xs is₁ t f) words in
        let b = read_alike limit rows e₂ es xs (framed-asked limit rows e₂ es xs is₂ t f) words in
        let w = read-events-fair limit rows up e₁ e₂ order is₁ is₂ es ws xs words in
        let o : (sound limit es && (framed xs && outside (known rows e₁) (event_depends es xs))) ≡ outside (known rows e₁) (event_depends es xs) =
        ap₂ (λ (x y : Bool). x && (y && outside (known rows e₁) (event_depends es xs))) t f in
        record {
          fair = record { exact = ap is_unknown a.0 ∙ w.exact ∙ o; alike = λ z. a.0 ∙ w.alike (o ∙ z) ∙ sym b.0 };
          same = λ z. a.2 ∙ (read-events-alike limit rows up e₁ e₂ order is₁ is₂ es ws xs words (o ∙ z)).1 ∙ sym b.2;
          unchanged = λ z. a.2 ∙ read-events-unknown limit rows up e₁ e₂ order is₁ is₂ es ws xs words (o ∙ z);
        }

    module _ (ring : List ℕ) (head tail : ℕ) (scratch words : List ℕ) where
      frames-events : one_events_frame limit rows e₁ es ring head tail scratch ≡ one_events_frame limit rows e₂ es ring head tail scratch
      frames-events = ap (λ (b : Bool). frame (asking_with b (sound limit es)) ring head tail 1 16 (length scratch)) (is₁ ∙ sym is₂)

      pub fair-event-call : FairCalls words (one_events_outside limit rows e₁ es ring head tail scratch)
          (one_events_told limit rows e₁ es ring head tail scratch words) (one_events_told limit rows e₂ es ring head tail scratch words)
          (one_events_scratch limit rows e₁ es ring head tail scratch) (one_events_scratch limit rows e₂ es ring head tail scratch)
          (one_events_words limit rows e₁ es ring head tail scratch words) (one_events_words limit rows e₂ es ring head tail scratch words)
      unfolding one_events_told one_events_scratch one_events_words
      fair-event-call =
          let f : Frame = one_events_frame limit rows e₁ es ring head tail scratch in
          let xs : List ℕ = record_at ring f.place f.size in
          subst
          (λ (g : Frame). FairCalls words (f.go && outside (known rows e₁) (event_depends es xs))
          (cond f.go (with_inspected (told_taken ring f tail (read_event_answer rows e₁ es xs words)) (inspected (known rows e₁) es xs)) (told_stop f tail))
          (cond g.go
          (with_inspected (told_taken ring g tail (read_event_answer rows e₂ es (record_at ring g.place g.size) words)) (inspected (known rows e₂) es (record_at ring g.place g.size)))
          (told_stop g tail))
          (cond f.go (scratch_after ring f.place f.size scratch) scratch) (cond g.go (scratch_after ring g.place g.size scratch) scratch)
          (cond f.go (read_event_words rows e₁ es xs words) words) (cond g.go (read_event_words rows e₂ es (record_at ring g.place g.size) words) words))
          frames-events
          (calls ring tail scratch words f.go f (outside (known rows e₁) (event_depends es xs)) (read_event_answer rows e₁ es xs words) (read_event_answer rows e₂ es xs words)
          (inspected (known rows e₁) es xs) (inspected (known rows e₂) es xs) (read_event_words rows e₁ es xs words) (read_event_words rows e₂ es xs words)
          (λ go. reads-events xs words (going-sound (asked_events limit rows e₁ es) ring head tail 1 16 (length scratch) go)
          (going-framed (asked_events limit rows e₁ es) ring head tail 1 16 (length scratch) f (frame-going (asked_events limit rows e₁ es) ring head tail 1 16 (length scratch) go)).1)
          (λ go o. inspected-alike rows up e₁ e₂ order is₂ es xs o))

-- ---- "two of the editions that 01 lists"
module _ (e₁ e₂ : ℕ) (order : e₁ ≤ e₂) (is₁ : allowed editions e₁ ≡ true) (is₂ : allowed editions e₂ ≡ true) where
  pub older-call : (a : Attributes) → Words a → (ring : List ℕ) (head tail : ℕ) (scratch words : List ℕ)
      → FairCalls words (one_outside editions e₁ a ring head tail scratch)
      (one_told editions e₁ a ring head tail scratch words) (one_told editions e₂ a ring head tail scratch words)
      (one_scratch editions e₁ ring head tail scratch) (one_scratch editions e₂ ring head tail scratch)
      (one_words editions e₁ a ring head tail scratch words) (one_words editions e₂ a ring head tail scratch words)
  older-call = fair-call editions editions-rise e₁ e₂ order is₁ is₂

  pub older-event-call : (limit : ℕ) (es : List Event) → EventWords es → (ring : List ℕ) (head tail : ℕ) (scratch words : List ℕ)
      → FairCalls words (one_events_outside limit editions e₁ es ring head tail scratch)
      (one_events_told limit editions e₁ es ring head tail scratch words) (one_events_told limit editions e₂ es ring head tail scratch words)
      (one_events_scratch limit editions e₁ es ring head tail scratch) (one_events_scratch limit editions e₂ es ring head tail scratch)
      (one_events_words limit editions e₁ es ring head tail scratch words) (one_events_words limit editions e₂ es ring head tail scratch words)
  older-event-call = fair-event-call editions editions-rise e₁ e₂ order is₁ is₂
