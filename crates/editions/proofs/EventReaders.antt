-- Demand 3 for the reader of one record with a table; and what it reads of a record that has an event. Assumes nothing.
use Rattle.std.specs.Prelude.{◌≡◌, List, ◌&&◌, ℕ, ◌≤◌, length}
use Rattle.std.proofs.Math.Path.{refl, sym, ap, ap₂, subst}
use Rattle.std.proofs.Common.{◌∙◌, ne_eqb}
use Rattle.std.proofs.Math.Bool.{Bool, true, false, cond}
use Rattle.meaning.specs.declared.Attributes.{Attributes}
use Rattle.meaning.specs.States.{Frame, One}
use Rattle.meaning.specs.declared.Known.{Known}
use Rattle.meaning.specs.Bytes.{zeros}
use Rattle.meaning.specs.Editions.{allowed, known, outside, is_unknown}
use Rattle.meaning.specs.Records.{layout, judge}
use Rattle.meaning.specs.Values.{record_words, read_answered}
use Rattle.meaning.specs.Ring.{Asked, asking_with, frame, record_at, scratch_after, one_frame, taken_by, taken, not_taken, read_one}
use Rattle.laws.specs.Bytes.{apart}
use Rattle.editions.specs.Fairness.{rising, Fair}
use Rattle.editions.proofs.OneRecord.{fair-free}
use Rattle.meaning.specs.declared.Event.{Event}
use Rattle.meaning.specs.Events.{attributes_of, event_for, has_event, sound, layout_for, judge_events, event_depends, one_events_frame, taken_events, read_one_events, one_events_scratch}
use Rattle.laws.specs.Matched.{judge-found, sound-marked, asked-sound}
use Rattle.editions.specs.EventPromise.{EventWords, one_events_outside, OneEventsFair}
use Rattle.editions.proofs.EventRecord.{event-fair}

module _ (limit : ℕ) (rows : List Known) (up : rising rows ≡ true) (e₁ e₂ : ℕ) (order : e₁ ≤ e₂) (is₁ : allowed rows e₁ ≡ true) (is₂ : allowed rows e₂ ≡ true)
    (es : List Event) (ws : EventWords es) (ring : List ℕ) (head tail : ℕ) (scratch : List ℕ) where
  frames-alike : one_events_frame limit rows e₁ es ring head tail scratch ≡ one_events_frame limit rows e₂ es ring head tail scratch
  frames-alike = ap (λ (b : Bool). frame (asking_with b (sound limit es)) ring head tail 1 16 (length scratch)) (is₁ ∙ sym is₂)

  -- a record with its answer, or a stop
  abbrev one : ℕ → Frame → Bool → One
  one e f b = cond b (taken_events (known rows e) es f (record_at ring f.place f.size) tail) (not_taken f tail)

  -- the newer edition's, with the older's frame
  newer : read_one_events limit rows e₂ es ring head tail scratch ≡ one e₂ (one_events_frame limit rows e₁ es ring head tail scratch) (one_events_frame limit rows e₁ es ring head tail scratch).go
  unfolding read_one_events
  newer = ap (λ (f : Frame). one e₂ f f.go) (sym frames-alike)

  taken-alike : (f : Frame) (xs : List ℕ) → judge_events (known rows e₁) es xs ≡ judge_events (known rows e₂) es xs
      → taken_events (known rows e₁) es f xs tail ≡ taken_events (known rows e₂) es f xs tail
  unfolding taken_events record_words layout
  taken-alike f xs q =
      ap (λ (n : ℕ). taken_by f tail n (record_words (layout_for (known rows e₁) es xs) xs)) q

  fair-one : (f : Frame) (b : Bool) → Fair (one e₁ f b).answer (one e₂ f b).answer (b && outside (known rows e₁) (event_depends es (record_at ring f.place f.size)))
  unfolding taken_events not_taken is_unknown
  fair-one f true = event-fair rows up e₁ e₂ order is₂ es ws (record_at ring f.place f.size)
  fair-one f false = fair-free 0 refl

  same-one : (f : Frame) (b : Bool) → (b && outside (known rows e₁) (event_depends es (record_at ring f.place f.size))) ≡ false → one e₁ f b ≡ one e₂ f b
  same-one f true o =
      let r : List ℕ = record_at ring f.place f.size in
      taken-alike f r ((event-fair rows up e₁ e₂ order is₂ es ws r).alike o)
  same-one f false o = refl

  moves-alike : (f : Frame) (b : Bool) → ((one e₁ f b).frame ≡ (one e₂ f b).frame) × ((one e₁ f b).tail ≡ (one e₂ f b).tail)
  unfolding taken_events not_taken
  moves-alike f true = (refl, refl)
  moves-alike f false = (refl, refl)

  -- a refusal carries no value
  refused : (f : Frame) (b : Bool) → is_unknown (one e₁ f b).answer ≡ true → (one e₁ f b).words ≡ zeros 56
  unfolding taken_events not_taken read_answered is_unknown
  refused f true u = rw (ne_eqb (judge_events (known rows e₁) es (record_at ring f.place f.size)) 0 (λ z. apart (ap is_unknown (sym z) ∙ u)))
  refused f false u = refl

  pub one-events-fair : OneEventsFair limit rows e₁ e₂ es ring head tail scratch
  unfolding read_one_events one_events_scratch
  one-events-fair =
      let f : Frame = one_events_frame limit rows e₁ es ring head tail scratch in
      let b : Bool = f.go in
      let w = subst (λ (x : One). Fair (one e₁ f b).answer x.answer (one_events_outside limit rows e₁ es ring head tail scratch)) (sym newer) (fair-one f b) in
      record {
        frame-alike = (moves-alike f b).0 ∙ ap (λ (x : One). x.frame) (sym newer);
        tail-alike = (moves-alike f b).1 ∙ ap (λ (x : One). x.tail) (sym newer);
        scratch-alike = ap (λ (g : Frame). cond g.go (scratch_after ring g.place g.size scratch) scratch) frames-alike;
        fair = w;
        same = λ o. same-one f b o ∙ sym newer;
        empty = λ o. refused f b (w.exact ∙ o);
      }

-- of a record that has an event, under a sound table, it reads what the reader with that event's attributes does
pub one-event-reads : (limit : ℕ) (rows : List Known) (e : ℕ) (es : List Event) (ring : List ℕ) (head tail : ℕ) (scratch : List ℕ) → sound limit es ≡ true
    → (one_frame rows e ring head tail scratch).go ≡ true
    → has_event es (record_at ring (one_frame rows e ring head tail scratch).place (one_frame rows e ring head tail scratch).size) ≡ true
    → read_one_events limit rows e es ring head tail scratch
    ≡ read_one rows e (attributes_of (event_for es (record_at ring (one_frame rows e ring head tail scratch).place (one_frame rows e ring head tail scratch).size))) ring head tail scratch
unfolding read_one_events read_one
one-event-reads limit rows e es ring head tail scratch s g h =
    let f : Frame = one_frame rows e ring head tail scratch in
    let r : List ℕ = record_at ring f.place f.size in
    let a : Attributes = attributes_of (event_for es r) in
    let q : one_events_frame limit rows e es ring head tail scratch ≡ f = ap (λ (x : Asked). frame x ring head tail 1 16 (length scratch)) (asked-sound limit rows e es s) in
    let j : judge_events (known rows e) es r ≡ judge (layout (known rows e) a) r = judge-found (known rows e) es r (sound-marked limit es s) h in
    ap (λ (x : Frame). cond x.go (taken_events (known rows e) es x (record_at ring x.place x.size) tail) (not_taken x tail)) q
    ∙ by f.go (not_taken f tail) g (alike f r a j refl)
  where
    alike : (f : Frame) (r : List ℕ) (a : Attributes) → judge_events (known rows e) es r ≡ judge (layout (known rows e) a) r → a ≡ attributes_of (event_for es r)
        → taken_events (known rows e) es f r tail ≡ taken (layout (known rows e) a) f r tail
    alike f r a j ea = unfold taken_events in unfold taken in
        ap₂ (λ (n : ℕ) (b : Attributes). taken_by f tail n (record_words (layout (known rows e) b) r)) j (sym ea)

    by : (b : Bool) (z : One) → b ≡ true → {x y : One} → x ≡ y → cond b x z ≡ cond b y z
    by true z e p = p
    by false z e p = absurd (apart e)
