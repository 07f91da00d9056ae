-- Laws of the reader of one record with a table: what is made of its frame. Assumes nothing.
use Rattle.std.proofs.Common.{◌≡◌, ℕ, Bool, cond, List, sym, ap, ◌∙◌}
use Rattle.meaning.specs.declared.Event.{Event}
use Rattle.meaning.specs.States.{Frame}
use Rattle.meaning.specs.declared.Known.{Known}
use Rattle.meaning.specs.Editions.{known}
use Rattle.meaning.specs.Ring.{record_at, scratch_after}
use Rattle.meaning.specs.Events.{inspected, one_events_frame, one_events_scratch}
use Rattle.event_laws.specs.Told.{read_event_answer, read_event_words}
use Rattle.one.specs.Told.{told_stop, told_taken}
use Rattle.event_one.specs.Told.{with_inspected, one_events_told, one_events_words}

-- what is made of a frame, by whether it goes on
pick : {A : Type 0} (some none : Frame → A) (f g : Frame) → f ≡ g → (b : Bool) → f.go ≡ b → cond b (some f) (none f) ≡ cond g.go (some g) (none g)
pick some none f g e b h = ap (λ (x : Bool). cond x (some f) (none f)) (sym h) ∙ ap (λ (y : Frame). cond y.go (some y) (none y)) e

module _ (limit : ℕ) (rows : List Known) (e : ℕ) (es : List Event) (ring : List ℕ) (head tail : ℕ) (scratch words : List ℕ) (f : Frame)
    (fe : f ≡ one_events_frame limit rows e es ring head tail scratch) where
  abbrev read : Frame → List ℕ
  read f = record_at ring f.place f.size

  pub told-frame : (b : Bool) → f.go ≡ b
      → cond b (with_inspected (told_taken ring f tail (read_event_answer rows e es (read f) words)) (inspected (known rows e) es (read f))) (told_stop f tail) ≡ one_events_told limit rows e es ring head tail scratch words
  unfolding one_events_told
  told-frame = pick (λ f. with_inspected (told_taken ring f tail (read_event_answer rows e es (read f) words)) (inspected (known rows e) es (read f))) (λ f. told_stop f tail) f _ fe

  pub scratch-frame : (b : Bool) → f.go ≡ b → cond b (scratch_after ring f.place f.size scratch) scratch ≡ one_events_scratch limit rows e es ring head tail scratch
  unfolding one_events_scratch
  scratch-frame = pick (λ f. scratch_after ring f.place f.size scratch) (λ f. scratch) f _ fe

  pub words-frame : (b : Bool) → f.go ≡ b → cond b (read_event_words rows e es (read f) words) words ≡ one_events_words limit rows e es ring head tail scratch words
  unfolding one_events_words
  words-frame = pick (λ f. read_event_words rows e es (read f) words) (λ f. words) f _ fe
