-- The frame is the chain's, row 11 among its rows; what is shown after the gathering is the record, read under its event into the lent words.
use Rattle.std.proofs.Common.{◌≡◌, ℕ, ◌<◌, Bool, true, false, List, length, ap, ◌∙◌, ap₂, le_trans, le_of_lt, arith}
use Rattle.std.specs.Prelude.{refl, Ok, Err, Some, None}
use borrow.Author.Tests.{not-false}
use Rattle.meaning.specs.Reasons.{frame_of}
use Rattle.meaning.specs.States.{Frame}
use Rattle.meaning.specs.declared.Judged.{Judged}
use Rattle.meaning.specs.declared.Event.{Event}
use Rattle.meaning.specs.Editions.{editions, known, allowed}
use Rattle.meaning.specs.Ring.{asking_with, frame, record_at, scratch_after, shown}
use Rattle.meaning.specs.Events.{inspected, judged, asked_events, one_events_frame, sound}
use Rattle.laws.specs.Rings.{Going, shown-record, going-length}
use Rattle.laws.proofs.Framing.{frame-going}
use Rattle.event_laws.specs.Sound.{sound-limit}
use Rattle.one.specs.Told.{told_taken}
use Rattle.event_laws.specs.Told.{read_event_answer, read_event_words}
use Rattle.event_one.specs.Told.{with_inspected}
use Rattle.event_one.proofs.Laws.{told-frame, scratch-frame, words-frame}
use Rattle.event_one.proofs.read_one_events.Goals as goal

module _ (limit e : ℕ) (es : List Event) (ring : List ℕ) (head tail : ℕ) (scratch : List ℕ) (f : Frame) where
  framed : (ok table : Bool) → f ≡ frame (asking_with ok table) ring head tail 1 16 (length scratch) → ok ≡ allowed editions e → table ≡ sound limit es
      → f ≡ one_events_frame limit editions e es ring head tail scratch
  framed ok table is by_edition by_table =
      is ∙ ap₂ (λ (b k : Bool). frame (asking_with b k) ring head tail 1 16 (length scratch)) by_edition by_table

  going : f ≡ one_events_frame limit editions e es ring head tail scratch → f.go ≡ true
      → Going (asked_events limit editions e es) ring head tail 1 16 (length scratch) f
  going is go = frame-going _ _ _ _ _ _ _ f is go

  -- what is shown of the ring and the gathered scratch is the record, whichever of them it lies in
  bytes : f ≡ one_events_frame limit editions e es ring head tail scratch → f.go ≡ true
      → (s r : List ℕ) → s ≡ scratch_after ring f.place f.size scratch → r ≡ shown ring s f → r ≡ record_at ring f.place f.size
  bytes is go s r gathered shows =
      let w = going is go in
      shows ∙ ap (λ (y : List ℕ). shown ring y f) gathered
      ∙ shown-record ring scratch f go (le_of_lt w.inside) (le_trans w.size-near w.near) w.fits

pub returns-in-Err : goal.returns-in-Err
returns-in-Err c =
    let s = c.args in
    let es = s.events.now in
    let f = frame_of (Err c.in-Err.reason) in
    let v = c.in-Err.ensures.value in
    let e = framed s.limit s.e es s.ring.now s.head s.tail s.scratch.now f _ _ v c.allowed-ok.ensures c.sound-table.ensures in
    record {
      value = c.told_stop.ensures ∙ told-frame s.limit editions s.e es s.ring.now s.head s.tail s.scratch.now s.words.now f e false refl;
      scratch_after = c.in-Err.ensures.scratch_after ∙ scratch-frame s.limit editions s.e es s.ring.now s.head s.tail s.scratch.now s.words.now f e false refl;
      words_after = words-frame s.limit editions s.e es s.ring.now s.head s.tail s.scratch.now s.words.now f e false refl;
    }

pub returns-in_default : goal.returns-in_default
returns-in_default c =
    let s = c.args in
    let es = s.events.now in
    let f = frame_of (Ok None) in
    let v = rw c.in_default.is at c.in-Ok.ensures.value in
    let e = framed s.limit s.e es s.ring.now s.head s.tail s.scratch.now f _ _ v c.allowed-ok.ensures c.sound-table.ensures in
    let w = rw c.in_default.is at c.in-Ok.ensures.scratch_after in
    record {
      value = c.told_stop-in_default.ensures ∙ told-frame s.limit editions s.e es s.ring.now s.head s.tail s.scratch.now s.words.now f e false refl;
      scratch_after = w ∙ scratch-frame s.limit editions s.e es s.ring.now s.head s.tail s.scratch.now s.words.now f e false refl;
      words_after = words-frame s.limit editions s.e es s.ring.now s.head s.tail s.scratch.now s.words.now f e false refl;
    }

pub read_event-j-requires : goal.read_event-j-requires
read_event-j-requires c =
    let s = c.args in
    let es = s.events.now in
    let f = frame_of (Ok (Some c.in-Some.found)) in
    let v = rw c.in-Some.is at c.in-Ok.ensures.value in
    let e = framed s.limit s.e es s.ring.now s.head s.tail s.scratch.now f _ _ v c.allowed-ok.ensures c.sound-table.ensures in
    let w = rw c.in-Some.is at c.in-Ok.ensures.scratch_after in
    let x = bytes s.limit s.e es s.ring.now s.head s.tail s.scratch.now f e refl _ _ w c.record_shown-r.ensures.result_value in
    let g = going s.limit s.e es s.ring.now s.head s.tail s.scratch.now f e refl in
    let t = sound-limit s.limit es (not-false _ g.beside.1.0) in
    let n : length s.events.now < 4294967296 = omega (arith, c.ranges.limit.fits, t) in
    (omega (arith, g.size_low, ap length x, going-length _ _ _ _ _ _ _ _ g), n)

pub returns : goal.returns
returns c =
    let s = c.args in
    let es = s.events.now in
    let f = frame_of (Ok (Some c.in-Some.found)) in
    let v = rw c.in-Some.is at c.in-Ok.ensures.value in
    let e = framed s.limit s.e es s.ring.now s.head s.tail s.scratch.now f _ _ v c.allowed-ok.ensures c.sound-table.ensures in
    let w = rw c.in-Some.is at c.in-Ok.ensures.scratch_after in
    let x = bytes s.limit s.e es s.ring.now s.head s.tail s.scratch.now f e refl _ _ w c.record_shown-r.ensures.result_value in
    record {
      value = c.told_taken.ensures
          ∙ ap (λ (j : Judged). with_inspected (told_taken s.ring.now f s.tail j.answer) j.inspected)
          (c.read_event-j.ensures.value ∙ ap (λ (l : List ℕ). judged (read_event_answer editions s.e es l s.words.now) (inspected (known editions s.e) es l)) x)
          ∙ told-frame s.limit editions s.e es s.ring.now s.head s.tail s.scratch.now s.words.now f e true refl;
      scratch_after = w ∙ scratch-frame s.limit editions s.e es s.ring.now s.head s.tail s.scratch.now s.words.now f e true refl;
      words_after = c.read_event-j.ensures.words_after
          ∙ ap (λ (l : List ℕ). read_event_words editions s.e es l s.words.now) x
          ∙ words-frame s.limit editions s.e es s.ring.now s.head s.tail s.scratch.now s.words.now f e true refl;
    }
