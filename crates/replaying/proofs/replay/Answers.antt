-- 1, 2, 5 and 11 are the rows of a call at one count; past them the table is sound, the edition one, and the two halves are all.
use mathlib.Core.Path.{◌≡◌, sym, ap, ◌∙◌, subst}
use mathlib.Core.List.{List}
use mathlib.Core.Bool.{true}
use Prim.Native.Nat.{ℕ, ◌+◌}
use lib.ListN.{length}
use borrow.Author.Rules.{rules}
use Rattle.meaning.specs.Refusals.{first}
use Rattle.meaning.specs.Editions.{editions, known}
use Rattle.meaning.specs.Ring.{asking_with, call_rows, length_allowed}
use Rattle.meaning.specs.Events.{asked_events, judge_events}
use Rattle.replay.specs.Replay.{Played, half, replay_told, rooms_of}
use Rattle.replay.proofs.Playing.{whole, call-refused, call_played, call_passes}
use Rattle.laws.specs.Reasons.{number-some}
use Rattle.meaning.specs.Reasons.{number_of}
use Rattle.replay.specs.Steps.{begun}
use Rattle.replaying.proofs.replay.Goals as goal

pub returns-in-Err : goal.returns-in-Err
returns-in-Err c =
    let a = c.args in
    let r = c.in-Err.refused in
    let ok = c.allowed-ok.ensures in
    let table = c.sound-table.ensures in
    let n = c.half_of-h.ensures in
    let rows = c.in-Err.ensures ∙ (λ i. first (call_rows (asking_with (ok i) (table i)) (n i) a.count a.count) 0) in
    let z =
    call-refused (asked_events a.limit editions a.e a.events.now) (judge_events (known editions a.e) a.events.now) a.trace.now a.count
    a.rooms.now a.journal.now c.ranges.count.fits (number_of r) rows (number-some r) in
    record { value = c.begin.ensures ∙ ap (begun a.count) c.number.ensures ∙ z.0; rooms_after = z.1.0; journal_after = z.1.1 }

pub play-requires : goal.play-requires
play-requires c =
    let a = c.args in
    let ok = c.allowed-ok.ensures in
    let table = c.sound-table.ensures in
    let h = c.half_of-h.ensures in
    let rows = c.in-Ok.ensures ∙ (λ i. first (call_rows (asking_with (ok i) (table i)) (h i) a.count a.count) 0) in
    let n = sym c.half_of-h.ensures in
    let z =
    call_passes (asked_events a.limit editions a.e a.events.now) (judge_events (known editions a.e) a.events.now) a.trace.now a.count
    a.rooms.now a.journal.now c.ranges.count.fits (sym rows) in
    record { h_value = subst (λ (k : ℕ). length_allowed k ≡ true) n z.0; rooms_len = z.1.0 ∙ ap (λ (k : ℕ). k + k) n; count_value = z.1.1 }

pub returns-in-Ok : goal.returns-in-Ok
returns-in-Ok c =
    let a = c.args in
    let ok = c.allowed-ok.ensures in
    let table = c.sound-table.ensures in
    let h = c.half_of-h.ensures in
    let rows = c.in-Ok.ensures ∙ (λ i. first (call_rows (asking_with (ok i) (table i)) (h i) a.count a.count) 0) in
    let judge : List ℕ → ℕ = judge_events (known editions a.e) a.events.now in
    let z =
    ap (λ (k : ℕ). whole judge a.trace.now k a.count a.rooms.now a.journal.now) c.half_of-h.ensures
    ∙ call_played (asked_events a.limit editions a.e a.events.now) judge a.trace.now a.count
    a.rooms.now a.journal.now c.ranges.count.fits (sym rows) in
    record { value = c.play.ensures.value ∙ ap replay_told z; rooms_after = c.play.ensures.rooms_after ∙ ap rooms_of z; journal_after = c.play.ensures.journal_after ∙ ap (λ (p : Played). p.now.journal) z }
