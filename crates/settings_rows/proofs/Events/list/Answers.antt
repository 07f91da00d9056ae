-- What is listed so far are the identifiers of the first events, and whether each has its bit; each turn adds one event.
use Rattle.std.specs.Prelude.{◌≡◌, refl, ◌&&◌, List, ◌++◌, ℕ, ◌+◌, drop, set}
use Rattle.std.proofs.Common.{ap, ◌∙◌, arith}
use Rattle.meaning.specs.Bytes.{number_at, bit}
use Rattle.settings.specs.Versions.{row_of, place_of}
use Rattle.settings.specs.Reading.{rows_of}
use Rattle.settings.proofs.Steps.{listed_next, marked_next}
use Rattle.meaning.specs.Events.{identifiers, events_of, all_marked}
use Rattle.settings_rows.proofs.Events.list.Goals as goal

pub loop-i-init : goal.loop-i-init
unfolding rows_of all_marked
loop-i-init c = (refl, refl)

pub u64_at-requires : goal.u64_at-requires
u64_at-requires c = omega (arith, c.words_at-p.ensures.inside)

pub loop-i-preserved : goal.loop-i-preserved
loop-i-preserved c =
    let a = c.args in
    let l = c.loop-i in
    let v = row_of a.self.version in
    let xs = a.self.bytes.now in
    let p = c.words_at-p.ensures.value in
    let x : c.u64_at.result ≡ number_at 8 xs (place_of v l.i + (6 + a.self.version.width)) = c.u64_at.ensures ∙ ap (number_at 8 xs) p in
    let y : c.u64_at-in-loop-i.result ≡ number_at 8 xs (place_of v l.i + (6 + a.self.version.width) + 8) =
    c.u64_at-in-loop-i.ensures ∙ ap (λ (k : ℕ). number_at 8 xs (k + 8)) p in (
      ap (λ (d : List ℕ). set d l.i c.u64_at.result) l.invariant.0
          ∙ ap (λ (q : ℕ). set (identifiers (events_of (rows_of v xs l.i)) ++ drop l.i a.ids.now) l.i q) x
          ∙ listed_next v xs a.ids.now l.i (omega (arith, c.loop-i-test.true, c.requires)),
      (λ j. l.invariant.1 j && (c.has_bit-ok.ensures ∙ ap (λ (q : ℕ). bit q 16) y) j) ∙ marked_next v xs l.i,
    )

pub returns : goal.returns
returns c =
    let a = c.args in
    let l = c.loop-i in
    let v = row_of a.self.version in
    let xs = a.self.bytes.now in
    let e : l.i ≡ a.self.count = omega (arith, c.loop-i-test.false, l.auto.i-end) in
    record {
      value = l.invariant.1 ∙ ap (λ (k : ℕ). all_marked (events_of (rows_of v xs k))) e;
      ids_after = l.invariant.0 ∙ (λ j. identifiers (events_of (rows_of v xs (e j))) ++ drop (e j) a.ids.now);
    }
