-- The tests go down the rows of the last entry, and then those of what follows it; a row that is not refused passes to the next.
use mathlib.Core.Path.{◌≡◌, refl, sym, ap, ◌∙◌}
use mathlib.Core.Bool.{true, false}
use mathlib.Core.List.{[], ◌∷◌}
use Prim.Native.Nat.{◌+◌, ◌≤◌}
use native.Mathlib.Omega.{arith}
use lib.ListN.{length}
use lib.Dec.{eqb}
use borrow.Author.Tests.{not-true, not-false, eqb-true, eqb-false}
use Rattle.meaning.specs.Bytes.{number_at}
use Rattle.meaning.specs.Editions.{editions, allowed}
use Rattle.meaning.specs.Ring.{length_allowed}
use Rattle.meaning.specs.Refusals.{first}
use Rattle.entries.specs.Entries.{Entry}
use Rattle.entries.specs.Entries.{no_entry, entry_at}
use Rattle.settings.specs.Versions.{Version, row_of}
use Rattle.settings.specs.Reading.{is_event_of, fits, after_rows}
use Rattle.settings.proofs.Steps.{last-51, last-kind, last-ring, last-edition, last-0, last-room, after-0, after-51, after-52}
use borrow.Author.Rules.{rules}
use Rattle.settings_walk.proofs.last_answer.Goals as goal

-- no entry fits nothing
none-fits : (v : Version) → fits (v ∷ []) no_entry ≡ false
unfolding fits is_event_of
none-fits v = refl

pub returns-in_default : goal.returns-in_default
returns-in_default c =
    let a = c.args in
    let xs = a.bytes.now in
    let rest = first (after_rows (row_of a.v) xs (a.at + 19)) 0 in
    sym (last-51 (row_of a.v) editions xs a.at rest (ap (fits (row_of a.v ∷ [])) (sym c.in_default.ensures) ∙ none-fits (row_of a.v)))

pub returns-then-not-fits : goal.returns-then-not-fits
returns-then-not-fits c =
    let a = c.args in
    let xs = a.bytes.now in
    let rest = first (after_rows (row_of a.v) xs (a.at + 19)) 0 in
    sym (last-51 (row_of a.v) editions xs a.at rest (ap (fits (row_of a.v ∷ [])) (sym c.in-Some.ensures) ∙ sym c.fits.ensures ∙ c.if-not-fits.true))

pub returns-then-not-is_of : goal.returns-then-not-is_of
returns-then-not-is_of c =
    let good = ap (fits ((row_of c.args.v) ∷ [])) (sym c.in-Some.ensures) ∙ sym c.fits.ensures ∙ c.if-not-fits.false in
    let a = c.args in
    let xs = a.bytes.now in
    let rest = first (after_rows (row_of a.v) xs (a.at + 19)) 0 in
    sym (last-kind (row_of a.v) editions xs a.at rest good (eqb-false _ 3 (ap (λ (q : Entry). eqb q.kind 3) (sym c.in-Some.ensures) ∙ sym c.is_of.ensures ∙ c.if-not-is_of.true)))

pub overflow_add-at : goal.overflow_add-at
overflow_add-at c =
    let good = ap (fits ((row_of c.args.v) ∷ [])) (sym c.in-Some.ensures) ∙ sym c.fits.ensures ∙ c.if-not-fits.false in
    let third = ap (λ (q : Entry). q.kind) (sym c.in-Some.ensures) ∙ eqb-true _ 3 (sym c.is_of.ensures ∙ c.if-not-is_of.false) in
    omega (arith, last-room (row_of c.args.v) editions c.args.bytes.now c.args.at 0 good third, c.well_formed)

pub u64_at-requires : goal.u64_at-requires
u64_at-requires c =
    let good = ap (fits ((row_of c.args.v) ∷ [])) (sym c.in-Some.ensures) ∙ sym c.fits.ensures ∙ c.if-not-fits.false in
    let third = ap (λ (q : Entry). q.kind) (sym c.in-Some.ensures) ∙ eqb-true _ 3 (sym c.is_of.ensures ∙ c.if-not-is_of.false) in
    omega (arith, last-room (row_of c.args.v) editions c.args.bytes.now c.args.at 0 good third)

pub returns-then-not-length_allowed : goal.returns-then-not-length_allowed
returns-then-not-length_allowed c =
    let good = ap (fits ((row_of c.args.v) ∷ [])) (sym c.in-Some.ensures) ∙ sym c.fits.ensures ∙ c.if-not-fits.false in
    let third = ap (λ (q : Entry). q.kind) (sym c.in-Some.ensures) ∙ eqb-true _ 3 (sym c.is_of.ensures ∙ c.if-not-is_of.false) in
    let a = c.args in
    let xs = a.bytes.now in
    let rest = first (after_rows (row_of a.v) xs (a.at + 19)) 0 in
    sym (last-ring (row_of a.v) editions xs a.at rest good third
    (ap length_allowed (sym c.u64_at.ensures) ∙ sym c.length_allowed.ensures ∙ c.if-not-length_allowed.true))

pub overflow_add-at-2 : goal.overflow_add-at-2
overflow_add-at-2 c =
    let good = ap (fits ((row_of c.args.v) ∷ [])) (sym c.in-Some.ensures) ∙ sym c.fits.ensures ∙ c.if-not-fits.false in
    let third = ap (λ (q : Entry). q.kind) (sym c.in-Some.ensures) ∙ eqb-true _ 3 (sym c.is_of.ensures ∙ c.if-not-is_of.false) in
    omega (arith, last-room (row_of c.args.v) editions c.args.bytes.now c.args.at 0 good third, c.well_formed)

pub u8_at-requires : goal.u8_at-requires
u8_at-requires c =
    let good = ap (fits ((row_of c.args.v) ∷ [])) (sym c.in-Some.ensures) ∙ sym c.fits.ensures ∙ c.if-not-fits.false in
    let third = ap (λ (q : Entry). q.kind) (sym c.in-Some.ensures) ∙ eqb-true _ 3 (sym c.is_of.ensures ∙ c.if-not-is_of.false) in
    omega (arith, last-room (row_of c.args.v) editions c.args.bytes.now c.args.at 0 good third)

pub returns-then-not-allowed : goal.returns-then-not-allowed
returns-then-not-allowed c =
    let good = ap (fits ((row_of c.args.v) ∷ [])) (sym c.in-Some.ensures) ∙ sym c.fits.ensures ∙ c.if-not-fits.false in
    let third = ap (λ (q : Entry). q.kind) (sym c.in-Some.ensures) ∙ eqb-true _ 3 (sym c.is_of.ensures ∙ c.if-not-is_of.false) in
    let ringed = ap length_allowed (sym c.u64_at.ensures) ∙ sym c.length_allowed.ensures ∙ c.if-not-length_allowed.false in
    let a = c.args in
    let xs = a.bytes.now in
    let rest = first (after_rows (row_of a.v) xs (a.at + 19)) 0 in
    sym (last-edition (row_of a.v) editions xs a.at rest good third ringed
    (ap (allowed editions) (sym c.u8_at.ensures.0) ∙ sym c.allowed.ensures ∙ c.if-not-allowed.true))

pub overflow_add-at-3 : goal.overflow_add-at-3
overflow_add-at-3 c =
    let good = ap (fits ((row_of c.args.v) ∷ [])) (sym c.in-Some.ensures) ∙ sym c.fits.ensures ∙ c.if-not-fits.false in
    let third = ap (λ (q : Entry). q.kind) (sym c.in-Some.ensures) ∙ eqb-true _ 3 (sym c.is_of.ensures ∙ c.if-not-is_of.false) in
    omega (arith, last-room (row_of c.args.v) editions c.args.bytes.now c.args.at 0 good third, c.well_formed)

pub returns-then-at-bytes : goal.returns-then-at-bytes
returns-then-at-bytes c =
    let good = ap (fits ((row_of c.args.v) ∷ [])) (sym c.in-Some.ensures) ∙ sym c.fits.ensures ∙ c.if-not-fits.false in
    let third = ap (λ (q : Entry). q.kind) (sym c.in-Some.ensures) ∙ eqb-true _ 3 (sym c.is_of.ensures ∙ c.if-not-is_of.false) in
    let ringed = ap length_allowed (sym c.u64_at.ensures) ∙ sym c.length_allowed.ensures ∙ c.if-not-length_allowed.false in
    let edition = ap (allowed editions) (sym c.u8_at.ensures.0) ∙ sym c.allowed.ensures ∙ c.if-not-allowed.false in
    let a = c.args in
    let xs = a.bytes.now in
    let rest = first (after_rows (row_of a.v) xs (a.at + 19)) 0 in
    sym (last-0 (row_of a.v) editions xs a.at rest good third ringed edition ∙ after-0 (row_of a.v) xs (a.at + 19) 0 c.if-at-bytes.true)

pub overflow_add-at-4 : goal.overflow_add-at-4
overflow_add-at-4 c =
    let good = ap (fits ((row_of c.args.v) ∷ [])) (sym c.in-Some.ensures) ∙ sym c.fits.ensures ∙ c.if-not-fits.false in
    let third = ap (λ (q : Entry). q.kind) (sym c.in-Some.ensures) ∙ eqb-true _ 3 (sym c.is_of.ensures ∙ c.if-not-is_of.false) in
    omega (arith, last-room (row_of c.args.v) editions c.args.bytes.now c.args.at 0 good third, c.well_formed)

pub returns-in_default-entry_at : goal.returns-in_default-entry_at
returns-in_default-entry_at c =
    let good = ap (fits ((row_of c.args.v) ∷ [])) (sym c.in-Some.ensures) ∙ sym c.fits.ensures ∙ c.if-not-fits.false in
    let third = ap (λ (q : Entry). q.kind) (sym c.in-Some.ensures) ∙ eqb-true _ 3 (sym c.is_of.ensures ∙ c.if-not-is_of.false) in
    let ringed = ap length_allowed (sym c.u64_at.ensures) ∙ sym c.length_allowed.ensures ∙ c.if-not-length_allowed.false in
    let edition = ap (allowed editions) (sym c.u8_at.ensures.0) ∙ sym c.allowed.ensures ∙ c.if-not-allowed.false in
    let a = c.args in
    let xs = a.bytes.now in
    let rest = first (after_rows (row_of a.v) xs (a.at + 19)) 0 in
    sym (last-0 (row_of a.v) editions xs a.at rest good third ringed edition ∙ after-51 (row_of a.v) xs (a.at + 19) 0 c.if-at-bytes.false
    (ap (fits (row_of a.v ∷ [])) (sym c.in_default-entry_at.ensures) ∙ none-fits (row_of a.v)))

pub returns-then-not-fits-2 : goal.returns-then-not-fits-2
returns-then-not-fits-2 c =
    let good = ap (fits ((row_of c.args.v) ∷ [])) (sym c.in-Some.ensures) ∙ sym c.fits.ensures ∙ c.if-not-fits.false in
    let third = ap (λ (q : Entry). q.kind) (sym c.in-Some.ensures) ∙ eqb-true _ 3 (sym c.is_of.ensures ∙ c.if-not-is_of.false) in
    let ringed = ap length_allowed (sym c.u64_at.ensures) ∙ sym c.length_allowed.ensures ∙ c.if-not-length_allowed.false in
    let edition = ap (allowed editions) (sym c.u8_at.ensures.0) ∙ sym c.allowed.ensures ∙ c.if-not-allowed.false in
    let a = c.args in
    let xs = a.bytes.now in
    let rest = first (after_rows (row_of a.v) xs (a.at + 19)) 0 in
    sym (last-0 (row_of a.v) editions xs a.at rest good third ringed edition ∙ after-51 (row_of a.v) xs (a.at + 19) 0 c.if-at-bytes.false
    (ap (fits (row_of a.v ∷ [])) (sym c.in-Some-entry_at.ensures) ∙ sym c.fits-2.ensures ∙ c.if-not-fits-2.true))

pub returns : goal.returns
returns c =
    let good = ap (fits ((row_of c.args.v) ∷ [])) (sym c.in-Some.ensures) ∙ sym c.fits.ensures ∙ c.if-not-fits.false in
    let third = ap (λ (q : Entry). q.kind) (sym c.in-Some.ensures) ∙ eqb-true _ 3 (sym c.is_of.ensures ∙ c.if-not-is_of.false) in
    let ringed = ap length_allowed (sym c.u64_at.ensures) ∙ sym c.length_allowed.ensures ∙ c.if-not-length_allowed.false in
    let edition = ap (allowed editions) (sym c.u8_at.ensures.0) ∙ sym c.allowed.ensures ∙ c.if-not-allowed.false in
    let a = c.args in
    let xs = a.bytes.now in
    let rest = first (after_rows (row_of a.v) xs (a.at + 19)) 0 in
    sym (last-0 (row_of a.v) editions xs a.at rest good third ringed edition ∙ after-52 (row_of a.v) xs (a.at + 19) 0 c.if-at-bytes.false
    (ap (fits (row_of a.v ∷ [])) (sym c.in-Some-entry_at.ensures) ∙ sym c.fits-2.ensures ∙ c.if-not-fits-2.false))
