-- What the contracts read of answers, steps and next records tells them apart: no two reasons have one number, and none
-- has 0. So two results of which the same is read are equal. Those of single crates are in Results. Assumes nothing.
use Rattle.std.specs.Prelude.{◌≡◌, refl, ℕ, cond, eqb, Result, Ok, Err, Option, Some, None}
use Rattle.std.proofs.Common.{sym, ap, ◌∙◌}
use Rattle.meaning.specs.declared.Reason.{Reason}
use Rattle.meaning.specs.declared.Reason.TheVariants.{RingLength, UnknownEdition, ShortScratch, FarApart, Unaligned, RecordSize, NotWhole, BudgetSpent, JournalFull, BadTable, NameRoom, Overwritten, UnknownType, SampleBits, FormatBits, BuildIdForm, TwoWeights, BranchBits, UnknownIdentifier, NoIdentifier, TooShort, LeftOver, InnerRule, NameZero, NoRoom, OutsideSource, NoSuchRecord, FlagSet, DirtyName, UnknownVersion, BrokenEntry, Misplaced, BadOffer, SalvageRoom}
use Rattle.meaning.specs.declared.Found.{Found}
use Rattle.meaning.specs.declared.Spot.{Spot}
use Rattle.meaning.specs.States.{Cursor, Frame}
use Rattle.blocks.specs.Seen.{Place, place_of}
use Rattle.meaning.specs.Reasons.{number_of, answer_of, frame_of, cursor_of, stepped}

-- the answer with a number; of a number that no reason has, that nothing is refused
abbrev pub answer_with : ℕ → Result (Unit {0}) Reason
answer_with n =
    cond (eqb n 1) (Err RingLength) (
    cond (eqb n 2) (Err UnknownEdition) (
    cond (eqb n 3) (Err ShortScratch) (
    cond (eqb n 4) (Err FarApart) (
    cond (eqb n 5) (Err Unaligned) (
    cond (eqb n 6) (Err RecordSize) (
    cond (eqb n 7) (Err NotWhole) (
    cond (eqb n 8) (Err BudgetSpent) (
    cond (eqb n 9) (Err JournalFull) (
    cond (eqb n 11) (Err BadTable) (
    cond (eqb n 12) (Err NameRoom) (
    cond (eqb n 13) (Err Overwritten) (
    cond (eqb n 20) (Err UnknownType) (
    cond (eqb n 21) (Err SampleBits) (
    cond (eqb n 22) (Err FormatBits) (
    cond (eqb n 23) (Err BuildIdForm) (
    cond (eqb n 24) (Err TwoWeights) (
    cond (eqb n 25) (Err BranchBits) (
    cond (eqb n 26) (Err UnknownIdentifier) (
    cond (eqb n 27) (Err NoIdentifier) (
    cond (eqb n 30) (Err TooShort) (
    cond (eqb n 31) (Err LeftOver) (
    cond (eqb n 32) (Err InnerRule) (
    cond (eqb n 33) (Err NameZero) (
    cond (eqb n 40) (Err NoRoom) (
    cond (eqb n 41) (Err OutsideSource) (
    cond (eqb n 42) (Err NoSuchRecord) (
    cond (eqb n 43) (Err FlagSet) (
    cond (eqb n 44) (Err DirtyName) (
    cond (eqb n 50) (Err UnknownVersion) (
    cond (eqb n 51) (Err BrokenEntry) (
    cond (eqb n 52) (Err Misplaced) (
    cond (eqb n 53) (Err BadOffer) (
    cond (eqb n 54) (Err SalvageRoom) (
    Ok tt))))))))))))))))))))))))))))))))))

-- a reason is what its number says
pub reason-again : (r : Reason) → answer_with (number_of r) ≡ Err r
reason-again RingLength = refl
reason-again UnknownEdition = refl
reason-again ShortScratch = refl
reason-again FarApart = refl
reason-again Unaligned = refl
reason-again RecordSize = refl
reason-again NotWhole = refl
reason-again BudgetSpent = refl
reason-again JournalFull = refl
reason-again BadTable = refl
reason-again NameRoom = refl
reason-again Overwritten = refl
reason-again UnknownType = refl
reason-again SampleBits = refl
reason-again FormatBits = refl
reason-again BuildIdForm = refl
reason-again TwoWeights = refl
reason-again BranchBits = refl
reason-again UnknownIdentifier = refl
reason-again NoIdentifier = refl
reason-again TooShort = refl
reason-again LeftOver = refl
reason-again InnerRule = refl
reason-again NameZero = refl
reason-again NoRoom = refl
reason-again OutsideSource = refl
reason-again NoSuchRecord = refl
reason-again FlagSet = refl
reason-again DirtyName = refl
reason-again UnknownVersion = refl
reason-again BrokenEntry = refl
reason-again Misplaced = refl
reason-again BadOffer = refl
reason-again SalvageRoom = refl

pub answer-again : (x : Result (Unit {0}) Reason) → answer_with (answer_of x) ≡ x
answer-again (Ok tt) = refl
answer-again (Err r) = reason-again r

-- two reasons of one number are one, and so are two answers
abbrev reason_in : Result (Unit {0}) Reason → Reason
reason_in (Ok _) = SalvageRoom
reason_in (Err r) = r

pub one-reason : (x y : Reason) → number_of x ≡ number_of y → x ≡ y
one-reason x y e = ap reason_in (sym (reason-again x) ∙ (ap answer_with e ∙ reason-again y))

pub one-answer : (x y : Result (Unit {0}) Reason) → answer_of x ≡ answer_of y → x ≡ y
one-answer x y e = sym (answer-again x) ∙ (ap answer_with e ∙ answer-again y)

-- ---- a step from a spot

abbrev spot_of : Cursor → Spot
spot_of c = record { at = c.at; n = c.n; old = c.old }

-- what stands beside an answer of 0, or the reason
abbrev pub carried : {A : Type 0} → Result (Unit {0}) Reason → A → Result A Reason
carried (Ok _) x = Ok x
carried (Err r) x = Err r

abbrev step_with : Cursor → Result Spot Reason
step_with c = carried (answer_with c.why) (spot_of c)

step-again : (s : Spot) (x : Result Spot Reason) → step_with (stepped s x) ≡ x
step-again s (Ok t) = refl
step-again s (Err r) = ap (λ (a : Result (Unit {0}) Reason). carried a s) (reason-again r)

pub one-step : (s : Spot) (x y : Result Spot Reason) → stepped s x ≡ stepped s y → x ≡ y
one-step s x y e = sym (step-again s x) ∙ (ap step_with e ∙ step-again s y)

pub one-spot : (x y : Spot) → cursor_of x ≡ cursor_of y → x ≡ y
one-spot x y e = ap spot_of e

-- ---- the next record of a ring

abbrev frame_with : Frame → Result (Option Found) Reason
frame_with f = cond f.go (Ok (Some (record { place = f.place; size = f.size }))) (carried (answer_with f.stop) None)

frame-again : (x : Result (Option Found) Reason) → frame_with (frame_of x) ≡ x
frame-again (Ok (Some f)) = refl
frame-again (Ok None) = refl
frame-again (Err r) = ap (λ (a : Result (Unit {0}) Reason). carried a None) (reason-again r)

pub one-frame : (x y : Result (Option Found) Reason) → frame_of x ≡ frame_of y → x ≡ y
one-frame x y e = sym (frame-again x) ∙ (ap frame_with e ∙ frame-again y)

-- ---- a place in a record

abbrev place_with : Place → Result ℕ Reason
place_with p = carried (answer_with p.why) p.at

place-again : (x : Result ℕ Reason) → place_with (place_of x) ≡ x
place-again (Ok n) = refl
place-again (Err r) = ap (λ (a : Result (Unit {0}) Reason). carried a 0) (reason-again r)

pub one-place : (x y : Result ℕ Reason) → place_of x ≡ place_of y → x ≡ y
one-place x y e = sym (place-again x) ∙ (ap place_with e ∙ place-again y)
