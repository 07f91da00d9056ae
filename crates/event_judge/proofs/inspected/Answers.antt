-- A match that is none of both inspected nothing.
use Rattle.std.specs.Prelude.{◌≡◌, ℕ, ◌+◌, Bool, false, Result, Ok, Err, refl, cond, eqb}
use Rattle.std.proofs.Common.{sym, ap, ◌∙◌}
use Rattle.meaning.specs.declared.Reason.{Reason}
use Rattle.meaning.specs.declared.Reason.TheVariants.{RingLength, UnknownEdition, ShortScratch, FarApart, Unaligned, RecordSize, NotWhole, BudgetSpent, JournalFull, BadTable, NameRoom, Overwritten, UnknownType, SampleBits, FormatBits, BuildIdForm, TwoWeights, BranchBits, UnknownIdentifier, NoIdentifier, TooShort, LeftOver, InnerRule, NameZero, NoRoom, OutsideSource, NoSuchRecord, FlagSet, DirtyName, UnknownVersion, BrokenEntry, Misplaced, BadOffer, SalvageRoom}
use Rattle.meaning.specs.Reasons.{number_of}
use Rattle.event_laws.specs.Match.{match_of, inspected_by}
use Rattle.event_judge.proofs.inspected.Goals as goal

-- no other reason has the number 26
other : (r : Reason) → (r ≡ UnknownIdentifier → ⊥) → eqb (number_of r) 26 ≡ false
other RingLength h = refl
other UnknownEdition h = refl
other ShortScratch h = refl
other FarApart h = refl
other Unaligned h = refl
other RecordSize h = refl
other NotWhole h = refl
other BudgetSpent h = refl
other JournalFull h = refl
other BadTable h = refl
other NameRoom h = refl
other Overwritten h = refl
other UnknownType h = refl
other SampleBits h = refl
other FormatBits h = refl
other BuildIdForm h = refl
other TwoWeights h = refl
other BranchBits h = refl
other UnknownIdentifier h = absurd (h refl)
other NoIdentifier h = refl
other TooShort h = refl
other LeftOver h = refl
other InnerRule h = refl
other NameZero h = refl
other NoRoom h = refl
other OutsideSource h = refl
other NoSuchRecord h = refl
other FlagSet h = refl
other DirtyName h = refl
other UnknownVersion h = refl
other BrokenEntry h = refl
other Misplaced h = refl
other BadOffer h = refl
other SalvageRoom h = refl

-- and none has the number 0
some : (r : Reason) (n : ℕ) → cond (eqb (number_of r) 26) n 0 ≡ inspected_by (match_of (Err r)) n
unfolding inspected_by
some RingLength n = refl
some UnknownEdition n = refl
some ShortScratch n = refl
some FarApart n = refl
some Unaligned n = refl
some RecordSize n = refl
some NotWhole n = refl
some BudgetSpent n = refl
some JournalFull n = refl
some BadTable n = refl
some NameRoom n = refl
some Overwritten n = refl
some UnknownType n = refl
some SampleBits n = refl
some FormatBits n = refl
some BuildIdForm n = refl
some TwoWeights n = refl
some BranchBits n = refl
some UnknownIdentifier n = refl
some NoIdentifier n = refl
some TooShort n = refl
some LeftOver n = refl
some InnerRule n = refl
some NameZero n = refl
some NoRoom n = refl
some OutsideSource n = refl
some NoSuchRecord n = refl
some FlagSet n = refl
some DirtyName n = refl
some UnknownVersion n = refl
some BrokenEntry n = refl
some Misplaced n = refl
some BadOffer n = refl
some SalvageRoom n = refl

pub returns-in-Ok : goal.returns-in-Ok
unfolding inspected_by
returns-in-Ok c = sym (ap (λ (m : Result ℕ Reason). inspected_by (match_of m) c.args.n) c.in-Ok.is)

pub returns-in-UnknownIdentifier : goal.returns-in-UnknownIdentifier
returns-in-UnknownIdentifier c =
    some UnknownIdentifier c.args.n
    ∙ ap (λ (r : Reason). inspected_by (match_of (Err r)) c.args.n) (sym c.in-UnknownIdentifier.is)
    ∙ sym (ap (λ (m : Result ℕ Reason). inspected_by (match_of m) c.args.n) c.in-Err.is)

pub returns-in_default : goal.returns-in_default
returns-in_default c =
    sym (ap (λ (b : Bool). cond b c.args.n 0) (other c.in-Err.reason c.in_default.not-UnknownIdentifier))
    ∙ some c.in-Err.reason c.args.n
    ∙ sym (ap (λ (m : Result ℕ Reason). inspected_by (match_of m) c.args.n) c.in-Err.is)
