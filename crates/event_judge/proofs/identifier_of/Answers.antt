-- In a SAMPLE the first word after the header, else the last eight bytes.
use mathlib.Core.Path.{sym, ◌∙◌}
use borrow.Author.Tests.{eq-eqb, ne_eqb}
use Rattle.meaning.specs.Events.{identifier_of}
use borrow.Author.Rules.{rules}
use Rattle.event_judge.proofs.identifier_of.Goals as goal

pub returns-then-kind-eq-SAMPLE : goal.returns-then-kind-eq-SAMPLE
unfolding identifier_of
returns-then-kind-eq-SAMPLE c =
    c.u64_at.ensures ∙ simp (eq-eqb _ 9 (sym c.requires.1 ∙ c.if-kind-eq-SAMPLE.true))

pub returns : goal.returns
unfolding identifier_of
returns c =
    c.u64_at-2.ensures ∙ simp (ne_eqb _ 9 (λ e. c.if-kind-eq-SAMPLE.false (c.requires.1 ∙ e)))
