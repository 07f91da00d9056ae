-- The kind decides which length is asked.
use Rattle.std.specs.Prelude.{◌≡◌, true, false, eqb}
use mathlib.Core.Path.{sym, ◌∙◌}
use mathlib.Core.Bool.{or-false}
use borrow.Author.Tests.{eqb-true}
use Rattle.replay_entries.proofs.of_store.Goals as goal

pub returns-then-is_of : goal.returns-then-is_of
returns-then-is_of c = let k : c.args.e.kind ≡ 1 = eqb-true c.args.e.kind 1 (sym c.is_of.ensures ∙ c.if-is_of.true) in simp (k, or-false)

pub returns-then-is_of-2 : goal.returns-then-is_of-2
returns-then-is_of-2 c = let k : c.args.e.kind ≡ 2 = eqb-true c.args.e.kind 2 (sym c.is_of-2.ensures ∙ c.if-is_of-2.true) in simp (k, or-false)

pub returns-then-is_of-3 : goal.returns-then-is_of-3
returns-then-is_of-3 c = let k : c.args.e.kind ≡ 3 = eqb-true c.args.e.kind 3 (sym c.is_of-3.ensures ∙ c.if-is_of-3.true) in simp k

pub returns : goal.returns
returns c =
    let e₁ : eqb c.args.e.kind 1 ≡ false = sym c.is_of.ensures ∙ c.if-is_of.false in
    let e₂ : eqb c.args.e.kind 2 ≡ false = sym c.is_of-2.ensures ∙ c.if-is_of-2.false in
    let e₃ : eqb c.args.e.kind 3 ≡ false = sym c.is_of-3.ensures ∙ c.if-is_of-3.false in
    simp (e₁, e₂, e₃)
