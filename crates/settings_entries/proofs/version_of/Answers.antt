-- The number is a version's, or no version of this build has it.
use Rattle.std.specs.Prelude.{Bool, cond, [], ◌∷◌}
use Rattle.std.proofs.Common.{sym, ap, ◌∙◌, eq-eqb, ne_eqb}
use Rattle.settings.specs.Versions.{one, two, no_version, version_of}
use Rattle.settings_entries.proofs.version_of.Goals as goal

pub returns-then-number : goal.returns-then-number
unfolding version_of
returns-then-number c = sym (ap (λ (b : Bool). cond b one (version_of (two ∷ []) c.args.number)) (eq-eqb c.args.number 1 c.if-number.true))

pub returns-then-number-2 : goal.returns-then-number-2
unfolding version_of
returns-then-number-2 c =
    let k = c.args.number in
    sym (ap (λ (b : Bool). cond b one (version_of (two ∷ []) k)) (ne_eqb k 1 c.if-number.false) ∙ ap (λ (b : Bool). cond b two no_version) (eq-eqb k 2 c.if-number-2.true))

pub returns : goal.returns
unfolding version_of
returns c =
    let k = c.args.number in
    sym (ap (λ (b : Bool). cond b one (version_of (two ∷ []) k)) (ne_eqb k 1 c.if-number.false) ∙ ap (λ (b : Bool). cond b two no_version) (ne_eqb k 2 c.if-number-2.false))
