-- None drops: the place moves by eight bytes or the rest; a record is kept: the place moves past it and the hole is closed.
use Rattle.std.specs.Prelude.{◌≡◌, ◌≤◌, ◌<◌, ◌+◌, ◌^◌, ℕ, refl, Option, Some, None, unwrap_or, cond, ltb}
use Rattle.std.proofs.Common.{sym, ap, ◌∙◌, subst, arith, ltb-true, ltb-false}
use Rattle.std.proofs.lemmas.Bool.{cond_both}
use Rattle.salvage.specs.Walks.{walk, advanced_by}
use Rattle.salvage.proofs.Turns.{advanced-none}
use Rattle.salvage_steps.proofs.advance.Goals as goal

pub returns-in-None : goal.returns-in-None
returns-in-None c =
    let a = c.args in
    let least : c.min-n.result ≡ cond (ltb a.left 8) a.left 8 =
    cond_both (ltb a.left 8) a.left 8 (λ n. c.min-n.result ≡ n)
    (λ e. omega (arith, c.min-n.ensures, ltb-true a.left 8 e))
    (λ e. omega (arith, c.min-n.ensures, ltb-false a.left 8 e))
    in
    ap (λ (n : ℕ). walk (a.w.at + n) a.w.start a.w.kept a.w.holes) least
    ∙ advanced-none a.w 0 a.left refl
    ∙ ap (λ (k : Option ℕ). advanced_by a.w k a.left) (sym c.in-None.is)

pub returns-in-Some : goal.returns-in-Some
returns-in-Some c =
    let a = c.args in
    ap (λ (n : ℕ). walk (a.w.at + c.in-Some.size) (a.w.at + c.in-Some.size) (a.w.kept + c.in-Some.size) n) c.closed-holes.ensures
    ∙ ap (λ (k : Option ℕ). advanced_by a.w k a.left) (sym c.in-Some.is)
