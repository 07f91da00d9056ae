-- `comparing::next_pair` meets its contract: by cases of both sides, left first.
use Rattle.std.proofs.Common.{◌≡◌, ℕ, refl, sym, ap, ap₂, ◌∙◌, false, ◌&&◌, rules}
use Rattle.std.specs.Prelude.{Result, Ok, Err, Option, Some, None}
use Rattle.meaning.specs.declared.Found.{Found}
use Rattle.meaning.specs.declared.Reason.{Reason}
use Rattle.meaning.specs.Reasons.{frame_of}
use Rattle.laws.specs.Reasons.{number-some}
use Rattle.compare.specs.declared.Compared.{Compared}
use Rattle.compare.specs.Compared.{report}
use Rattle.compare.specs.Turns.{end_of}
use Rattle.comparing.proofs.Laws.{right-ended, right-stopped, left-stopped, left_ended, both-ended, other-stopped}
use Rattle.comparing.proofs.next_pair.Goals as goal

-- what is told of the sides as they are
by-sides : (l r p q : Result (Option Found) Reason) (n : ℕ) (t : Compared) → l ≡ p → r ≡ q → (frame_of p).go && (frame_of q).go ≡ false → t ≡ end_of (frame_of p) (frame_of q) n
    → ((frame_of l).go && (frame_of r).go ≡ false) × (t ≡ end_of (frame_of l) (frame_of r) n)
by-sides l r p q n t e f g h =
    (ap₂ (λ (a b : Result (Option Found) Reason). (frame_of a).go && (frame_of b).go) e f ∙ g, h ∙ sym (ap₂ (λ (a b : Result (Option Found) Reason). end_of (frame_of a) (frame_of b) n) e f))

pub returns-in-Err : goal.returns-in-Err
returns-in-Err c =
    let a = c.args in
    let x = c.in-Err.reason in
    by-sides a.left a.right (Err x) a.right a.n c.tell.result c.in-Err.is refl refl
    (c.tell.ensures ∙ ap (λ (k : ℕ). report 4 k a.n 0) c.number.ensures ∙ left-stopped (frame_of (Err x)) (frame_of a.right) a.n refl (number-some x))

pub returns-in-Err-right : goal.returns-in-Err-right
returns-in-Err-right c =
    let a = c.args in
    let x = c.in-Err-right.reason in
    by-sides a.left a.right (Ok None) (Err x) a.n c.tell-in-Err-right.result (search rules) c.in-Err-right.is refl
    (c.tell-in-Err-right.ensures ∙ ap (λ (k : ℕ). report 5 k a.n 0) c.number-in-Err-right.ensures ∙ other-stopped (frame_of (Ok None)) (frame_of (Err x)) a.n refl refl refl (number-some x))

pub returns-in-Ok-None-right : goal.returns-in-Ok-None-right
returns-in-Ok-None-right c =
    let a = c.args in
    by-sides a.left a.right (Ok None) (Ok None) a.n c.tell-in-Ok-None-right.result (search rules) (search rules) refl
    (c.tell-in-Ok-None-right.ensures ∙ both-ended (frame_of (Ok None)) (frame_of (Ok None)) a.n refl refl refl refl)

pub returns-in-Ok-Some-right : goal.returns-in-Ok-Some-right
returns-in-Ok-Some-right c =
    let a = c.args in
    let g = c.in-Ok-Some-right.field-0-0 in
    by-sides a.left a.right (Ok None) (Ok (Some g)) a.n c.tell-in-Ok-Some-right.result (search rules) (search rules) refl
    (c.tell-in-Ok-Some-right.ensures ∙ left_ended (frame_of (Ok None)) (frame_of (Ok (Some g))) a.n refl refl refl)

pub returns-in-Err-right-2 : goal.returns-in-Err-right-2
returns-in-Err-right-2 c =
    let a = c.args in
    let f = c.in-Ok-Some.f in
    let x = c.in-Err-right-2.reason in
    by-sides a.left a.right (Ok (Some f)) (Err x) a.n c.tell-in-Err-right-2.result (search rules) c.in-Err-right-2.is refl
    (c.tell-in-Err-right-2.ensures ∙ ap (λ (k : ℕ). report 5 k a.n 0) c.number-in-Err-right-2.ensures ∙ right-stopped (frame_of (Ok (Some f))) (frame_of (Err x)) a.n refl (number-some x))

pub returns-in-Ok-None-right-2 : goal.returns-in-Ok-None-right-2
returns-in-Ok-None-right-2 c =
    let a = c.args in
    let f = c.in-Ok-Some.f in
    by-sides a.left a.right (Ok (Some f)) (Ok None) a.n c.tell-in-Ok-None-right-2.result (search rules) (search rules) refl
    (c.tell-in-Ok-None-right-2.ensures ∙ right-ended (frame_of (Ok (Some f))) (frame_of (Ok None)) a.n refl refl)
