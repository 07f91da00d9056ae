-- Each call's answer is the definition's for that reader's tail; where both pass the test picks the tail at the greater distance.
use Rattle.std.proofs.Common.{◌≡◌, ℕ, Err, sym, ap, ◌∙◌, arith}
use Rattle.std.proofs.lemmas.Result.{err_from_is_err_and}
use Rattle.meaning.specs.Reasons.{answer_of}
use Rattle.laws.specs.Reasons.{number-some}
use Rattle.readers.specs.declared.Published.{Published}
use Rattle.readers.specs.Readers.{published_of}
use Rattle.readers.proofs.Laws.{tail-as-call, published-first, published-second, published-tail, further-first, further-second}
use Rattle.readers.proofs.Readers.further.Goals as goal

-- a refusal, and no tail
abbrev refused : ℕ → Published
refused k = record { tail = 0; answer = k }

abbrev handed : ℕ → Published
handed t = record { tail = t; answer = 0 }

pub returns-in_err-call_refusal : goal.returns-in_err-call_refusal
returns-in_err-call_refusal c =
    let a = c.args in
    let e = c.in_err-call_refusal.ensures ∙ tail-as-call a.n a.head a.self.first in
    let p = err_from_is_err_and c.from_residual.result c.from_residual.ensures.1 in
    ap published_of (p.1 ∙ ap Err p.2) ∙ ap refused e ∙ sym (published-first a.n a.head a.self (λ z. number-some _ (e ∙ z)))

pub returns-in_err-call_refusal-2 : goal.returns-in_err-call_refusal-2
returns-in_err-call_refusal-2 c =
    let a = c.args in
    let fine = sym (c.in_ok-call_refusal.ensures ∙ tail-as-call a.n a.head a.self.first) in
    let e = c.in_err-call_refusal-2.ensures ∙ tail-as-call a.n a.head a.self.second in
    let p = err_from_is_err_and c.from_residual-in_err-call_refusal-2.result c.from_residual-in_err-call_refusal-2.ensures.1 in
    ap published_of (p.1 ∙ ap Err p.2) ∙ ap refused e ∙ sym (published-second a.n a.head a.self fine (λ z. number-some _ (e ∙ z)))

pub returns-then-distance : goal.returns-then-distance
returns-then-distance c =
    let a = c.args in
    let one = sym (c.in_ok-call_refusal.ensures ∙ tail-as-call a.n a.head a.self.first) in
    let other = sym (c.in_ok-call_refusal-2.ensures ∙ tail-as-call a.n a.head a.self.second) in
    let x = c.distance.ensures in
    let y = c.distance-2.ensures in
    ap handed (sym (further-second a.head a.self (omega (arith, x, y, c.if-distance.true)))) ∙ sym (published-tail a.n a.head a.self one other)

pub returns-else-distance : goal.returns-else-distance
returns-else-distance c =
    let a = c.args in
    let one = sym (c.in_ok-call_refusal.ensures ∙ tail-as-call a.n a.head a.self.first) in
    let other = sym (c.in_ok-call_refusal-2.ensures ∙ tail-as-call a.n a.head a.self.second) in
    let x = c.distance.ensures in
    let y = c.distance-2.ensures in
    ap handed (sym (further-first a.head a.self (omega (arith, x, y, c.if-distance.false)))) ∙ sym (published-tail a.n a.head a.self one other)
