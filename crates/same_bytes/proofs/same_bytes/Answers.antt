-- The two parts, byte by byte.
use Rattle.std.proofs.Common.{◌≡◌, ◌∙◌, arith, ◌+◌, ◌-◌, take, drop}
use Rattle.compare.specs.Compared.{same_bytes}
use Rattle.same_bytes.proofs.Laws.{each-byte}
use Rattle.same_bytes.proofs.same_bytes.Goals as goal

pub returns : goal.returns
returns c =
    let a = c.args in
    let m : a.i + a.n - a.i ≡ a.n = omega arith in
    let k : a.j + a.n - a.j ≡ a.n = omega arith in
    c.eq.ensures ∙ each-byte _ _ ∙ (λ z. same_bytes (take (m z) (drop a.i a.s.now)) (take (k z) (drop a.j a.t.now)))
