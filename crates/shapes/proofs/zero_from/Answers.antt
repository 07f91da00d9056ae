-- `shapes::zero_from` meets its contract: the search stops at the first zero, or the end is given. Assumes nothing.
use Rattle.std.proofs.Common.{rules, tests, arith, ap, ◌∙◌, ◌≡◌, ◌-◌, drop, take, length, take_all}
use lib.ListN.{length-drop}
use Rattle.std.proofs.lemmas.Iterator.{YieldsList-from_slice}
use Rattle.std.proofs.lemmas.Iterator.Search.{position_from_yields_List}
use Rattle.meaning.specs.Bytes.{zero_in}
use Rattle.shapes.proofs.Zeros.{is_zero, zero-found, zero-most}
use Rattle.shapes.proofs.zero_from.Goals as goal

pub returns : goal.returns
returns c =
    let a = c.args in
    let d = length-drop a.at a.s.now in
    let e : take (length a.s.now - a.at) (drop a.at a.s.now) ≡ drop a.at a.s.now = take_all _ _ (omega (arith, d)) in
    let f = position_from_yields_List is_zero _ _ c.position.result c.position.ensures.ran (YieldsList-from_slice (take (length c.args.s.now - c.args.at) (drop c.args.at c.args.s.now)) (search rules)) (λ x b q k. search (rules, tests)) in
    let z = zero-found _ c.position.result f ∙ ap zero_in e in
    let u = c.unwrap_or.ensures in
    let m = zero-most (drop a.at a.s.now) in
    let r = c.requires in
    (omega (arith, z, u, m, r, d), omega (arith, z, u, m, r, d))
