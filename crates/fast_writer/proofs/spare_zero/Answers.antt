-- `fast_writer::spare_zero` meets its contract: the words after the body's and the one after the trailer's are those that the type does not have. Assumes nothing.
use mathlib.Core.Path.{◌≡◌, sym, ap, ◌∙◌}
use Prim.Native.Nat.{ℕ, ◌+◌, ◌-◌}
use native.Mathlib.Omega.{arith}
use lib.ListN.{take, drop}
use Rattle.std.proofs.lemmas.List.{drop-take}
use Rattle.meaning.specs.Bytes.{all_zero}
use Rattle.meaning.specs.Schema.{schema}
use Rattle.writer_record.specs.Spare.{spare-is}
use Rattle.fast_writer.proofs.spare_zero.Goals as goal

pub returns : goal.returns
returns c =
    let ws = c.args.ws.now in
    let own : ℕ = c.own_end-own.result in
    let o = c.own_end-own.ensures.1 in
    let e : own + (48 - own) ≡ 48 = omega (arith, o) in
    let between = sym (drop-take own (48 - own) ws) ∙ ap (λ (k : ℕ). drop own (take k ws)) e in
    spare-is (schema c.args.kind c.args.misc c.args.a) c.args.kind c.args.a ws own _ _ c.own_end-own.ensures.0
    (c.all_zero-between.ensures ∙ ap all_zero between) (c.all_zero.ensures ∙ ap all_zero (sym (drop-take 55 1 ws)))
