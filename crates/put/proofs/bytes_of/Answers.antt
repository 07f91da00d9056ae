-- The bytes that stand are those of the number, and the others are those of what is left of it.
use Rattle.std.proofs.Common.{◌≡◌, sym, ap, ◌∙◌, arith, ℕ, ◌-◌, ◌%◌, ◌++◌, take, length-set, take_all, append-nil}
use Rattle.std.proofs.lemmas.List.{length-replicate}
use Rattle.meaning.specs.Bytes.{spell}
use Rattle.put.proofs.Laws.{spelled-more}
use Rattle.put.proofs.bytes_of.Goals as goal

pub loop-byte-init : goal.loop-byte-init
loop-byte-init g c = (length-replicate g.row.N 0, ap (λ (k : ℕ). spell k c.args.x) (omega arith))

pub loop-byte-preserved : goal.loop-byte-preserved
loop-byte-preserved g c =
    let l = c.loop-byte in (
      length-set l.byte-items l.byte-index (l.rest % 256) ∙ l.invariant.0,
      spelled-more l.byte-items l.byte-index g.row.N c.args.x l.rest l.invariant.0 c.loop-byte-test.true l.invariant.1,
    )

pub returns : goal.returns
unfolding spell
returns g c =
    let l = c.loop-byte in
    let z : g.row.N - l.byte-index ≡ 0 = omega (arith, c.loop-byte-test.false) in
    sym (l.invariant.1
    ∙ ap (λ (k : ℕ). take l.byte-index l.byte-items ++ spell k l.rest) z
    ∙ append-nil (take l.byte-index l.byte-items)
    ∙ take_all l.byte-index l.byte-items (omega (arith, l.invariant.0, c.loop-byte-test.false)))
