-- `fast_writer::refused` meets its contract: by the walk over the type's rows. Assumes nothing.
use mathlib.Core.Path.{sym, ap, ◌∙◌}
use mathlib.Core.Bool.{Bool, cond}
use native.Mathlib.Omega.{arith}
use Rattle.meaning.specs.Schema.{schema}
use Rattle.meaning.specs.declared.Spot.{Spot}
use Rattle.writer.specs.Answers.{beyond-lays}
use Rattle.fast_writer.proofs.refused.Goals as goal

pub any_beyond-requires : goal.any_beyond-requires
any_beyond-requires c =
    let b = c.body-b.ensures in
    let t = ap (λ (x : Spot). x.at) c.start_at-words.ensures in
    (b.ordered, b.within, omega (arith, t))

pub returns-then-any_beyond : goal.returns-then-any_beyond
returns-then-any_beyond c = ap (λ (b : Bool). cond b 41 42) (sym c.if-any_beyond.true ∙ beyond-lays c.args.source.now c.args.ws.now c.body-b.result c.args.a c.args.kind (schema c.args.kind c.args.misc c.args.a) c.start_at-words.result c.any_beyond.result c.body-b.ensures c.start_at-words.ensures c.any_beyond.ensures)

pub returns : goal.returns
returns c = ap (λ (b : Bool). cond b 41 42) (sym c.if-any_beyond.false ∙ beyond-lays c.args.source.now c.args.ws.now c.body-b.result c.args.a c.args.kind (schema c.args.kind c.args.misc c.args.a) c.start_at-words.result c.any_beyond.result c.body-b.ensures c.start_at-words.ensures c.any_beyond.ensures)
