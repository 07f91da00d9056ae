-- `fast_writer::measure` meets its contract: two chains that end without a refusal say that every item fits; header and spare words are tested beside them. Assumes nothing.
use mathlib.Core.Path.{refl, ap}
use native.Mathlib.Omega.{arith}
use lib.ListN.{get_or}
use Rattle.meaning.specs.Schema.{schema, trailer}
use Rattle.laws.specs.Every.{trailer-fixed}
use Rattle.write_fits.specs.declared.Walked.{Walked}
use Rattle.fast_writer.proofs.Laws.{body-bad, tail-bad, size-some, size-yes, size-no}
use Rattle.fast_writer.proofs.measure.Goals as goal

pub fields-c-requires : goal.fields-c-requires
fields-c-requires c = (let q = ap (λ (x : Walked). x.at) c.begin_at.ensures in omega (arith, q), c.requires.2)

pub returns-then-c-clause-value : goal.returns-then-c-clause-value
returns-then-c-clause-value c = body-bad (schema c.args.kind c.args.misc c.args.a) (trailer c.args.kind c.args.a) c.args.source.now c.args.ws.now (trailer-fixed c.args.kind c.args.a) c.begin_at.ensures c.fields-c.ensures c.if-c.true

pub trail-d-requires : goal.trail-d-requires
trail-d-requires c = (let q = ap (λ (x : Walked). x.at) c.begin_at-2.ensures in let m = c.fields-c.ensures.place in omega (arith, q, m), c.requires.2)

pub returns-then-d-clause-value : goal.returns-then-d-clause-value
returns-then-d-clause-value c = tail-bad (schema c.args.kind c.args.misc c.args.a) (trailer c.args.kind c.args.a) c.args.source.now c.args.ws.now (trailer-fixed c.args.kind c.args.a) c.begin_at.ensures c.fields-c.ensures c.if-c.false c.begin_at-2.ensures c.trail-d.ensures c.if-d.true

pub returns-then-header-whole-clause-value : goal.returns-then-header-whole-clause-value
returns-then-header-whole-clause-value c =
    let a = c.args in
    size-yes (schema c.args.kind c.args.misc c.args.a) (trailer c.args.kind c.args.a) c.args.source.now c.args.ws.now (trailer-fixed c.args.kind c.args.a) c.begin_at.ensures c.fields-c.ensures c.if-c.false c.begin_at-2.ensures c.trail-d.ensures c.if-d.false a.kind a.misc (get_or a.ws.now 2 0) c.spare_zero.result c.requires.0 c.requires.1 refl c.spare_zero.ensures c.if-header-whole.true

pub returns-then-header-whole-clause-some : goal.returns-then-header-whole-clause-some
returns-then-header-whole-clause-some c = size-some (schema c.args.kind c.args.misc c.args.a) (trailer c.args.kind c.args.a) c.args.source.now c.args.ws.now (trailer-fixed c.args.kind c.args.a) c.begin_at.ensures c.fields-c.ensures c.if-c.false c.begin_at-2.ensures c.trail-d.ensures c.if-d.false

pub returns-else-header-whole-clause-value : goal.returns-else-header-whole-clause-value
returns-else-header-whole-clause-value c =
    let a = c.args in
    size-no (schema c.args.kind c.args.misc c.args.a) (trailer c.args.kind c.args.a) c.args.source.now c.args.ws.now (trailer-fixed c.args.kind c.args.a) c.begin_at.ensures c.fields-c.ensures c.if-c.false c.begin_at-2.ensures c.trail-d.ensures c.if-d.false a.kind a.misc (get_or a.ws.now 2 0) c.spare_zero.result c.requires.0 c.requires.1 refl c.spare_zero.ensures c.if-header-whole.false
