-- `writer::Plain` meets its contract: each test that ends it is a row of `known_answer`, in the same order, and only the last way puts bytes. Assumes nothing.
use Rattle.std.proofs.Common.{refl, sym, ap, ◌∙◌, arith}
use Rattle.meaning.specs.declared.Spot.{Spot}
use Rattle.meaning.specs.Schema.{schema}
use Rattle.writer.specs.Answers.{beyond-lays, known-41, known-42, known-40, known-0}
use Rattle.writer.proofs.PlainPen.write_known.Goals as goal

pub any_beyond-requires : goal.any_beyond-requires
any_beyond-requires c =
    let b = c.body-b.ensures in
    let t = ap (λ (x : Spot). x.at) c.start_at-first.ensures in
    (b.ordered, b.within, omega (arith, t))

pub returns-then-any_beyond : goal.returns-then-any_beyond
returns-then-any_beyond c =
    let a = c.args in
    let passing =
    sym (beyond-lays a.source.now a.ws.now c.body-b.result a.a a.kind (schema a.kind a.misc a.a) c.start_at-first.result c.any_beyond.result
    c.body-b.ensures c.start_at-first.ensures c.any_beyond.ensures) in
    let old : _ × _ = known-41 a.source.now a.ws.now a.buffer.now a.a a.kind a.misc c.any_beyond.result passing c.if-any_beyond.true in
    record { value = old.0; buffer_after = old.1 }

pub measure-requires : goal.measure-requires
measure-requires c =
    let a = c.args in
    let passing =
    sym (beyond-lays a.source.now a.ws.now c.body-b.result a.a a.kind (schema a.kind a.misc a.a) c.start_at-first.result c.any_beyond.result
    c.body-b.ensures c.start_at-first.ensures c.any_beyond.ensures) in
    (c.requires.0, c.requires.1, passing ∙ c.if-any_beyond.false)

pub returns-in_default : goal.returns-in_default
returns-in_default c =
    let a = c.args in
    let passing =
    sym (beyond-lays a.source.now a.ws.now c.body-b.result a.a a.kind (schema a.kind a.misc a.a) c.start_at-first.result c.any_beyond.result
    c.body-b.ensures c.start_at-first.ensures c.any_beyond.ensures) in
    let old : _ × _ = known-42 a.source.now a.ws.now a.buffer.now a.a a.kind a.misc c.any_beyond.result passing c.if-any_beyond.false _ c.in_default.ensures.value refl in
    record { value = old.0; buffer_after = old.1 }

pub returns-then-buffer-end : goal.returns-then-buffer-end
returns-then-buffer-end c =
    let a = c.args in
    let passing =
    sym (beyond-lays a.source.now a.ws.now c.body-b.result a.a a.kind (schema a.kind a.misc a.a) c.start_at-first.result c.any_beyond.result
    c.body-b.ensures c.start_at-first.ensures c.any_beyond.ensures) in
    let old : _ × _ = known-40 a.source.now a.ws.now a.buffer.now a.a a.kind a.misc c.any_beyond.result passing c.if-any_beyond.false _ c.in-Some.ensures.value (λ z. let some = c.in-Some.ensures.some in omega (arith, z, some)) c.if-buffer-end.true in
    record { value = old.0; buffer_after = old.1 }

pub put_record-requires : goal.put_record-requires
put_record-requires c =
    let a = c.args in
    let passing =
    sym (beyond-lays a.source.now a.ws.now c.body-b.result a.a a.kind (schema a.kind a.misc a.a) c.start_at-first.result c.any_beyond.result
    c.body-b.ensures c.start_at-first.ensures c.any_beyond.ensures) in
    let p = c.requires in
    (c.in-Some.ensures.value, c.in-Some.ensures.some, c.if-buffer-end.false, (p.0, p.1, passing ∙ c.if-any_beyond.false))

pub returns : goal.returns
returns c =
    let a = c.args in
    let passing =
    sym (beyond-lays a.source.now a.ws.now c.body-b.result a.a a.kind (schema a.kind a.misc a.a) c.start_at-first.result c.any_beyond.result
    c.body-b.ensures c.start_at-first.ensures c.any_beyond.ensures) in
    let old : _ × _ = known-0 a.source.now a.ws.now a.buffer.now a.a a.kind a.misc c.any_beyond.result passing c.if-any_beyond.false _ c.in-Some.ensures.value (λ z. let some = c.in-Some.ensures.some in omega (arith, z, some)) c.if-buffer-end.false _ c.put_record.ensures in
    record { value = old.0; buffer_after = old.1 }
