-- `pairs::begin` meets its contract: equal bytes have no field that differs; else the first of the five that differs is named, or, where none does, the
-- others are to come.
use mathlib.Core.Path.{sym, ap, ◌∙◌, subst}
use Prim.Native.Nat.{ℕ, ◌≤◌}
use native.Mathlib.Omega.{arith}
use lib.ListN.{length}
use Rattle.meaning.specs.Editions.{editions, known}
use Rattle.meaning.specs.Records.{room}
use Rattle.meaning.specs.Schema.{trailer}
use Rattle.meaning.specs.Events.{attributes_of, event_at, identifiers, index_of}
use Rattle.compare.specs.Compared.{event_reads}
use Rattle.compare.proofs.Others.{other-answer, other-refused, other-kind, other-misc, other-size, other-identifier}
use Rattle.pair_fields.specs.Fields.{differs-stands}
use Rattle.laws.specs.Numbers.{kind-is, misc-is, size_is}
use Rattle.pairs.specs.Start.{framed-long, accepted-long, accepted-there, accepted-room, start-stands}
use mathlib.Core.Bool.{false}
use Rattle.pair_fields.specs.States.{pos_of, settled_at, settled-at}
use Rattle.pairs.proofs.Found.{is-there, there-is}
use Rattle.pairs.proofs.begin.Goals as goal

pub judge-requires : goal.judge-requires
judge-requires c = framed-long c.args.x.now c.requires.x_value.0

pub judge-requires-2 : goal.judge-requires-2
judge-requires-2 c = framed-long c.args.y.now c.requires.x_value.1

pub returns-then-answer-answer_number : goal.returns-then-answer-answer_number
returns-then-answer-answer_number c =
    differs-stands c.args.x.now c.args.y.now _ _ 0 (settled_at 0 false) (settled-at 0 false)
    (other-answer (event_reads (known editions c.args.e) c.args.events.now) c.args.x.now c.args.y.now (λ e. c.if-answer-answer_number.true ((c.answer_number-answer.ensures ∙ c.judge.ensures) ∙ e ∙ sym (c.answer_number.ensures ∙ c.judge-2.ensures))))

pub returns-then-answer-ne0 : goal.returns-then-answer-ne0
returns-then-answer-ne0 c =
    differs-stands c.args.x.now c.args.y.now _ _ 1 (settled_at 1 false) (settled-at 1 false)
    (other-refused (event_reads (known editions c.args.e) c.args.events.now) c.args.x.now c.args.y.now (sym (c.answer_number-answer.ensures ∙ c.judge.ensures) ∙ c.if-answer-answer_number.false ∙ (c.answer_number.ensures ∙ c.judge-2.ensures)) (λ e. c.if-answer-ne0.true ((c.answer_number-answer.ensures ∙ c.judge.ensures) ∙ e)) c.requires.bytes_value)

pub u32_at-kind-requires : goal.u32_at-kind-requires
u32_at-kind-requires c = let l = framed-long c.args.x.now c.requires.x_value.0 in omega (arith, l)

pub u32_at-requires : goal.u32_at-requires
u32_at-requires c = let l = framed-long c.args.y.now c.requires.x_value.1 in omega (arith, l)

pub returns-then-kind-u32_at : goal.returns-then-kind-u32_at
returns-then-kind-u32_at c =
    differs-stands c.args.x.now c.args.y.now _ _ 1 (settled_at 1 false) (settled-at 1 false)
    (other-kind (event_reads (known editions c.args.e) c.args.events.now) c.args.x.now c.args.y.now (sym (c.answer_number-answer.ensures ∙ c.judge.ensures) ∙ c.if-answer-answer_number.false ∙ (c.answer_number.ensures ∙ c.judge-2.ensures)) (sym (c.answer_number-answer.ensures ∙ c.judge.ensures) ∙ c.if-answer-ne0.false)
    (λ e. c.if-kind-u32_at.true (c.u32_at-kind.ensures.0 ∙ kind-is c.args.x.now ∙ e ∙ sym (kind-is c.args.y.now) ∙ sym c.u32_at.ensures.0)))

pub u16_at-misc-requires : goal.u16_at-misc-requires
u16_at-misc-requires c = let l = framed-long c.args.x.now c.requires.x_value.0 in omega (arith, l)

pub u16_at-requires : goal.u16_at-requires
u16_at-requires c = let l = framed-long c.args.y.now c.requires.x_value.1 in omega (arith, l)

pub returns-then-misc-u16_at : goal.returns-then-misc-u16_at
returns-then-misc-u16_at c =
    differs-stands c.args.x.now c.args.y.now _ _ 2 (settled_at 2 false) (settled-at 2 false)
    (other-misc (event_reads (known editions c.args.e) c.args.events.now) c.args.x.now c.args.y.now (sym (c.answer_number-answer.ensures ∙ c.judge.ensures) ∙ c.if-answer-answer_number.false ∙ (c.answer_number.ensures ∙ c.judge-2.ensures)) (sym (c.answer_number-answer.ensures ∙ c.judge.ensures) ∙ c.if-answer-ne0.false) (sym (kind-is c.args.x.now) ∙ sym c.u32_at-kind.ensures.0 ∙ c.if-kind-u32_at.false ∙ c.u32_at.ensures.0 ∙ kind-is c.args.y.now)
    (λ e. c.if-misc-u16_at.true (c.u16_at-misc.ensures.0 ∙ misc-is c.args.x.now ∙ e ∙ sym (misc-is c.args.y.now) ∙ sym c.u16_at.ensures.0)))

pub u16_at-requires-2 : goal.u16_at-requires-2
u16_at-requires-2 c = let l = framed-long c.args.x.now c.requires.x_value.0 in omega (arith, l)

pub u16_at-requires-3 : goal.u16_at-requires-3
u16_at-requires-3 c = let l = framed-long c.args.y.now c.requires.x_value.1 in omega (arith, l)

pub returns-then-u16_at : goal.returns-then-u16_at
returns-then-u16_at c =
    differs-stands c.args.x.now c.args.y.now _ _ 3 (settled_at 3 false) (settled-at 3 false)
    (other-size (event_reads (known editions c.args.e) c.args.events.now) c.args.x.now c.args.y.now (sym (c.answer_number-answer.ensures ∙ c.judge.ensures) ∙ c.if-answer-answer_number.false ∙ (c.answer_number.ensures ∙ c.judge-2.ensures)) (sym (c.answer_number-answer.ensures ∙ c.judge.ensures) ∙ c.if-answer-ne0.false) (sym (kind-is c.args.x.now) ∙ sym c.u32_at-kind.ensures.0 ∙ c.if-kind-u32_at.false ∙ c.u32_at.ensures.0 ∙ kind-is c.args.y.now) (sym (misc-is c.args.x.now) ∙ sym c.u16_at-misc.ensures.0 ∙ c.if-misc-u16_at.false ∙ c.u16_at.ensures.0 ∙ misc-is c.args.y.now)
    (λ e. c.if-u16_at.true (c.u16_at-2.ensures.0 ∙ size_is c.args.x.now ∙ e ∙ sym (size_is c.args.y.now) ∙ sym c.u16_at-3.ensures.0)))

pub identifier_of-id-requires : goal.identifier_of-id-requires
identifier_of-id-requires c =
    (accepted-long (known editions c.args.e) c.args.events.now c.requires.events_value c.args.x.now (sym (c.answer_number-answer.ensures ∙ c.judge.ensures) ∙ c.if-answer-ne0.false), c.u32_at-kind.ensures.0 ∙ kind-is c.args.x.now)

pub identifier_of-requires : goal.identifier_of-requires
identifier_of-requires c =
    (accepted-long (known editions c.args.e) c.args.events.now c.requires.events_value c.args.y.now (sym (sym (c.answer_number-answer.ensures ∙ c.judge.ensures) ∙ c.if-answer-answer_number.false ∙ (c.answer_number.ensures ∙ c.judge-2.ensures)) ∙ (sym (c.answer_number-answer.ensures ∙ c.judge.ensures) ∙ c.if-answer-ne0.false)), c.u32_at-kind.ensures.0 ∙ kind-is c.args.x.now ∙ (sym (kind-is c.args.x.now) ∙ sym c.u32_at-kind.ensures.0 ∙ c.if-kind-u32_at.false ∙ c.u32_at.ensures.0 ∙ kind-is c.args.y.now))

pub returns-then-id-identifier_of : goal.returns-then-id-identifier_of
returns-then-id-identifier_of c =
    differs-stands c.args.x.now c.args.y.now _ _ 4 (settled_at 4 false) (settled-at 4 false)
    (other-identifier (event_reads (known editions c.args.e) c.args.events.now) c.args.x.now c.args.y.now (sym (c.answer_number-answer.ensures ∙ c.judge.ensures) ∙ c.if-answer-answer_number.false ∙ (c.answer_number.ensures ∙ c.judge-2.ensures)) (sym (c.answer_number-answer.ensures ∙ c.judge.ensures) ∙ c.if-answer-ne0.false) (sym (kind-is c.args.x.now) ∙ sym c.u32_at-kind.ensures.0 ∙ c.if-kind-u32_at.false ∙ c.u32_at.ensures.0 ∙ kind-is c.args.y.now) (sym (misc-is c.args.x.now) ∙ sym c.u16_at-misc.ensures.0 ∙ c.if-misc-u16_at.false ∙ c.u16_at.ensures.0 ∙ misc-is c.args.y.now) (sym (size_is c.args.x.now) ∙ sym c.u16_at-2.ensures.0 ∙ c.if-u16_at.false ∙ c.u16_at-3.ensures.0 ∙ size_is c.args.y.now)
    (λ e. c.if-id-identifier_of.true (c.identifier_of-id.ensures ∙ e ∙ sym c.identifier_of.ensures)))

pub unwrap-event-requires : goal.unwrap-event-requires
unwrap-event-requires c =
    let t = accepted-there (known editions c.args.e) c.args.events.now c.requires.events_value c.args.x.now (sym (c.answer_number-answer.ensures ∙ c.judge.ensures) ∙ c.if-answer-ne0.false) in
    let e = c.find.ensures.value ∙ ap (λ (i : ℕ). index_of i (identifiers c.args.events.now)) c.identifier_of-id.ensures in
    is-there c.find.result (length c.args.events.now) _ e (omega (arith, t))

pub attributes_at-requires : goal.attributes_at-requires
attributes_at-requires c =
    let t = accepted-there (known editions c.args.e) c.args.events.now c.requires.events_value c.args.x.now (sym (c.answer_number-answer.ensures ∙ c.judge.ensures) ∙ c.if-answer-ne0.false) in
    let e = (there-is _ _ _ _ c.find.ensures.value c.unwrap-event.ensures ∙ ap (λ (i : ℕ). index_of i (identifiers c.args.events.now)) c.identifier_of-id.ensures) in
    omega (arith, t, e)

pub others-requires : goal.others-requires
others-requires c =
    let r = accepted-room (known editions c.args.e) c.args.events.now c.requires.events_value c.args.x.now (sym (c.answer_number-answer.ensures ∙ c.judge.ensures) ∙ c.if-answer-ne0.false) c.attributes_at.result (c.attributes_at.ensures ∙ ap (λ (i : ℕ). attributes_of (event_at c.args.events.now i)) (there-is _ _ _ _ c.find.ensures.value c.unwrap-event.ensures ∙ ap (λ (i : ℕ). index_of i (identifiers c.args.events.now)) c.identifier_of-id.ensures)) in
    subst (λ (t : ℕ). room (trailer t c.attributes_at.result) ≤ length c.args.x.now) (sym (c.u32_at-kind.ensures.0 ∙ kind-is c.args.x.now)) r

pub returns : goal.returns
returns c =
    start-stands (known editions c.args.e) c.args.events.now c.requires.events_value c.args.x.now c.args.y.now c.requires.x_value.0 c.requires.x_value.1
    (sym (c.answer_number-answer.ensures ∙ c.judge.ensures) ∙ c.if-answer-ne0.false) (sym (sym (c.answer_number-answer.ensures ∙ c.judge.ensures) ∙ c.if-answer-answer_number.false ∙ (c.answer_number.ensures ∙ c.judge-2.ensures)) ∙ (sym (c.answer_number-answer.ensures ∙ c.judge.ensures) ∙ c.if-answer-ne0.false)) (sym (kind-is c.args.x.now) ∙ sym c.u32_at-kind.ensures.0 ∙ c.if-kind-u32_at.false ∙ c.u32_at.ensures.0 ∙ kind-is c.args.y.now) (sym (misc-is c.args.x.now) ∙ sym c.u16_at-misc.ensures.0 ∙ c.if-misc-u16_at.false ∙ c.u16_at.ensures.0 ∙ misc-is c.args.y.now) (sym (size_is c.args.x.now) ∙ sym c.u16_at-2.ensures.0 ∙ c.if-u16_at.false ∙ c.u16_at-3.ensures.0 ∙ size_is c.args.y.now) (sym c.identifier_of-id.ensures ∙ c.if-id-identifier_of.false ∙ c.identifier_of.ensures)
    c.attributes_at.result (c.attributes_at.ensures ∙ ap (λ (i : ℕ). attributes_of (event_at c.args.events.now i)) (there-is _ _ _ _ c.find.ensures.value c.unwrap-event.ensures ∙ ap (λ (i : ℕ). index_of i (identifiers c.args.events.now)) c.identifier_of-id.ensures)) _ _ (pos_of c.others.result)
    (c.u32_at-kind.ensures.0 ∙ kind-is c.args.x.now) (c.u16_at-misc.ensures.0 ∙ misc-is c.args.x.now) c.others.ensures
