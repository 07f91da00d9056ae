-- `writer_record::measure` meets its contract: two walks that end as a state say that every item fits; header and spare words are tested beside them. Assumes nothing.
use Rattle.std.proofs.Common.{◌≡◌, refl, ℕ, ◌≤◌, List, sym, ap, ◌∙◌, subst, arith}
use Rattle.laws.specs.Every.{trailer-fixed}
use Rattle.meaning.specs.States.{Cursor}
use Rattle.meaning.specs.declared.Item.{Item}
use Rattle.meaning.specs.declared.Spot.{Spot}
use Rattle.meaning.specs.Reasons.{cursor_of}
use Rattle.meaning.specs.Records.{origin}
use Rattle.meaning.specs.Schema.{schema, trailer}
use Rattle.meaning.specs.Values.{Slot, body_words, trail_words}
use Rattle.writer_items.specs.Tries.{most_bytes}
use Rattle.laws.specs.Reasons.{number-some}
use Rattle.writer_parts.specs.Parts.{try_items, slots_from}
use Rattle.writer_record.specs.Measures.{value_meant}
use Rattle.writer_record.specs.Measuring.{tried-lays, tried-most, spare-lays, bad-body, bad-tail, end-at, long-enough, measured-yes, measured-no}
use Rattle.writer_record.specs.Spare.{fields-of}
use Rattle.writer_words.specs.Tellings.{start_at}
use Rattle.writer_record.proofs.measure.Goals as goal

-- a walk that ends as a state ends below the most bytes
ends-most : (src : List ℕ) (is : List Item) (ss : List Slot) (o r : Cursor) → o.at ≤ most_bytes → r ≡ try_items src is ss o → r.why ≡ 0 → r.at ≤ most_bytes
ends-most src is ss o r m e z = subst (λ (x : Cursor). x.at ≤ most_bytes) (sym e) (tried-most src is ss o m (ap (λ (x : Cursor). x.why) (sym e) ∙ z))

pub try_all-requires : goal.try_all-requires
try_all-requires c =
    let b = c.body-b.ensures in
    let t = ap (λ (x : Spot). x.at) c.start_at-words.ensures in
    let o = ap (λ (x : Cursor). x.at) c.origin.ensures in
    (b.ordered, b.within, omega (arith, t), omega (arith, o))

pub returns-in_default-clause-value : goal.returns-in_default-clause-value
returns-in_default-clause-value c =
    let a = c.args in
    let is = schema a.kind a.misc a.attributes in
    let first =
    tried-lays a.source.now a.ws.now c.body-b.result a.attributes a.kind is c.start_at-words.result (start_at body_words) (cursor_of c.origin.result) (origin 8)
    _ c.body-b.ensures c.start_at-words.ensures c.origin.ensures c.in_default.ensures in
    bad-body is (trailer a.kind a.attributes) a.source.now a.ws.now (trailer-fixed a.kind a.attributes) c.requires.2
    _ first (number-some c.in_default.field-0)

pub try_all-requires-2 : goal.try_all-requires-2
try_all-requires-2 c =
    let a = c.args in
    let is = schema a.kind a.misc a.attributes in
    let first =
    tried-lays a.source.now a.ws.now c.body-b.result a.attributes a.kind is c.start_at-words.result (start_at body_words) (cursor_of c.origin.result) (origin 8)
    (cursor_of c.in-Ok.c) c.body-b.ensures c.start_at-words.ensures c.origin.ensures c.in-Ok.ensures in
    let most = ends-most a.source.now is (slots_from is (start_at body_words) a.ws.now) (origin 8) (cursor_of c.in-Ok.c) (omega arith) first refl in
    let b = c.trailing-t.ensures in
    let t = ap (λ (x : Spot). x.at) c.start_at-words-2.ensures in
    let o = ap (λ (x : Cursor). x.at) c.origin-2.ensures in
    (b.ordered, b.within, omega (arith, t), omega (arith, o, most))

pub returns-in_default-try_all-clause-value : goal.returns-in_default-try_all-clause-value
returns-in_default-try_all-clause-value c =
    let a = c.args in
    let is = schema a.kind a.misc a.attributes in
    let ts = trailer a.kind a.attributes in
    let first =
    tried-lays a.source.now a.ws.now c.body-b.result a.attributes a.kind is c.start_at-words.result (start_at body_words) (cursor_of c.origin.result) (origin 8)
    (cursor_of c.in-Ok.c) c.body-b.ensures c.start_at-words.ensures c.origin.ensures c.in-Ok.ensures in
    let second =
    tried-lays a.source.now a.ws.now c.trailing-t.result a.attributes a.kind ts c.start_at-words-2.result (start_at trail_words) (cursor_of c.origin-2.result) (origin c.in-Ok.c.at)
    _ c.trailing-t.ensures c.start_at-words-2.ensures c.origin-2.ensures c.in_default-try_all.ensures in
    bad-tail is ts a.source.now a.ws.now (trailer-fixed a.kind a.attributes) c.requires.2
    (cursor_of c.in-Ok.c) first refl _ second (number-some c.in_default-try_all.field-0)

pub spare_zero-requires : goal.spare_zero-requires
spare_zero-requires c = let b = c.body-b.ensures in let a = c.args in (b.ordered, b.within, fields-of _ a.attributes a.kind a.misc b)

pub returns-then-header-whole-clause-value : goal.returns-then-header-whole-clause-value
returns-then-header-whole-clause-value c =
    let a = c.args in
    let is = schema a.kind a.misc a.attributes in
    let ts = trailer a.kind a.attributes in
    let first =
    tried-lays a.source.now a.ws.now c.body-b.result a.attributes a.kind is c.start_at-words.result (start_at body_words) (cursor_of c.origin.result) (origin 8)
    (cursor_of c.in-Ok.c) c.body-b.ensures c.start_at-words.ensures c.origin.ensures c.in-Ok.ensures in
    let second =
    tried-lays a.source.now a.ws.now c.trailing-t.result a.attributes a.kind ts c.start_at-words-2.result (start_at trail_words) (cursor_of c.origin-2.result) (origin c.in-Ok.c.at)
    (cursor_of c.in-Ok-try_all.d) c.trailing-t.ensures c.start_at-words-2.ensures c.origin-2.ensures c.in-Ok-try_all.ensures in
    let most = ends-most a.source.now is (slots_from is (start_at body_words) a.ws.now) (origin 8) (cursor_of c.in-Ok.c) (omega arith) first refl in
    measured-yes is ts a.source.now a.ws.now (trailer-fixed a.kind a.attributes) c.requires.2
    (cursor_of c.in-Ok.c) first refl (cursor_of c.in-Ok-try_all.d) second refl most
    a.kind a.misc c.word-size.result c.spare_zero.result c.requires.0 c.requires.1 c.word-size.ensures
    (spare-lays a.ws.now c.body-b.result a.attributes a.kind is c.spare_zero.result c.body-b.ensures c.spare_zero.ensures) c.if-header-whole.true

pub returns-then-header-whole-clause-some : goal.returns-then-header-whole-clause-some
returns-then-header-whole-clause-some c =
    let a = c.args in
    let is = schema a.kind a.misc a.attributes in
    let ts = trailer a.kind a.attributes in
    let first =
    tried-lays a.source.now a.ws.now c.body-b.result a.attributes a.kind is c.start_at-words.result (start_at body_words) (cursor_of c.origin.result) (origin 8)
    (cursor_of c.in-Ok.c) c.body-b.ensures c.start_at-words.ensures c.origin.ensures c.in-Ok.ensures in
    let second =
    tried-lays a.source.now a.ws.now c.trailing-t.result a.attributes a.kind ts c.start_at-words-2.result (start_at trail_words) (cursor_of c.origin-2.result) (origin c.in-Ok.c.at)
    (cursor_of c.in-Ok-try_all.d) c.trailing-t.ensures c.start_at-words-2.ensures c.origin-2.ensures c.in-Ok-try_all.ensures in
    let most = ends-most a.source.now is (slots_from is (start_at body_words) a.ws.now) (origin 8) (cursor_of c.in-Ok.c) (omega arith) first refl in
    let end = end-at is ts a.source.now a.ws.now (trailer-fixed a.kind a.attributes) c.requires.2
    (cursor_of c.in-Ok.c) first refl (cursor_of c.in-Ok-try_all.d) second refl most in
    let long = long-enough is ts (value_meant is ts a.source.now a.ws.now) in
    omega (arith, end, long)

pub returns-else-header-whole-clause-value : goal.returns-else-header-whole-clause-value
returns-else-header-whole-clause-value c =
    let a = c.args in
    let is = schema a.kind a.misc a.attributes in
    let ts = trailer a.kind a.attributes in
    let first =
    tried-lays a.source.now a.ws.now c.body-b.result a.attributes a.kind is c.start_at-words.result (start_at body_words) (cursor_of c.origin.result) (origin 8)
    (cursor_of c.in-Ok.c) c.body-b.ensures c.start_at-words.ensures c.origin.ensures c.in-Ok.ensures in
    let second =
    tried-lays a.source.now a.ws.now c.trailing-t.result a.attributes a.kind ts c.start_at-words-2.result (start_at trail_words) (cursor_of c.origin-2.result) (origin c.in-Ok.c.at)
    (cursor_of c.in-Ok-try_all.d) c.trailing-t.ensures c.start_at-words-2.ensures c.origin-2.ensures c.in-Ok-try_all.ensures in
    let most = ends-most a.source.now is (slots_from is (start_at body_words) a.ws.now) (origin 8) (cursor_of c.in-Ok.c) (omega arith) first refl in
    measured-no is ts a.source.now a.ws.now (trailer-fixed a.kind a.attributes) c.requires.2
    (cursor_of c.in-Ok.c) first refl (cursor_of c.in-Ok-try_all.d) second refl most
    a.kind a.misc c.word-size.result c.spare_zero.result c.requires.0 c.requires.1 c.word-size.ensures
    (spare-lays a.ws.now c.body-b.result a.attributes a.kind is c.spare_zero.result c.body-b.ensures c.spare_zero.ensures) c.if-header-whole.false
