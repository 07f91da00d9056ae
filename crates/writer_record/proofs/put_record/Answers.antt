-- `writer_record::put_record` meets its contract: header, fields and trailer are put one after the other; the trailer has a fixed length, so its place is known from the end. Assumes nothing.
use mathlib.Core.Path.{◌≡◌, refl, ap, ap₂, ◌∙◌}
use mathlib.Core.List.{◌++◌}
use Prim.Native.Nat.{ℕ, ◌-◌}
use native.Mathlib.Omega.{arith}
use lib.ListN.{length, get_or}
use Rattle.meaning.specs.Bytes.{spell, put}
use Rattle.meaning.specs.Reasons.{cursor_of}
use Rattle.meaning.specs.Schema.{schema, trailer}
use Rattle.meaning.specs.Records.{origin, room}
use Rattle.meaning.specs.Values.{body_words, trail_words}
use Rattle.laws.specs.Put.{length-put}
use Rattle.writer_words.specs.Tellings.{start_at}
use Rattle.writer_parts.specs.Parts.{slots_from}
use Rattle.writer_record.specs.Measures.{value_meant}
use Rattle.laws.specs.Every.{trailer-fixed}
use Rattle.writer_record.specs.Records.{sized, all-put, written-lays, asks-lays}
use Rattle.writer_record.proofs.put_record.Goals as goal

pub put_header-requires : goal.put_header-requires
put_header-requires c =
    let a = c.args in
    let is = schema a.kind a.misc a.attributes in
    let ts = trailer a.kind a.attributes in
    let k = sized is ts a.source.now a.ws.now (trailer-fixed a.kind a.attributes) c.requires.3.2 a.end c.requires.0 c.requires.1 in omega (arith, k.before, c.requires.2)

pub put_all-requires : goal.put_all-requires
put_all-requires c =
    let a = c.args in
    let is = schema a.kind a.misc a.attributes in
    let ts = trailer a.kind a.attributes in
    let k = sized is ts a.source.now a.ws.now (trailer-fixed a.kind a.attributes) c.requires.3.2 a.end c.requires.0 c.requires.1 in
    asks-lays a.source.now a.ws.now c.body-b.result a.attributes a.kind is c.start_at.result (cursor_of c.origin.result) body_words 8 _ _ (length a.buffer.now)
    c.body-b.ensures c.start_at.ensures c.origin.ensures (omega arith) (omega arith) k.body-why k.body_end (omega (arith, k.before, c.requires.2))
    (ap length c.put_header.ensures ∙ length-put a.buffer.now 0 (spell 4 a.kind ++ (spell 2 a.misc ++ spell 2 c.word.result)))

pub overflow_sub-at : goal.overflow_sub-at
overflow_sub-at c =
    let a = c.args in
    let is = schema a.kind a.misc a.attributes in
    let ts = trailer a.kind a.attributes in
    let k = sized is ts a.source.now a.ws.now (trailer-fixed a.kind a.attributes) c.requires.3.2 a.end c.requires.0 c.requires.1 in omega (arith, k.before, c.trailer_room.ensures.0)

pub put_all-requires-2 : goal.put_all-requires-2
put_all-requires-2 c =
    let a = c.args in
    let is = schema a.kind a.misc a.attributes in
    let ts = trailer a.kind a.attributes in
    let from = c.origin-2.ensures ∙ ap (λ (n : ℕ). origin (a.end - n)) c.trailer_room.ensures.0 in
    let long1 = ap length c.put_header.ensures ∙ length-put a.buffer.now 0 (spell 4 a.kind ++ (spell 2 a.misc ++ spell 2 c.word.result)) in
    let long2 : length c.put_all.new.buffer ≡ length a.buffer.now = ap length c.put_all.ensures ∙ simp length-put long1 in
    let k = sized is ts a.source.now a.ws.now (trailer-fixed a.kind a.attributes) c.requires.3.2 a.end c.requires.0 c.requires.1 in
    asks-lays a.source.now a.ws.now c.trailing-t.result a.attributes a.kind ts c.start_at-2.result (cursor_of c.origin-2.result) trail_words (a.end - room ts) _ _ (length a.buffer.now)
    c.trailing-t.ensures c.start_at-2.ensures from (omega arith) (omega (arith, k.most)) k.tail-why k.tail-end c.requires.2 long2

pub shape_of-buffer : goal.shape_of-buffer
shape_of-buffer c =
    let a = c.args in
    let is = schema a.kind a.misc a.attributes in
    let ts = trailer a.kind a.attributes in
    let long1 = ap length c.put_header.ensures ∙ length-put a.buffer.now 0 (spell 4 a.kind ++ (spell 2 a.misc ++ spell 2 c.word.result)) in
    let long2 : length c.put_all.new.buffer ≡ length a.buffer.now = ap length c.put_all.ensures ∙ simp length-put long1 in
    ap length c.put_all-2.ensures ∙ simp length-put long2

pub returns : goal.returns
unfolding value_meant slots_from
returns c =
    let a = c.args in
    let is = schema a.kind a.misc a.attributes in
    let ts = trailer a.kind a.attributes in
    let from = c.origin-2.ensures ∙ ap (λ (n : ℕ). origin (a.end - n)) c.trailer_room.ensures.0 in
    all-put is ts a.source.now a.ws.now (trailer-fixed a.kind a.attributes) c.requires.3.2 a.end c.requires.0 c.requires.1
    a.buffer.now _ _ _ c.requires.2
    (c.put_header.ensures ∙ ap₂ (λ (x y : ℕ). put a.buffer.now 0 (spell 4 x ++ (spell 2 y ++ spell 2 c.word.result))) c.requires.3.0 c.requires.3.1
    ∙ ap (λ (x : ℕ). put a.buffer.now 0 (spell 4 (get_or a.ws.now 0 0) ++ (spell 2 (get_or a.ws.now 1 0) ++ spell 2 x))) c.word.ensures)
    (written-lays a.source.now a.ws.now c.body-b.result a.attributes a.kind is c.start_at.result (start_at body_words) (cursor_of c.origin.result) (origin 8) _ _ _
    c.body-b.ensures c.start_at.ensures c.origin.ensures refl c.put_all.ensures)
    (written-lays a.source.now a.ws.now c.trailing-t.result a.attributes a.kind ts c.start_at-2.result (start_at trail_words) (cursor_of c.origin-2.result) (origin (a.end - room ts)) _ _ _
    c.trailing-t.ensures c.start_at-2.ensures from refl c.put_all-2.ensures)
