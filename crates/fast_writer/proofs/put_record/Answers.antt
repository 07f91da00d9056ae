-- `fast_writer::put_record` meets its contract: header, fields and trailer are put one after the other. Assumes nothing.
use mathlib.Core.Path.{ap, ap₂, ◌∙◌}
use mathlib.Core.List.{◌++◌}
use Prim.Native.Nat.{ℕ}
use lib.ListN.{length, get_or}
use Rattle.meaning.specs.Bytes.{spell, put}
use Rattle.meaning.specs.Schema.{schema, trailer}
use Rattle.laws.specs.Every.{trailer-fixed}
use Rattle.laws.specs.Put.{length-put}
use Rattle.fast_writer.proofs.Laws.{eight_fits, body-ready, tail-ready, record-put}
use Rattle.fast_writer.proofs.put_record.Goals as goal

pub header-requires : goal.header-requires
header-requires c = eight_fits (schema c.args.kind c.args.misc c.args.a) (trailer c.args.kind c.args.a) c.args.source.now c.args.ws.now (trailer-fixed c.args.kind c.args.a) c.requires.3.2 c.args.end c.requires.0 c.requires.1 c.args.buffer.now c.requires.2

pub fields-d-requires : goal.fields-d-requires
fields-d-requires c = (body-ready (schema c.args.kind c.args.misc c.args.a) (trailer c.args.kind c.args.a) c.args.source.now c.args.ws.now (trailer-fixed c.args.kind c.args.a) c.requires.3.2 c.args.end c.requires.0 c.requires.1 c.args.buffer.now c.requires.2 c.begin_at.ensures (c.header.ensures ∙ ap₂ (λ (x y : ℕ). put c.args.buffer.now 0 (spell 4 x ++ (spell 2 y ++ spell 2 (get_or c.args.ws.now 2 0)))) c.requires.3.0 c.requires.3.1) (ap length c.header.ensures ∙ length-put c.args.buffer.now 0 (spell 4 c.args.kind ++ (spell 2 c.args.misc ++ spell 2 (get_or c.args.ws.now 2 0)))), c.requires.4)

pub trail-requires : goal.trail-requires
trail-requires c = (tail-ready (schema c.args.kind c.args.misc c.args.a) (trailer c.args.kind c.args.a) c.args.source.now c.args.ws.now (trailer-fixed c.args.kind c.args.a) c.requires.3.2 c.args.end c.requires.0 c.requires.1 c.args.buffer.now c.requires.2 c.begin_at.ensures (c.header.ensures ∙ ap₂ (λ (x y : ℕ). put c.args.buffer.now 0 (spell 4 x ++ (spell 2 y ++ spell 2 (get_or c.args.ws.now 2 0)))) c.requires.3.0 c.requires.3.1) (ap length c.header.ensures ∙ length-put c.args.buffer.now 0 (spell 4 c.args.kind ++ (spell 2 c.args.misc ++ spell 2 (get_or c.args.ws.now 2 0)))) c.fields-d.ensures c.begin_at-2.ensures, c.requires.4)

pub shape_of-buffer : goal.shape_of-buffer
shape_of-buffer c = c.trail.ensures.long ∙ c.fields-d.ensures.long ∙ (ap length c.header.ensures ∙ length-put c.args.buffer.now 0 (spell 4 c.args.kind ++ (spell 2 c.args.misc ++ spell 2 (get_or c.args.ws.now 2 0))))

pub returns : goal.returns
returns c = record-put (schema c.args.kind c.args.misc c.args.a) (trailer c.args.kind c.args.a) c.args.source.now c.args.ws.now (trailer-fixed c.args.kind c.args.a) c.requires.3.2 c.args.end c.requires.0 c.requires.1 c.args.buffer.now c.requires.2 c.begin_at.ensures (c.header.ensures ∙ ap₂ (λ (x y : ℕ). put c.args.buffer.now 0 (spell 4 x ++ (spell 2 y ++ spell 2 (get_or c.args.ws.now 2 0)))) c.requires.3.0 c.requires.3.1) (ap length c.header.ensures ∙ length-put c.args.buffer.now 0 (spell 4 c.args.kind ++ (spell 2 c.args.misc ++ spell 2 (get_or c.args.ws.now 2 0)))) c.fields-d.ensures c.begin_at-2.ensures c.trail.ensures
