-- `fast_writer::StraightPen::write_known` meets its contract: what was not measured is 41 or 42, and only the last way puts bytes. Assumes nothing.
use mathlib.Core.Path.{refl}
use native.Mathlib.Omega.{arith}
use Rattle.fast_writer.proofs.Laws.{known-refused, measured-inside, measured-size, known_small, known_written}
use Rattle.fast_writer.proofs.StraightPen.write_known.Goals as goal

pub returns-in_default : goal.returns-in_default
returns-in_default c =
    let old : _ × _ = known-refused c.args.source.now c.args.ws.now c.args.buffer.now c.args.a c.args.kind c.args.misc 0 c.in_default.ensures.value _ c.refused.ensures refl in
    record { value = old.0; buffer_after = old.1 }

pub returns-then-buffer-end : goal.returns-then-buffer-end
returns-then-buffer-end c =
    let old : _ × _ = known_small c.args.source.now c.args.ws.now c.args.buffer.now c.args.a c.args.kind c.args.misc _ c.in-Some.ensures.value (λ z. let some = c.in-Some.ensures.some in omega (arith, z, some)) c.if-buffer-end.true in
    record { value = old.0; buffer_after = old.1 }

pub put_record-requires : goal.put_record-requires
put_record-requires c =
    let v = c.in-Some.ensures.value in (
      measured-size c.args.source.now c.args.ws.now c.args.buffer.now c.args.a c.args.kind c.args.misc _ v (λ z. let some = c.in-Some.ensures.some in omega (arith, z, some)),
      c.in-Some.ensures.some,
      c.if-buffer-end.false,
      (c.requires.0, c.requires.1, measured-inside c.args.source.now c.args.ws.now c.args.buffer.now c.args.a c.args.kind c.args.misc _ v (λ z. let some = c.in-Some.ensures.some in omega (arith, z, some))),
      c.requires.2,
    )

pub returns : goal.returns
returns c =
    let old : _ × _ = known_written c.args.source.now c.args.ws.now c.args.buffer.now c.args.a c.args.kind c.args.misc _ c.in-Some.ensures.value (λ z. let some = c.in-Some.ensures.some in omega (arith, z, some)) c.if-buffer-end.false _ c.put_record.ensures in
    record { value = old.0; buffer_after = old.1 }
