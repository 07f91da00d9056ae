-- `reader::read_header` meets its contract: where the size is not there, 30 and what was read before. Assumes nothing.
use mathlib.Core.Path.{◌≡◌}
use Rattle.std.specs.Prelude.{Err}
use native.Mathlib.Omega.{arith}
use Rattle.reader.specs.Field.{field_at, field_told}
use Rattle.reader.specs.Laws.{cut_short, field_refused}
use Rattle.reader.proofs.read_header.Goals as goal

pub returns-in-Err : goal.returns-in-Err
returns-in-Err c =
    let xs = c.args.bytes.now in
    let kind = field_told 0 c.next.result in
    let misc = field_told c.or_none-kind.result.next c.next-2.result in
    let k : kind ≡ field_at 4 xs 0 = cc in
    let m : misc ≡ field_at 2 xs kind.next = cc in
    let e : field_told misc.next (Err c.in-Err.field-0) ≡ field_at 2 xs misc.next = cc in
    let h = cut_short xs kind misc k m (field_refused 2 xs misc.next c.in-Err.field-0 (omega arith) e) in
    cc
