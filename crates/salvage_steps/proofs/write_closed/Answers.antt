-- The hole that ends at the place is put behind those closed before; where none ends there nothing is written.
use mathlib.Core.Path.{sym, ap, ◌∙◌}
use Prim.Native.Nat.{◌*◌}
use native.Mathlib.Omega.{arith}
use Rattle.meaning.specs.Bytes.{put}
use Rattle.salvage.proofs.Turns.{list_open, list-shut}
use borrow.Author.Rules.{rules}
use Rattle.salvage_steps.proofs.write_closed.Goals as goal

pub overflow_mul-w : goal.overflow_mul-w
overflow_mul-w c = omega (arith, c.requires c.if-start-at.true)

pub returns-then-start-at : goal.returns-then-start-at
returns-then-start-at c =
    let a = c.args in
    c.copy_at.ensures ∙ ap (put a.list.now (22 * a.w.holes)) c.hole_entry-hole.ensures ∙ sym (list_open a.w a.list.now c.if-start-at.true)

pub returns-else-start-at : goal.returns-else-start-at
returns-else-start-at c = let a = c.args in sym (list-shut a.w a.list.now c.if-start-at.false)
