-- `write_fits::list` meets its contract: what is refused before a product is refused by it, and the rest is the test itself. Assumes nothing.
use mathlib.Core.Path.{ap, ◌∙◌}
use mathlib.Core.Bool.{Bool, cond}
use Prim.Native.Nat.{◌+◌, ◌*◌}
use native.Mathlib.Omega.{arith}
use Rattle.write_fits.specs.Steps.{refused}
use Rattle.write_fits.specs.Items.{stay, list-none, list-some, list-within}
use Rattle.write_fits.proofs.Laws.{product-most}
use Rattle.write_fits.proofs.list.Goals as goal

pub returns-then-count-room : goal.returns-then-count-room
returns-then-count-room c = c.refuse.ensures ∙ ap (λ (t : Bool). cond t (stay (c.args.count * c.args.unit + c.args.pad) c.args.c) (refused c.args.c)) (list-none c.args.room c.args.place c.args.count c.args.want c.args.unit c.args.pad c.args.c c.requires.1 c.if-count-room.true)

pub overflow_mul-bytes : goal.overflow_mul-bytes
overflow_mul-bytes c = let p = list-within c.args.room c.args.place c.args.count c.if-count-room.false in let q = product-most c.args.count c.args.unit p.0 c.requires.2 in omega (arith, q)

pub overflow_sub-room : goal.overflow_sub-room
overflow_sub-room c = (list-within c.args.room c.args.place c.args.count c.if-count-room.false).1

pub overflow_add-bytes : goal.overflow_add-bytes
overflow_add-bytes c = let p = list-within c.args.room c.args.place c.args.count c.if-count-room.false in let q = product-most c.args.count c.args.unit p.0 c.requires.2 in let r = c.requires.3 in omega (arith, q, r)

pub over-requires : goal.over-requires
over-requires c = let p = list-within c.args.room c.args.place c.args.count c.if-count-room.false in let q = product-most c.args.count c.args.unit p.0 c.requires.2 in let r = c.requires.3 in (c.requires.0, omega (arith, q, r))

pub returns : goal.returns
returns c = c.over.ensures ∙ ap (λ (t : Bool). cond t (stay (c.args.count * c.args.unit + c.args.pad) c.args.c) (refused c.args.c)) (list-some c.args.room c.args.place c.args.count c.args.want c.args.unit c.args.pad c.args.c c.requires.1 c.if-count-room.false)
