-- `write_puts::store` meets its contract: by the widths. Assumes nothing.
use mathlib.Core.Path.{sym, ap, ◌∙◌}
use native.Mathlib.Omega.{arith}
use Rattle.meaning.specs.declared.Width.{Width}
use Rattle.meaning.specs.Bytes.{spell, put}
use Rattle.meaning.specs.Items.{bytes}
use Rattle.write_puts.proofs.Stores.{put_byte}
use Rattle.write_puts.proofs.store.Goals as goal

pub bounds-d-at : goal.bounds-d-at
bounds-d-at c = let h = c.requires in let k = ap bytes c.in-W1.is in omega (arith, h, k)

pub store2-requires : goal.store2-requires
store2-requires c = let h = c.requires in let k = ap bytes c.in-W2.is in omega (arith, h, k)

pub store4-requires : goal.store4-requires
store4-requires c = let h = c.requires in let k = ap bytes c.in-W4.is in omega (arith, h, k)

pub store8-requires : goal.store8-requires
store8-requires c = let h = c.requires in let k = ap bytes c.in-W8.is in omega (arith, h, k)

pub returns-in-W1 : goal.returns-in-W1
returns-in-W1 c = put_byte c.args.d.now c.args.at c.args.x (let h = c.requires in let k = ap bytes c.in-W1.is in omega (arith, h, k)) ∙ ap (λ (x : Width). put c.args.d.now c.args.at (spell (bytes x) c.args.x)) (sym c.in-W1.is)

pub returns-in-W2 : goal.returns-in-W2
returns-in-W2 c = c.store2.ensures ∙ ap (λ (x : Width). put c.args.d.now c.args.at (spell (bytes x) c.args.x)) (sym c.in-W2.is)

pub returns-in-W4 : goal.returns-in-W4
returns-in-W4 c = c.store4.ensures ∙ ap (λ (x : Width). put c.args.d.now c.args.at (spell (bytes x) c.args.x)) (sym c.in-W4.is)

pub returns-in-W8 : goal.returns-in-W8
returns-in-W8 c = c.store8.ensures ∙ ap (λ (x : Width). put c.args.d.now c.args.at (spell (bytes x) c.args.x)) (sym c.in-W8.is)
