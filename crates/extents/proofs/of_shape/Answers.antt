-- `extents::of_shape` meets its contract: by shape, the number or the bytes that the definition's field holds are those at the extent's place.
use mathlib.Core.Path.{sym, ap, ◌∙◌, subst}
use Prim.Native.Nat.{ℕ, ◌-◌}
use native.Mathlib.Omega.{arith}
use lib.ListN.{length, drop}
use borrow.Author.Tests.{ne_eqb}
use Rattle.meaning.specs.declared.Shape.{Shape}
use Rattle.meaning.specs.Items.{span, shape_step}
use Rattle.extents.specs.Extent.{extent_of, Lies}
use Rattle.extents.proofs.Shapes.{end_is, has_width, lies-number, lies-abi, lies-ignored, lies-pad, lies-count, lies-size, lies_limit, lies-times, lies-earlier, lies-bytes, lies-registers, lies-least, lies-no-registers, lies-no-filled, lies-filled, lies-name}
use Rattle.meaning.specs.Reasons.{cursor_of}
use Rattle.extents.proofs.of_shape.Goals as goal

pub overflow_sub-len : goal.overflow_sub-len
overflow_sub-len c = let a = c.args in let q = c.requires.end_value in let t = end_is a.s.now (cursor_of a.c) a.shape c.requires.s_value in omega (arith, q, t)

pub word_at-requires : goal.word_at-requires
unfolding span
word_at-requires c = let a = c.args in let e = c.in-Number.is in has_width a.s.now (cursor_of a.c) a.shape c.requires.s_value c.requires.at_in_bounds _ (ap (λ (sh : Shape). span sh (cursor_of a.c) (length (drop a.c.at a.s.now))) e)

pub word_at-requires-in-Count : goal.word_at-requires-in-Count
unfolding span
word_at-requires-in-Count c = let a = c.args in let e = c.in-Count.is in has_width a.s.now (cursor_of a.c) a.shape c.requires.s_value c.requires.at_in_bounds _ (ap (λ (sh : Shape). span sh (cursor_of a.c) (length (drop a.c.at a.s.now))) e)

pub word_at-requires-in-Size : goal.word_at-requires-in-Size
unfolding span
word_at-requires-in-Size c = let a = c.args in let e = c.in-Size.is in has_width a.s.now (cursor_of a.c) a.shape c.requires.s_value c.requires.at_in_bounds _ (ap (λ (sh : Shape). span sh (cursor_of a.c) (length (drop a.c.at a.s.now))) e)

pub u64_at-requires : goal.u64_at-requires
unfolding span
u64_at-requires c = let a = c.args in let e = c.in-Filled.is in has_width a.s.now (cursor_of a.c) a.shape c.requires.s_value c.requires.at_in_bounds _ (ap (λ (sh : Shape). span sh (cursor_of a.c) (length (drop a.c.at a.s.now))) e ∙ rw (ne_eqb a.c.n 0 c.if-n-eq0.false))

pub u64_at-requires-in-Abi : goal.u64_at-requires-in-Abi
unfolding span
u64_at-requires-in-Abi c = let a = c.args in let e = c.in-Abi.is in has_width a.s.now (cursor_of a.c) a.shape c.requires.s_value c.requires.at_in_bounds _ (ap (λ (sh : Shape). span sh (cursor_of a.c) (length (drop a.c.at a.s.now))) e)

pub u8_at-requires : goal.u8_at-requires
unfolding span
u8_at-requires c = let a = c.args in let e = c.in-Limit.is in has_width a.s.now (cursor_of a.c) a.shape c.requires.s_value c.requires.at_in_bounds _ (ap (λ (sh : Shape). span sh (cursor_of a.c) (length (drop a.c.at a.s.now))) e)

pub returns-in-Number : goal.returns-in-Number
returns-in-Number c = let a = c.args in let e = c.in-Number.is in subst (λ (sh : Shape). Lies a.s.now sh a.w (cursor_of a.c) (extent_of c.number_field.result)) (sym e) (lies-number a.s.now a.w (cursor_of a.c) c.requires.at_in_bounds _ _ _ c.word_at.ensures c.number_field.ensures)

pub returns-in-Ignored : goal.returns-in-Ignored
returns-in-Ignored c = let a = c.args in let e = c.in-Ignored.is in subst (λ (sh : Shape). Lies a.s.now sh a.w (cursor_of a.c) (extent_of c.no_field.result)) (sym e) (lies-ignored a.s.now a.w (cursor_of a.c) c.requires.at_in_bounds _ _ c.no_field.ensures)

pub returns-in-Count : goal.returns-in-Count
returns-in-Count c = let a = c.args in let e = c.in-Count.is in subst (λ (sh : Shape). Lies a.s.now sh a.w (cursor_of a.c) (extent_of c.no_field-in-Count.result)) (sym e) (lies-count a.s.now a.w (cursor_of a.c) c.requires.at_in_bounds _ _ _ c.word_at-in-Count.ensures c.no_field-in-Count.ensures)

pub returns-in-Size : goal.returns-in-Size
returns-in-Size c = let a = c.args in let e = c.in-Size.is in subst (λ (sh : Shape). Lies a.s.now sh a.w (cursor_of a.c) (extent_of c.no_field-in-Size.result)) (sym e) (lies-size a.s.now a.w (cursor_of a.c) c.requires.at_in_bounds _ _ _ c.word_at-in-Size.ensures c.no_field-in-Size.ensures)

pub returns-in-Times : goal.returns-in-Times
returns-in-Times c = let a = c.args in let e = c.in-Times.is in subst (λ (sh : Shape). Lies a.s.now sh a.w (cursor_of a.c) (extent_of c.list_field.result)) (sym e) (lies-times a.s.now a.w (cursor_of a.c) c.requires.at_in_bounds _ _ _ (ap (λ (sh : Shape). (shape_step sh (cursor_of a.c) (drop a.c.at a.s.now)).why) (sym e) ∙ c.requires.s_value) (let q = c.requires.end_value in let p = ap (λ (sh : Shape). (shape_step sh (cursor_of a.c) (drop a.c.at a.s.now)).at) e in ap (λ (z : ℕ). z - a.c.at) (q ∙ p)) c.list_field.ensures)

pub returns-in-Earlier : goal.returns-in-Earlier
returns-in-Earlier c = let a = c.args in let e = c.in-Earlier.is in subst (λ (sh : Shape). Lies a.s.now sh a.w (cursor_of a.c) (extent_of c.list_field-in-Earlier.result)) (sym e) (lies-earlier a.s.now a.w (cursor_of a.c) c.requires.at_in_bounds _ _ _ (ap (λ (sh : Shape). (shape_step sh (cursor_of a.c) (drop a.c.at a.s.now)).why) (sym e) ∙ c.requires.s_value) (let q = c.requires.end_value in let p = ap (λ (sh : Shape). (shape_step sh (cursor_of a.c) (drop a.c.at a.s.now)).at) e in ap (λ (z : ℕ). z - a.c.at) (q ∙ p)) c.list_field-in-Earlier.ensures)

pub returns-then-w-eq0 : goal.returns-then-w-eq0
returns-then-w-eq0 c = let a = c.args in let e = c.in-Registers.is in subst (λ (sh : Shape). Lies a.s.now sh a.w (cursor_of a.c) (extent_of c.no_field-then-w-eq0.result)) (sym e) (lies-no-registers a.s.now a.w (cursor_of a.c) c.requires.at_in_bounds _ c.if-w-eq0.true c.no_field-then-w-eq0.ensures)

pub returns-else-w-eq0 : goal.returns-else-w-eq0
returns-else-w-eq0 c = let a = c.args in let e = c.in-Registers.is in subst (λ (sh : Shape). Lies a.s.now sh a.w (cursor_of a.c) (extent_of c.list_field-else-w-eq0.result)) (sym e) (lies-registers a.s.now a.w (cursor_of a.c) c.requires.at_in_bounds _ _ (ap (λ (sh : Shape). (shape_step sh (cursor_of a.c) (drop a.c.at a.s.now)).why) (sym e) ∙ c.requires.s_value) (let q = c.requires.end_value in let p = ap (λ (sh : Shape). (shape_step sh (cursor_of a.c) (drop a.c.at a.s.now)).at) e in ap (λ (z : ℕ). z - a.c.at) (q ∙ p)) c.if-w-eq0.false c.list_field-else-w-eq0.ensures)

pub returns-then-n-eq0 : goal.returns-then-n-eq0
returns-then-n-eq0 c = let a = c.args in let e = c.in-Filled.is in subst (λ (sh : Shape). Lies a.s.now sh a.w (cursor_of a.c) (extent_of c.no_field-then-n-eq0.result)) (sym e) (lies-no-filled a.s.now a.w (cursor_of a.c) c.requires.at_in_bounds _ c.if-n-eq0.true c.no_field-then-n-eq0.ensures)

pub returns-else-n-eq0 : goal.returns-else-n-eq0
returns-else-n-eq0 c = let a = c.args in let e = c.in-Filled.is in subst (λ (sh : Shape). Lies a.s.now sh a.w (cursor_of a.c) (extent_of c.number_field-else-n-eq0.result)) (sym e) (lies-filled a.s.now a.w (cursor_of a.c) c.requires.at_in_bounds _ _ c.if-n-eq0.false c.u64_at.ensures c.number_field-else-n-eq0.ensures)

pub returns-in-Abi : goal.returns-in-Abi
returns-in-Abi c = let a = c.args in let e = c.in-Abi.is in subst (λ (sh : Shape). Lies a.s.now sh a.w (cursor_of a.c) (extent_of c.number_field-in-Abi.result)) (sym e) (lies-abi a.s.now a.w (cursor_of a.c) c.requires.at_in_bounds _ _ _ c.u64_at-in-Abi.ensures c.number_field-in-Abi.ensures)

pub returns-in-Limit : goal.returns-in-Limit
returns-in-Limit c = let a = c.args in let e = c.in-Limit.is in subst (λ (sh : Shape). Lies a.s.now sh a.w (cursor_of a.c) (extent_of c.no_field-in-Limit.result)) (sym e) (lies_limit a.s.now a.w (cursor_of a.c) c.requires.at_in_bounds _ _ _ c.u8_at.ensures.0 c.no_field-in-Limit.ensures)

pub returns-in-Listed : goal.returns-in-Listed
returns-in-Listed c = let a = c.args in let e = c.in-Listed.is in subst (λ (sh : Shape). Lies a.s.now sh a.w (cursor_of a.c) (extent_of c.list_field-in-Listed.result)) (sym e) (lies-least a.s.now a.w (cursor_of a.c) c.requires.at_in_bounds _ _ _ _ (ap (λ (sh : Shape). (shape_step sh (cursor_of a.c) (drop a.c.at a.s.now)).why) (sym e) ∙ c.requires.s_value) (let q = c.requires.end_value in let p = ap (λ (sh : Shape). (shape_step sh (cursor_of a.c) (drop a.c.at a.s.now)).at) e in ap (λ (z : ℕ). z - a.c.at) (q ∙ p)) c.min.ensures c.list_field-in-Listed.ensures)

pub returns-in-Bytes : goal.returns-in-Bytes
returns-in-Bytes c = let a = c.args in let e = c.in-Bytes.is in subst (λ (sh : Shape). Lies a.s.now sh a.w (cursor_of a.c) (extent_of c.list_field-in-Bytes.result)) (sym e) (lies-bytes a.s.now a.w (cursor_of a.c) c.requires.at_in_bounds _ _ _ (ap (λ (sh : Shape). (shape_step sh (cursor_of a.c) (drop a.c.at a.s.now)).why) (sym e) ∙ c.requires.s_value) (let q = c.requires.end_value in let p = ap (λ (sh : Shape). (shape_step sh (cursor_of a.c) (drop a.c.at a.s.now)).at) e in ap (λ (z : ℕ). z - a.c.at) (q ∙ p)) c.list_field-in-Bytes.ensures)

pub returns-in-Pad : goal.returns-in-Pad
returns-in-Pad c = let a = c.args in let e = c.in-Pad.is in subst (λ (sh : Shape). Lies a.s.now sh a.w (cursor_of a.c) (extent_of c.no_field-in-Pad.result)) (sym e) (lies-pad a.s.now a.w (cursor_of a.c) c.requires.at_in_bounds _ c.no_field-in-Pad.ensures)

pub returns-in-Name : goal.returns-in-Name
returns-in-Name c = let a = c.args in let e = c.in-Name.is in subst (λ (sh : Shape). Lies a.s.now sh a.w (cursor_of a.c) (extent_of c.list_field-in-Name.result)) (sym e) (lies-name a.s.now a.w (cursor_of a.c) c.requires.at_in_bounds _ _ c.zero_from.ensures.0 c.zero_from.ensures.1 c.list_field-in-Name.ensures)
