-- `fields::told` meets its contract: an item that is accepted has its bytes, and each arm tells the words of its shape. Assumes nothing.
use mathlib.Core.Path.{sym, ap, ◌∙◌}
use mathlib.Core.List.{[], ◌∷◌}
use Prim.Native.Nat.{ℕ}
use lib.ListN.{drop}
use lib.Seq.{take-length}
use Rattle.std.proofs.lemmas.Bool.{not-true, not-false}
use Rattle.meaning.specs.Bytes.{zero_in}
use Rattle.meaning.specs.Items.{span, part}
use Rattle.meaning.specs.Values.{tell, slot_shape}
use Rattle.meaning.specs.Reasons.{cursor_of}
use Rattle.fields.proofs.Telling.{has-number, has-count, has-size, has-abi, has-limit, has-filled, has-name, told-off, told-on}
use Rattle.fields.proofs.told.Goals as goal

pub returns-then-not-i : goal.returns-then-not-i
returns-then-not-i c =
    let a = c.args in
    c.blank.ensures ∙ told-off a.s.now a.i (cursor_of a.c) (not-true _ c.if-not-i.true)

pub word_at-requires : goal.word_at-requires
word_at-requires c =
    let a = c.args in
    has-number a.s.now a.i (cursor_of a.c) c.requires (not-false _ c.if-not-i.false) _ c.in-Number.is

pub word_at-requires-in-Count : goal.word_at-requires-in-Count
word_at-requires-in-Count c =
    let a = c.args in
    has-count a.s.now a.i (cursor_of a.c) c.requires (not-false _ c.if-not-i.false) _ c.in-Count.is

pub word_at-requires-in-Size : goal.word_at-requires-in-Size
word_at-requires-in-Size c =
    let a = c.args in
    has-size a.s.now a.i (cursor_of a.c) c.requires (not-false _ c.if-not-i.false) _ c.in-Size.is

pub filled_length-requires : goal.filled_length-requires
filled_length-requires c =
    let a = c.args in
    has-filled a.s.now a.i (cursor_of a.c) c.requires (not-false _ c.if-not-i.false) c.in-Filled.is

pub u64_at-requires : goal.u64_at-requires
u64_at-requires c =
    let a = c.args in
    has-abi a.s.now a.i (cursor_of a.c) c.requires (not-false _ c.if-not-i.false) _ c.in-Abi.is

pub u8_at-requires : goal.u8_at-requires
u8_at-requires c =
    let a = c.args in
    has-limit a.s.now a.i (cursor_of a.c) c.requires (not-false _ c.if-not-i.false) _ c.in-Limit.is

pub name_length-requires : goal.name_length-requires
name_length-requires c =
    let a = c.args in
    has-name a.s.now a.i (cursor_of a.c) c.requires (not-false _ c.if-not-i.false) c.in-Name.is

pub returns-in-Number : goal.returns-in-Number
unfolding tell slot_shape part span
returns-in-Number c =
    let a = c.args in
    ap (λ (v : ℕ). v ∷ []) c.word_at.ensures ∙ told-on a.s.now a.i (cursor_of a.c) _ (not-false _ c.if-not-i.false) c.in-Number.is

pub returns-in-Ignored : goal.returns-in-Ignored
unfolding tell slot_shape part span
returns-in-Ignored c =
    let a = c.args in
    told-on a.s.now a.i (cursor_of a.c) _ (not-false _ c.if-not-i.false) c.in-Ignored.is

pub returns-in-Count : goal.returns-in-Count
unfolding tell slot_shape part span
returns-in-Count c =
    let a = c.args in
    ap (λ (v : ℕ). v ∷ []) c.word_at-in-Count.ensures ∙ told-on a.s.now a.i (cursor_of a.c) _ (not-false _ c.if-not-i.false) c.in-Count.is

pub returns-in-Size : goal.returns-in-Size
unfolding tell slot_shape part span
returns-in-Size c =
    let a = c.args in
    ap (λ (v : ℕ). v ∷ []) c.word_at-in-Size.ensures ∙ told-on a.s.now a.i (cursor_of a.c) _ (not-false _ c.if-not-i.false) c.in-Size.is

pub returns-in-Times : goal.returns-in-Times
unfolding tell slot_shape part span
returns-in-Times c =
    let a = c.args in
    told-on a.s.now a.i (cursor_of a.c) _ (not-false _ c.if-not-i.false) c.in-Times.is

pub returns-in-Earlier : goal.returns-in-Earlier
unfolding tell slot_shape part span
returns-in-Earlier c =
    let a = c.args in
    told-on a.s.now a.i (cursor_of a.c) _ (not-false _ c.if-not-i.false) c.in-Earlier.is

pub returns-in-Registers : goal.returns-in-Registers
unfolding tell slot_shape part span
returns-in-Registers c =
    let a = c.args in
    told-on a.s.now a.i (cursor_of a.c) _ (not-false _ c.if-not-i.false) c.in-Registers.is

pub returns-in-Filled : goal.returns-in-Filled
unfolding tell slot_shape part span
returns-in-Filled c =
    let a = c.args in
    ap (λ (v : ℕ). v ∷ []) c.filled_length.ensures ∙ told-on a.s.now a.i (cursor_of a.c) _ (not-false _ c.if-not-i.false) c.in-Filled.is

pub returns-in-Abi : goal.returns-in-Abi
unfolding tell slot_shape part span
returns-in-Abi c =
    let a = c.args in
    ap (λ (v : ℕ). v ∷ []) c.u64_at.ensures ∙ told-on a.s.now a.i (cursor_of a.c) _ (not-false _ c.if-not-i.false) c.in-Abi.is

pub returns-in-Limit : goal.returns-in-Limit
unfolding tell slot_shape part span
returns-in-Limit c =
    let a = c.args in
    ap (λ (v : ℕ). v ∷ []) c.u8_at.ensures.0 ∙ told-on a.s.now a.i (cursor_of a.c) _ (not-false _ c.if-not-i.false) c.in-Limit.is

pub returns-in-Listed : goal.returns-in-Listed
unfolding tell slot_shape part span
returns-in-Listed c =
    let a = c.args in
    told-on a.s.now a.i (cursor_of a.c) _ (not-false _ c.if-not-i.false) c.in-Listed.is

pub returns-in-Bytes : goal.returns-in-Bytes
unfolding tell slot_shape part span
returns-in-Bytes c =
    let a = c.args in
    told-on a.s.now a.i (cursor_of a.c) _ (not-false _ c.if-not-i.false) c.in-Bytes.is

pub returns-in-Pad : goal.returns-in-Pad
unfolding tell slot_shape part span
returns-in-Pad c =
    let a = c.args in
    told-on a.s.now a.i (cursor_of a.c) _ (not-false _ c.if-not-i.false) c.in-Pad.is

pub returns-in-Name : goal.returns-in-Name
unfolding tell slot_shape part span
returns-in-Name c =
    let a = c.args in
    ap (λ (v : ℕ). a.c.at ∷ v ∷ []) (c.name_length.ensures ∙ ap zero_in (sym (take-length (drop a.c.at a.s.now))))
    ∙ told-on a.s.now a.i (cursor_of a.c) _ (not-false _ c.if-not-i.false) c.in-Name.is
