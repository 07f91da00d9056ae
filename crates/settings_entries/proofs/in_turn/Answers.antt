-- An event entry that stands there leaves room for its index, which is compared with the number asked for.
use Rattle.std.specs.Prelude.{Some, false}
use mathlib.Core.Path.{◌≡◌, refl, sym, ap, ◌∙◌}
use mathlib.Core.Bool.{Bool, true, ◌&&◌}
use Prim.Native.Nat.{ℕ, ◌+◌, ◌≤◌}
use native.Mathlib.Omega.{arith}
use lib.Dec.{eqb}
use lib.ListN.{length}
use borrow.Author.Tests.{not-true, not-false}
use Rattle.meaning.specs.Bytes.{number_at}
use Rattle.entries.specs.Entries.{no_entry, entry_of, entry_at}
use mathlib.Core.List.{List}
use Rattle.entries.specs.Entries.{Entry}
use Rattle.settings.specs.Versions.{Version, row_of, row_length, place_of}
use Rattle.settings.specs.Reading.{is_event, in_turn}
use Rattle.settings.proofs.Only.{is-by, entry-room}
use borrow.Author.Rules.{rules}
use Rattle.settings_entries.proofs.in_turn.Goals as goal

event : (v : Version) (b : List ℕ) (n at : ℕ) (e : Entry) (r : Bool) → at ≡ place_of v n → e ≡ entry_at b at → r ≡ is_event v e
    → is_event v (entry_at b (place_of v n)) ≡ r
event v b n at e r p q s = ap (λ (k : ℕ). is_event v (entry_at b k)) (sym p) ∙ ap (is_event v) (sym q) ∙ sym s

room : (v : Version) (b : List ℕ) (n : ℕ) → is_event v (entry_at b (place_of v n)) ≡ true → place_of v n + (6 + row_length v) ≤ length b
room v b n t =
    let i = is-by (entry_at b (place_of v n)) 2 (row_length v) t in
    entry-room b (place_of v n) (row_length v) i.whole i.length-is

pub returns-in_default : goal.returns-in_default
unfolding in_turn
returns-in_default c =
    let a = c.args in
    let h = event (row_of a.v) a.bytes.now a.n a.at no_entry false c.requires c.in_default.ensures refl in
    sym (ap (λ (b : Bool). b && eqb (number_at a.v.width a.bytes.now (place_of (row_of a.v) a.n + 6)) a.n) h)

pub returns-then-not-is_event : goal.returns-then-not-is_event
unfolding in_turn
returns-then-not-is_event c =
    let a = c.args in
    let h = event (row_of a.v) a.bytes.now a.n a.at (entry_of (Some c.in-Some.e)) c.is_event.result c.requires c.in-Some.ensures c.is_event.ensures in
    sym (ap (λ (b : Bool). b && eqb (number_at a.v.width a.bytes.now (place_of (row_of a.v) a.n + 6)) a.n) (h ∙ c.if-not-is_event.true))

pub overflow_add-at : goal.overflow_add-at
overflow_add-at c =
    let a = c.args in
    let h = event (row_of a.v) a.bytes.now a.n a.at (entry_of (Some c.in-Some.e)) c.is_event.result c.requires c.in-Some.ensures c.is_event.ensures in
    omega (arith, room (row_of a.v) a.bytes.now a.n (h ∙ c.if-not-is_event.false), c.well_formed, c.requires)

pub index_at-requires : goal.index_at-requires
index_at-requires c =
    let a = c.args in
    let h = event (row_of a.v) a.bytes.now a.n a.at (entry_of (Some c.in-Some.e)) c.is_event.result c.requires c.in-Some.ensures c.is_event.ensures in
    (c.args.v.low, c.args.v.high, omega (arith, room (row_of a.v) a.bytes.now a.n (h ∙ c.if-not-is_event.false), c.requires))

pub returns : goal.returns
unfolding in_turn
returns c =
    let a = c.args in
    let h = event (row_of a.v) a.bytes.now a.n a.at (entry_of (Some c.in-Some.e)) c.is_event.result c.requires c.in-Some.ensures c.is_event.ensures in
    ap (λ (x : ℕ). eqb x a.n) (c.index_at.ensures ∙ ap (λ (p : ℕ). number_at a.v.width a.bytes.now (p + 6)) c.requires)
    ∙ sym (ap (λ (b : Bool). b && eqb (number_at a.v.width a.bytes.now (place_of (row_of a.v) a.n + 6)) a.n) (h ∙ c.if-not-is_event.false))
