-- Too few or too many events, one without its bit, or equal identifiers: the list of identifiers is the store's.
use mathlib.Core.Path.{◌≡◌, sym, ap, ◌∙◌}
use mathlib.Core.List.{List}
use Prim.Native.Nat.{ℕ}
use native.Mathlib.Omega.{arith}
use lib.ListN.{length, take}
use borrow.Author.Tests.{not-true, not-false}
use Rattle.settings.specs.Reading.{rows_of}
use lib.Seq.{take_at}
use Rattle.event_laws.specs.Sound.{sound-long, sound-short, sound-unmarked, sound-by}
use Rattle.laws.specs.Lookup as Lookup
use Rattle.settings.specs.Versions.{Version, row_of}
use Rattle.settings.proofs.Only.{rows-length}
use Rattle.settings.proofs.Puts.{prefix-length}
use Rattle.meaning.specs.declared.Event.{Event}
use Rattle.meaning.specs.Events.{identifiers, events_of, distinct}
use Rattle.settings.proofs.Steps.{listed-length}
use borrow.Author.Rules.{rules}
use Rattle.settings_rows.proofs.Events.rows_sound.Goals as goal

listed : (v : Version) (xs : List ℕ) (n : ℕ) → length (events_of (rows_of v xs n)) ≡ n
listed v xs n = Lookup.rows-length (rows_of v xs n) ∙ rows-length v xs n

pub returns-then-n-lt1 : goal.returns-then-n-lt1
returns-then-n-lt1 c =
    let a = c.args.self in
    let xs = a.bytes.now in
    let es : List Event = events_of (rows_of (row_of a.version) xs a.count) in
    sym (sound-short a.version.limit es (omega (arith, c.if-n-lt1.true, listed (row_of a.version) xs a.count)))

pub returns-then-self-n : goal.returns-then-self-n
returns-then-self-n c =
    let a = c.args.self in
    let xs = a.bytes.now in
    let es : List Event = events_of (rows_of (row_of a.version) xs a.count) in
    sym (sound-long a.version.limit es (omega (arith, c.if-self-n.true, listed (row_of a.version) xs a.count)))

pub returns-then-not-list : goal.returns-then-not-list
returns-then-not-list c =
    let a = c.args.self in
    let xs = a.bytes.now in
    let es : List Event = events_of (rows_of (row_of a.version) xs a.count) in
    sym (sound-unmarked a.version.limit es (sym c.list.ensures.value ∙ c.if-not-list.true))

pub slice_bounds-distinct-end : goal.slice_bounds-distinct-end
slice_bounds-distinct-end c =
    let a = c.args.self in
    let xs = a.bytes.now in
    let es : List Event = events_of (rows_of (row_of a.version) xs a.count) in
    prefix-length a.count _ (identifiers es) _ c.list.ensures.ids_after (listed-length (row_of a.version) xs a.count)

pub returns : goal.returns
returns c =
    let a = c.args.self in
    let xs = a.bytes.now in
    let es : List Event = events_of (rows_of (row_of a.version) xs a.count) in
    c.distinct.ensures
    ∙ ap (λ (l : List ℕ). distinct (take a.count l)) c.list.ensures.ids_after
    ∙ ap distinct (take_at (identifiers es) _ a.count (listed-length (row_of a.version) xs a.count))
    ∙ sym (sound-by a.version.limit es (omega (arith, c.if-n-lt1.false, listed (row_of a.version) xs a.count)) (omega (arith, c.if-self-n.false, listed (row_of a.version) xs a.count))
    (sym c.list.ensures.value ∙ c.if-not-list.false))
