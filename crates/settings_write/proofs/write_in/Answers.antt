-- The tests in their order; where none refuses, three runs of bytes, each right after the other, are the store.
use mathlib.Core.Path.{◌≡◌, sym, ap, ◌∙◌}
use mathlib.Core.Bool.{Bool, true}
use mathlib.Core.List.{List}
use Prim.Native.Nat.{ℕ, ◌+◌, ◌≤◌}
use native.Mathlib.Omega.{arith}
use lib.ListN.{length}
use borrow.Author.Tests.{not-true, not-false}
use Rattle.meaning.specs.declared.Event.{Event}
use Rattle.meaning.specs.Bytes.{put}
use Rattle.meaning.specs.Editions.{editions, allowed}
use Rattle.meaning.specs.Ring.{length_allowed}
use Rattle.settings.specs.Lent.{lent_rows, lent-length, same-events}
use Rattle.settings.specs.Versions.{row_of, place_of}
use Rattle.settings.proofs.Puts.{place-bound, store-put, write-11, write-1, write-2, write-40, write-0, write-refused, write-given}
use Rattle.entries.specs.Entries.{entry_bytes}
use Rattle.meaning.specs.Events.{events_of, sound}
use Rattle.settings.specs.Writing.{stored}
use Rattle.settings.proofs.Back.{rows-limit}
use borrow.Author.Rules.{rules}
use Rattle.settings_write.proofs.write_in.Goals as goal

-- the rows' events are the table's
is-sound : (limit : ℕ) (es : List Event) (b : Bool) → sound limit es ≡ b → sound limit (events_of (lent_rows es)) ≡ b
is-sound limit es b h = ap (sound limit) (same-events es) ∙ h

pub returns-then-not-sound : goal.returns-then-not-sound
returns-then-not-sound c =
    let a = c.args in
    let rows = lent_rows a.events.now in
    let d = a.buffer.now in
    let p = write-refused (row_of a.v) editions rows a.ring a.edition a.budget d 11
    (write-11 (row_of a.v) editions rows a.ring a.edition a.budget (length d) (is-sound a.v.limit a.events.now _ (sym c.sound.ensures ∙ c.if-not-sound.true)))
    (λ (e : ◌≡◌ {A = ℕ} 11 0). omega arith) in record { value = p.0; buffer_after = p.1 }

pub returns-then-not-length_allowed : goal.returns-then-not-length_allowed
returns-then-not-length_allowed c =
    let sounds = is-sound c.args.v.limit c.args.events.now _ (sym c.sound.ensures ∙ c.if-not-sound.false) in
    let a = c.args in
    let rows = lent_rows a.events.now in
    let d = a.buffer.now in
    let p = write-refused (row_of a.v) editions rows a.ring a.edition a.budget d 1
    (write-1 (row_of a.v) editions rows a.ring a.edition a.budget (length d) sounds
    (sym c.length_allowed.ensures ∙ c.if-not-length_allowed.true))
    (λ (e : ◌≡◌ {A = ℕ} 1 0). omega arith) in record { value = p.0; buffer_after = p.1 }

pub returns-then-not-allowed : goal.returns-then-not-allowed
returns-then-not-allowed c =
    let sounds = is-sound c.args.v.limit c.args.events.now _ (sym c.sound.ensures ∙ c.if-not-sound.false) in
    let ringed = sym c.length_allowed.ensures ∙ c.if-not-length_allowed.false in
    let a = c.args in
    let rows = lent_rows a.events.now in
    let d = a.buffer.now in
    let p = write-refused (row_of a.v) editions rows a.ring a.edition a.budget d 2
    (write-2 (row_of a.v) editions rows a.ring a.edition a.budget (length d) sounds ringed
    (sym c.allowed.ensures ∙ c.if-not-allowed.true))
    (λ (e : ◌≡◌ {A = ℕ} 2 0). omega arith) in record { value = p.0; buffer_after = p.1 }

pub place_of-at-requires : goal.place_of-at-requires
place_of-at-requires c =
    let sounds = is-sound c.args.v.limit c.args.events.now _ (sym c.sound.ensures ∙ c.if-not-sound.false) in
    omega (arith, place-bound (row_of c.args.v) (length c.args.events.now) c.args.v.high, rows-limit c.args.v.limit (lent_rows c.args.events.now) sounds, lent-length c.args.events.now, c.args.v.most)

pub overflow_add-at : goal.overflow_add-at
overflow_add-at c =
    let sounds = is-sound c.args.v.limit c.args.events.now _ (sym c.sound.ensures ∙ c.if-not-sound.false) in
    omega (arith, c.place_of-at.ensures, place-bound (row_of c.args.v) (length c.args.events.now) c.args.v.high, rows-limit c.args.v.limit (lent_rows c.args.events.now) sounds, lent-length c.args.events.now, c.args.v.most)

pub returns-then-buffer-at : goal.returns-then-buffer-at
returns-then-buffer-at c =
    let sounds = is-sound c.args.v.limit c.args.events.now _ (sym c.sound.ensures ∙ c.if-not-sound.false) in
    let ringed = sym c.length_allowed.ensures ∙ c.if-not-length_allowed.false in
    let editioned = sym c.allowed.ensures ∙ c.if-not-allowed.false in
    let a = c.args in
    let rows = lent_rows a.events.now in
    let d = a.buffer.now in
    let p = write-refused (row_of a.v) editions rows a.ring a.edition a.budget d 40
    (write-40 (row_of a.v) editions rows a.ring a.edition a.budget (length d) sounds ringed editioned (omega (arith, c.if-buffer-at.true, c.place_of-at.ensures ∙ ap (place_of (row_of a.v)) (sym (lent-length a.events.now)))))
    (λ (e : ◌≡◌ {A = ℕ} 40 0). omega arith) in record { value = p.0; buffer_after = p.1 }

pub overflow_add-result : goal.overflow_add-result
overflow_add-result c =
    let sounds = is-sound c.args.v.limit c.args.events.now _ (sym c.sound.ensures ∙ c.if-not-sound.false) in
    omega (arith, c.place_of-at.ensures, place-bound (row_of c.args.v) (length c.args.events.now) c.args.v.high, rows-limit c.args.v.limit (lent_rows c.args.events.now) sounds, lent-length c.args.events.now, c.args.v.most)

pub returns : goal.returns
returns c =
    let sounds = is-sound c.args.v.limit c.args.events.now _ (sym c.sound.ensures ∙ c.if-not-sound.false) in
    let ringed = sym c.length_allowed.ensures ∙ c.if-not-length_allowed.false in
    let editioned = sym c.allowed.ensures ∙ c.if-not-allowed.false in
    let a = c.args in
    let rows = lent_rows a.events.now in
    let d = a.buffer.now in
    let p : c.place_of-at.result ≡ place_of (row_of a.v) (length rows) = c.place_of-at.ensures ∙ ap (place_of (row_of a.v)) (sym (lent-length a.events.now)) in
    let m : place_of (row_of a.v) (length rows) + 19 ≤ length d = omega (arith, c.if-buffer-at.false, p) in
    let g = write-given (row_of a.v) editions rows a.ring a.edition a.budget d (write-0 (row_of a.v) editions rows a.ring a.edition a.budget (length d) sounds ringed editioned m) in record {
      value = ap (λ (k : ℕ). stored 0 (k + 19)) p ∙ g.0;
      buffer_after = store-put (row_of a.v) d _ _ _ rows c.place_of-at.result a.ring a.edition a.budget p m
          (c.put_entry.ensures ∙ ap (λ (k : ℕ). put d 0 (entry_bytes k c.le16-shown.result)) c.number.ensures ∙ ap (λ (b : List ℕ). put d 0 (entry_bytes 1 b)) c.le16-shown.ensures) c.put_rows.ensures c.put_last.ensures
          ∙ g.1;
    }
