-- 2, 11 and 54 in their order, each before anything is written; past them the second pass has room, and the sums are the first pass's.
use mathlib.Core.Path.{◌≡◌, sym, ap, ◌∙◌}
use mathlib.Core.List.{List}
use mathlib.Core.Logic.{inl, inr}
use mathlib.Core.Bool.{true}
use Prim.Native.Nat.{ℕ, ◌-◌, ◌*◌}
use native.Mathlib.Omega.{arith}
use lib.ListN.{length}
use borrow.Author.Rules.{rules}
use borrow.Author.Tests.{not-true, not-false}
use Rattle.meaning.specs.declared.Event.{Event}
use Rattle.meaning.specs.Editions.{editions, allowed}
use Rattle.meaning.specs.Events.{sound}
use Rattle.salvage.specs.Salvage.{holes, dropped, changes, tells, table_unready, table_judge}
use Rattle.salvage.proofs.Promises.{changes-length, kept-and-dropped}
use Rattle.salvage.proofs.Turns.{unready-2, unready-11, unready-0, answer-before, answer-54, answer-0, refused-result, accepted-result}
use Rattle.salvaging.proofs.salvage.Goals as goal

-- the judge of a table
abbrev J : ℕ → List Event → List ℕ → ℕ
J e es = table_judge editions e es

-- the list's bytes by the number of its entries
entries : (e : ℕ) (es : List Event) (xs : List ℕ) (n : ℕ) → n ≡ length (holes (J e es) xs) → length (changes (holes (J e es) xs)) ≡ 22 * n
entries e es xs n h = changes-length (holes (J e es) xs) ∙ ap (λ (k : ℕ). 22 * k) (sym h)

pub returns-then-not-allowed : goal.returns-then-not-allowed
returns-then-not-allowed c =
    let a = c.args in
    let es = a.events.now in
    let b = table_unready a.limit editions a.e es in
    let u = unready-2 (allowed editions a.e) (sound a.limit es) (sym c.allowed.ensures ∙ c.if-not-allowed.true) in
    let x = refused-result b (J a.e es) a.xs.now a.out.now a.list.now 2 (omega arith) (answer-before b (J a.e es) a.xs.now (length a.out.now) (length a.list.now) 2 (omega arith) u) in record { value = c.refused.ensures ∙ x.0; out_after = x.1; list_after = x.2 }

pub returns-then-not-sound : goal.returns-then-not-sound
returns-then-not-sound c =
    let a = c.args in
    let es = a.events.now in
    let b = table_unready a.limit editions a.e es in
    let u = unready-11 (allowed editions a.e) (sound a.limit es) (sym c.allowed.ensures ∙ c.if-not-allowed.false) (sym c.sound.ensures ∙ c.if-not-sound.true) in
    let x = refused-result b (J a.e es) a.xs.now a.out.now a.list.now 11 (omega arith) (answer-before b (J a.e es) a.xs.now (length a.out.now) (length a.list.now) 11 (omega arith) u) in record { value = c.refused-then-not-sound.ensures ∙ x.0; out_after = x.1; list_after = x.2 }

pub returns-then-out-t : goal.returns-then-out-t
returns-then-out-t c =
    let a = c.args in
    let es = a.events.now in
    let b = table_unready a.limit editions a.e es in
    let x = refused-result b (J a.e es) a.xs.now a.out.now a.list.now 54 (omega arith)
    (answer-54 b (J a.e es) a.xs.now (length a.out.now) (length a.list.now) (unready-0 (allowed editions a.e) (sound a.limit es) (sym c.allowed.ensures ∙ c.if-not-allowed.false) (sym c.sound.ensures ∙ c.if-not-sound.false)) (inl (omega (arith, c.if-out-t.true, c.measure-t.ensures.0)))) in record { value = c.refused-then-out-t.ensures ∙ x.0; out_after = x.1; list_after = x.2 }

pub returns-then-list-t : goal.returns-then-list-t
returns-then-list-t c =
    let a = c.args in
    let es = a.events.now in
    let b = table_unready a.limit editions a.e es in
    let x = refused-result b (J a.e es) a.xs.now a.out.now a.list.now 54 (omega arith)
    (answer-54 b (J a.e es) a.xs.now (length a.out.now) (length a.list.now) (unready-0 (allowed editions a.e) (sound a.limit es) (sym c.allowed.ensures ∙ c.if-not-allowed.false) (sym c.sound.ensures ∙ c.if-not-sound.false)) (inr (omega (arith, c.if-list-t.true, entries a.e es a.xs.now _ c.measure-t.ensures.1)))) in record { value = c.refused-then-list-t.ensures ∙ x.0; out_after = x.1; list_after = x.2 }

pub write_all-requires : goal.write_all-requires
write_all-requires c =
    let a = c.args in
    let es = a.events.now in
    record { out-fits = omega (arith, c.if-out-t.false, c.measure-t.ensures.0); list-fits = omega (arith, c.if-list-t.false, entries a.e es a.xs.now _ c.measure-t.ensures.1) }

pub overflow_sub-result : goal.overflow_sub-result
overflow_sub-result c =
    let a = c.args in
    let es = a.events.now in
    omega (arith, c.measure-t.ensures.0, kept-and-dropped (J a.e es) a.xs.now)

pub overflow_mul-result : goal.overflow_mul-result
overflow_mul-result c = omega (arith, c.if-list-t.false)

pub returns : goal.returns
returns c =
    let a = c.args in
    let es = a.events.now in
    let b = table_unready a.limit editions a.e es in
    let m = c.measure-t.ensures in
    let n = entries a.e es a.xs.now _ c.measure-t.ensures.1 in
    let d : length a.xs.now - c.measure-t.result.kept ≡ dropped (holes (J a.e es) a.xs.now) = omega (arith, m.0, kept-and-dropped (J a.e es) a.xs.now) in
    let x = accepted-result b (J a.e es) a.xs.now a.out.now a.list.now
    (answer-0 b (J a.e es) a.xs.now (length a.out.now) (length a.list.now) (unready-0 (allowed editions a.e) (sound a.limit es) (sym c.allowed.ensures ∙ c.if-not-allowed.false) (sym c.sound.ensures ∙ c.if-not-sound.false)) (omega (arith, c.if-out-t.false, m.0)) (omega (arith, c.if-list-t.false, n))) in record { value = (λ i. tells (m.0 i) (d i) (sym n i) 0) ∙ x.0; out_after = c.write_all.ensures.out_after ∙ x.1; list_after = c.write_all.ensures.list_after ∙ x.2 }
