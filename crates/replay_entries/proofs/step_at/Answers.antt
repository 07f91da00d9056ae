-- Each answer is the first row that holds, of the entry that stands there.
use Rattle.std.specs.Prelude.{Some}
use mathlib.Core.Path.{◌≡◌, refl, sym, ap, ◌∙◌}
use mathlib.Core.List.{List}
use mathlib.Core.Bool.{Bool, true, false}
use Prim.Native.Nat.{ℕ, ◌+◌, ◌-◌, ◌≤◌}
use native.Mathlib.Omega.{arith}
use lib.ListN.{length, take, drop, length-drop}
use lib.Seq.{length-take-le}
use borrow.Author.Rules.{rules}
use borrow.Author.Tests.{eqb-true, ne_eqb}
use Rattle.meaning.specs.Bytes.{number_at}
use Rattle.meaning.specs.Refusals.{first}
use Rattle.runs.specs.Cutting.{framed}
use Rattle.entries.specs.Entries.{Entry, entry, entry_of, no_entry, entry_at}
use Rattle.entries.specs.Laws.{stands}
use Rattle.replay.specs.Replay.{of_store, body_of, entry_rows, fault_at}
use Rattle.replay_entries.proofs.step_at.Goals as goal

-- by the entry that was read
by : (xs : List ℕ) (at k : ℕ) (e : Entry) → e ≡ entry_at xs at → k ≡ first (entry_rows of_store xs e) 0 → k ≡ fault_at of_store xs at
unfolding fault_at
by xs at k e q h = h ∙ ap (λ (x : Entry). first (entry_rows of_store xs x) 0) q

-- its body lies in the trace
body-ends : (xs : List ℕ) (at : ℕ) (e : Entry) → e ≡ entry_at xs at → e.whole ≡ true → e.body + e.length ≤ length xs
body-ends xs at e q w =
    let s = stands xs at (ap (λ (x : Entry). x.whole) (sym q) ∙ w) in
    let b = ap (λ (x : Entry). x.body) (q ∙ s.told) in
    let n = ap (λ (x : Entry). x.length) (q ∙ s.told) in
    omega (arith, s.least, s.room, b, n)

-- the record that was looked at is the body, all of it
body_is : (xs : List ℕ) (e : Entry) → take (e.body + e.length - e.body) (drop e.body xs) ≡ body_of xs e
body_is xs e =
    let n : e.body + e.length - e.body ≡ e.length = omega arith in
    ap (λ (k : ℕ). take k (drop e.body xs)) n

body-length : (xs : List ℕ) (at : ℕ) (e : Entry) → e ≡ entry_at xs at → e.whole ≡ true → length (body_of xs e) ≡ e.length
body-length xs at e q w = length-take-le e.length (drop e.body xs) (omega (arith, body-ends xs at e q w, length-drop e.body xs))

framed_is : (xs : List ℕ) (e : Entry) (r : Bool) → r ≡ framed (take (e.body + e.length - e.body) (drop e.body xs)) → r ≡ framed (body_of xs e)
framed_is xs e r h = h ∙ ap framed (body_is xs e)

-- the entry, with its kind, its body's place and its length as they are found
stands-as : (xs : List ℕ) (at kind n : ℕ) (e : Entry) → e ≡ entry_at xs at → e.whole ≡ true → e.kind ≡ kind → e.length ≡ n
    → (e.body ≡ at + 6) × (entry_at xs at ≡ entry kind (at + 6) n)
stands-as xs at kind n e q w k l =
    let s = stands xs at (ap (λ (x : Entry). x.whole) (sym q) ∙ w) in
    let b : e.body ≡ at + 6 = ap (λ (x : Entry). x.body) (q ∙ s.told) in
    (b, sym q ∙ (λ i. record { whole = w i; kind = k i; body = b i; length = l i }))

-- an offer of that record, which lies where the entry's body does
offers : (xs : List ℕ) (from : ℕ × ℕ) (at : ℕ) (e : Entry) → e ≡ entry_at xs at → e.whole ≡ true → e.kind ≡ 16
    → (entry_at xs at ≡ entry 16 (at + 6) (length (take (e.body + e.length - e.body) (drop e.body xs))))
    × (take (e.body + e.length - e.body) (drop e.body xs) ≡ body_of xs (entry_at xs at))
    × ◌≡◌ {A = ℕ × ℕ} (from.0, e.body + from.1) (from.0, at + 6 + from.1)
offers xs from at e q w k =
    let l = ap length (body_is xs e) ∙ body-length xs at e q w in
    let s = stands-as xs at 16 _ e q w k (sym l) in
    (s.1, body_is xs e ∙ ap (body_of xs) q, (λ i. (from.0, s.0 i + from.1)))

pub returns-in_default : goal.returns-in_default
unfolding first
returns-in_default c = record { answer = by _ _ 51 no_entry c.in_default.ensures refl; step = tt }

pub overflow_add-record : goal.overflow_add-record
overflow_add-record c = record { fits = omega (arith, body-ends _ _ _ c.in-Some.ensures refl, c.well_formed) }

pub slice_bounds-record-end : goal.slice_bounds-record-end
slice_bounds-record-end c = body-ends _ _ _ c.in-Some.ensures refl

pub returns-then-one_record : goal.returns-then-one_record
unfolding first
returns-then-one_record c =
    let e : Entry = entry_of (Some c.in-Some.e) in
    let f = sym (framed_is _ e _ c.one_record.ensures) ∙ c.if-one_record.true in
    record {
      answer = by _ _ 0 e c.in-Some.ensures (simp ((eqb-true _ 16 (sym c.is_of.ensures ∙ c.if-is_of.true)), f));
      step = offers _ c.args.trace.ref_ptr _ e c.in-Some.ensures refl (eqb-true _ 16 (sym c.is_of.ensures ∙ c.if-is_of.true));
    }

pub returns-then-is_of : goal.returns-then-is_of
unfolding first
returns-then-is_of c =
    let e : Entry = entry_of (Some c.in-Some.e) in
    let f = sym (framed_is _ e _ c.one_record.ensures) ∙ c.if-one_record.false in
    record { answer = by _ _ 53 e c.in-Some.ensures (simp ((eqb-true _ 16 (sym c.is_of.ensures ∙ c.if-is_of.true)), f)); step = tt }

pub u32_at-requires : goal.u32_at-requires
u32_at-requires c = omega (arith, body-ends _ _ _ c.in-Some.ensures refl, c.if-n-eq4.true)

pub returns-then-n-eq4 : goal.returns-then-n-eq4
unfolding first
returns-then-n-eq4 c =
    let e : Entry = entry_of (Some c.in-Some.e) in
    let s = stands-as _ _ 17 4 e c.in-Some.ensures refl (eqb-true _ 17 (sym c.is_of-2.ensures ∙ c.if-is_of-2.true)) c.if-n-eq4.true in
    record {
      answer = by _ _ 0 e c.in-Some.ensures (simp ((eqb-true _ 17 (sym c.is_of-2.ensures ∙ c.if-is_of-2.true)), c.if-n-eq4.true));
      step = (s.1, c.u32_at.ensures.0 ∙ ap (number_at 4 c.args.trace.now) s.0);
    }

pub returns-then-is_of-2 : goal.returns-then-is_of-2
unfolding first
returns-then-is_of-2 c =
    let e : Entry = entry_of (Some c.in-Some.e) in
    record { answer = by _ _ 51 e c.in-Some.ensures (simp ((eqb-true _ 17 (sym c.is_of-2.ensures ∙ c.if-is_of-2.true)), ne_eqb e.length 4 c.if-n-eq4.false)); step = tt }

pub returns-then-of_store : goal.returns-then-of_store
unfolding first
returns-then-of_store c =
    let e : Entry = entry_of (Some c.in-Some.e) in
    let s : of_store e ≡ true = sym c.of_store.ensures ∙ c.if-of_store.true in
    record {
      answer = by _ _ 52 e c.in-Some.ensures (simp (sym c.is_of.ensures ∙ c.if-is_of.false, sym c.is_of-2.ensures ∙ c.if-is_of-2.false, s));
      step = tt;
    }

pub returns : goal.returns
unfolding first
returns c =
    let e : Entry = entry_of (Some c.in-Some.e) in
    let s : of_store e ≡ false = sym c.of_store.ensures ∙ c.if-of_store.false in
    record {
      answer = by _ _ 51 e c.in-Some.ensures (simp (sym c.is_of.ensures ∙ c.if-is_of.false, sym c.is_of-2.ensures ∙ c.if-is_of-2.false, s));
      step = tt;
    }
