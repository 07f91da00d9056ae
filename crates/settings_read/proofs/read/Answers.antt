-- Each part answers for its own rows: what it refuses is the answer, and what it passes leaves the rest to decide.
use Rattle.std.specs.Prelude.{◌≡◌, ℕ, ◌+◌, List, length, refl}
use Rattle.std.proofs.Common.{sym, ap, ◌∙◌, arith}
use Rattle.std.proofs.lemmas.Result.{err_from_is_err_and}
use Rattle.laws.specs.Reasons.{number-some}
use Rattle.meaning.specs.Bytes.{number_at}
use Rattle.meaning.specs.Editions.{editions}
use Rattle.meaning.specs.Reasons.{number_of}
use Rattle.meaning.specs.Refusals.{first}
use Rattle.meaning.specs.declared.Event.{Event}
use Rattle.meaning.specs.declared.Reason.{Reason}
use Rattle.meaning.specs.declared.Reason.TheVariants.{BadTable, NoRoom}
use Rattle.settings.specs.Reading.{count_of, rows_of, last_rows, after_rows, shown, first_rows, table_rows, rest_answer, store_answer, refused, read_store, rows_after}
use Rattle.settings.specs.Lent.{lent_rows, lent-length}
use Rattle.settings.specs.Versions.{Version, versions, row_of, place_of}
use Rattle.settings.proofs.Back.{settings}
use Rattle.settings.proofs.Only.{end-passed}
use Rattle.settings.proofs.Steps.{store-first, store-rest, rest_end, rest-table, table-11, table-40, table-0, read-refused, read-given}
use Rattle.settings_read.proofs.read.Goals as goal

lastly : (xs : List ℕ) (v : Version) (n at b : ℕ) → at ≡ place_of v n → b ≡ first (last_rows v editions xs at) (first (after_rows v xs (at + 19)) 0)
    → b ≡ first (last_rows v editions xs (place_of v n)) (first (after_rows v xs (place_of v n + 19)) 0)
lastly xs v n at b p q = q ∙ ap (λ (k : ℕ). first (last_rows v editions xs k) (first (after_rows v xs (k + 19)) 0)) p

rest : (xs : List ℕ) (v : Version) (n lent : ℕ) → first (first_rows versions xs) 0 ≡ 0 → v ≡ shown versions xs → n ≡ count_of v xs
    → store_answer versions editions xs lent ≡ rest_answer v editions xs n lent
rest xs v n lent z w q =
    let k : count_of (shown versions xs) xs ≡ n = ap (λ (u : Version). count_of u xs) (sym w) ∙ sym q in
    store-rest versions editions xs lent z ∙ (λ j. rest_answer (sym w j) editions xs (k j) lent)

ends : (xs : List ℕ) (v : Version) (n : ℕ) → first (last_rows v editions xs (place_of v n)) (first (after_rows v xs (place_of v n + 19)) 0) ≡ 0
    → place_of v n + 19 ≡ length xs
ends xs v n e = (end-passed v editions xs (place_of v n) 0 e).0.ends

table : (xs : List ℕ) (v : Version) (n lent : ℕ) → store_answer versions editions xs lent ≡ rest_answer v editions xs n lent
    → first (last_rows v editions xs (place_of v n)) (first (after_rows v xs (place_of v n + 19)) 0) ≡ 0
    → store_answer versions editions xs lent ≡ first (table_rows v.limit (rows_of v xs n) n lent) 0
table xs v n lent r e = r ∙ rest-table v editions xs n lent e

-- a refusal is told, and leaves the table
stopped : (xs : List ℕ) (es : List Event) (reason : Reason) → store_answer versions editions xs (length es) ≡ number_of reason
    → (refused (number_of reason) ≡ read_store versions editions xs (length es)) × (lent_rows es ≡ rows_after versions editions xs (lent_rows es))
stopped xs es reason e =
    let l = lent-length es in
    let s = read-refused versions editions xs (lent_rows es) (number_of reason) (ap (store_answer versions editions xs) l ∙ e) (number-some reason) in
    (s.0 ∙ ap (read_store versions editions xs) l, s.1)

pub returns-in_err-v : goal.returns-in_err-v
returns-in_err-v c =
    let p = err_from_is_err_and c.from_residual.result c.from_residual.ensures.1 in
    let r : Reason = c.in_err-v.field-0.0 in
    let xs = c.args.bytes.now in
    let es = c.args.events.now in
    let s = stopped xs es r (store-first versions editions xs (length es) (number_of r) c.in_err-v.ensures.answer (number-some r)) in
    record { value = rw (p.1, p.2) s.0; events_after = s.1 }

pub returns-in_err-last_answer : goal.returns-in_err-last_answer
returns-in_err-last_answer c =
    let p = err_from_is_err_and c.from_residual-in_err-last_answer.result c.from_residual-in_err-last_answer.ensures.1 in
    let r : Reason = c.in_err-last_answer.field-0.0 in
    let xs = c.args.bytes.now in
    let es = c.args.events.now in
    let v = row_of c.in_ok-v.v in
    let n = c.count_events-w.result.count in
    let zero = sym c.in_ok-v.ensures.answer in
    let last = lastly xs v n c.count_events-w.result.at (number_of r) c.count_events-w.ensures.1 c.in_err-last_answer.ensures in
    let s = stopped xs es r (rest xs v n (length es) zero c.in_ok-v.ensures.version c.count_events-w.ensures.0 ∙ rest_end v editions xs n (length es) (number_of r) last (number-some r)) in
    record { value = rw (p.1, p.2) s.0; events_after = s.1 }

pub invariant_of-stored : goal.invariant_of-stored
invariant_of-stored c =
    let xs = c.args.bytes.now in
    let n = c.count_events-w.result.count in
    let passed = sym (lastly xs (row_of c.in_ok-v.v) n c.count_events-w.result.at 0 c.count_events-w.ensures.1 c.in_ok-last_answer.ensures) in
    record { inside = omega (arith, ends xs (row_of c.in_ok-v.v) n passed) }

pub returns-then-not-rows_sound : goal.returns-then-not-rows_sound
returns-then-not-rows_sound c =
    let xs = c.args.bytes.now in
    let es = c.args.events.now in
    let v = row_of c.in_ok-v.v in
    let n = c.count_events-w.result.count in
    let passed = sym (lastly xs v n c.count_events-w.result.at 0 c.count_events-w.ensures.1 c.in_ok-last_answer.ensures) in
    let before = rest xs v n (length es) (sym c.in_ok-v.ensures.answer) c.in_ok-v.ensures.version c.count_events-w.ensures.0 in
    let s = stopped xs es BadTable (table xs v n (length es) before passed ∙ table-11 v.limit (rows_of v xs n) n (length es) (sym c.rows_sound.ensures ∙ c.if-not-rows_sound.true)) in
    record { value = s.0; events_after = s.1 }

pub returns-then-events-n : goal.returns-then-events-n
returns-then-events-n c =
    let xs = c.args.bytes.now in
    let es = c.args.events.now in
    let v = row_of c.in_ok-v.v in
    let n = c.count_events-w.result.count in
    let passed = sym (lastly xs v n c.count_events-w.result.at 0 c.count_events-w.ensures.1 c.in_ok-last_answer.ensures) in
    let before = rest xs v n (length es) (sym c.in_ok-v.ensures.answer) c.in_ok-v.ensures.version c.count_events-w.ensures.0 in
    let s = stopped xs es NoRoom (table xs v n (length es) before passed ∙ table-40 v.limit (rows_of v xs n) n (length es) (sym c.rows_sound.ensures ∙ c.if-not-rows_sound.false) c.if-events-n.true) in
    record { value = s.0; events_after = s.1 }

pub fill_rows-requires : goal.fill_rows-requires
fill_rows-requires c = c.if-events-n.false

pub overflow_add-at : goal.overflow_add-at
overflow_add-at c =
    let xs = c.args.bytes.now in
    let n = c.count_events-w.result.count in
    let passed = sym (lastly xs (row_of c.in_ok-v.v) n c.count_events-w.result.at 0 c.count_events-w.ensures.1 c.in_ok-last_answer.ensures) in
    omega (arith, ends xs (row_of c.in_ok-v.v) n passed, c.count_events-w.ensures.1, c.well_formed)

pub u64_at-requires : goal.u64_at-requires
u64_at-requires c =
    let xs = c.args.bytes.now in
    let n = c.count_events-w.result.count in
    let passed = sym (lastly xs (row_of c.in_ok-v.v) n c.count_events-w.result.at 0 c.count_events-w.ensures.1 c.in_ok-last_answer.ensures) in
    omega (arith, ends xs (row_of c.in_ok-v.v) n passed, c.count_events-w.ensures.1, c.well_formed)

pub overflow_add-at-2 : goal.overflow_add-at-2
overflow_add-at-2 c =
    let xs = c.args.bytes.now in
    let n = c.count_events-w.result.count in
    let passed = sym (lastly xs (row_of c.in_ok-v.v) n c.count_events-w.result.at 0 c.count_events-w.ensures.1 c.in_ok-last_answer.ensures) in
    omega (arith, ends xs (row_of c.in_ok-v.v) n passed, c.count_events-w.ensures.1, c.well_formed)

pub u8_at-requires : goal.u8_at-requires
u8_at-requires c =
    let xs = c.args.bytes.now in
    let n = c.count_events-w.result.count in
    let passed = sym (lastly xs (row_of c.in_ok-v.v) n c.count_events-w.result.at 0 c.count_events-w.ensures.1 c.in_ok-last_answer.ensures) in
    omega (arith, ends xs (row_of c.in_ok-v.v) n passed, c.count_events-w.ensures.1, c.well_formed)

pub overflow_add-at-3 : goal.overflow_add-at-3
overflow_add-at-3 c =
    let xs = c.args.bytes.now in
    let n = c.count_events-w.result.count in
    let passed = sym (lastly xs (row_of c.in_ok-v.v) n c.count_events-w.result.at 0 c.count_events-w.ensures.1 c.in_ok-last_answer.ensures) in
    omega (arith, ends xs (row_of c.in_ok-v.v) n passed, c.count_events-w.ensures.1, c.well_formed)

pub u32_at-requires : goal.u32_at-requires
u32_at-requires c =
    let xs = c.args.bytes.now in
    let n = c.count_events-w.result.count in
    let passed = sym (lastly xs (row_of c.in_ok-v.v) n c.count_events-w.result.at 0 c.count_events-w.ensures.1 c.in_ok-last_answer.ensures) in
    omega (arith, ends xs (row_of c.in_ok-v.v) n passed, c.count_events-w.ensures.1, c.well_formed)

pub returns : goal.returns
returns c =
    let xs = c.args.bytes.now in
    let es = c.args.events.now in
    let v = row_of c.in_ok-v.v in
    let n = c.count_events-w.result.count in
    let passed = sym (lastly xs v n c.count_events-w.result.at 0 c.count_events-w.ensures.1 c.in_ok-last_answer.ensures) in
    let before = rest xs v n (length es) (sym c.in_ok-v.ensures.answer) c.in_ok-v.ensures.version c.count_events-w.ensures.0 in
    let p : c.count_events-w.result.at ≡ place_of v n = c.count_events-w.ensures.1 in
    let x : c.u64_at.result ≡ number_at 8 xs (place_of v n + 6) = c.u64_at.ensures ∙ ap (λ (k : ℕ). number_at 8 xs (k + 6)) p in
    let y : c.u8_at.result ≡ number_at 1 xs (place_of v n + 14) = c.u8_at.ensures.0 ∙ ap (λ (k : ℕ). number_at 1 xs (k + 14)) p in
    let z : c.u32_at.result ≡ number_at 4 xs (place_of v n + 15) = c.u32_at.ensures.0 ∙ ap (λ (k : ℕ). number_at 4 xs (k + 15)) p in
    let s : store_answer versions editions xs (length es) ≡ 0 =
    table xs v n (length es) before passed ∙ table-0 v.limit (rows_of v xs n) n (length es) (sym c.rows_sound.ensures ∙ c.if-not-rows_sound.false) c.if-events-n.false in
    let l = lent-length es in
    let g = read-given versions editions xs (lent_rows es) v n (ap (store_answer versions editions xs) l ∙ s) c.in_ok-v.ensures.version c.count_events-w.ensures.0 in
    record { value = (λ j. settings n (x j) (y j) (z j)) ∙ g.0 ∙ ap (read_store versions editions xs) l; events_after = c.fill_rows.ensures ∙ g.1 }
