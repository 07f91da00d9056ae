-- What follows: the size of what is written, that it is clean, and that cleaning keeps the length. Turns of a writer's loops.
-- Assumes nothing.
use Rattle.std.specs.Prelude.{◌≡◌, ℕ, ◌+◌, ◌%◌, ◌^◌, ◌<◌, ◌≤◌, true, ◌&&◌, cond, List, [], ◌∷◌, ◌++◌, length, eqb, ltb}
use Rattle.std.proofs.Common.{sym, ap, ◌∙◌, add-zero, arith, length-append, ltb-true, eqb-true}
use Rattle.meaning.specs.States.{Cursor}
use Rattle.meaning.specs.declared.Item.{Item}
use Rattle.meaning.specs.Bytes.{small}
use Rattle.meaning.specs.Items.{Con}
use Rattle.meaning.specs.Writing.{emit, next, nexts, fit, write}
use Rattle.meaning.specs.Records.{Layout, Value, origin, check_by, value, unflagged, header, field_bytes, written, write_record, fits_by, fits, cleaned_record}
use Rattle.laws.specs.Bytes.{and-true}
use Rattle.laws.specs.There.{next-at}
use Rattle.laws.specs.Answers.{check-zero}
use Rattle.laws.specs.Whole.{SoundLayout, Decodes, flag-unwritten, header-length, record-there, record-again}

-- the size that is held is the length, a multiple of 8 and at most 65,528
pub size-bound : (lay : Layout) (v : Value) → fits lay v ≡ true → (v.size ≡ length (write_record lay v)) × (v.size % 8 ≡ 0) × (v.size ≤ 65528)
unfolding fits fits_by write_record
size-bound lay v f =
    let is : List Item = lay.body v.kind v.misc in
    let ts : List Item = lay.trail v.kind in
    let p₀ = and-true (eqb (lay.unknown v.kind v.misc) 0) _ f in
    let p = and-true (eqb v.flag 0) _ p₀.1 in
    let q = and-true (ltb v.kind (256 ^ 4) && (ltb v.misc (256 ^ 2) && ltb v.size (256 ^ 2))) _ p.1 in
    let r = and-true (ltb v.kind (256 ^ 4)) _ q.0 in
    let s = and-true (ltb v.misc (256 ^ 2)) (ltb v.size (256 ^ 2)) r.1 in
    let t = and-true (fit is v.body (origin 8) && fit ts v.tail (origin (length (field_bytes is v)))) _ q.1 in
    let u = and-true (eqb v.size (length (written is ts v))) (eqb (v.size % 8) 0) t.1 in
    let b : v.size < 65536 = ltb-true v.size (256 ^ 2) s.1 in
    let m = eqb-true (v.size % 8) 0 u.1 in
    (eqb-true _ _ u.0, m, omega (arith, b, m))

-- what is written has zero wherever bytes are ignored
pub written-clean : (lay : Layout) (v : Value) → SoundLayout lay → fits lay v ≡ true → cleaned_record lay (write_record lay v) ≡ write_record lay v
unfolding Decodes
written-clean lay v sound f =
    let d = record-there lay v sound f in
    sym (record-again lay (write_record lay v) sound d.0 d.1).1 ∙ ap (λ (w : Value). write_record lay w) d.2

pub cleaned-length : (lay : Layout) (xs : List ℕ) → SoundLayout lay → small xs ≡ true → check_by lay xs ≡ 0 → length (cleaned_record lay xs) ≡ length xs
unfolding value unflagged
cleaned-length lay xs sound s h =
    let r = record-again lay xs sound s h in
    let b = size-bound lay (unflagged (value lay xs)) r.0 in
    ap length (sym r.1 ∙ sym (flag-unwritten lay (value lay xs))) ∙ sym b.0 ∙ (check-zero lay xs h).1

-- a writer's cursor counts what it writes: the lengths in `fits` are places of the cursor
pub nexts-at : (is : List Item) (vs : List Con) (c : Cursor) → (nexts is vs c).at ≡ c.at + length (write is vs c)
unfolding nexts write
nexts-at [] vs c = sym (add-zero c.at)
nexts-at (i ∷ is) [] c = sym (add-zero c.at)
nexts-at (i ∷ is) (v ∷ vs) c =
    let r = nexts-at is vs (next i v c) in
    let a : (next i v c).at ≡ c.at + length (cond i.on (emit i.shape c v) []) = next-at i.on i.shape v c in
    let l = length-append (cond i.on (emit i.shape c v) []) (write is vs (next i v c)) in
    r ∙ (let e : (next i v c).at + length (write is vs (next i v c)) ≡ c.at + length (cond i.on (emit i.shape c v) [] ++ write is vs (next i v c)) = omega (arith, a, l) in e)

pub fields-end : (is : List Item) (v : Value) → length (field_bytes is v) ≡ (nexts is v.body (origin 8)).at
unfolding field_bytes
fields-end is v =
    let l = length-append (header v) (write is v.body (origin 8)) in
    let h = header-length v in
    let n = nexts-at is v.body (origin 8) in
    omega (arith, l, h, n)

pub record-end : (is ts : List Item) (v : Value) → length (written is ts v) ≡ (nexts ts v.tail (origin (length (field_bytes is v)))).at
unfolding written
record-end is ts v =
    length-append (field_bytes is v) (write ts v.tail (origin (length (field_bytes is v)))) ∙ sym (nexts-at ts v.tail (origin (length (field_bytes is v))))
