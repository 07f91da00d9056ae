-- Every answer is one of the numbers of document 01's table. Assumes nothing.
use Rattle.std.specs.Prelude.{◌≡◌, refl, List, [], ◌∷◌, Bool, true, false, cond, not, ◌&&◌, ℕ, ◌+◌, ◌-◌, ◌%◌, ◌<◌, leb, ltb, eqb, length, drop, get_or}
use Rattle.std.proofs.Common.{sym, ◌∙◌, subst, ltb-true}
use Rattle.std.proofs.lemmas.Bool.{not-true}
use Rattle.meaning.specs.declared.Attributes.{Attributes}
use Rattle.meaning.specs.States.{Cursor}
use Rattle.meaning.specs.declared.Item.{Item}
use Rattle.meaning.specs.declared.Known.{Known}
use Rattle.meaning.specs.declared.Shape.{Shape}
use Rattle.meaning.specs.declared.Shape.TheVariants.{Number, Ignored, Count, Size, Times, Earlier, Registers, Filled, Abi, Limit, Listed, Bytes, Pad, Name}
use Rattle.meaning.specs.Bytes.{num, zero_in, number_at}
use Rattle.meaning.specs.Refusals.{refusal, first, or_else}
use Rattle.meaning.specs.Items.{bytes, span, rule, holds, past, part, settle, refuse, shape_step, step, walk}
use Rattle.meaning.specs.Editions.{allowed, known, unknowns, clashes, unreadable, is_in, is_unknown}
use Rattle.meaning.specs.Records.{Layout, layout, kind_of, misc_of, size_of, room, origin, fields_of, closed, fields_answer, judge, check_by, check, flag_of, record_check, write_record}
use Rattle.meaning.specs.Schema.{schema}
use Rattle.meaning.specs.Values.{body_words, slots_told, any_beyond, meant, flagged, writable, write_by, write_answer}
use Rattle.meaning.specs.Names.{name_answer}
use Rattle.meaning.specs.Ring.{Asked, asking, go_at, stopped, frame}
use Rattle.laws.specs.Bytes.{apart}
use Rattle.laws.specs.Rows.{others, in-each, in-more, in-cond, first-in, stopped-in}
use Rattle.laws.specs.Rings.{stop_rows, frame-rows}
use Rattle.editions.specs.Numbers.{field_numbers, record_numbers, check_numbers, record_check_numbers, stop_numbers, table_stop_numbers, write_numbers, name_numbers}

-- what is in a list is no number that is not
pub not_in : (ns : List ℕ) (k x : ℕ) → is_in k ns ≡ false → is_in x ns ≡ true → x ≡ k → ⊥
not_in ns k x out h q = apart (sym out ∙ subst (λ (m : ℕ). is_in m ns ≡ true) q h)

-- ---- the fields: by induction over items

abbrev In : Cursor → Type 0
In c = is_in c.why field_numbers ≡ true

either : (b : Bool) (c d : Cursor) → In c → In d → In (cond b c d)
either true c d p q = p
either false c d p q = q

rule-in : (sh : Shape) (c : Cursor) (ys : List ℕ) → is_in (rule sh c ys) field_numbers ≡ true
unfolding rule
rule-in (Number w) c ys = refl
rule-in (Ignored k) c ys = refl
rule-in (Count w) c ys = refl
rule-in (Size w) c ys = in-cond field_numbers (eqb ((num ys + bytes w) % 8) 0) 0 32 refl refl
rule-in (Times k) c ys = refl
rule-in (Earlier k) c ys = refl
rule-in Registers c ys = refl
rule-in Filled c ys = in-cond field_numbers (leb (num ys) c.n) 0 32 refl refl
rule-in (Abi m) c ys = refl
rule-in (Limit k) c ys = in-cond field_numbers (leb (num ys) k) 0 32 refl refl
rule-in (Listed k) c ys = refl
rule-in (Bytes k) c ys = refl
rule-in Pad c ys = refl
rule-in Name c ys = in-cond field_numbers (ltb (zero_in ys) (length ys) && leb (length ys) (zero_in ys + 8)) 0 33 refl refl

shape-in : (sh : Shape) (c : Cursor) (rest : List ℕ) → In c → In (shape_step sh c rest)
unfolding shape_step settle past
shape-in sh c rest h =
    let ys : List ℕ = part sh c rest in
    let d : Cursor = past sh (holds sh c ys) (length ys) c in
    either (leb (span sh c (length rest)) (length rest)) (settle (rule sh c ys) c d) (refuse 30 c)
    (either (eqb (rule sh c ys) 0) d (refuse (rule sh c ys) c) h (rule-in sh c ys))
    refl

pub walk-in : (xs : List ℕ) (is : List Item) (c : Cursor) → is_in c.why field_numbers ≡ true → is_in (walk xs is c).why field_numbers ≡ true
unfolding walk step
walk-in xs [] c h = h
walk-in xs (i ∷ is) c h =
    let d : Cursor = shape_step i.shape c (drop c.at xs) in
    walk-in xs is (step xs i c) (either (eqb c.why 0) (cond i.on d c) c (either i.on d c (shape-in i.shape c (drop c.at xs) h) h) h)

pub fields_in : (is : List Item) (t : ℕ) (xs : List ℕ) → is_in (fields_answer is t xs) field_numbers ≡ true
unfolding fields_answer closed
fields_in is t xs =
    let c : Cursor = walk (fields_of t xs) is (origin 8) in
    let end : ℕ = length xs - t in
    in-cond field_numbers (leb (8 + t) (length xs)) (closed end c) 30
    (in-cond field_numbers (eqb c.why 0) (cond (eqb c.at end) 0 31) c.why
    (in-cond field_numbers (eqb c.at end) 0 31 refl refl)
    (walk-in (fields_of t xs) is (origin 8) refl))
    refl

-- the fields never say "unknown"
pub fields-known : (is : List Item) (t : ℕ) (xs : List ℕ) → is_unknown (fields_answer is t xs) ≡ false
unfolding is_unknown
fields-known is t xs = not-true _ (in-each (λ (n : ℕ). not (is_unknown n)) field_numbers (fields_answer is t xs) refl (fields_in is t xs))

-- ---- a record, the record check, a stop

pub unreadable-in : (k : Known) (a : Attributes) (t misc : ℕ) → is_in (unreadable k a t misc) record_numbers ≡ true
unfolding unreadable
unreadable-in k a t misc = first-in record_numbers (unknowns k t misc a) (first (clashes t a) 0) refl (first-in record_numbers (clashes t a) 0 refl refl)

pub judge-in : (k : Known) (a : Attributes) (xs : List ℕ) → is_in (judge (layout k a) xs) record_numbers ≡ true
unfolding judge layout
judge-in k a xs =
    let lay : Layout = layout k a in
    let n : ℕ = fields_answer (lay.body (kind_of xs) (misc_of xs)) (room (lay.trail (kind_of xs))) xs in
    in-cond record_numbers (eqb (unreadable k a (kind_of xs) (misc_of xs)) 0) n (unreadable k a (kind_of xs) (misc_of xs))
    (in-more field_numbers record_numbers n refl (fields_in (lay.body (kind_of xs) (misc_of xs)) (room (lay.trail (kind_of xs))) xs))
    (unreadable-in k a (kind_of xs) (misc_of xs))

-- so an answer fits its two bytes of the journal
pub judge-small : (k : Known) (a : Attributes) (xs : List ℕ) → judge (layout k a) xs < 65536
judge-small k a xs = ltb-true _ _ (in-each (λ (n : ℕ). ltb n 65536) record_numbers (judge (layout k a) xs) refl (judge-in k a xs))

pub check-in : (rows : List Known) (e : ℕ) (a : Attributes) (xs : List ℕ) → is_in (check rows e a xs) check_numbers ≡ true
unfolding check check_by
check-in rows e a xs =
    let lay : Layout = layout (known rows e) a in
    let j = in-more record_numbers check_numbers (judge lay xs) refl (judge-in (known rows e) a xs) in
    let n1 = cond (eqb (size_of xs) (length xs)) (judge lay xs) 7 in
    let n2 = cond (leb 8 (size_of xs) && eqb (size_of xs % 8) 0) n1 6 in
    in-cond check_numbers (allowed rows e) (cond (leb 8 (length xs)) n2 7) 2
    (in-cond check_numbers (leb 8 (length xs)) n2 7
    (in-cond check_numbers (leb 8 (size_of xs) && eqb (size_of xs % 8) 0) n1 6
    (in-cond check_numbers (eqb (size_of xs) (length xs)) (judge lay xs) 7 j refl)
    refl)
    refl)
    refl

pub record-check-in : (rows : List Known) (e : ℕ) (a : Attributes) (xs : List ℕ) → is_in (record_check rows e a xs) record_check_numbers ≡ true
unfolding record_check
record-check-in rows e a xs =
    let n : ℕ = cond (eqb (flag_of (layout (known rows e) a) xs) 0) 0 44 in
    in-cond record_check_numbers (eqb (check rows e a xs) 0) n (check rows e a xs)
    (in-cond record_check_numbers (eqb (flag_of (layout (known rows e) a) xs) 0) 0 44 refl refl)
    (in-more check_numbers record_check_numbers (check rows e a xs) refl (check-in rows e a xs))

-- without a table row 11 does not hold
pub frame-in : (ok : Bool) (ring : List ℕ) (head tail left journal scratch : ℕ) → is_in (frame (asking ok) ring head tail left journal scratch).stop stop_numbers ≡ true
unfolding stopped
frame-in ok ring head tail left journal scratch =
    rw (frame-rows (asking ok) ring head tail left journal scratch)
    (stopped-in stop_numbers (others (11 ∷ []) (stop_rows (asking ok) ring head tail left journal scratch)) (go_at (tail % length ring) (number_at 2 ring (tail % length ring + 6))) refl refl)

pub table-frame-in : (asked : Asked) (ring : List ℕ) (head tail left journal scratch : ℕ) → is_in (frame asked ring head tail left journal scratch).stop table_stop_numbers ≡ true
table-frame-in asked ring head tail left journal scratch =
    rw (frame-rows asked ring head tail left journal scratch)
    (stopped-in table_stop_numbers (stop_rows asked ring head tail left journal scratch) (go_at (tail % length ring) (number_at 2 ring (tail % length ring + 6))) refl refl)

-- ---- the writer and the copier of names

pub write-in : (rows : List Known) (e : ℕ) (a : Attributes) (src ws : List ℕ) (space : ℕ) → is_in (write_answer rows e a src ws space) write_numbers ≡ true
unfolding write_answer write_by layout unreadable
write-in rows e a src ws space =
    let k : Known = known rows e in
    let lay : Layout = layout k a in
    let t : ℕ = get_or ws 0 0 in
    let misc : ℕ = get_or ws 1 0 in
    let n1 : ℕ = cond (leb (length (write_record lay (meant lay src ws))) space) 0 40 in
    let n2 : ℕ = cond (writable lay src ws) n1 42 in
    let far : Bool = any_beyond src (schema t misc a) (slots_told (schema t misc a) (drop body_words ws) 0 0) in
    let n3 : ℕ = cond far 41 n2 in
    let n4 : ℕ = cond (flagged lay ws) 43 n3 in
    in-cond write_numbers (allowed rows e) (or_else (unreadable k a t misc) n4) 2
    (in-cond write_numbers (eqb (unreadable k a t misc) 0) n4 (unreadable k a t misc)
    (in-cond write_numbers (flagged lay ws) 43 n3 refl
    (in-cond write_numbers far 41 n2 refl
    (in-cond write_numbers (writable lay src ws) n1 42 (in-cond write_numbers (leb (length (write_record lay (meant lay src ws))) space) 0 40 refl refl) refl)))
    (first-in write_numbers (unknowns k t misc a) (first (clashes t a) 0) refl (first-in write_numbers (clashes t a) 0 refl refl)))
    refl

pub name_in : (xs : List ℕ) (place count : ℕ) (buffer : List ℕ) → is_in (name_answer xs place count buffer) name_numbers ≡ true
unfolding name_answer
name_in xs place count buffer =
    first-in name_numbers (refusal (ltb (length xs) (place + count)) 41 ∷ refusal (ltb (length buffer) (count + 1)) 12 ∷ []) 0 refl refl
