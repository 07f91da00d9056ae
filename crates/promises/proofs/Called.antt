-- The reader of one record as C calls it: demand 1 for what `ollskuvan_read_one` and `ollskuvan_read_one_events` tell and leave. `one_told`, `one_scratch` and
-- `one_words`, and with a table `one_events_told`, `one_events_scratch` and `one_events_words`, are the right sides of their contracts. C knows a stop by the
-- size: it is 0 then, and at least 8 of a record that was taken. What is promised stands once, for both, in `Called`. Words in quotation marks are 00's and 01's,
-- or those of include/ollskuvan.h. Assumes nothing.
use Rattle.std.specs.Prelude.{◌≡◌, Bool, true, false, leb, eqb, length, take, drop}
use Rattle.std.proofs.Math.Path.{refl, sym, ap, subst}
use Rattle.std.proofs.Common.{◌∙◌, ⊎_elim, eq-zero-or-pos, arith, leb-true, leb-false, eq-eqb, eqb-true}
use mathlib.Core.List.{List, [], ◌∷◌}
use Rattle.std.proofs.Math.Bool.{cond}
use Prim.Native.Nat.{ℕ, ◌+◌, ◌-◌, ◌%◌, ◌^◌, ◌<◌, ◌≤◌}
use Rattle.std.proofs.lemmas.Bool.{eqb-false}
use Rattle.meaning.specs.declared.Attributes.{Attributes}
use Rattle.meaning.specs.declared.Event.{Event}
use Rattle.meaning.specs.States.{Frame}
use Rattle.meaning.specs.Bytes.{number_at, small, put}
use Rattle.meaning.specs.Refusals.{or_else}
use Rattle.meaning.specs.Editions.{editions, allowed, known, is_in}
use Rattle.meaning.specs.Records.{layout, judge, check, flag_of, value, cleaned_record}
use Rattle.meaning.specs.Values.{record_words, meant}
use Rattle.meaning.specs.Ring.{Asked, asked_of, asking, stop_at, go_at, stopped, frame, record_at, whole, scratch_after, one_frame, not_taken, read_one, one_scratch}
use Rattle.meaning.specs.Events.{attributes_of, event_at, index_for, event_for, has_event, asked_events, layout_for, judge_events, inspected, unasked, read_events, read_events_words, one_events_frame, taken_events, read_one_events, one_events_scratch}
use Rattle.record.specs.Into.{read_into_answer, read_into_words}
use Rattle.writer.specs.Writer.{write_words_answer, write_words_buffer}
use Rattle.one.specs.declared.OneTold.{OneTold}
use Rattle.one.specs.Told.{told_stop, told_taken, one_told, one_words}
use Rattle.event_laws.specs.Told.{read_event_answer, read_event_words}
use Rattle.event_one.specs.Told.{with_inspected, one_events_told, one_events_words}
use Rattle.laws.specs.Rows.{in-more, in-cond, others, passed, stopped-in}
use Rattle.laws.specs.Rings.{stop_rows, frame-rows, frame-stop, record-whole, scratch-length, Going}
use Rattle.laws.proofs.Refused.{going-sound}
use Rattle.laws.specs.Inspected.{asked-own}
use Rattle.runs.specs.Cutting.{framed}
use Rattle.runs.proofs.Forward.{frame-going, going-framed}
use Rattle.runs.specs.Scratches.{scratch-whole, scratch-crosses, put_holds}
use Rattle.editions.specs.Numbers.{record_numbers, event_numbers}
use Rattle.editions.proofs.InTable.{judge-in}
use Rattle.editions.proofs.OneRecord.{check-framed}
use Rattle.editions.proofs.Stops.{one-frame}
use Rattle.editions.proofs.EventRecord.{event-in}
use Rattle.promises.proofs.Lent.{lent-refused, lent-accepted}
use Rattle.promises.proofs.Exported.{read-accepted, read-accepts, read-means, writes_again}
use Rattle.promises.proofs.Inspected.{told-found, same_number, told-most, read-26, words-unchanged}
use Rattle.promises.proofs.EventReads.{framed-asked, read_alike, read-events-means, read-events-rest}

-- the slice that holds the record, the scratch where in_scratch says so and else the ring; its part begins at place and has size bytes
abbrev pub holder : List ℕ → List ℕ → OneTold → List ℕ
holder ring scratch t = cond (eqb t.in_scratch 0) ring scratch

abbrev pub part : List ℕ → List ℕ → OneTold → List ℕ
part ring scratch t = take t.size (drop t.place (holder ring scratch t))

-- ---- what is promised, whatever the rows ask beside the ring
module _ (asked : Asked) (ring : List ℕ) (head tail : ℕ) (scratch : List ℕ) where
  -- the next record, or why there is none: a budget of one, and room for one entry
  abbrev next : Frame
  next = frame asked ring head tail 1 16 (length scratch)

  -- so many bytes from the tail on, going round at the ring's end
  abbrev at_tail : ℕ → List ℕ
  at_tail size = record_at ring (tail % length ring) size

  -- what is told, and what scratch and words hold then
  pub record Called (words : List ℕ) (t : OneTold) (scratch-then words_then : List ℕ) : Type 0 where
    -- "A stop: stop is its number; place, size, in_scratch and answer are 0, tail is the given one, scratch and words are unchanged"
    pub stop-tells : t.size ≡ 0 → (next ≡ stop_at t.stop) × (t.tail ≡ tail) × (t.place ≡ 0) × (t.in_scratch ≡ 0) × (t.answer ≡ 0) × (t.inspected ≡ 0)
    pub stop-leaves : t.size ≡ 0 → (scratch-then ≡ scratch) × (words_then ≡ words)
    -- "Taken (size is not 0): stop is 0, the tail moves by size", whatever the answer is: "a record refused for its body is passed over"
    pub taken-tells : 0 < t.size → (next ≡ go_at (tail % length ring) t.size) × (t.stop ≡ 0) × (t.tail ≡ (tail + t.size) % 2 ^ 64) × (8 ≤ t.size)
    -- "the record shown is either a part of the ring or a part of the scratch": what is told lies inside that slice, and is the record
    pub within : t.place + t.size ≤ length (holder ring scratch-then t)
    pub shows : part ring scratch-then t ≡ at_tail t.size
    -- "After a copy the scratch begins with the record and its other bytes are unchanged; that holds too if the body is then refused"
    pub copied : (t.in_scratch ≡ 0 → ⊥)
        → (t.in_scratch ≡ 1) × (t.place ≡ 0) × (take t.size scratch-then ≡ at_tail t.size) × (drop t.size scratch-then ≡ drop t.size scratch)
        × (length ring < tail % length ring + t.size)
    -- "In all other cases the scratch is unchanged"; the record then lies in the ring at its place
    pub kept : t.in_scratch ≡ 0 → (scratch-then ≡ scratch) × (0 < t.size → (t.place ≡ tail % length ring) × (tail % length ring + t.size ≤ length ring))
    -- "Refused, 40 too: the words are unchanged"; "further words are unchanged"
    pub refused : (t.answer ≡ 0 → ⊥) → words_then ≡ words
    pub words-rest : drop 56 words_then ≡ drop 56 words

  called-stop : (words : List ℕ) → next.go ≡ false → Called words (told_stop next tail) scratch words
  unfolding record_at
  called-stop words g =
      record {
        stop-tells = λ z. (frame-stop asked ring head tail 1 16 (length scratch) g, refl, refl, refl, refl, refl);
        stop-leaves = λ z. (refl, refl);
        taken-tells = λ h. absurd (omega (arith, h));
        within = omega arith;
        shows = refl;
        copied = λ n. absurd (n refl);
        kept = λ z. (refl, λ h. absurd (omega (arith, h)));
        refused = λ n. refl;
        words-rest = refl;
      }

  -- what is told of a record that was taken, by whether it lies whole
  abbrev told_by : Bool → ℕ → ℕ → OneTold
  told_by c answer seen =
      record {
        place = cond c next.place 0;
        size = next.size;
        tail = (tail + next.size) % 2 ^ 64;
        in_scratch = cond c 0 1;
        stop = 0;
        answer = answer;
        inspected = seen;
      }

  called-taken : (words : List ℕ) (answer seen : ℕ) (words_then : List ℕ) → next.go ≡ true → ((answer ≡ 0 → ⊥) → words_then ≡ words) → drop 56 words_then ≡ drop 56 words
      → Called words (with_inspected (told_taken ring next tail answer) seen) (scratch_after ring next.place next.size scratch) words_then
  called-taken words answer seen words_then g same rest = by (whole ring next.place next.size) refl
    where
      w : Going asked ring head tail 1 16 (length scratch) next
      w = frame-going asked ring head tail 1 16 (length scratch) g

      there : next ≡ go_at (tail % length ring) next.size
      there =
          let p = (passed (stop_rows asked ring head tail 1 16 (length scratch)) _ next g (frame-rows asked ring head tail 1 16 (length scratch))).1 in
          p ∙ ap (go_at (tail % length ring)) (sym (ap (λ (f : Frame). f.size) p))

      bytes : record_at ring next.place next.size ≡ at_tail next.size
      bytes = ap (λ (k : ℕ). record_at ring k next.size) w.at

      by : (c : Bool) → whole ring next.place next.size ≡ c → Called words (told_by c answer seen) (scratch_after ring next.place next.size scratch) words_then
      by true c =
          let s = scratch-whole ring next.place next.size scratch c in
          let l = leb-true (next.place + next.size) (length ring) c in
          record {
            stop-tells = λ z. absurd (omega (arith, z, w.size_low));
            stop-leaves = λ z. absurd (omega (arith, z, w.size_low));
            taken-tells = λ h. (there, refl, refl, w.size_low);
            within = l;
            shows = sym (record-whole ring next.place next.size l) ∙ bytes;
            copied = λ n. absurd (n refl);
            kept = λ z. (s, λ h. (w.at, subst (λ (k : ℕ). k + next.size ≤ length ring) w.at l));
            refused = same;
            words-rest = rest;
          }
      by false c =
          let m = w.fits (leb-false (next.place + next.size) (length ring) c) in
          let s = scratch-crosses ring next.place next.size scratch (omega (arith, w.inside)) (omega (arith, w.size-near, w.near)) c in
          let l = (going-framed asked ring head tail 1 16 (length scratch) next w).0 in
          let p = put_holds scratch (record_at ring next.place next.size) next.size l m in
          let t : take next.size (scratch_after ring next.place next.size scratch) ≡ at_tail next.size = ap (take next.size) s ∙ p.0 ∙ bytes in
          record {
            stop-tells = λ z. absurd (omega (arith, z, w.size_low));
            stop-leaves = λ z. absurd (omega (arith, z, w.size_low));
            taken-tells = λ h. (there, refl, refl, w.size_low);
            within = omega (arith, m, scratch-length ring next.place next.size scratch);
            shows = t;
            copied = λ n. (refl, refl, t, ap (drop next.size) s ∙ p.1, subst (λ (k : ℕ). length ring < k + next.size) w.at (leb-false (next.place + next.size) (length ring) c));
            kept = λ z. absurd (omega (arith, z));
            refused = same;
            words-rest = rest;
          }

  -- ---- what follows for everything that is told so
  module _ (words : List ℕ) (t : OneTold) (scratch-then words_then : List ℕ) (c : Called words t scratch-then words_then) where
    -- a size above 0: the frame goes on, and the bytes at its place are the record shown
    pub called-goes : 0 < t.size → next.go ≡ true
    called-goes h = ap (λ (f : Frame). f.go) (c.taken-tells h).0

    pub called-bytes : 0 < t.size → record_at ring next.place next.size ≡ part ring scratch-then t
    called-bytes h = ap (λ (f : Frame). record_at ring f.place f.size) (c.taken-tells h).0 ∙ sym c.shows

    -- the stop told is the frame's, or 0
    pub called_stops : (ns : List ℕ) → is_in 0 ns ≡ true → is_in next.stop ns ≡ true → is_in t.stop ns ≡ true
    called_stops ns z i =
        ⊎_elim
        (λ (h : t.size ≡ 0). subst (λ (f : Frame). is_in f.stop ns ≡ true) (c.stop-tells h).0 i)
        (λ (h : 0 < t.size). subst (λ (n : ℕ). is_in n ns ≡ true) (sym (c.taken-tells h).1) z)
        (eq-zero-or-pos t.size)

-- ---- "1, 2, 4, 5, 0, 6, 7, 3 (8 and 9 are the drain's)", and with a table 11

abbrev pub one_stop_numbers : List ℕ
one_stop_numbers = 1 ∷ 2 ∷ 4 ∷ 5 ∷ 0 ∷ 6 ∷ 7 ∷ 3 ∷ []

abbrev pub table_one_stop_numbers : List ℕ
table_one_stop_numbers = 1 ∷ 2 ∷ 4 ∷ 5 ∷ 11 ∷ 0 ∷ 6 ∷ 7 ∷ 3 ∷ []

pub one-frame-stops : (ok : Bool) (ring : List ℕ) (head tail scratch : ℕ) → is_in (frame (asking ok) ring head tail 1 16 scratch).stop one_stop_numbers ≡ true
unfolding stopped
one-frame-stops ok ring head tail scratch =
    rw (frame-rows (asking ok) ring head tail 1 16 scratch)
    (stopped-in one_stop_numbers (others (8 ∷ 9 ∷ 11 ∷ []) (stop_rows (asking ok) ring head tail 1 16 scratch)) (go_at (tail % length ring) (number_at 2 ring (tail % length ring + 6))) refl refl)

pub table-one-frame-stops : (asked : Asked) (ring : List ℕ) (head tail scratch : ℕ) → is_in (frame asked ring head tail 1 16 scratch).stop table_one_stop_numbers ≡ true
unfolding stopped
table-one-frame-stops asked ring head tail scratch =
    rw (frame-rows asked ring head tail 1 16 scratch)
    (stopped-in table_one_stop_numbers (others (8 ∷ 9 ∷ []) (stop_rows asked ring head tail 1 16 scratch)) (go_at (tail % length ring) (number_at 2 ring (tail % length ring + 6))) refl refl)

-- the same of the definitions that have no C in them: `read_one` and `read_one_events`
pub one-stops : (e : ℕ) (a : Attributes) (ring : List ℕ) (head tail : ℕ) (scratch : List ℕ) → is_in (read_one editions e a ring head tail scratch).frame.stop one_stop_numbers ≡ true
one-stops e a ring head tail scratch =
    subst (λ (f : Frame). is_in f.stop one_stop_numbers ≡ true) (sym (one-frame editions e a ring head tail scratch)) (one-frame-stops (allowed editions e) ring head tail (length scratch))

pub one-events-stops : (limit e : ℕ) (es : List Event) (ring : List ℕ) (head tail : ℕ) (scratch : List ℕ)
    → is_in (read_one_events limit editions e es ring head tail scratch).frame.stop table_one_stop_numbers ≡ true
unfolding read_one_events taken_events not_taken
one-events-stops limit e es ring head tail scratch = by (one_events_frame limit editions e es ring head tail scratch).go
  where
    f : Frame
    f = one_events_frame limit editions e es ring head tail scratch

    by : (b : Bool) → is_in (cond b (taken_events (known editions e) es f (record_at ring f.place f.size) tail) (not_taken f tail)).frame.stop table_one_stop_numbers ≡ true
    by true = table-one-frame-stops (asked_events limit editions e es) ring head tail (length scratch)
    by false = table-one-frame-stops (asked_events limit editions e es) ring head tail (length scratch)

-- ---- what demand 2 says of a record that was read: its words, with the record as their source, are written as its bytes but for those that are ignored, the rest
-- of the buffer unchanged
abbrev pub WrittenAgain : ℕ → Attributes → List ℕ → List ℕ → List ℕ → Type 0
WrittenAgain e a xs ws buffer =
    (write_words_answer e a xs ws (length buffer) ≡ 0)
    × (take (length xs) (write_words_buffer e a xs ws buffer) ≡ cleaned_record (layout (known editions e) a) xs)
    × (drop (length xs) (write_words_buffer e a xs ws buffer) ≡ drop (length xs) buffer)
    × (length (cleaned_record (layout (known editions e) a) xs) ≡ length xs)

-- ---- with one attribute set

-- of a record's bytes: further words are unchanged
lent-rest : (e : ℕ) (a : Attributes) (xs words : List ℕ) → drop 56 (read_into_words editions e a xs words) ≡ drop 56 words
lent-rest e a xs words = by (eqb (read_into_answer editions e a xs words) 0) refl
  where
    by : (b : Bool) → eqb (read_into_answer editions e a xs words) 0 ≡ b → drop 56 (read_into_words editions e a xs words) ≡ drop 56 words
    by true z = (lent-accepted e a xs words (eqb-true (read_into_answer editions e a xs words) 0 z)).2
    by false n = ap (drop 56) (lent-refused e a xs words (eqb-false (read_into_answer editions e a xs words) 0 n))

module _ (e : ℕ) (a : Attributes) (ring : List ℕ) (head tail : ℕ) (scratch words : List ℕ) where
  abbrev told : OneTold
  told = one_told editions e a ring head tail scratch words

  abbrev scratch-then : List ℕ
  scratch-then = one_scratch editions e ring head tail scratch

  abbrev words_then : List ℕ
  words_then = one_words editions e a ring head tail scratch words

  abbrev record_told : List ℕ
  record_told = part ring scratch-then told

  pub one-called : Called (asked_of editions e) ring head tail scratch words told scratch-then words_then
  unfolding one_told one_scratch one_words
  one-called = by (one_frame editions e ring head tail scratch).go refl
    where
      f : Frame
      f = one_frame editions e ring head tail scratch

      by : (b : Bool) → f.go ≡ b
          → Called (asked_of editions e) ring head tail scratch words (cond b (told_taken ring f tail (read_into_answer editions e a (record_at ring f.place f.size) words)) (told_stop f tail))
          (cond b (scratch_after ring f.place f.size scratch) scratch) (cond b (read_into_words editions e a (record_at ring f.place f.size) words) words)
      by true g =
          let xs : List ℕ = record_at ring f.place f.size in
          called-taken (asked_of editions e) ring head tail scratch words (read_into_answer editions e a xs words) 0 (read_into_words editions e a xs words) g (lent-refused e a xs words) (lent-rest e a xs words)
      by false g = called-stop (asked_of editions e) ring head tail scratch words g

  pub told-stops : is_in told.stop one_stop_numbers ≡ true
  told-stops = called_stops (asked_of editions e) ring head tail scratch words told scratch-then words_then one-called one_stop_numbers refl (one-frame-stops (allowed editions e) ring head tail (length scratch))

  -- a record that was taken: answer and words are those of `ollskuvan_read` for the record shown
  pub told-reads : 0 < told.size
      → (told.answer ≡ read_into_answer editions e a record_told words) × (words_then ≡ read_into_words editions e a record_told words) × (told.inspected ≡ 0)
  unfolding one_told one_words
  told-reads h =
      let f : Frame = one_frame editions e ring head tail scratch in
      let g = called-goes (asked_of editions e) ring head tail scratch words told scratch-then words_then one-called h in
      let q = called-bytes (asked_of editions e) ring head tail scratch words told scratch-then words_then one-called h in
      let t : told ≡ told_taken ring f tail (read_into_answer editions e a (record_at ring f.place f.size) words) = rw g refl in
      let w : words_then ≡ read_into_words editions e a (record_at ring f.place f.size) words = rw g refl in (
        ap (λ (x : OneTold). x.answer) t ∙ ap (λ (xs : List ℕ). read_into_answer editions e a xs words) q,
        w ∙ ap (λ (xs : List ℕ). read_into_words editions e a xs words) q,
        ap (λ (x : OneTold). x.inspected) t,
      )

  -- "from 20 on": the judge's answer for the record shown, then 40; 2, 6 and 7 are stops
  pub told-answers : 0 < told.size → told.answer ≡ or_else (judge (layout (known editions e) a) record_told) (cond (leb 56 (length words)) 0 40)
  unfolding read_into_answer
  told-answers h =
      let w = frame-going (asked_of editions e) ring head tail 1 16 (length scratch) (called-goes (asked_of editions e) ring head tail scratch words told scratch-then words_then one-called h) in
      let f = (going-framed (asked_of editions e) ring head tail 1 16 (length scratch) (one_frame editions e ring head tail scratch) w).1 in
      let s = subst (λ (xs : List ℕ). framed xs ≡ true) (called-bytes (asked_of editions e) ring head tail scratch words told scratch-then words_then one-called h) f in
      (told-reads h).0 ∙ ap (λ (n : ℕ). or_else n (cond (leb 56 (length words)) 0 40)) (check-framed editions e w.edition a record_told s)

  pub told-numbers : is_in told.answer (40 ∷ record_numbers) ≡ true
  told-numbers =
      ⊎_elim
      (λ (h : told.size ≡ 0). subst (λ (n : ℕ). is_in n (40 ∷ record_numbers) ≡ true) (sym (one-called.stop-tells h).4) refl)
      (λ (h : 0 < told.size). subst (λ (n : ℕ). is_in n (40 ∷ record_numbers) ≡ true) (sym (told-answers h))
      (in-cond (40 ∷ record_numbers) (eqb (judge (layout (known editions e) a) record_told) 0) (cond (leb 56 (length words)) 0 40) (judge (layout (known editions e) a) record_told)
      (in-cond (40 ∷ record_numbers) (leb 56 (length words)) 0 40 refl refl)
      (in-more record_numbers (40 ∷ record_numbers) (judge (layout (known editions e) a) record_told) refl (judge-in (known editions e) a record_told))))
      (eq-zero-or-pos told.size)

  -- "and to that meaning": an answer of 0 of a record that was taken. Record check accepts the part shown, and the first 56 words mean its value
  pub told-means : 0 < told.size → told.answer ≡ 0
      → (check editions e a record_told ≡ 0) × (meant (layout (known editions e) a) record_told (take 56 words_then) ≡ value (layout (known editions e) a) record_told)
  told-means h z =
      let r = told-reads h in
      let q = sym r.0 ∙ z in
      ((read-accepted e a record_told words q).0, ap (λ (ws : List ℕ). meant (layout (known editions e) a) record_told (take 56 ws)) r.1 ∙ read-means e a record_told words q)

  -- demand 2 from here on: what was accepted, given to `ollskuvan_write` with the part shown as its source, and with room, is written as the same bytes
  -- "except those that 01 lists as ignored"
  pub told-writes-again : (buffer : List ℕ) → small record_told ≡ true → 0 < told.size → told.answer ≡ 0 → flag_of (layout (known editions e) a) record_told ≡ 0
      → length record_told ≤ length buffer → WrittenAgain e a record_told words_then buffer
  told-writes-again buffer s h z n room =
      let r = told-reads h in
      subst (λ (ws : List ℕ). WrittenAgain e a record_told ws buffer) (sym r.1) (writes_again e a record_told words buffer s (sym r.0 ∙ z) n room)

-- ---- with a table of events
module _ (limit e : ℕ) (es : List Event) (ring : List ℕ) (head tail : ℕ) (scratch words : List ℕ) where
  abbrev event_told : OneTold
  event_told = one_events_told limit editions e es ring head tail scratch words

  abbrev event_scratch : List ℕ
  event_scratch = one_events_scratch limit editions e es ring head tail scratch

  abbrev event_words : List ℕ
  event_words = one_events_words limit editions e es ring head tail scratch words

  abbrev event_record : List ℕ
  event_record = part ring event_scratch event_told

  abbrev event_next : Frame
  event_next = one_events_frame limit editions e es ring head tail scratch

  -- a record that is taken is looked at
  taken-asked : event_next.go ≡ true → unasked limit editions e es (record_at ring event_next.place event_next.size) ≡ 0
  taken-asked g =
      let w = frame-going (asked_events limit editions e es) ring head tail 1 16 (length scratch) g in
      framed-asked limit editions e es (record_at ring event_next.place event_next.size) w.edition
      (going-sound (asked_events limit editions e es) ring head tail 1 16 (length scratch) g)
      (going-framed (asked_events limit editions e es) ring head tail 1 16 (length scratch) event_next w).1

  pub one-events-called : Called (asked_events limit editions e es) ring head tail scratch words event_told event_scratch event_words
  unfolding one_events_told one_events_scratch one_events_words
  one-events-called = by event_next.go refl
    where
      xs : List ℕ
      xs = record_at ring event_next.place event_next.size

      by : (b : Bool) → event_next.go ≡ b
          → Called (asked_events limit editions e es) ring head tail scratch words
          (cond b (with_inspected (told_taken ring event_next tail (read_event_answer editions e es xs words)) (inspected (known editions e) es xs)) (told_stop event_next tail))
          (cond b (scratch_after ring event_next.place event_next.size scratch) scratch) (cond b (read_event_words editions e es xs words) words)
      by true g =
          let r = read_alike limit editions e es xs (taken-asked g) words in
          called-taken (asked_events limit editions e es) ring head tail scratch words (read_event_answer editions e es xs words) (inspected (known editions e) es xs) (read_event_words editions e es xs words) g
          (λ n. r.2 ∙ words-unchanged limit editions e es xs words (λ z. n (r.0 ∙ z)))
          (ap (drop 56) r.2 ∙ read-events-rest limit e es xs words)
      by false g = called-stop (asked_events limit editions e es) ring head tail scratch words g

  event-goes : 0 < event_told.size → event_next.go ≡ true
  event-goes = called-goes (asked_events limit editions e es) ring head tail scratch words event_told event_scratch event_words one-events-called

  event-bytes : 0 < event_told.size → record_at ring event_next.place event_next.size ≡ event_record
  event-bytes = called-bytes (asked_events limit editions e es) ring head tail scratch words event_told event_scratch event_words one-events-called

  pub event-told-stops : is_in event_told.stop table_one_stop_numbers ≡ true
  event-told-stops =
      called_stops (asked_events limit editions e es) ring head tail scratch words event_told event_scratch event_words one-events-called table_one_stop_numbers refl
      (table-one-frame-stops (asked_events limit editions e es) ring head tail (length scratch))

  -- a record that was taken: answer, number inspected and words are those of `ollskuvan_read_events` for the record shown. Of a stop the number is 0: `stop-tells`
  pub event-told-reads : 0 < event_told.size
      → (event_told.answer ≡ (read_events limit editions e es event_record words).answer)
      × (event_told.inspected ≡ (read_events limit editions e es event_record words).inspected)
      × (event_words ≡ read_events_words limit editions e es event_record words)
  unfolding one_events_told one_events_words
  event-told-reads h =
      let g = event-goes h in
      let xs : List ℕ = record_at ring event_next.place event_next.size in
      let q : xs ≡ event_record = event-bytes h in
      let r = read_alike limit editions e es xs (taken-asked g) words in
      let t : event_told ≡ with_inspected (told_taken ring event_next tail (read_event_answer editions e es xs words)) (inspected (known editions e) es xs) = rw g refl in
      let w : event_words ≡ read_event_words editions e es xs words = rw g refl in (
        ap (λ (x : OneTold). x.answer) t ∙ r.0 ∙ ap (λ (ys : List ℕ). (read_events limit editions e es ys words).answer) q,
        ap (λ (x : OneTold). x.inspected) t ∙ r.1 ∙ ap (λ (ys : List ℕ). (read_events limit editions e es ys words).inspected) q,
        w ∙ r.2 ∙ ap (λ (ys : List ℕ). read_events_words limit editions e es ys words) q,
      )

  -- "answer is that of ollskuvan_drain_events, then 40"
  pub event-told-answers : 0 < event_told.size → event_told.answer ≡ or_else (judge_events (known editions e) es event_record) (cond (leb 56 (length words)) 0 40)
  unfolding read_events
  event-told-answers h =
      let u = subst (λ (xs : List ℕ). unasked limit editions e es xs ≡ 0) (event-bytes h) (taken-asked (event-goes h)) in
      (event-told-reads h).0 ∙ ap (λ (n : ℕ). or_else n (cond (leb 56 (length words)) 0 40)) (asked-own limit editions e es event_record u).0

  pub event-told-numbers : is_in event_told.answer (40 ∷ event_numbers) ≡ true
  event-told-numbers =
      ⊎_elim
      (λ (h : event_told.size ≡ 0). subst (λ (n : ℕ). is_in n (40 ∷ event_numbers) ≡ true) (sym (one-events-called.stop-tells h).4) refl)
      (λ (h : 0 < event_told.size). subst (λ (n : ℕ). is_in n (40 ∷ event_numbers) ≡ true) (sym (event-told-answers h))
      (in-cond (40 ∷ event_numbers) (eqb (judge_events (known editions e) es event_record) 0) (cond (leb 56 (length words)) 0 40) (judge_events (known editions e) es event_record)
      (in-cond (40 ∷ event_numbers) (leb 56 (length words)) 0 40 refl refl)
      (in-more event_numbers (40 ∷ event_numbers) (judge_events (known editions e) es event_record) refl (event-in (known editions e) es event_record))))
      (eq-zero-or-pos event_told.size)

  -- "and to that meaning": the record has an event, record check accepts it under that event's attributes, and the first 56 words mean its value under them;
  -- "So the event of an accepted record is events[one.inspected - 1]"
  pub event-told-means : 0 < event_told.size → event_told.answer ≡ 0
      → (has_event es event_record ≡ true)
      × (check editions e (attributes_of (event_for es event_record)) event_record ≡ 0)
      × (meant (layout_for (known editions e) es event_record) event_record (take 56 event_words) ≡ value (layout_for (known editions e) es event_record) event_record)
      × (event_at es (event_told.inspected - 1) ≡ event_for es event_record)
  event-told-means h z =
      let r = event-told-reads h in
      let w = read-events-means limit e es event_record words (sym r.0 ∙ z) in
      let u = subst (λ (xs : List ℕ). unasked limit editions e es xs ≡ 0) (event-bytes h) (taken-asked (event-goes h)) in
      let n : event_told.inspected ≡ index_for es event_record + 1 = r.1 ∙ same_number limit editions e es event_record words ∙ told-found limit editions e es event_record u w.has in
      let i : event_told.inspected - 1 ≡ index_for es event_record = omega (arith, n) in (
        w.event,
        w.checked,
        ap (λ (ws : List ℕ). meant (layout_for (known editions e) es event_record) event_record (take 56 ws)) r.2 ∙ w.means,
        ap (event_at es) i,
      )

  -- demand 2 from here on, under the attributes of the record's event
  pub event-told-writes-again : (buffer : List ℕ) → small event_record ≡ true → 0 < event_told.size → event_told.answer ≡ 0
      → flag_of (layout_for (known editions e) es event_record) event_record ≡ 0 → length event_record ≤ length buffer
      → WrittenAgain e (attributes_of (event_for es event_record)) event_record event_words buffer
  unfolding read_into_words read_events_words
  event-told-writes-again buffer s h z n room =
      let r = event-told-reads h in
      let a : Attributes = attributes_of (event_for es event_record) in
      let y = sym r.0 ∙ z in
      let w = read-events-means limit e es event_record words y in
      let x = read-accepts e a event_record words w.checked w.long in
      let ws : List ℕ = put words 0 (record_words (layout (known editions e) a) event_record) in
      let p : read_into_words editions e a event_record words ≡ ws = ap (λ (b : Bool). cond b ws words) (eq-eqb (read_into_answer editions e a event_record words) 0 x) in
      let q : read_events_words limit editions e es event_record words ≡ ws = ap (λ (b : Bool). cond b ws words) (eq-eqb (read_events limit editions e es event_record words).answer 0 y) in
      subst (λ (v : List ℕ). WrittenAgain e a event_record v buffer) (p ∙ sym q ∙ sym r.2) (writes_again e a event_record words buffer s x n room)

  -- "event_count for 26"; and never more
  pub event-told-26 : event_told.answer ≡ 26 → event_told.inspected ≡ length es
  event-told-26 z =
      ⊎_elim
      (λ (h : event_told.size ≡ 0). absurd (omega (arith, (one-events-called.stop-tells h).4, z)))
      (λ (h : 0 < event_told.size). let r = event-told-reads h in r.1 ∙ read-26 limit editions e es event_record words (sym r.0 ∙ z))
      (eq-zero-or-pos event_told.size)

  pub event-told-most : event_told.inspected ≤ length es
  event-told-most =
      ⊎_elim
      (λ (h : event_told.size ≡ 0). omega (arith, (one-events-called.stop-tells h).5))
      (λ (h : 0 < event_told.size). let r = event-told-reads h in
      omega (arith, r.1, same_number limit editions e es event_record words, told-most limit editions e es event_record))
      (eq-zero-or-pos event_told.size)
